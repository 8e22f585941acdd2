-- How many forks one job comes to, and how a run leaves the thread.
use Rattle.std.proofs.Common.{◌≡◌, ℕ, zero, suc, ◌+◌, ◌*◌, ◌<◌, ◌≤◌, ◌^◌, List, map, refl, subst, arith}
use Rattle.forec_kernel.specs.Engine.{Exchange}
use Rattle.thread_code.specs.declared.instruction.CodeParts.{CodeParts}
use Rattle.thread_code.specs.Plain.{PlainCode, plain_code}
use Rattle.core_machine.specs.declared.thread.Thread.{Thread}
use Rattle.core_machine.specs.declared.thread.Event.{Event}
use Rattle.core_machine.specs.declared.thread.Event.TheVariants as event
use Rattle.core_machine.specs.Threads.{Loaded, StandsFor, HasSettled, HasReply, LeftByEvent}
use Rattle.core_machine.specs.Forks.{jobs_at}

pub times_grow : (m u v : ℕ) → u ≤ v → m * u ≤ m * v
times_grow zero u v le = omega arith
times_grow (suc m) u v le = let ih = times_grow m u v le in omega (arith, ih, le)

times_grow_left : (m k u : ℕ) → m ≤ k → m * u ≤ k * u
times_grow_left m k zero le = omega arith
times_grow_left zero k (suc u) le = omega arith
times_grow_left (suc m) zero (suc u) le = absurd (omega arith)
times_grow_left (suc m) (suc k) (suc u) le = let ih = times_grow_left m k (suc u) (omega (arith, le)) in omega (arith, ih)

pub fits_forks : (n l a : ℕ) → n + 1 ≤ (l + 2) * a + (l + 1) → l < 2 ^ 32 → a ≤ 2 ^ 62 → n + 1 < 2 ^ 128
fits_forks n l a h small low =
    let one = times_grow (l + 2) a (2 ^ 62) low in
    let two = times_grow_left (l + 2) (2 ^ 32 + 2) (2 ^ 62) (omega (arith, small)) in
    omega (arith, h, one, two, small)

pub replied_by : (h : Thread) (e : Event) → LeftByEvent h e → (e ≡ event.Fork → ⊥) → HasReply h
replied_by h event.Fork left n = absurd (n refl)
replied_by h event.Paused left n = left.0
replied_by h event.Ended left n = left
replied_by h (event.Trapped place trap) left n = left
replied_by h event.Over left n = left

-- what a run that comes to a fork leaves
pub record ComesToFork (c : PlainCode) (h h1 : Thread) : Type 0 where
  pub loaded : Loaded c h1
  pub number : h1.number ≡ h.number
  pub stands : (xs : List Exchange) → StandsFor c h xs → StandsFor c h1 xs
  pub settled : HasSettled h1 0
  pub branches : h1.branches.numbers ≡ map (λ w. w.branch) (jobs_at c h1)

pub came_to_fork : {a b : CodeParts} → a ≡ b → (h h1 : Thread) (e : Event) → e ≡ event.Fork → Loaded (plain_code a) h1 → h1.number ≡ h.number → ((xs : List Exchange) → StandsFor (plain_code a) h xs → StandsFor (plain_code a) h1 xs) →
    LeftByEvent h1 e → (e ≡ event.Fork → h1.branches.numbers ≡ map (λ w. w.branch) (jobs_at (plain_code a) h1)) → ComesToFork (plain_code b) h h1
came_to_fork same h h1 e is loaded number stands left branches =
    subst (λ (x : CodeParts). ComesToFork (plain_code x) h h1) same (record { loaded = loaded; number = number; stands = stands; settled = subst (λ i. LeftByEvent h1 i) is left; branches = branches is })

-- a thread that runs on stands for the same
pub stands_by : {a b : CodeParts} → a ≡ b → (h h1 : Thread) → ((xs : List Exchange) → StandsFor (plain_code a) h xs → StandsFor (plain_code a) h1 xs) → (xs : List Exchange) → StandsFor (plain_code b) h xs → StandsFor (plain_code b) h1 xs
stands_by same h h1 stands = subst (λ (x : CodeParts). (xs : List Exchange) → StandsFor (plain_code x) h xs → StandsFor (plain_code x) h1 xs) same stands
