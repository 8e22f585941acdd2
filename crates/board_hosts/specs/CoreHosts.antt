-- One host for each core that has threads.
use Rattle.std.specs.Prelude.{ℕ, zero, suc, ◌≡◌, ◌+◌, ◌≤◌, ◌==◌, Bool, true, false, not, ◌&&◌, cond, Option, Some, MatchOption, List, [], ◌∷◌, ◌++◌, length, map, get_or, slice_get}
use Rattle.forec_kernel.specs.Combining.{contains}
use Rattle.thread_code.specs.declared.instruction.CodeParts.{CodeParts}
use Rattle.core_alloc.specs.Places.{Places}
use Rattle.core_bells.specs.Ropes.{RopeState, new_rope}
use Rattle.tick_jobs.specs.Ticks.{RanNone}
use Rattle.core_host.specs.Hosted.{Hosted, is_here}
use Rattle.core_host.specs.Runs.{ticking}

-- the core of thread 0
abbrev pub root_core : List ℕ → ℕ
root_core places = get_or places 0 0

-- the core has threads, and thread 0 isn't one of them
abbrev pub is_other : List ℕ → ℕ → Bool
is_other places core = not (core == root_core places) && contains core places

-- of the first so many cores those with threads but not with thread 0, in order
abbrev pub other_cores : List ℕ → ℕ → List ℕ
other_cores places zero = []
other_cores places (suc n) = other_cores places n ++ cond (is_other places n) (n ∷ []) []

-- the host of a core's threads, with the core's new rope, before the first tick
pub record IsLoadedHost (c : CodeParts) (placement : Places) (core : ℕ) (h : Hosted) : Type 0 where
  pub code : h.code ≡ c
  pub places : h.places ≡ placement.places
  pub cores : h.cores ≡ core ∷ []
  pub rope : h.rope ≡ Some (new_rope c placement core)
  pub none : is_here h 0 ≡ true → RanNone (ticking h)

-- the ropes of the cores from this one on
abbrev pub AreNewRopes : CodeParts → Places → ℕ → List RopeState → Type 0
AreNewRopes code placement core ropes = (core + length ropes ≡ placement.cores) × ((i : ℕ) (r : RopeState) → slice_get ropes i ≡ Some r → r ≡ new_rope code placement (core + i))

-- the host of the core of thread 0, with the core's new rope, before the first tick
pub record IsRoot (c : CodeParts) (placement : Places) (h : Hosted) : Type 0 where
  pub code : h.code ≡ c
  pub places : h.places ≡ placement.places
  pub cores : h.cores ≡ root_core placement.places ∷ []
  pub rope : h.rope ≡ Some (new_rope c placement (root_core placement.places))
  pub here : is_here h 0 ≡ true
  pub none : RanNone (ticking h)

-- the host of a core without thread 0, with the core's new rope
pub record IsOther (c : CodeParts) (placement : Places) (h : Hosted) : Type 0 where
  pub code : h.code ≡ c
  pub places : h.places ≡ placement.places
  pub core : ℕ
  pub cores : h.cores ≡ core ∷ []
  pub rope : h.rope ≡ Some (new_rope c placement core)
  pub lacks : is_here h 0 ≡ false

-- Of the first n cores each that has threads has a host. That of thread 0's core stands apart from the others.
pub record AreMade (c : CodeParts) (placement : Places) (n : ℕ) (first : Option Hosted) (made : List Hosted) : Type 0 where
  pub root : MatchOption first (n ≤ root_core placement.places) (λ h. IsLoadedHost c placement (root_core placement.places) h)
  pub others : (i : ℕ) (h : Hosted) → slice_get made i ≡ Some h → IsOther c placement h
  pub cores : map (λ h. h.cores) made ≡ map (λ core. core ∷ []) (other_cores placement.places n)

-- to the hosts of the first n cores that of the next one was added, if it has threads
abbrev pub MakesNext : CodeParts → Places → ℕ → Option Hosted → Option Hosted → List Hosted → List Hosted → Type 0
MakesNext c placement n first_old first_new made_old made_new = AreMade c placement n first_old made_old → AreMade c placement (n + 1) first_new made_new
