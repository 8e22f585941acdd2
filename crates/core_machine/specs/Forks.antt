-- What a thread at a fork asks of its branches, and what it makes of their replies.
use Rattle.std.specs.Prelude.{ℕ, ◌-◌, ◌≡◌, ◌<◌, ℤ, Some, None, List, [], ◌∷◌, ◌++◌, length, map, get_or, slice_get, take}
use Rattle.forec_kernel.specs.Engine.{Reply, Written, written, View, Going, AtFork, Pausing, Ending, Trapping, Exceeding, Seed, Exchange, Output}
use Rattle.forec_kernel.specs.Shapes.{PlainShape}
use Rattle.thread_code.specs.declared.instruction.Instruction.{Instruction}
use Rattle.thread_code.specs.declared.instruction.Instruction.TheVariants as instruction
use Rattle.forec_kernel.specs.Texts.{params_in}
use Rattle.thread_code.specs.Plain.{PlainCode}
use Rattle.thread_state.specs.Frames.{args_from}
use Rattle.thread_code.specs.Valid.{arguments_of}
use Rattle.thread_code.specs.Alone.{block_of, view_of, CodeAlone}
use Rattle.combine_tree.specs.declared.packet.Packet.{Packet}
use Rattle.combine_tree.specs.declared.packet.PacketKind.{PacketKind}
use Rattle.combine_tree.specs.declared.packet.PacketKind.TheVariants as kind
use Rattle.core_machine.specs.declared.thread.Thread.{Thread}
use Rattle.core_machine.specs.Held.{machine_of}

-- ---- jobs

-- the number of the k-th branch
abbrev pub branch_at : Thread → ℕ → ℕ
branch_at h k = get_or h.branches.numbers k 0

abbrev pub seeds_in : View → List Seed
seeds_in Going = []
seeds_in (AtFork seeds) = seeds
seeds_in (Pausing copies) = []
seeds_in (Ending copies) = []
seeds_in (Trapping place trap) = []
seeds_in Exceeding = []

-- The jobs for the branches of the fork at which the thread is, in the order of the par. A branch may count what the thread's own units have left of its allowance.
abbrev pub jobs_at : PlainCode → Thread → List Written
jobs_at c h = map (written (h.allowance - h.units)) (seeds_in (view_of (machine_of c h)))

-- with these exchanges, the last of which has a reply for each job at its forks so far, the thread comes to another fork, and writes these jobs there
pub record WritesJobs (c : PlainCode) (t : ℕ) (xs : List Exchange) (jobs : List Written) : Type 0 where
  pub outputs : List Output
  pub forks : List (List Written)
  pub runs : CodeAlone c t xs (outputs ++ record { jobs = forks ++ jobs ∷ []; reply = None } ∷ [])

-- ---- replies

-- where there are any, these replies are those of the last exchange's next fork
abbrev pub next_replies : List (List Reply) → List Reply → List (List Reply)
next_replies rss [] = rss
next_replies rss (r ∷ rs) = rss ++ (r ∷ rs) ∷ []

abbrev pub with_replies : List Exchange → List Reply → List Exchange
with_replies [] rs = []
with_replies (x ∷ []) rs = record { job = x.job; replies = next_replies x.replies rs } ∷ []
with_replies (x ∷ y ∷ xs) rs = x ∷ with_replies (y ∷ xs) rs

abbrev pub IsReplyKind : PacketKind → Type 0
IsReplyKind kind.Paused = Unit {0}
IsReplyKind kind.Ended = Unit {0}
IsReplyKind (kind.Trapped place trap) = Unit {0}
IsReplyKind kind.Over = Unit {0}
IsReplyKind _ = ⊥

-- ---- the instruction at which branches wait

abbrev pub IsForkStep : Instruction → Type 0
IsForkStep (instruction.Fork j to) = Unit {0}
IsForkStep (instruction.Again j to) = Unit {0}
IsForkStep _ = ⊥

abbrev pub IsFork : PlainCode → ℕ → ℕ → Type 0
IsFork c t at = (i : Instruction) × (slice_get (block_of c t).steps at ≡ Some i) × IsForkStep i

abbrev pub AreThreads : PlainShape → List ℕ → Type 0
AreThreads s [] = Unit {0}
AreThreads s (b ∷ bs) = (b < length s.threads) × AreThreads s bs

-- the arguments of the k-th branch of a new fork
abbrev pub args_at : PlainCode → Thread → ℕ → List ℤ
args_at c h k =
    args_from (arguments_of c.shape h.branches.numbers) (arguments_of c.shape (take k h.branches.numbers)) (params_in c.shape.threads (branch_at h k)) h.stack.stack

-- it was made a Start with the arguments of the k-th branch where the fork is new, and else a Wake
pub record HasKind (c : PlainCode) (h : Thread) (k : ℕ) (p p' : Packet) : Type 0 where
  pub copies : p'.copies ≡ p.copies
  pub long : length p'.args.items ≡ length p.args.items
  pub start : (j to : ℕ) → slice_get (block_of c h.number).steps h.at ≡ Some (instruction.Fork j to) → (p'.kind ≡ kind.Start) × (p'.args.items ≡ args_at c h k)
  pub wake : (j to : ℕ) → slice_get (block_of c h.number).steps h.at ≡ Some (instruction.Again j to) → p'.kind ≡ kind.Wake
