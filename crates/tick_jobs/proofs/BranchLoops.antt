-- A loop over the branches of a fork that hands the thread their replies.
use Rattle.std.proofs.Common.{◌≡◌, ℕ, ◌+◌, ◌≤◌, length, refl, sym, ap, ◌∙◌, arith}
use Rattle.std.specs.Prelude.{Option, Some, None, slice_get}
use Rattle.std.proofs.lemmas.Option.{slice_get_within}
use Rattle.thread_code.specs.Plain.{PlainCode}
use Rattle.core_machine.specs.declared.thread.Thread.{Thread}
use Rattle.core_machine.specs.Threads.{Loaded}
use Rattle.tick_jobs.proofs.Lists.{past_end}

-- the thread has its first k replies, and is otherwise as it was
pub record AtBranch (c : PlainCode) (was now : Thread) (k : ℕ) : Type 0 where
  pub within : k ≤ length was.branches.numbers
  pub loaded : Loaded c now
  pub number : now.number ≡ was.number
  pub branches : now.branches.numbers ≡ was.branches.numbers

pub at_first : (c : PlainCode) (h : Thread) → Loaded c h → AtBranch c h h 0
at_first c h loaded = record { within = omega arith; loaded = loaded; number = refl; branches = refl }

module _ {c : PlainCode} {was now : Thread} {k : ℕ} (at : AtBranch c was now k) {active : Option ℕ} (read : active ≡ slice_get now.branches.numbers k) where
  -- the branch at work
  pub this_branch : {b : ℕ} → active ≡ Some b → slice_get was.branches.numbers k ≡ Some b
  this_branch is = ap (λ l. slice_get l k) (sym at.branches) ∙ sym read ∙ is

  pub at_next : {b : ℕ} → active ≡ Some b → (new : Thread) → Loaded c new → new.number ≡ now.number → new.branches.numbers ≡ now.branches.numbers → AtBranch c was new (k + 1)
  at_next {b} is new loaded number branches =
      let lt = slice_get_within was.branches.numbers k b (this_branch is) in
      record { within = omega (arith, lt); loaded = loaded; number = number ∙ at.number; branches = branches ∙ at.branches }

  -- past the last one
  pub at_end : active ≡ None → k ≡ length was.branches.numbers
  at_end none =
      let past = past_end now.branches.numbers k (sym read ∙ none) in
      let count = ap length at.branches in
      let within = at.within in omega (arith, past, count, within)
