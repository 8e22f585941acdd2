-- Hints in a queue. Each pass of a queue has a log of what it pushed and what it popped.
use Rattle.std.specs.Prelude.{◌≡◌, ℕ, ◌+◌, ◌≤◌, ◌==◌, ◌||◌, cond, List, [], ◌∷◌, ◌++◌, Bool, true, false, Option, None, Some}
use mathlib.Core.Option.{some}
use lib.ListN.{get_elem?}
use Rattle.core_bells.specs.declared.hints.HintLog.{HintLog}

abbrev pub hint_log : Bool → List ℕ → List ℕ → HintLog
hint_log may_pop pushed popped = record { may_pop = may_pop; pushed = pushed; popped = popped }

-- nothing was done
abbrev pub new_log : Bool → HintLog
new_log may_pop = hint_log may_pop [] []

abbrev pub with_pushed : HintLog → ℕ → HintLog
with_pushed v hint = hint_log v.may_pop (v.pushed ++ hint ∷ []) v.popped

abbrev pub with_popped : HintLog → ℕ → HintLog
with_popped v hint = hint_log v.may_pop v.pushed (v.popped ++ hint ∷ [])

-- of two passes that become one
abbrev pub with_log : HintLog → HintLog → HintLog
with_log v w = hint_log (v.may_pop || w.may_pop) (v.pushed ++ w.pushed) (v.popped ++ w.popped)

-- how often a number stands in a list
abbrev pub times : ℕ → List ℕ → ℕ
times x [] = 0
times x (y ∷ ys) = cond (x == y) 1 0 + times x ys

abbrev pub total : (HintLog → ℕ) → List HintLog → ℕ
total f [] = 0
total f (v ∷ vs) = f v + total f vs

abbrev pub mark : HintLog → ℕ
mark v = cond v.may_pop 1 0

-- No hint that was pushed is lost or doubled, and none is made up: each number was pushed as often as the queue holds it or it was
-- popped. One pass alone may pop.
pub record KeepsHints (held : List ℕ) (logs : List HintLog) : Type 0 where
  pub balanced : (x : ℕ) → total (λ v. times x v.pushed) logs ≡ total (λ v. times x v.popped) logs + times x held
  pub one : total mark logs ≡ 1
  pub others : (id : ℕ) (v : HintLog) → get_elem? logs id ≡ some v → v.may_pop ≡ false → v.popped ≡ []

-- whatever the pass pushed it has popped, but for what the queue holds
abbrev pub Accounts : HintLog → List ℕ → Type 0
Accounts v held = (x : ℕ) → times x v.pushed ≤ times x v.popped + times x held

-- what a pass knows of the queue
abbrev pub Knows : HintLog → List ℕ → Type 0
Knows v held = v.may_pop ≡ true → Accounts v held

-- the log after a try to push, which may have found no room
abbrev pub after_push : Bool → ℕ → HintLog → HintLog
after_push fits hint v = cond fits (with_pushed v hint) v

-- and after a try to pop
abbrev pub after_pop : Option ℕ → HintLog → HintLog
after_pop None v = v
after_pop (Some hint) v = with_popped v hint
