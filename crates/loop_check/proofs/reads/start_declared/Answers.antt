use Rattle.std.proofs.Common.{ℕ, ◌≤◌, ◌≡◌, ap, refl, Option, Some, None, List, [], ◌∷◌, length, arith}
use Rattle.forec_tree.specs.declared.tree.Expr.{Expr}
use Rattle.forec_tree.specs.declared.tree.Number.{Number}
use Rattle.forec_tree.specs.Plain.{terms}
use Rattle.forec_tree.specs.Turns as form
use Rattle.loop_check.proofs.reads.start_declared.Goals as goal

several : (id : ℕ) (size : Option Number) (xs slice : List Expr) → slice ≡ xs → 2 ≤ length slice → None ≡ form.paired_term id (form.single_value size (terms xs))
several id (Some n) xs slice e h = refl
several id None [] slice e h = let d = ap length e in absurd (omega (arith, d))
several id None (x ∷ []) slice e h = let d = ap length e in absurd (omega (arith, d))
several id None (x ∷ y ∷ xs) slice e h = refl

pub returns-in_default-2 : goal.returns-in_default-2
returns-in_default-2 c = several c.args.local.now.name.id c.args.local.now.length c.args.local.now.values c.as_slice.result.now c.as_slice.ensures c.in_default.len_at_least
