-- The limits in their order, of which the first that is passed is told.
use Rattle.std.proofs.Common.{ℕ, ◌≤◌, sym, refl, subst, List, [], ◌∷◌}
use Rattle.std.specs.Result.{IsErrAnd, IfErr}
use Rattle.std.specs.Prelude.{Result, Ok, Err}
use Rattle.forec_tree.specs.Faults.{Member, here, later}
use Rattle.text_kernel.specs.declared.limits.Quantity.{Quantity}
use Rattle.kernel_lower.specs.declared.lower_fault.LowerFault.{LowerFault}
use Rattle.text_kernel.specs.Limits.{limit_of, earlier}
use Rattle.kernel_lower.specs.Refusals.{PassesLimit, First}

abbrev pub Each : {A : Type 0} → (A → Type 0) → List A → Type 0
Each P [] = Unit {0}
Each P (x ∷ xs) = P x × Each P xs

pub each_member : {A : Type 0} (P : A → Type 0) (xs : List A) (x : A) → Each P xs → Member x xs → P x
each_member P [] x h m = elim m [ ]
each_member P (y ∷ xs) x h here = h.0
each_member P (y ∷ xs) x h (later m) = each_member P xs x h.1 m

pub first_at : (amounts : Quantity → ℕ) (what : Quantity) (e : LowerFault) → PassesLimit what (amounts what) e → Each (λ q. amounts q ≤ limit_of q) (earlier what) → First amounts e
first_at amounts what e p h =
    subst (First amounts) (sym p.0) (record { passes = p.1; first = λ q m. each_member (λ x. amounts x ≤ limit_of x) (earlier what) q h m; is = refl })

pub err_passed : {T E F : Type 0} (r : Result T F) (x : E) (Q : F → Type 0) (P : F → Type 0) → IsErrAnd r Q → ((y : F) → Q y → P y) → IfErr r P
err_passed (Ok t) x Q P h k = tt
err_passed (Err y) x Q P h k = k y h
