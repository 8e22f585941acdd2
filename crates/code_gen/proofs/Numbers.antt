-- The number of a par, as it is read.
use Rattle.std.proofs.Common.{◌≡◌, ℕ, zero, suc, ◌<◌, ◌≤◌, List, [], ◌∷◌, length, map, get_or, Option, Some, None, refl, ap, sym, ◌∙◌, arith}
use Rattle.std.specs.Prelude.{slice_get}
use Rattle.std.specs.Option.{unwrap_or}
use Rattle.forec_kernel.specs.Plain.{branch}
use Rattle.forec_kernel.specs.Shapes.{plain_thread}
use Rattle.forec_kernel.specs.declared.shape.ThreadShape.{ThreadShape}
use Rattle.forec_kernel.specs.declared.terms.Launch.{Launch}
use Rattle.code_gen.specs.Statements.{par_in, bound_or_zero, par_number}

par_at : (ts : List ThreadShape) (t : ℕ) (d : ThreadShape) → t < length ts → par_in (map plain_thread ts) t ≡ (get_or ts t d).par
par_at [] t d lt = absurd (omega (arith, lt))
par_at (y ∷ ts) zero d lt = refl
par_at (y ∷ ts) (suc t) d lt = par_at ts t d (omega (arith, lt))

par_past : (ts : List ThreadShape) (t : ℕ) → length ts ≤ t → par_in (map plain_thread ts) t ≡ None
par_past [] t le = refl
par_past (y ∷ ts) zero le = absurd (omega (arith, le))
par_past (y ∷ ts) (suc t) le = par_past ts t (omega (arith, le))

by_first : (ts : List ThreadShape) (bs : List Launch) (l : Launch) → slice_get bs 0 ≡ Some l → par_number (map plain_thread ts) (map branch bs) ≡ bound_or_zero (par_in (map plain_thread ts) l.thread)
by_first ts [] l e = cc
by_first ts (b ∷ bs) l e = let same : b ≡ l = cc in ap (λ (x : Launch). bound_or_zero (par_in (map plain_thread ts) x.thread)) same

or_zero : (o : Option ℕ) → unwrap_or o 0 ≡ bound_or_zero o
or_zero None = refl
or_zero (Some n) = refl

pub number_there : (ts : List ThreadShape) (bs : List Launch) (l : Launch) (d : ThreadShape) → slice_get bs 0 ≡ Some l → l.thread < length ts → unwrap_or (get_or ts l.thread d).par 0 ≡ par_number (map plain_thread ts) (map branch bs)
number_there ts bs l d e lt = or_zero (get_or ts l.thread d).par ∙ ap bound_or_zero (sym (par_at ts l.thread d lt)) ∙ sym (by_first ts bs l e)

pub number_past : (ts : List ThreadShape) (bs : List Launch) (l : Launch) → slice_get bs 0 ≡ Some l → length ts ≤ l.thread → 0 ≡ par_number (map plain_thread ts) (map branch bs)
number_past ts bs l e le = sym (by_first ts bs l e ∙ ap bound_or_zero (par_past ts l.thread le))
