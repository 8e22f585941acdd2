-- Sizes as they are counted.
use Rattle.std.proofs.Common.{◌≡◌, ℕ, ◌+◌, List, [], ◌∷◌, ◌++◌, length, Bool, true, false, refl, ap, ◌∙◌, append_assoc}
use Rattle.std.specs.Prelude.{slice_set}
use Rattle.std.proofs.Math.Seq.{set-append_seam}
use mir.Val.{bool_byte}
use Rattle.code_sizes.specs.Sizes.{count_if}

-- the size of an abort's body is put where a 0 was
pub put_size : (old pushed all rest : List ℕ) (n x : ℕ) → n ≡ length old → pushed ≡ old ++ 0 ∷ [] → all ≡ pushed ++ rest → slice_set all n x ≡ old ++ x ∷ rest
put_size old pushed all rest n x h e f =
    let flat : (old ++ 0 ∷ []) ++ rest ≡ old ++ 0 ∷ rest = append_assoc old (0 ∷ []) rest in
    let is : all ≡ old ++ 0 ∷ rest = f ∙ ap (λ l. l ++ rest) e ∙ flat in
    ap (λ l. slice_set l n x) is ∙ ap (λ i. slice_set (old ++ 0 ∷ rest) i x) h ∙ set-append_seam old 0 rest x

pub one_byte : (b : Bool) → bool_byte b ≡ count_if b
one_byte true = refl
one_byte false = refl
