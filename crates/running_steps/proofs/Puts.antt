-- A thread's copy, written at the place of its variable.
use Rattle.std.proofs.Common.{◌≡◌, ◌∙◌, ℕ, zero, suc, ◌+◌, ◌≤◌, ◌<◌, ◌==◌, nat_lt, Bool, true, false, not, cond, Some, None, List, [], ◌∷◌, length, slice_set, refl, ap, sym, arith}
use Rattle.std.proofs.lemmas.Bool.Decides.{nat_tests}
use Rattle.std.specs.List.{position, position_or_len}
use Rattle.forec_kernel.specs.declared.shape.VarCopy.{VarCopy}
use Rattle.forec_kernel.specs.Texts.{put_copy}

abbrev place : ℕ → List ℕ → ℕ
place v us = position_or_len (λ u. u == v) us

put_there : (us : List ℕ) (cs : List VarCopy) (v : ℕ) (new : VarCopy) → place v us < length us → slice_set cs (place v us) new ≡ put_copy us cs v new
put_there [] cs v new h = absurd (omega arith)
put_there (u ∷ us) [] v new h = refl
put_there (u ∷ us) (c ∷ cs) v new h = pick (put_there us cs v new) (u == v) h
  where
    pick : (place v us < length us → slice_set cs (place v us) new ≡ put_copy us cs v new) → (b : Bool) →
        cond (not b) (1 + place v us) 0 < suc (length us) →
        slice_set (c ∷ cs) (cond (not b) (1 + place v us) 0) new ≡ cond b (new ∷ cs) (c ∷ put_copy us cs v new)
    pick below true h = refl
    pick below false h =
        let next : 1 + place v us ≡ suc (place v us) = omega arith in
        ap (λ n. slice_set (c ∷ cs) n new) next ∙ ap (λ l. c ∷ l) (below (omega arith))

put_nowhere : (us : List ℕ) (cs : List VarCopy) (v : ℕ) (new : VarCopy) → length us ≤ place v us → cs ≡ put_copy us cs v new
put_nowhere [] cs v new h = refl
put_nowhere (u ∷ us) [] v new h = refl
put_nowhere (u ∷ us) (c ∷ cs) v new h = pick (put_nowhere us cs v new) (u == v) h
  where
    pick : (length us ≤ place v us → cs ≡ put_copy us cs v new) → (b : Bool) → suc (length us) ≤ cond (not b) (1 + place v us) 0 →
        c ∷ cs ≡ cond b (new ∷ cs) (c ∷ put_copy us cs v new)
    pick below true h = absurd (omega arith)
    pick below false h = ap (λ l. c ∷ l) (below (omega arith))

pub put_some : (us : List ℕ) (cs : List VarCopy) (v : ℕ) (new : VarCopy) (at : ℕ) → position (λ u. u == v) us ≡ Some at →
    slice_set cs at new ≡ put_copy us cs v new
put_some us cs v new at e = pick (nat_lt (place v us) (length us)) refl e
  where
    pick : (b : Bool) → nat_lt (place v us) (length us) ≡ b → cond b (Some (place v us)) None ≡ Some at → slice_set cs at new ≡ put_copy us cs v new
    pick true t e =
        let same : place v us ≡ at = cc in
        ap (λ n. slice_set cs n new) (sym same) ∙ put_there us cs v new (grind (arith, nat_tests))
    pick false t e = cc

pub put_none : (us : List ℕ) (cs : List VarCopy) (v : ℕ) (new : VarCopy) → position (λ u. u == v) us ≡ None → cs ≡ put_copy us cs v new
put_none us cs v new e = pick (nat_lt (place v us) (length us)) refl e
  where
    pick : (b : Bool) → nat_lt (place v us) (length us) ≡ b → cond b (Some (place v us)) None ≡ None → cs ≡ put_copy us cs v new
    pick true t e = cc
    pick false t e = put_nowhere us cs v new (grind (arith, nat_tests))

pub set_past : (cs : List VarCopy) (i : ℕ) (new : VarCopy) → length cs ≤ i → cs ≡ slice_set cs i new
set_past [] i new h = refl
set_past (c ∷ cs) zero new h = absurd (omega arith)
set_past (c ∷ cs) (suc i) new h = ap (λ l. c ∷ l) (set_past cs i new (omega arith))
