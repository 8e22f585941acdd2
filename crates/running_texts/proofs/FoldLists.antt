-- Folds as far as they have come.
use Rattle.std.proofs.Common.{◌≡◌, ◌∙◌, ℕ, zero, suc, ◌+◌, ◌≤◌, ◌<◌, ◌⊎◌, inl, inr, ◌||◌, min, ℤ, pos, Option, None, unwrap_or, Ok, Err, List, [], ◌∷◌, ◌++◌, append_assoc, length, take, drop, get_or, refl, ap, sym, arith, Vec, Global, append-nil}
use Rattle.std.proofs.lemmas.List.{take_more, drop_more, drop_all, length-take-le}
use Rattle.forec_kernel.specs.declared.shape.VarCopy.{VarCopy}
use Rattle.forec_kernel.specs.Shapes.{PlainKernel}
use Rattle.forec_kernel.specs.Texts.{Threads}
use Rattle.forec_kernel.specs.Combining.{shares, some_marked}
use Rattle.running_texts.specs.declared.folds.Fold.{Fold}
use Rattle.running_texts.specs.declared.meter.Halt.{Halt}
use Rattle.running_texts.specs.declared.meter.Halt.TheVariants.{Trapped, Over, OutOfMemory}
use Rattle.running_texts.specs.Metered.{IsMetered}
use Rattle.running_texts.specs.Folding.{Added, Comes, Stays, Folds, Come, Stop, one_more_fold, fold_then, branch_added, branch_folds, first_folds, folded_copies, adding, folding, added_units, folds_units}

abbrev pub blank : Fold
blank = record { variable = 0; base = pos 0; total = None }

-- ---- folds so far

abbrev pub after_folds : List Fold → ℕ → Folds → Folds
after_folds ns u (Come ms w) = Come (ns ++ ms) (u + w)
after_folds ns u (Stop place trap w) = Stop place trap (u + w)

pub record FoldsSoFar (old now : ℕ) (ns : List Fold) (whole rest : Folds) : Type 0 where
  pub units : ℕ
  pub is : whole ≡ after_folds ns units rest
  pub left : now + units ≡ old

folds_none : (v : Folds) → v ≡ after_folds [] 0 v
folds_none (Come ms w) = ap (Come ms) (omega arith)
folds_none (Stop place trap w) = ap (Stop place trap) (omega arith)

pub no_folds : (old : ℕ) (ns : List Fold) (v : Folds) → ns ≡ [] → FoldsSoFar old old ns v v
no_folds old ns v e = record { units = 0; is = folds_none v ∙ ap (λ n. after_folds n 0 v) (sym e); left = omega arith }

folds_after : (ns : List Fold) (u n : ℕ) (x : Fold) (v : Folds) → after_folds ns u (one_more_fold x n v) ≡ after_folds (ns ++ x ∷ []) (u + n) v
folds_after ns u n x (Come ms w) =
    ap (λ l. Come l (u + (n + w))) (sym (append_assoc ns (x ∷ []) ms)) ∙ ap (Come ((ns ++ x ∷ []) ++ ms)) (omega arith)
folds_after ns u n x (Stop place trap w) = ap (Stop place trap) (omega arith)

pub folds_more : (e : Fold) (old mid new : ℕ) (ns more : List Fold) (whole rest : Folds) (v : Added) (x : Option ℤ) → FoldsSoFar old mid ns whole (fold_then e v rest) →
    IsMetered adding mid new (Ok x) v → more ≡ ns ++ record e { total = x } ∷ [] → FoldsSoFar old new more whole rest
folds_more e old mid new ns more whole rest v x s m is =
    record {
      units = s.units + m.by.units;
      is = s.is ∙ ap (λ y. after_folds ns s.units (fold_then e y rest)) m.by.is ∙ folds_after ns s.units m.by.units (record e { total = x }) rest
          ∙ ap (λ l. after_folds l (s.units + m.by.units) rest) (sym is);
      left = let a = s.left in let b = m.by.left in omega arith;
    }

folds_least : (e : Fold) (ns : List Fold) (u : ℕ) (v : Added) (rest : Folds) → u + added_units v ≤ folds_units (after_folds ns u (fold_then e v rest))
folds_least e ns u (Comes n w) (Come ms x) = omega arith
folds_least e ns u (Comes n w) (Stop place trap x) = omega arith
folds_least e ns u (Stays place trap w) rest = omega arith

pub folds_stop : (e : Fold) (old mid new : ℕ) (ns : List Fold) (whole rest : Folds) (v : Added) (h : Halt) → FoldsSoFar old mid ns whole (fold_then e v rest) →
    IsMetered adding mid new (Err h) v → IsMetered folding old new (Err h) whole
folds_stop e old mid new ns whole rest v (Trapped place trap) s m =
    record {
      by = record {
        units = s.units + m.by.units;
        is = s.is ∙ ap (λ y. after_folds ns s.units (fold_then e y rest)) m.by.is;
        left = let a = s.left in let b = m.by.left in omega arith;
      };
    }
folds_stop e old mid new ns whole rest v Over s m =
    let h = m.by in let l = s.left in
    let same : folds_units whole ≡ folds_units (after_folds ns s.units (fold_then e v rest)) = ap folds_units s.is in
    record { by = omega (arith, folds_least e ns s.units v rest) }
folds_stop e old mid new ns whole rest v OutOfMemory s m = record { by = tt }

pub folds_end : (old now : ℕ) (v : Vec Fold Global) (whole rest : Folds) → FoldsSoFar old now v.items whole rest → rest ≡ Come [] 0 →
    IsMetered folding old now (Ok v) whole
folds_end old now v whole rest s e =
    record {
      by = record {
        units = s.units;
        is = s.is ∙ ap (after_folds v.items s.units) e ∙ ap (λ l. Come l (s.units + 0)) (append-nil v.items) ∙ ap (Come v.items) (omega arith);
        left = s.left;
      };
    }

pub folds_same : (old now : ℕ) (ns : List Fold) (whole a b : Folds) → FoldsSoFar old now ns whole a → a ≡ b → FoldsSoFar old now ns whole b
folds_same old now ns whole a b s e = record { units = s.units; is = s.is ∙ ap (after_folds ns s.units) e; left = s.left }

pub folds_next : (k : PlainKernel) (uses : List ℕ) (copies : List VarCopy) (es : List Fold) (i : ℕ) (d : Fold) → i < length es →
    branch_folds k uses copies (drop i es)
    ≡ fold_then (get_or es i d) (branch_added k uses copies (get_or es i d)) (branch_folds k uses copies (drop (i + 1) es))
folds_next k uses copies es i d h = ap (branch_folds k uses copies) (drop_more es i d h)

-- ---- the first folds, and the copies at the end

first-push : (us : List ℕ) (cs : List VarCopy) (u : ℕ) (c : VarCopy) → length us ≡ length cs →
    first_folds (us ++ u ∷ []) (cs ++ c ∷ []) ≡ first_folds us cs ++ record { variable = u; base = c.value; total = None } ∷ []
first-push [] [] u c e = refl
first-push [] (d ∷ cs) u c e = absurd (omega arith)
first-push (v ∷ us) [] u c e = absurd (omega arith)
first-push (v ∷ us) (d ∷ cs) u c e = ap (λ l. record { variable = v; base = d.value; total = None } ∷ l) (first-push us cs u c (omega arith))

pub first_more : (us : List ℕ) (cs : List VarCopy) (i d : ℕ) (e : VarCopy) (made : List Fold) → i < length us → i < length cs →
    made ≡ first_folds (take i us) (take i cs) →
    made ++ record { variable = get_or us i d; base = (get_or cs i e).value; total = None } ∷ [] ≡ first_folds (take (i + 1) us) (take (i + 1) cs)
first_more us cs i d e made p q same =
    ap (λ l. l ++ record { variable = get_or us i d; base = (get_or cs i e).value; total = None } ∷ []) same
    ∙ sym (first-push (take i us) (take i cs) (get_or us i d) (get_or cs i e) (length-take-le i us (omega arith) ∙ sym (length-take-le i cs (omega arith))))
    ∙ ap (λ l. first_folds l (take i cs ++ get_or cs i e ∷ [])) (sym (take_more us i d p))
    ∙ ap (first_folds (take (i + 1) us)) (sym (take_more cs i e q))

pub first_end : (us : List ℕ) (cs : List VarCopy) (i : ℕ) → min (length us) (length cs) ≤ i → first_folds (take i us) (take i cs) ≡ first_folds us cs
first_end [] cs zero h = refl
first_end [] cs (suc i) h = refl
first_end (u ∷ us) [] zero h = refl
first_end (u ∷ us) [] (suc i) h = refl
first_end (u ∷ us) (c ∷ cs) zero h = absurd (omega arith)
first_end (u ∷ us) (c ∷ cs) (suc i) h = ap (λ l. record { variable = u; base = c.value; total = None } ∷ l) (first_end us cs i (omega arith))

append_one : {A : Type 0} (xs : List A) (x : A) (ys : List A) → xs ++ x ∷ ys ≡ (xs ++ x ∷ []) ++ ys
append_one [] x ys = refl
append_one (z ∷ xs) x ys = ap (λ l. z ∷ l) (append_one xs x ys)

module _ (k : PlainKernel) (cs : Threads) where
  pub folded_next : (us : List ℕ) (copies : List VarCopy) (es : List Fold) (i u : ℕ) (c : VarCopy) (e : Fold) (made : List VarCopy) (whole : List VarCopy) →
      i < length us → i < length copies → i < length es → made ++ folded_copies k cs (drop i us) (drop i copies) (drop i es) ≡ whole →
      (made ++ record { value = unwrap_or (get_or es i e).total (get_or copies i c).value; modified = (get_or copies i c).modified || some_marked (shares k (get_or us i u) 0 cs) } ∷ [])
      ++ folded_copies k cs (drop (i + 1) us) (drop (i + 1) copies) (drop (i + 1) es)
      ≡ whole
  folded_next us copies es i u c e made whole p q r h =
      let x : VarCopy = record { value = unwrap_or (get_or es i e).total (get_or copies i c).value; modified = (get_or copies i c).modified || some_marked (shares k (get_or us i u) 0 cs) } in
      sym (append_one made x (folded_copies k cs (drop (i + 1) us) (drop (i + 1) copies) (drop (i + 1) es)))
      ∙ sym (ap (λ l. made ++ folded_copies k cs l (drop i copies) (drop i es)) (drop_more us i u p)
      ∙ ap (λ l. made ++ folded_copies k cs (get_or us i u ∷ drop (i + 1) us) l (drop i es)) (drop_more copies i c q)
      ∙ ap (λ l. made ++ folded_copies k cs (get_or us i u ∷ drop (i + 1) us) (get_or copies i c ∷ drop (i + 1) copies) l) (drop_more es i e r)) ∙ h

  folded_out : (us : List ℕ) (copies : List VarCopy) (es : List Fold) (i : ℕ) → min (length us) (length es) ≤ i →
      folded_copies k cs (drop i us) (drop i copies) (drop i es) ≡ drop i copies
  folded_out us copies es i h = out (drop i us) (drop i copies) (drop i es) (short us es i h)
    where
      short : (us : List ℕ) (es : List Fold) (i : ℕ) → min (length us) (length es) ≤ i → (drop i us ≡ []) ⊎ (drop i es ≡ [])
      short [] es zero h = inl refl
      short [] es (suc i) h = inl refl
      short (u ∷ us) [] zero h = inr refl
      short (u ∷ us) [] (suc i) h = inr refl
      short (u ∷ us) (e ∷ es) zero h = absurd (omega arith)
      short (u ∷ us) (e ∷ es) (suc i) h = short us es i (omega arith)

      no_uses : (copies : List VarCopy) (es : List Fold) → folded_copies k cs [] copies es ≡ copies
      no_uses copies es = refl

      no_entries : (us : List ℕ) (copies : List VarCopy) → folded_copies k cs us copies [] ≡ copies
      no_entries [] copies = refl
      no_entries (u ∷ us) [] = refl
      no_entries (u ∷ us) (c ∷ copies) = refl

      out : (us : List ℕ) (copies : List VarCopy) (es : List Fold) → (us ≡ []) ⊎ (es ≡ []) → folded_copies k cs us copies es ≡ copies
      out us copies es (inl e) = ap (λ l. folded_copies k cs l copies es) e
      out us copies es (inr e) = ap (folded_copies k cs us copies) e ∙ no_entries us copies

  pub folded_keep : (us : List ℕ) (copies : List VarCopy) (es : List Fold) (i : ℕ) (c : VarCopy) (made whole : List VarCopy) →
      min (length us) (length es) ≤ i → i < length copies → made ++ folded_copies k cs (drop i us) (drop i copies) (drop i es) ≡ whole →
      (made ++ get_or copies i c ∷ []) ++ folded_copies k cs (drop (i + 1) us) (drop (i + 1) copies) (drop (i + 1) es) ≡ whole
  folded_keep us copies es i c made whole p q h =
      ap (λ l. (made ++ get_or copies i c ∷ []) ++ l) (folded_out us copies es (i + 1) (omega arith))
      ∙ sym (append_one made (get_or copies i c) (drop (i + 1) copies)) ∙ ap (λ l. made ++ l) (sym (drop_more copies i c q))
      ∙ ap (λ l. made ++ l) (sym (folded_out us copies es i p)) ∙ h

  pub folded_end : (us : List ℕ) (copies : List VarCopy) (es : List Fold) (i : ℕ) (made whole : List VarCopy) → length copies ≤ i →
      made ++ folded_copies k cs (drop i us) (drop i copies) (drop i es) ≡ whole → made ≡ whole
  folded_end us copies es i made whole p h =
      sym (append-nil made) ∙ ap (λ l. made ++ l) (sym (nothing (drop i us) (drop i es) ∙ refl)) ∙ ap (λ l. made ++ folded_copies k cs (drop i us) l (drop i es)) (sym (drop_all i copies p)) ∙ h
    where
      nothing : (us : List ℕ) (es : List Fold) → folded_copies k cs us [] es ≡ []
      nothing [] es = refl
      nothing (u ∷ us) es = refl
