-- The lines of ticks and of values.
use Rattle.std.proofs.Common.{◌≡◌, ℕ, zero, suc, ◌+◌, Bool, true, false, cond, Option, Some, None, List, [], ◌∷◌, ◌++◌, map, length, ℤ, FitsSigned, w32, refl, sym, ap, ◌∙◌, arith, append_assoc, append-nil}
use Rattle.std.specs.List.{AllByRecursion}
use Rattle.std.proofs.lemmas.Int.{ints}
use Rattle.std.proofs.lemmas.Bool.Decides.{Decides-int_eq}
use Rattle.wave_dump.specs.Wave.{declaration, declarations, is_kept, value_line, change_lines, tick_text, ticks_text, no_values, AreValues}
use Rattle.wave_dump.specs.Machine.{last_olds, may_end_tick, kept_values, behind_kept, value_taken_by}
use Rattle.wave_dump.proofs.Tools.{length_mapped}
use Rattle.wave_dump.proofs.Reached.{OldFits}

-- ---- outputs

pub declare_push : (k j : ℕ) (names : List (List ℕ)) (name : List ℕ) → j ≡ k + length names → declarations k (names ++ name ∷ []) ≡ declarations k names ++ declaration j name
declare_push k j [] name e = append-nil (declaration k name) ∙ ap (λ (i : ℕ). declaration i name) (let f : k ≡ j = omega arith in f)
declare_push k j (n ∷ names) name e =
    ap (λ (t : List ℕ). declaration k n ++ t) (declare_push (suc k) j names name (omega arith))
    ∙ sym (append_assoc (declaration k n) (declarations (suc k) names) (declaration j name))

-- ---- ticks

pub olds_push : (olds : List (Option ℤ)) (ticks : List (List ℤ)) (vs : List ℤ) → last_olds olds (ticks ++ vs ∷ []) ≡ map Some vs
olds_push olds [] vs = refl
olds_push olds (t ∷ ticks) vs = olds_push (map Some t) ticks vs

pub ticks_push : (n j : ℕ) (olds : List (Option ℤ)) (ticks : List (List ℤ)) (vs : List ℤ) → j ≡ n + length ticks →
    ticks_text n olds (ticks ++ vs ∷ []) ≡ ticks_text n olds ticks ++ tick_text j (last_olds olds ticks) vs
ticks_push n j olds [] vs e = append-nil (tick_text n olds vs) ∙ ap (λ (i : ℕ). tick_text i olds vs) (let f : n ≡ j = omega arith in f)
ticks_push n j olds (t ∷ ticks) vs e =
    ap (λ (x : List ℕ). tick_text n olds t ++ x) (ticks_push (suc n) j (map Some t) ticks vs (omega arith))
    ∙ sym (append_assoc (tick_text n olds t) (ticks_text (suc n) (map Some t) ticks) (tick_text j (last_olds (map Some t) ticks) vs))

pub length_none : (names : List (List ℕ)) → length (no_values names) ≡ length names
length_none [] = refl
length_none (n ∷ names) = ap suc (length_none names)

pub none_fit : (names : List (List ℕ)) → AllByRecursion OldFits (no_values names)
none_fit [] = tt
none_fit (n ∷ names) = (tt, none_fit names)

pub some_fit : (vs : List ℤ) → AllByRecursion (FitsSigned w32) vs → AllByRecursion OldFits (map Some vs)
some_fit [] h = tt
some_fit (v ∷ vs) h = (h.0, some_fit vs h.1)

pub olds_are : (n : ℕ) (olds : List (Option ℤ)) (ticks : List (List ℤ)) → length olds ≡ n → AllByRecursion OldFits olds → AllByRecursion (AreValues n) ticks →
    (length (last_olds olds ticks) ≡ n) × AllByRecursion OldFits (last_olds olds ticks)
olds_are n olds [] e h k = (e, h)
olds_are n olds (vs ∷ ticks) e h k = olds_are n (map Some vs) ticks (length_mapped Some vs ∙ k.0.count) (some_fit vs k.0.each) k.1

-- ---- values

pub changes_none : (k : ℕ) (olds : List (Option ℤ)) → change_lines k olds [] ≡ []
changes_none k [] = refl
changes_none k (o ∷ olds) = refl

pub changes_short : (k : ℕ) (before left : List (Option ℤ)) (now : List ℤ) → length before ≡ length now → change_lines k (before ++ left) now ≡ change_lines k before now
changes_short k [] left [] e = changes_none k left
changes_short k [] left (v ∷ now) e = absurd (omega arith)
changes_short k (o ∷ before) left [] e = absurd (omega arith)
changes_short k (o ∷ before) left (v ∷ now) e =
    ap (λ (t : List ℕ). cond (is_kept o v) [] (value_line k v) ++ t) (changes_short (suc k) before left now (omega arith))

pub changes_more : (k j : ℕ) (before left : List (Option ℤ)) (now more : List ℤ) → length before ≡ length now → j ≡ k + length now →
    change_lines k (before ++ left) (now ++ more) ≡ change_lines k before now ++ change_lines j left more
changes_more k j [] left [] more e f = ap (λ (i : ℕ). change_lines i left more) (let g : k ≡ j = omega arith in g)
changes_more k j [] left (v ∷ now) more e f = absurd (omega arith)
changes_more k j (o ∷ before) left [] more e f = absurd (omega arith)
changes_more k j (o ∷ before) left (v ∷ now) more e f =
    ap (λ (t : List ℕ). cond (is_kept o v) [] (value_line k v) ++ t) (changes_more (suc k) j before left now more (omega arith) (omega arith))
    ∙ sym (append_assoc (cond (is_kept o v) [] (value_line k v)) (change_lines (suc k) before now) (change_lines j left more))

pub same_self : (v : ℤ) → is_kept (Some v) v ≡ true
same_self v = (Decides-int_eq v v).1 refl

-- at the end of a tick nothing is written of the outputs that are left
pub changes_kept : (k : ℕ) (left : List (Option ℤ)) → may_end_tick left ≡ true → change_lines k left (kept_values left) ≡ []
changes_kept k [] h = refl
changes_kept k (None ∷ left) h = absurd cc
changes_kept k (Some u ∷ left) h = rw (same_self u) (changes_kept (suc k) left h)

pub length_kept : (left : List (Option ℤ)) → length (kept_values left) ≡ length left
length_kept [] = refl
length_kept (None ∷ left) = ap suc (length_kept left)
length_kept (Some u ∷ left) = ap suc (length_kept left)

pub kept_fit : (left : List (Option ℤ)) → AllByRecursion OldFits left → AllByRecursion (FitsSigned w32) (kept_values left)
kept_fit [] h = tt
kept_fit (None ∷ left) h = (omega (arith, ints), kept_fit left h.1)
kept_fit (Some u ∷ left) h = (h.0, kept_fit left h.1)

-- what an output takes that has a new value, with those before it
pub record Takes (k j : ℕ) (left : List (Option ℤ)) (v : ℤ) (vs : List ℤ) (rest : List (Option ℤ)) : Type 0 where
  pub olds : List (Option ℤ)
  pub split : left ≡ olds ++ rest
  pub even : length olds ≡ length vs
  pub count : length vs ≡ suc k
  pub line : change_lines j olds vs ≡ value_line (j + k) v
  pub fit : AllByRecursion (FitsSigned w32) vs
  pub rest_fit : AllByRecursion OldFits rest

pub takes_here : (j : ℕ) (old : Option ℤ) (left : List (Option ℤ)) (v : ℤ) → is_kept old v ≡ false → FitsSigned w32 v → AllByRecursion OldFits left → Takes 0 j (old ∷ left) v (v ∷ []) left
takes_here j old left v new f h =
    record {
      olds = old ∷ [];
      split = refl;
      even = refl;
      count = refl;
      line = rw new (append-nil (value_line j v) ∙ ap (λ (i : ℕ). value_line i v) (let e : j ≡ j + 0 = omega arith in e));
      fit = (f, tt);
      rest_fit = h;
    }

pub takes_later : (k j : ℕ) (u : ℤ) (left : List (Option ℤ)) (v : ℤ) (vs : List ℤ) (rest : List (Option ℤ)) → FitsSigned w32 u → Takes k (suc j) left v vs rest → Takes (suc k) j (Some u ∷ left) v (u ∷ vs) rest
takes_later k j u left v vs rest f t =
    record {
      olds = Some u ∷ t.olds;
      split = ap (λ (xs : List (Option ℤ)). Some u ∷ xs) t.split;
      even = ap suc t.even;
      count = ap suc t.count;
      line = rw (same_self u) (t.line ∙ ap (λ (i : ℕ). value_line i v) (let e : suc j + k ≡ j + suc k = omega arith in e));
      fit = (f, t.fit);
      rest_fit = t.rest_fit;
    }

pub data Took (k j : ℕ) (left : List (Option ℤ)) (v : ℤ) (o : Option (List ℤ × List (Option ℤ))) : Type 0 where
  Nothing : o ≡ None → Took k j left v o
  These : (vs : List ℤ) (rest : List (Option ℤ)) → o ≡ Some (vs, rest) → Takes k j left v vs rest → Took k j left v o

takes_first : (j : ℕ) (old : Option ℤ) (left : List (Option ℤ)) (v : ℤ) → FitsSigned w32 v → AllByRecursion OldFits left → (b : Bool) → is_kept old v ≡ b → Took 0 j (old ∷ left) v (value_taken_by 0 (old ∷ left) v)
takes_first j old left v f h true e = Nothing (rw e refl)
takes_first j old left v f h false e = These (v ∷ []) left (rw e refl) (takes_here j old left v e f h)

pub takes : (k j : ℕ) (left : List (Option ℤ)) (v : ℤ) → FitsSigned w32 v → AllByRecursion OldFits left → Took k j left v (value_taken_by k left v)
takes k j [] v f h = Nothing refl
takes zero j (old ∷ left) v f h = takes_first j old left v f h.1 (is_kept old v) refl
takes (suc k) j (None ∷ left) v f h = Nothing refl
takes (suc k) j (Some u ∷ left) v f h = elim (takes k (suc j) left v f h.1) [
  | Nothing e ↦ Nothing (ap (behind_kept u) e)
  | These vs rest e t ↦ These (u ∷ vs) rest (ap (behind_kept u) e) (takes_later k j u left v vs rest h.0 t)
]
