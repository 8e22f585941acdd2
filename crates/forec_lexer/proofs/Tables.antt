-- The tables of words and marks, one entry after another.
use Rattle.std.proofs.Common.{◌≡◌, ℕ, ◌+◌, ◌<◌, ◌≤◌, Bool, true, false, nat_eq, cond, List, [], ◌∷◌, length, drop, take, get_or, ◌⊎◌, inl, inr, Option, Some, None, refl, sym, ap, subst, ◌∙◌, add-one, drop-cons, arith}
use Rattle.std.specs.List.{starts_with}
use Rattle.std.specs.Str.{bytes_eq}
use Rattle.std.proofs.lemmas.List.{drop_all}
use Rattle.std.proofs.lemmas.Slice.Eq.{bytes_eq-Decides}
use Rattle.forec_tree.specs.declared.token.Word.{Word}
use Rattle.forec_tree.specs.declared.token.Mark.{Mark}
use Rattle.forec_tree.specs.Lexis.{letters_of, spelling}
use Rattle.forec_lexer.specs.Reading.{mark_ahead, word_in}

-- ---- the loop over a table

pub hit : (ms : List Mark) (i : ℕ) (d : Mark) (text bytes : List ℕ) → i < length ms → bytes ≡ spelling (get_or ms i d) → starts_with nat_eq text bytes ≡ true
    → mark_ahead (drop i ms) text ≡ Some (get_or ms i d, length bytes)
unfolding mark_ahead
hit ms i d text bytes h e s =
    let k : starts_with nat_eq text (spelling (get_or ms i d)) ≡ true = rw e at s in
    rw (drop-cons ms i d, e, k)

pub miss : (ms : List Mark) (i : ℕ) (d : Mark) (text bytes : List ℕ) → i < length ms → bytes ≡ spelling (get_or ms i d) → starts_with nat_eq text bytes ≡ false
    → mark_ahead (drop i ms) text ≡ mark_ahead (drop (i + 1) ms) text
unfolding mark_ahead
miss ms i d text bytes h e s =
    let k : starts_with nat_eq text (spelling (get_or ms i d)) ≡ false = rw e at s in
    rw (drop-cons ms i d, k, add-one)

pub none_left : (ms : List Mark) (i : ℕ) (text : List ℕ) → length ms ≤ i → mark_ahead (drop i ms) text ≡ None
unfolding mark_ahead
none_left ms i text h = rw (drop_all i ms h)

pub word_hit : (ws : List Word) (i : ℕ) (d : Word) (run bytes : List ℕ) → i < length ws → bytes ≡ letters_of (get_or ws i d) → bytes_eq run bytes ≡ true
    → word_in (drop i ws) run ≡ Some (get_or ws i d)
unfolding word_in
word_hit ws i d run bytes h e s =
    let k : bytes_eq run (letters_of (get_or ws i d)) ≡ true = rw e at s in
    rw (drop-cons ws i d, k)

pub word_miss : (ws : List Word) (i : ℕ) (d : Word) (run bytes : List ℕ) → i < length ws → bytes ≡ letters_of (get_or ws i d) → bytes_eq run bytes ≡ false
    → word_in (drop i ws) run ≡ word_in (drop (i + 1) ws) run
unfolding word_in
word_miss ws i d run bytes h e s =
    let k : bytes_eq run (letters_of (get_or ws i d)) ≡ false = rw e at s in
    rw (drop-cons ws i d, k, add-one)

pub no_word_left : (ws : List Word) (i : ℕ) (run : List ℕ) → length ws ≤ i → word_in (drop i ws) run ≡ None
unfolding word_in
no_word_left ws i run h = rw (drop_all i ws h)

-- ---- a table as a whole

abbrev pub Begins : List ℕ → List ℕ → Type 0
Begins bs text = take (length bs) text ≡ bs

pub begins_true : (text bs : List ℕ) → starts_with nat_eq text bs ≡ true → Begins bs text
begins_true text bs h = sym ((bytes_eq-Decides bs (take (length bs) text)).0 h)

pub begins_false : (text bs : List ℕ) → starts_with nat_eq text bs ≡ false → Begins bs text → ⊥
begins_false text bs h f = let t : starts_with nat_eq text bs ≡ true = (bytes_eq-Decides bs (take (length bs) text)).1 (sym f) in cc

pub starts : (text bs : List ℕ) → Begins bs text → starts_with nat_eq text bs ≡ true
starts text bs f = (bytes_eq-Decides bs (take (length bs) text)).1 (sym f)

abbrev pub Among : Mark → List Mark → Type 0
Among m [] = ⊥
Among m (x ∷ xs) = (m ≡ x) ⊎ Among m xs

abbrev pub AtMost : ℕ → List Mark → Type 0
AtMost k [] = Unit {0}
AtMost k (m ∷ ms) = (length (spelling m) ≤ k) × AtMost k ms

-- the longer ones first
abbrev pub IsSorted : List Mark → Type 0
IsSorted [] = Unit {0}
IsSorted (m ∷ ms) = AtMost (length (spelling m)) ms × IsSorted ms

at_most : (k : ℕ) (ms : List Mark) (m : Mark) → AtMost k ms → Among m ms → length (spelling m) ≤ k
at_most k [] m h a = absurd a
at_most k (x ∷ xs) m h (inl e) = rw e h.0
at_most k (x ∷ xs) m h (inr a) = at_most k xs m h.1 a

pub record Longest (ms : List Mark) (text : List ℕ) (r : Mark × ℕ) : Type 0 where
  pub long : r.1 ≡ length (spelling r.0)
  pub begins : Begins (spelling r.0) text
  pub longest : (m : Mark) → Among m ms → Begins (spelling m) text → length (spelling m) ≤ r.1

abbrev some_mark : Mark × ℕ → Option (Mark × ℕ)
some_mark r = Some r

abbrev mark_pair : Mark → Mark × ℕ
mark_pair m = (m, length (spelling m))

same_some : (r s : Mark × ℕ) → some_mark r ≡ some_mark s → r ≡ s
same_some r s h = cc

-- The first mark of a sorted table that begins the text is the longest.
pub mark_found : (ms : List Mark) (text : List ℕ) (r : Mark × ℕ) → IsSorted ms → mark_ahead ms text ≡ Some r → Longest ms text r
unfolding mark_ahead
mark_found [] text r s h = absurd (cc)
mark_found (m ∷ ms) text r s h = by_test (starts_with nat_eq text (spelling m)) refl h (mark_found ms text r s.1)
  where
    here : starts_with nat_eq text (spelling m) ≡ true → Longest (m ∷ ms) text (mark_pair m)
    here t = record {
      long = refl;
      begins = begins_true text (spelling m) t;
      longest = λ x a g. elim a [ inl same ↦ let z : length (spelling x) ≡ length (spelling m) = ap (λ y. length (spelling y)) same in omega arith | inr later ↦ let z = at_most (length (spelling m)) ms x s.0 later in omega arith ];
    }

    by_test : (b : Bool) → starts_with nat_eq text (spelling m) ≡ b → cond b (some_mark (mark_pair m)) (mark_ahead ms text) ≡ Some r
        → (mark_ahead ms text ≡ Some r → Longest ms text r) → Longest (m ∷ ms) text r
    by_test true t k ih = let P : Mark × ℕ → Type 0 = λ z. Longest (m ∷ ms) text z in subst P (same_some (mark_pair m) r k) (here t)
    by_test false t k ih =
        let l = ih k in
        record {
          long = l.long;
          begins = l.begins;
          longest = λ x a g. elim a [ inl same ↦ absurd (begins_false text (spelling m) t (rw same at g)) | inr later ↦ l.longest x later g ];
        }

pub mark_none : (ms : List Mark) (text : List ℕ) → mark_ahead ms text ≡ None → (m : Mark) → Among m ms → Begins (spelling m) text → ⊥
unfolding mark_ahead
mark_none [] text h m a f = absurd a
mark_none (x ∷ ms) text h m a f = by_test (starts_with nat_eq text (spelling x)) refl h (λ k b. mark_none ms text k m b f)
  where
    by_test : (b : Bool) → starts_with nat_eq text (spelling x) ≡ b → cond b (some_mark (mark_pair x)) (mark_ahead ms text) ≡ None
        → (mark_ahead ms text ≡ None → Among m ms → ⊥) → ⊥
    by_test true t k ih = cc
    by_test false t k ih = elim a [ inl same ↦ begins_false text (spelling x) t (rw same at f) | inr later ↦ ih k later ]

abbrev pub AmongWords : Word → List Word → Type 0
AmongWords w [] = ⊥
AmongWords w (x ∷ xs) = (w ≡ x) ⊎ AmongWords w xs

abbrev some_word : Word → Option Word
some_word w = Some w

same_word : (v w : Word) → some_word v ≡ some_word w → v ≡ w
same_word v w h = cc

pub word_found : (ws : List Word) (run : List ℕ) (w : Word) → word_in ws run ≡ Some w → run ≡ letters_of w
unfolding word_in
word_found [] run w h = absurd (cc)
word_found (x ∷ ws) run w h = by_test (bytes_eq run (letters_of x)) refl h (word_found ws run w)
  where
    by_test : (b : Bool) → bytes_eq run (letters_of x) ≡ b → cond b (some_word x) (word_in ws run) ≡ Some w → (word_in ws run ≡ Some w → run ≡ letters_of w) → run ≡ letters_of w
    by_test true t k ih = (bytes_eq-Decides run (letters_of x)).0 t ∙ ap letters_of (same_word x w k)
    by_test false t k ih = ih k

pub word_none : (ws : List Word) (run : List ℕ) → word_in ws run ≡ None → (w : Word) → AmongWords w ws → run ≡ letters_of w → ⊥
unfolding word_in
word_none [] run h w a f = absurd a
word_none (x ∷ ws) run h w a f = by_test (bytes_eq run (letters_of x)) refl h (λ k b. word_none ws run k w b f)
  where
    by_test : (b : Bool) → bytes_eq run (letters_of x) ≡ b → cond b (some_word x) (word_in ws run) ≡ None → (word_in ws run ≡ None → AmongWords w ws → ⊥) → ⊥
    by_test true t k ih = cc
    by_test false t k ih = elim a [ inl same ↦ (let u : bytes_eq run (letters_of x) ≡ true = (bytes_eq-Decides run (letters_of x)).1 (f ∙ ap letters_of same) in cc) | inr later ↦ ih k later ]
