-- Comments: where the code finds the end of one.
use Rattle.std.proofs.Common.{◌≡◌, ℕ, zero, suc, ◌+◌, ◌≤◌, Bool, true, false, nat_eq, cond, List, [], ◌∷◌, length, take, drop, inl, inr, Some, refl, sym, ap, subst, ◌∙◌, arith, codes}
use Rattle.std.specs.List.{starts_with}
use Rattle.std.proofs.lemmas.List.{length-take-le}
use Rattle.forec_tree.specs.Lexis.{Each, EndsOr, is_line_end, IsToClose, IsComment, block, line}
use Rattle.forec_lexer.specs.Reading.{close_from, is_in_line}
use Rattle.forec_lexer.proofs.Tables.{begins_true, begins_false, starts}

-- ---- `*/`

pub record Closed (n : ℕ) (text : List ℕ) (m : ℕ) : Type 0 where
  pub size : ℕ
  pub is : m ≡ n + size
  pub within : size ≤ length text
  pub some : 2 ≤ size
  pub closes : IsToClose (take size text)

some_number : (a b : ℕ) → Some a ≡ Some b → a ≡ b
some_number a b h = cc

-- the two bytes ahead are in a front that isn't shorter
two_ahead : (b : ℕ) (bs : List ℕ) (j : ℕ) → 1 ≤ j → take 2 (b ∷ take j bs) ≡ take 2 (b ∷ bs)
two_ahead b bs zero h = absurd (omega arith)
two_ahead b [] (suc k) h = refl
two_ahead b (c ∷ cs) (suc k) h = refl

to_close_some : (bs : List ℕ) → IsToClose bs → 1 ≤ length bs
to_close_some [] h = absurd h
to_close_some (b ∷ bs) h = omega arith

pub close_found : (n : ℕ) (text : List ℕ) (m : ℕ) → close_from n text ≡ Some m → Closed n text m
unfolding close_from
close_found n [] m h = absurd (cc)
close_found n (b ∷ bs) m h = by_test (starts_with nat_eq (b ∷ bs) (codes "*/")) refl h (close_found (n + 1) bs m)
  where
    here : (cs : List ℕ) → take 2 (b ∷ cs) ≡ codes "*/" → (1 ≤ length cs) × (b ∷ take 1 cs ≡ codes "*/")
    here [] e = absurd (cc)
    here (c ∷ cs) e = (omega arith, e)

    by_test : (t : Bool) → starts_with nat_eq (b ∷ bs) (codes "*/") ≡ t → cond t (Some (n + 2)) (close_from (n + 1) bs) ≡ Some m → (close_from (n + 1) bs ≡ Some m → Closed (n + 1) bs m) → Closed n (b ∷ bs) m
    by_test true t k ih =
        let e = here bs (begins_true (b ∷ bs) (codes "*/") t) in
        record { size = 2; is = sym (some_number (n + 2) m k); within = omega (arith, e.0); some = omega arith; closes = inl e.1 }
    by_test false t k ih =
        let r = ih k in
        record {
          size = suc r.size;
          is = omega (arith, r.is);
          within = omega (arith, r.within);
          some = omega (arith, r.some);
          closes = inr ((λ e. begins_false (b ∷ bs) (codes "*/") t (sym (two_ahead b bs r.size (omega (arith, r.some))) ∙ e)), r.closes);
        }

pub close_there : (n : ℕ) (text : List ℕ) (k : ℕ) → k ≤ length text → IsToClose (take k text) → close_from n text ≡ Some (n + k)
unfolding close_from
close_there n text zero le h = absurd h
close_there n [] (suc j) le h = absurd (omega arith)
close_there n (b ∷ bs) (suc j) le (inl e) =
    let two : length (b ∷ take j bs) ≡ 2 = ap length e in
    let one : j ≡ 1 = omega (arith, two, length-take-le j bs) in
    let t : starts_with nat_eq (b ∷ bs) (codes "*/") ≡ true = starts (b ∷ bs) (codes "*/") (sym (two_ahead b bs j (omega arith)) ∙ ap (take 2) e) in
    rw (t, one)
close_there n (b ∷ bs) (suc j) le (inr r) =
    let some : 1 ≤ j = omega (arith, to_close_some (take j bs) r.1, length-take-le j bs) in
    let ih = close_there (n + 1) bs j (omega arith) r.1 in
    let t : starts_with nat_eq (b ∷ bs) (codes "*/") ≡ false = by (starts_with nat_eq (b ∷ bs) (codes "*/")) refl some in
    let k : n + 1 + j ≡ n + suc j = omega arith in
    rw (t, ih, k)
  where
    by : (t : Bool) → starts_with nat_eq (b ∷ bs) (codes "*/") ≡ t → 1 ≤ j → starts_with nat_eq (b ∷ bs) (codes "*/") ≡ false
    by false t some = t
    by true t some = absurd (r.0 (two_ahead b bs j some ∙ begins_true (b ∷ bs) (codes "*/") t))

-- ---- a comment at the front

-- what a comment of n bytes is, by the bytes after the first two
pub data Comment (b c : ℕ) (cs : List ℕ) (n : ℕ) : Type 0 where
  is_block : (k : ℕ) → n ≡ 2 + k → b ≡ 47 → c ≡ 42 → IsToClose (take k cs) → Comment b c cs n
  is_line : (k : ℕ) → n ≡ 2 + k → b ≡ 47 → c ≡ 47 → Each is_in_line (take k cs) → EndsOr is_line_end (drop k cs) → Comment b c cs n

pub comment_opens : (b : ℕ) (bs behind : List ℕ) → IsComment (b ∷ bs) behind → b ≡ 47
comment_opens b bs behind (block inner e h) = cc
comment_opens b bs behind (line inner e h f) = cc

pub comment_some : (behind : List ℕ) → IsComment [] behind → ⊥
comment_some behind (block inner e h) = cc
comment_some behind (line inner e h f) = cc

pub comment_long : (b : ℕ) (behind : List ℕ) → IsComment (b ∷ []) behind → ⊥
comment_long b behind (block inner e h) = cc
comment_long b behind (line inner e h f) = cc

tail_is : (b c d e : ℕ) (cs inner : List ℕ) → b ∷ c ∷ cs ≡ d ∷ e ∷ inner → inner ≡ cs
tail_is b c d e cs inner h = cc

second_is : (b c d e : ℕ) (cs inner : List ℕ) → b ∷ c ∷ cs ≡ d ∷ e ∷ inner → c ≡ e
second_is b c d e cs inner h = cc

first_is : (b c d e : ℕ) (cs inner : List ℕ) → b ∷ c ∷ cs ≡ d ∷ e ∷ inner → b ≡ d
first_is b c d e cs inner h = cc

pub comment_is : (b c : ℕ) (cs : List ℕ) (n : ℕ) → IsComment (take n (b ∷ c ∷ cs)) (drop n (b ∷ c ∷ cs)) → Comment b c cs n
comment_is b c cs zero h = absurd (comment_some (b ∷ c ∷ cs) h)
comment_is b c cs (suc zero) h = absurd (comment_long b (c ∷ cs) h)
comment_is b c cs (suc (suc k)) (block inner e h) =
    let P : List ℕ → Type 0 = λ z. IsToClose z in
    is_block k (omega arith) (first_is b c 47 42 (take k cs) inner e) (second_is b c 47 42 (take k cs) inner e) (subst P (tail_is b c 47 42 (take k cs) inner e) h)
comment_is b c cs (suc (suc k)) (line inner e h f) =
    let P : List ℕ → Type 0 = λ z. Each is_in_line z in
    is_line k (omega arith) (first_is b c 47 47 (take k cs) inner e) (second_is b c 47 47 (take k cs) inner e) (subst P (tail_is b c 47 47 (take k cs) inner e) h) f
