-- What a parser does up to a token depends on the tokens up to this one alone, and stays so under a greater limit.
use mathlib.Core.Path.{subst}
use Rattle.std.proofs.Common.{◌≡◌, ℕ, ℤ, zero, suc, ◌+◌, ◌-◌, ◌≤◌, ◌<◌, Bool, true, false, nat_lt, cond, List, [], ◌∷◌, ◌++◌, length, length-append, Option, Some, None, Ok, Err, refl, sym, ap, arith}
use Rattle.forec_base.specs.declared.Place.{Place}
use Rattle.forec_tree.specs.declared.token.Token.{Token}
use Rattle.forec_tree.specs.declared.token.TokenKind.{TokenKind}
use Rattle.forec_tree.specs.Spelling.{name_at}
use Rattle.forec_tree.specs.Parts.{number_at}
use Rattle.expr_parser.specs.declared.fault.Fault.TheVariants.{Syntax, Deep, OutOfMemory}
use Rattle.expr_parser.specs.declared.fixed.Fixed.{Fixed}
use Rattle.expr_parser.specs.declared.fixed.Fixed.TheVariants as fixed
use Rattle.expr_parser.specs.Input.{Input, input, Parser, Outcome, and_then, ◌>>=◌, pure, refuse, scoped, kind_ahead, take, take_from, raise, raise_from}
use Rattle.expr_parser.specs.Meaning.{is_fixed, token_name, token_number}
use Rattle.expr_parser.specs.Reading as reading
use Rattle.expr_parser.specs.Reading.{next_is, close, enter, name, read_number, leaf_by, leaf, separated, separated_from}
use Rattle.expr_parser.proofs.Spans.{lt_true}

-- tokens that begin with the same one, or none at all
pub data Meets : List Token → List Token → Type 0 where
  both_end : Meets [] []
  same_token : {t : Token} {x y : List Token} → Meets (t ∷ x) (t ∷ y)

kinds : {x y : List Token} → Meets x y → (a : List Token) → kind_ahead (a ++ x) ≡ kind_ahead (a ++ y)
kinds both_end [] = refl
kinds same_token [] = refl
kinds h (s ∷ a) = refl

ends_too : {x y : List Token} → Meets x y → length x ≡ 0 → length y ≡ 0
ends_too both_end e = refl
ends_too same_token e = absurd (omega arith)

ended_too : {x y : List Token} → Meets x y → length y ≡ 0 → length x ≡ 0
ended_too both_end e = refl
ended_too same_token e = absurd (omega arith)

-- Of n tokens those that are left after what is found are fewer by m, and a refused one is among the n.
pub data Within {A : Type 0} (m n : ℕ) : Outcome A → Type 0 where
  leaves : {e : A} {j : Input} → m + length j.rest ≤ n → Within m n (Ok (e, j))
  refuses : {l : ℕ} → l ≤ n → Within m n (Err (Syntax l))
  too_deep : {l : ℕ} → l ≤ n → Within m n (Err (Deep l))

-- The second outcome is the first one, with y in the place of x; of what the first does past the token ahead of x,
-- nothing is said. What is too deep for the first is so for the second where E holds.
pub data Same {A : Type 0} (E : Type 0) (x y : List Token) : Outcome A → Outcome A → Type 0 where
  goes : (e : A) (b : List Token) (w : ℕ) → Same E x y (Ok (e, input (b ++ x) w)) (Ok (e, input (b ++ y) w))
  past : {e : A} {j : Input} {o : Outcome A} → length j.rest < length x → Same E x y (Ok (e, j)) o
  stops : {l : ℕ} {o : Outcome A} → (l ≡ length x → o ≡ Err (Syntax (length y))) → Same E x y (Err (Syntax l)) o
  deep : {l : ℕ} {o : Outcome A} → (E → l ≡ length x → o ≡ Err (Deep (length y))) → Same E x y (Err (Deep l)) o

-- a limit and a greater one, which are the same where E holds
pub record Limits (E : Type 0) (k l : ℕ) : Type 0 where
  pub grows : k ≤ l
  pub equal : E → k ≡ l

pub deeper : {E : Type 0} {k l : ℕ} → Limits E k l → Limits E (suc k) (suc l)
deeper le = let h = le.grows in record { grows = omega (arith, h); equal = λ q. ap (λ z. suc z) (le.equal q) }

pub less_deep : {E : Type 0} {k l : ℕ} → Limits E (suc k) (suc l) → Limits E k l
less_deep le = let h = le.grows in record { grows = omega (arith, h); equal = λ q. let e = le.equal q in omega (arith, e) }

-- A parser, and the same one under a greater limit; at least m tokens are taken.
pub record Steady {A : Type 0} (E : Type 0) (m : ℕ) (p q : Parser A) : Type 0 where
  pub within : (i : Input) → Within m (length i.rest) (p i)
  pub same : (x y : List Token) → Meets x y → (a : List Token) (v : ℕ) → Same E x y (p (input (a ++ x) v)) (q (input (a ++ y) v))

-- ---- outcomes

within_less : {A : Type 0} {k l m n : ℕ} {o : Outcome A} → Within k l o → m + l ≤ n → Within m n o
within_less (leaves h) le = leaves (omega (arith, le, h))
within_less (refuses h) le = refuses (omega (arith, le, h))
within_less (too_deep h) le = too_deep (omega (arith, le, h))

within_then : {A B : Type 0} {k m n : ℕ} {o : Outcome A} (f : A → Parser B) → Within m n o → ((e : A) (j : Input) → Within k (length j.rest) (f e j)) → Within m n (and_then o f)
within_then f (leaves {e} {j} h) g = within_less (g e j) h
within_then f (refuses h) g = refuses h
within_then f (too_deep h) g = too_deep h

within_either : {A : Type 0} {m n : ℕ} (p q : Outcome A) (b : Bool) → Within m n p → Within m n q → Within m n (cond b p q)
within_either p q true g h = g
within_either p q false g h = h

same_either : {A E : Type 0} {x y : List Token} (p q r s : Outcome A) (b : Bool) → Same E x y p r → Same E x y q s → Same E x y (cond b p q) (cond b r s)
same_either p q r s true g h = g
same_either p q r s false g h = h

-- past the token nothing is said
beyond : {A E : Type 0} {x y : List Token} {k n : ℕ} {o : Outcome A} (r : Outcome A) → n < length x → Within k n o → Same E x y o r
beyond r lt (leaves h) = past (omega (arith, lt, h))
beyond r lt (refuses h) = stops (λ e. absurd (omega (arith, lt, h, e)))
beyond r lt (too_deep h) = deep (λ q e. absurd (omega (arith, lt, h, e)))

-- a part, and what stands after it
same_then : {A B E : Type 0} {x y : List Token} {k m n : ℕ} {p q : Outcome A} (f g : A → Parser B) → Same E x y p q → Within m n p
    → ((e : A) (b : List Token) (w : ℕ) → m + length (b ++ x) ≤ n → Same E x y (f e (input (b ++ x) w)) (g e (input (b ++ y) w)))
    → ((e : A) (j : Input) → Within k (length j.rest) (f e j)) → Same E x y (and_then p f) (and_then q g)
same_then f g (goes e b w) (leaves h) t u = t e b w h
same_then f g (past {e} {j} {o} lt) h t u = beyond (and_then o g) lt (u e j)
same_then f g (stops s) h t u = stops (λ e. ap (λ z. and_then z g) (s e))
same_then f g (deep s) h t u = deep (λ q e. ap (λ z. and_then z g) (s q e))

-- ---- parsers

module _ {A B E : Type 0} {k m : ℕ} {p q : Parser A} {f g : A → Parser B} where
  pub bind : Steady E m p q → ((e : A) → Steady E k (f e) (g e)) → Steady E m (p >>= f) (q >>= g)
  bind a b = record {
    within = λ i. within_then f (a.within i) (λ e j. (b e).within j);
    same = λ x y h c v. same_then f g (a.same x y h c v) (a.within (input (c ++ x) v)) (λ e d w le. (b e).same x y h d w) (λ e j. (b e).within j);
  }

module _ {A E : Type 0} {m : ℕ} {p q : Parser A} where
  pub scope : Steady E m p q → Steady E m (scoped p) (scoped q)
  scope a = record {
    within = λ i. within_then {k = 0} (back i.level) (a.within i) (λ e j. leaves (omega arith));
    same = λ x y h c v. same_then {k = 0} (back v) (back v) (a.same x y h c v) (a.within (input (c ++ x) v)) (λ e d w le. goes e d v) (λ e j. leaves (omega arith));
  }
    where
      back : ℕ → A → Parser A
      back v x j = Ok (x, input j.rest v)

  pub loosely : Steady E m p q → Steady E 0 p q
  loosely a = record { within = λ i. within_less (a.within i) (omega arith); same = a.same }

pub done : {A E : Type 0} (e : A) → Steady E 0 (pure e) (pure e)
done e = record { within = λ i. leaves (omega arith); same = λ x y h a v. goes e a v }

refuse_same : {A E : Type 0} (x y a : List Token) → Same {A = A} E x y (Err (Syntax (length (a ++ x)))) (Err (Syntax (length (a ++ y))))
refuse_same x y [] = stops (λ e. refl)
refuse_same x y (s ∷ a) = stops (λ e. absurd (omega (arith, e, length-append a x)))

pub refused : {A E : Type 0} {m : ℕ} → Steady {A = A} E m refuse refuse
refused = record { within = λ i. refuses (omega arith); same = λ x y h a v. refuse_same x y a }

-- a choice by the kind of the token ahead
pub by_kind : {A E : Type 0} {m : ℕ} (c d : Option TokenKind → Parser A) → ((k : Option TokenKind) → Steady E m (c k) (d k)) → Steady E m (λ i. c (kind_ahead i.rest) i) (λ i. d (kind_ahead i.rest) i)
by_kind {E = E} c d f = record {
  within = λ i. (f (kind_ahead i.rest)).within i;
  same = λ x y h a v. subst (λ z. Same E x y (c (kind_ahead (a ++ x)) (input (a ++ x) v)) (d z (input (a ++ y) v))) (kinds h a) ((f (kind_ahead (a ++ x))).same x y h a v);
}

pub either : {A E : Type 0} {m n : ℕ} {p q r s : Parser A} (f : Fixed) → Steady E m p r → Steady E n q s → Steady E 0 (λ i. cond (next_is f i) (p i) (q i)) (λ i. cond (next_is f i) (r i) (s i))
either {A} {E} {m} {n} {p} {q} {r} {s} f a b = by_kind (λ k i. cond (is_fixed f k) (p i) (q i)) (λ k i. cond (is_fixed f k) (r i) (s i)) (λ k. by_test (is_fixed f k))
  where
    by_test : (t : Bool) → Steady E 0 (λ i. cond t (p i) (q i)) (λ i. cond t (r i) (s i))
    by_test true = loosely a
    by_test false = loosely b

exhausted_same : {A E : Type 0} (x y a : List Token) → Same {A = A} E x y (Err (Deep (length (a ++ x)))) (Err (Deep (length (a ++ y))))
exhausted_same x y [] = deep (λ q e. refl)
exhausted_same x y (s ∷ a) = deep (λ q e. absurd (omega (arith, e, length-append a x)))

-- no depth is left
pub exhausted : {A E : Type 0} {m : ℕ} → Steady {A = A} E m (λ i. Err (Deep (length i.rest))) (λ i. Err (Deep (length i.rest)))
exhausted = record { within = λ i. too_deep (omega arith); same = λ x y h a v. exhausted_same x y a }

-- ---- what a refusal says

stopped : {A E : Type 0} {x y : List Token} {p q : Outcome A} → Same E x y p q → p ≡ Err (Syntax (length x)) → q ≡ Err (Syntax (length y))
stopped (goes e b w) h = absurd (cc)
stopped (past lt) h = absurd (cc)
stopped (stops s) h = s cc
stopped (deep s) h = absurd (cc)

stopped_deep : {A E : Type 0} {x y : List Token} {p q : Outcome A} → Same E x y p q → E → p ≡ Err (Deep (length x)) → q ≡ Err (Deep (length y))
stopped_deep (goes e b w) h k = absurd (cc)
stopped_deep (past lt) h k = absurd (cc)
stopped_deep (stops s) h k = absurd (cc)
stopped_deep (deep s) h k = s h cc

among : {A : Type 0} {m n l : ℕ} {o : Outcome A} → Within m n o → o ≡ Err (Syntax l) → l ≤ n
among (leaves h) e = absurd (cc)
among {l = l} (refuses {l = r} h) e = let same : r ≡ l = cc in omega (arith, h, same)
among (too_deep h) e = absurd (cc)

among_deep : {A : Type 0} {m n l : ℕ} {o : Outcome A} → Within m n o → o ≡ Err (Deep l) → l ≤ n
among_deep (leaves h) e = absurd (cc)
among_deep (refuses h) e = absurd (cc)
among_deep {l = l} (too_deep {l = r} h) e = let same : r ≡ l = cc in omega (arith, h, same)

never_memory : {A : Type 0} {m n : ℕ} {o : Outcome A} → Within m n o → o ≡ Err OutOfMemory → ⊥
never_memory (leaves h) e = cc
never_memory (refuses h) e = cc
never_memory (too_deep h) e = cc

-- What is refused at x by one is refused at y by the other.
pub refused_too : {A E : Type 0} {m : ℕ} {p q : Parser A} → Steady E m p q → {x y : List Token} → Meets x y → (a : List Token) (v : ℕ)
    → p (input (a ++ x) v) ≡ Err (Syntax (length x)) → q (input (a ++ y) v) ≡ Err (Syntax (length y))
refused_too t {x} {y} h a v e = stopped (t.same x y h a v) e

pub deep_too : {A E : Type 0} {m : ℕ} {p q : Parser A} → Steady E m p q → E → {x y : List Token} → Meets x y → (a : List Token) (v : ℕ)
    → p (input (a ++ x) v) ≡ Err (Deep (length x)) → q (input (a ++ y) v) ≡ Err (Deep (length y))
deep_too t h {x} {y} m a v e = stopped_deep (t.same x y m a v) h e

pub refused_among : {A E : Type 0} {m : ℕ} {p q : Parser A} → Steady E m p q → (i : Input) (l : ℕ) → p i ≡ Err (Syntax l) → l ≤ length i.rest
refused_among t i l e = among (t.within i) e

pub deep_among : {A E : Type 0} {m : ℕ} {p q : Parser A} → Steady E m p q → (i : Input) (l : ℕ) → p i ≡ Err (Deep l) → l ≤ length i.rest
deep_among t i l e = among_deep (t.within i) e

pub takes_no_memory : {A E : Type 0} {m : ℕ} {p q : Parser A} → Steady E m p q → (i : Input) → p i ≡ Err OutOfMemory → ⊥
takes_no_memory t i e = never_memory (t.within i) e

-- ---- single tokens

pub taken : {E : Type 0} → Steady E 1 take take
unfolding take
taken {E} = record { within = λ i. within i.rest i.level; same = λ x y h a v. same a h v }
  where
    within : (ts : List Token) (v : ℕ) → Within 1 (length ts) (take_from ts v)
    within [] v = refuses (omega arith)
    within (t ∷ ts) v = leaves (omega arith)

    same : {x y : List Token} (a : List Token) → Meets x y → (v : ℕ) → Same E x y (take_from (a ++ x) v) (take_from (a ++ y) v)
    same [] both_end v = stops (λ e. refl)
    same [] same_token v = past (omega arith)
    same (s ∷ a) h v = goes s a v

pub raised : {E : Type 0} (k l : ℕ) → Limits E k l → Steady E 1 (raise k) (raise l)
unfolding raise
raised {E} k l le = record { within = λ i. within i.rest i.level; same = λ x y h a v. same a h v }
  where
    opened : (limit : ℕ) → Token → List Token → ℕ → Bool → Outcome Token
    opened limit t ts v b = cond b (Ok (t, input ts (v + 1))) (Err (Deep (suc (length ts))))

    within_by : (t : Token) (ts : List Token) (v : ℕ) (b : Bool) → Within 1 (suc (length ts)) (opened k t ts v b)
    within_by t ts v true = leaves (omega arith)
    within_by t ts v false = too_deep (omega arith)

    within : (ts : List Token) (v : ℕ) → Within 1 (length ts) (raise_from k ts v)
    within [] v = refuses (omega arith)
    within (t ∷ ts) v = within_by t ts v (nat_lt v k)

    -- where the limits are the same, the other fails as well
    fails : (t : Token) (v : ℕ) (ts : List Token) → nat_lt v k ≡ false → E → opened l t ts v (nat_lt v l) ≡ Err (Deep (suc (length ts)))
    fails t v ts e q = let no : nat_lt v l ≡ false = subst (λ z. nat_lt v z ≡ false) (le.equal q) e in rw no refl

    past_by : (x y : List Token) (t : Token) (v : ℕ) (b : Bool) → nat_lt v k ≡ b → Same E (t ∷ x) (t ∷ y) (opened k t x v b) (opened l t y v (nat_lt v l))
    past_by x y t v true e = past (omega arith)
    past_by x y t v false e = deep (λ q z. fails t v y e q)

    goes_by : (x y : List Token) (t : Token) (a : List Token) (v : ℕ) (b : Bool) → nat_lt v k ≡ b → Same E x y (opened k t (a ++ x) v b) (opened l t (a ++ y) v (nat_lt v l))
    goes_by x y t a v true e = let lower : v < k = grind arith in rw (lt_true v l (omega (arith, lower, le.grows))) (goes t a (v + 1))
    goes_by x y t a v false e = deep (λ q z. absurd (omega (arith, z, length-append a x)))

    same : {x y : List Token} (a : List Token) → Meets x y → (v : ℕ) → Same E x y (raise_from k (a ++ x) v) (raise_from l (a ++ y) v)
    same [] both_end v = stops (λ e. refl)
    same [] (same_token {t} {x} {y}) v = past_by x y t v (nat_lt v k) refl
    same {x} {y} (s ∷ a) h v = goes_by x y s a v (nat_lt v k) refl

module _ {E : Type 0} (f : Fixed) where
  if_it : {p q : Parser Token} → Steady E 1 p q → Steady E 1 (λ i. cond (next_is f i) (p i) (refuse i)) (λ i. cond (next_is f i) (q i) (refuse i))
  if_it {p} {q} a = by_kind (λ k i. cond (is_fixed f k) (p i) (refuse i)) (λ k i. cond (is_fixed f k) (q i) (refuse i)) (λ k. by_test (is_fixed f k))
    where
      by_test : (t : Bool) → Steady E 1 (λ i. cond t (p i) (refuse i)) (λ i. cond t (q i) (refuse i))
      by_test true = a
      by_test false = refused

  pub closed : Steady E 1 (close f) (close f)
  unfolding close
  closed = if_it taken

  pub entered : (k l : ℕ) → Limits E k l → Steady E 1 (enter k f) (enter l f)
  unfolding enter
  entered k l le = if_it (raised k l le)

pub enclosing : {A B E : Type 0} {m : ℕ} {p q : Parser A} (k l : ℕ) → Limits E k l → (left right : Fixed) (f : Token → A → B) → Steady E m p q
    → Steady E 1 (reading.enclosed k left right f p) (reading.enclosed l left right f q)
enclosing k l le left right f a = scope (bind (entered left k l le) (λ t. bind a (λ x. bind (closed right) (λ _. done (f t x)))))

leaf_steady : {A B E : Type 0} (build : A → Place → B) (find : Option TokenKind → Option A) → Steady E 1 (leaf build find) (leaf build find)
leaf_steady {A} {B} {E} build find = by_kind (λ k. leaf_by build (find k)) (λ k. leaf_by build (find k)) (λ k. by (find k))
  where
    by : (o : Option A) → Steady E 1 (leaf_by build o) (leaf_by build o)
    by (Some x) = bind taken (λ t. done _)
    by None = refused

pub named : {E : Type 0} → Steady E 1 name name
unfolding name
named = leaf_steady name_at token_name

pub numbered : {E : Type 0} → Steady E 1 read_number read_number
unfolding read_number
numbered = leaf_steady number_at token_number

-- ---- loops

-- the counts of the turns, which are never used up before the tokens
fewer : (n m c a b x y : ℕ) → suc n ≡ c + (a + x) → suc m ≡ c + (a + y) → 1 + (b + x) ≤ a + x → (d : ℕ) × (n ≡ d + (b + x)) × (m ≡ d + (b + y))
fewer n m c a b x y e f le = (n - (b + x), omega (arith, e, f, le), omega (arith, e, f, le))

-- turns until the token ahead ends them; what a turn reads is added to what is found
pub record Loops {S X : Type 0} (ends : Option TokenKind → Bool) (add : S → X → S) (part : S → Parser X) (turns : ℕ → S → Parser S) : Type 0 where
  pub last : (s : S) (i : Input) → turns 0 s i ≡ cond (ends (kind_ahead i.rest)) (Ok (s, i)) (refuse i)
  pub turn : (n : ℕ) (s : S) (i : Input) → turns (suc n) s i ≡ cond (ends (kind_ahead i.rest)) (Ok (s, i)) (and_then (part s i) (λ x. turns n (add s x)))

module _ {S X E : Type 0} {ends : Option TokenKind → Bool} {add : S → X → S} {p q : S → Parser X} {f g : ℕ → S → Parser S} (a : Loops ends add p f) (b : Loops ends add q g) (t : (s : S) → Steady E 1 (p s) (q s)) where
  abbrev go : (ℕ → S → Parser S) → (S → Parser X) → ℕ → S → Parser S
  go h r n s i = and_then (r s i) (λ x. h n (add s x))

  loop_within : (n : ℕ) (s : S) (i : Input) → Within 0 (length i.rest) (f n s i)
  loop_within zero s i = rw (a.last s i) (within_either (Ok (s, i)) (refuse i) (ends (kind_ahead i.rest)) (leaves (omega arith)) (refuses (omega arith)))
  loop_within (suc n) s i =
      rw (a.turn n s i) (within_either (Ok (s, i)) (go f p n s i) (ends (kind_ahead i.rest)) (leaves (omega arith))
      (within_less (within_then (λ x. f n (add s x)) ((t s).within i) (λ x j. loop_within n (add s x) j)) (omega arith)))

  loop_same : (n o c : ℕ) (s : S) {x y : List Token} → Meets x y → (d : List Token) (v : ℕ) → n ≡ c + (length d + length x) → o ≡ c + (length d + length y)
      → Same E x y (f n s (input (d ++ x) v)) (g o s (input (d ++ y) v))
  loop_same zero zero c s {x} {y} h d v en eo =
      rw (a.last s (input (d ++ x) v), b.last s (input (d ++ y) v), sym (kinds h d)) (same_either _ _ _ _ (ends (kind_ahead (d ++ x))) (goes s d v) (refuse_same x y d))
  loop_same zero (suc o) c s {x} {y} h d v en eo = absurd (let e = ends_too h (omega (arith, en)) in omega (arith, en, eo, e))
  loop_same (suc n) zero c s {x} {y} h d v en eo = absurd (let e = ended_too h (omega (arith, eo)) in omega (arith, en, eo, e))
  loop_same (suc n) (suc o) c s {x} {y} h d v en eo =
      rw (a.turn n s (input (d ++ x) v), b.turn o s (input (d ++ y) v), sym (kinds h d)) (same_either _ _ _ _ (ends (kind_ahead (d ++ x))) (goes s d v)
      (same_then (λ z. f n (add s z)) (λ z. g o (add s z)) ((t s).same x y h d v) ((t s).within (input (d ++ x) v)) (λ e z w le.
      let r = fewer n o c (length d) (length z) (length x) (length y) en eo (omega (arith, le, length-append d x, length-append z x)) in
      loop_same n o r.0 (add s e) h z w r.1 r.2) (λ e j. loop_within n (add s e) j)))

  pub looping : (s : S) → Steady E 0 (λ i. f (length i.rest) s i) (λ i. g (length i.rest) s i)
  looping s = record {
    within = λ i. loop_within (length i.rest) s i;
    same = λ x y h d v. loop_same (length (d ++ x)) (length (d ++ y)) 0 s h d v (omega (arith, length-append d x)) (omega (arith, length-append d y));
  }

-- what stands after a part of a list
abbrev next_part : {A : Type 0} → (List A → Parser (List A)) → List A → Parser (List A)
next_part r found i = cond (next_is fixed.Comma i) (and_then (take i) (λ _. r found)) (Ok (found, i))

module _ {A : Type 0} (r s : List A → Parser (List A)) (w : (found : List A) (i : Input) → Within 0 (length i.rest) (r found i)) where
  next_within : (found : List A) (i : Input) → Within 0 (length i.rest) (next_part r found i)
  next_within found i =
      within_either _ _ (next_is fixed.Comma i) (within_less (within_then (λ _. r found) ((taken {E = ⊥}).within i) (λ t j. w found j)) (omega arith)) (leaves (omega arith))

  next_same : {E : Type 0} {x y : List Token} → Meets x y → (found : List A) (b : List Token) (v : ℕ)
      → ((d : List Token) (u : ℕ) → 1 + (length d + length x) ≤ length b + length x → Same E x y (r found (input (d ++ x) u)) (s found (input (d ++ y) u)))
      → Same E x y (next_part r found (input (b ++ x) v)) (next_part s found (input (b ++ y) v))
  next_same {E} {x} {y} h found b v f =
      rw (sym (kinds h b)) (same_either _ _ _ _ (is_fixed fixed.Comma (kind_ahead (b ++ x)))
      (same_then (λ _. r found) (λ _. s found) ((taken {E = E}).same x y h b v) ((taken {E = ⊥}).within (input (b ++ x) v)) (λ t d u le. f d u (omega (arith, le, length-append b x, length-append d x))) (λ t j. w found j)) (goes found b v))

module _ {A E : Type 0} {m : ℕ} {p q : Parser A} (t : Steady E m p q) where
  list_within : (n : ℕ) (found : List A) (i : Input) → Within 0 (length i.rest) (separated_from p n found i)
  unfolding separated_from
  list_within zero found i = refuses (omega arith)
  list_within (suc n) found i =
      within_less (within_then (λ x. next_part (separated_from p n) (found ++ x ∷ [])) (t.within i)
      (λ x j. next_within (separated_from p n) (separated_from p n) (list_within n) (found ++ x ∷ []) j)) (omega arith)

  list_same : (n o c : ℕ) (found : List A) {x y : List Token} → Meets x y → (d : List Token) (v : ℕ) → n ≡ c + (length d + length x) → o ≡ c + (length d + length y)
      → Same E x y (separated_from p n found (input (d ++ x) v)) (separated_from q o found (input (d ++ y) v))
  unfolding separated_from
  list_same zero zero c found {x} {y} h d v en eo = refuse_same x y d
  list_same zero (suc o) c found {x} {y} h d v en eo = absurd (let e = ends_too h (omega (arith, en)) in omega (arith, en, eo, e))
  list_same (suc n) zero c found {x} {y} h d v en eo = absurd (let e = ended_too h (omega (arith, eo)) in omega (arith, en, eo, e))
  list_same (suc n) (suc o) c found {x} {y} h d v en eo =
      same_then (λ z. next_part (separated_from p n) (found ++ z ∷ [])) (λ z. next_part (separated_from q o) (found ++ z ∷ [])) (t.same x y h d v) (t.within (input (d ++ x) v))
      (λ e b w le. next_same (separated_from p n) (separated_from q o) (list_within n) h (found ++ e ∷ []) b w (λ z u lt.
      let r = fewer n o c (length d) (length z) (length x) (length y) en eo (omega (arith, le, lt, length-append d x, length-append b x)) in
      list_same n o r.0 (found ++ e ∷ []) h z u r.1 r.2))
      (λ e j. next_within (separated_from p n) (separated_from q o) (list_within n) (found ++ e ∷ []) j)

  pub listing : Steady E 0 (separated p) (separated q)
  unfolding separated
  listing = record {
    within = λ i. list_within (length i.rest) [] i;
    same = λ x y h d v. list_same (length (d ++ x)) (length (d ++ y)) 0 [] h d v (omega (arith, length-append d x)) (omega (arith, length-append d y));
  }
