-- Tokens with their levels, and the steps of a parser.
use Rattle.std.proofs.Common.{◌≡◌, ℕ, suc, ◌+◌, ◌≤◌, ◌<◌, Bool, true, false, nat_lt, cond, List, [], ◌∷◌, ◌++◌, length, Option, Some, Ok, Err, refl, sym, ◌∙◌, ap, arith}
use Rattle.forec_tree.specs.declared.token.Token.{Token}
use Rattle.forec_tree.specs.declared.token.TokenKind.{TokenKind}
use Rattle.forec_tree.specs.Spelling.{Spelt, tokens, IsWithin}
use Rattle.expr_parser.specs.declared.fault.Fault.TheVariants.{Deep}
use Rattle.expr_parser.specs.Input.{Input, input, Parser, Outcome, and_then, kind_ahead, take, raise}

pub tokens_append : (a b : List Spelt) (r : List Token) → tokens (a ++ b) ++ r ≡ tokens a ++ (tokens b ++ r)
tokens_append [] b r = refl
tokens_append (s ∷ a) b r = ap (λ x. s.token ∷ x) (tokens_append a b r)

pub longer : (ls : List Spelt) (rest : List Token) → length rest ≤ length (tokens ls ++ rest)
longer [] rest = omega arith
longer (s ∷ ls) rest = omega (arith, longer ls rest)

pub within_front : (m : ℕ) (a b : List Spelt) → IsWithin m (a ++ b) → IsWithin m a
within_front m [] b h = tt
within_front m (s ∷ a) b h = (h.0, within_front m a b h.1)

pub within_back : (m : ℕ) (a b : List Spelt) → IsWithin m (a ++ b) → IsWithin m b
within_back m [] b h = h
within_back m (s ∷ a) b h = within_back m a b h.1

pub within_join : (m : ℕ) (a b : List Spelt) → IsWithin m a → IsWithin m b → IsWithin m (a ++ b)
within_join m [] b h k = k
within_join m (s ∷ a) b h k = (h.0, within_join m a b h.1 k)

pub within_more : (a b : ℕ) (ls : List Spelt) → a ≤ b → IsWithin a ls → IsWithin b ls
within_more a b [] h w = tt
within_more a b (s ∷ ls) h w = (omega (arith, w.0), within_more a b ls h w.1)

-- the kind of the first token of a spelling, or of what stands after it
abbrev pub first : List Spelt → Option TokenKind → Option TokenKind
first [] k = k
first (s ∷ ls) k = Some s.token.kind

pub first-is : (ls : List Spelt) (rest : List Token) → kind_ahead (tokens ls ++ rest) ≡ first ls (kind_ahead rest)
first-is [] rest = refl
first-is (s ∷ ls) rest = refl

pub first-append : (a b : List Spelt) (k : Option TokenKind) → first (a ++ b) k ≡ first a (first b k)
first-append [] b k = refl
first-append (s ∷ a) b k = refl

-- ---- two parsers one after the other, read backwards

pub record BothSucceed {A B : Type 0} (r : Outcome A) (f : A → Parser B) (y : B × Input) : Type 0 where
  pub value : A
  pub state : Input
  pub was : r ≡ Ok (value, state)
  pub goes : f value state ≡ Ok y

pub step : {A B : Type 0} (r : Outcome A) (f : A → Parser B) (y : B × Input) → and_then r f ≡ Ok y → BothSucceed r f y
step (Ok p) f y h = record { value = p.0; state = p.1; was = refl; goes = h }
step (Err x) f y h = absurd (cc)

abbrev pub ok_of : {A : Type 0} → A → Input → Outcome A
ok_of a i = Ok (a, i)

abbrev both_of : {A : Type 0} → A → Input → A × Input
both_of a i = (a, i)

pub ok_pair : {A : Type 0} (s t : A) (i j : Input) → ok_of s i ≡ ok_of t j → (s ≡ t) × (i ≡ j)
ok_pair s t i j h = let p : both_of s i ≡ both_of t j = cc in (ap (λ q. q.0) p, ap (λ q. q.1) p)

pub record Took (t : Token) (i j : Input) : Type 0 where
  pub front : i.rest ≡ t ∷ j.rest
  pub level : j.level ≡ i.level

pub record Raised (limit : ℕ) (t : Token) (i j : Input) : Type 0 where
  pub front : i.rest ≡ t ∷ j.rest
  pub level : j.level ≡ i.level + 1
  pub small : i.level + 1 ≤ limit

pub took : (ts : List Token) (v : ℕ) (t : Token) (j : Input) → take (input ts v) ≡ Ok (t, j) → Took t (input ts v) j
unfolding take
took [] v t j h = absurd (cc)
took (s ∷ ts) v t j h =
    let p = ok_pair s t (input ts v) j h in
    record { front = let a : s ≡ t = p.0 in let b : ts ≡ j.rest = ap (λ (k : Input). k.rest) p.1 in cc; level = ap (λ (k : Input). k.level) (sym p.1) }

pub raised : (limit : ℕ) (ts : List Token) (v : ℕ) (t : Token) (j : Input) → raise limit (input ts v) ≡ Ok (t, j) → Raised limit t (input ts v) j
unfolding raise
raised limit [] v t j h = absurd (cc)
raised limit (s ∷ ts) v t j h = by_test (nat_lt v limit) refl h
  where
    by_test : (b : Bool) → nat_lt v limit ≡ b → (cond b (ok_of s (input ts (v + 1))) (Err (Deep (suc (length ts))))) ≡ Ok (t, j) → Raised limit t (input (s ∷ ts) v) j
    by_test true e k =
        let p = ok_pair s t (input ts (v + 1)) j k in
        let a : s ≡ t = p.0 in let b : ts ≡ j.rest = ap (λ (k : Input). k.rest) p.1 in
        record { front = cc; level = ap (λ (k : Input). k.level) (sym p.1); small = grind arith }
    by_test false e k = absurd (cc)

pub head_kind : (ts rest : List Token) (t : Token) (k : TokenKind) → ts ≡ t ∷ rest → kind_ahead ts ≡ Some k → t.kind ≡ k
head_kind ts rest t k e h = let a : Some t.kind ≡ Some k = ap kind_ahead (sym e) ∙ h in cc

-- ---- steps, forwards

pub lt_true : (a b : ℕ) → a < b → nat_lt a b ≡ true
lt_true a b h = grind arith

pub raise_ok : (limit : ℕ) (t : Token) (ts : List Token) (v : ℕ) → v + 1 ≤ limit → raise limit (input (t ∷ ts) v) ≡ Ok (t, input ts (v + 1))
unfolding raise
raise_ok limit t ts v h = let e : nat_lt v limit ≡ true = lt_true _ _ (omega arith) in rw e

pub take_ok : (t : Token) (ts : List Token) (v : ℕ) → take (input (t ∷ ts) v) ≡ Ok (t, input ts v)
unfolding take
take_ok t ts v = refl
