-- A parser and what it reads, both ways; and the same of each way to put parsers together.
use mathlib.Core.Path.{subst}
use Rattle.std.proofs.Common.{◌≡◌, ℕ, suc, ◌≤◌, ◌<◌, Bool, true, false, cond, List, [], ◌∷◌, ◌++◌, length, Option, Ok, Err, refl, sym, ◌∙◌, ap, arith}
use Rattle.forec_tree.specs.declared.token.Token.{Token}
use Rattle.forec_tree.specs.declared.token.TokenKind.{TokenKind}
use Rattle.forec_tree.specs.Spelling.{Spelt, tokens, IsWithin}
use Rattle.expr_parser.specs.declared.fixed.Fixed.{Fixed}
use Rattle.expr_parser.specs.declared.fault.Fault.TheVariants.{Deep}
use Rattle.expr_parser.specs.Input.{Input, input, Parser, Outcome, and_then, ◌>>=◌, pure, scoped, kind_ahead}
use Rattle.expr_parser.specs.Meaning.{is_fixed}
use Rattle.expr_parser.specs.Reading.{next_is}
use Rattle.expr_parser.proofs.Spans.{tokens_append, within_join, first, first-is, step, ok_of, ok_pair}

-- what a parser reads: the level before, the value, the level after, the tokens, and the kind of the token after them
abbrev pub Lang : Type 0 → Type 1
Lang A = ℕ → A → ℕ → List Spelt → Option TokenKind → Type 0

pub record Read {A : Type 0} (limit : ℕ) (P : Lang A) (x : A) (i j : Input) : Type 0 where
  pub spelt : List Spelt
  pub front : i.rest ≡ tokens spelt ++ j.rest
  pub spells : P i.level x j.level spelt (kind_ahead j.rest)
  pub within : IsWithin limit spelt
  pub small : j.level ≤ limit

-- one of the tokens opens a level above the limit; l tokens are left from it on
pub data Above (limit l : ℕ) (rest : List Token) : List Spelt → Type 0 where
  above_here : {s : Spelt} {ls : List Spelt} → limit < s.level → l ≡ suc (length (tokens ls ++ rest)) → Above limit l rest (s ∷ ls)
  above_later : {s : Spelt} {ls : List Spelt} → Above limit l rest ls → Above limit l rest (s ∷ ls)

-- what comes of tokens that spell x: it is read, or a token is refused that opens a level above the limit
pub data Follows {A : Type 0} (limit : ℕ) (x : A) (w : ℕ) (ls : List Spelt) (rest : List Token) : Outcome A → Type 0 where
  comes : Follows limit x w ls rest (Ok (x, input rest w))
  too_high : {l : ℕ} → Above limit l rest ls → Follows limit x w ls rest (Err (Deep l))

-- What the parser finds is in P, and of what is in Q it finds what the limit allows.
pub record Exact {A : Type 0} (limit : ℕ) (p : Parser A) (P Q : Lang A) : Type 0 where
  pub sound : (i j : Input) (x : A) → i.level ≤ limit → p i ≡ Ok (x, j) → Read limit P x i j
  pub complete : (v w : ℕ) (x : A) (ls : List Spelt) (rest : List Token) → Q v x w ls (kind_ahead rest) → Follows limit x w ls rest (p (input (tokens ls ++ rest) v))

-- ---- languages

pub data Bind {A B : Type 0} (P : Lang A) (Q : A → Lang B) : ℕ → B → ℕ → List Spelt → Option TokenKind → Type 0 where
  both : {v u w : ℕ} {x : A} {y : B} {ls rs : List Spelt} {k : Option TokenKind} → P v x u ls (first rs k) → Q x u y w rs k → Bind P Q v y w (ls ++ rs) k

pub data Map {A B : Type 0} (f : A → B) (P : Lang A) : ℕ → B → ℕ → List Spelt → Option TokenKind → Type 0 where
  mapped : {v w : ℕ} {x : A} {ls : List Spelt} {k : Option TokenKind} → P v x w ls k → Map f P v (f x) w ls k

pub data Scoped {A : Type 0} (P : Lang A) : ℕ → A → ℕ → List Spelt → Option TokenKind → Type 0 where
  inside : {v w : ℕ} {x : A} {ls : List Spelt} {k : Option TokenKind} → P v x w ls k → Scoped P v x v ls k

pub data Done {A : Type 0} (x : A) : ℕ → A → ℕ → List Spelt → Option TokenKind → Type 0 where
  done : {v : ℕ} {k : Option TokenKind} → Done x v x v [] k

pub data If {A : Type 0} (f : Fixed) (P Q : Lang A) : ℕ → A → ℕ → List Spelt → Option TokenKind → Type 0 where
  on : {v w : ℕ} {x : A} {ls : List Spelt} {k : Option TokenKind} → is_fixed f (first ls k) ≡ true → P v x w ls k → If f P Q v x w ls k
  off : {v w : ℕ} {x : A} {ls : List Spelt} {k : Option TokenKind} → is_fixed f (first ls k) ≡ false → Q v x w ls k → If f P Q v x w ls k

-- a part, and what follows it by the token ahead; the part itself is told of in two ways
pub data Choice {A B : Type 0} (f : Fixed) (P1 P0 : Lang A) (Q1 Q0 : A → Lang B) : ℕ → B → ℕ → List Spelt → Option TokenKind → Type 0 where
  taken : {v u w : ℕ} {x : A} {y : B} {ls rs : List Spelt} {k : Option TokenKind} → is_fixed f (first rs k) ≡ true → P1 v x u ls (first rs k) → Q1 x u y w rs k → Choice f P1 P0 Q1 Q0 v y w (ls ++ rs) k
  left_out : {v u w : ℕ} {x : A} {y : B} {ls rs : List Spelt} {k : Option TokenKind} → is_fixed f (first rs k) ≡ false → P0 v x u ls (first rs k) → Q0 x u y w rs k → Choice f P1 P0 Q1 Q0 v y w (ls ++ rs) k

-- a part that leaves the level as it was, where the token after is one of these
pub data Part {A : Type 0} (C : Option TokenKind → Type 0) (R : A → ℕ → List Spelt → Type 0) : ℕ → A → ℕ → List Spelt → Option TokenKind → Type 0 where
  part : {v : ℕ} {x : A} {ls : List Spelt} {k : Option TokenKind} → R x v ls → C k → Part C R v x v ls k

-- what the parser finds, by itself
pub data Reading {A : Type 0} (limit : ℕ) (p : Parser A) : ℕ → A → ℕ → List Spelt → Option TokenKind → Type 0 where
  reading : {v w : ℕ} {x : A} {ls : List Spelt} {k : Option TokenKind}
      → ((rest : List Token) → kind_ahead rest ≡ k → Follows limit x w ls rest (p (input (tokens ls ++ rest) v))) → Reading limit p v x w ls k

abbrev pub Any : Option TokenKind → Type 0
Any k = Unit {0}

-- ---- what comes of a spelling

pub above_front : {limit l : ℕ} {rest : List Token} (rs : List Spelt) {ls : List Spelt} → Above limit l (tokens rs ++ rest) ls → Above limit l rest (ls ++ rs)
above_front {rest = rest} rs (above_here {s} {ls} lt e) = above_here lt (e ∙ ap (λ z. suc (length z)) (sym (tokens_append ls rs rest)))
above_front rs (above_later a) = above_later (above_front rs a)

pub above_back : {limit l : ℕ} {rest : List Token} (ls : List Spelt) {rs : List Spelt} → Above limit l rest rs → Above limit l rest (ls ++ rs)
above_back [] a = a
above_back (s ∷ ls) a = above_later (above_back ls a)

pub not_above : {limit l : ℕ} {rest : List Token} {ls : List Spelt} → Above limit l rest ls → IsWithin limit ls → ⊥
not_above (above_here lt e) w = omega (arith, lt, w.0)
not_above (above_later a) w = not_above a w.1

-- within the limit all is read
pub comes_within : {A : Type 0} {limit w : ℕ} {x : A} {ls : List Spelt} {rest : List Token} {o : Outcome A} → Follows limit x w ls rest o → IsWithin limit ls → o ≡ Ok (x, input rest w)
comes_within comes h = refl
comes_within (too_high a) h = absurd (not_above a h)

pub follow_behind : {A : Type 0} {limit w : ℕ} {x : A} (ls : List Spelt) {rs : List Spelt} {rest : List Token} {o : Outcome A} → Follows limit x w rs rest o → Follows limit x w (ls ++ rs) rest o
follow_behind ls comes = comes
follow_behind ls (too_high a) = too_high (above_back ls a)

-- what stands after a part
pub follow_then : {A B : Type 0} {limit u w : ℕ} {x : A} {y : B} {ls : List Spelt} (rs : List Spelt) {rest : List Token} {o : Outcome A} (f : A → Parser B) → Follows limit x u ls (tokens rs ++ rest) o
    → Follows limit y w rs rest (f x (input (tokens rs ++ rest) u)) → Follows limit y w (ls ++ rs) rest (and_then o f)
follow_then {ls = ls} rs f comes h = follow_behind ls h
follow_then rs f (too_high a) h = too_high (above_front rs a)

-- the same tokens, of which something else is made
pub follow_as : {A B : Type 0} {limit u w : ℕ} {x : A} {y : B} {ls : List Spelt} {rest : List Token} {o : Outcome A} (f : A → Parser B) → Follows limit x u ls rest o → f x (input rest u) ≡ Ok (y, input rest w)
    → Follows limit y w ls rest (and_then o f)
follow_as f comes h = rw h comes
follow_as f (too_high a) h = too_high a

-- ---- putting together

-- a part after another one
pub then_read : {limit : ℕ} {A B : Type 0} {P : Lang A} {Q : A → Lang B} {x : A} {y : B} {i j k : Input} → Read limit P x i j → Read limit (Q x) y j k → Read limit (Bind P Q) y i k
then_read {limit} {A} {B} {P} {Q} {x} {y} {i} {j} {k} m n =
    let e : kind_ahead j.rest ≡ first n.spelt (kind_ahead k.rest) = ap kind_ahead n.front ∙ first-is n.spelt k.rest in
    let R : Option TokenKind → Type 0 = λ z. P i.level x j.level m.spelt z in
    record {
      spelt = m.spelt ++ n.spelt;
      front = m.front ∙ ap (λ z. tokens m.spelt ++ z) n.front ∙ sym (tokens_append m.spelt n.spelt k.rest);
      spells = both (subst R e m.spells) n.spells;
      within = within_join limit m.spelt n.spelt m.within n.within;
      small = n.small;
    }

-- the same tokens in another language; what stands first among them is what stood ahead
pub read_as : {limit : ℕ} {A B : Type 0} {P : Lang A} {Q : Lang B} {x : A} {y : B} {i j : Input} → Read limit P x i j
    → ((ls : List Spelt) → first ls (kind_ahead j.rest) ≡ kind_ahead i.rest → P i.level x j.level ls (kind_ahead j.rest) → Q i.level y j.level ls (kind_ahead j.rest)) → Read limit Q y i j
read_as {limit} {A} {B} {P} {Q} {x} {y} {i} {j} m to =
    record { spelt = m.spelt; front = m.front; spells = to m.spelt (sym (ap kind_ahead m.front ∙ first-is m.spelt j.rest)) m.spells; within = m.within; small = m.small }

-- what a rule finds, by what it is made of
pub reads_by : {limit : ℕ} {A : Type 0} {p : Parser A} {P Q : Lang A} {v w : ℕ} {x : A} {ls : List Spelt} {k : Option TokenKind} → Exact limit p P Q → Q v x w ls k → Reading limit p v x w ls k
reads_by {limit} {A} {p} {P} {Q} {v} {w} {x} {ls} {k} a q =
    reading (λ rest e. let R : Option TokenKind → Type 0 = λ z. Q v x w ls z in a.complete v w x ls rest (subst R (sym e) q))

module _ {limit : ℕ} {A B : Type 0} {p : Parser A} {f : A → Parser B} {P P' : Lang A} {Q Q' : A → Lang B} where
  pub bind : Exact limit p P P' → ((x : A) → Exact limit (f x) (Q x) (Q' x)) → Exact limit (p >>= f) (Bind P Q) (Bind P' Q')
  bind a b = record { sound = so; complete = λ v w y ls rest q. co q rest refl }
    where
      so : (i j : Input) (y : B) → i.level ≤ limit → and_then (p i) f ≡ Ok (y, j) → Read limit (Bind P Q) y i j
      so i j y small h =
          let s = step (p i) f (y, j) h in
          let m = a.sound i s.state s.value small s.was in
          then_read m ((b s.value).sound s.state j y m.small s.goes)

      co : {v w : ℕ} {y : B} {ls : List Spelt} {k : Option TokenKind} → Bind P' Q' v y w ls k → (rest : List Token) → k ≡ kind_ahead rest → Follows limit y w ls rest (and_then (p (input (tokens ls ++ rest) v)) f)
      co (both {v} {u} {w} {x} {y} {ls} {rs} {k} l r) rest e =
          let R : Option TokenKind → Type 0 = λ z. P' v x u ls z in
          let S : Option TokenKind → Type 0 = λ z. Q' x u y w rs z in
          let front : first rs k ≡ kind_ahead (tokens rs ++ rest) = ap (first rs) e ∙ sym (first-is rs rest) in
          let one : Follows limit x u ls (tokens rs ++ rest) (p (input (tokens ls ++ (tokens rs ++ rest)) v)) = a.complete v u x ls (tokens rs ++ rest) (subst R front l) in
          let two : Follows limit y w rs rest (f x (input (tokens rs ++ rest) u)) = (b x).complete u w y rs rest (subst S e r) in
          rw (tokens_append ls rs rest) (follow_then rs f one two)

module _ {limit : ℕ} {A B : Type 0} {p : Parser A} {P P' : Lang A} where
  pub map_to : (f : A → B) → Exact limit p P P' → Exact limit (p >>= (λ x. pure (f x))) (Map f P) (Map f P')
  map_to f a = record { sound = so; complete = λ v w y ls rest q. of q rest refl }
    where
      so : (i j : Input) (y : B) → i.level ≤ limit → and_then (p i) (λ x. pure (f x)) ≡ Ok (y, j) → Read limit (Map f P) y i j
      so i j y small h =
          let s = step (p i) (λ x. pure (f x)) (y, j) h in
          let m = a.sound i s.state s.value small s.was in
          let e = ok_pair (f s.value) y s.state j s.goes in
          let made : Read limit (Map f P) (f s.value) i s.state = record { spelt = m.spelt; front = m.front; spells = mapped m.spells; within = m.within; small = m.small } in
          let R : Input → Type 0 = λ z. Read limit (Map f P) (f s.value) i z in
          let S : B → Type 0 = λ z. Read limit (Map f P) z i j in
          subst S e.0 (subst R e.1 made)

      of : {v w : ℕ} {y : B} {ls : List Spelt} {k : Option TokenKind} → Map f P' v y w ls k → (rest : List Token) → k ≡ kind_ahead rest → Follows limit y w ls rest (and_then (p (input (tokens ls ++ rest) v)) (λ x. pure (f x)))
      of (mapped {v} {w} {x} {ls} {k} q) rest e =
          let R : Option TokenKind → Type 0 = λ z. P' v x w ls z in
          follow_as (λ x. pure (f x)) (a.complete v w x ls rest (subst R e q)) refl

module _ {limit : ℕ} {A : Type 0} {p : Parser A} {P P' : Lang A} where
  pub scope : Exact limit p P P' → Exact limit (scoped p) (Scoped P) (Scoped P')
  scope a = record { sound = so; complete = λ v w y ls rest q. of q rest refl }
    where
      so : (i j : Input) (y : A) → i.level ≤ limit → and_then (p i) (λ x j. Ok (x, input j.rest i.level)) ≡ Ok (y, j) → Read limit (Scoped P) y i j
      so i j y small h =
          let s = step (p i) (λ x j. Ok (x, input j.rest i.level)) (y, j) h in
          let m = a.sound i s.state s.value small s.was in
          let e = ok_pair s.value y (input s.state.rest i.level) j s.goes in
          let made : Read limit (Scoped P) s.value i (input s.state.rest i.level) = record { spelt = m.spelt; front = m.front; spells = inside m.spells; within = m.within; small = small } in
          let R : Input → Type 0 = λ z. Read limit (Scoped P) s.value i z in
          let S : A → Type 0 = λ z. Read limit (Scoped P) z i j in
          subst S e.0 (subst R e.1 made)

      of : {v w : ℕ} {y : A} {ls : List Spelt} {k : Option TokenKind} → Scoped P' v y w ls k → (rest : List Token) → k ≡ kind_ahead rest → Follows limit y w ls rest (scoped p (input (tokens ls ++ rest) v))
      of (inside {v} {w} {x} {ls} {k} q) rest e =
          let R : Option TokenKind → Type 0 = λ z. P' v x w ls z in
          follow_as (λ x j. Ok (x, input j.rest v)) (a.complete v w x ls rest (subst R e q)) refl

  -- the same parser, by what else its language is
  pub convert : {R R' : Lang A} → ((v w : ℕ) (x : A) (ls : List Spelt) (k : Option TokenKind) → P v x w ls k → R v x w ls k)
      → ((v w : ℕ) (x : A) (ls : List Spelt) (k : Option TokenKind) → R' v x w ls k → P' v x w ls k) → Exact limit p P P' → Exact limit p R R'
  convert to from a = record {
    sound = λ i j x small h. let m = a.sound i j x small h in
        record { spelt = m.spelt; front = m.front; spells = to i.level j.level x m.spelt (kind_ahead j.rest) m.spells; within = m.within; small = m.small };
    complete = λ v w x ls rest q. a.complete v w x ls rest (from v w x ls (kind_ahead rest) q);
  }

  pub either : {q : Parser A} {Q Q' : Lang A} (f : Fixed) → Exact limit p P P' → Exact limit q Q Q' → Exact limit (λ i. cond (next_is f i) (p i) (q i)) (If f P Q) (If f P' Q')
  either {q} {Q} {Q'} f a b = record { sound = λ i j x small h. so i j x small (next_is f i) refl h; complete = λ v w y ls rest q. of q rest refl }
    where
      so : (i j : Input) (y : A) → i.level ≤ limit → (t : Bool) → next_is f i ≡ t → cond t (p i) (q i) ≡ Ok (y, j) → Read limit (If f P Q) y i j
      so i j y small true e h =
          let m = a.sound i j y small h in
          let s : is_fixed f (first m.spelt (kind_ahead j.rest)) ≡ true = ap (is_fixed f) (sym (ap kind_ahead m.front ∙ first-is m.spelt j.rest)) ∙ e in
          record { spelt = m.spelt; front = m.front; spells = on s m.spells; within = m.within; small = m.small }
      so i j y small false e h =
          let m = b.sound i j y small h in
          let s : is_fixed f (first m.spelt (kind_ahead j.rest)) ≡ false = ap (is_fixed f) (sym (ap kind_ahead m.front ∙ first-is m.spelt j.rest)) ∙ e in
          record { spelt = m.spelt; front = m.front; spells = off s m.spells; within = m.within; small = m.small }

      of : {v w : ℕ} {y : A} {ls : List Spelt} {k : Option TokenKind} → If f P' Q' v y w ls k → (rest : List Token) → k ≡ kind_ahead rest
          → Follows limit y w ls rest (cond (is_fixed f (kind_ahead (tokens ls ++ rest))) (p (input (tokens ls ++ rest) v)) (q (input (tokens ls ++ rest) v)))
      of (on {v} {w} {x} {ls} {k} t l) rest e =
          let R : Option TokenKind → Type 0 = λ z. P' v x w ls z in
          let s : is_fixed f (kind_ahead (tokens ls ++ rest)) ≡ true = ap (is_fixed f) (first-is ls rest ∙ ap (first ls) (sym e)) ∙ t in
          rw s (a.complete v w x ls rest (subst R e l))
      of (off {v} {w} {x} {ls} {k} t l) rest e =
          let R : Option TokenKind → Type 0 = λ z. Q' v x w ls z in
          let s : is_fixed f (kind_ahead (tokens ls ++ rest)) ≡ false = ap (is_fixed f) (first-is ls rest ∙ ap (first ls) (sym e)) ∙ t in
          rw s (b.complete v w x ls rest (subst R e l))

pub done_at : {limit : ℕ} {A : Type 0} (x : A) → Exact limit (pure x) (Done x) (Done x)
done_at {limit} {A} x = record { sound = so; complete = λ v w y ls rest q. of q rest }
  where
    so : (i j : Input) (y : A) → i.level ≤ limit → ok_of x i ≡ Ok (y, j) → Read limit (Done x) y i j
    so i j y small h =
        let e = ok_pair x y i j h in
        let made : Read limit (Done x) x i i = record { spelt = []; front = refl; spells = done; within = tt; small = small } in
        let R : Input → Type 0 = λ z. Read limit (Done x) x i z in
        let S : A → Type 0 = λ z. Read limit (Done x) z i j in
        subst S e.0 (subst R e.1 made)

    of : {v w : ℕ} {y : A} {ls : List Spelt} {k : Option TokenKind} → Done x v y w ls k → (rest : List Token) → Follows limit y w ls rest (ok_of x (input (tokens ls ++ rest) v))
    of (done {v} {k}) rest = comes

pub by_reading : {limit : ℕ} {A : Type 0} {p : Parser A} {P : Lang A} → ((i j : Input) (x : A) → i.level ≤ limit → p i ≡ Ok (x, j) → Read limit P x i j) → Exact limit p P (Reading limit p)
by_reading {limit} {A} {p} {P} s = record { sound = s; complete = λ v w x ls rest q. of q rest refl }
  where
    of : {v w : ℕ} {x : A} {ls : List Spelt} {k : Option TokenKind} → Reading limit p v x w ls k → (rest : List Token) → k ≡ kind_ahead rest → Follows limit x w ls rest (p (input (tokens ls ++ rest) v))
    of (reading r) rest e = r rest (sym e)

pub read_at : {limit : ℕ} {A : Type 0} {p : Parser A} {v w : ℕ} {x : A} {ls : List Spelt} {k : Option TokenKind} → Reading limit p v x w ls k → (rest : List Token) → kind_ahead rest ≡ k
    → Follows limit x w ls rest (p (input (tokens ls ++ rest) v))
read_at (reading r) = r

module _ {limit : ℕ} {A B : Type 0} {p : Parser A} {g h : A → Parser B} {P1 P0 P' : Lang A} {Q1 Q0 R1 R0 : A → Lang B} (f : Fixed) where
  pub choose_by : Exact limit p P1 P' → Exact limit p P0 P' → ((x : A) → Exact limit (g x) (Q1 x) (R1 x)) → ((x : A) → Exact limit (h x) (Q0 x) (R0 x))
      → Exact limit (p >>= (λ x i. cond (next_is f i) (g x i) (h x i))) (Choice f P1 P0 Q1 Q0) (Bind P' (λ x. If f (R1 x) (R0 x)))
  unfolding then_read
  choose_by a b c d = record { sound = so; complete = (bind a (λ x. either f (c x) (d x))).complete }
    where
      by_test : (i m j : Input) (x : A) (y : B) → i.level ≤ limit → p i ≡ Ok (x, m) → (t : Bool) → next_is f m ≡ t → cond t (g x m) (h x m) ≡ Ok (y, j) → Read limit (Choice f P1 P0 Q1 Q0) y i j
      by_test i m j x y small was true e k =
          let q = a.sound i m x small was in
          let n = (c x).sound m j y q.small k in
          let r : Read limit (Bind P1 Q1) y i j = then_read q n in
          let s : is_fixed f (first n.spelt (kind_ahead j.rest)) ≡ true = ap (is_fixed f) (sym (ap kind_ahead n.front ∙ first-is n.spelt j.rest)) ∙ e in
          let o : kind_ahead m.rest ≡ first n.spelt (kind_ahead j.rest) = ap kind_ahead n.front ∙ first-is n.spelt j.rest in
          let R : Option TokenKind → Type 0 = λ z. P1 i.level x m.level q.spelt z in
          record { spelt = r.spelt; front = r.front; spells = taken s (subst R o q.spells) n.spells; within = r.within; small = r.small }
      by_test i m j x y small was false e k =
          let q = b.sound i m x small was in
          let n = (d x).sound m j y q.small k in
          let r : Read limit (Bind P0 Q0) y i j = then_read q n in
          let s : is_fixed f (first n.spelt (kind_ahead j.rest)) ≡ false = ap (is_fixed f) (sym (ap kind_ahead n.front ∙ first-is n.spelt j.rest)) ∙ e in
          let o : kind_ahead m.rest ≡ first n.spelt (kind_ahead j.rest) = ap kind_ahead n.front ∙ first-is n.spelt j.rest in
          let R : Option TokenKind → Type 0 = λ z. P0 i.level x m.level q.spelt z in
          record { spelt = r.spelt; front = r.front; spells = left_out s (subst R o q.spells) n.spells; within = r.within; small = r.small }

      so : (i j : Input) (y : B) → i.level ≤ limit → and_then (p i) (λ x m. cond (next_is f m) (g x m) (h x m)) ≡ Ok (y, j) → Read limit (Choice f P1 P0 Q1 Q0) y i j
      so i j y small k =
          let s = step (p i) (λ x m. cond (next_is f m) (g x m) (h x m)) (y, j) k in
          by_test i s.state j s.value y small s.was (next_is f s.state) refl s.goes
