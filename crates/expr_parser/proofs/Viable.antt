-- Where a parser refuses, what it took is the front of a phrase (a viable prefix); and the same of each way to put parsers together.
use mathlib.Core.Path.{subst}
use Rattle.std.proofs.Common.{◌≡◌, ℕ, suc, ◌+◌, ◌≤◌, ◌⊎◌, inl, inr, Bool, true, false, cond, List, [], ◌∷◌, ◌++◌, length, Option, Some, Ok, Err, refl, sym, ◌∙◌, ap, append_assoc, arith}
use Rattle.forec_tree.specs.declared.token.Token.{Token}
use Rattle.forec_tree.specs.declared.token.TokenKind.{TokenKind}
use Rattle.forec_tree.specs.Spelling.{Spelt, at, tokens, IsWithin}
use Rattle.expr_parser.specs.declared.fault.Fault.{Fault}
use Rattle.expr_parser.specs.declared.fault.Fault.TheVariants.{Syntax, Deep}
use Rattle.expr_parser.specs.declared.fixed.Fixed.{Fixed}
use Rattle.expr_parser.specs.Input.{Input, input, Parser, Outcome, and_then, ◌>>=◌, pure, scoped, kind_ahead}
use Rattle.expr_parser.specs.Meaning.{is_fixed}
use Rattle.expr_parser.specs.Reading.{next_is}
use Rattle.expr_parser.proofs.Spans.{tokens_append, within_join, first, first-append}
use Rattle.expr_parser.proofs.Closers.{kind_of, fixed-kind, kind-fixed}
use Rattle.expr_parser.proofs.Leaves.{Filled}
use Rattle.expr_parser.proofs.Exact.{Lang, Read, Exact, Bind, both, Map, mapped, Scoped, inside, Done, done, If, on, off, Choice, taken, left_out}

-- a token that is made up, to end a phrase
abbrev pub made : TokenKind → Token
made k = record { kind = k; start = 0; end = 0; place = record { line = 1; column = 1 } }

-- ---- fronts

-- These tokens begin a phrase from the level v, after which k stands.
pub record Front {A : Type 0} (P : Lang A) (k : Option TokenKind) (v : ℕ) (ls : List Spelt) : Type 0 where
  pub value : A
  pub last : ℕ
  pub behind : List Spelt
  pub spells : P v value last (ls ++ behind) k

-- A phrase whose first token, or the one after it, is b.
pub record Least {A : Type 0} (P : Lang A) (b k : Option TokenKind) (v : ℕ) : Type 0 where
  pub value : A
  pub last : ℕ
  pub tokens : List Spelt
  pub spells : P v value last tokens k
  pub begins : first tokens k ≡ b

-- What stands after the tokens that are within the limit: a token with which no rule goes on, or one that opens a level above.
pub data Barred (limit : ℕ) : Fault → List Spelt → List Token → Type 0 where
  stuck : {rest : List Token} → Barred limit (Syntax (length rest)) [] rest
  above : {t : Token} {rest : List Token} → Barred limit (Deep (suc (length rest))) (at t (limit + 1) ∷ []) (t ∷ rest)

-- The parser takes what is spelt, a front of a phrase in P, and is refused after it.
pub record Refused {A : Type 0} (limit : ℕ) (P : Lang A) (k : Option TokenKind) (i : Input) (e : Fault) : Type 0 where
  pub spelt : List Spelt
  pub opened : List Spelt
  pub rest : List Token
  pub front : i.rest ≡ tokens spelt ++ rest
  pub within : IsWithin limit spelt
  pub barred : Barred limit e opened rest
  pub starts : Front P k i.level (spelt ++ opened)

-- From levels between the two, what the parser takes before it refuses is the front of a phrase in P, after which k may stand; one such phrase begins with b.
pub record Viable {A : Type 0} (limit low : ℕ) (p : Parser A) (P : Lang A) (b k : Option TokenKind) : Type 0 where
  pub refused : (i : Input) (e : Fault) → low ≤ i.level → i.level ≤ limit → p i ≡ Err e → Refused limit P k i e
  pub least : (v : ℕ) → Least P b k v

-- A phrase stays one before k, and from the level low on it ends at the level next or above.
pub record Keeps {A : Type 0} (low next : ℕ) (P : Lang A) (k : Option TokenKind) : Type 0 where
  pub before : (v w : ℕ) (x : A) (ls : List Spelt) (o : Option TokenKind) → P v x w ls o → P v x w ls k
  pub rises : (v w : ℕ) (x : A) (ls : List Spelt) (o : Option TokenKind) → P v x w ls o → low ≤ v → next ≤ w

-- ---- refusals

none_or_some : (ls : List Spelt) → (ls ≡ []) ⊎ Filled ls
none_or_some [] = inl refl
none_or_some (s ∷ ls) = inr tt

first_there : (limit : ℕ) (e : Fault) (spelt opened behind : List Spelt) (rest : List Token) (k : Option TokenKind) → Barred limit e opened rest → Filled (spelt ++ opened)
    → first ((spelt ++ opened) ++ behind) k ≡ kind_ahead (tokens spelt ++ rest)
first_there limit e [] opened behind rest k stuck h = absurd h
first_there limit e [] opened behind rest k above h = refl
first_there limit e (s ∷ spelt) opened behind rest k b h = refl

-- a phrase is a front with nothing taken yet
whole_front : {A : Type 0} {P : Lang A} {b k : Option TokenKind} {v : ℕ} (ls : List Spelt) → ls ≡ [] → Least P b k v → Front P k v ls
whole_front {A} {P} {b} {k} {v} ls e m =
    let R : List Spelt → Type 0 = λ z. P v m.value m.last (z ++ m.tokens) k in
    record { value = m.value; last = m.last; behind = m.tokens; spells = subst R (sym e) m.spells }

pub refused_here : {limit : ℕ} {A : Type 0} {P : Lang A} {b k : Option TokenKind} {i : Input} {e : Fault} → Least P b k i.level → Syntax (length i.rest) ≡ e → Refused limit P k i e
refused_here {limit} {A} {P} {b} {k} {i} {e} m h =
    let R : Fault → Type 0 = λ z. Barred limit z [] i.rest in
    record { spelt = []; opened = []; rest = i.rest; front = refl; within = tt; barred = subst R h stuck; starts = whole_front [] refl m }

-- the same tokens in another language; what stands first among them is what stood ahead
pub refused_as : {limit : ℕ} {A : Type 0} {P Q : Lang A} {b k : Option TokenKind} {i : Input} {e : Fault} → Refused limit P k i e → Least Q b k i.level
    → ((w : ℕ) (x : A) (ls : List Spelt) → first ls k ≡ kind_ahead i.rest → P i.level x w ls k → Q i.level x w ls k) → Refused limit Q k i e
refused_as {limit} {A} {P} {Q} {b} {k} {i} {e} r m to = record { spelt = r.spelt; opened = r.opened; rest = r.rest; front = r.front; within = r.within; barred = r.barred; starts = of (none_or_some (r.spelt ++ r.opened)) }
  where
    of : (r.spelt ++ r.opened ≡ []) ⊎ Filled (r.spelt ++ r.opened) → Front Q k i.level (r.spelt ++ r.opened)
    of (inl h) = whole_front (r.spelt ++ r.opened) h m
    of (inr h) =
        let s = r.starts in
        let f = first_there limit e r.spelt r.opened s.behind r.rest k r.barred h ∙ sym (ap kind_ahead r.front) in
        record { value = s.value; last = s.last; behind = s.behind; spells = to s.last s.value ((r.spelt ++ r.opened) ++ s.behind) f s.spells }

-- the same tokens, as what else they are the front of
pub refused_so : {limit : ℕ} {A B : Type 0} {P : Lang A} {Q : Lang B} {k : Option TokenKind} {i : Input} {e : Fault} → Refused limit P k i e → ((ls : List Spelt) → Front P k i.level ls → Front Q k i.level ls) → Refused limit Q k i e
refused_so r to = record { spelt = r.spelt; opened = r.opened; rest = r.rest; front = r.front; within = r.within; barred = r.barred; starts = to (r.spelt ++ r.opened) r.starts }

-- the same tokens in a wider language
pub refused_to : {limit : ℕ} {A : Type 0} {P Q : Lang A} {k : Option TokenKind} {i : Input} {e : Fault} → ((v w : ℕ) (x : A) (ls : List Spelt) (o : Option TokenKind) → P v x w ls o → Q v x w ls o) → Refused limit P k i e → Refused limit Q k i e
refused_to {limit} {A} {P} {Q} {k} {i} to r = refused_so r (λ ls s. record { value = s.value; last = s.last; behind = s.behind; spells = to i.level s.last s.value (ls ++ s.behind) k s.spells })

-- what failed in a sequence of two parts
pub record Second {A B : Type 0} (r : Outcome A) (f : A → Parser B) (e : Fault) : Type 0 where
  pub value : A
  pub state : Input
  pub was : r ≡ Ok (value, state)
  pub goes : f value state ≡ Err e

pub failed : {A B : Type 0} (r : Outcome A) (f : A → Parser B) (e : Fault) → and_then r f ≡ Err e → (r ≡ Err e) ⊎ Second r f e
failed (Ok p) f e h = inr (record { value = p.0; state = p.1; was = refl; goes = h })
failed (Err y) f e h = inl (let k : y ≡ e = cc in ap (λ u. Err u) k)

-- ---- putting together

joined : (es bs cs ds : List Spelt) → es ++ ((bs ++ cs) ++ ds) ≡ ((es ++ bs) ++ cs) ++ ds
joined es bs cs ds = sym (append_assoc es (bs ++ cs) ds) ∙ ap (λ z. z ++ ds) (sym (append_assoc es bs cs))

module _ {limit : ℕ} {A B : Type 0} {P : Lang A} {Q : A → Lang B} where
  -- the first part is refused
  pub refused_first : {m k : Option TokenKind} {i : Input} {e : Fault} → ((x : A) (u : ℕ) → Least (Q x) m k u) → Refused limit P m i e → Refused limit (Bind P Q) k i e
  refused_first {m} {k} {i} {e} c r =
      let s = r.starts in
      let t = c s.value s.last in
      let R : Option TokenKind → Type 0 = λ z. P i.level s.value s.last ((r.spelt ++ r.opened) ++ s.behind) z in
      let S : List Spelt → Type 0 = λ z. Bind P Q i.level t.value t.last z k in
      record {
        spelt = r.spelt;
        opened = r.opened;
        rest = r.rest;
        front = r.front;
        within = r.within;
        barred = r.barred;
        starts = record {
          value = t.value;
          last = t.last;
          behind = s.behind ++ t.tokens;
          spells = subst S (append_assoc (r.spelt ++ r.opened) s.behind t.tokens) (both (subst R (sym t.begins) s.spells) t.spells);
        };
      }

  -- the second part is refused
  pub refused_second : {m k : Option TokenKind} {x : A} {i j : Input} {e : Fault} → (a : Read limit P x i j) → P i.level x j.level a.spelt m → Least (Q x) m k j.level → Refused limit (Q x) k j e → Refused limit (Bind P Q) k i e
  refused_second {m} {k} {x} {i} {j} {e} a before t r =
      record {
        spelt = a.spelt ++ r.spelt;
        opened = r.opened;
        rest = r.rest;
        front = a.front ∙ ap (λ z. tokens a.spelt ++ z) r.front ∙ sym (tokens_append a.spelt r.spelt r.rest);
        within = within_join limit a.spelt r.spelt a.within r.within;
        barred = r.barred;
        starts = of (none_or_some (r.spelt ++ r.opened));
      }
    where
      of : (r.spelt ++ r.opened ≡ []) ⊎ Filled (r.spelt ++ r.opened) → Front (Bind P Q) k i.level ((a.spelt ++ r.spelt) ++ r.opened)
      of (inl h) =
          let R : Option TokenKind → Type 0 = λ z. P i.level x j.level a.spelt z in
          let T : List Spelt → Type 0 = λ z. Bind P Q i.level t.value t.last z k in
          let q : Bind P Q i.level t.value t.last (a.spelt ++ t.tokens) k = both (subst R (sym t.begins) before) t.spells in
          let e : a.spelt ++ t.tokens ≡ ((a.spelt ++ r.spelt) ++ r.opened) ++ t.tokens = ap (λ z. a.spelt ++ (z ++ t.tokens)) (sym h) ∙ joined a.spelt r.spelt r.opened t.tokens in
          record { value = t.value; last = t.last; behind = t.tokens; spells = subst T e q }
      of (inr h) =
          let s = r.starts in
          let f : first ((r.spelt ++ r.opened) ++ s.behind) k ≡ kind_ahead j.rest = first_there limit e r.spelt r.opened s.behind r.rest k r.barred h ∙ sym (ap kind_ahead r.front) in
          let R : Option TokenKind → Type 0 = λ z. P i.level x j.level a.spelt z in
          let T : List Spelt → Type 0 = λ z. Bind P Q i.level s.value s.last z k in
          let q : Bind P Q i.level s.value s.last (a.spelt ++ ((r.spelt ++ r.opened) ++ s.behind)) k = both (subst R (sym f) a.spells) s.spells in
          record { value = s.value; last = s.last; behind = s.behind; spells = subst T (joined a.spelt r.spelt r.opened s.behind) q }

module _ {limit low next : ℕ} {A B : Type 0} {p : Parser A} {f : A → Parser B} {P P' : Lang A} {Q : A → Lang B} {b m k : Option TokenKind} where
  pub bind : Exact limit p P P' → Keeps low next P m → Viable limit low p P b m → ((x : A) → Viable limit next (f x) (Q x) m k) → Viable limit low (p >>= f) (Bind P Q) b k
  bind a c d n = record { refused = re; least = le }
    where
      re : (i : Input) (e : Fault) → low ≤ i.level → i.level ≤ limit → and_then (p i) f ≡ Err e → Refused limit (Bind P Q) k i e
      re i e deep small h = of (failed (p i) f e h)
        where
          of : (p i ≡ Err e) ⊎ Second (p i) f e → Refused limit (Bind P Q) k i e
          of (inl z) = refused_first (λ x u. (n x).least u) (d.refused i e deep small z)
          of (inr z) =
              let r = a.sound i z.state z.value small z.was in
              refused_second r (c.before i.level z.state.level z.value r.spelt (kind_ahead z.state.rest) r.spells) ((n z.value).least z.state.level)
              ((n z.value).refused z.state e (c.rises i.level z.state.level z.value r.spelt (kind_ahead z.state.rest) r.spells deep) r.small z.goes)

      le : (v : ℕ) → Least (Bind P Q) b k v
      le v =
          let s = d.least v in
          let t = (n s.value).least s.last in
          let R : Option TokenKind → Type 0 = λ z. P v s.value s.last s.tokens z in
          record { value = t.value; last = t.last; tokens = s.tokens ++ t.tokens; spells = both (subst R (sym t.begins) s.spells) t.spells; begins = first-append s.tokens t.tokens k ∙ ap (first s.tokens) t.begins ∙ s.begins }

least_on : {A : Type 0} {P Q : Lang A} {f : Fixed} {b k : Option TokenKind} {v : ℕ} → is_fixed f b ≡ true → Least P b k v → Least (If f P Q) b k v
least_on {f = f} t s = record { value = s.value; last = s.last; tokens = s.tokens; spells = on (ap (is_fixed f) s.begins ∙ t) s.spells; begins = s.begins }

least_off : {A : Type 0} {P Q : Lang A} {f : Fixed} {b k : Option TokenKind} {v : ℕ} → is_fixed f b ≡ false → Least Q b k v → Least (If f P Q) b k v
least_off {f = f} t s = record { value = s.value; last = s.last; tokens = s.tokens; spells = off (ap (is_fixed f) s.begins ∙ t) s.spells; begins = s.begins }

module _ {limit low : ℕ} {A : Type 0} {p : Parser A} {P : Lang A} {b k : Option TokenKind} where
  pub map_to : {B : Type 0} (f : A → B) → Viable limit low p P b k → Viable limit low (p >>= (λ x. pure (f x))) (Map f P) b k
  map_to {B} f d = record { refused = re; least = λ v. let s = d.least v in record { value = f s.value; last = s.last; tokens = s.tokens; spells = mapped s.spells; begins = s.begins } }
    where
      re : (i : Input) (e : Fault) → low ≤ i.level → i.level ≤ limit → and_then (p i) (λ x. pure (f x)) ≡ Err e → Refused limit (Map f P) k i e
      re i e deep small h = of (failed (p i) (λ x. pure (f x)) e h)
        where
          of : (p i ≡ Err e) ⊎ Second (p i) (λ x. pure (f x)) e → Refused limit (Map f P) k i e
          of (inl z) = refused_so (d.refused i e deep small z) (λ ls s. record { value = f s.value; last = s.last; behind = s.behind; spells = mapped s.spells })
          of (inr z) = absurd (let q = z.goes in cc)

  pub scope : Viable limit low p P b k → Viable limit low (scoped p) (Scoped P) b k
  scope d = record { refused = re; least = λ v. let s = d.least v in record { value = s.value; last = v; tokens = s.tokens; spells = inside s.spells; begins = s.begins } }
    where
      re : (i : Input) (e : Fault) → low ≤ i.level → i.level ≤ limit → and_then (p i) (λ x j. Ok (x, input j.rest i.level)) ≡ Err e → Refused limit (Scoped P) k i e
      re i e deep small h = of (failed (p i) (λ x j. Ok (x, input j.rest i.level)) e h)
        where
          of : (p i ≡ Err e) ⊎ Second (p i) (λ x j. Ok (x, input j.rest i.level)) e → Refused limit (Scoped P) k i e
          of (inl z) = refused_so (d.refused i e deep small z) (λ ls s. record { value = s.value; last = i.level; behind = s.behind; spells = inside s.spells })
          of (inr z) = absurd (let q = z.goes in cc)

  pub higher : {next : ℕ} → low ≤ next → Viable limit low p P b k → Viable limit next p P b k
  higher le d = record { refused = λ i e deep small h. d.refused i e (omega arith) small h; least = d.least }

  -- the same parser, by what else its language is
  pub convert : {Q : Lang A} → ((v w : ℕ) (x : A) (ls : List Spelt) (o : Option TokenKind) → P v x w ls o → Q v x w ls o) → Viable limit low p P b k → Viable limit low p Q b k
  convert {Q} to d = record {
    refused = λ i e deep small h. refused_to to (d.refused i e deep small h);
    least = λ v. let s = d.least v in record { value = s.value; last = s.last; tokens = s.tokens; spells = to v s.last s.value s.tokens k s.spells; begins = s.begins };
  }

  -- a choice by the token ahead: what is refused on each side, and one phrase
  pub either_by : {q : Parser A} {Q : Lang A} {c d : Option TokenKind} (f : Fixed) → Viable limit low p P b k → Viable limit low q Q c k → ((v : ℕ) → Least (If f P Q) d k v)
      → Viable limit low (λ i. cond (next_is f i) (p i) (q i)) (If f P Q) d k
  either_by {q} {Q} {c} {d} f a n m = record { refused = λ i e deep small h. re i e deep small (next_is f i) refl h; least = m }
    where
      re : (i : Input) (e : Fault) → low ≤ i.level → i.level ≤ limit → (t : Bool) → next_is f i ≡ t → cond t (p i) (q i) ≡ Err e → Refused limit (If f P Q) k i e
      re i e deep small true t h = refused_as (a.refused i e deep small h) (m i.level) (λ w x ls g s. on (ap (is_fixed f) g ∙ t) s)
      re i e deep small false t h = refused_as (n.refused i e deep small h) (m i.level) (λ w x ls g s. off (ap (is_fixed f) g ∙ t) s)

  -- the phrase is one of the first side, or of the second
  pub either_on : {q : Parser A} {Q : Lang A} {c : Option TokenKind} (f : Fixed) → is_fixed f b ≡ true → Viable limit low p P b k → Viable limit low q Q c k → Viable limit low (λ i. cond (next_is f i) (p i) (q i)) (If f P Q) b k
  either_on f t a n = either_by f a n (λ v. least_on t (a.least v))

  pub either_off : {q : Parser A} {Q : Lang A} {c : Option TokenKind} (f : Fixed) → is_fixed f c ≡ false → Viable limit low p P b k → Viable limit low q Q c k → Viable limit low (λ i. cond (next_is f i) (p i) (q i)) (If f P Q) c k
  either_off f t a n = either_by f a n (λ v. least_off t (n.least v))

-- nothing is refused where nothing is read
pub done_at : {limit low : ℕ} {A : Type 0} {k : Option TokenKind} (x : A) → Viable limit low (pure x) (Done x) k k
done_at x = record { refused = λ i e deep small h. absurd (cc); least = λ v. record { value = x; last = v; tokens = []; spells = done; begins = refl } }

-- no phrase at all
data Never {A : Type 0} : ℕ → A → ℕ → List Spelt → Option TokenKind → Type 0 where

abbrev Yes : {A B : Type 0} → Fixed → (A → Lang B) → A → Lang B
Yes f Q x = If f (Q x) Never

abbrev No : {A B : Type 0} → Fixed → (A → Lang B) → A → Lang B
No f Q x = If f Never (Q x)

module _ {A B : Type 0} {P1 P0 : Lang A} {Q1 Q0 : A → Lang B} {f : Fixed} {k : Option TokenKind} where
  yes_choice : {v w : ℕ} {y : B} {ls : List Spelt} → Bind P1 (Yes f Q1) v y w ls k → Choice f P1 P0 Q1 Q0 v y w ls k
  yes_choice (both a (on e q)) = taken e a q
  yes_choice (both a (off e q)) = elim q [ ]

  no_choice : {v w : ℕ} {y : B} {ls : List Spelt} → Bind P0 (No f Q0) v y w ls k → Choice f P1 P0 Q1 Q0 v y w ls k
  no_choice (both a (off e q)) = left_out e a q
  no_choice (both a (on e q)) = elim q [ ]

module _ {limit low next : ℕ} {A B : Type 0} {p : Parser A} {g h : A → Parser B} {P1 P0 P' P'' : Lang A} {Q1 Q0 : A → Lang B} {b n k : Option TokenKind} (f : Fixed) where
  -- a part, and what follows it by the token ahead
  pub choose_by : Exact limit p P1 P' → Exact limit p P0 P'' → ((v w : ℕ) (x : A) (ls : List Spelt) (o : Option TokenKind) → P1 v x w ls o → low ≤ v → next ≤ w) → Keeps low next P0 n → is_fixed f n ≡ false → Viable limit low p P0 b n
      → ((x : A) → Viable limit next (g x) (Q1 x) (Some (kind_of f)) k) → ((x : A) → Viable limit next (h x) (Q0 x) n k) → Viable limit low (p >>= (λ x i. cond (next_is f i) (g x i) (h x i))) (Choice f P1 P0 Q1 Q0) b k
  choose_by a1 a0 rise c0 tn d q1 q0 = record { refused = re; least = le }
    where
      le : (v : ℕ) → Least (Choice f P1 P0 Q1 Q0) b k v
      le v =
          let s = d.least v in
          let t : Least (No f Q0 s.value) n k s.last = least_off tn ((q0 s.value).least s.last) in
          let R : Option TokenKind → Type 0 = λ z. P0 v s.value s.last s.tokens z in
          record { value = t.value; last = t.last; tokens = s.tokens ++ t.tokens; spells = no_choice (both (subst R (sym t.begins) s.spells) t.spells); begins = first-append s.tokens t.tokens k ∙ ap (first s.tokens) t.begins ∙ s.begins }

      by_no : (i : Input) (e : Fault) → Refused limit (Bind P0 (No f Q0)) k i e → Refused limit (Choice f P1 P0 Q1 Q0) k i e
      by_no i e r = refused_so r (λ ls s. record { value = s.value; last = s.last; behind = s.behind; spells = no_choice s.spells })

      by_yes : (i : Input) (e : Fault) → Refused limit (Bind P1 (Yes f Q1)) k i e → Refused limit (Choice f P1 P0 Q1 Q0) k i e
      by_yes i e r = refused_so r (λ ls s. record { value = s.value; last = s.last; behind = s.behind; spells = yes_choice s.spells })

      by_test : (i j : Input) (x : A) (e : Fault) → low ≤ i.level → i.level ≤ limit → p i ≡ Ok (x, j) → (t : Bool) → next_is f j ≡ t → cond t (g x j) (h x j) ≡ Err e → Refused limit (Choice f P1 P0 Q1 Q0) k i e
      by_test i j x e deep small was true t z =
          let r = a1.sound i j x small was in
          let l : Least (Yes f Q1 x) (Some (kind_of f)) k j.level = least_on (kind-fixed f) ((q1 x).least j.level) in
          let s = (q1 x).refused j e (rise i.level j.level x r.spelt (kind_ahead j.rest) r.spells deep) r.small z in
          let R : Option TokenKind → Type 0 = λ o. P1 i.level x j.level r.spelt o in
          by_yes i e (refused_second r (subst R (fixed-kind f (kind_ahead j.rest) t) r.spells) l (refused_as s l (λ w y ls u q. on (ap (is_fixed f) u ∙ t) q)))
      by_test i j x e deep small was false t z =
          let r = a0.sound i j x small was in
          let l : Least (No f Q0 x) n k j.level = least_off tn ((q0 x).least j.level) in
          let s = (q0 x).refused j e (c0.rises i.level j.level x r.spelt (kind_ahead j.rest) r.spells deep) r.small z in
          by_no i e (refused_second r (c0.before i.level j.level x r.spelt (kind_ahead j.rest) r.spells) l (refused_as s l (λ w y ls u q. off (ap (is_fixed f) u ∙ t) q)))

      re : (i : Input) (e : Fault) → low ≤ i.level → i.level ≤ limit → and_then (p i) (λ x j. cond (next_is f j) (g x j) (h x j)) ≡ Err e → Refused limit (Choice f P1 P0 Q1 Q0) k i e
      re i e deep small z = of (failed (p i) (λ x j. cond (next_is f j) (g x j) (h x j)) e z)
        where
          of : (p i ≡ Err e) ⊎ Second (p i) (λ x j. cond (next_is f j) (g x j) (h x j)) e → Refused limit (Choice f P1 P0 Q1 Q0) k i e
          of (inl y) = by_no i e (refused_first (λ x u. least_off tn ((q0 x).least u)) (d.refused i e deep small y))
          of (inr y) = by_test i y.state y.value e deep small y.was (next_is f y.state) refl y.goes
