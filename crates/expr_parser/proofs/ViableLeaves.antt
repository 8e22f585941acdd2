-- Where a parser of a single token, of a bracket or of a list with commas refuses.
use mathlib.Core.Path.{subst}
use Rattle.std.proofs.Common.{◌≡◌, ℕ, ℤ, pos, zero, suc, ◌+◌, ◌≤◌, ◌⊎◌, inl, inr, Bool, true, false, nat_lt, cond, List, [], ◌∷◌, ◌++◌, length, Option, Some, None, Ok, Err, refl, sym, ◌∙◌, ap, arith}
use Rattle.forec_base.specs.declared.Place.{Place}
use Rattle.forec_tree.specs.declared.token.Token.{Token}
use Rattle.forec_tree.specs.declared.token.TokenKind.{TokenKind}
use Rattle.forec_tree.specs.declared.token.TokenKind.TheVariants as kind
use Rattle.forec_tree.specs.Spelling.{Spelt, at, name_at}
use Rattle.forec_tree.specs.Parts.{number_at}
use Rattle.expr_parser.specs.declared.fault.Fault.{Fault}
use Rattle.expr_parser.specs.declared.fault.Fault.TheVariants.{Syntax, Deep}
use Rattle.expr_parser.specs.declared.fixed.Fixed.{Fixed}
use Rattle.expr_parser.specs.declared.fixed.Fixed.TheVariants as fixed
use Rattle.expr_parser.specs.Input.{Input, input, Parser, and_then, kind_ahead, take, take_from, raise}
use Rattle.expr_parser.specs.Meaning.{is_fixed, token_name, token_number}
use Rattle.expr_parser.specs.Reading as reading
use Rattle.expr_parser.specs.Reading.{close, enter, name, read_number, leaf_by, leaf, separated, separated_from}
use Rattle.expr_parser.proofs.Spans.{ok_of}
use Rattle.expr_parser.proofs.Closers.{kind_of, fixed-kind}
use Rattle.expr_parser.proofs.Exact.{Lang, Exact, Bind, both, Map, mapped, Scoped, inside, Part, part, Any}
use Rattle.expr_parser.proofs.Leaves.{Is, Tok, tok, Last, last, Up, up, NameIs, name_is, NumberIs, number_is, token, opening, EnclosedTo, Enclosed, between, Listed, end_of_list, next_of_list}
use Rattle.expr_parser.proofs.Viable.{made, Front, Least, Barred, above, Refused, Viable, Keeps, refused_here, refused_so, refused_second, Second, failed, bind, map_to, scope}

-- ---- what may be followed by anything

pub part_keeps : {low : ℕ} {A : Type 0} {R : A → ℕ → List Spelt → Type 0} {k : Option TokenKind} → Keeps low low (Part Any R) k
part_keeps {low} {A} {R} {k} = record { before = λ v w x ls o q. of q; rises = λ v w x ls o q le. le_of q le }
  where
    of : {v w : ℕ} {x : A} {ls : List Spelt} {o : Option TokenKind} → Part Any R v x w ls o → Part Any R v x w ls k
    of (part s c) = part s tt

    le_of : {v w : ℕ} {x : A} {ls : List Spelt} {o : Option TokenKind} → Part Any R v x w ls o → low ≤ v → low ≤ w
    le_of (part s c) le = le

pub token_keeps : {low : ℕ} {f : Fixed} {k : Option TokenKind} → Keeps low low (Tok f) k
token_keeps {low} {f} {k} = record { before = λ v w x ls o q. of q; rises = λ v w x ls o q le. le_of q le }
  where
    of : {v w : ℕ} {x : Token} {ls : List Spelt} {o : Option TokenKind} → Tok f v x w ls o → Tok f v x w ls k
    of (tok h) = tok h

    le_of : {v w : ℕ} {x : Token} {ls : List Spelt} {o : Option TokenKind} → Tok f v x w ls o → low ≤ v → low ≤ w
    le_of (tok h) le = le

pub opening_keeps : {low : ℕ} {f : Fixed} {k : Option TokenKind} → Keeps low (low + 1) (Up f) k
opening_keeps {low} {f} {k} = record { before = λ v w x ls o q. of q; rises = λ v w x ls o q le. le_of q le }
  where
    of : {v w : ℕ} {x : Token} {ls : List Spelt} {o : Option TokenKind} → Up f v x w ls o → Up f v x w ls k
    of (up h) = up h

    le_of : {v w : ℕ} {x : Token} {ls : List Spelt} {o : Option TokenKind} → Up f v x w ls o → low ≤ v → low + 1 ≤ w
    le_of (up h) le = omega arith

pub enclosed_keeps : {low : ℕ} {A B : Type 0} {l r : Fixed} {f : Token → A → B} {P : Lang A} {k : Option TokenKind} → Keeps low low (Enclosed l r f P) k
enclosed_keeps {low} {A} {B} {l} {r} {f} {P} {k} = record { before = λ v w x ls o q. of q; rises = λ v w x ls o q le. le_of q le }
  where
    of : {v w : ℕ} {x : B} {ls : List Spelt} {o : Option TokenKind} → Enclosed l r f P v x w ls o → Enclosed l r f P v x w ls k
    of (between t hl q hr) = between t hl q hr

    le_of : {v w : ℕ} {x : B} {ls : List Spelt} {o : Option TokenKind} → Enclosed l r f P v x w ls o → low ≤ v → low ≤ w
    le_of (between t hl q hr) le = le

list_before : {A : Type 0} {R : A → ℕ → List Spelt → Type 0} {k : Option TokenKind} → is_fixed fixed.Comma k ≡ false
    → {v w : ℕ} {xs : List A} {ls : List Spelt} {o : Option TokenKind} → Listed (Part Any R) v xs w ls o → Listed (Part Any R) v xs w ls k
list_before n (end_of_list (part s c) e) = end_of_list (part s tt) n
list_before n (next_of_list t q h l) = next_of_list t q h (list_before n l)

next_level : {A : Type 0} {R : A → ℕ → List Spelt → Type 0} {v u w : ℕ} {x : A} {ls : List Spelt} {o : Option TokenKind} → Part Any R v x u ls o → u ≡ w → v ≡ w
next_level (part s c) e = e

list_level : {A : Type 0} {R : A → ℕ → List Spelt → Type 0} {v w : ℕ} {xs : List A} {ls : List Spelt} {o : Option TokenKind} → Listed (Part Any R) v xs w ls o → v ≡ w
list_level (end_of_list (part s c) e) = refl
list_level (next_of_list t q h l) = next_level q (list_level l)

pub list_keeps : {low : ℕ} {A : Type 0} {R : A → ℕ → List Spelt → Type 0} {k : Option TokenKind} → is_fixed fixed.Comma k ≡ false → Keeps low low (Listed (Part Any R)) k
list_keeps n = record { before = λ v w x ls o q. list_before n q; rises = λ v w x ls o q le. omega (arith, list_level q) }

-- ---- single tokens

-- the first of a name or a number that is made up
abbrev pub a_name : Option TokenKind
a_name = Some (kind.Name 0)

abbrev pub a_number : Option TokenKind
a_number = Some (kind.Number (pos 1))

-- a token that the table knows is there
pub taken_always : {X A : Type 0} (g : Option TokenKind → Option X) (f : Token → A) (i : Input) (x : X) (e : Fault) → g None ≡ None → g (kind_ahead i.rest) ≡ Some x → and_then (take i) (λ t j. Ok (f t, j)) ≡ Err e → ⊥
unfolding take
taken_always {X} {A} g f i x e n s h = of i.rest s h
  where
    of : (ts : List Token) → g (kind_ahead ts) ≡ Some x → and_then (take_from ts i.level) (λ t j. Ok (f t, j)) ≡ Err e → ⊥
    of [] s h = let q : g None ≡ Some x = s in cc
    of (t ∷ ts) s h = cc

close_stops : (f : Fixed) (i : Input) (e : Fault) → close f i ≡ Err e → Syntax (length i.rest) ≡ e
unfolding close take
close_stops f i e h = by_test (is_fixed f (kind_ahead i.rest)) refl h
  where
    there : (ts : List Token) (v : ℕ) → is_fixed f (kind_ahead ts) ≡ true → take_from ts v ≡ Err e → Syntax (length ts) ≡ e
    there [] v c k = cc
    there (t ∷ ts) v c k = absurd (cc)

    by_test : (b : Bool) → is_fixed f (kind_ahead i.rest) ≡ b → cond b (take i) (Err (Syntax (length i.rest))) ≡ Err e → Syntax (length i.rest) ≡ e
    by_test true c k = there i.rest i.level c k
    by_test false c k = cc

module _ {limit : ℕ} where
  -- a token that opens a level is refused: there is none, or it stands at the limit
  pub raise_stops : {A : Type 0} {P : Lang A} {b k : Option TokenKind} (i : Input) (e : Fault) → i.level ≤ limit → raise limit i ≡ Err e → Least P b k i.level
      → ((t : Token) (ts : List Token) → i.rest ≡ t ∷ ts → Front P k i.level (at t (i.level + 1) ∷ [])) → Refused limit P k i e
  unfolding raise
  raise_stops {A} {P} {b} {k} i e small h m to = of i.rest refl h
    where
      of : (ts : List Token) → i.rest ≡ ts → raise limit (input ts i.level) ≡ Err e → Refused limit P k i e
      of [] s h = refused_here m (let q : Syntax 0 ≡ e = cc in ap (λ (z : List Token). Syntax (length z)) s ∙ q)
      of (t ∷ ts) s h = by_test (nat_lt i.level limit) refl h
        where
          by_test : (c : Bool) → nat_lt i.level limit ≡ c → cond c (ok_of t (input ts (i.level + 1))) (Err (Deep (suc (length ts)))) ≡ Err e → Refused limit P k i e
          by_test true c h = absurd (cc)
          by_test false c h =
              let q : Deep (suc (length ts)) ≡ e = cc in
              let l : i.level ≡ limit = grind arith in
              let R : Fault → Type 0 = λ z. Barred limit z (at t (limit + 1) ∷ []) (t ∷ ts) in
              let S : ℕ → Type 0 = λ z. Front P k i.level (at t (z + 1) ∷ []) in
              record { spelt = []; opened = at t (limit + 1) ∷ []; rest = t ∷ ts; front = s; within = tt; barred = subst R q above; starts = subst S l (to t ts s) }

  enter_stops : (f : Fixed) {k : Option TokenKind} (i : Input) (e : Fault) → i.level ≤ limit → enter limit f i ≡ Err e → Least (Up f) (Some (kind_of f)) k i.level → Refused limit (Up f) k i e
  unfolding enter
  enter_stops f {k} i e small h m = by_test (is_fixed f (kind_ahead i.rest)) refl h
    where
      by_test : (c : Bool) → is_fixed f (kind_ahead i.rest) ≡ c → cond c (raise limit i) (Err (Syntax (length i.rest))) ≡ Err e → Refused limit (Up f) k i e
      by_test true c h = raise_stops i e small h m to
        where
          to : (t : Token) (ts : List Token) → i.rest ≡ t ∷ ts → Front (Up f) k i.level (at t (i.level + 1) ∷ [])
          to t ts s =
              let q : Some t.kind ≡ Some (kind_of f) = ap kind_ahead (sym s) ∙ fixed-kind f (kind_ahead i.rest) c in
              let is : Is f t = cc in
              record { value = t; last = i.level + 1; behind = []; spells = up is }
      by_test false c h = refused_here m (cc)

module _ {limit low : ℕ} where
  pub token_at : (f : Fixed) {k : Option TokenKind} → Viable limit low (close f) (Tok f) (Some (kind_of f)) k
  token_at f {k} = record { refused = λ i e deep small h. refused_here (le i.level) (close_stops f i e h); least = le }
    where
      le : (v : ℕ) → Least (Tok f) (Some (kind_of f)) k v
      le v = let t = made (kind_of f) in record { value = t; last = v; tokens = at t v ∷ []; spells = tok refl; begins = refl }

  pub last_at : (f : Fixed) (u : ℕ) {k : Option TokenKind} → Viable limit low (close f) (Last f u) (Some (kind_of f)) k
  last_at f u {k} = record { refused = λ i e deep small h. refused_here (le i.level) (close_stops f i e h); least = le }
    where
      le : (v : ℕ) → Least (Last f u) (Some (kind_of f)) k v
      le v = let t = made (kind_of f) in record { value = t; last = v; tokens = at t u ∷ []; spells = last refl; begins = refl }

  pub open_at : (f : Fixed) {k : Option TokenKind} → Viable limit low (enter limit f) (Up f) (Some (kind_of f)) k
  open_at f {k} = record { refused = λ i e deep small h. enter_stops f i e small h (le i.level); least = le }
    where
      le : (v : ℕ) → Least (Up f) (Some (kind_of f)) k v
      le v = let t = made (kind_of f) in record { value = t; last = v + 1; tokens = at t (v + 1) ∷ []; spells = up refl; begins = refl }

  leaf_here : {A B : Type 0} (build : A → Place → B) (find : Option TokenKind → Option A) {P : Lang B} (l : Option TokenKind) {k : Option TokenKind} → find None ≡ None → ((v : ℕ) → Least P l k v)
      → Viable limit low (leaf build find) P l k
  leaf_here {A} build find {P} l {k} none le = record { refused = λ i e deep small h. by i e (find (kind_ahead i.rest)) refl h; least = le }
    where
      by : (i : Input) (e : Fault) (o : Option A) → find (kind_ahead i.rest) ≡ o → leaf_by build o i ≡ Err e → Refused limit P k i e
      by i e None s h = refused_here (le i.level) (cc)
      by i e (Some x) s h = absurd (taken_always find (λ t. build x t.place) i x e none s h)

  pub name_here : {k : Option TokenKind} → Viable limit low name (Part Any NameIs) a_name k
  unfolding name
  name_here {k} = leaf_here name_at token_name a_name refl le
    where
      le : (v : ℕ) → Least (Part Any NameIs) a_name k v
      le v = let t = made (kind.Name 0) in record { value = name_at 0 t.place; last = v; tokens = at t v ∷ []; spells = part (name_is 0 refl) tt; begins = refl }

  pub number_here : {k : Option TokenKind} → Viable limit low read_number (Part Any NumberIs) a_number k
  unfolding read_number
  number_here {k} = leaf_here number_at token_number a_number refl le
    where
      le : (v : ℕ) → Least (Part Any NumberIs) a_number k v
      le v = let t = made (kind.Number (pos 1)) in record { value = number_at (pos 1) t.place; last = v; tokens = at t v ∷ []; spells = part (number_is (pos 1) refl) tt; begins = refl }

-- ---- brackets

-- a part between two brackets, one after the other
abbrev InTurn : {A B : Type 0} → Fixed → Fixed → (Token → A → B) → Lang A → ℕ → Lang B
InTurn l r f P u = Scoped (Bind (Up l) (λ t. Bind P (λ x. Map (λ (_ : Token). f t x) (Last r u))))

between_of : {A B : Type 0} {P : Lang A} {l r : Fixed} {f : Token → A → B} {g : ℕ → ℕ} {v w : ℕ} {y : B} {ls : List Spelt} {k : Option TokenKind} → InTurn l r f P (g v) v y w ls k → EnclosedTo g l r f P v y w ls k
between_of (inside (both (up hl) (both q (mapped (last {t = t} hr))))) = between t hl q hr

module _ {limit low : ℕ} {A B : Type 0} {p : Parser A} {P P' : Lang A} {b k : Option TokenKind} (g : ℕ → ℕ) (l r : Fixed) (f : Token → A → B) where
  pub enclosing_to : Exact limit p P P' → Keeps (low + 1) (low + 1) P (Some (kind_of r)) → Viable limit (low + 1) p P b (Some (kind_of r))
      → Viable limit low (reading.enclosed limit l r f p) (EnclosedTo g l r f P) (Some (kind_of l)) k
  enclosing_to a c d = record {
    refused = λ i e deep small h. refused_so ((turn (g i.level)).refused i e deep small h) (λ ls s. record { value = s.value; last = s.last; behind = s.behind; spells = between_of s.spells });
    least = λ v. let s = (turn (g v)).least v in record { value = s.value; last = s.last; tokens = s.tokens; spells = between_of s.spells; begins = s.begins };
  }
    where
      turn : (u : ℕ) → Viable limit low (reading.enclosed limit l r f p) (InTurn l r f P u) (Some (kind_of l)) k
      turn u = scope (bind (opening limit l) opening_keeps (open_at l) (λ t. bind a c d (λ x. map_to (λ (_ : Token). f t x) (last_at r u))))

-- the level after the second bracket is that before the first
module _ {limit low : ℕ} {A B : Type 0} {p : Parser A} {P P' : Lang A} {b k : Option TokenKind} (l r : Fixed) (f : Token → A → B) where
  pub enclosing : Exact limit p P P' → Keeps (low + 1) (low + 1) P (Some (kind_of r)) → Viable limit (low + 1) p P b (Some (kind_of r)) → Viable limit low (reading.enclosed limit l r f p) (Enclosed l r f P) (Some (kind_of l)) k
  enclosing a c d = enclosing_to (λ v. v) l r f a c d

-- ---- lists with commas

close_is : (f : Fixed) (i : Input) → is_fixed f (kind_ahead i.rest) ≡ true → close f i ≡ take i
unfolding close
close_is f i h = rw h

-- a part, a comma and more parts
abbrev NextIn : {A : Type 0} → Lang A → Lang (List A)
NextIn P = Bind P (λ x. Bind (Tok fixed.Comma) (λ _. Map (λ xs. x ∷ xs) (Listed P)))

next_in : {A : Type 0} {P : Lang A} {v w : ℕ} {xs : List A} {ls : List Spelt} {k : Option TokenKind} → NextIn P v xs w ls k → Listed P v xs w ls k
next_in (both a (both (tok {t = t} h) (mapped l))) = next_of_list t a h l

take_there : (f : Fixed) (i : Input) (e : Fault) → is_fixed f (kind_ahead i.rest) ≡ true → take i ≡ Err e → ⊥
unfolding take
take_there f i e h z = of i.rest h z
  where
    of : (ts : List Token) → is_fixed f (kind_ahead ts) ≡ true → take_from ts i.level ≡ Err e → ⊥
    of [] h z = cc
    of (t ∷ ts) h z = cc

module _ {limit low : ℕ} {A : Type 0} {p : Parser A} {P P' : Lang A} {b k : Option TokenKind} where
  pub commas : Exact limit p P P' → Keeps low low P (Some (kind_of fixed.Comma)) → is_fixed fixed.Comma k ≡ false → Viable limit low p P b k → Viable limit low (separated p) (Listed P) b k
  unfolding separated separated_from
  commas a c n d = record { refused = λ i e deep small h. turn (length i.rest) [] i e deep small h; least = le }
    where
      le : (v : ℕ) → Least (Listed P) b k v
      le v = let s = d.least v in record { value = s.value ∷ []; last = s.last; tokens = s.tokens; spells = end_of_list s.spells n; begins = s.begins }

      Turn : ℕ → Type 0
      Turn t = (found : List A) (i : Input) (e : Fault) → low ≤ i.level → i.level ≤ limit → separated_from p t found i ≡ Err e → Refused limit (Listed P) k i e

      more : (t : ℕ) → Turn t → (found : List A) (i j : Input) (x : A) (e : Fault) → low ≤ i.level → i.level ≤ limit → p i ≡ Ok (x, j) → is_fixed fixed.Comma (kind_ahead j.rest) ≡ true
          → (take j ≡ Err e) ⊎ Second (take j) (λ _ l. separated_from p t (found ++ x ∷ []) l) e → Refused limit (Listed P) k i e
      more t ih found i j x e deep small was h (inl z) = absurd (take_there fixed.Comma j e h z)
      more t ih found i j x e deep small was h (inr z) =
          let m = a.sound i j x small was in
          let up' = c.rises i.level j.level x m.spelt (kind_ahead j.rest) m.spells deep in
          let q = (token limit fixed.Comma).sound j z.state z.value m.small (close_is fixed.Comma j h ∙ z.was) in
          let stays = (token_keeps {low = low} {f = fixed.Comma} {k = b}).rises j.level z.state.level z.value q.spelt (kind_ahead z.state.rest) q.spells up' in
          let l = le z.state.level in
          let rest : Refused limit (Map (λ xs. x ∷ xs) (Listed P)) k z.state e =
          refused_so (ih (found ++ x ∷ []) z.state e stays q.small z.goes) (λ ls s. record { value = x ∷ s.value; last = s.last; behind = s.behind; spells = mapped s.spells }) in
          let after : Refused limit (Bind (Tok fixed.Comma) (λ _. Map (λ xs. x ∷ xs) (Listed P))) k j e =
          refused_second q ((token_keeps {low = low} {f = fixed.Comma} {k = b}).before j.level z.state.level z.value q.spelt (kind_ahead z.state.rest) q.spells)
          (record { value = x ∷ l.value; last = l.last; tokens = l.tokens; spells = mapped l.spells; begins = l.begins }) rest in
          let o = le j.level in
          let t' = made (kind_of fixed.Comma) in
          let whole : Refused limit (NextIn P) k i e =
          refused_second m (c.before i.level j.level x m.spelt (kind_ahead j.rest) m.spells)
          (record { value = x ∷ o.value; last = o.last; tokens = at t' j.level ∷ o.tokens; spells = both (tok refl) (mapped o.spells); begins = refl }) after in
          refused_so whole (λ ls s. record { value = s.value; last = s.last; behind = s.behind; spells = next_in s.spells })

      by_test : (t : ℕ) → Turn t → (found : List A) (i j : Input) (x : A) (e : Fault) → low ≤ i.level → i.level ≤ limit → p i ≡ Ok (x, j) → (y : Bool) → is_fixed fixed.Comma (kind_ahead j.rest) ≡ y
          → cond y (and_then (take j) (λ _ l. separated_from p t (found ++ x ∷ []) l)) (ok_of (found ++ x ∷ []) j) ≡ Err e → Refused limit (Listed P) k i e
      by_test t ih found i j x e deep small was true h z = more t ih found i j x e deep small was h (failed (take j) (λ _ l. separated_from p t (found ++ x ∷ []) l) e z)
      by_test t ih found i j x e deep small was false h z = absurd (cc)

      turn_next : (t : ℕ) → Turn t → Turn (suc t)
      turn_next t ih found i e deep small h = of (failed (p i) (λ x j. cond (is_fixed fixed.Comma (kind_ahead j.rest)) (and_then (take j) (λ _ l. separated_from p t (found ++ x ∷ []) l)) (ok_of (found ++ x ∷ []) j)) e h)
        where
          of : (p i ≡ Err e) ⊎ Second (p i) (λ x j. cond (is_fixed fixed.Comma (kind_ahead j.rest)) (and_then (take j) (λ _ l. separated_from p t (found ++ x ∷ []) l)) (ok_of (found ++ x ∷ []) j)) e → Refused limit (Listed P) k i e
          of (inl z) = refused_so (d.refused i e deep small z) (λ ls s. record { value = s.value ∷ []; last = s.last; behind = s.behind; spells = end_of_list s.spells n })
          of (inr z) = by_test t ih found i z.state z.value e deep small z.was (is_fixed fixed.Comma (kind_ahead z.state.rest)) refl z.goes

      turn : (t : ℕ) → Turn t
      turn zero found i e deep small h = refused_here (le i.level) (cc)
      turn (suc t) found i e deep small h = turn_next t (turn t) found i e deep small h
