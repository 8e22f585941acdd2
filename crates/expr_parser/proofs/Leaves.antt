-- The parsers of single tokens, and of lists with commas.
use mathlib.Core.Path.{subst}
use Rattle.std.proofs.Common.{◌≡◌, ℕ, ℤ, zero, suc, ◌+◌, ◌≤◌, ◌<◌, Bool, true, false, nat_lt, cond, List, [], ◌∷◌, ◌++◌, length, Option, Some, None, Ok, Err, refl, sym, ◌∙◌, ap, append_assoc, arith}
use Rattle.forec_base.specs.declared.Place.{Place}
use Rattle.forec_tree.specs.declared.token.Token.{Token}
use Rattle.forec_tree.specs.declared.token.TokenKind.{TokenKind}
use Rattle.forec_tree.specs.declared.token.TokenKind.TheVariants as kind
use Rattle.forec_tree.specs.declared.tree.Name.{Name}
use Rattle.forec_tree.specs.declared.tree.Number.{Number}
use Rattle.forec_tree.specs.Spelling.{Spelt, at, tokens, IsNameToken, IsNumberToken, name_at}
use Rattle.forec_tree.specs.Parts.{number_at}
use Rattle.expr_parser.specs.declared.fault.Fault.TheVariants.{Syntax, Deep}
use Rattle.expr_parser.specs.declared.fixed.Fixed.{Fixed}
use Rattle.expr_parser.specs.declared.fixed.Fixed.TheVariants as fixed
use Rattle.expr_parser.specs.Input.{Input, input, Parser, Outcome, and_then, ◌>>=◌, kind_ahead, take, raise}
use Rattle.expr_parser.specs.Meaning.{is_fixed, token_name, token_number}
use Rattle.expr_parser.specs.Reading as reading
use Rattle.expr_parser.specs.Reading.{next_is, close, enter, name, read_number, leaf_by, leaf, separated, separated_from}
use Rattle.expr_parser.proofs.Spans.{tokens_append, longer, within_join, BothSucceed, step, ok_of, ok_pair, Took, Raised, took, raised, head_kind, take_ok}
use Rattle.expr_parser.proofs.Closers.{kind_of, fixed-kind, kind-fixed}
use Rattle.expr_parser.proofs.Exact.{Lang, Read, Exact, Bind, Part, part, Any, Follows, comes, too_high, above_here, above_later, above_front, follow_behind, follow_then, follow_as, bind, convert}

abbrev pub Is : Fixed → Token → Type 0
Is f t = t.kind ≡ kind_of f

-- this token, at the level before it
pub data Tok (f : Fixed) : ℕ → Token → ℕ → List Spelt → Option TokenKind → Type 0 where
  tok : {v : ℕ} {t : Token} {k : Option TokenKind} → Is f t → Tok f v t v (at t v ∷ []) k

-- this token, the last of a statement, after which the level is u
pub data Last (f : Fixed) (u : ℕ) : ℕ → Token → ℕ → List Spelt → Option TokenKind → Type 0 where
  last : {v : ℕ} {t : Token} {k : Option TokenKind} → Is f t → Last f u v t v (at t u ∷ []) k

-- this token, which opens a level
pub data Up (f : Fixed) : ℕ → Token → ℕ → List Spelt → Option TokenKind → Type 0 where
  up : {v : ℕ} {t : Token} {k : Option TokenKind} → Is f t → Up f v t (v + 1) (at t (v + 1) ∷ []) k

pub data NameIs : Name → ℕ → List Spelt → Type 0 where
  name_is : {v : ℕ} {t : Token} (id : ℕ) → IsNameToken id t → NameIs (name_at id t.place) v (at t v ∷ [])

pub data NumberIs : Number → ℕ → List Spelt → Type 0 where
  number_is : {v : ℕ} {t : Token} (value : ℤ) → IsNumberToken value t → NumberIs (number_at value t.place) v (at t v ∷ [])

-- ---- fixed tokens

pub is_so : (f : Fixed) (t : Token) → Is f t → is_fixed f (Some t.kind) ≡ true
is_so f t h = ap (λ z. is_fixed f (Some z)) h ∙ kind-fixed f

pub record Closed (f : Fixed) (t : Token) (i j : Input) : Type 0 where
  pub took : Took t i j
  pub is : Is f t

pub closed : (f : Fixed) (i : Input) (t : Token) (j : Input) → close f i ≡ Ok (t, j) → Closed f t i j
unfolding close
closed f i t j h = by_test (is_fixed f (kind_ahead i.rest)) refl h
  where
    by_test : (b : Bool) → is_fixed f (kind_ahead i.rest) ≡ b → cond b (take i) (Err (Syntax (length i.rest))) ≡ Ok (t, j) → Closed f t i j
    by_test true e k = let a = took i.rest i.level t j k in record { took = a; is = head_kind i.rest j.rest t (kind_of f) a.front (fixed-kind f (kind_ahead i.rest) e) }
    by_test false e k = absurd (cc)

pub record Entered (limit : ℕ) (f : Fixed) (t : Token) (i j : Input) : Type 0 where
  pub raised : Raised limit t i j
  pub is : Is f t

pub entered : (limit : ℕ) (f : Fixed) (i : Input) (t : Token) (j : Input) → enter limit f i ≡ Ok (t, j) → Entered limit f t i j
unfolding enter
entered limit f i t j h = by_test (is_fixed f (kind_ahead i.rest)) refl h
  where
    by_test : (b : Bool) → is_fixed f (kind_ahead i.rest) ≡ b → cond b (raise limit i) (Err (Syntax (length i.rest))) ≡ Ok (t, j) → Entered limit f t i j
    by_test true e k = let a = raised limit i.rest i.level t j k in record { raised = a; is = head_kind i.rest j.rest t (kind_of f) a.front (fixed-kind f (kind_ahead i.rest) e) }
    by_test false e k = absurd (cc)

pub close_ok : (f : Fixed) (t : Token) (ts : List Token) (v : ℕ) → Is f t → close f (input (t ∷ ts) v) ≡ Ok (t, input ts v)
unfolding close
close_ok f t ts v h = let e : is_fixed f (Some t.kind) ≡ true = is_so f t h in rw (e, take_ok)

-- what comes of a token that opens a level
pub data Raising (limit : ℕ) (t : Token) (ts : List Token) (v : ℕ) : Outcome Token → Type 0 where
  fits : v + 1 ≤ limit → Raising limit t ts v (Ok (t, input ts (v + 1)))
  exceeds : limit < v + 1 → Raising limit t ts v (Err (Deep (suc (length ts))))

pub raises : (limit : ℕ) (t : Token) (ts : List Token) (v : ℕ) → Raising limit t ts v (raise limit (input (t ∷ ts) v))
unfolding raise
raises limit t ts v = by_test (nat_lt v limit) refl
  where
    by_test : (b : Bool) → nat_lt v limit ≡ b → Raising limit t ts v (cond b (Ok (t, input ts (v + 1))) (Err (Deep (suc (length ts)))))
    by_test true e = fits (let lower : v < limit = grind arith in omega arith)
    by_test false e = exceeds (let higher : limit ≤ v = grind arith in omega arith)

pub enters : (limit : ℕ) (f : Fixed) (t : Token) (ts : List Token) (v : ℕ) → Is f t → Raising limit t ts v (enter limit f (input (t ∷ ts) v))
unfolding enter
enters limit f t ts v h = let e : is_fixed f (Some t.kind) ≡ true = is_so f t h in rw e (raises limit t ts v)

follow_opens : {limit v : ℕ} {t : Token} {ts : List Token} {o : Outcome Token} → Raising limit t ts v o → Follows limit t (v + 1) (at t (v + 1) ∷ []) ts o
follow_opens (fits le) = comes
follow_opens (exceeds lt) = too_high (above_here lt refl)

-- what stands after such a token is looked at only where the limit allows it
pub opens_then : {B : Type 0} {limit v w : ℕ} {t : Token} {y : B} {ls : List Spelt} {rest : List Token} {o : Outcome Token} (g : Token → Parser B) → Raising limit t (tokens ls ++ rest) v o
    → (v + 1 ≤ limit → Follows limit y w ls rest (g t (input (tokens ls ++ rest) (v + 1)))) → Follows limit y w (at t (v + 1) ∷ ls) rest (and_then o g)
opens_then {v = v} {t = t} g (fits le) h = follow_behind (at t (v + 1) ∷ []) (h le)
opens_then g (exceeds lt) h = too_high (above_here lt refl)

pub token : (limit : ℕ) (f : Fixed) → Exact limit (close f) (Tok f) (Tok f)
token limit f = record { sound = so; complete = λ v w t ls rest q. of q rest }
  where
    so : (i j : Input) (t : Token) → i.level ≤ limit → close f i ≡ Ok (t, j) → Read limit (Tok f) t i j
    so i j t small h =
        let c = closed f i t j h in
        let R : ℕ → Type 0 = λ z. Tok f i.level t z (at t i.level ∷ []) (kind_ahead j.rest) in
        record { spelt = at t i.level ∷ []; front = c.took.front; spells = subst R (sym c.took.level) (tok c.is); within = (small, tt); small = omega (arith, c.took.level) }

    of : {v w : ℕ} {t : Token} {ls : List Spelt} {k : Option TokenKind} → Tok f v t w ls k → (rest : List Token) → Follows limit t w ls rest (close f (input (tokens ls ++ rest) v))
    of (tok {v} {t} {k} h) rest = rw (close_ok f t rest v h) comes

pub last_token : (limit u : ℕ) → u ≤ limit → (f : Fixed) → Exact limit (close f) (Last f u) (Last f u)
last_token limit u low f = record { sound = so; complete = λ v w t ls rest q. of q rest }
  where
    so : (i j : Input) (t : Token) → i.level ≤ limit → close f i ≡ Ok (t, j) → Read limit (Last f u) t i j
    so i j t small h =
        let c = closed f i t j h in
        let R : ℕ → Type 0 = λ z. Last f u i.level t z (at t u ∷ []) (kind_ahead j.rest) in
        record { spelt = at t u ∷ []; front = c.took.front; spells = subst R (sym c.took.level) (last c.is); within = (low, tt); small = omega (arith, c.took.level) }

    of : {v w : ℕ} {t : Token} {ls : List Spelt} {k : Option TokenKind} → Last f u v t w ls k → (rest : List Token) → Follows limit t w ls rest (close f (input (tokens ls ++ rest) v))
    of (last {v} {t} {k} h) rest = rw (close_ok f t rest v h) comes

pub opening : (limit : ℕ) (f : Fixed) → Exact limit (enter limit f) (Up f) (Up f)
opening limit f = record { sound = so; complete = λ v w t ls rest q. of q rest }
  where
    so : (i j : Input) (t : Token) → i.level ≤ limit → enter limit f i ≡ Ok (t, j) → Read limit (Up f) t i j
    so i j t small h =
        let c = entered limit f i t j h in
        let R : ℕ → Type 0 = λ z. Up f i.level t z (at t (i.level + 1) ∷ []) (kind_ahead j.rest) in
        record { spelt = at t (i.level + 1) ∷ []; front = c.raised.front; spells = subst R (sym c.raised.level) (up c.is); within = (c.raised.small, tt); small = omega (arith, c.raised.level, c.raised.small) }

    of : {v w : ℕ} {t : Token} {ls : List Spelt} {k : Option TokenKind} → Up f v t w ls k → (rest : List Token) → Follows limit t w ls rest (enter limit f (input (tokens ls ++ rest) v))
    of (up {v} {t} {k} h) rest = follow_opens (enters limit f t rest v h)

-- a token that opens a level, and what stands after it where the limit allows this
pub data Over {B : Type 0} (limit : ℕ) (f : Fixed) (Q : Token → Lang B) : ℕ → B → ℕ → List Spelt → Option TokenKind → Type 0 where
  over : {v w : ℕ} {t : Token} {y : B} {ls : List Spelt} {k : Option TokenKind} → Is f t → (v + 1 ≤ limit → Q t (v + 1) y w ls k) → Over limit f Q v y w (at t (v + 1) ∷ ls) k

module _ {limit : ℕ} {B : Type 0} {g : Token → Parser B} {P Q : Token → Lang B} (f : Fixed) where
  pub bind_up : ((t : Token) → Exact limit (g t) (P t) (Q t)) → Exact limit (enter limit f >>= g) (Bind (Up f) P) (Over limit f Q)
  bind_up b = record { sound = (bind (opening limit f) b).sound; complete = λ v w y ls rest q. of q rest refl }
    where
      of : {v w : ℕ} {y : B} {ls : List Spelt} {k : Option TokenKind} → Over limit f Q v y w ls k → (rest : List Token) → k ≡ kind_ahead rest → Follows limit y w ls rest (and_then (enter limit f (input (tokens ls ++ rest) v)) g)
      of (over {v} {w} {t} {y} {ls} {k} h q) rest e =
          let S : Option TokenKind → Type 0 = λ z. Q t (v + 1) y w ls z in
          opens_then g (enters limit f t (tokens ls ++ rest) v h) (λ small. (b t).complete (v + 1) w y ls rest (subst S e (q small)))

-- ---- brackets

-- between two brackets, after the second of which the level is g of that before the first
pub data EnclosedTo {A B : Type 0} (g : ℕ → ℕ) (l r : Fixed) (f : Token → A → B) (P : Lang A) : ℕ → B → ℕ → List Spelt → Option TokenKind → Type 0 where
  between : {v w : ℕ} {left : Token} (right : Token) {x : A} {ls : List Spelt} {k : Option TokenKind} → Is l left → P (v + 1) x w ls (Some right.kind) → Is r right
      → EnclosedTo g l r f P v (f left x) v (at left (v + 1) ∷ (ls ++ (at right (g v) ∷ []))) k

-- the same, where what stands between is looked at only where the limit allows it
pub data Enclosing {A B : Type 0} (limit : ℕ) (g : ℕ → ℕ) (l r : Fixed) (f : Token → A → B) (P : Lang A) : ℕ → B → ℕ → List Spelt → Option TokenKind → Type 0 where
  encloses : {v w : ℕ} {left : Token} (right : Token) {x : A} {ls : List Spelt} {k : Option TokenKind} → Is l left → (v + 1 ≤ limit → P (v + 1) x w ls (Some right.kind)) → Is r right
      → Enclosing limit g l r f P v (f left x) v (at left (v + 1) ∷ (ls ++ (at right (g v) ∷ []))) k

abbrev pub Enclosed : {A B : Type 0} → Fixed → Fixed → (Token → A → B) → Lang A → Lang B
Enclosed l r f P = EnclosedTo (λ v. v) l r f P

-- a value, and then the level outside
scoped_pair : {B : Type 0} (u : ℕ) (x y z : B) (i k j : Input) → ok_of x i ≡ ok_of y k → ok_of y (input k.rest u) ≡ ok_of z j → (x ≡ z) × (i.rest ≡ j.rest) × (u ≡ j.level)
scoped_pair u x y z i k j a b =
    let p = ok_pair x y i k a in
    let q = ok_pair y z (input k.rest u) j b in
    (p.0 ∙ q.0, ap (λ (m : Input). m.rest) p.1 ∙ ap (λ (m : Input). m.rest) q.1, ap (λ (m : Input). m.level) q.1)

module _ {limit : ℕ} {A B : Type 0} {p : Parser A} {P P' : Lang A} (g : ℕ → ℕ) (low : (v : ℕ) → v ≤ limit → g v ≤ limit) (l r : Fixed) (f : Token → A → B) where
  pub enclosing_to : Exact limit p P P' → Exact limit (reading.enclosed limit l r f p) (EnclosedTo g l r f P) (Enclosing limit g l r f P')
  enclosing_to a = record { sound = so; complete = λ v w y ls rest q. of q rest }
    where
      finish : Token → A → Parser B
      finish t x = λ k. and_then (close r k) (λ _ m. ok_of (f t x) m)

      -- what stands between an opening token and a closing one
      between_read : (i m n o j : Input) (left right : Token) (x : A) → i.level ≤ limit → Raised limit left i m → Is l left → Read limit P x m n → Took right n o → Is r right
          → o.rest ≡ j.rest → i.level ≡ j.level → Read limit (EnclosedTo g l r f P) (f left x) i j
      between_read i m n o j left right x small e hl q t hr after level =
          let back : n.rest ≡ right ∷ j.rest = t.front ∙ ap (λ u. right ∷ u) after in
          let R : ℕ → Type 0 = λ v. P v x n.level q.spelt (kind_ahead n.rest) in
          let S : Option TokenKind → Type 0 = λ k. P (i.level + 1) x n.level q.spelt k in
          let inner : P (i.level + 1) x n.level q.spelt (Some right.kind) = subst S (ap kind_ahead back) (subst R e.level q.spells) in
          let T : ℕ → Type 0 = λ v. EnclosedTo g l r f P i.level (f left x) v (at left (i.level + 1) ∷ (q.spelt ++ (at right (g i.level) ∷ []))) (kind_ahead j.rest) in
          record {
            spelt = at left (i.level + 1) ∷ (q.spelt ++ (at right (g i.level) ∷ []));
            front = e.front ∙ ap (λ u. left ∷ u) (q.front ∙ ap (λ u. tokens q.spelt ++ u) back ∙ sym (tokens_append q.spelt (at right (g i.level) ∷ []) j.rest));
            spells = subst T level (between right hl inner hr);
            within = (e.small, within_join limit q.spelt (at right (g i.level) ∷ []) q.within (low i.level small, tt));
            small = omega (arith, level);
          }

      so : (i j : Input) (y : B) → i.level ≤ limit → reading.enclosed limit l r f p i ≡ Ok (y, j) → Read limit (EnclosedTo g l r f P) y i j
      so i j y small h =
          let o = step (and_then (enter limit l i) (λ t k. and_then (p k) (finish t))) (λ x k. Ok (x, input k.rest i.level)) (y, j) h in
          let b = step (enter limit l i) (λ t k. and_then (p k) (finish t)) (o.value, o.state) o.was in
          let c = step (p b.state) (finish b.value) (o.value, o.state) b.goes in
          let d = step (close r c.state) (λ _ m. ok_of (f b.value c.value) m) (o.value, o.state) c.goes in
          let e = entered limit l i b.value b.state b.was in
          let m = a.sound b.state c.state c.value (omega (arith, e.raised.level, e.raised.small)) c.was in
          let z1 = closed r c.state d.value d.state d.was in
          let q = scoped_pair i.level (f b.value c.value) o.value y d.state o.state j d.goes o.goes in
          let R : B → Type 0 = λ u. Read limit (EnclosedTo g l r f P) u i j in
          subst R q.0 (between_read i b.state c.state d.state j b.value d.value c.value small e.raised e.is m z1.took z1.is q.1 q.2)

      closes_by : {v w : ℕ} (left right : Token) {x : A} {ls : List Spelt} {rest : List Token} {o : Outcome A} → Is r right → Follows limit x w ls (right ∷ rest) o
          → Follows limit (f left x) v (at left (v + 1) ∷ (ls ++ (at right (g v) ∷ []))) rest (and_then (and_then o (finish left)) (λ x k. Ok (x, input k.rest v)))
      closes_by {v} {w} left right {rest = rest} hr comes = rw (close_ok r right rest w hr) comes
      closes_by {v} left right hr (too_high a) = too_high (above_later (above_front (at right (g v) ∷ []) a))

      of : {v w : ℕ} {y : B} {ls : List Spelt} {k : Option TokenKind} → Enclosing limit g l r f P' v y w ls k → (rest : List Token)
          → Follows limit y w ls rest (reading.enclosed limit l r f p (input (tokens ls ++ rest) v))
      of (encloses {v} {w} {left} right {x} {ls} {k} hl q hr) rest =
          let same : tokens (ls ++ (at right (g v) ∷ [])) ++ rest ≡ tokens ls ++ (right ∷ rest) = tokens_append ls (at right (g v) ∷ []) rest in
          rw same (by same (enters limit l left (tokens ls ++ (right ∷ rest)) v hl))
        where
          by : tokens (ls ++ (at right (g v) ∷ [])) ++ rest ≡ tokens ls ++ (right ∷ rest) → {o : Outcome Token} → Raising limit left (tokens ls ++ (right ∷ rest)) v o
              → Follows limit (f left x) v (at left (v + 1) ∷ (ls ++ (at right (g v) ∷ []))) rest (and_then (and_then o (λ t k. and_then (p k) (finish t))) (λ x k. Ok (x, input k.rest v)))
          by same (fits small) = closes_by left right hr (a.complete (v + 1) w x ls (right ∷ rest) (q small))
          by same (exceeds lt) = too_high (above_here lt (ap (λ z. suc (length z)) (sym same)))

abbrev pub EnclosedBy : {A B : Type 0} → ℕ → Fixed → Fixed → (Token → A → B) → Lang A → Lang B
EnclosedBy limit l r f P = Enclosing limit (λ v. v) l r f P

module _ {limit : ℕ} {A B : Type 0} {p : Parser A} {P P' : Lang A} (l r : Fixed) (f : Token → A → B) where
  pub enclosing : Exact limit p P P' → Exact limit (reading.enclosed limit l r f p) (Enclosed l r f P) (EnclosedBy limit l r f P')
  enclosing a = enclosing_to (λ v. v) (λ v h. h) l r f a

-- ---- names and numbers

-- What stands in one token, whose kind holds it, and what is made of this.
data Leaf {A B : Type 0} (holding : A → TokenKind) (build : A → Place → B) : B → ℕ → List Spelt → Type 0 where
  holds : {v : ℕ} {t : Token} (x : A) → t.kind ≡ holding x → Leaf holding build (build x t.place) v (at t v ∷ [])

abbrev Found : {A : Type 0} → (A → TokenKind) → Option TokenKind → Option A → Type 0
Found holding k None = Unit {0}
Found holding k (Some x) = k ≡ Some (holding x)

module _ {A B : Type 0} (holding : A → TokenKind) (build : A → Place → B) (find : Option TokenKind → Option A) where
  abbrev Leaves : Lang B
  Leaves = Part Any (Leaf holding build)

  a_leaf : (limit : ℕ) → ((k : Option TokenKind) → Found holding k (find k)) → ((x : A) → find (Some (holding x)) ≡ Some x) → Exact limit (leaf build find) Leaves Leaves
  a_leaf limit found finds = record { sound = λ i j n small h. by i j n small (find (kind_ahead i.rest)) (found (kind_ahead i.rest)) h; complete = λ v w n ls rest q. of q rest }
    where
      by : (i j : Input) (n : B) → i.level ≤ limit → (o : Option A) → Found holding (kind_ahead i.rest) o → leaf_by build o i ≡ Ok (n, j) → Read limit Leaves n i j
      by i j n small None s h = absurd (cc)
      by i j n small (Some x) s h =
          let a = step (take i) (λ t k. Ok (build x t.place, k)) (n, j) h in
          let t = took i.rest i.level a.value a.state a.was in
          let e = ok_pair (build x a.value.place) n a.state j a.goes in
          let is : a.value.kind ≡ holding x = head_kind i.rest a.state.rest a.value (holding x) t.front s in
          let R : ℕ → Type 0 = λ z. Leaves i.level (build x a.value.place) z (at a.value i.level ∷ []) (kind_ahead a.state.rest) in
          let made : Read limit Leaves (build x a.value.place) i a.state =
          record { spelt = at a.value i.level ∷ []; front = t.front; spells = subst R (sym t.level) (part (holds x is) tt); within = (small, tt); small = omega (arith, t.level) } in
          let S : Input → Type 0 = λ z. Read limit Leaves (build x a.value.place) i z in
          let T : B → Type 0 = λ z. Read limit Leaves z i j in
          subst T e.0 (subst S e.1 made)

      of : {v w : ℕ} {n : B} {ls : List Spelt} {k : Option TokenKind} → Leaves v n w ls k → (rest : List Token) → Follows limit n w ls rest (leaf build find (input (tokens ls ++ rest) v))
      of (part (holds {v} {t} x h) c) rest = let e : find (Some t.kind) ≡ Some x = ap (λ z. find (Some z)) h ∙ finds x in rw (e, take_ok) comes

pub a_name : (limit : ℕ) → Exact limit name (Part Any NameIs) (Part Any NameIs)
unfolding name
a_name limit = convert to from (a_leaf kind.Name name_at token_name limit found (λ id. refl))
  where
    found : (k : Option TokenKind) → Found kind.Name k (token_name k)
    found (Some (kind.Name id)) = refl
    found _ = tt

    to : (v w : ℕ) (n : Name) (ls : List Spelt) (k : Option TokenKind) → Leaves kind.Name name_at token_name v n w ls k → Part Any NameIs v n w ls k
    to v w n ls k (part (holds id h) c) = part (name_is id h) c

    from : (v w : ℕ) (n : Name) (ls : List Spelt) (k : Option TokenKind) → Part Any NameIs v n w ls k → Leaves kind.Name name_at token_name v n w ls k
    from v w n ls k (part (name_is id h) c) = part (holds id h) c

pub a_number : (limit : ℕ) → Exact limit read_number (Part Any NumberIs) (Part Any NumberIs)
unfolding read_number
a_number limit = convert to from (a_leaf kind.Number number_at token_number limit found (λ value. refl))
  where
    found : (k : Option TokenKind) → Found kind.Number k (token_number k)
    found (Some (kind.Number value)) = refl
    found _ = tt

    to : (v w : ℕ) (n : Number) (ls : List Spelt) (k : Option TokenKind) → Leaves kind.Number number_at token_number v n w ls k → Part Any NumberIs v n w ls k
    to v w n ls k (part (holds value h) c) = part (number_is value h) c

    from : (v w : ℕ) (n : Number) (ls : List Spelt) (k : Option TokenKind) → Part Any NumberIs v n w ls k → Leaves kind.Number number_at token_number v n w ls k
    from v w n ls k (part (number_is value h) c) = part (holds value h) c

-- ---- lists with commas

abbrev pub Comma : Token → Type 0
Comma t = Is fixed.Comma t

-- one or more
pub data Listed {A : Type 0} (P : Lang A) : ℕ → List A → ℕ → List Spelt → Option TokenKind → Type 0 where
  end_of_list : {v w : ℕ} {x : A} {ls : List Spelt} {k : Option TokenKind} → P v x w ls k → is_fixed fixed.Comma k ≡ false → Listed P v (x ∷ []) w ls k
  next_of_list : {v u w : ℕ} {x : A} {xs : List A} (comma : Token) {ls rs : List Spelt} {k : Option TokenKind} → P v x u ls (Some comma.kind) → Comma comma → Listed P u xs w rs k
      → Listed P v (x ∷ xs) w (ls ++ (at comma u ∷ rs)) k

-- not empty
abbrev pub Filled : List Spelt → Type 0
Filled [] = ⊥
Filled (s ∷ ls) = Unit {0}

pub filled-long : (ls : List Spelt) (rest : List Token) → Filled ls → suc (length rest) ≤ length (tokens ls ++ rest)
filled-long [] rest h = absurd h
filled-long (s ∷ ls) rest h = omega (arith, longer ls rest)

module _ {limit : ℕ} {A : Type 0} {p : Parser A} {P P' : Lang A} (a : Exact limit p P P') where
  record More (found all : List A) (i j : Input) : Type 0 where
    pub xs : List A
    pub all_is : all ≡ found ++ xs
    pub read : Read limit (Listed P) xs i j

  l_turn : (n : ℕ) (found all : List A) (i j : Input) → i.level ≤ limit → separated_from p n found i ≡ Ok (all, j) → More found all i j
  unfolding separated_from
  l_turn zero found all i j small h = absurd (cc)
  l_turn (suc n) found all i j small h = by_test (l_turn n) (is_fixed fixed.Comma (kind_ahead s.state.rest)) refl s.goes
    where
      s : BothSucceed (p i) (λ x k. cond (is_fixed fixed.Comma (kind_ahead k.rest)) (and_then (take k) (λ _ l. separated_from p n (found ++ x ∷ []) l)) (Ok (found ++ x ∷ [], k))) (all, j)
      s = step (p i) _ (all, j) h

      m : Read limit P s.value i s.state
      m = a.sound i s.state s.value small s.was

      by_test : ((found all : List A) (i j : Input) → i.level ≤ limit → separated_from p n found i ≡ Ok (all, j) → More found all i j)
          → (b : Bool) → is_fixed fixed.Comma (kind_ahead s.state.rest) ≡ b
          → cond b (and_then (take s.state) (λ _ l. separated_from p n (found ++ s.value ∷ []) l)) (Ok (found ++ s.value ∷ [], s.state)) ≡ Ok (all, j) → More found all i j
      by_test ih true e k =
          let t = step (take s.state) (λ _ l. separated_from p n (found ++ s.value ∷ []) l) (all, j) k in
          let c = took s.state.rest s.state.level t.value t.state t.was in
          let is : Comma t.value = head_kind s.state.rest t.state.rest t.value (kind_of fixed.Comma) c.front (fixed-kind fixed.Comma (kind_ahead s.state.rest) e) in
          let more = ih (found ++ s.value ∷ []) all t.state j (omega (arith, c.level, m.small)) t.goes in
          let r = more.read in
          let R : Option TokenKind → Type 0 = λ z. P i.level s.value s.state.level m.spelt z in
          let S : ℕ → Type 0 = λ z. Listed P z more.xs j.level r.spelt (kind_ahead j.rest) in
          record {
            xs = s.value ∷ more.xs;
            all_is = more.all_is ∙ append_assoc found (s.value ∷ []) more.xs;
            read = record {
              spelt = m.spelt ++ (at t.value s.state.level ∷ r.spelt);
              front = m.front ∙ ap (λ z. tokens m.spelt ++ z) (c.front ∙ ap (λ z. t.value ∷ z) r.front) ∙ sym (tokens_append m.spelt (at t.value s.state.level ∷ r.spelt) j.rest);
              spells = next_of_list t.value (subst R (ap kind_ahead c.front) m.spells) is (subst S c.level r.spells);
              within = within_join limit m.spelt (at t.value s.state.level ∷ r.spelt) m.within (m.small, r.within);
              small = r.small;
            };
          }
      by_test ih false e k =
          let q = ok_pair (found ++ s.value ∷ []) all s.state j k in
          let made : More found (found ++ s.value ∷ []) i s.state =
          record { xs = s.value ∷ []; all_is = refl; read = record { spelt = m.spelt; front = m.front; spells = end_of_list m.spells e; within = m.within; small = m.small } } in
          let R : Input → Type 0 = λ z. More found (found ++ s.value ∷ []) i z in
          let S : List A → Type 0 = λ z. More found z i j in
          subst S q.0 (subst R q.1 made)

  pub l_sound : (i j : Input) (all : List A) → i.level ≤ limit → separated p i ≡ Ok (all, j) → Read limit (Listed P) all i j
  unfolding separated
  l_sound i j all small h =
      let m = l_turn (length i.rest) [] all i j small h in
      let S : List A → Type 0 = λ z. Read limit (Listed P) z i j in
      subst S (sym m.all_is) m.read

  abbrev next_part : ℕ → List A → A → Parser (List A)
  next_part n found x i = cond (next_is fixed.Comma i) (and_then (take i) (λ _. separated_from p n (found ++ x ∷ []))) (Ok (found ++ x ∷ [], i))

  l_complete : (some : (v w : ℕ) (x : A) (ls : List Spelt) (k : Option TokenKind) → P' v x w ls k → Filled ls) → {v w : ℕ} {xs : List A} {ls : List Spelt} {k : Option TokenKind}
      → Listed P' v xs w ls k → (n : ℕ) (found : List A) (rest : List Token) → k ≡ kind_ahead rest
      → length (tokens ls ++ rest) ≤ n → Follows limit (found ++ xs) w ls rest (separated_from p n found (input (tokens ls ++ rest) v))
  unfolding separated_from
  l_complete some (end_of_list {v} {w} {x} {ls} {k} q c) zero found rest e enough = absurd (omega (arith, filled-long ls rest (some v w x ls k q)))
  l_complete some (end_of_list {v} {w} {x} {ls} {k} q c) (suc n) found rest e enough =
      let R : Option TokenKind → Type 0 = λ z. P' v x w ls z in
      let no : is_fixed fixed.Comma (kind_ahead rest) ≡ false = ap (is_fixed fixed.Comma) (sym e) ∙ c in
      follow_as (next_part n found) (a.complete v w x ls rest (subst R e q)) (rw no)
  l_complete some (next_of_list {v} {u} {w} {x} {xs} comma {ls} {rs} {k} q c more) zero found rest e enough =
      let tail = tokens rs ++ rest in
      let same : tokens (ls ++ (at comma u ∷ rs)) ++ rest ≡ tokens ls ++ (comma ∷ tail) = tokens_append ls (at comma u ∷ rs) rest in
      let room : length (tokens ls ++ (comma ∷ tail)) ≤ 0 = rw same at enough in
      absurd (omega (arith, longer ls (comma ∷ tail)))
  l_complete some (next_of_list {v} {u} {w} {x} {xs} comma {ls} {rs} {k} q c more) (suc n) found rest e enough =
      let tail = tokens rs ++ rest in
      let yes' : is_fixed fixed.Comma (Some comma.kind) ≡ true = is_so fixed.Comma comma c in
      let same : tokens (ls ++ (at comma u ∷ rs)) ++ rest ≡ tokens ls ++ (comma ∷ tail) = tokens_append ls (at comma u ∷ rs) rest in
      let room : length (tokens ls ++ (comma ∷ tail)) ≤ suc n = rw same at enough in
      let many = l_complete some more n (found ++ x ∷ []) rest e (omega (arith, longer ls (comma ∷ tail))) in
      let S : List A → Type 0 = λ z. Follows limit z w rs rest (separated_from p n (found ++ x ∷ []) (input tail u)) in
      let two : Follows limit (found ++ (x ∷ xs)) w rs rest (separated_from p n (found ++ x ∷ []) (input tail u)) = subst S (append_assoc found (x ∷ []) xs) many in
      let three : Follows limit (found ++ (x ∷ xs)) w (at comma u ∷ rs) rest (next_part n found x (input (comma ∷ tail) u)) = rw (yes', take_ok) (follow_behind (at comma u ∷ []) two) in
      rw same (follow_then (at comma u ∷ rs) (next_part n found) (a.complete v u x ls (comma ∷ tail) q) three)

  pub commas : ((v w : ℕ) (x : A) (ls : List Spelt) (k : Option TokenKind) → P' v x w ls k → Filled ls) → Exact limit (separated p) (Listed P) (Listed P')
  unfolding separated
  commas some = record {
    sound = l_sound;
    complete = λ v w xs ls rest q. l_complete some q (length (tokens ls ++ rest)) [] rest refl (omega arith);
  }

-- a part that has a token
pub data Full {A : Type 0} (P : Lang A) : ℕ → A → ℕ → List Spelt → Option TokenKind → Type 0 where
  full : {v w : ℕ} {x : A} {ls : List Spelt} {k : Option TokenKind} → P v x w ls k → Filled ls → Full P v x w ls k

pub full_commas : {limit : ℕ} {A : Type 0} {p : Parser A} {P P' : Lang A} → Exact limit p P P' → Exact limit (separated p) (Listed P) (Listed (Full P'))
full_commas {limit} {A} {p} {P} {P'} a = commas (convert (λ v w x ls k q. q) of a) some
  where
    of : (v w : ℕ) (x : A) (ls : List Spelt) (k : Option TokenKind) → Full P' v x w ls k → P' v x w ls k
    of v w x ls k (full q f) = q

    some : (v w : ℕ) (x : A) (ls : List Spelt) (k : Option TokenKind) → Full P' v x w ls k → Filled ls
    some v w x ls k (full q f) = f
