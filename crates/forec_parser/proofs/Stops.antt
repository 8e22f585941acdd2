-- A text is refused at one token, for one cause, and each text that spells no program within the limit is.
use mathlib.Core.Path.{subst}
use Rattle.std.proofs.Common.{◌≡◌, ◌≢◌, ℕ, zero, suc, ◌+◌, ◌-◌, ◌≤◌, ◌<◌, Bool, true, false, nat_lt, List, [], ◌∷◌, ◌++◌, length, length-append, take, drop, Ok, Err, refl, sym, ◌∙◌, ap, append_assoc, append-nil, arith}
use Rattle.std.proofs.lemmas.List.{take-append-drop}
use Rattle.forec_tree.specs.declared.token.Token.{Token}
use Rattle.forec_tree.specs.Terms.{Text}
use Rattle.forec_tree.specs.Spelling.{Spelt, at, tokens, IsWithin}
use Rattle.forec_tree.specs.SpelledPrograms.{Programs, IsSpelled}
use Rattle.expr_parser.specs.declared.fault.Fault.TheVariants.{Syntax, Deep, OutOfMemory}
use Rattle.expr_parser.specs.declared.fault.Fault.{Fault}
use Rattle.forec_parser.specs.declared.fault.ParseFault.{ParseFault}
use Rattle.forec_parser.specs.declared.fault.ParseFault.TheVariants as public
use Rattle.expr_parser.specs.Input.{input, Outcome, max_level}
use Rattle.forec_parser.specs.Items.{items}
use Rattle.forec_parser.specs.ViablePrefixes.{IsFront, IsFrontWithin, OpensAbove, StopsAt, OpensAt}
use Rattle.forec_parser.specs.Program.{ReadsProgram, HasParseCause, IsAmong, told_of}
use Rattle.expr_parser.proofs.Spans.{within_front}
use Rattle.forec_tree.specs.declared.tree.Program.{Program}
use Rattle.forec_tree.specs.Plain.{program}
use Rattle.forec_parser.proofs.ProgramLemmas.{spelled_so, found_so}
use Rattle.forec_parser.proofs.ItemSteady.{items_among, items_deep_among, items_take_no_memory}
use Rattle.forec_parser.proofs.ViablePrograms.{FrontBefore, AboveBefore, refused_behind_front}
use Rattle.forec_parser.proofs.Refusals.{no_front, no_program, no_front_within, tokens_join}

-- ---- tokens and those before

tokens_take : (n : ℕ) (ls : List Spelt) → tokens (take n ls) ≡ take n (tokens ls)
tokens_take zero ls = refl
tokens_take (suc n) [] = refl
tokens_take (suc n) (s ∷ ls) = ap (λ z. s.token ∷ z) (tokens_take n ls)

take_take : (n m : ℕ) (ts : List Token) → n ≤ m → take n (take m ts) ≡ take n ts
take_take zero m ts le = refl
take_take (suc n) zero ts le = absurd (omega arith)
take_take (suc n) (suc m) [] le = refl
take_take (suc n) (suc m) (t ∷ ts) le = ap (λ z. t ∷ z) (take_take n m ts (omega arith))

take_all : (ts : List Token) → take (length ts) ts ≡ ts
take_all [] = refl
take_all (t ∷ ts) = ap (λ z. t ∷ z) (take_all ts)

take_front : (a b : List Token) → take (length a) (a ++ b) ≡ a
take_front [] b = refl
take_front (t ∷ a) b = ap (λ z. t ∷ z) (take_front a b)

take_one : (a x : List Token) (t : Token) → take (suc (length a)) (a ++ (t ∷ x)) ≡ a ++ (t ∷ [])
take_one [] x t = refl
take_one (s ∷ a) x t = ap (λ z. s ∷ z) (take_one a x t)

-- ---- fronts of fronts

split_spells : {program : Text} (n : ℕ) (front after : List Spelt) → Programs program 0 (front ++ after) → Programs program 0 (take n front ++ (drop n front ++ after))
split_spells {program} n front after s =
    let P : List Spelt → Type 0 = λ z. Programs program 0 z in
    subst P (ap (λ z. z ++ after) (sym (take-append-drop n front)) ∙ append_assoc (take n front) (drop n front) after) s

before_are : (n m : ℕ) (ts : List Token) (front : List Spelt) → n ≤ m → tokens front ≡ take m ts → tokens (take n front) ≡ take n ts
before_are n m ts front le e = tokens_take n front ∙ ap (take n) e ∙ take_take n m ts le

front_before : (n m : ℕ) (ts : List Token) → n ≤ m → IsFront (take m ts) → IsFront (take n ts)
front_before n m ts le f =
    record { program = f.program; front = take n f.front; after = drop n f.front ++ f.after; spells = split_spells n f.front f.after f.spells; are = before_are n m ts f.front le f.are }

within_before : (limit n : ℕ) (ls : List Spelt) → IsWithin limit ls → IsWithin limit (take n ls)
within_before limit n ls w = let P : List Spelt → Type 0 = λ z. IsWithin limit z in within_front limit (take n ls) (drop n ls) (subst P (sym (take-append-drop n ls)) w)

front_within_before : (limit n m : ℕ) (ts : List Token) → n ≤ m → IsFrontWithin limit (take m ts) → IsFrontWithin limit (take n ts)
front_within_before limit n m ts le f = record {
  program = f.program;
  front = take n f.front;
  after = drop n f.front ++ f.after;
  spells = split_spells n f.front f.after f.spells;
  are = before_are n m ts f.front le f.are;
  within = within_before limit n f.front f.within;
}

-- the tokens before one that opens a level above the limit
above_before : (limit m : ℕ) (ts : List Token) → m < length ts → OpensAbove limit (take (suc m) ts) → IsFrontWithin limit (take m ts)
above_before limit m ts lt o = record { program = o.program; front = o.front; after = at o.token (limit + 1) ∷ o.after; spells = o.spells; are = same; within = o.within }
  where
    counted : (ts : List Token) (m : ℕ) → m < length ts → length (take (suc m) ts) ≡ suc m
    counted [] m lt = absurd (omega arith)
    counted (t ∷ ts) zero lt = refl
    counted (t ∷ ts) (suc m) lt = ap (λ z. suc z) (counted ts m (omega arith))

    count : length (tokens o.front) ≡ m
    count = let e = ap length o.are ∙ counted ts m lt in omega (arith, e, length-append (tokens o.front) (o.token ∷ []))

    same : tokens o.front ≡ take m ts
    same =
        let a : tokens o.front ≡ take (length (tokens o.front)) (tokens o.front ++ (o.token ∷ [])) = sym (take_front (tokens o.front) (o.token ∷ [])) in
        a ∙ ap (λ z. take z (tokens o.front ++ (o.token ∷ []))) count ∙ ap (take m) o.are ∙ take_take m (suc m) ts (omega arith)

above_is_front : (limit : ℕ) (ts : List Token) → OpensAbove limit ts → IsFront ts
above_is_front limit ts o =
    let P : List Spelt → Type 0 = λ z. Programs o.program 0 z in
    record {
      program = o.program;
      front = o.front ++ (at o.token (limit + 1) ∷ []);
      after = o.after;
      spells = subst P (sym (append_assoc o.front (at o.token (limit + 1) ∷ []) o.after)) o.spells;
      are = tokens_join o.front (at o.token (limit + 1) ∷ []) ∙ o.are;
    }

within_is_front : (limit : ℕ) (ts : List Token) → IsFrontWithin limit ts → IsFront ts
within_is_front limit ts f = record { program = f.program; front = f.front; after = f.after; spells = f.spells; are = f.are }

spelled_front : (limit : ℕ) (program : Text) (ts : List Token) → IsSpelled limit program ts → IsFrontWithin limit (take (length ts) ts)
spelled_front limit program ts s =
    let P : List Spelt → Type 0 = λ z. Programs program 0 z in
    record { program = program; front = s.spelt; after = []; spells = subst P (sym (append-nil s.spelt)) s.spells; are = s.are ∙ sym (take_all ts); within = s.within }

-- ---- one cause, at one token

module _ (limit : ℕ) (ts : List Token) where
  pub spelled_never_stops : (program : Text) (n : ℕ) → IsSpelled limit program ts → StopsAt limit ts n → ⊥
  spelled_never_stops program n s x = by (nat_lt n (length ts)) refl
    where
      by : (b : Bool) → nat_lt n (length ts) ≡ b → ⊥
      by true e = let lt : n < length ts = grind arith in x.breaks lt (within_is_front limit (take (suc n) ts) (front_within_before limit (suc n) (length ts) ts (omega arith) (spelled_front limit program ts s)))
      by false e = let ge : length ts ≤ n = grind arith in let le = x.among in x.unspelled (omega arith) limit program s

  pub spelled_never_opens : (program : Text) (n : ℕ) → IsSpelled limit program ts → OpensAt limit ts n → ⊥
  spelled_never_opens program n s x = x.always (front_within_before limit (suc n) (length ts) ts (let lt = x.among in omega arith) (spelled_front limit program ts s))

  stops_below : (n m : ℕ) → StopsAt limit ts n → StopsAt limit ts m → n < m → ⊥
  stops_below n m x y lt =
      let le = y.among in
      x.breaks (omega arith) (within_is_front limit (take (suc n) ts) (front_within_before limit (suc n) m ts (omega arith) y.front))

  pub one_stop : (n m : ℕ) → StopsAt limit ts n → StopsAt limit ts m → n ≡ m
  one_stop n m x y = by (nat_lt n m) (nat_lt m n) refl refl
    where
      by : (b c : Bool) → nat_lt n m ≡ b → nat_lt m n ≡ c → n ≡ m
      by true c e f = absurd (stops_below n m x y (grind arith))
      by false true e f = absurd (stops_below m n y x (grind arith))
      by false false e f = grind arith

  opens_below : (n m : ℕ) → OpensAt limit ts n → OpensAt limit ts m → n < m → ⊥
  opens_below n m x y lt = x.always (front_within_before limit (suc n) m ts (omega arith) (above_before limit m ts y.among y.opens))

  pub one_opening : (n m : ℕ) → OpensAt limit ts n → OpensAt limit ts m → n ≡ m
  one_opening n m x y = by (nat_lt n m) (nat_lt m n) refl refl
    where
      by : (b c : Bool) → nat_lt n m ≡ b → nat_lt m n ≡ c → n ≡ m
      by true c e f = absurd (opens_below n m x y (grind arith))
      by false true e f = absurd (opens_below m n y x (grind arith))
      by false false e f = grind arith

  pub stops_or_opens : (n m : ℕ) → StopsAt limit ts n → OpensAt limit ts m → ⊥
  stops_or_opens n m x y = by (nat_lt m n) refl
    where
      by : (b : Bool) → nat_lt m n ≡ b → ⊥
      by true e = let lt : m < n = grind arith in y.always (front_within_before limit (suc m) n ts (omega arith) x.front)
      by false e =
          let ge : n ≤ m = grind arith in
          let lt = y.among in
          x.breaks (omega arith) (front_before (suc n) (suc m) ts (omega arith) (above_is_front limit (take (suc m) ts) y.opens))

-- ---- what the parser's refusals say

module _ (limit : ℕ) where
  stops_here : (a b : List Token) → items limit (input (a ++ b) 0) ≡ Err (Syntax (length b)) → IsFrontWithin limit a → StopsAt limit (a ++ b) (length a)
  stops_here a [] e f =
      let P : List Token → Type 0 = λ z. IsFrontWithin limit z in
      record {
        among = omega (arith, length-append a []);
        front = subst P (sym (take_front a [])) f;
        breaks = λ lt g. absurd (omega (arith, lt, length-append a []));
        unspelled = λ n level program s. no_program limit (a ++ []) e level program s;
      }
  stops_here a (t ∷ x) e f =
      let P : List Token → Type 0 = λ z. IsFrontWithin limit z in
      let Q : List Token → Type 0 = λ z. IsFront z in
      record {
        among = omega (arith, length-append a (t ∷ x));
        front = subst P (sym (take_front a (t ∷ x))) f;
        breaks = λ lt g. no_front limit a x t e (subst Q (take_one a x t) g);
        unspelled = λ n level program s. absurd (omega (arith, n, length-append a (t ∷ x)));
      }

  opens_here : (a x : List Token) (t : Token) → items limit (input (a ++ (t ∷ x)) 0) ≡ Err (Deep (suc (length x))) → OpensAbove limit (a ++ (t ∷ [])) → OpensAt limit (a ++ (t ∷ x)) (length a)
  opens_here a x t e o =
      let P : List Token → Type 0 = λ z. IsFrontWithin limit z in
      let Q : List Token → Type 0 = λ z. OpensAbove limit z in
      record {
        among = omega (arith, length-append a (t ∷ x));
        opens = subst Q (sym (take_one a x t)) o;
        always = λ f. no_front_within limit a x t e (subst P (take_one a x t) f);
      }

  pub stops_so : (ts : List Token) (left : ℕ) → items limit (input ts 0) ≡ Err (Syntax left) → StopsAt limit ts (length ts - left)
  stops_so ts left e =
      let v : FrontBefore limit left ts = refused_behind_front limit ts (Syntax left) e in
      let P : List Token → Type 0 = λ z. items limit (input z 0) ≡ Err (Syntax left) in
      let Q : ℕ → Type 0 = λ z. items limit (input (v.taken ++ v.rest) 0) ≡ Err (Syntax z) in
      let at_split : StopsAt limit (v.taken ++ v.rest) (length v.taken) = stops_here v.taken v.rest (subst Q (sym v.left_are) (subst P v.are e)) v.front in
      let R : List Token → Type 0 = λ z. StopsAt limit z (length v.taken) in
      let S : ℕ → Type 0 = λ z. StopsAt limit ts z in
      let all : length ts ≡ length (v.taken ++ v.rest) = ap length v.are in
      let count : length v.taken ≡ length ts - left = omega (arith, all, length-append v.taken v.rest, v.left_are) in
      subst S count (subst R (sym v.are) at_split)

  pub opens_so : (ts : List Token) (left : ℕ) → items limit (input ts 0) ≡ Err (Deep left) → OpensAt limit ts (length ts - left)
  opens_so ts left e =
      let v : AboveBefore limit left ts = refused_behind_front limit ts (Deep left) e in
      let whole : List Token = v.taken ++ (v.token ∷ v.rest) in
      let P : List Token → Type 0 = λ z. items limit (input z 0) ≡ Err (Deep left) in
      let Q : ℕ → Type 0 = λ z. items limit (input whole 0) ≡ Err (Deep z) in
      let at_split : OpensAt limit whole (length v.taken) = opens_here v.taken v.rest v.token (subst Q (sym v.left_are) (subst P v.are e)) v.opens in
      let R : List Token → Type 0 = λ z. OpensAt limit z (length v.taken) in
      let S : ℕ → Type 0 = λ z. OpensAt limit ts z in
      let all : length ts ≡ length whole = ap length v.are in
      let count : length v.taken ≡ length ts - left = omega (arith, all, length-append v.taken (v.token ∷ v.rest), v.left_are) in
      subst S count (subst R (sym v.are) at_split)

  -- It can't be that tokens spell no program within the limit, and are refused nowhere.
  pub some_answer : (ts : List Token) → ((program : Text) → IsSpelled limit program ts → ⊥) → ((n : ℕ) → StopsAt limit ts n → ⊥) → ((n : ℕ) → OpensAt limit ts n → ⊥) → ⊥
  some_answer ts spelled stops opens = by (items limit (input ts 0)) refl
    where
      by : (o : Outcome Text) → items limit (input ts 0) ≡ o → ⊥
      by (Ok p) e = spelled p.0 (spelled_so limit p.0 ts p.1 e)
      by (Err (Syntax left)) e = stops (length ts - left) (stops_so ts left e)
      by (Err (Deep left)) e = opens (length ts - left) (opens_so ts left e)
      by (Err OutOfMemory) e = items_take_no_memory limit (input ts 0) e

-- ---- for the function that reads

abbrev Holds : List Token → Fault → Type 0
Holds ts f = items max_level (input ts 0) ≡ Err f

pub is_among : (ts : List Token) (f : Fault) → (f ≢ OutOfMemory → Holds ts f) → IsAmong (length ts) f
is_among ts (Syntax left) h = items_among max_level (input ts 0) left (h (λ z. cc))
is_among ts (Deep left) h = items_deep_among max_level (input ts 0) left (h (λ z. cc))
is_among ts OutOfMemory h = tt

pub has_cause : (ts : List Token) (f : Fault) → (f ≢ OutOfMemory → Holds ts f) → HasParseCause ts (told_of (length ts) f)
has_cause ts (Syntax left) h = stops_so max_level ts left (h (λ z. cc))
has_cause ts (Deep left) h = opens_so max_level ts left (h (λ z. cc))
has_cause ts OutOfMemory h = tt

pub only_memory : (ts : List Token) (f : ParseFault) → HasParseCause ts f → (text : Text) → IsSpelled max_level text ts → f ≡ public.OutOfMemory
only_memory ts (public.Syntax n) h text s = absurd (spelled_never_stops max_level ts text n s h)
only_memory ts (public.Deep n) h text s = absurd (spelled_never_opens max_level ts text n s h)
only_memory ts public.OutOfMemory h text s = refl

pub only_stop : (ts : List Token) (f : ParseFault) → HasParseCause ts f → (n : ℕ) → StopsAt max_level ts n → f ≢ public.OutOfMemory → f ≡ public.Syntax n
only_stop ts (public.Syntax m) h n x not = ap (λ z. public.Syntax z) (one_stop max_level ts m n h x)
only_stop ts (public.Deep m) h n x not = absurd (stops_or_opens max_level ts n m x h)
only_stop ts public.OutOfMemory h n x not = absurd (not refl)

pub only_opening : (ts : List Token) (f : ParseFault) → HasParseCause ts f → (n : ℕ) → OpensAt max_level ts n → f ≢ public.OutOfMemory → f ≡ public.Deep n
only_opening ts (public.Syntax m) h n x not = absurd (stops_or_opens max_level ts m n h x)
only_opening ts (public.Deep m) h n x not = ap (λ z. public.Deep z) (one_opening max_level ts m n h x)
only_opening ts public.OutOfMemory h n x not = absurd (not refl)

pub found_never_stops : (ts : List Token) (p : Program) (n : ℕ) → ReadsProgram (items max_level (input ts 0)) p → StopsAt max_level ts n → ⊥
found_never_stops ts p n e h = spelled_never_stops max_level ts (program p) n (found_so ts p e) h

pub found_never_opens : (ts : List Token) (p : Program) (n : ℕ) → ReadsProgram (items max_level (input ts 0)) p → OpensAt max_level ts n → ⊥
found_never_opens ts p n e h = spelled_never_opens max_level ts (program p) n (found_so ts p e) h
