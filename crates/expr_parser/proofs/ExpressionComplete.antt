-- What is spelled as an expression is read.
use Rattle.std.proofs.Common.{◌≡◌, ℕ, ℤ, zero, suc, ◌+◌, ◌≤◌, ◌<◌, Bool, true, false, nat_lt, List, [], ◌∷◌, ◌++◌, length, Option, Some, Ok, Err, refl, ◌∙◌, ap, arith}
use Rattle.forec_base.specs.declared.operators.Unary.{Unary}
use Rattle.forec_base.specs.declared.operators.Unary.TheVariants as un
use Rattle.forec_tree.specs.declared.operators.Operator.{Operator}
use Rattle.forec_tree.specs.declared.token.Token.{Token}
use Rattle.forec_tree.specs.declared.token.TokenKind.{TokenKind}
use Rattle.forec_tree.specs.declared.token.TokenKind.TheVariants as kind
use Rattle.forec_tree.specs.declared.token.Mark.TheVariants as mark
use Rattle.forec_tree.specs.Terms as plain
use Rattle.forec_tree.specs.Terms.{Term}
use Rattle.forec_tree.specs.Spelling as sp
use Rattle.forec_tree.specs.Spelling.{Spelt, at, IsMark, IsNameToken, IsNumberToken, name_at, mark_of, sign_of, level_of, operator_term, listed, tokens, Spells, Whole, Brackets, SpellsIndex, SpellsArguments, SpellsExpressions, whole, brackets, indexes, passes_none, passes, one, more}
use Rattle.expr_parser.specs.declared.fixed.Fixed.TheVariants as fixed
use Rattle.expr_parser.specs.declared.meaning.Start.TheVariants as beg
use Rattle.expr_parser.specs.declared.meaning.Infix.TheVariants as inf
use Rattle.expr_parser.specs.declared.meaning.Behind.TheVariants as follow
use Rattle.expr_parser.specs.declared.fault.Fault.{Fault}
use Rattle.expr_parser.specs.declared.fault.Fault.TheVariants.{Deep}
use Rattle.expr_parser.specs.Input.{Input, input, Parser, Outcome, and_then, ◌>>=◌, pure, kind_ahead}
use Rattle.expr_parser.specs.Meaning.{term_start, infix_of, after_of, binds, is_fixed}
use Rattle.expr_parser.specs.Reading as reading
use Rattle.expr_parser.specs.Reading.{binding_ahead, read_expression, climb, prefix, operation, close}
use Rattle.expr_parser.proofs.Spans.{tokens_append, longer, first, first-is}
use Rattle.expr_parser.proofs.Exact.{part, Reading, reading, both, mapped, inside, done, on, off, Above, Follows, comes, too_high, above_front, above_back, follow_behind, follow_as, map_to, reads_by, read_at}
use Rattle.expr_parser.proofs.Leaves.{name_is, number_is, a_number, raises, opens_then, encloses, Listed, end_of_list, next_of_list, full_commas, Full, full, Filled, is_so, close_ok}
use Rattle.expr_parser.proofs.Closers.{other-kind}
use Rattle.expr_parser.proofs.Operators.{sign_start, mark_infix, mark_behind, level_bounds, binds_small, ends, ends_ahead, ends_behind}
use Rattle.expr_parser.proofs.ExpressionSound.{sound, a_value, a_bracketed, an_indexed, a_passed, a_named, indexed_by, passed_by, value_by}

-- What stands after an expression of level m does not go on with it.
pub record EndsLevel (m : ℕ) (k : Option TokenKind) : Type 0 where
  pub tight : binds (infix_of k) ≤ m
  pub right : m ≤ 1 → binds (infix_of k) ≡ 0
  pub alone : after_of k ≡ follow.Nothing

pub halts : (m : ℕ) (k : Option TokenKind) → ends k ≡ true → EndsLevel m k
halts m k h = let e = ends_ahead k h in record { tight = omega (arith, e); right = λ _. e; alone = ends_behind k h }

-- the level never falls over an expression
pub rises : {m v w : ℕ} {x : Term} {ls : List Spelt} → Spells m x v ls w → v ≤ w
rises (sp.number value h) = omega arith
rises (sp.read id h) = omega arith
rises (sp.element id h s) = omega arith
rises (sp.call id h s) = omega arith
rises (sp.bracketed s) = omega arith
rises (sp.unary op le h s) = omega (arith, rises s)
rises (sp.binary t op le a h b) = omega (arith, rises a, rises b)
rises (sp.choose t colon le a h b k c) = omega (arith, rises a, rises b, rises c)

-- what a spelling begins with
pub indexes_first : {x : Term} {v : ℕ} {ls : List Spelt} → SpellsIndex x v ls → (k : Option TokenKind) → first ls k ≡ Some (kind.Mark mark.LeftSquare)
indexes_first (indexes right hl s hr) k = rw hl

pub brackets_first : {x : Term} {v : ℕ} {ls : List Spelt} → Brackets x v ls → (k : Option TokenKind) → first ls k ≡ Some (kind.Mark mark.LeftRound)
brackets_first (brackets right hl s hr) k = rw hl

pub passes_first : {xs : List Term} {v : ℕ} {ls : List Spelt} → SpellsArguments xs v ls → (k : Option TokenKind) → first ls k ≡ Some (kind.Mark mark.LeftRound)
passes_first (passes_none hl hr) k = rw hl
passes_first (passes right hl s hr) k = rw hl

-- the first token of an expression is no bracket that closes and no mark that ends
abbrev starts : Option TokenKind → Bool
starts (Some (kind.Number value)) = true
starts (Some (kind.Name id)) = true
starts (Some (kind.Mark mark.Minus)) = true
starts (Some (kind.Mark mark.Tilde)) = true
starts (Some (kind.Mark mark.Bang)) = true
starts (Some (kind.Mark mark.LeftRound)) = true
starts _ = false

abbrev pub Begun : List Spelt → Type 0
Begun [] = ⊥
Begun (s ∷ ls) = starts (Some s.token.kind) ≡ true

pub begun_append : (a b : List Spelt) → Begun a → Begun (a ++ b)
begun_append [] b h = absurd h
begun_append (s ∷ a) b h = h

pub begun_filled : (a : List Spelt) → Begun a → Filled a
begun_filled [] h = h
begun_filled (s ∷ a) h = tt

sign_starts : (op : Unary) → starts (Some (kind.Mark (sign_of op))) ≡ true
sign_starts un.Minus = refl
sign_starts un.Invert = refl
sign_starts un.Not = refl

begun_brackets : {x : Term} {v : ℕ} {ls : List Spelt} → Brackets x v ls → Begun ls
begun_brackets (brackets right hl s hr) = rw hl

pub begun : {m v w : ℕ} {x : Term} {ls : List Spelt} → Spells m x v ls w → Begun ls
begun (sp.number value h) = rw h
begun (sp.read id h) = rw h
begun (sp.element id h s) = rw h
begun (sp.call id h s) = rw h
begun (sp.bracketed s) = begun_brackets s
begun (sp.unary op le h s) = rw h (sign_starts op)
begun (sp.binary t {ls = ls} {rs = rs} op le a h b) = begun_append ls _ (begun a)
begun (sp.choose t colon {ls = ls} {ms = ms} le a h b k c) = begun_append ls _ (begun a)

pub begun_whole : {v : ℕ} {x : Term} {ls : List Spelt} → Whole x v ls → Begun ls
begun_whole (whole s) = begun s

pub begun_arguments : {v : ℕ} {xs : List Term} {ls : List Spelt} → SpellsExpressions xs v ls → Begun ls
begun_arguments (one s) = begun_whole s
begun_arguments (more comma {ls = ls} s h r) = begun_append ls _ (begun_whole s)

pub begun_round : (ls : List Spelt) (k : Option TokenKind) → Begun ls → is_fixed fixed.RightRound (first ls k) ≡ false
begun_round [] k h = absurd h
begun_round (s ∷ ls) k h = other-kind starts fixed.RightRound refl (Some s.token.kind) h

pub begun_semicolon : (ls : List Spelt) (k : Option TokenKind) → Begun ls → is_fixed fixed.Semicolon (first ls k) ≡ false
begun_semicolon [] k h = absurd h
begun_semicolon (s ∷ ls) k h = other-kind starts fixed.Semicolon refl (Some s.token.kind) h

lt_true : (a b : ℕ) → a < b → nat_lt a b ≡ true
lt_true a b h = grind arith

lt_false : (a b : ℕ) → b ≤ a → nat_lt a b ≡ false
lt_false a b h = grind arith

module _ (limit : ℕ) where
  module _ (ex : ℕ → Parser Term) where
    climb_stop : (least n : ℕ) (left : Term) (i : Input) → binding_ahead i < least → climb limit ex least n left i ≡ Ok (left, i)
    unfolding climb
    climb_stop least zero left i h = let e : nat_lt (binding_ahead i) least ≡ true = lt_true _ _ h in rw e
    climb_stop least (suc n) left i h = let e : nat_lt (binding_ahead i) least ≡ true = lt_true _ _ h in rw e

    climb_on : (least n : ℕ) (left longer : Term) (i j : Input) → least ≤ binding_ahead i → operation limit ex left i ≡ Ok (longer, j) → climb limit ex least (suc n) left i ≡ climb limit ex least n longer j
    unfolding climb
    climb_on least n left longer i j h s = let e : nat_lt (binding_ahead i) least ≡ false = lt_false _ _ h in rw (e, s)

    climbing_ok : (least : ℕ) (x : Term) (i j : Input) → prefix limit ex i ≡ Ok (x, j) → reading.climbing limit ex least i ≡ climb limit ex least (length j.rest) x j
    unfolding reading.climbing reading.operations
    climbing_ok least x i j h = rw h

    climb_deep : (least n : ℕ) (left : Term) (i : Input) (e : Fault) → least ≤ binding_ahead i → operation limit ex left i ≡ Err e → climb limit ex least (suc n) left i ≡ Err e
    unfolding climb
    climb_deep least n left i e h s = let f : nat_lt (binding_ahead i) least ≡ false = lt_false _ _ h in rw (f, s)

    climbing_deep : (least : ℕ) (i : Input) (e : Fault) → prefix limit ex i ≡ Err e → reading.climbing limit ex least i ≡ Err e
    unfolding reading.climbing
    climbing_deep least i e h = rw h

    sign_follows : (t : Token) (v w : ℕ) (op : Unary) (x : Term) (ls : List Spelt) (rest : List Token) → IsMark (sign_of op) t
        → (v + 1 ≤ limit → Follows limit x w ls rest (ex 12 (input (tokens ls ++ rest) (v + 1))))
        → Follows limit (plain.Un t.place op x) w (at t (v + 1) ∷ ls) rest (prefix limit ex (input (t ∷ (tokens ls ++ rest)) v))
    unfolding prefix
    sign_follows t v w op x ls rest h s =
        let k : term_start (Some t.kind) ≡ beg.Sign op = rw h (sign_start op) in
        rw k (opens_then (λ t. ex 12 >>= (λ x. pure (plain.Un t.place op x))) (raises limit t (tokens ls ++ rest) v) (λ small. follow_as (λ x. pure (plain.Un t.place op x)) (s small) refl))

    join_follows : (t : Token) (v w : ℕ) (op : Operator) (a b : Term) (rs : List Spelt) (rest : List Token) → IsMark (mark_of op) t
        → (v + 1 ≤ limit → Follows limit b w rs rest (ex (level_of op + 1) (input (tokens rs ++ rest) (v + 1))))
        → Follows limit (operator_term op t.place a b) w (at t (v + 1) ∷ rs) rest (operation limit ex a (input (t ∷ (tokens rs ++ rest)) v))
    unfolding operation
    join_follows t v w op a b rs rest h s =
        let k : infix_of (Some t.kind) ≡ inf.Joins op = rw h (mark_infix op) in
        rw k (opens_then (λ t. ex (level_of op + 1) >>= (λ b. pure (operator_term op t.place a b))) (raises limit t (tokens rs ++ rest) v)
        (λ small. follow_as (λ b. pure (operator_term op t.place a b)) (s small) refl))

    choose_follows : (t colon : Token) (v w x : ℕ) (test a b : Term) (ms rs : List Spelt) (rest : List Token) → IsMark mark.Question t → IsMark mark.Colon colon
        → (v + 1 ≤ limit → Follows limit a w ms (colon ∷ (tokens rs ++ rest)) (ex 1 (input (tokens ms ++ (colon ∷ (tokens rs ++ rest))) (v + 1))))
        → (v + 1 ≤ limit → ex 1 (input (tokens ms ++ (colon ∷ (tokens rs ++ rest))) (v + 1)) ≡ Ok (a, input (colon ∷ (tokens rs ++ rest)) w) → Follows limit b x rs rest (ex 1 (input (tokens rs ++ rest) w)))
        → Follows limit (plain.Choose t.place test a b) x (at t (v + 1) ∷ (ms ++ (at colon w ∷ rs))) rest (operation limit ex test (input (t ∷ (tokens (ms ++ (at colon w ∷ rs)) ++ rest)) v))
    unfolding operation reading.choose_term
    choose_follows t colon v w x test a b ms rs rest h k former latter =
        let q : infix_of (Some t.kind) ≡ inf.Question = rw h in
        rw q (opens_then choose (raises limit t (tokens (ms ++ (at colon w ∷ rs)) ++ rest) v)
        (λ small. rw (tokens_append ms (at colon w ∷ rs) rest) (by small (ex 1 (input (tokens ms ++ (colon ∷ (tokens rs ++ rest))) (v + 1))) refl (former small))))
      where
        second : Token → Term → Parser Term
        second t a = close fixed.Colon >>= (λ _. ex 1 >>= (λ b. pure (plain.Choose t.place test a b)))

        choose : Token → Parser Term
        choose t = ex 1 >>= second t

        by : v + 1 ≤ limit → (o : Outcome Term) → ex 1 (input (tokens ms ++ (colon ∷ (tokens rs ++ rest))) (v + 1)) ≡ o → Follows limit a w ms (colon ∷ (tokens rs ++ rest)) o
            → Follows limit (plain.Choose t.place test a b) x (ms ++ (at colon w ∷ rs)) rest (and_then o (second t))
        by small o e comes =
            let c : close fixed.Colon (input (colon ∷ (tokens rs ++ rest)) w) ≡ Ok (colon, input (tokens rs ++ rest) w) = close_ok fixed.Colon colon (tokens rs ++ rest) w k in
            follow_behind ms (rw c (follow_behind (at colon w ∷ []) (follow_as (λ b. pure (plain.Choose t.place test a b)) (latter small e) refl)))
        by small o e (too_high u) = too_high (above_front (at colon w ∷ rs) u)

  -- The parser comes to where x is read and operators of level n and above may follow.
  pub record HasRead (d n : ℕ) (x : Term) (i j : Input) : Type 0 where
    pub turns : ℕ
    pub enough : length j.rest ≤ turns
    pub reads : read_expression limit (suc d) n i ≡ climb limit (read_expression limit d) n turns x j

  -- the same, unless a token before opens a level above the limit
  pub data Arrives (d n : ℕ) (x : Term) (ls : List Spelt) (i : Input) (rest : List Token) (w : ℕ) : Type 0 where
    arrives : HasRead d n x i (input rest w) → Arrives d n x ls i rest w
    too_deep : {l : ℕ} → Above limit l rest ls → read_expression limit (suc d) n i ≡ Err (Deep l) → Arrives d n x ls i rest w

  abbrev pub Completes : ℕ → Term → ℕ → List Spelt → ℕ → Type 0
  Completes m x v ls w = (d n : ℕ) (rest : List Token) → limit ≤ d + v → 1 ≤ n → n ≤ m → EndsLevel m (kind_ahead rest) → Arrives d n x ls (input (tokens ls ++ rest) v) rest w

  pub finish : (m : ℕ) (x : Term) (v : ℕ) (ls : List Spelt) (w : ℕ) → Completes m x v ls w → (d n : ℕ) (rest : List Token)
      → v ≤ limit → limit < d + v → 1 ≤ n → n ≤ m → EndsLevel m (kind_ahead rest) → binds (infix_of (kind_ahead rest)) < n
      → Follows limit x w ls rest (read_expression limit d n (input (tokens ls ++ rest) v))
  finish m x v ls w c zero n rest small deep pos le stops low = absurd (omega arith)
  finish m x v ls w c (suc d) n rest small deep pos le stops low = of (c d n rest (omega arith) pos le stops)
    where
      of : Arrives d n x ls (input (tokens ls ++ rest) v) rest w → Follows limit x w ls rest (read_expression limit (suc d) n (input (tokens ls ++ rest) v))
      of (arrives g) = rw (g.reads ∙ climb_stop (read_expression limit d) n g.turns x (input rest w) low) comes
      of (too_deep a e) = rw e (too_high a)

  goes_prefix : (d n : ℕ) (x : Term) (i j : Input) → prefix limit (read_expression limit d) i ≡ Ok (x, j) → HasRead d n x i j
  unfolding read_expression
  goes_prefix d n x i j h = record { turns = length j.rest; enough = omega arith; reads = climbing_ok (read_expression limit d) n x i j h }

  prefix_arrives : (d n : ℕ) {x : Term} {w : ℕ} {ls : List Spelt} {i : Input} {rest : List Token} (o : Outcome Term) → prefix limit (read_expression limit d) i ≡ o → Follows limit x w ls rest o → Arrives d n x ls i rest w
  unfolding read_expression
  prefix_arrives d n {x} {w} {ls} {i} {rest} o e comes = arrives (goes_prefix d n x i (input rest w) e)
  prefix_arrives d n {x} {w} {ls} {i} {rest} o e (too_high {l} a) = too_deep a (climbing_deep (read_expression limit d) n i (Deep l) e)

  -- one turn of the loop
  goes_on : (d n : ℕ) (left longer : Term) (i j k : Input) → HasRead d n left i j → n ≤ binding_ahead j → suc (length k.rest) ≤ length j.rest → operation limit (read_expression limit d) left j ≡ Ok (longer, k) → HasRead d n longer i k
  goes_on d n left longer i j k g le less o = turn g.turns g.enough g.reads
    where
      turn : (f : ℕ) → length j.rest ≤ f → read_expression limit (suc d) n i ≡ climb limit (read_expression limit d) n f left j → HasRead d n longer i k
      turn zero h e = absurd (omega arith)
      turn (suc f) h e = record { turns = f; enough = omega arith; reads = e ∙ climb_on (read_expression limit d) n f left longer j k le o }

  goes_deep : (d n l : ℕ) (left : Term) (i j : Input) → HasRead d n left i j → n ≤ binding_ahead j → 1 ≤ length j.rest → operation limit (read_expression limit d) left j ≡ Err (Deep l) → read_expression limit (suc d) n i ≡ Err (Deep l)
  goes_deep d n l left i j g le some o = turn g.turns g.enough g.reads
    where
      turn : (f : ℕ) → length j.rest ≤ f → read_expression limit (suc d) n i ≡ climb limit (read_expression limit d) n f left j → read_expression limit (suc d) n i ≡ Err (Deep l)
      turn zero h e = absurd (omega arith)
      turn (suc f) h e = e ∙ climb_deep (read_expression limit d) n f left j (Deep l) le o

  arrives_on : (d n : ℕ) {left longer : Term} {w x : ℕ} {ls : List Spelt} (rs : List Spelt) {i : Input} {rest : List Token} → Arrives d n left ls i (tokens rs ++ rest) w → n ≤ binds (infix_of (kind_ahead (tokens rs ++ rest)))
      → suc (length rest) ≤ length (tokens rs ++ rest) → (o : Outcome Term) → operation limit (read_expression limit d) left (input (tokens rs ++ rest) w) ≡ o → Follows limit longer x rs rest o → Arrives d n longer (ls ++ rs) i rest x
  arrives_on d n {left} {longer} {w} {x} {ls} rs {i} {rest} (arrives g) le less o e comes = arrives (goes_on d n left longer i (input (tokens rs ++ rest) w) (input rest x) g le less e)
  arrives_on d n {left} {longer} {w} {x} {ls} rs {i} {rest} (arrives g) le less o e (too_high {l} a) = too_deep (above_back ls a) (goes_deep d n l left i (input (tokens rs ++ rest) w) g le (omega (arith, less)) e)
  arrives_on d n rs (too_deep a f) le less o e h = too_deep (above_front rs a) f

  -- an expression of its own, before what ends one
  own_reads : (x : Term) (v w : ℕ) (ls : List Spelt) (k : Option TokenKind) (d : ℕ) → Completes 1 x v ls w → v ≤ limit → limit < d + v → ends k ≡ true → Reading limit (read_expression limit d 1) v x w ls k
  own_reads x v w ls k d c small deep h = reading (λ rest e.
      let halt : EndsLevel 1 (kind_ahead rest) = halts 1 (kind_ahead rest) (ap ends e ∙ h) in
      finish 1 x v ls w c d 1 rest small deep (omega arith) (omega arith) halt (omega (arith, halt.right (omega arith))))

  -- ---- operands

  c_number : (n v : ℕ) (t : Token) (value : ℤ) → IsNumberToken value t → Completes n (plain.Num t.place value) v (at t v ∷ []) v
  unfolding prefix
  c_number n v t value h d n' rest deep pos le stops =
      let k : term_start (Some t.kind) ≡ beg.Literal = rw h in
      let r = (map_to (λ n. plain.Num n.place n.value) (a_number limit)).complete v v (plain.Num t.place value) (at t v ∷ []) rest (mapped (part (number_is value h) tt)) in
      let p : Follows limit (plain.Num t.place value) v (at t v ∷ []) rest (prefix limit (read_expression limit d) (input (t ∷ rest) v)) = rw k r in
      prefix_arrives d n' _ refl p

  named_ok : (d v id : ℕ) (t : Token) (x : Term) (ls : List Spelt) (rest : List Token) → IsNameToken id t
      → Reading limit (λ i. reading.named_by limit (read_expression limit d) (after_of (kind_ahead i.rest)) (sp.name_at id t.place) i) v x v ls (kind_ahead rest)
      → Follows limit x v (at t v ∷ ls) rest (prefix limit (read_expression limit d) (input (t ∷ (tokens ls ++ rest)) v))
  unfolding prefix
  named_ok d v id t x ls rest h r =
      let k : term_start (Some t.kind) ≡ beg.Named = rw h in
      let q = (a_named limit (read_expression limit d) (sound limit d)).complete v v x (at t v ∷ ls) rest (both (part (name_is id h) tt) r) in
      rw k q

  c_read : (n v id : ℕ) (t : Token) → IsNameToken id t → Completes n (plain.Read t.place (name_at id t.place)) v (at t v ∷ []) v
  c_read n v id t h d n' rest deep pos le stops =
      prefix_arrives d n' _ refl (named_ok d v id t (plain.Read t.place (name_at id t.place)) [] rest h (reading (λ after e.
      let k : after_of (kind_ahead after) ≡ follow.Nothing = ap after_of e ∙ stops.alone in rw k comes)))

  abbrev IndexReads : Term → ℕ → List Spelt → Type 0
  IndexReads x v ls = (d : ℕ) (k : Option TokenKind) → limit ≤ d + v → Reading limit (reading.indexed limit (read_expression limit d)) v x v ls k

  abbrev PassReads : List Term → ℕ → List Spelt → Type 0
  PassReads xs v ls = (d : ℕ) (k : Option TokenKind) → limit ≤ d + v → Reading limit (reading.passed limit (read_expression limit d)) v xs v ls k

  abbrev BracketReads : Term → ℕ → List Spelt → Type 0
  BracketReads x v ls = (d : ℕ) (k : Option TokenKind) → limit ≤ d + v → Reading limit (reading.bracketed limit (read_expression limit d)) v x v ls k

  abbrev ValueReads : Term → ℕ → List Spelt → Type 0
  ValueReads x v ls = (d : ℕ) (k : Option TokenKind) → v ≤ limit → limit < d + v → ends k ≡ true → Reading limit (reading.value limit (read_expression limit d)) v x v ls k

  abbrev ArgumentsRead : List Term → ℕ → List Spelt → Type 0
  ArgumentsRead xs v ls = (d : ℕ) (k : Option TokenKind) → v ≤ limit → limit < d + v → ends k ≡ true → is_fixed fixed.Comma k ≡ false
      → Listed (Full (Reading limit (reading.value limit (read_expression limit d)))) v xs v ls k

  c_indexes : (x : Term) (v w : ℕ) (left right : Token) (ls : List Spelt) → IsMark mark.LeftSquare left → Completes 1 x (v + 1) ls w → IsMark mark.RightSquare right
      → IndexReads x v (at left (v + 1) ∷ (ls ++ (at right v ∷ [])))
  c_indexes x v w left right ls hl c hr d k deep = reading (λ rest e.
      let e1 : ends (Some right.kind) ≡ true = rw hr in
      (an_indexed limit (read_expression limit d) (sound limit d)).complete v v x (at left (v + 1) ∷ (ls ++ (at right v ∷ []))) rest
      (encloses right hl (λ small. own_reads x (v + 1) w ls (Some right.kind) d c small (omega arith) e1) hr))

  c_brackets : (x : Term) (v w : ℕ) (left right : Token) (ls : List Spelt) → IsMark mark.LeftRound left → Completes 1 x (v + 1) ls w → IsMark mark.RightRound right
      → BracketReads x v (at left (v + 1) ∷ (ls ++ (at right v ∷ [])))
  c_brackets x v w left right ls hl c hr d k deep = reading (λ rest e.
      let e1 : ends (Some right.kind) ≡ true = rw hr in
      (a_bracketed limit (read_expression limit d) (sound limit d)).complete v v x (at left (v + 1) ∷ (ls ++ (at right v ∷ []))) rest
      (encloses right hl (λ small. own_reads x (v + 1) w ls (Some right.kind) d c small (omega arith) e1) hr))

  c_none : (v : ℕ) (left right : Token) → IsMark mark.LeftRound left → IsMark mark.RightRound right → PassReads [] v (at left (v + 1) ∷ at right v ∷ [])
  c_none v left right hl hr d k deep = reading (λ rest e.
      let e1 : is_fixed fixed.RightRound (Some right.kind) ≡ true = is_so fixed.RightRound right hr in
      (a_passed limit (read_expression limit d) (sound limit d)).complete v v [] (at left (v + 1) ∷ at right v ∷ []) rest (encloses right hl (λ small. on e1 done) hr))

  c_passes : (xs : List Term) (v : ℕ) (left right : Token) (ls : List Spelt) → IsMark mark.LeftRound left → ArgumentsRead xs (v + 1) ls → Begun ls → IsMark mark.RightRound right
      → PassReads xs v (at left (v + 1) ∷ (ls ++ (at right v ∷ [])))
  c_passes xs v left right ls hl c b hr d k deep = reading (λ rest e.
      let e1 : ends (Some right.kind) ≡ true = rw hr in
      let e2 : is_fixed fixed.Comma (Some right.kind) ≡ false = rw hr in
      (a_passed limit (read_expression limit d) (sound limit d)).complete v v xs (at left (v + 1) ∷ (ls ++ (at right v ∷ []))) rest
      (encloses right hl (λ small. off (begun_round ls (Some right.kind) b) (reads_by (full_commas (value_by limit (read_expression limit d) (sound limit d))) (c d (Some right.kind) small (omega arith) e1 e2))) hr))

  c_value : (x : Term) (v w : ℕ) (ls : List Spelt) → Completes 1 x v ls w → ValueReads x v ls
  c_value x v w ls c d k small deep h = reads_by (a_value limit (read_expression limit d) (sound limit d)) (inside (own_reads x v w ls k d c small deep h))

  c_element : (n v id : ℕ) (t : Token) (index : Term) (ls : List Spelt) → IsNameToken id t → IndexReads index v ls → ((k : Option TokenKind) → first ls k ≡ Some (kind.Mark mark.LeftSquare))
      → Completes n (plain.Element t.place (name_at id t.place) index) v (at t v ∷ ls) v
  c_element n v id t index ls h c f d n' rest deep pos le stops =
      let whole = plain.Element t.place (name_at id t.place) index in
      prefix_arrives d n' _ refl (named_ok d v id t whole ls rest h (reading (λ after e.
      let k : after_of (kind_ahead (tokens ls ++ after)) ≡ follow.Index = ap after_of (first-is ls after ∙ f (kind_ahead after)) in
      let r = (map_to (λ x. plain.Element t.place (name_at id t.place) x) (indexed_by limit (read_expression limit d) (sound limit d))).complete v v whole ls after (mapped (c d (kind_ahead after) deep)) in
      rw k r)))

  c_call : (n v id : ℕ) (t : Token) (args : List Term) (ls : List Spelt) → IsNameToken id t → PassReads args v ls → ((k : Option TokenKind) → first ls k ≡ Some (kind.Mark mark.LeftRound))
      → Completes n (plain.Call t.place (name_at id t.place) (listed args)) v (at t v ∷ ls) v
  c_call n v id t args ls h c f d n' rest deep pos le stops =
      let whole = plain.Call t.place (name_at id t.place) (listed args) in
      prefix_arrives d n' _ refl (named_ok d v id t whole ls rest h (reading (λ after e.
      let k : after_of (kind_ahead (tokens ls ++ after)) ≡ follow.Arguments = ap after_of (first-is ls after ∙ f (kind_ahead after)) in
      let r = (map_to (λ xs. plain.Call t.place (name_at id t.place) (listed xs)) (passed_by limit (read_expression limit d) (sound limit d))).complete v v whole ls after (mapped (c d (kind_ahead after) deep)) in
      rw k r)))

  c_bracketed : (n v : ℕ) (x : Term) (ls : List Spelt) → BracketReads x v ls → ((k : Option TokenKind) → first ls k ≡ Some (kind.Mark mark.LeftRound)) → Completes n x v ls v
  unfolding prefix
  c_bracketed n v x ls c f d n' rest deep pos le stops =
      let k : term_start (kind_ahead (tokens ls ++ rest)) ≡ beg.Round = ap term_start (first-is ls rest ∙ f (kind_ahead rest)) in
      let r : Follows limit x v ls rest (reading.bracketed limit (read_expression limit d) (input (tokens ls ++ rest) v)) = read_at (c d (kind_ahead rest) deep) rest refl in
      let p : Follows limit x v ls rest (prefix limit (read_expression limit d) (input (tokens ls ++ rest) v)) = rw k r in
      prefix_arrives d n' _ refl p

  c_unary : (n v w : ℕ) (t : Token) (x : Term) (ls : List Spelt) (op : Unary) → n ≤ 12 → IsMark (sign_of op) t → Completes 12 x (v + 1) ls w → Completes n (plain.Un t.place op x) v (at t (v + 1) ∷ ls) w
  c_unary n v w t x ls op top ht c d n' rest deep pos le stops =
      let low = binds_small (infix_of (kind_ahead rest)) in
      let halt : EndsLevel 12 (kind_ahead rest) = record { tight = omega arith; right = λ h. absurd (omega arith); alone = stops.alone } in
      prefix_arrives d n' _ refl (sign_follows (read_expression limit d) t v w op x ls rest ht (λ small.
      finish 12 x (v + 1) ls w c d 12 rest small (omega arith) (omega arith) (omega arith) halt low))

  -- ---- operators

  shorter : (ls : List Spelt) (rest : List Token) → suc (length rest) ≤ suc (length (tokens ls ++ rest))
  shorter ls rest = omega (arith, longer ls rest)

  c_binary : (n v w x : ℕ) (t : Token) (a b : Term) (ls rs : List Spelt) (op : Operator) → n ≤ level_of op → Completes (level_of op) a v ls w → IsMark (mark_of op) t → Completes (level_of op + 1) b (w + 1) rs x → v ≤ w
      → Completes n (operator_term op t.place a b) v (ls ++ (at t (w + 1) ∷ rs)) x
  c_binary n v w x t a b ls rs op top ca ht cb grows d n' rest deep pos le stops =
      let tail = tokens rs ++ rest in
      let k : infix_of (Some t.kind) ≡ inf.Joins op = rw ht (mark_infix op) in
      let q : after_of (Some t.kind) ≡ follow.Nothing = rw ht (mark_behind op) in
      let same : binds (infix_of (Some t.kind)) ≡ level_of op = ap binds k in
      let two = level_bounds op in
      let halt : EndsLevel (level_of op) (Some t.kind) = record { tight = omega arith; right = λ h. absurd (omega (arith, two.0)); alone = q } in
      let behind : EndsLevel (level_of op + 1) (kind_ahead rest) = record { tight = omega (arith, stops.tight); right = λ h. absurd (omega (arith, two.0)); alone = stops.alone } in
      let g : Arrives d n' a ls (input (tokens ls ++ (t ∷ tail)) v) (t ∷ tail) w = ca d n' (t ∷ tail) deep pos (omega arith) halt in
      let o : Follows limit (operator_term op t.place a b) x (at t (w + 1) ∷ rs) rest (operation limit (read_expression limit d) a (input (t ∷ tail) w)) =
      join_follows (read_expression limit d) t w x op a b rs rest ht (λ small.
      finish (level_of op + 1) b (w + 1) rs x cb d (level_of op + 1) rest small (omega arith) (omega arith) (omega arith) behind (omega (arith, stops.tight))) in
      let l : Arrives d n' (operator_term op t.place a b) (ls ++ (at t (w + 1) ∷ rs)) (input (tokens ls ++ (t ∷ tail)) v) rest x =
      arrives_on d n' (at t (w + 1) ∷ rs) g (omega arith) (shorter rs rest) _ refl o in
      rw (tokens_append ls (at t (w + 1) ∷ rs) rest) l

  c_choose : (n v w x y : ℕ) (t colon : Token) (test a b : Term) (ls ms rs : List Spelt) → n ≤ 1 → Completes 2 test v ls w → IsMark mark.Question t
      → Completes 1 a (w + 1) ms x → IsMark mark.Colon colon → Completes 1 b x rs y → v ≤ w → w + 1 ≤ x
      → Completes n (plain.Choose t.place test a b) v (ls ++ (at t (w + 1) ∷ (ms ++ (at colon x ∷ rs)))) y
  c_choose n v w x y t colon test a b ls ms rs top ct ht ca hc cb vw wx d n' rest deep pos le stops =
      let last = tokens rs ++ rest in
      let tail = tokens (ms ++ (at colon x ∷ rs)) ++ rest in
      let k : binds (infix_of (Some t.kind)) ≡ 1 = rw ht in
      let q : after_of (Some t.kind) ≡ follow.Nothing = rw ht in
      let e1 : ends (Some colon.kind) ≡ true = rw hc in
      let halt : EndsLevel 2 (Some t.kind) = record { tight = omega arith; right = λ h. absurd (omega arith); alone = q } in
      let none : binds (infix_of (kind_ahead rest)) ≡ 0 = stops.right (omega arith) in
      let behind : EndsLevel 1 (kind_ahead rest) = record { tight = omega arith; right = λ _. none; alone = stops.alone } in
      let g : Arrives d n' test ls (input (tokens ls ++ (t ∷ tail)) v) (t ∷ tail) w = ct d n' (t ∷ tail) deep pos (omega arith) halt in
      let o : Follows limit (plain.Choose t.place test a b) y (at t (w + 1) ∷ (ms ++ (at colon x ∷ rs))) rest (operation limit (read_expression limit d) test (input (t ∷ tail) w)) =
      choose_follows (read_expression limit d) t colon w x y test a b ms rs rest ht hc
      (λ small. read_at (own_reads a (w + 1) x ms (Some colon.kind) d ca small (omega arith) e1) (colon ∷ last) refl)
      (λ small e. let m = sound limit d 1 (omega arith) (omega arith) (input (tokens ms ++ (colon ∷ last)) (w + 1)) (input (colon ∷ last) x) a small e in
      finish 1 b x rs y cb d 1 rest m.small (omega arith) (omega arith) (omega arith) behind (omega arith)) in
      let l : Arrives d n' (plain.Choose t.place test a b) (ls ++ (at t (w + 1) ∷ (ms ++ (at colon x ∷ rs)))) (input (tokens ls ++ (t ∷ tail)) v) rest y =
      arrives_on d n' (at t (w + 1) ∷ (ms ++ (at colon x ∷ rs))) g (omega arith) (shorter (ms ++ (at colon x ∷ rs)) rest) _ refl o in
      rw (tokens_append ls (at t (w + 1) ∷ (ms ++ (at colon x ∷ rs))) rest) l

  c_one : (x : Term) (v : ℕ) (ls : List Spelt) → ValueReads x v ls → Begun ls → ArgumentsRead (x ∷ []) v ls
  c_one x v ls c b d k small deep e n = end_of_list (full (c d k small deep e) (begun_filled ls b)) n

  c_more : (x : Term) (xs : List Term) (v : ℕ) (comma : Token) (ls rs : List Spelt) → ValueReads x v ls → Begun ls → IsMark mark.Comma comma → ArgumentsRead xs v rs
      → ArgumentsRead (x ∷ xs) v (ls ++ (at comma v ∷ rs))
  c_more x xs v comma ls rs c b hc m d k small deep e n =
      let e1 : ends (Some comma.kind) ≡ true = rw hc in
      next_of_list comma (full (c d (Some comma.kind) small deep e1) (begun_filled ls b)) hc (m d k small deep e n)

  mutual
    pub complete : {m v w : ℕ} {x : Term} {ls : List Spelt} → Spells m x v ls w → Completes m x v ls w
    complete (sp.number {n} {v} {t} value h) = c_number n v t value h
    complete (sp.read {n} {v} {t} id h) = c_read n v id t h
    complete (sp.element {n} {v} {t} {index} {ls} id h s) = c_element n v id t index ls h (complete_indexes s) (indexes_first s)
    complete (sp.call {n} {v} {t} {args} {ls} id h s) = c_call n v id t args ls h (complete_passes s) (passes_first s)
    complete (sp.bracketed {n} {v} {inner} {ls} s) = c_bracketed n v inner ls (complete_brackets s) (brackets_first s)
    complete (sp.unary {n} {v} {w} {t} {part = x} {ls} op le h s) = c_unary n v w t x ls op le h (complete s)
    complete (sp.binary {n} {v} {w} {x} t {left = a} {right = b} {ls} {rs} op le s h r) = c_binary n v w x t a b ls rs op le (complete s) h (complete r) (rises s)
    complete (sp.choose {n} {v} {w} {x} {y} t colon {test} {first = a} {second = b} {ls} {ms} {rs} le s h p k q) =
        c_choose n v w x y t colon test a b ls ms rs le (complete s) h (complete p) k (complete q) (rises s) (rises p)

    pub complete_whole : {v : ℕ} {x : Term} {ls : List Spelt} → Whole x v ls → ValueReads x v ls
    complete_whole (whole {v} {w} {e = x} {ls} s) = c_value x v w ls (complete s)

    pub complete_brackets : {v : ℕ} {x : Term} {ls : List Spelt} → Brackets x v ls → BracketReads x v ls
    complete_brackets (brackets {v} {left} right {inner = x} {ls} hl (whole {w = w} s) hr) = c_brackets x v w left right ls hl (complete s) hr

    pub complete_indexes : {v : ℕ} {x : Term} {ls : List Spelt} → SpellsIndex x v ls → IndexReads x v ls
    complete_indexes (indexes {v} {left} right {index = x} {ls} hl (whole {w = w} s) hr) = c_indexes x v w left right ls hl (complete s) hr

    pub complete_passes : {v : ℕ} {xs : List Term} {ls : List Spelt} → SpellsArguments xs v ls → PassReads xs v ls
    complete_passes (passes_none {v} {left} {right} hl hr) = c_none v left right hl hr
    complete_passes (passes {v} {left} right {args = xs} {ls} hl s hr) = c_passes xs v left right ls hl (complete_arguments s) (begun_arguments s) hr

    pub complete_arguments : {v : ℕ} {xs : List Term} {ls : List Spelt} → SpellsExpressions xs v ls → ArgumentsRead xs v ls
    complete_arguments (one {v} {arg = x} {ls} s) = c_one x v ls (complete_whole s) (begun_whole s)
    complete_arguments (more {v} {arg = x} {args = xs} comma {ls} {rs} s h r) = c_more x xs v comma ls rs (complete_whole s) (begun_whole s) h (complete_arguments r)
