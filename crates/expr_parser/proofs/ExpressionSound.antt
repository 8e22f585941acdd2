-- What is read as an expression is spelled so.
use mathlib.Core.Path.{subst}
use Rattle.std.proofs.Common.{◌≡◌, ℕ, zero, suc, ◌+◌, ◌≤◌, ◌<◌, Bool, true, false, nat_lt, cond, List, [], ◌∷◌, ◌++◌, length, Option, Some, Ok, Err, refl, sym, ◌∙◌, ap, arith}
use Rattle.forec_tree.specs.declared.token.Token.{Token}
use Rattle.forec_tree.specs.declared.token.TokenKind.{TokenKind}
use Rattle.forec_tree.specs.declared.token.TokenKind.TheVariants as kind
use Rattle.forec_tree.specs.declared.token.Mark.TheVariants as mark
use Rattle.forec_base.specs.declared.operators.Unary.{Unary}
use Rattle.forec_tree.specs.declared.operators.Operator.{Operator}
use Rattle.forec_tree.specs.declared.tree.Name.{Name}
use Rattle.forec_tree.specs.Terms as plain
use Rattle.forec_tree.specs.Terms.{Term}
use Rattle.forec_tree.specs.Spelling.{Spelt, at, IsMark, mark_of, sign_of, level_of, operator_term, listed, Spells, Whole, Brackets, SpellsIndex, SpellsArguments, SpellsExpressions, whole, brackets, indexes, passes_none, passes, one}
use Rattle.forec_tree.specs.Spelling.{more as more'}
use Rattle.forec_tree.specs.Spelling as sp
use Rattle.expr_parser.specs.declared.fault.Fault.TheVariants.{Syntax}
use Rattle.expr_parser.specs.declared.fixed.Fixed.TheVariants as fixed
use Rattle.expr_parser.specs.declared.meaning.Start.{Start}
use Rattle.expr_parser.specs.declared.meaning.Start.TheVariants as beg
use Rattle.expr_parser.specs.declared.meaning.Infix.{Infix}
use Rattle.expr_parser.specs.declared.meaning.Infix.TheVariants as inf
use Rattle.expr_parser.specs.declared.meaning.Behind.{Behind}
use Rattle.expr_parser.specs.declared.meaning.Behind.TheVariants as follow
use Rattle.expr_parser.specs.Input.{Input, Parser, and_then, kind_ahead, raise}
use Rattle.expr_parser.specs.Meaning.{term_start, infix_of, after_of, binds}
use Rattle.expr_parser.specs.Reading as reading
use Rattle.expr_parser.specs.Reading.{infix_at, binding_ahead, read_number, read_expression, climb, prefix, prefix_by, named_by, operation, operation_by}
use Rattle.expr_parser.proofs.Spans.{first, step, ok_of, ok_pair, Raised, raised}
use Rattle.expr_parser.proofs.Exact.{Lang, Read, Exact, Bind, both, Map, mapped, Scoped, inside, Done, done, If, on, off, Part, part, Reading, Any, bind, map_to, scope, convert, either, done_at, by_reading, then_read, read_as}
use Rattle.expr_parser.proofs.Leaves.{Tok, tok, NameIs, name_is, NumberIs, number_is, token, a_name, a_number, Enclosed, EnclosedBy, between, enclosing, l_sound, Listed, end_of_list, next_of_list}
use Rattle.expr_parser.proofs.Operators.{Begins, begins, Joins, joins, mark_infix, level_bounds, binds_small}

-- an expression at a level of the operators
pub data At (m : ℕ) : ℕ → Term → ℕ → List Spelt → Option TokenKind → Type 0 where
  at_level : {v w : ℕ} {x : Term} {ls : List Spelt} {k : Option TokenKind} → Spells m x v ls w → At m v x w ls k

-- and what stands after it goes on with no operator of that level or above
pub data ParsedAt (m : ℕ) : ℕ → Term → ℕ → List Spelt → Option TokenKind → Type 0 where
  found : {v w : ℕ} {x : Term} {ls : List Spelt} {k : Option TokenKind} → Spells m x v ls w → binds (infix_of k) < m → ParsedAt m v x w ls k

-- a token that opens a level
pub data Opens : ℕ → Token → ℕ → List Spelt → Option TokenKind → Type 0 where
  opens : {v : ℕ} {t : Token} {k : Option TokenKind} → Opens v t (v + 1) (at t (v + 1) ∷ []) k

-- what may stand after a name
pub data Behind_name (n : Name) : ℕ → Term → ℕ → List Spelt → Option TokenKind → Type 0 where
  by_index : {v : ℕ} {index : Term} {ls : List Spelt} {k : Option TokenKind} → SpellsIndex index v ls → Behind_name n v (plain.Element n.place n index) v ls k
  by_args : {v : ℕ} {args : List Term} {ls : List Spelt} {k : Option TokenKind} → SpellsArguments args v ls → Behind_name n v (plain.Call n.place n (listed args)) v ls k
  by_nothing : {v : ℕ} {k : Option TokenKind} → Behind_name n v (plain.Read n.place n) v [] k

-- an operator and its second operand, or `?` and two
pub data Operates (left : Term) : ℕ → Term → ℕ → List Spelt → Option TokenKind → Type 0 where
  joins_to : {v w : ℕ} {t : Token} {right : Term} {rs : List Spelt} {k : Option TokenKind} (op : Operator) → IsMark (mark_of op) t → ParsedAt (level_of op + 1) (v + 1) right w rs k
      → Operates left v (operator_term op t.place left right) w (at t (v + 1) ∷ rs) k
  chooses : {v w x : ℕ} {t : Token} (colon : Token) {a b : Term} {ms rs : List Spelt} {k : Option TokenKind} → IsMark mark.Question t → Spells 1 a (v + 1) ms w → IsMark mark.Colon colon → ParsedAt 1 w b x rs k
      → Operates left v (plain.Choose t.place left a b) x (at t (v + 1) ∷ (ms ++ (at colon w ∷ rs))) k

-- an operation whose operator binds as tightly as n
pub data OperatesAt (n : ℕ) (left : Term) : ℕ → Term → ℕ → List Spelt → Option TokenKind → Type 0 where
  goes_on : {v w : ℕ} {x : Term} {ls : List Spelt} {k : Option TokenKind} → Operates left v x w ls k → n ≤ binds (infix_of (first ls k)) → OperatesAt n left v x w ls k

-- what is read so far of an expression at level n, and what stands after it
pub data SoFar (n : ℕ) : ℕ → Term → ℕ → List Spelt → Option TokenKind → Type 0 where
  so_far : {v w : ℕ} {x : Term} {ls : List Spelt} {k : Option TokenKind} (m : ℕ) → n ≤ m → Spells m x v ls w → binds (infix_of k) ≤ m → (m ≤ 1 → binds (infix_of k) ≡ 0) → SoFar n v x w ls k

-- a spelling at a level is one at each looser level
pub lower : {m v w : ℕ} {x : Term} {ls : List Spelt} → Spells m x v ls w → (n : ℕ) → n ≤ m → Spells n x v ls w
lower (sp.number value h) n le = sp.number value h
lower (sp.read id h) n le = sp.read id h
lower (sp.element id h s) n le = sp.element id h s
lower (sp.call id h s) n le = sp.call id h s
lower (sp.bracketed s) n le = sp.bracketed s
lower (sp.unary op top h s) n le = sp.unary op (omega arith) h s
lower (sp.binary t op top a h b) n le = sp.binary t op (omega arith) a h b
lower (sp.choose t colon top a h b k c) n le = sp.choose t colon (omega arith) a h b k c

two_at : (m a : ℕ) → a ≡ 1 → (m ≤ 1 → a ≡ 0) → 2 ≤ m
two_at zero a e f = absurd (let z = f (omega arith) in omega arith)
two_at (suc zero) a e f = absurd (let z = f (omega arith) in omega arith)
two_at (suc (suc m)) a e f = omega arith

join_with : {n v u w : ℕ} {x y : Term} {ls rs : List Spelt} {k : Option TokenKind} → OperatesAt n x u y w rs k → SoFar n v x u ls (first rs k) → SoFar n v y w (ls ++ rs) k
join_with {n} (goes_on (joins_to {t = t} op is (found r low)) high) (so_far m le s tight right) =
    let i : infix_of (Some t.kind) ≡ inf.Joins op = rw is (mark_infix op) in
    let same : binds (infix_of (Some t.kind)) ≡ level_of op = ap binds i in
    let bounds = level_bounds op in
    so_far (level_of op) (omega arith) (sp.binary t op (omega arith) (lower s (level_of op) (omega arith)) is r) (omega arith) (λ z. absurd (omega (arith, bounds.0)))
join_with {n} (goes_on (chooses {t = t} colon is a hc (found r low)) high) (so_far m le s tight right) =
    let same : binds (infix_of (Some t.kind)) ≡ 1 = rw is in
    so_far 1 (omega arith) (sp.choose t colon (omega arith) (lower s 2 (two_at m _ same right)) is a hc r) (omega arith) (λ z. omega arith)

pub join : {n v w : ℕ} {y : Term} {ls : List Spelt} {k : Option TokenKind} → Bind (SoFar n) (OperatesAt n) v y w ls k → SoFar n v y w ls k
join (both a b) = join_with b a

-- ---- what each rule finds, as an expression

pub element_of : {n : Name} {v w : ℕ} {y : Term} {ls : List Spelt} {k : Option TokenKind} → Map (λ index. plain.Element n.place n index) (Part Any SpellsIndex) v y w ls k → Behind_name n v y w ls k
element_of (mapped (part s c)) = by_index s

pub call_of : {n : Name} {v w : ℕ} {y : Term} {ls : List Spelt} {k : Option TokenKind} → Map (λ args. plain.Call n.place n (listed args)) (Part Any SpellsArguments) v y w ls k → Behind_name n v y w ls k
call_of (mapped (part s c)) = by_args s

pub named_of : {v w : ℕ} {x : Term} {ls : List Spelt} {k : Option TokenKind} → Bind (Part Any NameIs) Behind_name v x w ls k → At 12 v x w ls k
named_of (both (part (name_is id h) c) (by_index s)) = at_level (sp.element id h s)
named_of (both (part (name_is id h) c) (by_args s)) = at_level (sp.call id h s)
named_of (both (part (name_is id h) c) by_nothing) = at_level (sp.read id h)

pub literal_of : {v w : ℕ} {y : Term} {ls : List Spelt} {k : Option TokenKind} → Map (λ n. plain.Num n.place n.value) (Part Any NumberIs) v y w ls k → At 12 v y w ls k
literal_of (mapped (part (number_is value h) c)) = at_level (sp.number value h)

pub signed_of : {v w : ℕ} {y : Term} {ls : List Spelt} {k : Option TokenKind} (op : Unary) → Bind Opens (λ t. Map (λ z. plain.Un t.place op z) (ParsedAt 12)) v y w ls k → first ls k ≡ Some (kind.Mark (sign_of op)) → At 12 v y w ls k
signed_of op (both (opens {t = t}) (mapped (found s low))) e = let is : IsMark (sign_of op) t = cc in at_level (sp.unary op (omega arith) is s)

pub round_of : {v w : ℕ} {y : Term} {ls : List Spelt} {k : Option TokenKind} → Part Any Brackets v y w ls k → At 12 v y w ls k
round_of (part s c) = at_level (sp.bracketed s)

join_map : {v w : ℕ} {t : Token} {left y : Term} {ls : List Spelt} {k : Option TokenKind} (op : Operator) → Map (λ z. operator_term op t.place left z) (ParsedAt (level_of op + 1)) (v + 1) y w ls k
    → Some t.kind ≡ Some (kind.Mark (mark_of op)) → Operates left v y w (at t (v + 1) ∷ ls) k
join_map {v} {t = t} op (mapped s) e = let is : IsMark (mark_of op) t = cc in joins_to op is s

pub joins_of : {v w : ℕ} {left y : Term} {ls : List Spelt} {k : Option TokenKind} (op : Operator) → Bind Opens (λ t. Map (λ z. operator_term op t.place left z) (ParsedAt (level_of op + 1))) v y w ls k
    → first ls k ≡ Some (kind.Mark (mark_of op)) → Operates left v y w ls k
joins_of op (both (opens {t = t}) m) e = join_map {t = t} op m e

pub chooses_of : {v w : ℕ} {left y : Term} {ls : List Spelt} {k : Option TokenKind} → Bind Opens (λ t. Bind (ParsedAt 1) (λ a. Bind (Tok fixed.Colon) (λ _. Map (λ c. plain.Choose t.place left a c) (ParsedAt 1)))) v y w ls k
    → first ls k ≡ Some (kind.Mark mark.Question) → Operates left v y w ls k
chooses_of (both (opens {t = t}) (both (found s low) (both (tok {t = colon} hc) (mapped r)))) e = let is : IsMark mark.Question t = cc in chooses colon is s hc r

pub so_far_of : {v w : ℕ} {y : Term} {ls : List Spelt} {k : Option TokenKind} (n : ℕ) → n ≤ 12 → At 12 v y w ls k → SoFar n v y w ls k
so_far_of {k = k} n top (at_level q) = let low = binds_small (infix_of k) in so_far 12 top q (omega arith) (λ z. absurd (omega arith))

module _ (limit : ℕ) where
  abbrev pub Sounds : (ℕ → Parser Term) → Type 0
  Sounds ex = (n : ℕ) → 1 ≤ n → n ≤ 12 → (i j : Input) (x : Term) → i.level ≤ limit → ex n i ≡ Ok (x, j) → Read limit (ParsedAt n) x i j

  pub a_raise : Exact limit (raise limit) Opens (Reading limit (raise limit))
  a_raise = by_reading (λ i j t small h. so i j t (raised limit i.rest i.level t j h))
    where
      so : (i j : Input) (t : Token) → Raised limit t i j → Read limit Opens t i j
      so i j t c =
          let R : ℕ → Type 0 = λ z. Opens i.level t z (at t (i.level + 1) ∷ []) (kind_ahead j.rest) in
          record { spelt = at t (i.level + 1) ∷ []; front = c.front; spells = subst R (sym c.level) opens; within = (c.small, tt); small = omega (arith, c.level, c.small) }

  module _ (ex : ℕ → Parser Term) (sound : Sounds ex) where
    an_expr : (n : ℕ) → 1 ≤ n → n ≤ 12 → Exact limit (ex n) (ParsedAt n) (Reading limit (ex n))
    an_expr n low high = by_reading (sound n low high)

    pub own : Exact limit (ex 1) (ParsedAt 1) (Reading limit (ex 1))
    own = an_expr 1 (omega arith) (omega arith)

    -- ---- an expression of its own

    pub whole_of : (v w : ℕ) (x : Term) (ls : List Spelt) (k : Option TokenKind) → Scoped (ParsedAt 1) v x w ls k → Part Any Whole v x w ls k
    whole_of v w x ls k (inside (found s low)) = part (whole s) tt

    pub a_value : Exact limit (reading.value limit ex) (Part Any Whole) (Scoped (Reading limit (ex 1)))
    unfolding reading.value
    a_value = convert whole_of (λ v w x ls k q. q) (scope own)

    -- ---- brackets

    pub brackets_of : (v w : ℕ) (x : Term) (ls : List Spelt) (k : Option TokenKind) → Enclosed fixed.LeftRound fixed.RightRound (λ _ y. y) (ParsedAt 1) v x w ls k → Part Any Brackets v x w ls k
    brackets_of v w x ls k (between right hl (found s low) hr) = part (brackets right hl (whole s) hr) tt

    pub a_bracketed : Exact limit (reading.bracketed limit ex) (Part Any Brackets) (EnclosedBy limit fixed.LeftRound fixed.RightRound (λ _ y. y) (Reading limit (ex 1)))
    unfolding reading.bracketed
    a_bracketed = convert brackets_of (λ v w x ls k q. q) (enclosing fixed.LeftRound fixed.RightRound (λ _ y. y) own)

    pub indexes_of : (v w : ℕ) (x : Term) (ls : List Spelt) (k : Option TokenKind) → Enclosed fixed.LeftSquare fixed.RightSquare (λ _ y. y) (ParsedAt 1) v x w ls k → Part Any SpellsIndex v x w ls k
    indexes_of v w x ls k (between right hl (found s low) hr) = part (indexes right hl (whole s) hr) tt

    pub an_indexed : Exact limit (reading.indexed limit ex) (Part Any SpellsIndex) (EnclosedBy limit fixed.LeftSquare fixed.RightSquare (λ _ y. y) (Reading limit (ex 1)))
    unfolding reading.indexed
    an_indexed = convert indexes_of (λ v w x ls k q. q) (enclosing fixed.LeftSquare fixed.RightSquare (λ _ y. y) own)

    -- ---- arguments

    pub arguments_in : {v w : ℕ} {xs : List Term} {ls : List Spelt} {k : Option TokenKind} → Listed (Part Any Whole) v xs w ls k → SpellsExpressions xs v ls
    arguments_in (end_of_list (part s c) e) = one s
    arguments_in (next_of_list comma (part s c) h more) = more' comma s h (arguments_in more)

    -- one expression or more
    pub some_values : Exact limit (reading.separated (reading.value limit ex)) (Listed (Part Any Whole)) (Reading limit (reading.separated (reading.value limit ex)))
    some_values = by_reading (l_sound a_value)

    abbrev pub Given : Lang (List Term) → Lang (List Term)
    Given V = If fixed.RightRound (Done []) V

    passes_of : (v w : ℕ) (xs : List Term) (ls : List Spelt) (k : Option TokenKind) → Enclosed fixed.LeftRound fixed.RightRound (λ _ y. y) (Given (Listed (Part Any Whole))) v xs w ls k → Part Any SpellsArguments v xs w ls k
    passes_of v w xs ls k (between right hl (on e done) hr) = part (passes_none hl hr) tt
    passes_of v w xs ls k (between right hl (off e s) hr) = part (passes right hl (arguments_in s) hr) tt

    pub a_passed : Exact limit (reading.passed limit ex) (Part Any SpellsArguments)
        (EnclosedBy limit fixed.LeftRound fixed.RightRound (λ _ y. y) (Given (Reading limit (reading.separated (reading.value limit ex)))))
    unfolding reading.passed reading.read_arguments
    a_passed = convert passes_of (λ v w x ls k q. q) (enclosing fixed.LeftRound fixed.RightRound (λ _ y. y) (either fixed.RightRound (done_at []) some_values))

    -- ---- operands

    behind_by : (n : Name) (f : Behind) (i j : Input) (x : Term) → i.level ≤ limit → named_by limit ex f n i ≡ Ok (x, j) → Read limit (Behind_name n) x i j
    behind_by n follow.Index i j x small h =
        read_as ((map_to (λ index. plain.Element n.place n index) an_indexed).sound i j x small h) (λ ls e q. element_of q)
    behind_by n follow.Arguments i j x small h =
        read_as ((map_to (λ args. plain.Call n.place n (listed args)) a_passed).sound i j x small h) (λ ls e q. call_of q)
    behind_by n follow.Nothing i j x small h = read_as ((done_at (plain.Read n.place n)).sound i j x small h) (λ ls e q. of q)
      where
        of : {v w : ℕ} {y : Term} {ls : List Spelt} {k : Option TokenKind} → Done (plain.Read n.place n) v y w ls k → Behind_name n v y w ls k
        of done = by_nothing

    -- the same, by what each finds
    pub indexed_by : Exact limit (reading.indexed limit ex) (Part Any SpellsIndex) (Reading limit (reading.indexed limit ex))
    indexed_by = by_reading an_indexed.sound

    pub passed_by : Exact limit (reading.passed limit ex) (Part Any SpellsArguments) (Reading limit (reading.passed limit ex))
    passed_by = by_reading a_passed.sound

    pub value_by : Exact limit (reading.value limit ex) (Part Any Whole) (Reading limit (reading.value limit ex))
    value_by = by_reading a_value.sound

    pub bracketed_by : Exact limit (reading.bracketed limit ex) (Part Any Brackets) (Reading limit (reading.bracketed limit ex))
    bracketed_by = by_reading a_bracketed.sound

    pub a_named : Exact limit (reading.named_term limit ex) (At 12) (Bind (Part Any NameIs) (λ n. Reading limit (λ i. named_by limit ex (after_of (kind_ahead i.rest)) n i)))
    unfolding reading.named_term
    a_named = convert (λ v w x ls k q. named_of q) (λ v w x ls k q. q) (bind (a_name limit) (λ n. by_reading (λ i j x small h. behind_by n (after_of (kind_ahead i.rest)) i j x small h)))

    prefix_of : (s : Start) (i j : Input) (x : Term) → Begins (kind_ahead i.rest) s → i.level ≤ limit → prefix_by limit ex s i ≡ Ok (x, j) → Read limit (At 12) x i j
    prefix_of beg.Literal i j x b small h = read_as ((map_to (λ n. plain.Num n.place n.value) (a_number limit)).sound i j x small h) (λ ls e q. literal_of q)
    prefix_of beg.Named i j x b small h = a_named.sound i j x small h
    prefix_of (beg.Sign op) i j x b small h =
        read_as ((bind a_raise (λ t. map_to (λ y. plain.Un t.place op y) (an_expr 12 (omega arith) (omega arith)))).sound i j x small h) (λ ls e q. signed_of op q (e ∙ b))
    prefix_of beg.Round i j x b small h = read_as (a_bracketed.sound i j x small h) (λ ls e q. round_of q)
    prefix_of beg.Nothing i j x b small h = absurd (cc)

    pub s_prefix : (i j : Input) (x : Term) → i.level ≤ limit → prefix limit ex i ≡ Ok (x, j) → Read limit (At 12) x i j
    unfolding prefix
    s_prefix i j x small h = prefix_of (term_start (kind_ahead i.rest)) i j x (begins (kind_ahead i.rest)) small h

    -- ---- operators

    operates_of : (s : Infix) (left : Term) (i j : Input) (x : Term) → Joins (kind_ahead i.rest) s → i.level ≤ limit → operation_by limit ex left s i ≡ Ok (x, j) → Read limit (Operates left) x i j
    unfolding reading.choose_term
    operates_of (inf.Joins op) left i j x b small h =
        let bounds = level_bounds op in
        read_as ((bind a_raise (λ t. map_to (λ y. operator_term op t.place left y) (an_expr (level_of op + 1) (omega arith) (omega (arith, bounds.1))))).sound i j x small h) (λ ls e q. joins_of op q (e ∙ b))
    operates_of inf.Question left i j x b small h =
        read_as ((bind a_raise (λ t. bind own (λ a. bind (token limit fixed.Colon) (λ _. map_to (λ c. plain.Choose t.place left a c) own)))).sound i j x small h) (λ ls e q. chooses_of q (e ∙ b))
    operates_of inf.Nothing left i j x b small h = absurd (cc)

    s_operation : (left : Term) (i j : Input) (x : Term) → i.level ≤ limit → operation limit ex left i ≡ Ok (x, j) → Read limit (Operates left) x i j
    unfolding operation
    s_operation left i j x small h = operates_of (infix_at i) left i j x (joins (kind_ahead i.rest)) small h

    -- ---- the loop

    pub goes_of : (n : ℕ) (left : Term) (i j : Input) (x : Term) → i.level ≤ limit → n ≤ binding_ahead i → operation limit ex left i ≡ Ok (x, j) → Read limit (OperatesAt n left) x i j
    goes_of n left i j x small high h = read_as (s_operation left i j x small h) (λ ls e q. goes_on q (let f : binds (infix_of (first ls (kind_ahead j.rest))) ≡ binding_ahead i = ap (λ k. binds (infix_of k)) e in omega arith))

    ClimbsTo : ℕ → Type 0
    ClimbsTo turns = (n : ℕ) (x y : Term) (i j k : Input) → 1 ≤ n → Read limit (SoFar n) x i j → climb limit ex n turns x j ≡ Ok (y, k) → Read limit (ParsedAt n) y i k

    s_stop : (n : ℕ) (x y : Term) (i j k : Input) → Read limit (SoFar n) x i j → binding_ahead j < n → x ≡ y → j ≡ k → Read limit (ParsedAt n) y i k
    s_stop n x y i j k g low e f =
        let R : Input → Type 0 = λ z. Read limit (ParsedAt n) x i z in
        let S : Term → Type 0 = λ z. Read limit (ParsedAt n) z i k in
        subst S e (subst R f (read_as g (λ ls h q. of q)))
      where
        of : {v w : ℕ} {ls : List Spelt} → SoFar n v x w ls (kind_ahead j.rest) → ParsedAt n v x w ls (kind_ahead j.rest)
        of (so_far m le s tight right) = found (lower s n le) low

    s_climb_turn : (turns : ℕ) → ClimbsTo turns → ClimbsTo (suc turns)
    unfolding climb ClimbsTo
    s_climb_turn turns ih n x y i j k pos g h = by_test (nat_lt (binding_ahead j) n) refl h
      where
        by_test : (b : Bool) → nat_lt (binding_ahead j) n ≡ b → cond b (ok_of x j) (and_then (operation limit ex x j) (climb limit ex n turns)) ≡ Ok (y, k) → Read limit (ParsedAt n) y i k
        by_test true c h =
            let p = ok_pair x y j k h in
            let low : binding_ahead j < n = grind arith in
            s_stop n x y i j k g low p.0 p.1
        by_test false c h =
            let high : n ≤ binding_ahead j = grind arith in
            let s = step (operation limit ex x j) (climb limit ex n turns) (y, k) h in
            let o = goes_of n x j s.state s.value g.small high s.was in
            let both' : Read limit (Bind (SoFar n) (OperatesAt n)) s.value i s.state = then_read g o in
            ih n s.value y i s.state k pos (read_as both' (λ ls e q. join q)) s.goes

    s_climb_end : ClimbsTo zero
    unfolding climb ClimbsTo
    s_climb_end n x y i j k pos g h = by_test (nat_lt (binding_ahead j) n) refl h
      where
        by_test : (b : Bool) → nat_lt (binding_ahead j) n ≡ b → cond b (ok_of x j) (Err (Syntax (length j.rest))) ≡ Ok (y, k) → Read limit (ParsedAt n) y i k
        by_test true c h = let p = ok_pair x y j k h in let low : binding_ahead j < n = grind arith in s_stop n x y i j k g low p.0 p.1
        by_test false c h = absurd (cc)

    s_climb : (turns : ℕ) → ClimbsTo turns
    s_climb zero = s_climb_end
    s_climb (suc turns) = s_climb_turn turns (s_climb turns)

    s_climbing : (n : ℕ) → 1 ≤ n → n ≤ 12 → (i j : Input) (x : Term) → i.level ≤ limit → reading.climbing limit ex n i ≡ Ok (x, j) → Read limit (ParsedAt n) x i j
    unfolding reading.climbing reading.operations ClimbsTo
    s_climbing n pos top i j x small h =
        let s = step (prefix limit ex i) (λ y k. climb limit ex n (length k.rest) y k) (x, j) h in
        s_climb (length s.state.rest) n s.value x i s.state j pos (read_as (s_prefix i s.state s.value small s.was) (λ ls e q. so_far_of n top q)) s.goes

  -- What is read is spelled so, and what stands after it does not go on with it.
  pub sound : (d : ℕ) → Sounds (read_expression limit d)
  unfolding read_expression
  sound zero n pos top i j x small h = absurd (cc)
  sound (suc d) n pos top i j x small h = s_climbing (read_expression limit d) (sound d) n pos top i j x small h
