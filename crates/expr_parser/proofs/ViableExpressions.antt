-- Where an expression is refused, what was taken is the front of one.
use mathlib.Core.Path.{subst}
use Rattle.std.proofs.Common.{◌≡◌, ℕ, pos, zero, suc, ◌+◌, ◌≤◌, ◌<◌, ◌⊎◌, inl, inr, Bool, true, false, nat_lt, cond, List, [], ◌∷◌, ◌++◌, length, Option, Some, Err, refl, sym, ◌∙◌, ap, append-nil, arith}
use Rattle.forec_tree.specs.declared.token.Token.{Token}
use Rattle.forec_tree.specs.declared.token.TokenKind.{TokenKind}
use Rattle.forec_tree.specs.declared.token.TokenKind.TheVariants as kind
use Rattle.forec_tree.specs.declared.token.Mark.TheVariants as mark
use Rattle.forec_tree.specs.declared.operators.Operator.TheVariants as oper
use Rattle.forec_tree.specs.declared.tree.Name.{Name}
use Rattle.forec_tree.specs.Terms as plain
use Rattle.forec_tree.specs.Terms.{Term}
use Rattle.forec_tree.specs.Spelling.{Spelt, at, level_of, operator_term, listed, Whole, Brackets, SpellsIndex, SpellsArguments, SpellsExpressions, passes_none, passes, one, more, IsMark}
use Rattle.forec_tree.specs.Spelling as sp
use Rattle.expr_parser.specs.declared.fault.Fault.{Fault}
use Rattle.expr_parser.specs.declared.fault.Fault.TheVariants.{Syntax}
use Rattle.expr_parser.specs.declared.fixed.Fixed.TheVariants as fixed
use Rattle.expr_parser.specs.declared.meaning.Start.{Start}
use Rattle.expr_parser.specs.declared.meaning.Start.TheVariants as beg
use Rattle.expr_parser.specs.declared.meaning.Infix.{Infix}
use Rattle.expr_parser.specs.declared.meaning.Infix.TheVariants as inf
use Rattle.expr_parser.specs.declared.meaning.Behind.{Behind}
use Rattle.expr_parser.specs.declared.meaning.Behind.TheVariants as follow
use Rattle.expr_parser.specs.Input.{Input, Parser, and_then, kind_ahead, raise}
use Rattle.expr_parser.specs.Meaning.{term_start, infix_of, after_of, binds}
use Rattle.expr_parser.specs.Reading as reading
use Rattle.expr_parser.specs.Reading.{infix_at, binding_ahead, read_expression, climb, prefix, prefix_by, named_by, operation, operation_by}
use Rattle.expr_parser.proofs.Spans.{first, ok_of}
use Rattle.expr_parser.proofs.Closers.{kind_of}
use Rattle.expr_parser.proofs.Exact.{Read, Bind, both, Map, If, on, off, Done, done, Part, part, Any, then_read, read_as}
use Rattle.expr_parser.proofs.Exact as exact
use Rattle.expr_parser.proofs.Leaves as leaf
use Rattle.expr_parser.proofs.Leaves.{token, Enclosed, between, Listed, end_of_list, next_of_list}
use Rattle.expr_parser.proofs.Operators.{Begins, begins, Joins, joins, level_bounds}
use Rattle.expr_parser.proofs.ExpressionSound.{At, at_level, ParsedAt, found, Opens, opens, Behind_name, by_nothing, Operates, joins_to, chooses, OperatesAt, goes_on, SoFar, so_far, lower, join, element_of, call_of, named_of, literal_of, signed_of, round_of, joins_of, chooses_of, so_far_of, Sounds, a_raise, own, whole_of, brackets_of, indexes_of, value_by, some_values, s_prefix, goes_of, sound}
use Rattle.expr_parser.proofs.ExpressionComplete.{rises}
use Rattle.expr_parser.proofs.Viable.{made, Least, Refused, Viable, Keeps, refused_here, refused_as, refused_so, refused_to, refused_second, Second, failed, bind, map_to, scope, convert, either_on, done_at}
use Rattle.expr_parser.proofs.ViableLeaves.{part_keeps, token_keeps, token_at, raise_stops, a_name, a_number, name_here, number_here, enclosing, commas}

-- no operator
abbrev pub Plain : Option TokenKind → Type 0
Plain k = binds (infix_of k) ≡ 0

pub found_keeps : {low n : ℕ} {k : Option TokenKind} → 1 ≤ n → Plain k → Keeps low low (ParsedAt n) k
found_keeps {low} {n} {k} pos' e = record { before = λ v w x ls o q. of q; rises = λ v w x ls o q le. le_of q le }
  where
    of : {v w : ℕ} {x : Term} {ls : List Spelt} {o : Option TokenKind} → ParsedAt n v x w ls o → ParsedAt n v x w ls k
    of (found s h) = found s (omega (arith, e))

    le_of : {v w : ℕ} {x : Term} {ls : List Spelt} {o : Option TokenKind} → ParsedAt n v x w ls o → low ≤ v → low ≤ w
    le_of (found s h) le = omega (arith, rises s)

opens_keep : {low : ℕ} {k : Option TokenKind} → Keeps low (low + 1) Opens k
opens_keep {low} {k} = record { before = λ v w x ls o q. of q; rises = λ v w x ls o q le. le_of q le }
  where
    of : {v w : ℕ} {x : Token} {ls : List Spelt} {o : Option TokenKind} → Opens v x w ls o → Opens v x w ls k
    of opens = opens

    le_of : {v w : ℕ} {x : Token} {ls : List Spelt} {o : Option TokenKind} → Opens v x w ls o → low ≤ v → low + 1 ≤ w
    le_of opens le = omega arith

-- ---- the least expressions

least_at : {m : ℕ} {k : Option TokenKind} (v : ℕ) → Least (At m) a_number k v
least_at v = let t = made (kind.Number (pos 1)) in record { value = plain.Num t.place (pos 1); last = v; tokens = at t v ∷ []; spells = at_level (sp.number (pos 1) refl); begins = refl }

found_at : {n v w : ℕ} {x : Term} {ls : List Spelt} {k : Option TokenKind} → 1 ≤ n → Plain k → At n v x w ls k → ParsedAt n v x w ls k
found_at pos' e (at_level s) = found s (omega (arith, e))

pub least_found : {n : ℕ} {k : Option TokenKind} → 1 ≤ n → Plain k → (v : ℕ) → Least (ParsedAt n) a_number k v
least_found pos' e v = let s = least_at v in record { value = s.value; last = s.last; tokens = s.tokens; spells = found_at pos' e s.spells; begins = s.begins }

abbrev an_or : Option TokenKind
an_or = Some (kind.Mark mark.OrOr)

least_operates : {left : Term} {k : Option TokenKind} → Plain k → (v : ℕ) → Least (Operates left) an_or k v
least_operates e v =
    let t = made (kind.Mark mark.OrOr) in
    let s = least_found {n = 3} (omega arith) e (v + 1) in
    record { value = operator_term oper.Or t.place _ s.value; last = s.last; tokens = at t (v + 1) ∷ s.tokens; spells = joins_to oper.Or refl s.spells; begins = refl }

-- ---- arguments, and none

more_in : {v w : ℕ} {x : Term} {xs : List Term} {ls rs : List Spelt} {k : Option TokenKind} (comma : Token) → Whole x v ls → IsMark mark.Comma comma → Part Any SpellsExpressions v xs w rs k
    → Part Any SpellsExpressions v (x ∷ xs) w (ls ++ (at comma v ∷ rs)) k
more_in comma s h (part r c) = part (more comma s h r) tt

pub arguments_part : {v w : ℕ} {xs : List Term} {ls : List Spelt} {k : Option TokenKind} → Listed (Part Any Whole) v xs w ls k → Part Any SpellsExpressions v xs w ls k
arguments_part (end_of_list (part s c) e) = part (one s) tt
arguments_part (next_of_list comma (part s c) h rest) = more_in comma s h (arguments_part rest)

data Given : List Term → ℕ → List Spelt → Type 0 where
  no_args : {v : ℕ} → Given [] v []
  some_args : {v : ℕ} {xs : List Term} {ls : List Spelt} → SpellsExpressions xs v ls → Given xs v ls

some_given : {v w : ℕ} {xs : List Term} {ls : List Spelt} {k : Option TokenKind} → Part Any SpellsExpressions v xs w ls k → Part Any Given v xs w ls k
some_given (part s c) = part (some_args s) tt

passes_given : {v w : ℕ} {xs : List Term} {ls : List Spelt} {k : Option TokenKind} → Enclosed fixed.LeftRound fixed.RightRound (λ _ y. y) (Part Any Given) v xs w ls k → Part Any SpellsArguments v xs w ls k
passes_given (between right hl (part no_args c) hr) = part (passes_none hl hr) tt
passes_given (between right hl (part (some_args s) c) hr) = part (passes right hl s hr) tt

-- ---- the loop

-- an operation, or nothing more
data Onward (n : ℕ) (left : Term) : ℕ → Term → ℕ → List Spelt → Option TokenKind → Type 0 where
  stays : {v : ℕ} {k : Option TokenKind} → Onward n left v left v [] k
  goes : {v w : ℕ} {x : Term} {ls : List Spelt} {k : Option TokenKind} → OperatesAt n left v x w ls k → Onward n left v x w ls k

least_onward : {n : ℕ} {left : Term} {k : Option TokenKind} (v : ℕ) → Least (Onward n left) k k v
least_onward {n} {left} v = record { value = left; last = v; tokens = []; spells = stays; begins = refl }

end_of : {n v w : ℕ} {y : Term} {ls : List Spelt} {k : Option TokenKind} → 1 ≤ n → Plain k → SoFar n v y w ls k → ParsedAt n v y w ls k
end_of {n} low p (so_far m le s tight right) = found (lower s n le) (omega (arith, p))

before_end : {n v w : ℕ} {y : Term} {ls : List Spelt} {o k : Option TokenKind} → Plain k → SoFar n v y w ls o → SoFar n v y w ls k
before_end p (so_far m le s tight right) = so_far m le s (omega (arith, p)) (λ z. p)

onward_of : {n v w : ℕ} {y : Term} {ls : List Spelt} {k : Option TokenKind} → 1 ≤ n → Plain k → Bind (SoFar n) (Onward n) v y w ls k → ParsedAt n v y w ls k
onward_of {n} {v} {w} {y} {ls} {k} low p (both {ls = ms} a stays) = let R : List Spelt → Type 0 = λ z. ParsedAt n v y w z k in subst R (sym (append-nil ms)) (end_of low p a)
onward_of low p (both a (goes b)) = end_of low p (join (both a b))

operates_rises : {left x : Term} {v w : ℕ} {ls : List Spelt} {k : Option TokenKind} → Operates left v x w ls k → v ≤ w
operates_rises (joins_to op h (found s q)) = omega (arith, rises s)
operates_rises (chooses colon h a c (found s q)) = omega (arith, rises a, rises s)

goes_rises : {n : ℕ} {left x : Term} {v w : ℕ} {ls : List Spelt} {k : Option TokenKind} → OperatesAt n left v x w ls k → v ≤ w
goes_rises (goes_on q h) = operates_rises q

at_rises : {n : ℕ} {x : Term} {v w : ℕ} {ls : List Spelt} {k : Option TokenKind} → At n v x w ls k → v ≤ w
at_rises (at_level s) = rises s

found_lower : {n v w : ℕ} {y : Term} {ls : List Spelt} {k : Option TokenKind} → 1 ≤ n → n ≤ 12 → Plain k → At 12 v y w ls k → ParsedAt n v y w ls k
found_lower {n} low top p (at_level s) = found (lower s n top) (omega (arith, p))

module _ (limit : ℕ) where
  -- from the level low on, an expression is refused after the front of one
  abbrev pub Views : ℕ → (ℕ → Parser Term) → Type 0
  Views low ex = (n : ℕ) → 1 ≤ n → n ≤ 12 → (k : Option TokenKind) → Plain k → Viable limit low (ex n) (ParsedAt n) a_number k

  raise_at : {low : ℕ} {k : Option TokenKind} → Viable limit low (raise limit) Opens (Some (kind.Mark mark.Minus)) k
  raise_at {low} {k} = record { refused = λ i e deep small h. raise_stops i e small h (le i.level) (λ t ts s. record { value = t; last = i.level + 1; behind = []; spells = opens }); least = le }
    where
      le : (v : ℕ) → Least Opens (Some (kind.Mark mark.Minus)) k v
      le v = let t = made (kind.Mark mark.Minus) in record { value = t; last = v + 1; tokens = at t (v + 1) ∷ []; spells = opens; begins = refl }

  module _ (ex : ℕ → Parser Term) (so : Sounds limit ex) where
    pub value_at : {low : ℕ} {k : Option TokenKind} → Views low ex → Plain k → Viable limit low (reading.value limit ex) (Part Any Whole) a_number k
    unfolding reading.value
    value_at {low} {k} view e = convert (whole_of limit ex so) (scope (view 1 (omega arith) (omega arith) k e))

    module _ (low : ℕ) (view : Views (low + 1) ex) where
      pub bracketed_at : {k : Option TokenKind} → Viable limit low (reading.bracketed limit ex) (Part Any Brackets) (Some (kind_of fixed.LeftRound)) k
      unfolding reading.bracketed
      bracketed_at {k} = convert (brackets_of limit ex so)
          (enclosing fixed.LeftRound fixed.RightRound (λ _ y. y) (own limit ex so) (found_keeps (omega arith) refl) (view 1 (omega arith) (omega arith) (Some (kind_of fixed.RightRound)) refl))

      pub indexed_at : {k : Option TokenKind} → Viable limit low (reading.indexed limit ex) (Part Any SpellsIndex) (Some (kind_of fixed.LeftSquare)) k
      unfolding reading.indexed
      indexed_at {k} = convert (indexes_of limit ex so)
          (enclosing fixed.LeftSquare fixed.RightSquare (λ _ y. y) (own limit ex so) (found_keeps (omega arith) refl) (view 1 (omega arith) (omega arith) (Some (kind_of fixed.RightSquare)) refl))

      -- ---- arguments

      given_of : {v w : ℕ} {xs : List Term} {ls : List Spelt} {k : Option TokenKind} → If fixed.RightRound (Done []) (Listed (Part Any Whole)) v xs w ls k → Part Any Given v xs w ls k
      given_of (on e done) = part no_args tt
      given_of (off e s) = some_given (arguments_part s)

      pub passed_at : {k : Option TokenKind} → Viable limit low (reading.passed limit ex) (Part Any SpellsArguments) (Some (kind_of fixed.LeftRound)) k
      unfolding reading.passed reading.read_arguments
      passed_at {k} = convert (λ v w x ls o q. passes_given q)
          (enclosing fixed.LeftRound fixed.RightRound (λ _ y. y)
          (exact.convert (λ v w x ls o q. given_of q) (λ v w x ls o q. q) (exact.either fixed.RightRound (exact.done_at []) (some_values limit ex so))) part_keeps
          (convert (λ v w x ls o q. given_of q) (either_on fixed.RightRound refl (done_at []) (commas (value_by limit ex so) part_keeps refl (value_at view refl)))))

      -- ---- operands

      behind_at : {k : Option TokenKind} (n : Name) → Viable limit low (λ i. named_by limit ex (after_of (kind_ahead i.rest)) n i) (Behind_name n) k k
      behind_at {k} n = record { refused = λ i e deep small h. of (after_of (kind_ahead i.rest)) i e deep small h; least = λ v. record { value = plain.Read n.place n; last = v; tokens = []; spells = by_nothing; begins = refl } }
        where
          of : (f : Behind) (i : Input) (e : Fault) → low ≤ i.level → i.level ≤ limit → named_by limit ex f n i ≡ Err e → Refused limit (Behind_name n) k i e
          of follow.Index i e deep small h =
              refused_to (λ v w x ls o q. element_of q) ((map_to (λ index. plain.Element n.place n index) indexed_at).refused i e deep small h)
          of follow.Arguments i e deep small h =
              refused_to (λ v w x ls o q. call_of q) ((map_to (λ args. plain.Call n.place n (listed args)) passed_at).refused i e deep small h)
          of follow.Nothing i e deep small h = absurd (cc)

      named_at : {k : Option TokenKind} → Viable limit low (reading.named_term limit ex) (At 12) a_name k
      unfolding reading.named_term
      named_at = convert (λ v w x ls o q. named_of q) (bind (leaf.a_name limit) part_keeps name_here behind_at)

      sign_at : {k : Option TokenKind} (op : _) → Plain k → Viable limit low (λ i. prefix_by limit ex (beg.Sign op) i) (Bind Opens (λ t. Map (λ z. plain.Un t.place op z) (ParsedAt 12))) (Some (kind.Mark mark.Minus)) k
      sign_at {k} op e = bind (a_raise limit) opens_keep raise_at (λ t. map_to (λ y. plain.Un t.place op y) (view 12 (omega arith) (omega arith) k e))

      prefix_stops : {k : Option TokenKind} → Plain k → (s : Start) (i : Input) (e : Fault) → Begins (kind_ahead i.rest) s → low ≤ i.level → i.level ≤ limit → prefix_by limit ex s i ≡ Err e → Refused limit (At 12) k i e
      prefix_stops p beg.Literal i e b deep small h =
          refused_to (λ v w x ls o q. literal_of q) ((map_to {limit = limit} {low = low} (λ n. plain.Num n.place n.value) number_here).refused i e deep small h)
      prefix_stops p beg.Named i e b deep small h = named_at.refused i e deep small h
      prefix_stops p (beg.Sign op) i e b deep small h = refused_as ((sign_at op p).refused i e deep small h) (least_at i.level) (λ w x ls f q. signed_of op q (f ∙ b))
      prefix_stops p beg.Round i e b deep small h = refused_to (λ v w x ls o q. round_of q) (bracketed_at.refused i e deep small h)
      prefix_stops p beg.Nothing i e b deep small h = refused_here (least_at i.level) (cc)

      prefix_at : {k : Option TokenKind} → Plain k → Viable limit low (prefix limit ex) (At 12) a_number k
      unfolding prefix
      prefix_at p = record { refused = λ i e deep small h. prefix_stops p (term_start (kind_ahead i.rest)) i e (begins (kind_ahead i.rest)) deep small h; least = least_at }

      -- ---- operators

      joins_at : {k : Option TokenKind} (left : Term) (op : _) → Plain k → Viable limit low (λ i. operation_by limit ex left (inf.Joins op) i) (Bind Opens (λ t. Map (λ z. operator_term op t.place left z) (ParsedAt (level_of op + 1)))) (Some (kind.Mark mark.Minus)) k
      joins_at {k} left op e =
          let bounds = level_bounds op in
          bind (a_raise limit) opens_keep raise_at (λ t. map_to (λ y. operator_term op t.place left y) (view (level_of op + 1) (omega arith) (omega (arith, bounds.1)) k e))

      chosen_at : {k : Option TokenKind} (left : Term) → Plain k → Viable limit low (reading.choose_term limit ex left) (Bind Opens (λ t. Bind (ParsedAt 1) (λ a. Bind (leaf.Tok fixed.Colon) (λ _. Map (λ c. plain.Choose t.place left a c) (ParsedAt 1))))) (Some (kind.Mark mark.Minus)) k
      unfolding reading.choose_term
      chosen_at {k} left e =
          bind (a_raise limit) opens_keep raise_at (λ t. bind (own limit ex so) (found_keeps (omega arith) refl) (view 1 (omega arith) (omega arith) (Some (kind_of fixed.Colon)) refl)
          (λ a. bind (token limit fixed.Colon) token_keeps (token_at fixed.Colon) (λ _. map_to (λ c. plain.Choose t.place left a c) (view 1 (omega arith) (omega arith) k e))))

      operates_stops : {k : Option TokenKind} → Plain k → (s : Infix) (left : Term) (i : Input) (e : Fault) → Joins (kind_ahead i.rest) s → low ≤ i.level → i.level ≤ limit → operation_by limit ex left s i ≡ Err e → Refused limit (Operates left) k i e
      operates_stops p (inf.Joins op) left i e b deep small h = refused_as ((joins_at left op p).refused i e deep small h) (least_operates p i.level) (λ w x ls f q. joins_of op q (f ∙ b))
      operates_stops p inf.Question left i e b deep small h = refused_as ((chosen_at left p).refused i e deep small h) (least_operates p i.level) (λ w x ls f q. chooses_of q (f ∙ b))
      operates_stops p inf.Nothing left i e b deep small h = refused_here (least_operates p i.level) (cc)

      operation_at : {k : Option TokenKind} (left : Term) → Plain k → Viable limit low (operation limit ex left) (Operates left) an_or k
      unfolding operation
      operation_at left p = record { refused = λ i e deep small h. operates_stops p (infix_at i) left i e (joins (kind_ahead i.rest)) deep small h; least = least_operates p }

      -- ---- the loop

      abbrev ClimbRefused : Option TokenKind → ℕ → Type 0
      ClimbRefused k turns = (n : ℕ) (x : Term) (i j : Input) (e : Fault) → 1 ≤ n → low ≤ j.level → Read limit (SoFar n) x i j → climb limit ex n turns x j ≡ Err e → Refused limit (ParsedAt n) k i e

      fails_on : {k : Option TokenKind} → Plain k → (n : ℕ) (x : Term) (i j : Input) (e : Fault) → 1 ≤ n → Read limit (SoFar n) x i j → Refused limit (Onward n x) k j e → Refused limit (ParsedAt n) k i e
      fails_on p n x i j e pos' g r = refused_so (refused_second g (before_end p g.spells) (least_onward j.level) r) (λ ls s. record { value = s.value; last = s.last; behind = s.behind; spells = onward_of pos' p s.spells })

      fails_end : {k : Option TokenKind} → Plain k → ClimbRefused k zero
      unfolding climb
      fails_end {k} p n x i j e pos' deep g h = by_test (nat_lt (binding_ahead j) n) h
        where
          by_test : (b : Bool) → cond b (ok_of x j) (Err (Syntax (length j.rest))) ≡ Err e → Refused limit (ParsedAt n) k i e
          by_test true h = absurd (cc)
          by_test false h = fails_on p n x i j e pos' g (refused_here (least_onward j.level) (cc))

      fails_turn : {k : Option TokenKind} → Plain k → (turns : ℕ) → ClimbRefused k turns → ClimbRefused k (suc turns)
      unfolding climb
      fails_turn {k} p turns ih n x i j e pos' deep g h = by_test (nat_lt (binding_ahead j) n) refl h
        where
          on' : n ≤ binding_ahead j → (operation limit ex x j ≡ Err e) ⊎ Second (operation limit ex x j) (climb limit ex n turns) e → Refused limit (ParsedAt n) k i e
          on' high (inl z) =
              fails_on p n x i j e pos' g (refused_as ((operation_at x p).refused j e deep g.small z) (least_onward j.level)
              (λ w y ls f q. goes (goes_on q (let u : binds (infix_of (first ls k)) ≡ binding_ahead j = ap (λ o. binds (infix_of o)) f in omega arith))))
          on' high (inr z) =
              let o = goes_of limit ex so n x j z.state z.value g.small high z.was in
              let both' : Read limit (Bind (SoFar n) (OperatesAt n)) z.value i z.state = then_read g o in
              ih n z.value i z.state e pos' (omega (arith, goes_rises o.spells)) (read_as both' (λ ls e q. join q)) z.goes

          by_test : (b : Bool) → nat_lt (binding_ahead j) n ≡ b → cond b (ok_of x j) (and_then (operation limit ex x j) (climb limit ex n turns)) ≡ Err e → Refused limit (ParsedAt n) k i e
          by_test true c h = absurd (cc)
          by_test false c h = on' (grind arith) (failed (operation limit ex x j) (climb limit ex n turns) e h)

      fails : {k : Option TokenKind} → Plain k → (turns : ℕ) → ClimbRefused k turns
      fails p zero = fails_end p
      fails p (suc turns) = fails_turn p turns (fails p turns)

      climbing_stops : (n : ℕ) → 1 ≤ n → n ≤ 12 → (k : Option TokenKind) → Plain k → (i : Input) (e : Fault) → low ≤ i.level → i.level ≤ limit → reading.climbing limit ex n i ≡ Err e → Refused limit (ParsedAt n) k i e
      unfolding reading.climbing reading.operations
      climbing_stops n pos' top k p i e deep small h = of (failed (prefix limit ex i) (λ y o. climb limit ex n (length o.rest) y o) e h)
        where
          of : (prefix limit ex i ≡ Err e) ⊎ Second (prefix limit ex i) (λ y o. climb limit ex n (length o.rest) y o) e → Refused limit (ParsedAt n) k i e
          of (inl z) = refused_so ((prefix_at p).refused i e deep small z) (λ ls s. record { value = s.value; last = s.last; behind = s.behind; spells = found_lower pos' top p s.spells })
          of (inr z) =
              let g = s_prefix limit ex so i z.state z.value small z.was in
              fails p (length z.state.rest) n z.value i z.state e pos' (omega (arith, at_rises g.spells)) (read_as g (λ ls e q. so_far_of n top q)) z.goes

  -- An expression is refused after the front of one, where the depth lasts up to the limit of levels.
  pub viable : (d low : ℕ) → limit < d + low → Views low (read_expression limit d)
  unfolding read_expression
  viable zero low deep n pos' top k p = record { refused = λ i e le small h. absurd (omega arith); least = least_found pos' p }
  viable (suc d) low deep n pos' top k p = record { refused = climbing_stops (read_expression limit d) (sound limit d) low (viable d (low + 1) (omega arith)) n pos' top k p; least = least_found pos' p }
