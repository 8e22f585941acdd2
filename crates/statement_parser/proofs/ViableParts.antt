-- Where a part of a statement that holds no statement is refused, what was taken is the front of one.
use Rattle.std.proofs.Common.{◌≡◌, ℕ, suc, ◌+◌, ◌≤◌, true, false, List, [], ◌∷◌, Option, Some, None, Err, refl, arith}
use Rattle.forec_base.specs.declared.operators.Binary.{Binary}
use Rattle.forec_base.specs.declared.operators.Binary.TheVariants as bin
use Rattle.forec_tree.specs.declared.token.TokenKind.{TokenKind}
use Rattle.forec_tree.specs.declared.token.TokenKind.TheVariants as kind
use Rattle.forec_tree.specs.declared.token.Mark.TheVariants as mark
use Rattle.forec_tree.specs.declared.tree.Number.{Number}
use Rattle.forec_tree.specs.Terms as plain
use Rattle.forec_tree.specs.Terms.{PlainTarget, absent, present}
use Rattle.forec_tree.specs.Spelling.{Spelt, at, listed, Whole, Brackets, SpellsIndex, SpellsArguments, SpellsExpressions}
use Rattle.forec_tree.specs.Parts.{op_at, updates_by, steps_by, written_at, declared_as, head_of}
use Rattle.forec_tree.specs.SpelledStatements.{Separated, Targets, Simple, Lengths, Declares, SpellsBound, ForStarts, Tests, ForSteps, HeadParts, Heads}
use Rattle.expr_parser.specs.declared.fault.Fault.{Fault}
use Rattle.expr_parser.specs.declared.fixed.Fixed.TheVariants as fixed
use Rattle.statement_parser.specs.declared.meaning.Change.{Change}
use Rattle.statement_parser.specs.declared.meaning.Change.TheVariants as change
use Rattle.statement_parser.specs.declared.meaning.Act.{Act}
use Rattle.statement_parser.specs.declared.meaning.Act.TheVariants as act
use Rattle.expr_parser.specs.Input.{Input, Parser, kind_ahead}
use Rattle.expr_parser.specs.Meaning.{is_fixed}
use Rattle.statement_parser.specs.Meaning.{update_of, token_step, change_of, act_of}
use Rattle.expr_parser.specs.Reading.{read_expression, separated}
use Rattle.statement_parser.specs.Statements as st
use Rattle.statement_parser.specs.Statements.{op_by}
use Rattle.expr_parser.proofs.Closers.{kind_of}
use Rattle.expr_parser.proofs.Exact.{Lang, Exact, Part, part, Any}
use Rattle.expr_parser.proofs.Leaves as leaf
use Rattle.expr_parser.proofs.Leaves.{token}
use Rattle.expr_parser.proofs.Operators.{ends, ends_ahead, ends_square, ends_assign}
use Rattle.expr_parser.proofs.ExpressionSound.{sound, value_by}
use Rattle.expr_parser.proofs.Viable.{made, Least, Refused, Viable, refused_here, refused_to, bind, map_to, convert, either_on, either_off, done_at}
use Rattle.expr_parser.proofs.ViableLeaves.{part_keeps, token_keeps, token_at, taken_always, a_name, a_number, name_here, number_here, enclosing, commas}
use Rattle.expr_parser.proofs.ViableExpressions as ex
use Rattle.expr_parser.proofs.ViableExpressions.{arguments_part, viable}
use Rattle.statement_parser.proofs.SimpleRules as sr
use Rattle.statement_parser.proofs.SimpleRules.{OpIs, op_is, MaybeIndex, Changes}
use Rattle.statement_parser.proofs.PartRules as pr
use Rattle.statement_parser.proofs.PartRules.{MaybeLength, InitialsBy, Initials}

-- the least operators of assignments
abbrev an_update : Option TokenKind
an_update = Some (kind.Mark mark.AddAssign)

abbrev a_step : Option TokenKind
a_step = Some (kind.Mark mark.PlusPlus)

least_update : {k : Option TokenKind} (v : ℕ) → Least (Part Any (OpIs updates_by)) an_update k v
least_update v = let t = made (kind.Mark mark.AddAssign) in record { value = op_at bin.Add t.place; last = v; tokens = at t v ∷ []; spells = part (op_is bin.Add refl) tt; begins = refl }

least_step : {k : Option TokenKind} (v : ℕ) → Least (Part Any (OpIs steps_by)) a_step k v
least_step v = let t = made (kind.Mark mark.PlusPlus) in record { value = op_at bin.Add t.place; last = v; tokens = at t v ∷ []; spells = part (op_is bin.Add refl) tt; begins = refl }

-- a list of parts with commas between them
pub list_at : {limit low : ℕ} {A : Type 0} {p : Parser A} {R : A → ℕ → List Spelt → Type 0} {Q : Lang A} {b k : Option TokenKind} → Exact limit p (Part Any R) Q → is_fixed fixed.Comma k ≡ false → Viable limit low p (Part Any R) b k
    → Viable limit low (separated p) (Part Any (Separated R)) b k
list_at a n d = convert (λ v w x ls o q. sr.separated_in q) (commas a part_keeps n d)

-- how the initial values of an array begin, and how one value does
abbrev initial_first : Option Number → Option TokenKind
initial_first None = a_number
initial_first (Some n) = Some (kind_of fixed.LeftCurly)

module _ (limit : ℕ) where
  -- ---- operators of assignments

  op_stops : {by : TokenKind → Option Binary} {b k : Option TokenKind} (g : Option TokenKind → Option Binary) → g None ≡ None → (i : Input) (e : Fault) → Least (Part Any (OpIs by)) b k i.level
      → (o : Option Binary) → g (kind_ahead i.rest) ≡ o → op_by o i ≡ Err e → Refused limit (Part Any (OpIs by)) k i e
  op_stops g n i e m None s h = refused_here m (cc)
  op_stops g n i e m (Some op) s h = absurd (taken_always g (λ t. op_at op t.place) i op e n s h)

  update_at : {low : ℕ} {k : Option TokenKind} → Viable limit low st.update (Part Any (OpIs updates_by)) an_update k
  unfolding st.update
  update_at = record { refused = λ i e deep small h. op_stops update_of refl i e (least_update i.level) (update_of (kind_ahead i.rest)) refl h; least = least_update }

  step_at : {low : ℕ} {k : Option TokenKind} → Viable limit low st.step_mark (Part Any (OpIs steps_by)) a_step k
  unfolding st.step_mark
  step_at = record { refused = λ i e deep small h. op_stops token_step refl i e (least_step i.level) (token_step (kind_ahead i.rest)) refl h; least = least_step }

  -- ---- expressions in statements

  views : (low : ℕ) → ex.Views limit low (read_expression limit (suc limit))
  views low = viable limit (suc limit) low (omega arith)

  pub value_at : {low : ℕ} {k : Option TokenKind} → ends k ≡ true → Viable limit low (st.whole_expression limit) (Part Any Whole) a_number k
  unfolding st.whole_expression
  value_at {low} {k} e = ex.value_at limit (read_expression limit (suc limit)) (sound limit (suc limit)) (views low) (ends_ahead k e)

  pub values_at : {low : ℕ} {k : Option TokenKind} → ends k ≡ true → is_fixed fixed.Comma k ≡ false → Viable limit low (st.values limit) (Part Any SpellsExpressions) a_number k
  unfolding st.values st.whole_expression
  values_at e n = convert (λ v w x ls o q. arguments_part q) (commas (value_by limit (read_expression limit (suc limit)) (sound limit (suc limit))) part_keeps n (value_at e))

  pub bracketed_at : {low : ℕ} {k : Option TokenKind} → Viable limit low (st.bracketed_expression limit) (Part Any Brackets) (Some (kind_of fixed.LeftRound)) k
  unfolding st.bracketed_expression
  bracketed_at {low} = ex.bracketed_at limit (read_expression limit (suc limit)) (sound limit (suc limit)) low (views (low + 1))

  indexed_at : {low : ℕ} {k : Option TokenKind} → Viable limit low (st.index_expression limit) (Part Any SpellsIndex) (Some (kind_of fixed.LeftSquare)) k
  unfolding st.index_expression
  indexed_at {low} = ex.indexed_at limit (read_expression limit (suc limit)) (sound limit (suc limit)) low (views (low + 1))

  pub passed_at : {low : ℕ} {k : Option TokenKind} → Viable limit low (st.passed_expressions limit) (Part Any SpellsArguments) (Some (kind_of fixed.LeftRound)) k
  unfolding st.passed_expressions
  passed_at {low} = ex.passed_at limit (read_expression limit (suc limit)) (sound limit (suc limit)) low (views (low + 1))

  -- ---- simple statements

  maybe_index_at : {low : ℕ} {k : Option TokenKind} → is_fixed fixed.LeftSquare k ≡ false → Viable limit low (st.maybe_index limit) (Part Any (MaybeIndex limit)) k k
  unfolding st.maybe_index
  maybe_index_at n = convert (sr.maybe_index_of limit) (either_off fixed.LeftSquare n (map_to (λ x. Some x) indexed_at) (done_at None))

  target_at : {low : ℕ} {k : Option TokenKind} → is_fixed fixed.LeftSquare k ≡ false → Viable limit low (st.target limit) (Part Any Targets) a_name k
  unfolding st.target
  target_at n = convert (sr.target_of limit) (bind (leaf.a_name limit) part_keeps name_here (λ t. map_to (λ x. written_at t x) (maybe_index_at n)))

  set_at : {low : ℕ} {k : Option TokenKind} (to : PlainTarget) → ends k ≡ true → Viable limit low (st.changed_by limit change.Sets to) (Part Any (Changes limit to)) (Some (kind_of fixed.Assign)) k
  set_at to e = convert (λ v w x ls o q. sr.set_of limit q) (bind (token limit fixed.Assign) token_keeps (token_at fixed.Assign) (λ _. map_to (λ x. plain.Assign to.name.place to None x) (value_at e)))

  changed_stops : {low : ℕ} {k : Option TokenKind} (to : PlainTarget) → ends k ≡ true → (c : Change) (i : Input) (e : Fault) → low ≤ i.level → i.level ≤ limit → st.changed_by limit c to i ≡ Err e → Refused limit (Part Any (Changes limit to)) k i e
  changed_stops to n change.Sets i e deep small h = (set_at to n).refused i e deep small h
  changed_stops {low} to n change.Updates i e deep small h =
      refused_to (λ v w x ls o q. sr.updated_of limit q) ((bind {low = low} (sr.an_update limit) part_keeps update_at (λ op. map_to (λ x. plain.Assign to.name.place to (Some op) x) (value_at n))).refused i e deep small h)
  changed_stops {low} to n change.Increments i e deep small h = refused_to (λ v w x ls o q. sr.moved_of limit q) ((map_to {low = low} (sr.stepping_to limit to) step_at).refused i e deep small h)
  changed_stops {low} to n change.Nothing i e deep small h = refused_here ((set_at {low = low} to n).least i.level) (cc)

  changed_at : {low : ℕ} {k : Option TokenKind} (to : PlainTarget) → ends k ≡ true → Viable limit low (st.changed limit to) (Part Any (Changes limit to)) (Some (kind_of fixed.Assign)) k
  unfolding st.changed
  changed_at {low} to n = record { refused = λ i e deep small h. changed_stops to n (change_of (kind_ahead i.rest)) i e deep small h; least = (set_at {low = low} to n).least }

  named_at : {low : ℕ} {k : Option TokenKind} → ends k ≡ true → Viable limit low (st.named_statement limit) (Part Any Simple) a_name k
  unfolding st.named_statement st.invoked st.assign_statement
  named_at e = convert (λ v w x ls o q. sr.named_of limit q)
      (bind (leaf.a_name limit) part_keeps name_here (λ n. either_off fixed.LeftRound refl (map_to (λ args. plain.Invoke n.place n (listed args)) passed_at)
      (bind (sr.maybe_index_by limit) part_keeps (maybe_index_at refl) (λ index. changed_at (written_at n index) e))))

  stepped_at : {low : ℕ} {k : Option TokenKind} → ends k ≡ true → Viable limit low (st.stepped limit) (Part Any Simple) a_step k
  unfolding st.stepped
  stepped_at {k = k} e = convert (λ v w x ls o q. sr.stepped_of limit q) (bind (sr.a_step limit) part_keeps step_at (λ op. map_to (sr.stepped_to limit op) (target_at (ends_square k e))))

  simple_stops : {low : ℕ} {k : Option TokenKind} → ends k ≡ true → (a : Act) (i : Input) (e : Fault) → low ≤ i.level → i.level ≤ limit → st.simple_by limit a i ≡ Err e → Refused limit (Part Any Simple) k i e
  simple_stops n act.Named i e deep small h = (named_at n).refused i e deep small h
  simple_stops n act.Increments i e deep small h = (stepped_at n).refused i e deep small h
  simple_stops {low} n act.Nothing i e deep small h = refused_here ((named_at {low = low} n).least i.level) (cc)

  pub simple_at : {low : ℕ} {k : Option TokenKind} → ends k ≡ true → Viable limit low (st.simple limit) (Part Any Simple) a_name k
  unfolding st.simple
  simple_at {low} n = record { refused = λ i e deep small h. simple_stops n (act_of (kind_ahead i.rest)) i e deep small h; least = (named_at {low = low} n).least }

  -- ---- declarators

  length_at : {low : ℕ} {k : Option TokenKind} → Viable limit low (st.length_part limit) (Part Any Lengths) (Some (kind_of fixed.LeftSquare)) k
  unfolding st.length_part
  length_at = convert (pr.length_of limit) (enclosing fixed.LeftSquare fixed.RightSquare (λ _ n. n) (leaf.a_number limit) part_keeps number_here)

  pub maybe_length_at : {low : ℕ} {k : Option TokenKind} → is_fixed fixed.LeftSquare k ≡ false → Viable limit low (st.maybe_length limit) (Part Any (MaybeLength limit)) k k
  unfolding st.maybe_length
  maybe_length_at n = convert (pr.maybe_length_of limit) (either_off fixed.LeftSquare n (map_to (λ x. Some x) length_at) (done_at None))

  braced_at : {low : ℕ} {k : Option TokenKind} → Viable limit low (st.listed_values limit) (Part Any (pr.Braced limit)) (Some (kind_of fixed.LeftCurly)) k
  unfolding st.listed_values
  braced_at = convert (pr.braced_of limit) (enclosing fixed.LeftCurly fixed.RightCurly (λ _ xs. xs) (sr.values_by limit) part_keeps (values_at refl refl))

  initial_by_at : {low : ℕ} {k : Option TokenKind} → ends k ≡ true → (length : Option Number) → Viable limit low (st.initial_by limit length) (Part Any (InitialsBy limit length)) (initial_first length) k
  initial_by_at e None = convert (λ v w x ls o q. pr.initial_one limit q) (map_to (λ y. y ∷ []) (value_at e))
  initial_by_at e (Some n) = convert (λ v w x ls o q. pr.initial_list limit q) braced_at

  initial_at : {low : ℕ} {k : Option TokenKind} (length : Option Number) → ends k ≡ true → Viable limit low (st.initial limit length) (Part Any (Initials limit length)) k k
  unfolding st.initial
  initial_at {k = k} length e = convert (pr.initial_of limit length)
      (either_off fixed.Assign (ends_assign k e) (bind (token limit fixed.Assign) token_keeps (token_at fixed.Assign) (λ _. initial_by_at e length)) (done_at []))

  pub local_at : {low : ℕ} {k : Option TokenKind} → ends k ≡ true → Viable limit low (st.local limit) (Part Any Declares) a_name k
  unfolding st.local
  local_at {k = k} e = convert (pr.local_of limit)
      (bind (leaf.a_name limit) part_keeps name_here (λ n. bind (pr.maybe_length_by limit) part_keeps (maybe_length_at (ends_square k e)) (λ length. map_to (λ found. declared_as n length found) (initial_at length e))))

  -- ---- loops

  pub bound_at : {low : ℕ} {k : Option TokenKind} → is_fixed fixed.Hash k ≡ false → Viable limit low (st.bound limit) (Part Any SpellsBound) k k
  unfolding st.bound
  bound_at n = convert (pr.bound_of limit) (either_off fixed.Hash n (map_to (λ x. Some x) (bind (token limit fixed.Hash) token_keeps (token_at fixed.Hash) (λ _. number_here))) (done_at None))

  first_local_at : {low : ℕ} → Viable limit low (st.first_local limit) (pr.FirstLocal limit (Part Any Whole)) (Some (kind_of fixed.Int)) (Some (kind_of fixed.Semicolon))
  unfolding st.first_local
  first_local_at = bind (token limit fixed.Int) token_keeps (token_at fixed.Int) (λ int. bind (leaf.a_name limit) part_keeps name_here (λ n.
      bind (token limit fixed.Assign) token_keeps (token_at fixed.Assign) (λ _. map_to (pr.first_declared limit int n) (value_at refl))))

  start_at : {low : ℕ} → Viable limit low (st.start_part limit) (Part Any ForStarts) (Some (kind_of fixed.Semicolon)) (Some (kind_of fixed.Semicolon))
  unfolding st.start_part st.some_start
  start_at = convert (pr.starts_of limit) (either_on fixed.Semicolon refl (done_at absent) (either_off fixed.Int refl first_local_at (map_to (λ x. present x) (simple_at refl))))

  test_at : {low : ℕ} → Viable limit low (st.loop_test limit) (Part Any Tests) (Some (kind_of fixed.Semicolon)) (Some (kind_of fixed.Semicolon))
  unfolding st.loop_test
  test_at = convert (pr.tests_of limit) (either_on fixed.Semicolon refl (done_at None) (map_to (λ x. Some x) (value_at refl)))

  last_step_at : {low : ℕ} → Viable limit low (st.step_part limit) (Part Any ForSteps) (Some (kind_of fixed.RightRound)) (Some (kind_of fixed.RightRound))
  unfolding st.step_part
  last_step_at = convert (pr.steps_of limit) (either_on fixed.RightRound refl (done_at absent) (map_to (λ x. present x) (simple_at refl)))

  head_parts_at : {low : ℕ} → Viable limit low (st.head_parts limit) (Part Any HeadParts) (Some (kind_of fixed.Semicolon)) (Some (kind_of fixed.RightRound))
  unfolding st.head_parts
  head_parts_at = convert (pr.head_parts_of limit)
      (bind (pr.start_by limit) part_keeps start_at (λ first. bind (token limit fixed.Semicolon) token_keeps (token_at fixed.Semicolon) (λ _.
      bind (pr.test_by limit) part_keeps test_at (λ second. bind (token limit fixed.Semicolon) token_keeps (token_at fixed.Semicolon) (λ _. map_to (λ third. head_of first second third) last_step_at)))))

  pub head_at : {low : ℕ} {k : Option TokenKind} → Viable limit low (st.head limit) (Part Any Heads) (Some (kind_of fixed.LeftRound)) k
  unfolding st.head
  head_at = convert (pr.heads_of limit) (enclosing fixed.LeftRound fixed.RightRound (λ _ h. h) (pr.head_parts_by limit) part_keeps head_parts_at)
