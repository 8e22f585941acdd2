-- What statements are made of that hold no statements in them: what is read, both ways.
use mathlib.Core.Path.{subst}
use Rattle.std.proofs.Common.{◌≡◌, ℕ, pos, suc, ◌≤◌, true, false, List, [], ◌∷◌, ◌++◌, Option, Some, None, Ok, refl, sym, ◌∙◌, ap, arith}
use Rattle.forec_base.specs.declared.operators.Binary.{Binary}
use Rattle.forec_tree.specs.declared.token.Token.{Token}
use Rattle.forec_tree.specs.declared.token.TokenKind.{TokenKind}
use Rattle.forec_tree.specs.declared.token.TokenKind.TheVariants as kind
use Rattle.forec_tree.specs.declared.token.Mark.TheVariants as mark
use Rattle.forec_tree.specs.declared.tree.OpAt.{OpAt}
use Rattle.forec_tree.specs.Terms as plain
use Rattle.forec_tree.specs.Terms.{Term, PlainTarget, Statement}
use Rattle.forec_tree.specs.Spelling.{Spelt, at, IsMark, IsNameToken, name_at, listed, Whole, Brackets, SpellsIndex, SpellsArguments, SpellsExpressions}
use Rattle.forec_tree.specs.Parts.{op_at, updates_by, steps_by, written_at}
use Rattle.forec_tree.specs.SpelledStatements.{IsUpdate, IsStep, Separated, last_part, next_part, Targets, scalar, indexed, Simple, sets, updates, steps_after, steps_ahead, invokes}
use Rattle.expr_parser.specs.declared.fixed.Fixed.TheVariants as fixed
use Rattle.statement_parser.specs.declared.meaning.Change.{Change}
use Rattle.statement_parser.specs.declared.meaning.Change.TheVariants as change
use Rattle.statement_parser.specs.declared.meaning.Act.{Act}
use Rattle.statement_parser.specs.declared.meaning.Act.TheVariants as act
use Rattle.expr_parser.specs.Input.{Input, Parser, kind_ahead, take}
use Rattle.expr_parser.specs.Meaning.{is_fixed}
use Rattle.statement_parser.specs.Meaning.{update_of, token_step, change_of, act_of}
use Rattle.expr_parser.specs.Reading as reading
use Rattle.expr_parser.specs.Reading.{read_expression, separated}
use Rattle.statement_parser.specs.Statements as st
use Rattle.statement_parser.specs.Statements.{op_by}
use Rattle.expr_parser.proofs.Spans.{first, first-append, step, ok_pair, took, take_ok}
use Rattle.expr_parser.proofs.Exact.{Lang, Read, Exact, Bind, both, Map, mapped, Done, done, If, on, off, Part, part, Reading, reading, Any, comes, bind, map_to, convert, either, done_at, by_reading, read_as, reads_by, read_at}
use Rattle.expr_parser.proofs.Leaves.{Tok, tok, NameIs, name_is, token, a_name, Listed, end_of_list, next_of_list, full_commas, Full, full, Filled}
use Rattle.expr_parser.proofs.Operators.{ends, ends_square}
use Rattle.expr_parser.proofs.ExpressionSound.{sound, value_by, bracketed_by, indexed_by, passed_by}
use Rattle.expr_parser.proofs.ViableExpressions.{arguments_part}
use Rattle.expr_parser.proofs.ExpressionComplete.{complete_whole, complete_brackets, complete_indexes, complete_passes, complete_arguments, indexes_first, passes_first}
use Rattle.statement_parser.proofs.Marks.{update_changes, step_changes, step_acts, update_square, update_round, step_square, step_round, acts_first, step_first}

-- ---- lists with commas

next_in : {A : Type 0} {R : A → ℕ → List Spelt → Type 0} {v w : ℕ} {x : A} {xs : List A} {rs : List Spelt} {k : Option TokenKind} (ls : List Spelt) (comma : Token) → R x v ls → IsMark mark.Comma comma
    → Part Any (Separated R) v xs w rs k → Part Any (Separated R) v (x ∷ xs) w (ls ++ (at comma v ∷ rs)) k
next_in ls comma s h (part r c) = part (next_part comma s h r) tt

pub separated_in : {A : Type 0} {R : A → ℕ → List Spelt → Type 0} {v w : ℕ} {xs : List A} {ls : List Spelt} {k : Option TokenKind} → Listed (Part Any R) v xs w ls k → Part Any (Separated R) v xs w ls k
separated_in (end_of_list (part s c) e) = part (last_part s) tt
separated_in (next_of_list comma {ls = ls} (part s c) h rest) = next_in ls comma s h (separated_in rest)

pub a_list : {limit : ℕ} {A : Type 0} {p : Parser A} {R : A → ℕ → List Spelt → Type 0} {Q : Lang A} → Exact limit p (Part Any R) Q → Exact limit (separated p) (Part Any (Separated R)) (Listed (Full Q))
a_list a = convert (λ v w x ls k q. separated_in q) (λ v w x ls k q. q) (full_commas a)

comma_ends : (t : Token) → IsMark mark.Comma t → ends (Some t.kind) ≡ true
comma_ends t h = rw h

-- a list whose parts are read where what ends an expression stands after
pub list_reads : {limit : ℕ} {A : Type 0} {p : Parser A} {R : A → ℕ → List Spelt → Type 0} {v : ℕ} {xs : List A} {ls : List Spelt} {k : Option TokenKind}
    → ((x : A) (ls : List Spelt) (k : Option TokenKind) → R x v ls → ends k ≡ true → Reading limit p v x v ls k) → ((x : A) (ls : List Spelt) → R x v ls → Filled ls)
    → Separated R xs v ls → ends k ≡ true → is_fixed fixed.Comma k ≡ false → Listed (Full (Reading limit p)) v xs v ls k
list_reads {k = k} f g (last_part {x = x} {ls = ls} s) e n = end_of_list (full (f x ls k s e) (g x ls s)) n
list_reads f g (next_part {x = x} comma {ls = ls} s h r) e n = next_of_list comma (full (f x ls (Some comma.kind) s (comma_ends comma h)) (g x ls s)) h (list_reads f g r e n)

-- ---- operators of assignments

pub data OpIs (by : TokenKind → Option Binary) : OpAt → ℕ → List Spelt → Type 0 where
  op_is : {v : ℕ} {t : Token} (op : Binary) → by t.kind ≡ Some op → OpIs by (op_at op t.place) v (at t v ∷ [])

module _ (limit : ℕ) where
  op_read : (by : TokenKind → Option Binary) (op : Binary) (i j : Input) (n : OpAt) → i.level ≤ limit → ((t : Token) (ts : List Token) → i.rest ≡ t ∷ ts → by t.kind ≡ Some op)
      → op_by (Some op) i ≡ Ok (n, j) → Read limit (Part Any (OpIs by)) n i j
  op_read by op i j n small is h =
      let a = step (take i) (λ t k. Ok (op_at op t.place, k)) (n, j) h in
      let t = took i.rest i.level a.value a.state a.was in
      let e = ok_pair (op_at op a.value.place) n a.state j a.goes in
      let so : by a.value.kind ≡ Some op = is a.value a.state.rest t.front in
      let R : ℕ → Type 0 = λ z. Part Any (OpIs by) i.level (op_at op a.value.place) z (at a.value i.level ∷ []) (kind_ahead a.state.rest) in
      let made : Read limit (Part Any (OpIs by)) (op_at op a.value.place) i a.state =
      record { spelt = at a.value i.level ∷ []; front = t.front; spells = subst R (sym t.level) (part (op_is op so) tt); within = (small, tt); small = omega (arith, t.level) } in
      let S : Input → Type 0 = λ z. Read limit (Part Any (OpIs by)) (op_at op a.value.place) i z in
      let T : OpAt → Type 0 = λ z. Read limit (Part Any (OpIs by)) z i j in
      subst T e.0 (subst S e.1 made)

  some_op : (o : Option Binary) (op : Binary) → o ≡ Some op → (q : Option Binary) → q ≡ o → q ≡ Some op
  some_op o op e q f = f ∙ e

  update_by : (i j : Input) (n : OpAt) → i.level ≤ limit → (o : Option Binary) → update_of (kind_ahead i.rest) ≡ o → op_by o i ≡ Ok (n, j) → Read limit (Part Any (OpIs updates_by)) n i j
  update_by i j n small None e h = absurd (cc)
  update_by i j n small (Some op) e h = op_read updates_by op i j n small (λ t ts f. sym (ap (λ z. update_of (kind_ahead z)) f) ∙ e) h

  step_by : (i j : Input) (n : OpAt) → i.level ≤ limit → (o : Option Binary) → token_step (kind_ahead i.rest) ≡ o → op_by o i ≡ Ok (n, j) → Read limit (Part Any (OpIs steps_by)) n i j
  step_by i j n small None e h = absurd (cc)
  step_by i j n small (Some op) e h = op_read steps_by op i j n small (λ t ts f. sym (ap (λ z. token_step (kind_ahead z)) f) ∙ e) h

  pub an_update : Exact limit st.update (Part Any (OpIs updates_by)) (Reading limit st.update)
  unfolding st.update
  an_update = by_reading (λ i j n small h. update_by i j n small (update_of (kind_ahead i.rest)) refl h)

  pub a_step : Exact limit st.step_mark (Part Any (OpIs steps_by)) (Reading limit st.step_mark)
  unfolding st.step_mark
  a_step = by_reading (λ i j n small h. step_by i j n small (token_step (kind_ahead i.rest)) refl h)

  update_reads : {v : ℕ} {n : OpAt} {ls : List Spelt} {k : Option TokenKind} → OpIs updates_by n v ls → Reading limit st.update v n v ls k
  unfolding st.update
  update_reads (op_is {v} {t} op h) = reading (λ rest e. let f : update_of (Some t.kind) ≡ Some op = h in rw (f, take_ok) comes)

  step_reads : {v : ℕ} {n : OpAt} {ls : List Spelt} {k : Option TokenKind} → OpIs steps_by n v ls → Reading limit st.step_mark v n v ls k
  unfolding st.step_mark
  step_reads (op_is {v} {t} op h) = reading (λ rest e. let f : token_step (Some t.kind) ≡ Some op = h in rw (f, take_ok) comes)

  -- ---- expressions in statements

  pub a_value : Exact limit (st.whole_expression limit) (Part Any Whole) (Reading limit (st.whole_expression limit))
  unfolding st.whole_expression
  a_value = value_by limit (read_expression limit (suc limit)) (sound limit (suc limit))

  pub value_reads : {v : ℕ} {x : Term} {ls : List Spelt} {k : Option TokenKind} → Whole x v ls → v ≤ limit → ends k ≡ true → Reading limit (st.whole_expression limit) v x v ls k
  unfolding st.whole_expression
  value_reads {k = k} s small e = complete_whole limit s (suc limit) k small (omega arith) e

  some_values : Exact limit (st.values limit) (Part Any SpellsExpressions) (Listed (Full (Reading limit (reading.value limit (read_expression limit (suc limit))))))
  unfolding st.values
  some_values = convert (λ v w x ls k q. arguments_part q) (λ v w x ls k q. q) (full_commas (value_by limit (read_expression limit (suc limit)) (sound limit (suc limit))))

  pub values_by : Exact limit (st.values limit) (Part Any SpellsExpressions) (Reading limit (st.values limit))
  values_by = by_reading some_values.sound

  pub values_read : {v : ℕ} {xs : List Term} {ls : List Spelt} {k : Option TokenKind} → SpellsExpressions xs v ls → v ≤ limit → ends k ≡ true → is_fixed fixed.Comma k ≡ false → Reading limit (st.values limit) v xs v ls k
  values_read {k = k} s small e n = reads_by some_values (complete_arguments limit s (suc limit) k small (omega arith) e n)

  pub a_bracketed : Exact limit (st.bracketed_expression limit) (Part Any Brackets) (Reading limit (st.bracketed_expression limit))
  unfolding st.bracketed_expression
  a_bracketed = bracketed_by limit (read_expression limit (suc limit)) (sound limit (suc limit))

  pub bracketed_reads : {v : ℕ} {x : Term} {ls : List Spelt} {k : Option TokenKind} → Brackets x v ls → Reading limit (st.bracketed_expression limit) v x v ls k
  unfolding st.bracketed_expression
  bracketed_reads {k = k} s = complete_brackets limit s (suc limit) k (omega arith)

  pub an_indexed : Exact limit (st.index_expression limit) (Part Any SpellsIndex) (Reading limit (st.index_expression limit))
  unfolding st.index_expression
  an_indexed = indexed_by limit (read_expression limit (suc limit)) (sound limit (suc limit))

  indexed_reads : {v : ℕ} {x : Term} {ls : List Spelt} {k : Option TokenKind} → SpellsIndex x v ls → Reading limit (st.index_expression limit) v x v ls k
  unfolding st.index_expression
  indexed_reads {k = k} s = complete_indexes limit s (suc limit) k (omega arith)

  pub a_passed : Exact limit (st.passed_expressions limit) (Part Any SpellsArguments) (Reading limit (st.passed_expressions limit))
  unfolding st.passed_expressions
  a_passed = passed_by limit (read_expression limit (suc limit)) (sound limit (suc limit))

  pub passed_reads : {v : ℕ} {xs : List Term} {ls : List Spelt} {k : Option TokenKind} → SpellsArguments xs v ls → Reading limit (st.passed_expressions limit) v xs v ls k
  unfolding st.passed_expressions
  passed_reads {k = k} s = complete_passes limit s (suc limit) k (omega arith)

  -- ---- targets

  pub data MaybeIndex : Option Term → ℕ → List Spelt → Type 0 where
    some_index : {v : ℕ} {x : Term} {ls : List Spelt} → SpellsIndex x v ls → MaybeIndex (Some x) v ls
    no_index : {v : ℕ} → MaybeIndex None v []

  pub maybe_index_of : (v w : ℕ) (x : Option Term) (ls : List Spelt) (k : Option TokenKind) → If fixed.LeftSquare (Map (λ x. Some x) (Part Any SpellsIndex)) (Done None) v x w ls k → Part Any MaybeIndex v x w ls k
  maybe_index_of v w x ls k (on e (mapped (part s c))) = part (some_index s) tt
  maybe_index_of v w x ls k (off e done) = part no_index tt

  a_maybe_index : Exact limit (st.maybe_index limit) (Part Any MaybeIndex) (If fixed.LeftSquare (Map (λ x. Some x) (Reading limit (st.index_expression limit))) (Done None))
  unfolding st.maybe_index
  a_maybe_index = convert maybe_index_of (λ v w x ls k q. q) (either fixed.LeftSquare (map_to (λ x. Some x) an_indexed) (done_at None))

  pub maybe_index_by : Exact limit (st.maybe_index limit) (Part Any MaybeIndex) (Reading limit (st.maybe_index limit))
  maybe_index_by = by_reading a_maybe_index.sound

  maybe_index_reads : {v : ℕ} {x : Option Term} {ls : List Spelt} {k : Option TokenKind} → MaybeIndex x v ls → is_fixed fixed.LeftSquare k ≡ false → Reading limit (st.maybe_index limit) v x v ls k
  maybe_index_reads {k = k} (some_index s) n = reads_by a_maybe_index (on (ap (is_fixed fixed.LeftSquare) (indexes_first s k)) (mapped (indexed_reads s)))
  maybe_index_reads no_index n = reads_by a_maybe_index (off n done)

  pub target_of : (v w : ℕ) (x : PlainTarget) (ls : List Spelt) (k : Option TokenKind) → Bind (Part Any NameIs) (λ n. Map (λ x. written_at n x) (Part Any MaybeIndex)) v x w ls k → Part Any Targets v x w ls k
  target_of v w x ls k (both (part (name_is id h) c) (mapped (part (some_index s) d))) = part (indexed id h s) tt
  target_of v w x ls k (both (part (name_is id h) c) (mapped (part no_index d))) = part (scalar id h) tt

  a_target : Exact limit (st.target limit) (Part Any Targets) (Bind (Part Any NameIs) (λ n. Map (λ x. written_at n x) (Reading limit (st.maybe_index limit))))
  unfolding st.target
  a_target = convert target_of (λ v w x ls k q. q) (bind (a_name limit) (λ n. map_to (λ x. written_at n x) maybe_index_by))

  pub target_by : Exact limit (st.target limit) (Part Any Targets) (Reading limit (st.target limit))
  target_by = by_reading a_target.sound

  target_reads : {v : ℕ} {x : PlainTarget} {ls : List Spelt} {k : Option TokenKind} → Targets x v ls → is_fixed fixed.LeftSquare k ≡ false → Reading limit (st.target limit) v x v ls k
  target_reads (scalar id h) n = reads_by a_target (both (part (name_is id h) tt) (mapped (maybe_index_reads no_index n)))
  target_reads (indexed id h s) n = reads_by a_target (both (part (name_is id h) tt) (mapped (maybe_index_reads (some_index s) n)))

  -- ---- changes

  pub data Changes (target : PlainTarget) : Statement → ℕ → List Spelt → Type 0 where
    by_set : {v : ℕ} {t : Token} {x : Term} {ls : List Spelt} → IsMark mark.Assign t → Whole x v ls → Changes target (plain.Assign target.name.place target None x) v (at t v ∷ ls)
    by_update : {v : ℕ} {t : Token} {x : Term} {ls : List Spelt} (op : Binary) → IsUpdate op t → Whole x v ls → Changes target (plain.Assign target.name.place target (Some (op_at op t.place)) x) v (at t v ∷ ls)
    by_step : {v : ℕ} {t : Token} (op : Binary) → IsStep op t → Changes target (plain.Assign target.name.place target (Some (op_at op t.place)) (plain.Num t.place (pos 1))) v (at t v ∷ [])

  setting : (target : PlainTarget) → Exact limit (st.changed_by limit change.Sets target) (Bind (Tok fixed.Assign) (λ _. Map (λ x. plain.Assign target.name.place target None x) (Part Any Whole)))
      (Bind (Tok fixed.Assign) (λ _. Map (λ x. plain.Assign target.name.place target None x) (Reading limit (st.whole_expression limit))))
  setting target = bind (token limit fixed.Assign) (λ _. map_to (λ x. plain.Assign target.name.place target None x) a_value)

  updating : (target : PlainTarget) → Exact limit (st.changed_by limit change.Updates target) (Bind (Part Any (OpIs updates_by)) (λ op. Map (λ x. plain.Assign target.name.place target (Some op) x) (Part Any Whole)))
      (Bind (Reading limit st.update) (λ op. Map (λ x. plain.Assign target.name.place target (Some op) x) (Reading limit (st.whole_expression limit))))
  updating target = bind an_update (λ op. map_to (λ x. plain.Assign target.name.place target (Some op) x) a_value)

  abbrev pub stepping_to : PlainTarget → OpAt → Statement
  stepping_to target op = plain.Assign target.name.place target (Some op) (plain.Num op.place (pos 1))

  stepping : (target : PlainTarget) → Exact limit (st.changed_by limit change.Increments target) (Map (stepping_to target) (Part Any (OpIs steps_by))) (Map (stepping_to target) (Reading limit st.step_mark))
  stepping target = map_to (stepping_to target) a_step

  pub set_of : {target : PlainTarget} {v w : ℕ} {y : Statement} {ls : List Spelt} {k : Option TokenKind} → Bind (Tok fixed.Assign) (λ _. Map (λ x. plain.Assign target.name.place target None x) (Part Any Whole)) v y w ls k → Part Any (Changes target) v y w ls k
  set_of (both (tok h) (mapped (part s c))) = part (by_set h s) tt

  pub updated_of : {target : PlainTarget} {v w : ℕ} {y : Statement} {ls : List Spelt} {k : Option TokenKind} → Bind (Part Any (OpIs updates_by)) (λ op. Map (λ x. plain.Assign target.name.place target (Some op) x) (Part Any Whole)) v y w ls k → Part Any (Changes target) v y w ls k
  updated_of (both (part (op_is op h) c) (mapped (part s d))) = part (by_update op h s) tt

  pub moved_of : {target : PlainTarget} {v w : ℕ} {y : Statement} {ls : List Spelt} {k : Option TokenKind} → Map (stepping_to target) (Part Any (OpIs steps_by)) v y w ls k → Part Any (Changes target) v y w ls k
  moved_of (mapped (part (op_is op h) c)) = part (by_step op h) tt

  changes_of : (target : PlainTarget) (c : Change) (i j : Input) (x : Statement) → i.level ≤ limit → st.changed_by limit c target i ≡ Ok (x, j) → Read limit (Part Any (Changes target)) x i j
  changes_of target change.Sets i j x small h = read_as ((setting target).sound i j x small h) (λ ls e q. set_of q)
  changes_of target change.Updates i j x small h = read_as ((updating target).sound i j x small h) (λ ls e q. updated_of q)
  changes_of target change.Increments i j x small h = read_as ((stepping target).sound i j x small h) (λ ls e q. moved_of q)
  changes_of target change.Nothing i j x small h = absurd (cc)

  pub changed_by : (target : PlainTarget) → Exact limit (st.changed limit target) (Part Any (Changes target)) (Reading limit (st.changed limit target))
  unfolding st.changed
  changed_by target = by_reading (λ i j x small h. changes_of target (change_of (kind_ahead i.rest)) i j x small h)

  set_reads : {target : PlainTarget} {v : ℕ} {t : Token} {x : Term} {ls : List Spelt} {k : Option TokenKind} → IsMark mark.Assign t → Whole x v ls → v ≤ limit → ends k ≡ true
      → Reading limit (st.changed limit target) v (plain.Assign target.name.place target None x) v (at t v ∷ ls) k
  unfolding st.changed
  set_reads {target} {v} {t} {x} {ls} {k} h s small n = reading (λ rest e.
      let c : change_of (Some t.kind) ≡ change.Sets = rw h in
      rw c (read_at (reads_by (setting target) (both (tok h) (mapped (value_reads s small n)))) rest e))

  update_changed : {target : PlainTarget} {v : ℕ} {t : Token} {x : Term} {ls : List Spelt} {k : Option TokenKind} (op : Binary) → IsUpdate op t → Whole x v ls → v ≤ limit → ends k ≡ true
      → Reading limit (st.changed limit target) v (plain.Assign target.name.place target (Some (op_at op t.place)) x) v (at t v ∷ ls) k
  unfolding st.changed
  update_changed {target} {v} {t} {x} {ls} {k} op h s small n = reading (λ rest e.
      let c : change_of (Some t.kind) ≡ change.Updates = update_changes t.kind op h in
      rw c (read_at (reads_by (updating target) (both (update_reads (op_is op h)) (mapped (value_reads s small n)))) rest e))

  step_changed : {target : PlainTarget} {v : ℕ} {t : Token} {k : Option TokenKind} (op : Binary) → IsStep op t
      → Reading limit (st.changed limit target) v (plain.Assign target.name.place target (Some (op_at op t.place)) (plain.Num t.place (pos 1))) v (at t v ∷ []) k
  unfolding st.changed
  step_changed {target} {v} {t} {k} op h = reading (λ rest e.
      let c : change_of (Some t.kind) ≡ change.Increments = step_changes t.kind op h in
      rw c (read_at (reads_by (stepping target) (mapped (step_reads (op_is op h)))) rest e))

  -- ---- simple statements

  abbrev pub Named : Lang (List Term) → Lang (Option Term) → (PlainTarget → Lang Statement) → Lang Statement
  Named P I C = Bind (Part Any NameIs) (λ n. If fixed.LeftRound (Map (λ args. plain.Invoke n.place n (listed args)) P) (Bind I (λ index. C (written_at n index))))

  a_named : Exact limit (st.named_statement limit) (Named (Part Any SpellsArguments) (Part Any MaybeIndex) (λ w. Part Any (Changes w)))
      (Named (Reading limit (st.passed_expressions limit)) (Reading limit (st.maybe_index limit)) (λ w. Reading limit (st.changed limit w)))
  unfolding st.named_statement st.invoked st.assign_statement
  a_named = bind (a_name limit) (λ n. either fixed.LeftRound (map_to (λ args. plain.Invoke n.place n (listed args)) a_passed) (bind maybe_index_by (λ index. changed_by (written_at n index))))

  pub named_of : {v w : ℕ} {x : Statement} {ls : List Spelt} {k : Option TokenKind} → Named (Part Any SpellsArguments) (Part Any MaybeIndex) (λ w. Part Any (Changes w)) v x w ls k → Part Any Simple v x w ls k
  named_of (both (part (name_is id h) c) (on e (mapped (part s d)))) = part (invokes id h s) tt
  named_of (both (part (name_is id h) c) (off e (both (part no_index d) (part (by_set m s) f)))) = part (sets _ (scalar id h) m s) tt
  named_of (both (part (name_is id h) c) (off e (both (part no_index d) (part (by_update op m s) f)))) = part (updates _ op (scalar id h) m s) tt
  named_of (both (part (name_is id h) c) (off e (both (part no_index d) (part (by_step op m) f)))) = part (steps_after _ op (scalar id h) m) tt
  named_of (both (part (name_is id h) c) (off e (both (part (some_index r) d) (part (by_set m s) f)))) = part (sets _ (indexed id h r) m s) tt
  named_of (both (part (name_is id h) c) (off e (both (part (some_index r) d) (part (by_update op m s) f)))) = part (updates _ op (indexed id h r) m s) tt
  named_of (both (part (name_is id h) c) (off e (both (part (some_index r) d) (part (by_step op m) f)))) = part (steps_after _ op (indexed id h r) m) tt

  abbrev pub stepped_to : OpAt → PlainTarget → Statement
  stepped_to op target = plain.Assign op.place target (Some op) (plain.Num op.place (pos 1))

  a_stepped : Exact limit (st.stepped limit) (Bind (Part Any (OpIs steps_by)) (λ op. Map (stepped_to op) (Part Any Targets))) (Bind (Reading limit st.step_mark) (λ op. Map (stepped_to op) (Reading limit (st.target limit))))
  unfolding st.stepped
  a_stepped = bind a_step (λ op. map_to (stepped_to op) target_by)

  pub stepped_of : {v w : ℕ} {x : Statement} {ls : List Spelt} {k : Option TokenKind} → Bind (Part Any (OpIs steps_by)) (λ op. Map (stepped_to op) (Part Any Targets)) v x w ls k → Part Any Simple v x w ls k
  stepped_of (both (part (op_is op h) c) (mapped (part s d))) = part (steps_ahead op h s) tt

  simple_of : (a : Act) (i j : Input) (x : Statement) → i.level ≤ limit → st.simple_by limit a i ≡ Ok (x, j) → Read limit (Part Any Simple) x i j
  simple_of act.Named i j x small h = read_as (a_named.sound i j x small h) (λ ls e q. named_of q)
  simple_of act.Increments i j x small h = read_as (a_stepped.sound i j x small h) (λ ls e q. stepped_of q)
  simple_of act.Nothing i j x small h = absurd (cc)

  pub a_simple : Exact limit (st.simple limit) (Part Any Simple) (Reading limit (st.simple limit))
  unfolding st.simple
  a_simple = by_reading (λ i j x small h. simple_of (act_of (kind_ahead i.rest)) i j x small h)

  by_name : {v : ℕ} {x : Statement} {ls : List Spelt} {k : Option TokenKind} {t : Token} (id : ℕ) → IsNameToken id t
      → If fixed.LeftRound (Map (λ args. plain.Invoke t.place (name_at id t.place) (listed args)) (Reading limit (st.passed_expressions limit)))
      (Bind (Reading limit (st.maybe_index limit)) (λ index. Reading limit (st.changed limit (written_at (name_at id t.place) index)))) v x v ls k
      → Reading limit (st.simple limit) v x v (at t v ∷ ls) k
  unfolding st.simple
  by_name {v} {x} {ls} {k} {t} id h q = reading (λ rest e.
      let c : act_of (Some t.kind) ≡ act.Named = rw h in
      rw c (read_at (reads_by a_named (both (part (name_is id h) tt) q)) rest e))

  scalar_changed : {v : ℕ} {x : Statement} {ls : List Spelt} {k : Option TokenKind} {t : Token} (id : ℕ) → IsNameToken id t
      → is_fixed fixed.LeftRound (first ls k) ≡ false → is_fixed fixed.LeftSquare (first ls k) ≡ false → Reading limit (st.changed limit (written_at (name_at id t.place) None)) v x v ls k
      → Reading limit (st.simple limit) v x v (at t v ∷ ls) k
  scalar_changed id h a b r = by_name id h (off a (both (maybe_index_reads no_index b) r))

  square_round : (o : Option TokenKind) → o ≡ Some (kind.Mark mark.LeftSquare) → is_fixed fixed.LeftRound o ≡ false
  square_round o e = ap (is_fixed fixed.LeftRound) e

  index_changed : {v : ℕ} {x : Statement} {index : Term} {ls rs : List Spelt} {k : Option TokenKind} {t : Token} (id : ℕ) → IsNameToken id t → SpellsIndex index v ls
      → is_fixed fixed.LeftSquare (first rs k) ≡ false → Reading limit (st.changed limit (written_at (name_at id t.place) (Some index))) v x v rs k
      → Reading limit (st.simple limit) v x v (at t v ∷ (ls ++ rs)) k
  index_changed {v} {x} {index} {ls} {rs} {k} id h s b r =
      by_name id h (off (square_round _ (first-append ls rs k ∙ indexes_first s (first rs k))) (both (maybe_index_reads (some_index s) b) r))

  pub simple_reads : {v : ℕ} {x : Statement} {ls : List Spelt} {k : Option TokenKind} → Simple x v ls → v ≤ limit → ends k ≡ true → Reading limit (st.simple limit) v x v ls k
  unfolding st.simple
  simple_reads (sets t (scalar id h) m s) small e = scalar_changed id h (rw m) (rw m) (set_reads m s small e)
  simple_reads (sets t (indexed id h r) m s) small e = index_changed id h r (rw m) (set_reads m s small e)
  simple_reads (updates t op (scalar id h) m s) small e = scalar_changed id h (update_round t.kind op m) (update_square t.kind op m) (update_changed op m s small e)
  simple_reads (updates t op (indexed id h r) m s) small e = index_changed id h r (update_square t.kind op m) (update_changed op m s small e)
  simple_reads (steps_after t op (scalar id h) m) small e = scalar_changed id h (step_round t.kind op m) (step_square t.kind op m) (step_changed op m)
  simple_reads (steps_after t op (indexed id h r) m) small e = index_changed id h r (step_square t.kind op m) (step_changed op m)
  simple_reads {k = k} (steps_ahead {t = t} op h s) small n = reading (λ rest e.
      let c : act_of (Some t.kind) ≡ act.Increments = step_acts t.kind op h in
      rw c (read_at (reads_by a_stepped (both (step_reads (op_is op h)) (mapped (target_reads s (ends_square k n))))) rest e))
  simple_reads {k = k} (invokes id h s) small e = by_name id h (on (ap (is_fixed fixed.LeftRound) (passes_first s k)) (mapped (passed_reads s)))

  abbrev pub ActsFirst : List Spelt → Type 0
  ActsFirst [] = ⊥
  ActsFirst (s ∷ ls) = acts_first (Some s.token.kind) ≡ true

  target_first : {v : ℕ} {x : PlainTarget} {ls : List Spelt} → Targets x v ls → (rs : List Spelt) → ActsFirst (ls ++ rs)
  target_first (scalar id h) rs = rw h
  target_first (indexed id h s) rs = rw h

  pub simple_first : {v : ℕ} {x : Statement} {ls : List Spelt} → Simple x v ls → ActsFirst ls
  simple_first (sets t s m e) = target_first s _
  simple_first (updates t op s m e) = target_first s _
  simple_first (steps_after t op s m) = target_first s _
  simple_first (steps_ahead {t = t} op h s) = step_first t.kind op h
  simple_first (invokes id h s) = rw h
