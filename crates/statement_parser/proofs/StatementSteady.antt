-- Where a statement is refused depends on the tokens up to there alone.
use Rattle.std.proofs.Common.{ℕ, zero, suc, ◌++◌, ◌∷◌, Bool, true, false, [], Option, Some, None, refl, arith}
use Rattle.forec_base.specs.declared.operators.Binary.{Binary}
use Rattle.forec_tree.specs.declared.tree.Number.{Number}
use Rattle.forec_tree.specs.Terms.{PlainTarget, Statement}
use Rattle.expr_parser.specs.declared.fixed.Fixed.{Fixed}
use Rattle.expr_parser.specs.declared.fixed.Fixed.TheVariants as fixed
use Rattle.statement_parser.specs.declared.meaning.Change.{Change}
use Rattle.statement_parser.specs.declared.meaning.Change.TheVariants as change
use Rattle.statement_parser.specs.declared.meaning.Act.{Act}
use Rattle.statement_parser.specs.declared.meaning.Act.TheVariants as act
use Rattle.statement_parser.specs.declared.meaning.Sort.{Sort}
use Rattle.statement_parser.specs.declared.meaning.Sort.TheVariants as sort
use Rattle.expr_parser.specs.Input.{Parser}
use Rattle.expr_parser.specs.Reading.{read_expression}
use Rattle.statement_parser.specs.Meaning.{update_of, token_step, change_of, act_of, sort_of, ends_body}
use Rattle.statement_parser.specs.Statements as st
use Rattle.expr_parser.proofs.Steady.{too_deep, deep, Limits, deeper, less_deep, Steady, Loops, bind, scope, exhausted, done, refused, by_kind, either, taken, closed, entered, enclosing, named, numbered, looping, listing}
use Rattle.expr_parser.proofs.ExpressionSteady as expression
use Rattle.expr_parser.proofs.ExpressionSteady.{expr_steady}

op_steady : {E : Type 0} (o : Option Binary) → Steady E 1 (st.op_by o) (st.op_by o)
op_steady (Some op) = bind taken (λ t. done _)
op_steady None = refused

update_steady : {E : Type 0} → Steady E 1 st.update st.update
unfolding st.update
update_steady = by_kind (λ c. st.op_by (update_of c)) (λ c. st.op_by (update_of c)) (λ c. op_steady (update_of c))

step_mark_steady : {E : Type 0} → Steady E 1 st.step_mark st.step_mark
unfolding st.step_mark
step_mark_steady = by_kind (λ c. st.op_by (token_step c)) (λ c. st.op_by (token_step c)) (λ c. op_steady (token_step c))

flag_steady : {E : Type 0} (f : Fixed) → Steady E 0 (st.flag f) (st.flag f)
unfolding st.flag
flag_steady f = either f (bind (closed f) (λ _. done true)) (done false)

bodies : (limit : ℕ) (p : Parser Statement) → Loops ends_body (λ found x. found ++ x ∷ []) (λ _. p) (st.body_from limit p)
unfolding st.body_from
bodies limit p = record { last = λ s i. refl; turn = λ n s i. refl }

-- under the limits k and l
module _ {E : Type 0} (k l : ℕ) (le : Limits E k l) where
  exprs : (n : ℕ) → Steady E 1 (read_expression k (suc k) n) (read_expression l (suc l) n)
  exprs n = expr_steady k l le (suc k) (suc l) (deeper le) n

  value_steady : Steady E 1 (st.whole_expression k) (st.whole_expression l)
  unfolding st.whole_expression
  value_steady = expression.value_steady k l le (read_expression k (suc k)) (read_expression l (suc l)) exprs

  values_steady : Steady E 0 (st.values k) (st.values l)
  unfolding st.values
  values_steady = listing (expression.value_steady k l le (read_expression k (suc k)) (read_expression l (suc l)) exprs)

  bracketed_steady : Steady E 1 (st.bracketed_expression k) (st.bracketed_expression l)
  unfolding st.bracketed_expression
  bracketed_steady = expression.bracketed_steady k l le (read_expression k (suc k)) (read_expression l (suc l)) exprs

  indexed_steady : Steady E 1 (st.index_expression k) (st.index_expression l)
  unfolding st.index_expression
  indexed_steady = expression.indexed_steady k l le (read_expression k (suc k)) (read_expression l (suc l)) exprs

  passed_steady : Steady E 1 (st.passed_expressions k) (st.passed_expressions l)
  unfolding st.passed_expressions
  passed_steady = expression.passed_steady k l le (read_expression k (suc k)) (read_expression l (suc l)) exprs

  -- ---- simple statements

  maybe_index_steady : Steady E 0 (st.maybe_index k) (st.maybe_index l)
  unfolding st.maybe_index
  maybe_index_steady = either fixed.LeftSquare (bind indexed_steady (λ x. done (Some x))) (done None)

  target_steady : Steady E 1 (st.target k) (st.target l)
  unfolding st.target
  target_steady = bind named (λ n. bind maybe_index_steady (λ x. done _))

  changed_by_steady : (c : Change) (to : PlainTarget) → Steady E 1 (st.changed_by k c to) (st.changed_by l c to)
  changed_by_steady change.Sets to = bind (closed fixed.Assign) (λ _. bind value_steady (λ x. done _))
  changed_by_steady change.Updates to = bind update_steady (λ op. bind value_steady (λ x. done _))
  changed_by_steady change.Increments to = bind step_mark_steady (λ op. done _)
  changed_by_steady change.Nothing to = refused

  changed_steady : (to : PlainTarget) → Steady E 1 (st.changed k to) (st.changed l to)
  unfolding st.changed
  changed_steady to = by_kind (λ c. st.changed_by k (change_of c) to) (λ c. st.changed_by l (change_of c) to) (λ c. changed_by_steady (change_of c) to)

  named_steady : Steady E 1 (st.named_statement k) (st.named_statement l)
  unfolding st.named_statement st.invoked st.assign_statement
  named_steady = bind named (λ n. either fixed.LeftRound (bind passed_steady (λ xs. done _)) (bind maybe_index_steady (λ x. changed_steady _)))

  stepped_steady : Steady E 1 (st.stepped k) (st.stepped l)
  unfolding st.stepped
  stepped_steady = bind step_mark_steady (λ op. bind target_steady (λ to. done _))

  simple_by_steady : (a : Act) → Steady E 1 (st.simple_by k a) (st.simple_by l a)
  simple_by_steady act.Named = named_steady
  simple_by_steady act.Increments = stepped_steady
  simple_by_steady act.Nothing = refused

  simple_steady : Steady E 1 (st.simple k) (st.simple l)
  unfolding st.simple
  simple_steady = by_kind (λ c. st.simple_by k (act_of c)) (λ c. st.simple_by l (act_of c)) (λ c. simple_by_steady (act_of c))

  -- ---- declarations

  pub maybe_length_steady : Steady E 0 (st.maybe_length k) (st.maybe_length l)
  unfolding st.maybe_length st.length_part
  maybe_length_steady = either fixed.LeftSquare (bind (enclosing k l le fixed.LeftSquare fixed.RightSquare (λ _ n. n) numbered) (λ n. done (Some n))) (done None)

  initial_by_steady : (o : Option Number) → Steady E 1 (st.initial_by k o) (st.initial_by l o)
  unfolding st.listed_values
  initial_by_steady None = bind value_steady (λ x. done _)
  initial_by_steady (Some n) = enclosing k l le fixed.LeftCurly fixed.RightCurly (λ _ xs. xs) values_steady

  initial_steady : (o : Option Number) → Steady E 0 (st.initial k o) (st.initial l o)
  unfolding st.initial
  initial_steady o = either fixed.Assign (bind (closed fixed.Assign) (λ _. initial_by_steady o)) (done [])

  local_steady : Steady E 1 (st.local k) (st.local l)
  unfolding st.local
  local_steady = bind named (λ n. bind maybe_length_steady (λ o. bind (initial_steady o) (λ found. done _)))

  -- ---- loops

  bound_steady : Steady E 0 (st.bound k) (st.bound l)
  unfolding st.bound
  bound_steady = either fixed.Hash (bind (bind (closed fixed.Hash) (λ _. numbered)) (λ n. done (Some n))) (done None)

  start_steady : Steady E 0 (st.start_part k) (st.start_part l)
  unfolding st.start_part st.some_start st.first_local
  start_steady = either fixed.Semicolon (done _) (either fixed.Int
      (bind (closed fixed.Int) (λ int. bind named (λ n. bind (closed fixed.Assign) (λ _. bind value_steady (λ x. done _)))))
      (bind simple_steady (λ x. done _)))

  loop_test_steady : Steady E 0 (st.loop_test k) (st.loop_test l)
  unfolding st.loop_test
  loop_test_steady = either fixed.Semicolon (done None) (bind value_steady (λ x. done (Some x)))

  step_steady : Steady E 0 (st.step_part k) (st.step_part l)
  unfolding st.step_part
  step_steady = either fixed.RightRound (done _) (bind simple_steady (λ x. done _))

  head_steady : Steady E 1 (st.head k) (st.head l)
  unfolding st.head st.head_parts
  head_steady = enclosing k l le fixed.LeftRound fixed.RightRound (λ _ h. h)
      (bind start_steady (λ a. bind (closed fixed.Semicolon) (λ _. bind loop_test_steady (λ b. bind (closed fixed.Semicolon) (λ _. bind step_steady (λ c. done _))))))

  called_steady : Steady E 1 (st.call_launch k) (st.call_launch l)
  unfolding st.call_launch st.maybe_passed
  called_steady = bind named (λ n. bind (either fixed.LeftRound passed_steady (done [])) (λ args. done _))

  -- ---- statements, by those in them

  module _ (p q : Parser Statement) (h : Steady E 1 p q) where
    pub block_steady : Steady E 1 (st.block k p) (st.block l q)
    unfolding st.block st.body
    block_steady = enclosing k l le fixed.LeftCurly fixed.RightCurly (λ t xs. (t.place, xs)) (looping (bodies k p) (bodies l q) (λ _. h) [])

    branching_steady : Steady E 1 (st.if_statement k p) (st.if_statement l q)
    unfolding st.if_statement st.otherwise
    branching_steady = scope (bind (entered fixed.If k l le) (λ t. bind bracketed_steady (λ test. bind h (λ first.
        either fixed.Else (bind (entered fixed.Else k l le) (λ _. bind h (λ second. done _))) (done _)))))

    looping_steady : Steady E 1 (st.while_statement k p) (st.while_statement l q)
    unfolding st.while_statement
    looping_steady = scope (bind (entered fixed.While k l le) (λ t. bind bracketed_steady (λ test. bind bound_steady (λ turns. bind h (λ x. done _)))))

    counting_steady : Steady E 1 (st.for_statement k p) (st.for_statement l q)
    unfolding st.for_statement
    counting_steady = scope (bind (entered fixed.For k l le) (λ t. bind head_steady (λ head. bind bound_steady (λ turns. bind h (λ x. done _)))))

    launch_steady : Steady E 0 (st.launch k p) (st.launch l q)
    unfolding st.launch
    launch_steady = either fixed.LeftCurly (bind block_steady (λ b. done _)) called_steady

    par_statement_steady : Steady E 1 (st.par_statement k p) (st.par_statement l q)
    unfolding st.par_statement st.launches
    par_statement_steady = bind (closed fixed.Par) (λ t. bind (enclosing k l le fixed.LeftRound fixed.RightRound (λ _ xs. xs) (listing launch_steady)) (λ branches.
        bind (closed fixed.Semicolon) (λ _. done _)))

    abort_statement_steady : (weak : Bool) → Steady E 1 (st.abort_statement k p weak) (st.abort_statement l q weak)
    unfolding st.abort_statement
    abort_statement_steady weak = scope (bind (entered fixed.Abort k l le) (λ t. bind block_steady (λ b. bind (closed fixed.When) (λ _. bind (flag_steady fixed.Immediate) (λ immediate.
        bind bracketed_steady (λ test. bind (closed fixed.Semicolon) (λ _. done _)))))))

    one_by_steady : (s : Sort) → Steady E 1 (st.one_by k p s) (st.one_by l q s)
    unfolding st.group st.declaring st.acting st.pausing st.return_statement
    one_by_steady sort.Empty = bind (closed fixed.Semicolon) (λ t. done _)
    one_by_steady sort.Curly = bind block_steady (λ b. done _)
    one_by_steady sort.Declares = bind (closed fixed.Int) (λ t. bind (listing local_steady) (λ locals. bind (closed fixed.Semicolon) (λ _. done _)))
    one_by_steady sort.If = branching_steady
    one_by_steady sort.While = looping_steady
    one_by_steady sort.For = counting_steady
    one_by_steady sort.Pause = bind (closed fixed.Pause) (λ t. bind (closed fixed.Semicolon) (λ _. done _))
    one_by_steady sort.Par = par_statement_steady
    one_by_steady sort.Weak = bind (closed fixed.Weak) (λ _. abort_statement_steady true)
    one_by_steady sort.Abort = abort_statement_steady false
    one_by_steady sort.Return = bind (closed fixed.Return) (λ t. bind value_steady (λ x. bind (closed fixed.Semicolon) (λ _. done _)))
    one_by_steady sort.Simple = bind simple_steady (λ x. bind (closed fixed.Semicolon) (λ _. done x))
    one_by_steady sort.Nothing = refused

    one_steady : Steady E 1 (st.one_statement k p) (st.one_statement l q)
    unfolding st.one_statement
    one_steady = by_kind (λ c. st.one_by k p (sort_of c)) (λ c. st.one_by l q (sort_of c)) (λ c. one_by_steady (sort_of c))

pub stmt_steady : {E : Type 0} (k l : ℕ) → Limits E k l → (d e : ℕ) → Limits E d e → Steady E 1 (st.read_statement k d) (st.read_statement l e)
unfolding st.read_statement
stmt_steady k l le zero zero lower = exhausted
stmt_steady k l le zero (suc e) lower = record { within = λ i. too_deep (omega arith); same = λ x y h a v. deep (λ q z. absurd (let no = lower.equal q in omega (arith, no))) }
stmt_steady k l le (suc d) zero lower = absurd (let h = lower.grows in omega (arith, h))
stmt_steady k l le (suc d) (suc e) lower = one_steady k l le (st.read_statement k d) (st.read_statement l e) (stmt_steady k l le d e (less_deep lower))
