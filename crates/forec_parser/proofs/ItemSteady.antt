-- Where a global, a function or a program is refused depends on the tokens up to there alone.
use Rattle.std.proofs.Common.{◌≡◌, ℕ, suc, ◌++◌, ◌≤◌, Bool, true, false, length, Err, [], Option, Some, None, refl, arith}
use Rattle.forec_base.specs.declared.Policy.{Policy}
use Rattle.forec_tree.specs.declared.tree.Name.{Name}
use Rattle.forec_tree.specs.declared.tree.Number.{Number}
use Rattle.forec_tree.specs.declared.tree.GlobalKind.{GlobalKind}
use Rattle.forec_tree.specs.declared.tree.GlobalKind.TheVariants as kind
use Rattle.expr_parser.specs.declared.fixed.Fixed.TheVariants as fixed
use Rattle.statement_parser.specs.declared.meaning.Opening.{Opening}
use Rattle.statement_parser.specs.declared.meaning.Opening.TheVariants as opening
use Rattle.statement_parser.specs.declared.meaning.Declarator.{Declarator}
use Rattle.statement_parser.specs.declared.meaning.Declarator.TheVariants as declarator
use Rattle.expr_parser.specs.declared.fault.Fault.TheVariants.{Syntax, Deep, OutOfMemory}
use Rattle.expr_parser.specs.Input.{Input, at_end}
use Rattle.statement_parser.specs.Meaning.{opening_of, token_policy}
use Rattle.statement_parser.specs.Statements.{read_statement}
use Rattle.forec_parser.specs.Items as items
use Rattle.expr_parser.proofs.Steady.{Limits, deeper, Steady, Loops, bind, done, refused, by_kind, either, taken, closed, enclosing, named, numbered, looping, listing, refused_among, deep_among, takes_no_memory}
use Rattle.statement_parser.proofs.StatementSteady.{maybe_length_steady, block_steady, stmt_steady}

signed_steady : {E : Type 0} → Steady E 0 items.signed items.signed
unfolding items.signed items.negative_number
signed_steady = either fixed.Minus (bind (closed fixed.Minus) (λ t. bind numbered (λ n. done _))) numbered

one_value_steady : {E : Type 0} → Steady E 1 items.one_value items.one_value
unfolding items.one_value
one_value_steady = bind (closed fixed.Assign) (λ _. bind signed_steady (λ n. done _))

maybe_value_steady : {E : Type 0} → Steady E 0 items.maybe_value items.maybe_value
unfolding items.maybe_value
maybe_value_steady = either fixed.Assign one_value_steady (done [])

policy_steady : {E : Type 0} → Steady E 1 items.policy items.policy
unfolding items.policy
policy_steady {E} = by_kind (λ c. items.policy_by (token_policy c)) (λ c. items.policy_by (token_policy c)) (λ c. by (token_policy c))
  where
    by : (o : Option Policy) → Steady E 1 (items.policy_by o) (items.policy_by o)
    by (Some p) = bind taken (λ _. done p)
    by None = refused

combines_steady : {E : Type 0} → Steady E 1 items.combines items.combines
unfolding items.combines
combines_steady = bind (closed fixed.Combine) (λ _. bind policy_steady (λ p. bind (closed fixed.With) (λ _. bind named (λ n. done _))))

params_steady : {E : Type 0} → Steady E 0 items.params items.params
unfolding items.params items.some_params items.param
params_steady = either fixed.RightRound (done []) (either fixed.Void (bind (closed fixed.Void) (λ _. done [])) (listing (bind (closed fixed.Int) (λ _. named))))

-- under the limits k and l
module _ {E : Type 0} (k l : ℕ) (le : Limits E k l) where
  values_by_steady : (o : Option Number) → Steady E 1 (items.values_by k o) (items.values_by l o)
  unfolding items.many_values items.table_values
  values_by_steady None = one_value_steady
  values_by_steady (Some n) = bind (closed fixed.Assign) (λ _. enclosing k l le fixed.LeftCurly fixed.RightCurly (λ _ xs. xs) (listing signed_steady))

  maybe_values_steady : (o : Option Number) → Steady E 0 (items.maybe_values k o) (items.maybe_values l o)
  unfolding items.maybe_values
  maybe_values_steady o = either fixed.Assign (values_by_steady o) (done [])

  declared_steady : (d : Declarator) → Steady E 1 (items.declared_item k d) (items.declared_item l d)
  unfolding items.declared_item items.table
  declared_steady declarator.Table = bind named (λ n. bind (maybe_length_steady k l le) (λ o. bind (values_by_steady o) (λ found. done _)))
  declared_steady declarator.Bare = bind named (λ n. done _)
  declared_steady (declarator.Valued g) = bind named (λ n. bind maybe_value_steady (λ found. done _))

  ints_steady : (d : Declarator) → Steady E 1 (items.ints k d) (items.ints l d)
  unfolding items.ints items.globals
  ints_steady d = bind (closed fixed.Int) (λ _. bind (listing (declared_steady d)) (λ found. bind (closed fixed.Semicolon) (λ _. done found)))

  shared_steady : (g : GlobalKind) → Steady E 1 (items.shared k g) (items.shared l g)
  unfolding items.shared
  shared_steady g = bind (closed fixed.Int) (λ _. bind named (λ n. bind (maybe_length_steady k l le) (λ o. bind (maybe_values_steady o) (λ found.
      bind combines_steady (λ c. bind (closed fixed.Semicolon) (λ _. done _))))))

  function_steady : (gives : Bool) (n : Name) → Steady E 1 (items.function k gives n) (items.function l gives n)
  unfolding items.function items.parameters
  function_steady gives n = bind (enclosing k l le fixed.LeftRound fixed.RightRound (λ _ ps. ps) params_steady) (λ ps.
      bind (block_steady k l le (read_statement k (suc k)) (read_statement l (suc l)) (stmt_steady k l le (suc k) (suc l) (deeper le))) (λ b. done _))

  plain_globals_steady : (n : Name) → Steady E 0 (items.plain_globals k n) (items.plain_globals l n)
  unfolding items.plain_globals items.more_globals
  plain_globals_steady n = bind maybe_value_steady (λ found.
      bind (either fixed.Comma (bind (closed fixed.Comma) (λ _. listing (declared_steady (declarator.Valued kind.Plain)))) (done [])) (λ more.
      bind (closed fixed.Semicolon) (λ _. done _)))

  item_by_steady : (o : Opening) → Steady E 1 (items.item_by k o) (items.item_by l o)
  unfolding items.outputs items.output_shared items.shared_globals items.shared_output items.int_item
  item_by_steady opening.Const = bind (closed fixed.Const) (λ _. ints_steady declarator.Table)
  item_by_steady opening.Input = bind (closed fixed.Input) (λ _. ints_steady declarator.Bare)
  item_by_steady opening.Output = bind (closed fixed.Output) (λ _.
      either fixed.Shared (bind (closed fixed.Shared) (λ _. shared_steady kind.SharedOutput)) (ints_steady (declarator.Valued kind.Output)))
  item_by_steady opening.Shared = bind (closed fixed.Shared) (λ _.
      either fixed.Output (bind (closed fixed.Output) (λ _. shared_steady kind.SharedOutput)) (shared_steady kind.Shared))
  item_by_steady opening.Int = bind (closed fixed.Int) (λ _. bind named (λ n. either fixed.LeftRound (function_steady true n) (plain_globals_steady n)))
  item_by_steady opening.Void = bind (closed fixed.Void) (λ _. bind named (λ n. function_steady false n))
  item_by_steady opening.Nothing = refused

  item_steady : Steady E 1 (items.item k) (items.item l)
  unfolding items.item
  item_steady = by_kind (λ c. items.item_by k (opening_of c)) (λ c. items.item_by l (opening_of c)) (λ c. item_by_steady (opening_of c))

texts : (limit : ℕ) → Loops at_end (λ found xs. found ++ xs) (λ _. items.item limit) (items.items_from limit)
unfolding items.items_from
texts limit = record { last = λ s i. refl; turn = λ n s i. refl }

pub items_steady : {E : Type 0} (k l : ℕ) → Limits E k l → Steady E 0 (items.items k) (items.items l)
unfolding items.items
items_steady k l le = looping (texts k) (texts l) (λ _. item_steady k l le) []

abbrev itself : (k : ℕ) → Steady (Unit {0}) 0 (items.items k) (items.items k)
itself k = items_steady k k (record { grows = omega arith; equal = λ q. refl })

pub items_among : (k : ℕ) (i : Input) (l : ℕ) → items.items k i ≡ Err (Syntax l) → l ≤ length i.rest
items_among k i l e = refused_among (itself k) i l e

pub items_deep_among : (k : ℕ) (i : Input) (l : ℕ) → items.items k i ≡ Err (Deep l) → l ≤ length i.rest
items_deep_among k i l e = deep_among (itself k) i l e

pub items_take_no_memory : (k : ℕ) (i : Input) → items.items k i ≡ Err OutOfMemory → ⊥
items_take_no_memory k i e = takes_no_memory (itself k) i e
