-- Where a global or a function is refused, what was taken is the front of one.
use Rattle.std.proofs.Common.{◌≡◌, ℕ, suc, ◌+◌, ◌≤◌, false, true, Bool, [], ◌∷◌, Option, Some, None, Err, refl, arith}
use Rattle.forec_base.specs.declared.Policy.{Policy}
use Rattle.forec_base.specs.declared.Policy.TheVariants as policy
use Rattle.forec_tree.specs.declared.token.Token.{Token}
use Rattle.forec_tree.specs.declared.token.TokenKind.{TokenKind}
use Rattle.forec_tree.specs.declared.token.TokenKind.TheVariants as kind
use Rattle.forec_tree.specs.declared.token.Word.TheVariants as word
use Rattle.forec_tree.specs.declared.tree.Name.{Name}
use Rattle.forec_tree.specs.declared.tree.Number.{Number}
use Rattle.forec_tree.specs.declared.tree.GlobalKind.{GlobalKind}
use Rattle.forec_tree.specs.declared.tree.GlobalKind.TheVariants as glob
use Rattle.forec_tree.specs.Spelling.{at}
use Rattle.forec_tree.specs.SpelledPrograms.{Signed, Table, SpellsCombine, Param, Params, Parameters, Introduces}
use Rattle.expr_parser.specs.declared.fault.Fault.{Fault}
use Rattle.expr_parser.specs.declared.fixed.Fixed.TheVariants as fixed
use Rattle.statement_parser.specs.declared.meaning.Opening.{Opening}
use Rattle.statement_parser.specs.declared.meaning.Opening.TheVariants as opening
use Rattle.statement_parser.specs.declared.meaning.Declarator.{Declarator}
use Rattle.statement_parser.specs.declared.meaning.Declarator.TheVariants as decl
use Rattle.expr_parser.specs.Input.{Input, kind_ahead}
use Rattle.expr_parser.specs.Meaning.{is_fixed}
use Rattle.statement_parser.specs.Meaning.{opening_of, token_policy}
use Rattle.statement_parser.specs.Statements.{read_statement}
use Rattle.forec_parser.specs.Items as it
use Rattle.forec_parser.specs.Items.{combine_with}
use Rattle.expr_parser.proofs.Closers.{kind_of}
use Rattle.expr_parser.proofs.Exact.{Part, part, Any}
use Rattle.expr_parser.proofs.Leaves.{token, a_name}
use Rattle.expr_parser.proofs.Viable.{made, Least, Refused, Viable, refused_here, bind, map_to, convert, either_on, either_off, done_at}
use Rattle.expr_parser.proofs.ViableLeaves.{part_keeps, token_keeps, list_keeps, token_at, taken_always, a_number, name_here, number_here, enclosing, commas}
use Rattle.expr_parser.proofs.ViableLeaves as leaf
use Rattle.statement_parser.proofs.SimpleRules.{a_list}
use Rattle.statement_parser.proofs.PartRules.{maybe_length_by}
use Rattle.statement_parser.proofs.StatementSound.{sound_stmt}
use Rattle.forec_parser.proofs.ItemRules as ir
use Rattle.forec_parser.proofs.ItemRules.{PolicyIs, policy_is, MaybeValue, IsItem, DeclaredAs}
use Rattle.forec_parser.proofs.ItemSound as is'
use Rattle.forec_parser.proofs.ItemSound.{Ints, SharedRest, FunctionRest, MoreGlobals, PlainRest, function_of, plain_of}
use Rattle.statement_parser.proofs.ViableParts.{list_at, maybe_length_at}
use Rattle.statement_parser.proofs.ViableStatements.{a_semicolon, block_at, viable_stmt}

-- the least policy
abbrev an_all : Option TokenKind
an_all = Some (kind.Word word.All)

least_policy : {k : Option TokenKind} (v : ℕ) → Least (Part Any PolicyIs) an_all k v
least_policy v = let t = made (kind.Word word.All) in record { value = policy.All; last = v; tokens = at t v ∷ []; spells = part (policy_is policy.All refl) tt; begins = refl }

module _ (limit low : ℕ) where
  -- ---- values

  signed_at : {m : ℕ} {k : Option TokenKind} → Viable limit m it.signed (Part Any Signed) a_number k
  unfolding it.signed it.negative_number
  signed_at = convert (ir.signed_number_of limit) (either_off fixed.Minus refl (bind (token limit fixed.Minus) token_keeps (token_at fixed.Minus) (λ t. map_to (ir.negated limit t) number_here)) number_here)

  one_value_at : {k : Option TokenKind} → Viable limit low it.one_value (Part Any (ir.OneValue limit)) (Some (kind_of fixed.Assign)) k
  unfolding it.one_value
  one_value_at = convert (ir.one_value_of limit) (bind (token limit fixed.Assign) token_keeps (token_at fixed.Assign) (λ _. map_to (λ n. n ∷ []) signed_at))

  maybe_value_at : {k : Option TokenKind} → is_fixed fixed.Assign k ≡ false → Viable limit low it.maybe_value (Part Any MaybeValue) k k
  unfolding it.maybe_value
  maybe_value_at n = convert (ir.maybe_value_of limit) (either_off fixed.Assign n one_value_at (done_at []))

  -- ---- how copies are combined

  policy_stops : {k : Option TokenKind} (i : Input) (e : Fault) (o : Option Policy) → token_policy (kind_ahead i.rest) ≡ o → it.policy_by o i ≡ Err e → Refused limit (Part Any PolicyIs) k i e
  policy_stops i e None s h = refused_here (least_policy i.level) (cc)
  policy_stops i e (Some p) s h = absurd (taken_always token_policy (λ _. p) i p e refl s h)

  policy_at : {k : Option TokenKind} → Viable limit low it.policy (Part Any PolicyIs) an_all k
  unfolding it.policy
  policy_at = record { refused = λ i e deep small h. policy_stops i e (token_policy (kind_ahead i.rest)) refl h; least = least_policy }

  combines_at : {k : Option TokenKind} → Viable limit low it.combines (Part Any SpellsCombine) (Some (kind_of fixed.Combine)) k
  unfolding it.combines
  combines_at = convert (ir.combines_of limit)
      (bind (token limit fixed.Combine) token_keeps (token_at fixed.Combine) (λ _. bind (ir.a_policy limit) part_keeps policy_at (λ p.
      bind (token limit fixed.With) token_keeps (token_at fixed.With) (λ _. map_to (combine_with p) name_here))))

  -- ---- parameters

  param_at : {m : ℕ} {k : Option TokenKind} → Viable limit m it.param (Part Any Param) (Some (kind_of fixed.Int)) k
  unfolding it.param
  param_at = convert (ir.param_of limit) (bind (token limit fixed.Int) token_keeps (token_at fixed.Int) (λ _. name_here))

  params_at : {m : ℕ} → Viable limit m it.params (Part Any Params) (Some (kind_of fixed.RightRound)) (Some (kind_of fixed.RightRound))
  unfolding it.params it.some_params
  params_at = convert (ir.params_of limit) (either_on fixed.RightRound refl (done_at []) (either_off fixed.Void refl (map_to (λ _. []) (token_at fixed.Void)) (list_at (ir.param_by limit) refl param_at)))

  parameters_at : {k : Option TokenKind} → Viable limit low (it.parameters limit) (Part Any Parameters) (Some (kind_of fixed.LeftRound)) k
  unfolding it.parameters
  parameters_at = convert (ir.parameters_of limit) (enclosing fixed.LeftRound fixed.RightRound (λ _ ps. ps) (ir.params_by limit) part_keeps params_at)

  -- ---- declarators

  many_at : {k : Option TokenKind} → Viable limit low (it.many_values limit) (Part Any (ir.Tabled limit)) (Some (kind_of fixed.Assign)) k
  unfolding it.many_values it.table_values
  many_at = convert (ir.many_of limit) (bind (token limit fixed.Assign) token_keeps (token_at fixed.Assign) (λ _.
      enclosing fixed.LeftCurly fixed.RightCurly (λ _ xs. xs) (a_list (ir.signed_by limit)) part_keeps (list_at (ir.signed_by limit) refl signed_at)))

  values_at : {k : Option TokenKind} (length : Option Number) → Viable limit low (it.values_by limit length) (Part Any (ir.TableValues limit length)) (Some (kind_of fixed.Assign)) k
  values_at None = convert (λ v w x ls o q. ir.values_one limit q) one_value_at
  values_at (Some n) = convert (λ v w x ls o q. ir.values_many limit q) many_at

  maybe_values_at : {k : Option TokenKind} (length : Option Number) → is_fixed fixed.Assign k ≡ false → Viable limit low (it.maybe_values limit length) (Part Any (ir.MaybeValues limit length)) k k
  unfolding it.maybe_values
  maybe_values_at length n = convert (ir.maybe_values_of limit length) (either_off fixed.Assign n (values_at length) (done_at []))

  table_at : {k : Option TokenKind} → Viable limit low (it.table limit) (Part Any (IsItem Table)) leaf.a_name k
  unfolding it.table
  table_at = convert (ir.table_of limit) (bind (a_name limit) part_keeps name_here (λ n. bind (maybe_length_by limit) part_keeps (maybe_length_at limit refl) (λ length. map_to (ir.constant_of limit n length) (values_at length))))

  declared_at : {k : Option TokenKind} (d : Declarator) → is_fixed fixed.Assign k ≡ false → Viable limit low (it.declared_item limit d) (Part Any (IsItem (DeclaredAs d))) leaf.a_name k
  unfolding it.declared_item
  declared_at decl.Table n = table_at
  declared_at decl.Bare n = convert (ir.bare_of limit) (map_to (ir.input_of limit) name_here)
  declared_at (decl.Valued q) n = convert (ir.valued_item_of limit q) (bind (a_name limit) part_keeps name_here (λ t. map_to (ir.valued_of limit q t) (maybe_value_at n)))

  -- ---- items from `int` on

  ints_at : {k : Option TokenKind} (d : Declarator) → Viable limit low (it.ints limit d) (Part Any (Ints d)) (Some (kind_of fixed.Int)) k
  unfolding it.ints it.globals
  ints_at d = convert (is'.ints_of limit d)
      (bind (token limit fixed.Int) token_keeps (token_at fixed.Int) (λ _. bind (ir.declared_list limit d) (list_keeps refl) (commas (ir.declared_by limit d) part_keeps refl (declared_at d refl)) (λ found.
      map_to (λ (_ : Token). found) (token_at fixed.Semicolon))))

  shared_at : {k : Option TokenKind} (q : GlobalKind) → Viable limit low (it.shared limit q) (Part Any (SharedRest q)) (Some (kind_of fixed.Int)) k
  unfolding it.shared
  shared_at q = convert (is'.shared_rest_of limit q)
      (bind (token limit fixed.Int) token_keeps (token_at fixed.Int) (λ _. bind (a_name limit) part_keeps name_here (λ n.
      bind (maybe_length_by limit) part_keeps (maybe_length_at limit refl) (λ length. bind (ir.maybe_values_by limit length) part_keeps (maybe_values_at length refl) (λ found.
      bind (ir.combines_by limit) part_keeps combines_at (λ c. map_to (λ (_ : Token). is'.shared_of limit q n length found c) (token_at fixed.Semicolon)))))))

  function_at : {k : Option TokenKind} (gives : Bool) (n : Name) → Viable limit low (it.function limit gives n) (Part Any (FunctionRest gives n)) (Some (kind_of fixed.LeftRound)) k
  unfolding it.function
  function_at gives n = convert (is'.function_rest_of limit gives n)
      (bind (ir.parameters_by limit) part_keeps parameters_at (λ ps. map_to (λ b. function_of gives n ps b.1 ∷ [])
      (block_at limit (read_statement limit (suc limit)) (sound_stmt limit (suc limit)) low (viable_stmt limit (suc limit) (low + 1) (omega arith)) (omega arith) (λ v. v))))

  more_at : Viable limit low (it.more_globals limit) (Part Any MoreGlobals) a_semicolon a_semicolon
  unfolding it.more_globals
  more_at = convert (is'.more_of limit) (either_off fixed.Comma refl (bind (token limit fixed.Comma) token_keeps (token_at fixed.Comma) (λ _.
      commas (ir.declared_by limit (decl.Valued glob.Plain)) part_keeps refl (declared_at (decl.Valued glob.Plain) refl))) (done_at []))

  plain_at : {k : Option TokenKind} (n : Name) → Viable limit low (it.plain_globals limit n) (Part Any (PlainRest n)) a_semicolon k
  unfolding it.plain_globals
  plain_at n = convert (is'.plain_rest_of limit n)
      (bind (ir.maybe_value_by limit) part_keeps (maybe_value_at refl) (λ found. bind (is'.more_by limit) part_keeps more_at (λ more. map_to (λ (_ : Token). plain_of n found ∷ more) (token_at fixed.Semicolon))))

  -- ---- items

  constants_at : {k : Option TokenKind} → Viable limit low (it.item_by limit opening.Const) (Part Any Introduces) (Some (kind_of fixed.Const)) k
  constants_at = convert (λ v w x ls o q. is'.constants_of limit q) (bind (token limit fixed.Const) token_keeps (token_at fixed.Const) (λ _. ints_at decl.Table))

  inputs_at : {k : Option TokenKind} → Viable limit low (it.item_by limit opening.Input) (Part Any Introduces) (Some (kind_of fixed.Input)) k
  inputs_at = convert (λ v w x ls o q. is'.inputs_of limit q) (bind (token limit fixed.Input) token_keeps (token_at fixed.Input) (λ _. ints_at decl.Bare))

  outputs_at : {k : Option TokenKind} → Viable limit low (it.outputs limit) (Part Any Introduces) (Some (kind_of fixed.Output)) k
  unfolding it.outputs it.output_shared
  outputs_at = convert (λ v w x ls o q. is'.outputs_of limit q) (bind (token limit fixed.Output) token_keeps (token_at fixed.Output) (λ _.
      either_off fixed.Shared refl (bind (token limit fixed.Shared) token_keeps (token_at fixed.Shared) (λ _. shared_at glob.SharedOutput)) (ints_at (decl.Valued glob.Output))))

  shares_at : {k : Option TokenKind} → Viable limit low (it.shared_globals limit) (Part Any Introduces) (Some (kind_of fixed.Shared)) k
  unfolding it.shared_globals it.shared_output
  shares_at = convert (λ v w x ls o q. is'.shares_of limit q) (bind (token limit fixed.Shared) token_keeps (token_at fixed.Shared) (λ _.
      either_off fixed.Output refl (bind (token limit fixed.Output) token_keeps (token_at fixed.Output) (λ _. shared_at glob.SharedOutput)) (shared_at glob.Shared)))

  numbers_at : {k : Option TokenKind} → Viable limit low (it.int_item limit) (Part Any Introduces) (Some (kind_of fixed.Int)) k
  unfolding it.int_item
  numbers_at = convert (λ v w x ls o q. is'.numbers_of limit q) (bind (token limit fixed.Int) token_keeps (token_at fixed.Int) (λ _. bind (a_name limit) part_keeps name_here (λ n.
      either_off fixed.LeftRound refl (function_at true n) (plain_at n))))

  void_at : {k : Option TokenKind} → Viable limit low (it.item_by limit opening.Void) (Part Any Introduces) (Some (kind_of fixed.Void)) k
  void_at = convert (λ v w x ls o q. is'.void_of limit q) (bind (token limit fixed.Void) token_keeps (token_at fixed.Void) (λ _. bind (a_name limit) part_keeps name_here (λ n. function_at false n)))

  item_stops : {k : Option TokenKind} (o : Opening) (i : Input) (e : Fault) → low ≤ i.level → i.level ≤ limit → it.item_by limit o i ≡ Err e → Refused limit (Part Any Introduces) k i e
  item_stops opening.Const i e deep small h = constants_at.refused i e deep small h
  item_stops opening.Input i e deep small h = inputs_at.refused i e deep small h
  item_stops opening.Output i e deep small h = outputs_at.refused i e deep small h
  item_stops opening.Shared i e deep small h = shares_at.refused i e deep small h
  item_stops opening.Int i e deep small h = numbers_at.refused i e deep small h
  item_stops opening.Void i e deep small h = void_at.refused i e deep small h
  item_stops opening.Nothing i e deep small h = refused_here (numbers_at.least i.level) (cc)

  pub item_at : {k : Option TokenKind} → Viable limit low (it.item limit) (Part Any Introduces) (Some (kind_of fixed.Int)) k
  unfolding it.item
  item_at = record { refused = λ i e deep small h. item_stops (opening_of (kind_ahead i.rest)) i e deep small h; least = numbers_at.least }
