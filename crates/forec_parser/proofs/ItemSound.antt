-- Globals, functions and programs: what is read, both ways.
use Rattle.std.proofs.Common.{◌≡◌, ℕ, suc, ◌≤◌, Bool, true, false, List, [], ◌∷◌, ◌++◌, map, Option, Some, None, Ok, ◌∙◌, ap, arith}
use Rattle.forec_base.specs.declared.Place.{Place}
use Rattle.forec_tree.specs.declared.token.Token.{Token}
use Rattle.forec_tree.specs.declared.token.TokenKind.{TokenKind}
use Rattle.forec_tree.specs.declared.token.TokenKind.TheVariants as kind
use Rattle.forec_tree.specs.declared.token.Mark.TheVariants as mark
use Rattle.forec_tree.specs.declared.token.Word.TheVariants as word
use Rattle.forec_tree.specs.declared.tree.Name.{Name}
use Rattle.forec_tree.specs.declared.tree.Number.{Number}
use Rattle.forec_tree.specs.declared.tree.Combine.{Combine}
use Rattle.forec_tree.specs.declared.tree.GlobalKind.{GlobalKind}
use Rattle.forec_tree.specs.declared.tree.GlobalKind.TheVariants as glob
use Rattle.forec_tree.specs.Terms.{Statement, PlainGlobal, PlainItem, IsGlobal, IsFunction}
use Rattle.forec_tree.specs.Parts.{in_order, global_of}
use Rattle.forec_tree.specs.Spelling.{Spelt, at, tokens, IsMark, IsWord, IsNameToken, name_at}
use Rattle.forec_tree.specs.SpelledStatements.{Separated, last_part, next_part, Lengths, lengths, Block, block}
use Rattle.forec_tree.specs.SpelledPrograms.{positive, negative, Scalar, unset, set, SharedVariable, one, array, valued_array, Table, SpellsCombine, combines, Parameters, parameters, gives_word, Introduces, constants, inputs, outputs, globals, shared_globals, function}
use Rattle.forec_tree.specs.SpelledPrograms as sp
use Rattle.expr_parser.specs.declared.fixed.Fixed.{Fixed}
use Rattle.expr_parser.specs.declared.fixed.Fixed.TheVariants as fixed
use Rattle.statement_parser.specs.declared.meaning.Opening.{Opening}
use Rattle.statement_parser.specs.declared.meaning.Opening.TheVariants as opening
use Rattle.statement_parser.specs.declared.meaning.Declarator.{Declarator}
use Rattle.statement_parser.specs.declared.meaning.Declarator.TheVariants as decl
use Rattle.expr_parser.specs.Input.{Input, kind_ahead}
use Rattle.expr_parser.specs.Meaning.{is_fixed}
use Rattle.statement_parser.specs.Meaning.{opening_of}
use Rattle.statement_parser.specs.Statements as st
use Rattle.statement_parser.specs.Statements.{read_statement}
use Rattle.forec_parser.specs.Items as it
use Rattle.expr_parser.proofs.Spans.{first, first-is}
use Rattle.expr_parser.proofs.Exact.{Lang, Read, Exact, Bind, both, Map, mapped, Done, done, If, on, off, Part, part, Reading, reading, Any, bind, map_to, convert, either, done_at, by_reading, read_as, reads_by, read_at}
use Rattle.expr_parser.proofs.Leaves.{Tok, tok, NameIs, name_is, token, a_name, between, Listed, Full, Filled, is_so}
use Rattle.expr_parser.proofs.Operators.{ends}
use Rattle.statement_parser.proofs.Marks.{semicolon_ends, semicolon_comma}
use Rattle.statement_parser.proofs.StatementSound.{Bodied, bodied, Braces, block_here, sound_stmt}
use Rattle.statement_parser.proofs.StatementComplete.{here_reads, block_reads}
use Rattle.statement_parser.proofs.PartRules.{MaybeLength, some_length, no_length, maybe_length_by, maybe_length_reads}
use Rattle.forec_parser.proofs.ItemRules.{one_is, tabled, one_number, more_numbers, MaybeValues, no_numbers, some_numbers, maybe_values_by, maybe_values_read, MaybeValue, no_value, some_value, IsItem, Wrapped, wrapped, DeclaredAs, wrap_in, items_read, maybe_value_by, maybe_value_reads, combines_by, combines_reads, parameters_by, parameters_read, declared_reads, declared_filled, declared_list}

-- globals from `int` on
pub data Ints (d : Declarator) : List PlainItem → ℕ → List Spelt → Type 0 where
  ints : {v : ℕ} {int : Token} (semicolon : Token) {gs : List PlainGlobal} {ls : List Spelt} → IsWord word.Int int → Separated (DeclaredAs d) gs v ls → IsMark mark.Semicolon semicolon
      → Ints d (map IsGlobal gs) v (at int v ∷ (ls ++ (at semicolon v ∷ [])))

-- a shared variable from `int` on
pub data SharedRest (kind : GlobalKind) : List PlainItem → ℕ → List Spelt → Type 0 where
  shared_rest : {v : ℕ} {int : Token} (semicolon : Token) {g : PlainGlobal} {combine : Combine} {ms rs : List Spelt} → IsWord word.Int int → SharedVariable kind (Some combine) g v ms → SpellsCombine combine v rs
      → IsMark mark.Semicolon semicolon → SharedRest kind (IsGlobal g ∷ []) v (at int v ∷ (ms ++ (rs ++ (at semicolon v ∷ []))))

abbrev pub function_of : Bool → Name → List Name → List Statement → PlainItem
function_of gives n ps body = IsFunction (record { name = n; gives = gives; params = ps; body = in_order body })

-- a function from its parameters on
pub data FunctionRest (gives : Bool) (n : Name) : List PlainItem → ℕ → List Spelt → Type 0 where
  function_rest : {v : ℕ} {place : Place} {names : List Name} {body : List Statement} {ls ms : List Spelt} → Parameters names v ls → Block place body v v ms
      → FunctionRest gives n (function_of gives n names body ∷ []) v (ls ++ ms)

pub data MoreGlobals : List PlainItem → ℕ → List Spelt → Type 0 where
  no_globals : {v : ℕ} → MoreGlobals [] v []
  some_globals : {v : ℕ} {comma : Token} {gs : List PlainGlobal} {ls : List Spelt} → IsMark mark.Comma comma → Separated (Scalar glob.Plain None) gs v ls → MoreGlobals (map IsGlobal gs) v (at comma v ∷ ls)

abbrev pub plain_of : Name → List Number → PlainItem
plain_of n found = IsGlobal (global_of glob.Plain None n None found)

pub data PlainRest (n : Name) : List PlainItem → ℕ → List Spelt → Type 0 where
  plain_rest : {v : ℕ} (semicolon : Token) {found : List Number} {xs : List PlainItem} {ls ms : List Spelt} → MaybeValue found v ls → MoreGlobals xs v ms → IsMark mark.Semicolon semicolon
      → PlainRest n (plain_of n found ∷ xs) v (ls ++ (ms ++ (at semicolon v ∷ [])))

module _ (limit : ℕ) where
  abbrev IntsBy : Lang (List PlainItem) → Lang (List PlainItem)
  IntsBy L = Bind (Tok fixed.Int) (λ _. Bind L (λ found. Map (λ (_ : Token). found) (Tok fixed.Semicolon)))

  with_ints : {d : Declarator} {v n : ℕ} {int : Token} (semicolon : Token) {xs : List PlainItem} {ls : List Spelt} (k : Option TokenKind) → IsWord word.Int int → Wrapped (DeclaredAs d) v xs n ls → IsMark mark.Semicolon semicolon
      → Part Any (Ints d) v xs n (at int v ∷ (ls ++ (at semicolon n ∷ []))) k
  with_ints semicolon k h (wrapped s) m = part (ints semicolon h s m) tt

  pub ints_of : (d : Declarator) (v w : ℕ) (x : List PlainItem) (ls : List Spelt) (k : Option TokenKind) → IntsBy (Listed (Part Any (IsItem (DeclaredAs d)))) v x w ls k → Part Any (Ints d) v x w ls k
  ints_of d v w x ls k (both (tok h) (both q (mapped (tok m)))) = with_ints _ k h (wrap_in q) m

  an_ints : (d : Declarator) → Exact limit (it.ints limit d) (Part Any (Ints d)) (IntsBy (Listed (Full (Reading limit (it.declared_item limit d)))))
  unfolding it.ints it.globals
  an_ints d = convert (ints_of d) (λ v w x ls k q. q) (bind (token limit fixed.Int) (λ _. bind (declared_list limit d) (λ found. map_to (λ (_ : Token). found) (token limit fixed.Semicolon))))

  pub ints_by : (d : Declarator) → Exact limit (it.ints limit d) (Part Any (Ints d)) (Reading limit (it.ints limit d))
  ints_by d = by_reading (an_ints d).sound

  ints_read : {d : Declarator} {v : ℕ} {xs : List PlainItem} {ls : List Spelt} {k : Option TokenKind} → Ints d xs v ls → Reading limit (it.ints limit d) v xs v ls k
  ints_read {d} {v} (ints semicolon h s m) =
      reads_by (an_ints d) (both (tok h) (both (items_read (λ g ls k q e. declared_reads limit d g v ls k q e) (λ g ls q. declared_filled limit d g v ls q) s (semicolon_ends semicolon m) (semicolon_comma semicolon m)) (mapped (tok m))))

  -- ---- shared variables

  abbrev pub shared_of : GlobalKind → Name → Option Number → List Number → Combine → List PlainItem
  shared_of kind n length found c = IsGlobal (global_of kind (Some c) n length found) ∷ []

  abbrev SharedBy : GlobalKind → Lang (Option Number) → (Option Number → Lang (List Number)) → Lang Combine → Lang (List PlainItem)
  SharedBy kind L V C = Bind (Tok fixed.Int) (λ _. Bind (Part Any NameIs) (λ n. Bind L (λ length. Bind (V length) (λ found. Bind C (λ c.
      Map (λ (_ : Token). shared_of kind n length found c) (Tok fixed.Semicolon))))))

  pub shared_rest_of : (q : GlobalKind) → (v w : ℕ) (x : List PlainItem) (ls : List Spelt) (k : Option TokenKind)
      → SharedBy q (Part Any (MaybeLength limit)) (λ length. Part Any (MaybeValues limit length)) (Part Any SpellsCombine) v x w ls k → Part Any (SharedRest q) v x w ls k
  shared_rest_of q v w x ls k (both (tok h) (both (part (name_is id m) c) (both (part no_length a) (both (part no_numbers d) (both (part s e) (mapped (tok n))))))) =
      part (shared_rest _ h (one (unset id m)) s n) tt
  shared_rest_of q v w x ls k (both (tok h) (both (part (name_is id m) c) (both (part no_length a) (both (part (some_numbers (one_number (one_is o r))) d) (both (part s e) (mapped (tok n))))))) =
      part (shared_rest _ h (one (set id m o r)) s n) tt
  shared_rest_of q v w x ls k (both (tok h) (both (part (name_is id m) c) (both (part (some_length l) a) (both (part no_numbers d) (both (part s e) (mapped (tok n))))))) =
      part (shared_rest _ h (array id m l) s n) tt
  shared_rest_of q v w x ls k (both (tok h) (both (part (name_is id m) c) (both (part (some_length (lengths value hl hn hr)) a) (both (part (some_numbers (more_numbers (tabled equal left right o ol r or))) d)
      (both (part s e) (mapped (tok n))))))) =
      part (shared_rest _ h (valued_array equal left right id m (lengths value hl hn hr) o ol r or) s n) tt

  a_shared : (q : GlobalKind) → Exact limit (it.shared limit q) (Part Any (SharedRest q))
      (SharedBy q (Reading limit (st.maybe_length limit)) (λ length. Reading limit (it.maybe_values limit length)) (Reading limit it.combines))
  unfolding it.shared
  a_shared q = convert (shared_rest_of q) (λ v w x ls k z. z)
      (bind (token limit fixed.Int) (λ _. bind (a_name limit) (λ n. bind (maybe_length_by limit) (λ length. bind (maybe_values_by limit length) (λ found. bind (combines_by limit) (λ c.
      map_to (λ (_ : Token). shared_of q n length found c) (token limit fixed.Semicolon)))))))

  pub shared_by : (q : GlobalKind) → Exact limit (it.shared limit q) (Part Any (SharedRest q)) (Reading limit (it.shared limit q))
  shared_by q = by_reading (a_shared q).sound

  combine_first : {c : Combine} {v : ℕ} {ls : List Spelt} → SpellsCombine c v ls → (rs : List Spelt) (k : Option TokenKind) → first (ls ++ rs) k ≡ Some (kind.Word word.Combine)
  combine_first (combines p id h m n o) rs k = rw h

  shared_reads : {q : GlobalKind} {v : ℕ} {xs : List PlainItem} {ls : List Spelt} {k : Option TokenKind} → SharedRest q xs v ls → Reading limit (it.shared limit q) v xs v ls k
  shared_reads {q} (shared_rest semicolon h (one (unset id m)) s n) =
      reads_by (a_shared q) (both (tok h) (both (part (name_is id m) tt) (both (maybe_length_reads limit no_length (ap (is_fixed fixed.LeftSquare) (combine_first s _ _)))
      (both (maybe_values_read limit no_numbers (ap (is_fixed fixed.Assign) (combine_first s _ _))) (both (combines_reads limit s) (mapped (tok n)))))))
  shared_reads {q} (shared_rest semicolon h (one (set id m o r)) s n) =
      reads_by (a_shared q) (both (tok h) (both (part (name_is id m) tt) (both (maybe_length_reads limit no_length (rw o))
      (both (maybe_values_read limit (some_numbers (one_number (one_is o r))) (ap (is_fixed fixed.Assign) (combine_first s _ _))) (both (combines_reads limit s) (mapped (tok n)))))))
  shared_reads {q} (shared_rest semicolon h (array id m l) s n) =
      reads_by (a_shared q) (both (tok h) (both (part (name_is id m) tt) (both (maybe_length_reads limit (some_length l) (ap (is_fixed fixed.LeftSquare) (combine_first s _ _)))
      (both (maybe_values_read limit no_numbers (ap (is_fixed fixed.Assign) (combine_first s _ _))) (both (combines_reads limit s) (mapped (tok n)))))))
  shared_reads {q} (shared_rest semicolon h (valued_array equal left right id m (lengths value hl hn hr) o ol r or) s n) =
      reads_by (a_shared q) (both (tok h) (both (part (name_is id m) tt) (both (maybe_length_reads limit (some_length (lengths value hl hn hr)) (rw o))
      (both (maybe_values_read limit (some_numbers (more_numbers (tabled equal left right o ol r or))) (ap (is_fixed fixed.Assign) (combine_first s _ _)))
      (both (combines_reads limit s) (mapped (tok n)))))))

  -- ---- functions

  abbrev FunctionBy : Bool → Name → Lang (List Name) → Lang (Place × List Statement) → Lang (List PlainItem)
  FunctionBy gives n P B = Bind P (λ ps. Map (λ b. function_of gives n ps b.1 ∷ []) B)

  pub function_rest_of : (gives : Bool) (n : Name) → (v w : ℕ) (x : List PlainItem) (ls : List Spelt) (k : Option TokenKind)
      → FunctionBy gives n (Part Any Parameters) (Braces limit (read_statement limit (suc limit)) (sound_stmt limit (suc limit)) (λ v. v) Bodied) v x w ls k → Part Any (FunctionRest gives n) v x w ls k
  function_rest_of gives n v w x ls k (both (part s c) (mapped (between right hl (bodied b) hr))) = part (function_rest s (block right hl b hr)) tt

  a_function : (gives : Bool) (n : Name) → Exact limit (it.function limit gives n) (Part Any (FunctionRest gives n)) (FunctionBy gives n (Reading limit (it.parameters limit)) (Reading limit (st.block limit (read_statement limit (suc limit)))))
  unfolding it.function
  a_function gives n = convert (function_rest_of gives n) (λ v w x ls k q. q)
      (bind (parameters_by limit) (λ ps. map_to (λ b. function_of gives n ps b.1 ∷ []) (block_here limit (read_statement limit (suc limit)) (sound_stmt limit (suc limit)))))

  pub function_by : (gives : Bool) (n : Name) → Exact limit (it.function limit gives n) (Part Any (FunctionRest gives n)) (Reading limit (it.function limit gives n))
  function_by gives n = by_reading (a_function gives n).sound

  function_reads : {gives : Bool} {n : Name} {v : ℕ} {xs : List PlainItem} {ls : List Spelt} {k : Option TokenKind} → FunctionRest gives n xs v ls → Reading limit (it.function limit gives n) v xs v ls k
  function_reads {gives} {n} (function_rest s b) =
      reads_by (a_function gives n) (both (parameters_read limit s) (mapped (here_reads limit (suc limit) b (block_reads limit b) (omega arith))))

  -- ---- plain globals

  with_some : {v w : ℕ} {comma : Token} {xs : List PlainItem} {ls : List Spelt} (k : Option TokenKind) → IsMark mark.Comma comma → Wrapped (Scalar glob.Plain None) v xs w ls → Part Any MoreGlobals v xs w (at comma v ∷ ls) k
  with_some k h (wrapped s) = part (some_globals h s) tt

  pub more_of : (v w : ℕ) (x : List PlainItem) (ls : List Spelt) (k : Option TokenKind)
      → If fixed.Comma (Bind (Tok fixed.Comma) (λ _. Listed (Part Any (IsItem (Scalar glob.Plain None))))) (Done []) v x w ls k → Part Any MoreGlobals v x w ls k
  more_of v w x ls k (on e (both (tok h) q)) = with_some k h (wrap_in q)
  more_of v w x ls k (off e done) = part no_globals tt

  a_more : Exact limit (it.more_globals limit) (Part Any MoreGlobals) (If fixed.Comma (Bind (Tok fixed.Comma) (λ _. Listed (Full (Reading limit (it.declared_item limit (decl.Valued glob.Plain)))))) (Done []))
  unfolding it.more_globals
  a_more = convert more_of (λ v w x ls k q. q) (either fixed.Comma (bind (token limit fixed.Comma) (λ _. declared_list limit (decl.Valued glob.Plain))) (done_at []))

  pub more_by : Exact limit (it.more_globals limit) (Part Any MoreGlobals) (Reading limit (it.more_globals limit))
  more_by = by_reading a_more.sound

  more_reads : {v : ℕ} {xs : List PlainItem} {ls : List Spelt} {k : Option TokenKind} → MoreGlobals xs v ls → ends k ≡ true → is_fixed fixed.Comma k ≡ false → Reading limit (it.more_globals limit) v xs v ls k
  more_reads no_globals e n = reads_by a_more (off n done)
  more_reads {v} (some_globals {comma = t} h s) e n =
      reads_by a_more (on (is_so fixed.Comma t h) (both (tok h)
      (items_read (λ g ls k q e. declared_reads limit (decl.Valued glob.Plain) g v ls k q e) (λ g ls q. declared_filled limit (decl.Valued glob.Plain) g v ls q) s e n)))

  abbrev PlainBy : Name → Lang (List Number) → Lang (List PlainItem) → Lang (List PlainItem)
  PlainBy n V M = Bind V (λ found. Bind M (λ more. Map (λ (_ : Token). plain_of n found ∷ more) (Tok fixed.Semicolon)))

  pub plain_rest_of : (n : Name) → (v w : ℕ) (x : List PlainItem) (ls : List Spelt) (k : Option TokenKind) → PlainBy n (Part Any MaybeValue) (Part Any MoreGlobals) v x w ls k → Part Any (PlainRest n) v x w ls k
  plain_rest_of n v w x ls k (both (part s c) (both (part r d) (mapped (tok m)))) = part (plain_rest _ s r m) tt

  a_plain : (n : Name) → Exact limit (it.plain_globals limit n) (Part Any (PlainRest n)) (PlainBy n (Reading limit it.maybe_value) (Reading limit (it.more_globals limit)))
  unfolding it.plain_globals
  a_plain n = convert (plain_rest_of n) (λ v w x ls k q. q) (bind (maybe_value_by limit) (λ found. bind more_by (λ more. map_to (λ (_ : Token). plain_of n found ∷ more) (token limit fixed.Semicolon))))

  pub plain_by : (n : Name) → Exact limit (it.plain_globals limit n) (Part Any (PlainRest n)) (Reading limit (it.plain_globals limit n))
  plain_by n = by_reading (a_plain n).sound

  more_assign : {xs : List PlainItem} {v : ℕ} {ls : List Spelt} → MoreGlobals xs v ls → (t : Token) → IsMark mark.Semicolon t → (k : Option TokenKind) → is_fixed fixed.Assign (first (ls ++ (at t v ∷ [])) k) ≡ false
  more_assign no_globals t h k = rw h
  more_assign (some_globals m s) t h k = rw m

  plain_reads : {n : Name} {v : ℕ} {xs : List PlainItem} {ls : List Spelt} {k : Option TokenKind} → PlainRest n xs v ls → Reading limit (it.plain_globals limit n) v xs v ls k
  plain_reads {n} {k = k} (plain_rest semicolon s r m) =
      reads_by (a_plain n) (both (maybe_value_reads limit s (more_assign r semicolon m k)) (both (more_reads r (semicolon_ends semicolon m) (semicolon_comma semicolon m)) (mapped (tok m))))

  -- ---- items

  data OutputRest : List PlainItem → ℕ → List Spelt → Type 0 where
    output_ints : {v : ℕ} {xs : List PlainItem} {ls : List Spelt} → Ints (decl.Valued glob.Output) xs v ls → OutputRest xs v ls
    output_shares : {v : ℕ} {t : Token} {xs : List PlainItem} {ls : List Spelt} → IsWord word.Shared t → SharedRest glob.SharedOutput xs v ls → OutputRest xs v (at t v ∷ ls)

  abbrev pub OutputBy : Lang (List PlainItem) → Lang (List PlainItem) → Lang (List PlainItem)
  OutputBy S I = Bind (Tok fixed.Output) (λ _. If fixed.Shared (Bind (Tok fixed.Shared) (λ _. S)) I)

  an_output : Exact limit (it.outputs limit) (OutputBy (Part Any (SharedRest glob.SharedOutput)) (Part Any (Ints (decl.Valued glob.Output))))
      (OutputBy (Reading limit (it.shared limit glob.SharedOutput)) (Reading limit (it.ints limit (decl.Valued glob.Output))))
  unfolding it.outputs it.output_shared
  an_output = bind (token limit fixed.Output) (λ _. either fixed.Shared (bind (token limit fixed.Shared) (λ _. shared_by glob.SharedOutput)) (ints_by (decl.Valued glob.Output)))

  abbrev pub SharedGlobalsBy : Lang (List PlainItem) → Lang (List PlainItem) → Lang (List PlainItem)
  SharedGlobalsBy O S = Bind (Tok fixed.Shared) (λ _. If fixed.Output (Bind (Tok fixed.Output) (λ _. O)) S)

  a_share : Exact limit (it.shared_globals limit) (SharedGlobalsBy (Part Any (SharedRest glob.SharedOutput)) (Part Any (SharedRest glob.Shared)))
      (SharedGlobalsBy (Reading limit (it.shared limit glob.SharedOutput)) (Reading limit (it.shared limit glob.Shared)))
  unfolding it.shared_globals it.shared_output
  a_share = bind (token limit fixed.Shared) (λ _. either fixed.Output (bind (token limit fixed.Output) (λ _. shared_by glob.SharedOutput)) (shared_by glob.Shared))

  abbrev pub NumberBy : (Bool → Name → Lang (List PlainItem)) → (Name → Lang (List PlainItem)) → Lang (List PlainItem)
  NumberBy F P = Bind (Tok fixed.Int) (λ _. Bind (Part Any NameIs) (λ n. If fixed.LeftRound (F true n) (P n)))

  a_number : Exact limit (it.int_item limit) (NumberBy (λ gives n. Part Any (FunctionRest gives n)) (λ n. Part Any (PlainRest n)))
      (NumberBy (λ gives n. Reading limit (it.function limit gives n)) (λ n. Reading limit (it.plain_globals limit n)))
  unfolding it.int_item
  a_number = bind (token limit fixed.Int) (λ _. bind (a_name limit) (λ n. either fixed.LeftRound (function_by true n) (plain_by n)))

  abbrev IntsBehind : Fixed → Lang (List PlainItem) → Lang (List PlainItem)
  IntsBehind f I = Bind (Tok f) (λ _. I)

  abbrev pub VoidBy : (Name → Lang (List PlainItem)) → Lang (List PlainItem)
  VoidBy F = Bind (Tok fixed.Void) (λ _. Bind (Part Any NameIs) F)

  a_void : Exact limit (it.item_by limit opening.Void) (VoidBy (λ n. Part Any (FunctionRest false n))) (VoidBy (λ n. Reading limit (it.function limit false n)))
  a_void = bind (token limit fixed.Void) (λ _. bind (a_name limit) (λ n. function_by false n))

  pub constants_of : {v w : ℕ} {xs : List PlainItem} {ls : List Spelt} {k : Option TokenKind} → Bind (Tok fixed.Const) (λ _. Part Any (Ints decl.Table)) v xs w ls k → Part Any Introduces v xs w ls k
  constants_of (both (tok h) (part (ints semicolon m s n) c)) = part (constants semicolon h m s n) tt

  pub inputs_of : {v w : ℕ} {xs : List PlainItem} {ls : List Spelt} {k : Option TokenKind} → Bind (Tok fixed.Input) (λ _. Part Any (Ints decl.Bare)) v xs w ls k → Part Any Introduces v xs w ls k
  inputs_of (both (tok h) (part (ints semicolon m s n) c)) = part (inputs semicolon h m s n) tt

  pub outputs_of : {v w : ℕ} {xs : List PlainItem} {ls : List Spelt} {k : Option TokenKind} → OutputBy (Part Any (SharedRest glob.SharedOutput)) (Part Any (Ints (decl.Valued glob.Output))) v xs w ls k → Part Any Introduces v xs w ls k
  outputs_of (both (tok h) (on e (both (tok o) (part (shared_rest semicolon m s c n) d)))) = part (shared_globals _ semicolon (sp.output_shared h o) m s c n) tt
  outputs_of (both (tok h) (off e (part (ints semicolon m s n) c))) = part (outputs semicolon h m s n) tt

  pub shares_of : {v w : ℕ} {xs : List PlainItem} {ls : List Spelt} {k : Option TokenKind} → SharedGlobalsBy (Part Any (SharedRest glob.SharedOutput)) (Part Any (SharedRest glob.Shared)) v xs w ls k → Part Any Introduces v xs w ls k
  shares_of (both (tok h) (on e (both (tok o) (part (shared_rest semicolon m s c n) d)))) = part (shared_globals _ semicolon (sp.shared_output h o) m s c n) tt
  shares_of (both (tok h) (off e (part (shared_rest semicolon m s c n) d))) = part (shared_globals _ semicolon (sp.shared h) m s c n) tt

  pub void_of : {v w : ℕ} {xs : List PlainItem} {ls : List Spelt} {k : Option TokenKind} → VoidBy (λ n. Part Any (FunctionRest false n)) v xs w ls k → Part Any Introduces v xs w ls k
  void_of (both (tok h) (both (part (name_is id m) c) (part (function_rest s b) d))) = part (function false id h m s b) tt

  pub numbers_of : {v w : ℕ} {xs : List PlainItem} {ls : List Spelt} {k : Option TokenKind} → NumberBy (λ gives n. Part Any (FunctionRest gives n)) (λ n. Part Any (PlainRest n)) v xs w ls k → Part Any Introduces v xs w ls k
  numbers_of (both (tok h) (both (part (name_is id m) c) (on e (part (function_rest s b) d)))) = part (function true id h m s b) tt
  numbers_of (both (tok h) (both (part (name_is id m) c) (off e (part (plain_rest semicolon no_value no_globals n) d)))) = part (globals semicolon h (last_part (unset id m)) n) tt
  numbers_of (both (tok h) (both (part (name_is id m) c) (off e (part (plain_rest semicolon no_value (some_globals o r) n) d)))) = part (globals semicolon h (next_part _ (unset id m) o r) n) tt
  numbers_of (both (tok h) (both (part (name_is id m) c) (off e (part (plain_rest semicolon (some_value q (positive x y)) no_globals n) d)))) = part (globals semicolon h (last_part (set id m q (positive x y))) n) tt
  numbers_of (both (tok h) (both (part (name_is id m) c) (off e (part (plain_rest semicolon (some_value q (negative x y z)) no_globals n) d)))) = part (globals semicolon h (last_part (set id m q (negative x y z))) n) tt
  numbers_of (both (tok h) (both (part (name_is id m) c) (off e (part (plain_rest semicolon (some_value q (positive x y)) (some_globals o r) n) d)))) =
      part (globals semicolon h (next_part _ (set id m q (positive x y)) o r) n) tt
  numbers_of (both (tok h) (both (part (name_is id m) c) (off e (part (plain_rest semicolon (some_value q (negative x y z)) (some_globals o r) n) d)))) =
      part (globals semicolon h (next_part _ (set id m q (negative x y z)) o r) n) tt

  item_of : (o : Opening) (i j : Input) (xs : List PlainItem) → i.level ≤ limit → it.item_by limit o i ≡ Ok (xs, j) → Read limit (Part Any Introduces) xs i j
  item_of opening.Const i j x small h = read_as ((bind (token limit fixed.Const) (λ _. ints_by decl.Table)).sound i j x small h) (λ ls e q. constants_of q)
  item_of opening.Input i j x small h = read_as ((bind (token limit fixed.Input) (λ _. ints_by decl.Bare)).sound i j x small h) (λ ls e q. inputs_of q)
  item_of opening.Output i j x small h = read_as (an_output.sound i j x small h) (λ ls e q. outputs_of q)
  item_of opening.Shared i j x small h = read_as (a_share.sound i j x small h) (λ ls e q. shares_of q)
  item_of opening.Int i j x small h = read_as (a_number.sound i j x small h) (λ ls e q. numbers_of q)
  item_of opening.Void i j x small h = read_as (a_void.sound i j x small h) (λ ls e q. void_of q)
  item_of opening.Nothing i j x small h = absurd (cc)

  pub sound_item : (i j : Input) (xs : List PlainItem) → i.level ≤ limit → it.item limit i ≡ Ok (xs, j) → Read limit (Part Any Introduces) xs i j
  unfolding it.item
  sound_item i j xs small h = item_of (opening_of (kind_ahead i.rest)) i j xs small h

  -- ---- and the other way

  begins_so : {xs : List PlainItem} {v : ℕ} {ls : List Spelt} {k : Option TokenKind} (o : Opening) → opening_of (first ls k) ≡ o → Reading limit (it.item_by limit o) v xs v ls k → Reading limit (it.item limit) v xs v ls k
  unfolding it.item
  begins_so {xs} {v} {ls} {k} o h r = reading (λ rest e.
      let c : opening_of (kind_ahead (tokens ls ++ rest)) ≡ o = ap opening_of (first-is ls rest ∙ ap (first ls) e) ∙ h in
      rw c (read_at r rest e))

  by_plain : {v id : ℕ} {int t : Token} {xs : List PlainItem} {ls : List Spelt} {k : Option TokenKind} → IsWord word.Int int → IsNameToken id t → is_fixed fixed.LeftRound (first ls k) ≡ false
      → PlainRest (name_at id t.place) xs v ls → Reading limit (it.item limit) v xs v (at int v ∷ at t v ∷ ls) k
  by_plain {id = id} h m n r = begins_so opening.Int (rw h) (reads_by a_number (both (tok h) (both (part (name_is id m) tt) (off n (plain_reads r)))))

  parameters_first : {xs : List Name} {v : ℕ} {ls : List Spelt} → Parameters xs v ls → (rs : List Spelt) (k : Option TokenKind) → first (ls ++ rs) k ≡ Some (kind.Mark mark.LeftRound)
  parameters_first (parameters right hl s hr) rs k = rw hl

  by_int : {v : ℕ} {int t : Token} {place : Place} {names : List Name} {body : List Statement} {ls ms : List Spelt} {k : Option TokenKind} (id : ℕ) → IsWord word.Int int → IsNameToken id t → Parameters names v ls → Block place body v v ms
      → Reading limit (it.item limit) v (function_of true (name_at id t.place) names body ∷ []) v (at int v ∷ at t v ∷ (ls ++ ms)) k
  by_int {k = k} id h m s b =
      begins_so opening.Int (rw h) (reads_by a_number (both (tok h) (both (part (name_is id m) tt) (on (ap (is_fixed fixed.LeftRound) (parameters_first s _ k)) (function_reads (function_rest s b))))))

  by_void : {v : ℕ} {void t : Token} {place : Place} {names : List Name} {body : List Statement} {ls ms : List Spelt} {k : Option TokenKind} (id : ℕ) → IsWord word.Void void → IsNameToken id t → Parameters names v ls → Block place body v v ms
      → Reading limit (it.item limit) v (function_of false (name_at id t.place) names body ∷ []) v (at void v ∷ at t v ∷ (ls ++ ms)) k
  by_void id h m s b = begins_so opening.Void (rw h) (reads_by a_void (both (tok h) (both (part (name_is id m) tt) (function_reads (function_rest s b)))))

  by_gives : (gives : Bool) {v : ℕ} {t name : Token} {place : Place} {names : List Name} {body : List Statement} {ls ms : List Spelt} {k : Option TokenKind} (id : ℕ) → IsWord (gives_word gives) t → IsNameToken id name
      → Parameters names v ls → Block place body v v ms
      → Reading limit (it.item limit) v (function_of gives (name_at id name.place) names body ∷ []) v (at t v ∷ at name v ∷ (ls ++ ms)) k
  by_gives true id h m s b = by_int id h m s b
  by_gives false id h m s b = by_void id h m s b

  pub item_reads : {v : ℕ} {xs : List PlainItem} {ls : List Spelt} {k : Option TokenKind} → Introduces xs v ls → Reading limit (it.item limit) v xs v ls k
  item_reads (constants semicolon h m s n) = begins_so opening.Const (rw h) (reads_by (bind (token limit fixed.Const) (λ _. ints_by decl.Table)) (both (tok h) (ints_read (ints semicolon m s n))))
  item_reads (inputs semicolon h m s n) = begins_so opening.Input (rw h) (reads_by (bind (token limit fixed.Input) (λ _. ints_by decl.Bare)) (both (tok h) (ints_read (ints semicolon m s n))))
  item_reads (outputs semicolon h m s n) = begins_so opening.Output (rw h) (reads_by an_output (both (tok h) (off (rw m) (ints_read (ints semicolon m s n)))))
  item_reads (globals semicolon h (last_part (unset id m)) n) = by_plain h m (rw n) (plain_rest semicolon no_value no_globals n)
  item_reads (globals semicolon h (last_part (set id m q (positive x y))) n) = by_plain h m (rw q) (plain_rest semicolon (some_value q (positive x y)) no_globals n)
  item_reads (globals semicolon h (last_part (set id m q (negative x y z))) n) = by_plain h m (rw q) (plain_rest semicolon (some_value q (negative x y z)) no_globals n)
  item_reads (globals semicolon h (next_part comma (unset id m) o r) n) = by_plain h m (rw o) (plain_rest semicolon no_value (some_globals o r) n)
  item_reads (globals semicolon h (next_part comma (set id m q (positive x y)) o r) n) = by_plain h m (rw q) (plain_rest semicolon (some_value q (positive x y)) (some_globals o r) n)
  item_reads (globals semicolon h (next_part comma (set id m q (negative x y z)) o r) n) = by_plain h m (rw q) (plain_rest semicolon (some_value q (negative x y z)) (some_globals o r) n)
  item_reads (shared_globals int semicolon (sp.shared h) m s c n) = begins_so opening.Shared (rw h) (reads_by a_share (both (tok h) (off (rw m) (shared_reads (shared_rest semicolon m s c n)))))
  item_reads (shared_globals int semicolon (sp.shared_output {s = t} h o) m s c n) =
      begins_so opening.Shared (rw h) (reads_by a_share (both (tok h) (on (is_so fixed.Output t o) (both (tok o) (shared_reads (shared_rest semicolon m s c n))))))
  item_reads (shared_globals int semicolon (sp.output_shared {s = t} h o) m s c n) =
      begins_so opening.Output (rw h) (reads_by an_output (both (tok h) (on (is_so fixed.Shared t o) (both (tok o) (shared_reads (shared_rest semicolon m s c n))))))
  item_reads (function gives id h m s b) = by_gives gives id h m s b

  pub item_filled : {v : ℕ} {xs : List PlainItem} {ls : List Spelt} → Introduces xs v ls → Filled ls
  item_filled (constants semicolon h m s n) = tt
  item_filled (inputs semicolon h m s n) = tt
  item_filled (outputs semicolon h m s n) = tt
  item_filled (globals semicolon h s n) = tt
  item_filled (shared_globals int semicolon (sp.shared h) m s c n) = tt
  item_filled (shared_globals int semicolon (sp.shared_output h o) m s c n) = tt
  item_filled (shared_globals int semicolon (sp.output_shared h o) m s c n) = tt
  item_filled (function gives id h m s b) = tt
