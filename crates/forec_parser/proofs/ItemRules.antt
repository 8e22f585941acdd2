-- Parts of globals and functions: what is read, both ways.
use mathlib.Core.Path.{subst}
use Rattle.std.proofs.Common.{◌≡◌, ℕ, ◌+◌, ◌≤◌, true, false, List, [], ◌∷◌, ◌++◌, map, Option, Some, None, Ok, refl, sym, ap, arith}
use Rattle.forec_base.specs.declared.Policy.{Policy}
use Rattle.forec_base.specs.declared.Policy.TheVariants as policy
use Rattle.forec_base.specs.declared.operators.Unary.TheVariants as un
use Rattle.forec_base.specs.Numbers.{unary_of}
use Rattle.forec_tree.specs.declared.token.Token.{Token}
use Rattle.forec_tree.specs.declared.token.TokenKind.{TokenKind}
use Rattle.forec_tree.specs.declared.token.TokenKind.TheVariants as kind
use Rattle.forec_tree.specs.declared.token.Mark.TheVariants as mark
use Rattle.forec_tree.specs.declared.token.Word.TheVariants as word
use Rattle.forec_tree.specs.declared.tree.Name.{Name}
use Rattle.forec_tree.specs.declared.tree.Number.{Number}
use Rattle.forec_tree.specs.declared.tree.Combine.{Combine}
use Rattle.forec_tree.specs.declared.tree.GlobalKind.{GlobalKind}
use Rattle.forec_tree.specs.declared.tree.GlobalKind.TheVariants as glob
use Rattle.forec_tree.specs.Terms.{PlainGlobal, PlainItem, IsGlobal}
use Rattle.forec_tree.specs.Parts.{number_at, global_of}
use Rattle.forec_tree.specs.Spelling.{Spelt, at, IsMark, IsWord}
use Rattle.forec_tree.specs.SpelledStatements.{Separated, last_part, next_part}
use Rattle.forec_tree.specs.SpelledPrograms.{Signed, positive, negative, Named, named, Scalar, unset, set, Table, constant, table, policy_word, SpellsCombine, combines, Param, param, Params, no_params, void_params, params, Parameters, parameters}
use Rattle.expr_parser.specs.declared.fixed.Fixed.TheVariants as fixed
use Rattle.statement_parser.specs.declared.meaning.Declarator.{Declarator}
use Rattle.statement_parser.specs.declared.meaning.Declarator.TheVariants as decl
use Rattle.expr_parser.specs.Input.{Input, Parser, kind_ahead, take}
use Rattle.expr_parser.specs.Meaning.{is_fixed}
use Rattle.statement_parser.specs.Meaning.{token_policy}
use Rattle.expr_parser.specs.Reading.{separated}
use Rattle.statement_parser.specs.Statements as st
use Rattle.forec_parser.specs.Items as it
use Rattle.forec_parser.specs.Items.{combine_with}
use Rattle.expr_parser.proofs.Spans.{first, step, ok_pair, took, head_kind, take_ok}
use Rattle.expr_parser.proofs.Closers.{fixed-kind}
use Rattle.expr_parser.proofs.Exact.{Lang, Read, Exact, Bind, both, Map, mapped, Done, done, If, on, off, Part, part, Reading, reading, Any, comes, bind, map_to, convert, either, done_at, by_reading, read_as, reads_by}
use Rattle.expr_parser.proofs.Leaves.{Tok, tok, NameIs, name_is, NumberIs, number_is, token, a_name, a_number, Enclosed, EnclosedBy, between, encloses, enclosing, Listed, end_of_list, next_of_list, full_commas, Full, full, Filled, is_so}
use Rattle.expr_parser.proofs.Operators.{ends, ends_assign}
use Rattle.statement_parser.proofs.Marks.{curly_ends, curly_comma}
use Rattle.statement_parser.proofs.SimpleRules.{a_list, list_reads}
use Rattle.statement_parser.proofs.PartRules.{MaybeLength, some_length, no_length, maybe_length_by, maybe_length_reads}

round_ends : (k : Option TokenKind) → is_fixed fixed.RightRound k ≡ true → ends k ≡ true
round_ends k h = ap ends (fixed-kind fixed.RightRound k h)

round_comma : (k : Option TokenKind) → is_fixed fixed.RightRound k ≡ true → is_fixed fixed.Comma k ≡ false
round_comma k h = ap (is_fixed fixed.Comma) (fixed-kind fixed.RightRound k h)

-- ---- policies

abbrev HasPolicy : Option TokenKind → Option Policy → Type 0
HasPolicy k None = Unit {0}
HasPolicy k (Some p) = k ≡ Some (kind.Word (policy_word p))

has_policy : (k : Option TokenKind) → HasPolicy k (token_policy k)
has_policy (Some (kind.Word word.All)) = refl
has_policy (Some (kind.Word word.New)) = refl
has_policy (Some (kind.Word word.Mod)) = refl
has_policy _ = tt

policy_is_so : (p : Policy) → token_policy (Some (kind.Word (policy_word p))) ≡ Some p
policy_is_so policy.All = refl
policy_is_so policy.New = refl
policy_is_so policy.Mod = refl

pub data PolicyIs : Policy → ℕ → List Spelt → Type 0 where
  policy_is : {v : ℕ} {t : Token} (p : Policy) → IsWord (policy_word p) t → PolicyIs p v (at t v ∷ [])

-- ---- what is after a name

pub data MaybeValue : List Number → ℕ → List Spelt → Type 0 where
  no_value : {v : ℕ} → MaybeValue [] v []
  some_value : {v : ℕ} {t : Token} {n : Number} {ls : List Spelt} → IsMark mark.Assign t → Signed n v ls → MaybeValue (n ∷ []) v (at t v ∷ ls)

-- an item that is a global
pub data IsItem (R : PlainGlobal → ℕ → List Spelt → Type 0) : PlainItem → ℕ → List Spelt → Type 0 where
  is_item : {v : ℕ} {g : PlainGlobal} {ls : List Spelt} → R g v ls → IsItem R (IsGlobal g) v ls

pub data Wrapped (R : PlainGlobal → ℕ → List Spelt → Type 0) : ℕ → List PlainItem → ℕ → List Spelt → Type 0 where
  wrapped : {v : ℕ} {gs : List PlainGlobal} {ls : List Spelt} → Separated R gs v ls → Wrapped R v (map IsGlobal gs) v ls

abbrev pub DeclaredAs : Declarator → PlainGlobal → ℕ → List Spelt → Type 0
DeclaredAs decl.Table = Table
DeclaredAs decl.Bare = Named glob.Input
DeclaredAs (decl.Valued k) = Scalar k None

wrap_next : {R : PlainGlobal → ℕ → List Spelt → Type 0} {v w : ℕ} {g : PlainGlobal} {xs : List PlainItem} {rs : List Spelt} (ls : List Spelt) (comma : Token) → R g v ls → IsMark mark.Comma comma → Wrapped R v xs w rs
    → Wrapped R v (IsGlobal g ∷ xs) w (ls ++ (at comma v ∷ rs))
wrap_next ls comma s h (wrapped r) = wrapped (next_part comma s h r)

pub wrap_in : {R : PlainGlobal → ℕ → List Spelt → Type 0} {v w : ℕ} {xs : List PlainItem} {ls : List Spelt} {k : Option TokenKind} → Listed (Part Any (IsItem R)) v xs w ls k → Wrapped R v xs w ls
wrap_in (end_of_list (part (is_item s) c) e) = wrapped (last_part s)
wrap_in (next_of_list comma {ls = ls} (part (is_item s) c) h rest) = wrap_next ls comma s h (wrap_in rest)

-- the items of a list of globals are read
pub items_read : {limit : ℕ} {p : Parser PlainItem} {R : PlainGlobal → ℕ → List Spelt → Type 0} {v : ℕ} {gs : List PlainGlobal} {ls : List Spelt} {k : Option TokenKind}
    → ((g : PlainGlobal) (ls : List Spelt) (k : Option TokenKind) → R g v ls → ends k ≡ true → Reading limit p v (IsGlobal g) v ls k) → ((g : PlainGlobal) (ls : List Spelt) → R g v ls → Filled ls)
    → Separated R gs v ls → ends k ≡ true → is_fixed fixed.Comma k ≡ false → Listed (Full (Reading limit p)) v (map IsGlobal gs) v ls k
items_read {k = k} f g (last_part {x = x} {ls = ls} s) e n = end_of_list (full (f x ls k s e) (g x ls s)) n
items_read f g (next_part {x = x} comma {ls = ls} s h r) e n = next_of_list comma (full (f x ls (Some comma.kind) s (comma_ends comma h)) (g x ls s)) h (items_read f g r e n)
  where
    comma_ends : (t : Token) → IsMark mark.Comma t → ends (Some t.kind) ≡ true
    comma_ends t h = rw h

module _ (limit : ℕ) where
  -- ---- values

  abbrev pub negated : Token → Number → Number
  negated t n = number_at (unary_of un.Minus n.value) t.place

  abbrev SignedBy : Lang Number
  SignedBy = If fixed.Minus (Bind (Tok fixed.Minus) (λ t. Map (negated t) (Part Any NumberIs))) (Part Any NumberIs)

  pub signed_number_of : (v w : ℕ) (x : Number) (ls : List Spelt) (k : Option TokenKind) → SignedBy v x w ls k → Part Any Signed v x w ls k
  signed_number_of v w x ls k (on e (both (tok h) (mapped (part (number_is value m) c)))) = part (negative value h m) tt
  signed_number_of v w x ls k (off e (part (number_is value m) c)) = part (positive value m) tt

  a_signed : Exact limit it.signed (Part Any Signed) SignedBy
  unfolding it.signed it.negative_number
  a_signed = convert signed_number_of (λ v w x ls k q. q) (either fixed.Minus (bind (token limit fixed.Minus) (λ t. map_to (negated t) (a_number limit))) (a_number limit))

  pub signed_by : Exact limit it.signed (Part Any Signed) (Reading limit it.signed)
  signed_by = by_reading a_signed.sound

  pub signed_reads : {v : ℕ} {x : Number} {ls : List Spelt} {k : Option TokenKind} → Signed x v ls → Reading limit it.signed v x v ls k
  signed_reads (positive value m) = reads_by a_signed (off (rw m) (part (number_is value m) tt))
  signed_reads (negative {minus = t} value h m) = reads_by a_signed (on (is_so fixed.Minus t h) (both (tok h) (mapped (part (number_is value m) tt))))

  signed_filled : (n : Number) {v : ℕ} (ls : List Spelt) → Signed n v ls → Filled ls
  signed_filled n ls (positive value m) = tt
  signed_filled n ls (negative value h m) = tt

  pub data OneValue : List Number → ℕ → List Spelt → Type 0 where
    one_is : {v : ℕ} {t : Token} {n : Number} {ls : List Spelt} → IsMark mark.Assign t → Signed n v ls → OneValue (n ∷ []) v (at t v ∷ ls)

  pub one_value_of : (v w : ℕ) (x : List Number) (ls : List Spelt) (k : Option TokenKind) → Bind (Tok fixed.Assign) (λ _. Map (λ n. n ∷ []) (Part Any Signed)) v x w ls k → Part Any OneValue v x w ls k
  one_value_of v w x ls k (both (tok h) (mapped (part s c))) = part (one_is h s) tt

  a_one_value : Exact limit it.one_value (Part Any OneValue) (Bind (Tok fixed.Assign) (λ _. Map (λ n. n ∷ []) (Reading limit it.signed)))
  unfolding it.one_value
  a_one_value = convert one_value_of (λ v w x ls k q. q) (bind (token limit fixed.Assign) (λ _. map_to (λ n. n ∷ []) signed_by))

  pub one_value_by : Exact limit it.one_value (Part Any OneValue) (Reading limit it.one_value)
  one_value_by = by_reading a_one_value.sound

  one_value_reads : {v : ℕ} {xs : List Number} {ls : List Spelt} {k : Option TokenKind} → OneValue xs v ls → Reading limit it.one_value v xs v ls k
  one_value_reads (one_is h s) = reads_by a_one_value (both (tok h) (mapped (signed_reads s)))

  pub maybe_value_of : (v w : ℕ) (x : List Number) (ls : List Spelt) (k : Option TokenKind) → If fixed.Assign (Part Any OneValue) (Done []) v x w ls k → Part Any MaybeValue v x w ls k
  maybe_value_of v w x ls k (on e (part (one_is h s) c)) = part (some_value h s) tt
  maybe_value_of v w x ls k (off e done) = part no_value tt

  a_maybe_value : Exact limit it.maybe_value (Part Any MaybeValue) (If fixed.Assign (Reading limit it.one_value) (Done []))
  unfolding it.maybe_value
  a_maybe_value = convert maybe_value_of (λ v w x ls k q. q) (either fixed.Assign one_value_by (done_at []))

  pub maybe_value_by : Exact limit it.maybe_value (Part Any MaybeValue) (Reading limit it.maybe_value)
  maybe_value_by = by_reading a_maybe_value.sound

  pub maybe_value_reads : {v : ℕ} {xs : List Number} {ls : List Spelt} {k : Option TokenKind} → MaybeValue xs v ls → is_fixed fixed.Assign k ≡ false → Reading limit it.maybe_value v xs v ls k
  maybe_value_reads no_value n = reads_by a_maybe_value (off n done)
  maybe_value_reads (some_value {t = t} h s) n = reads_by a_maybe_value (on (is_so fixed.Assign t h) (one_value_reads (one_is h s)))

  -- ---- how copies are combined

  policy_read : (i j : Input) (p : Policy) → i.level ≤ limit → (o : Option Policy) → HasPolicy (kind_ahead i.rest) o → it.policy_by o i ≡ Ok (p, j) → Read limit (Part Any PolicyIs) p i j
  policy_read i j p small None s h = absurd (cc)
  policy_read i j p small (Some q) s h =
      let a = step (take i) (λ t k. Ok (q, k)) (p, j) h in
      let t = took i.rest i.level a.value a.state a.was in
      let e = ok_pair q p a.state j a.goes in
      let is : IsWord (policy_word q) a.value = head_kind i.rest a.state.rest a.value (kind.Word (policy_word q)) t.front s in
      let R : ℕ → Type 0 = λ z. Part Any PolicyIs i.level q z (at a.value i.level ∷ []) (kind_ahead a.state.rest) in
      let made : Read limit (Part Any PolicyIs) q i a.state =
      record { spelt = at a.value i.level ∷ []; front = t.front; spells = subst R (sym t.level) (part (policy_is q is) tt); within = (small, tt); small = omega (arith, t.level) } in
      let S : Input → Type 0 = λ z. Read limit (Part Any PolicyIs) q i z in
      let T : Policy → Type 0 = λ z. Read limit (Part Any PolicyIs) z i j in
      subst T e.0 (subst S e.1 made)

  pub a_policy : Exact limit it.policy (Part Any PolicyIs) (Reading limit it.policy)
  unfolding it.policy
  a_policy = by_reading (λ i j p small h. policy_read i j p small (token_policy (kind_ahead i.rest)) (has_policy (kind_ahead i.rest)) h)

  policy_reads : {v : ℕ} {p : Policy} {ls : List Spelt} {k : Option TokenKind} → PolicyIs p v ls → Reading limit it.policy v p v ls k
  unfolding it.policy
  policy_reads (policy_is {v} {t} p h) = reading (λ rest e. let f : token_policy (Some t.kind) ≡ Some p = rw h (policy_is_so p) in rw (f, take_ok) comes)

  abbrev CombinesBy : Lang Policy → Lang Combine
  CombinesBy P = Bind (Tok fixed.Combine) (λ _. Bind P (λ p. Bind (Tok fixed.With) (λ _. Map (combine_with p) (Part Any NameIs))))

  pub combines_of : (v w : ℕ) (x : Combine) (ls : List Spelt) (k : Option TokenKind) → CombinesBy (Part Any PolicyIs) v x w ls k → Part Any SpellsCombine v x w ls k
  combines_of v w x ls k (both (tok h) (both (part (policy_is p m) c) (both (tok n) (mapped (part (name_is id o) d))))) = part (combines p id h m n o) tt

  a_combines : Exact limit it.combines (Part Any SpellsCombine) (CombinesBy (Reading limit it.policy))
  unfolding it.combines
  a_combines = convert combines_of (λ v w x ls k q. q) (bind (token limit fixed.Combine) (λ _. bind a_policy (λ p. bind (token limit fixed.With) (λ _. map_to (combine_with p) (a_name limit)))))

  pub combines_by : Exact limit it.combines (Part Any SpellsCombine) (Reading limit it.combines)
  combines_by = by_reading a_combines.sound

  pub combines_reads : {v : ℕ} {x : Combine} {ls : List Spelt} {k : Option TokenKind} → SpellsCombine x v ls → Reading limit it.combines v x v ls k
  combines_reads (combines p id h m n o) = reads_by a_combines (both (tok h) (both (policy_reads (policy_is p m)) (both (tok n) (mapped (part (name_is id o) tt)))))

  -- ---- parameters

  pub param_of : (v w : ℕ) (x : Name) (ls : List Spelt) (k : Option TokenKind) → Bind (Tok fixed.Int) (λ _. Part Any NameIs) v x w ls k → Part Any Param v x w ls k
  param_of v w x ls k (both (tok h) (part (name_is id m) c)) = part (param id h m) tt

  a_param : Exact limit it.param (Part Any Param) (Bind (Tok fixed.Int) (λ _. Part Any NameIs))
  unfolding it.param
  a_param = convert param_of (λ v w x ls k q. q) (bind (token limit fixed.Int) (λ _. a_name limit))

  pub param_by : Exact limit it.param (Part Any Param) (Reading limit it.param)
  param_by = by_reading a_param.sound

  param_reads : {v : ℕ} {x : Name} {ls : List Spelt} {k : Option TokenKind} → Param x v ls → Reading limit it.param v x v ls k
  param_reads (param id h m) = reads_by a_param (both (tok h) (part (name_is id m) tt))

  param_filled : (x : Name) {v : ℕ} (ls : List Spelt) → Param x v ls → Filled ls
  param_filled x ls (param id h m) = tt

  param_first : {x : Name} {v : ℕ} {ls : List Spelt} → Param x v ls → (rs : List Spelt) (k : Option TokenKind) → first (ls ++ rs) k ≡ Some (kind.Word word.Int)
  param_first (param id h m) rs k = rw h

  one_first : {x : Name} {v : ℕ} {ls : List Spelt} → Param x v ls → (k : Option TokenKind) → first ls k ≡ Some (kind.Word word.Int)
  one_first (param id h m) k = rw h

  params_first : {xs : List Name} {v : ℕ} {ls : List Spelt} → Separated Param xs v ls → (k : Option TokenKind) → first ls k ≡ Some (kind.Word word.Int)
  params_first (last_part s) k = one_first s k
  params_first (next_part comma s h r) k = param_first s _ k

  abbrev ParamsBy : Lang (List Name) → Lang (List Name)
  ParamsBy P = If fixed.RightRound (Done []) (If fixed.Void (Map (λ _. []) (Tok fixed.Void)) P)

  pub params_of : (v w : ℕ) (x : List Name) (ls : List Spelt) (k : Option TokenKind) → ParamsBy (Part Any (Separated Param)) v x w ls k → Part Any Params v x w ls k
  params_of v w x ls k (on e done) = part no_params tt
  params_of v w x ls k (off e (on f (mapped (tok h)))) = part (void_params h) tt
  params_of v w x ls k (off e (off f (part s c))) = part (params s) tt

  a_params : Exact limit it.params (Part Any Params) (ParamsBy (Listed (Full (Reading limit it.param))))
  unfolding it.params it.some_params
  a_params = convert params_of (λ v w x ls k q. q) (either fixed.RightRound (done_at []) (either fixed.Void (map_to (λ _. []) (token limit fixed.Void)) (a_list param_by)))

  pub params_by : Exact limit it.params (Part Any Params) (Reading limit it.params)
  params_by = by_reading a_params.sound

  params_read : {v : ℕ} {xs : List Name} {ls : List Spelt} {k : Option TokenKind} → Params xs v ls → is_fixed fixed.RightRound k ≡ true → Reading limit it.params v xs v ls k
  params_read no_params e = reads_by a_params (on e done)
  params_read (void_params {t = t} h) e = reads_by a_params (off (rw h) (on (is_so fixed.Void t h) (mapped (tok h))))
  params_read {k = k} (params s) e =
      reads_by a_params (off (ap (is_fixed fixed.RightRound) (params_first s k)) (off (ap (is_fixed fixed.Void) (params_first s k))
      (list_reads (λ x ls k q z. param_reads q) (λ x ls q. param_filled x ls q) s (round_ends k e) (round_comma k e))))

  pub parameters_of : (v w : ℕ) (x : List Name) (ls : List Spelt) (k : Option TokenKind) → Enclosed fixed.LeftRound fixed.RightRound (λ _ ps. ps) (Part Any Params) v x w ls k → Part Any Parameters v x w ls k
  parameters_of v w x ls k (between right hl (part s c) hr) = part (parameters right hl s hr) tt

  a_parameters : Exact limit (it.parameters limit) (Part Any Parameters) (EnclosedBy limit fixed.LeftRound fixed.RightRound (λ _ ps. ps) (Reading limit it.params))
  unfolding it.parameters
  a_parameters = convert parameters_of (λ v w x ls k q. q) (enclosing fixed.LeftRound fixed.RightRound (λ _ ps. ps) params_by)

  pub parameters_by : Exact limit (it.parameters limit) (Part Any Parameters) (Reading limit (it.parameters limit))
  parameters_by = by_reading a_parameters.sound

  pub parameters_read : {v : ℕ} {xs : List Name} {ls : List Spelt} {k : Option TokenKind} → Parameters xs v ls → Reading limit (it.parameters limit) v xs v ls k
  parameters_read (parameters right hl s hr) = reads_by a_parameters (encloses right hl (λ small. params_read s (is_so fixed.RightRound right hr)) hr)

  -- ---- tables

  pub data Tabled : List Number → ℕ → List Spelt → Type 0 where
    tabled : {v : ℕ} (equal left right : Token) {xs : List Number} {ls : List Spelt} → IsMark mark.Assign equal → IsMark mark.LeftCurly left → Separated Signed xs (v + 1) ls → IsMark mark.RightCurly right
        → Tabled xs v (at equal v ∷ at left (v + 1) ∷ (ls ++ (at right v ∷ [])))

  abbrev ManyBy : Lang (List Number) → Lang (List Number)
  ManyBy L = Bind (Tok fixed.Assign) (λ _. Enclosed fixed.LeftCurly fixed.RightCurly (λ _ xs. xs) L)

  pub many_of : (v w : ℕ) (x : List Number) (ls : List Spelt) (k : Option TokenKind) → ManyBy (Part Any (Separated Signed)) v x w ls k → Part Any Tabled v x w ls k
  many_of v w x ls k (both (tok h) (between right hl (part s c) hr)) = part (tabled _ _ right h hl s hr) tt

  a_many : Exact limit (it.many_values limit) (Part Any Tabled) (Bind (Tok fixed.Assign) (λ _. EnclosedBy limit fixed.LeftCurly fixed.RightCurly (λ _ xs. xs) (Listed (Full (Reading limit it.signed)))))
  unfolding it.many_values it.table_values
  a_many = convert many_of (λ v w x ls k q. q) (bind (token limit fixed.Assign) (λ _. enclosing fixed.LeftCurly fixed.RightCurly (λ _ xs. xs) (a_list signed_by)))

  many_reads : {v : ℕ} {xs : List Number} {ls : List Spelt} {k : Option TokenKind} → Tabled xs v ls → Reading limit (it.many_values limit) v xs v ls k
  many_reads (tabled equal left right h hl s hr) =
      reads_by a_many (both (tok h) (encloses right hl (λ small. list_reads (λ x ls k q z. signed_reads q) (λ x ls q. signed_filled x ls q) s (curly_ends right hr) (curly_comma right hr)) hr))

  pub data TableValues : Option Number → List Number → ℕ → List Spelt → Type 0 where
    one_number : {v : ℕ} {xs : List Number} {ls : List Spelt} → OneValue xs v ls → TableValues None xs v ls
    more_numbers : {v : ℕ} {n : Number} {xs : List Number} {ls : List Spelt} → Tabled xs v ls → TableValues (Some n) xs v ls

  pub values_one : {v w : ℕ} {y : List Number} {ls : List Spelt} {k : Option TokenKind} → Part Any OneValue v y w ls k → Part Any (TableValues None) v y w ls k
  values_one (part s c) = part (one_number s) tt

  pub values_many : {n : Number} {v w : ℕ} {y : List Number} {ls : List Spelt} {k : Option TokenKind} → Part Any Tabled v y w ls k → Part Any (TableValues (Some n)) v y w ls k
  values_many (part s c) = part (more_numbers s) tt

  pub values_by : (length : Option Number) → Exact limit (it.values_by limit length) (Part Any (TableValues length)) (Reading limit (it.values_by limit length))
  values_by None = by_reading (λ i j x small h. read_as (one_value_by.sound i j x small h) (λ ls e q. values_one q))
  values_by (Some n) = by_reading (λ i j x small h. read_as (a_many.sound i j x small h) (λ ls e q. values_many q))

  values_read : {length : Option Number} {v : ℕ} {xs : List Number} {ls : List Spelt} {k : Option TokenKind} → TableValues length xs v ls → Reading limit (it.values_by limit length) v xs v ls k
  values_read (one_number s) = one_value_reads s
  values_read (more_numbers s) = many_reads s

  -- the same, if it is there
  pub data MaybeValues (length : Option Number) : List Number → ℕ → List Spelt → Type 0 where
    no_numbers : {v : ℕ} → MaybeValues length [] v []
    some_numbers : {v : ℕ} {xs : List Number} {ls : List Spelt} → TableValues length xs v ls → MaybeValues length xs v ls

  pub maybe_values_of : (length : Option Number) → (v w : ℕ) (x : List Number) (ls : List Spelt) (k : Option TokenKind) → If fixed.Assign (Part Any (TableValues length)) (Done []) v x w ls k
      → Part Any (MaybeValues length) v x w ls k
  maybe_values_of length v w x ls k (on e (part s c)) = part (some_numbers s) tt
  maybe_values_of length v w x ls k (off e done) = part no_numbers tt

  a_maybe_values : (length : Option Number) → Exact limit (it.maybe_values limit length) (Part Any (MaybeValues length)) (If fixed.Assign (Reading limit (it.values_by limit length)) (Done []))
  unfolding it.maybe_values
  a_maybe_values length = convert (maybe_values_of length) (λ v w x ls k q. q) (either fixed.Assign (values_by length) (done_at []))

  pub maybe_values_by : (length : Option Number) → Exact limit (it.maybe_values limit length) (Part Any (MaybeValues length)) (Reading limit (it.maybe_values limit length))
  maybe_values_by length = by_reading (a_maybe_values length).sound

  values_first : {length : Option Number} {v : ℕ} {xs : List Number} {ls : List Spelt} → TableValues length xs v ls → (k : Option TokenKind) → is_fixed fixed.Assign (first ls k) ≡ true
  values_first (one_number (one_is {t = t} h s)) k = is_so fixed.Assign t h
  values_first (more_numbers (tabled equal left right h hl s hr)) k = is_so fixed.Assign equal h

  pub maybe_values_read : {length : Option Number} {v : ℕ} {xs : List Number} {ls : List Spelt} {k : Option TokenKind} → MaybeValues length xs v ls → is_fixed fixed.Assign k ≡ false
      → Reading limit (it.maybe_values limit length) v xs v ls k
  maybe_values_read {length} no_numbers n = reads_by (a_maybe_values length) (off n done)
  maybe_values_read {length} {k = k} (some_numbers s) n = reads_by (a_maybe_values length) (on (values_first s k) (values_read s))

  abbrev pub constant_of : Name → Option Number → List Number → PlainItem
  constant_of n length found = IsGlobal (global_of glob.Const None n length found)

  abbrev TableBy : Lang (Option Number) → (Option Number → Lang (List Number)) → Lang PlainItem
  TableBy L V = Bind (Part Any NameIs) (λ n. Bind L (λ length. Map (constant_of n length) (V length)))

  pub table_of : (v w : ℕ) (x : PlainItem) (ls : List Spelt) (k : Option TokenKind) → TableBy (Part Any (MaybeLength limit)) (λ length. Part Any (TableValues length)) v x w ls k → Part Any (IsItem Table) v x w ls k
  table_of v w x ls k (both (part (name_is id h) c) (both (part no_length d) (mapped (part (one_number (one_is m s)) e)))) = part (is_item (constant id h m s)) tt
  table_of v w x ls k (both (part (name_is id h) c) (both (part (some_length l) d) (mapped (part (more_numbers (tabled equal left right m hl s hr)) e)))) = part (is_item (table equal left right id h l m hl s hr)) tt

  a_table : Exact limit (it.table limit) (Part Any (IsItem Table)) (TableBy (Reading limit (st.maybe_length limit)) (λ length. Reading limit (it.values_by limit length)))
  unfolding it.table
  a_table = convert table_of (λ v w x ls k q. q) (bind (a_name limit) (λ n. bind (maybe_length_by limit) (λ length. map_to (constant_of n length) (values_by length))))

  table_reads : {v : ℕ} {g : PlainGlobal} {ls : List Spelt} {k : Option TokenKind} → Table g v ls → Reading limit (it.table limit) v (IsGlobal g) v ls k
  table_reads (constant id h m s) = reads_by a_table (both (part (name_is id h) tt) (both (maybe_length_reads limit no_length (rw m)) (mapped (values_read (one_number (one_is m s))))))
  table_reads (table equal left right {length = n} id h l m hl s hr) =
      reads_by a_table (both (part (name_is id h) tt) (both (maybe_length_reads limit (some_length l) (rw m)) (mapped (values_read (more_numbers {n = n} (tabled equal left right m hl s hr))))))

  -- ---- declarators

  abbrev pub input_of : Name → PlainItem
  input_of n = IsGlobal (global_of glob.Input None n None [])

  abbrev pub valued_of : GlobalKind → Name → List Number → PlainItem
  valued_of k n found = IsGlobal (global_of k None n None found)

  abbrev ValuedBy : GlobalKind → Lang (List Number) → Lang PlainItem
  ValuedBy k V = Bind (Part Any NameIs) (λ n. Map (valued_of k n) V)

  pub valued_item_of : (k : GlobalKind) → (v w : ℕ) (x : PlainItem) (ls : List Spelt) (o : Option TokenKind) → ValuedBy k (Part Any MaybeValue) v x w ls o → Part Any (IsItem (Scalar k None)) v x w ls o
  valued_item_of k v w x ls o (both (part (name_is id h) c) (mapped (part no_value d))) = part (is_item (unset id h)) tt
  valued_item_of k v w x ls o (both (part (name_is id h) c) (mapped (part (some_value m s) d))) = part (is_item (set id h m s)) tt

  a_valued : (k : GlobalKind) → Exact limit (it.declared_by limit (decl.Valued k)) (Part Any (IsItem (Scalar k None))) (ValuedBy k (Reading limit it.maybe_value))
  a_valued k = convert (valued_item_of k) (λ v w x ls k q. q) (bind (a_name limit) (λ n. map_to (valued_of k n) maybe_value_by))

  pub bare_of : (v w : ℕ) (x : PlainItem) (ls : List Spelt) (o : Option TokenKind) → Map input_of (Part Any NameIs) v x w ls o → Part Any (IsItem (Named glob.Input)) v x w ls o
  bare_of v w x ls o (mapped (part (name_is id h) c)) = part (is_item (named id h)) tt

  a_bare : Exact limit (it.declared_by limit decl.Bare) (Part Any (IsItem (Named glob.Input))) (Map input_of (Part Any NameIs))
  a_bare = convert bare_of (λ v w x ls k q. q) (map_to input_of (a_name limit))

  pub declared_by : (d : Declarator) → Exact limit (it.declared_item limit d) (Part Any (IsItem (DeclaredAs d))) (Reading limit (it.declared_item limit d))
  unfolding it.declared_item
  declared_by decl.Table = by_reading a_table.sound
  declared_by decl.Bare = by_reading a_bare.sound
  declared_by (decl.Valued k) = by_reading (a_valued k).sound

  pub declared_reads : (d : Declarator) (g : PlainGlobal) (v : ℕ) (ls : List Spelt) (k : Option TokenKind) → DeclaredAs d g v ls → ends k ≡ true → Reading limit (it.declared_item limit d) v (IsGlobal g) v ls k
  unfolding it.declared_item
  declared_reads decl.Table g v ls k s e = table_reads s
  declared_reads decl.Bare g v ls k (named id h) e = reads_by a_bare (mapped (part (name_is id h) tt))
  declared_reads (decl.Valued q) g v ls k (unset id h) e = reads_by (a_valued q) (both (part (name_is id h) tt) (mapped (maybe_value_reads no_value (ends_assign k e))))
  declared_reads (decl.Valued q) g v ls k (set id h m s) e = reads_by (a_valued q) (both (part (name_is id h) tt) (mapped (maybe_value_reads (some_value m s) (ends_assign k e))))

  pub declared_filled : (d : Declarator) (g : PlainGlobal) (v : ℕ) (ls : List Spelt) → DeclaredAs d g v ls → Filled ls
  declared_filled decl.Table g v ls (constant id h m s) = tt
  declared_filled decl.Table g v ls (table equal left right id h l m hl s hr) = tt
  declared_filled decl.Bare g v ls (named id h) = tt
  declared_filled (decl.Valued q) g v ls (unset id h) = tt
  declared_filled (decl.Valued q) g v ls (set id h m s) = tt

  pub declared_list : (d : Declarator) → Exact limit (separated (it.declared_item limit d)) (Listed (Part Any (IsItem (DeclaredAs d)))) (Listed (Full (Reading limit (it.declared_item limit d))))
  declared_list d = full_commas (declared_by d)
