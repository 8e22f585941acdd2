-- Declarators, bounds and heads of loops: what is read, both ways.
use Rattle.std.proofs.Common.{◌≡◌, ℕ, ◌+◌, ◌≤◌, true, false, List, [], ◌∷◌, ◌++◌, Option, Some, None, ap}
use Rattle.forec_tree.specs.declared.token.Token.{Token}
use Rattle.forec_tree.specs.declared.token.TokenKind.{TokenKind}
use Rattle.forec_tree.specs.declared.token.TokenKind.TheVariants as kind
use Rattle.forec_tree.specs.declared.token.Mark.TheVariants as mark
use Rattle.forec_tree.specs.declared.tree.Name.{Name}
use Rattle.forec_tree.specs.declared.tree.Number.{Number}
use Rattle.forec_tree.specs.Terms as plain
use Rattle.forec_tree.specs.Terms.{Term, Declared, Statement, Perhaps, absent, present}
use Rattle.forec_tree.specs.Spelling.{Spelt, at, IsMark, Whole, SpellsExpressions}
use Rattle.forec_tree.specs.Parts.{declared_as, Head, head_of}
use Rattle.forec_tree.specs.SpelledStatements.{Simple, Lengths, lengths, Declares, bare, valued, array, valued_array, SpellsBound, unbounded, bounded, ForStarts, no_start, simple_start, declared_start, Tests, no_test, some_test, ForSteps, no_step, some_step, HeadParts, head_parts, Heads, heads}
use Rattle.expr_parser.specs.declared.fixed.Fixed.{Fixed}
use Rattle.expr_parser.specs.declared.fixed.Fixed.TheVariants as fixed
use Rattle.expr_parser.specs.Meaning.{is_fixed}
use Rattle.statement_parser.specs.Statements as st
use Rattle.expr_parser.proofs.Spans.{first}
use Rattle.expr_parser.proofs.Exact.{Lang, Exact, Bind, both, Map, mapped, Done, done, If, on, off, Part, part, Reading, Any, bind, map_to, convert, either, done_at, by_reading, read_as, reads_by}
use Rattle.expr_parser.proofs.Leaves.{Tok, tok, NameIs, name_is, NumberIs, number_is, token, a_name, a_number, Enclosed, EnclosedBy, between, encloses, enclosing, is_so}
use Rattle.expr_parser.proofs.Operators.{ends, ends_square, ends_assign}
use Rattle.expr_parser.proofs.ExpressionComplete.{begun_whole, begun_semicolon}
use Rattle.statement_parser.proofs.Marks.{acts_first, acts_semicolon, acts_round, acts_int, curly_ends, curly_comma}
use Rattle.statement_parser.proofs.SimpleRules.{a_value, value_reads, values_by, values_read, a_simple, simple_reads, ActsFirst, simple_first}

module _ (limit : ℕ) where
  -- ---- lengths and initial values

  pub length_of : (v w : ℕ) (x : Number) (ls : List Spelt) (k : Option TokenKind) → Enclosed fixed.LeftSquare fixed.RightSquare (λ _ n. n) (Part Any NumberIs) v x w ls k → Part Any Lengths v x w ls k
  length_of v w x ls k (between right hl (part (number_is value h) c) hr) = part (lengths value hl h hr) tt

  pub a_length : Exact limit (st.length_part limit) (Part Any Lengths) (EnclosedBy limit fixed.LeftSquare fixed.RightSquare (λ _ n. n) (Part Any NumberIs))
  unfolding st.length_part
  a_length = convert length_of (λ v w x ls k q. q) (enclosing fixed.LeftSquare fixed.RightSquare (λ _ n. n) (a_number limit))

  pub length_by : Exact limit (st.length_part limit) (Part Any Lengths) (Reading limit (st.length_part limit))
  length_by = by_reading a_length.sound

  pub length_reads : {v : ℕ} {n : Number} {ls : List Spelt} {k : Option TokenKind} → Lengths n v ls → Reading limit (st.length_part limit) v n v ls k
  length_reads (lengths value hl h hr) = reads_by a_length (encloses _ hl (λ small. part (number_is value h) tt) hr)

  pub length_first : {v : ℕ} {n : Number} {ls : List Spelt} → Lengths n v ls → (k : Option TokenKind) → first ls k ≡ Some (kind.Mark mark.LeftSquare)
  length_first (lengths value hl h hr) k = rw hl

  pub data MaybeLength : Option Number → ℕ → List Spelt → Type 0 where
    some_length : {v : ℕ} {n : Number} {ls : List Spelt} → Lengths n v ls → MaybeLength (Some n) v ls
    no_length : {v : ℕ} → MaybeLength None v []

  pub maybe_length_of : (v w : ℕ) (x : Option Number) (ls : List Spelt) (k : Option TokenKind) → If fixed.LeftSquare (Map (λ x. Some x) (Part Any Lengths)) (Done None) v x w ls k → Part Any MaybeLength v x w ls k
  maybe_length_of v w x ls k (on e (mapped (part s c))) = part (some_length s) tt
  maybe_length_of v w x ls k (off e done) = part no_length tt

  a_maybe_length : Exact limit (st.maybe_length limit) (Part Any MaybeLength) (If fixed.LeftSquare (Map (λ x. Some x) (Reading limit (st.length_part limit))) (Done None))
  unfolding st.maybe_length
  a_maybe_length = convert maybe_length_of (λ v w x ls k q. q) (either fixed.LeftSquare (map_to (λ x. Some x) length_by) (done_at None))

  pub maybe_length_by : Exact limit (st.maybe_length limit) (Part Any MaybeLength) (Reading limit (st.maybe_length limit))
  maybe_length_by = by_reading a_maybe_length.sound

  pub maybe_length_reads : {v : ℕ} {x : Option Number} {ls : List Spelt} {k : Option TokenKind} → MaybeLength x v ls → is_fixed fixed.LeftSquare k ≡ false → Reading limit (st.maybe_length limit) v x v ls k
  maybe_length_reads {k = k} (some_length s) n = reads_by a_maybe_length (on (ap (is_fixed fixed.LeftSquare) (length_first s k)) (mapped (length_reads s)))
  maybe_length_reads no_length n = reads_by a_maybe_length (off n done)

  pub data Braced : List Term → ℕ → List Spelt → Type 0 where
    braced : {v : ℕ} {left : Token} (right : Token) {xs : List Term} {ls : List Spelt} → IsMark mark.LeftCurly left → SpellsExpressions xs (v + 1) ls → IsMark mark.RightCurly right
        → Braced xs v (at left (v + 1) ∷ (ls ++ (at right v ∷ [])))

  pub braced_of : (v w : ℕ) (x : List Term) (ls : List Spelt) (k : Option TokenKind) → Enclosed fixed.LeftCurly fixed.RightCurly (λ _ xs. xs) (Part Any SpellsExpressions) v x w ls k → Part Any Braced v x w ls k
  braced_of v w x ls k (between right hl (part s c) hr) = part (braced right hl s hr) tt

  a_braced : Exact limit (st.listed_values limit) (Part Any Braced) (EnclosedBy limit fixed.LeftCurly fixed.RightCurly (λ _ xs. xs) (Reading limit (st.values limit)))
  unfolding st.listed_values
  a_braced = convert braced_of (λ v w x ls k q. q) (enclosing fixed.LeftCurly fixed.RightCurly (λ _ xs. xs) (values_by limit))

  pub braced_by : Exact limit (st.listed_values limit) (Part Any Braced) (Reading limit (st.listed_values limit))
  braced_by = by_reading a_braced.sound

  braced_reads : {v : ℕ} {xs : List Term} {ls : List Spelt} {k : Option TokenKind} → Braced xs v ls → Reading limit (st.listed_values limit) v xs v ls k
  braced_reads (braced right hl s hr) = reads_by a_braced (encloses right hl (λ small. values_read limit s small (curly_ends right hr) (curly_comma right hr)) hr)

  pub data InitialsBy : Option Number → List Term → ℕ → List Spelt → Type 0 where
    by_one : {v : ℕ} {x : Term} {ls : List Spelt} → Whole x v ls → InitialsBy None (x ∷ []) v ls
    by_list : {v : ℕ} {n : Number} {xs : List Term} {ls : List Spelt} → Braced xs v ls → InitialsBy (Some n) xs v ls

  pub data Initials (length : Option Number) : List Term → ℕ → List Spelt → Type 0 where
    no_values : {v : ℕ} → Initials length [] v []
    some_values : {v : ℕ} {t : Token} {xs : List Term} {ls : List Spelt} → IsMark mark.Assign t → InitialsBy length xs v ls → Initials length xs v (at t v ∷ ls)

  pub initial_one : {v w : ℕ} {y : List Term} {ls : List Spelt} {k : Option TokenKind} → Map (λ z. z ∷ []) (Part Any Whole) v y w ls k → Part Any (InitialsBy None) v y w ls k
  initial_one (mapped (part s c)) = part (by_one s) tt

  pub initial_list : {n : Number} {v w : ℕ} {y : List Term} {ls : List Spelt} {k : Option TokenKind} → Part Any Braced v y w ls k → Part Any (InitialsBy (Some n)) v y w ls k
  initial_list (part s c) = part (by_list s) tt

  pub initials_of : (length : Option Number) → Exact limit (st.initial_by limit length) (Part Any (InitialsBy length)) (Reading limit (st.initial_by limit length))
  initials_of None = by_reading (λ i j x small h. read_as ((map_to (λ y. y ∷ []) (a_value limit)).sound i j x small h) (λ ls e q. initial_one q))
  initials_of (Some n) = by_reading (λ i j x small h. read_as (a_braced.sound i j x small h) (λ ls e q. initial_list q))

  initials_read : {length : Option Number} {v : ℕ} {xs : List Term} {ls : List Spelt} {k : Option TokenKind} → InitialsBy length xs v ls → v ≤ limit → ends k ≡ true → Reading limit (st.initial_by limit length) v xs v ls k
  initials_read (by_one s) small e = reads_by (map_to (λ y. y ∷ []) (a_value limit)) (mapped (value_reads limit s small e))
  initials_read (by_list s) small e = braced_reads s

  pub initial_of : (length : Option Number) → (v w : ℕ) (x : List Term) (ls : List Spelt) (k : Option TokenKind) → If fixed.Assign (Bind (Tok fixed.Assign) (λ _. Part Any (InitialsBy length))) (Done []) v x w ls k → Part Any (Initials length) v x w ls k
  initial_of length v w x ls k (on e (both (tok h) (part s c))) = part (some_values h s) tt
  initial_of length v w x ls k (off e done) = part no_values tt

  an_initial : (length : Option Number) → Exact limit (st.initial limit length) (Part Any (Initials length)) (If fixed.Assign (Bind (Tok fixed.Assign) (λ _. Reading limit (st.initial_by limit length))) (Done []))
  unfolding st.initial
  an_initial length = convert (initial_of length) (λ v w x ls k q. q) (either fixed.Assign (bind (token limit fixed.Assign) (λ _. initials_of length)) (done_at []))

  pub initial_by : (length : Option Number) → Exact limit (st.initial limit length) (Part Any (Initials length)) (Reading limit (st.initial limit length))
  initial_by length = by_reading (an_initial length).sound

  initial_reads : {length : Option Number} {v : ℕ} {xs : List Term} {ls : List Spelt} {k : Option TokenKind} → Initials length xs v ls → v ≤ limit → ends k ≡ true → Reading limit (st.initial limit length) v xs v ls k
  initial_reads {length} {k = k} no_values small e = reads_by (an_initial length) (off (ends_assign k e) done)
  initial_reads {length} (some_values {t = t} h s) small e = reads_by (an_initial length) (on (is_so fixed.Assign t h) (both (tok h) (initials_read s small e)))

  -- ---- declarators

  abbrev Local : Lang (Option Number) → (Option Number → Lang (List Term)) → Lang Declared
  Local L I = Bind (Part Any NameIs) (λ n. Bind L (λ length. Map (λ found. declared_as n length found) (I length)))

  pub local_of : (v w : ℕ) (x : Declared) (ls : List Spelt) (k : Option TokenKind) → Local (Part Any MaybeLength) (λ length. Part Any (Initials length)) v x w ls k → Part Any Declares v x w ls k
  local_of v w x ls k (both (part (name_is id h) c) (both (part no_length d) (mapped (part no_values e)))) = part (bare id h) tt
  local_of v w x ls k (both (part (name_is id h) c) (both (part no_length d) (mapped (part (some_values m (by_one s)) e)))) = part (valued id h m s) tt
  local_of v w x ls k (both (part (name_is id h) c) (both (part (some_length (lengths value hl hn hr)) d) (mapped (part no_values e)))) = part (array id h (lengths value hl hn hr)) tt
  local_of v w x ls k (both (part (name_is id h) c) (both (part (some_length l) d) (mapped (part (some_values m (by_list (braced right hl s hr))) e)))) = part (valued_array _ _ right id h l m hl s hr) tt

  pub a_local : Exact limit (st.local limit) (Part Any Declares) (Local (Reading limit (st.maybe_length limit)) (λ length. Reading limit (st.initial limit length)))
  unfolding st.local
  a_local = convert local_of (λ v w x ls k q. q) (bind (a_name limit) (λ n. bind maybe_length_by (λ length. map_to (λ found. declared_as n length found) (initial_by length))))

  pub local_by : Exact limit (st.local limit) (Part Any Declares) (Reading limit (st.local limit))
  local_by = by_reading a_local.sound

  pub local_reads : {v : ℕ} {x : Declared} {ls : List Spelt} {k : Option TokenKind} → Declares x v ls → v ≤ limit → ends k ≡ true → Reading limit (st.local limit) v x v ls k
  local_reads {k = k} (bare id h) small e =
      reads_by a_local (both (part (name_is id h) tt) (both (maybe_length_reads no_length (ends_square k e)) (mapped (initial_reads no_values small e))))
  local_reads (valued {equal = t} id h m s) small e =
      reads_by a_local (both (part (name_is id h) tt) (both (maybe_length_reads no_length (rw m)) (mapped (initial_reads (some_values m (by_one s)) small e))))
  local_reads {k = k} (array id h (lengths value hl hn hr)) small e =
      reads_by a_local (both (part (name_is id h) tt) (both (maybe_length_reads (some_length (lengths value hl hn hr)) (ends_square k e)) (mapped (initial_reads no_values small e))))
  local_reads (valued_array equal left right {ls = ls} {rs = rs} id h l m hl s hr) small e =
      reads_by a_local (both (part (name_is id h) tt) (both (maybe_length_reads (some_length l) (rw m)) (mapped (initial_reads (some_values m (by_list (braced right hl s hr))) small e))))

  -- ---- loops

  pub bound_of : (v w : ℕ) (x : Option Number) (ls : List Spelt) (k : Option TokenKind) → If fixed.Hash (Map (λ n. Some n) (Bind (Tok fixed.Hash) (λ _. Part Any NumberIs))) (Done None) v x w ls k → Part Any SpellsBound v x w ls k
  bound_of v w x ls k (on e (mapped (both (tok h) (part (number_is value m) c)))) = part (bounded value h m) tt
  bound_of v w x ls k (off e done) = part unbounded tt

  a_bound : Exact limit (st.bound limit) (Part Any SpellsBound) (If fixed.Hash (Map (λ n. Some n) (Bind (Tok fixed.Hash) (λ _. Part Any NumberIs))) (Done None))
  unfolding st.bound
  a_bound = convert bound_of (λ v w x ls k q. q) (either fixed.Hash (map_to (λ n. Some n) (bind (token limit fixed.Hash) (λ _. a_number limit))) (done_at None))

  pub bound_by : Exact limit (st.bound limit) (Part Any SpellsBound) (Reading limit (st.bound limit))
  bound_by = by_reading a_bound.sound

  pub bound_reads : {v : ℕ} {x : Option Number} {ls : List Spelt} {k : Option TokenKind} → SpellsBound x v ls → is_fixed fixed.Hash k ≡ false → Reading limit (st.bound limit) v x v ls k
  bound_reads unbounded n = reads_by a_bound (off n done)
  bound_reads (bounded {hash = t} value h m) n = reads_by a_bound (on (is_so fixed.Hash t h) (mapped (both (tok h) (part (number_is value m) tt))))

  abbrev pub first_declared : Token → Name → Term → Perhaps
  first_declared int n x = present (plain.Declare int.place (declared_as n None (x ∷ []) ∷ []))

  abbrev pub FirstLocal : Lang Term → Lang Perhaps
  FirstLocal V = Bind (Tok fixed.Int) (λ int. Bind (Part Any NameIs) (λ n. Bind (Tok fixed.Assign) (λ _. Map (first_declared int n) V)))

  abbrev pub Start : Lang Term → Lang Statement → Lang Perhaps
  Start V S = If fixed.Semicolon (Done absent) (If fixed.Int (FirstLocal V) (Map (λ x. present x) S))

  pub starts_of : (v w : ℕ) (x : Perhaps) (ls : List Spelt) (k : Option TokenKind) → Start (Part Any Whole) (Part Any Simple) v x w ls k → Part Any ForStarts v x w ls k
  starts_of v w x ls k (on e done) = part no_start tt
  starts_of v w x ls k (off e (on f (both (tok hi) (both (part (name_is id h) c) (both (tok m) (mapped (part s d))))))) = part (declared_start id hi h m s) tt
  starts_of v w x ls k (off e (off f (mapped (part s c)))) = part (simple_start s) tt

  a_start : Exact limit (st.start_part limit) (Part Any ForStarts) (Start (Reading limit (st.whole_expression limit)) (Reading limit (st.simple limit)))
  unfolding st.start_part st.some_start st.first_local
  a_start = convert starts_of (λ v w x ls k q. q)
      (either fixed.Semicolon (done_at absent)
      (either fixed.Int (bind (token limit fixed.Int) (λ int. bind (a_name limit) (λ n. bind (token limit fixed.Assign) (λ _. map_to (first_declared int n) (a_value limit)))))
      (map_to (λ x. present x) (a_simple limit))))

  pub start_by : Exact limit (st.start_part limit) (Part Any ForStarts) (Reading limit (st.start_part limit))
  start_by = by_reading a_start.sound

  acts_then : (f : Fixed) → ((k : Option TokenKind) → acts_first k ≡ true → is_fixed f k ≡ false) → (ls : List Spelt) (k : Option TokenKind) → ActsFirst limit ls → is_fixed f (first ls k) ≡ false
  acts_then f g [] k h = absurd h
  acts_then f g (s ∷ ls) k h = g (Some s.token.kind) h

  start_reads : {v : ℕ} {x : Perhaps} {ls : List Spelt} {k : Option TokenKind} → ForStarts x v ls → v ≤ limit → is_fixed fixed.Semicolon k ≡ true → ends k ≡ true → Reading limit (st.start_part limit) v x v ls k
  start_reads no_start small n e = reads_by a_start (on n done)
  start_reads {ls = ls} {k = k} (simple_start s) small n e =
      reads_by a_start (off (acts_then fixed.Semicolon acts_semicolon ls k (simple_first limit s)) (off (acts_then fixed.Int acts_int ls k (simple_first limit s)) (mapped (simple_reads limit s small e))))
  start_reads (declared_start {int = t} id hi h m s) small n e =
      reads_by a_start (off (rw hi) (on (is_so fixed.Int t hi) (both (tok hi) (both (part (name_is id h) tt) (both (tok m) (mapped (value_reads limit s small e)))))))

  pub tests_of : (v w : ℕ) (x : Option Term) (ls : List Spelt) (k : Option TokenKind) → If fixed.Semicolon (Done None) (Map (λ x. Some x) (Part Any Whole)) v x w ls k → Part Any Tests v x w ls k
  tests_of v w x ls k (on e done) = part no_test tt
  tests_of v w x ls k (off e (mapped (part s c))) = part (some_test s) tt

  a_test : Exact limit (st.loop_test limit) (Part Any Tests) (If fixed.Semicolon (Done None) (Map (λ x. Some x) (Reading limit (st.whole_expression limit))))
  unfolding st.loop_test
  a_test = convert tests_of (λ v w x ls k q. q) (either fixed.Semicolon (done_at None) (map_to (λ x. Some x) (a_value limit)))

  pub test_by : Exact limit (st.loop_test limit) (Part Any Tests) (Reading limit (st.loop_test limit))
  test_by = by_reading a_test.sound

  test_reads : {v : ℕ} {x : Option Term} {ls : List Spelt} {k : Option TokenKind} → Tests x v ls → v ≤ limit → is_fixed fixed.Semicolon k ≡ true → ends k ≡ true → Reading limit (st.loop_test limit) v x v ls k
  test_reads no_test small n e = reads_by a_test (on n done)
  test_reads {ls = ls} {k = k} (some_test s) small n e = reads_by a_test (off (begun_semicolon ls k (begun_whole s)) (mapped (value_reads limit s small e)))

  pub steps_of : (v w : ℕ) (x : Perhaps) (ls : List Spelt) (k : Option TokenKind) → If fixed.RightRound (Done absent) (Map (λ x. present x) (Part Any Simple)) v x w ls k → Part Any ForSteps v x w ls k
  steps_of v w x ls k (on e done) = part no_step tt
  steps_of v w x ls k (off e (mapped (part s c))) = part (some_step s) tt

  a_step : Exact limit (st.step_part limit) (Part Any ForSteps) (If fixed.RightRound (Done absent) (Map (λ x. present x) (Reading limit (st.simple limit))))
  unfolding st.step_part
  a_step = convert steps_of (λ v w x ls k q. q) (either fixed.RightRound (done_at absent) (map_to (λ x. present x) (a_simple limit)))

  pub step_by : Exact limit (st.step_part limit) (Part Any ForSteps) (Reading limit (st.step_part limit))
  step_by = by_reading a_step.sound

  step_reads : {v : ℕ} {x : Perhaps} {ls : List Spelt} {k : Option TokenKind} → ForSteps x v ls → v ≤ limit → is_fixed fixed.RightRound k ≡ true → ends k ≡ true → Reading limit (st.step_part limit) v x v ls k
  step_reads no_step small n e = reads_by a_step (on n done)
  step_reads {ls = ls} {k = k} (some_step s) small n e = reads_by a_step (off (acts_then fixed.RightRound acts_round ls k (simple_first limit s)) (mapped (simple_reads limit s small e)))

  abbrev pub Triple : Lang Perhaps → Lang (Option Term) → Lang Perhaps → Lang Head
  Triple A T S = Bind A (λ first. Bind (Tok fixed.Semicolon) (λ _. Bind T (λ second. Bind (Tok fixed.Semicolon) (λ _. Map (λ third. head_of first second third) S))))

  pub head_parts_of : (v w : ℕ) (x : Head) (ls : List Spelt) (k : Option TokenKind) → Triple (Part Any ForStarts) (Part Any Tests) (Part Any ForSteps) v x w ls k → Part Any HeadParts v x w ls k
  head_parts_of v w x ls k (both (part a c) (both (tok m) (both (part b d) (both (tok n) (mapped (part s e)))))) = part (head_parts _ _ a m b n s) tt

  pub head_parts_by : Exact limit (st.head_parts limit) (Part Any HeadParts) (Triple (Reading limit (st.start_part limit)) (Reading limit (st.loop_test limit)) (Reading limit (st.step_part limit)))
  unfolding st.head_parts
  head_parts_by = convert head_parts_of (λ v w x ls k q. q)
      (bind start_by (λ first. bind (token limit fixed.Semicolon) (λ _. bind test_by (λ second. bind (token limit fixed.Semicolon) (λ _. map_to (λ third. head_of first second third) step_by)))))

  pub heads_of : (v w : ℕ) (x : Head) (ls : List Spelt) (k : Option TokenKind) → Enclosed fixed.LeftRound fixed.RightRound (λ _ h. h) (Part Any HeadParts) v x w ls k → Part Any Heads v x w ls k
  heads_of v w x ls k (between right hl (part q c) hr) = part (heads right hl q hr) tt

  a_head : Exact limit (st.head limit) (Part Any Heads) (EnclosedBy limit fixed.LeftRound fixed.RightRound (λ _ h. h) (Triple (Reading limit (st.start_part limit)) (Reading limit (st.loop_test limit)) (Reading limit (st.step_part limit))))
  unfolding st.head
  a_head = convert heads_of (λ v w x ls k q. q) (enclosing fixed.LeftRound fixed.RightRound (λ _ h. h) head_parts_by)

  pub head_by : Exact limit (st.head limit) (Part Any Heads) (Reading limit (st.head limit))
  head_by = by_reading a_head.sound

  semicolon_ends : (t : Token) → IsMark mark.Semicolon t → ends (Some t.kind) ≡ true
  semicolon_ends t h = rw h

  round_ends : (t : Token) → IsMark mark.RightRound t → ends (Some t.kind) ≡ true
  round_ends t h = rw h

  parts_read : {v : ℕ} {x : Head} {ls : List Spelt} {k : Option TokenKind} → HeadParts x v ls → v ≤ limit → is_fixed fixed.RightRound k ≡ true → ends k ≡ true
      → Triple (Reading limit (st.start_part limit)) (Reading limit (st.loop_test limit)) (Reading limit (st.step_part limit)) v x v ls k
  parts_read (head_parts first second a m b n s) small r e =
      both (start_reads a small (is_so fixed.Semicolon first m) (semicolon_ends first m)) (both (tok m)
      (both (test_reads b small (is_so fixed.Semicolon second n) (semicolon_ends second n)) (both (tok n) (mapped (step_reads s small r e)))))

  pub head_reads : {v : ℕ} {x : Head} {ls : List Spelt} {k : Option TokenKind} → Heads x v ls → Reading limit (st.head limit) v x v ls k
  head_reads (heads right hl q hr) = reads_by a_head (encloses right hl (λ small. parts_read q small (is_so fixed.RightRound right hr) (round_ends right hr)) hr)
