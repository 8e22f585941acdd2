-- What is spelled as a statement is read.
use mathlib.Core.Path.{subst}
use Rattle.std.proofs.Common.{◌≡◌, ℕ, zero, suc, ◌+◌, ◌≤◌, ◌<◌, Bool, true, false, List, [], ◌∷◌, ◌++◌, length, Option, Some, None, Ok, refl, sym, ◌∙◌, ap, append_assoc, append-nil, arith}
use Rattle.forec_base.specs.declared.Place.{Place}
use Rattle.forec_tree.specs.declared.token.Token.{Token}
use Rattle.forec_tree.specs.declared.token.TokenKind.{TokenKind}
use Rattle.forec_tree.specs.declared.token.TokenKind.TheVariants as kind
use Rattle.forec_tree.specs.declared.token.Mark.TheVariants as mark
use Rattle.forec_tree.specs.declared.token.Word.TheVariants as word
use Rattle.forec_tree.specs.declared.tree.Number.{Number}
use Rattle.forec_tree.specs.Terms as plain
use Rattle.forec_tree.specs.Terms.{Term, Declared, Statement, absent, present}
use Rattle.forec_tree.specs.Spelling.{Spelt, at, tokens, IsMark, IsWord, IsNameToken, Brackets, SpellsArguments, Whole, name_at, listed}
use Rattle.forec_tree.specs.Parts.{in_order, Launch, Calls, Blocks, launched, Head}
use Rattle.forec_tree.specs.SpelledStatements.{Separated, Declares, bare, valued, array, valued_array, Simple, SpellsBound, Heads, Optional, there, missing, SpellsStatement, nothing, acts, group, declares, if_alone, if_else, loops, counts, pauses, forks, aborts, gives_back, Block, block, SpellsStatements, no_more, and_more, forked, Starting, bare_call, call, blocked, SpellsLaunches, last_branch, next_branch}
use Rattle.expr_parser.specs.declared.fixed.Fixed.{Fixed}
use Rattle.expr_parser.specs.declared.fixed.Fixed.TheVariants as fixed
use Rattle.statement_parser.specs.declared.meaning.Sort.{Sort}
use Rattle.statement_parser.specs.declared.meaning.Sort.TheVariants as sort
use Rattle.expr_parser.specs.Input.{input, Parser, kind_ahead}
use Rattle.expr_parser.specs.Meaning.{is_fixed}
use Rattle.statement_parser.specs.Meaning.{sort_of, ends_body}
use Rattle.statement_parser.specs.Statements as st
use Rattle.statement_parser.specs.Statements.{read_statement}
use Rattle.expr_parser.proofs.Spans.{tokens_append, first, first-is}
use Rattle.expr_parser.proofs.Closers.{fixed-kind}
use Rattle.expr_parser.proofs.Exact.{Exact, Any, by_reading, Part, part, both, mapped, inside, done, on, off, Reading, reading, Follows, comes, follow_then, bind, reads_by, read_at}
use Rattle.expr_parser.proofs.Leaves.{tok, last, over, name_is, token, encloses, Listed, end_of_list, next_of_list, Full, full, Filled, filled-long, is_so}
use Rattle.expr_parser.proofs.Operators.{ends, ends_round}
use Rattle.expr_parser.proofs.ExpressionComplete.{brackets_first, passes_first}
use Rattle.statement_parser.proofs.Marks.{acts_simple, acts_says, says_first, says_else, says_hash, says_ends, semicolon_ends, semicolon_comma}
use Rattle.statement_parser.proofs.SimpleRules.{list_reads, value_reads, bracketed_reads, passed_reads, simple_reads, ActsFirst, simple_first}
use Rattle.statement_parser.proofs.PartRules.{local_reads, bound_reads, head_reads}
use Rattle.statement_parser.proofs.StatementSound.{Calm, flag_reads, a_called, sound_stmt, BracesBy, a_block, a_launch, a_launches, AbortRest, x_empty, x_group, x_declaring, x_acting, x_branching, x_looping, x_counting, x_pausing, x_par_statement, x_abort_statement, x_return_statement}

abbrev pub SaysFirst : List Spelt → Type 0
SaysFirst [] = ⊥
SaysFirst (s ∷ ls) = says_first (Some s.token.kind) ≡ true

pub says_then : (f : Fixed) → ((k : Option TokenKind) → says_first k ≡ true → is_fixed f k ≡ false) → (ls : List Spelt) (k : Option TokenKind) → SaysFirst ls → is_fixed f (first ls k) ≡ false
says_then f g [] k h = absurd h
says_then f g (s ∷ ls) k h = g (Some s.token.kind) h

block_first : {place : Place} {xs : List Statement} {v u : ℕ} {ls : List Spelt} → Block place xs v u ls → SaysFirst ls
block_first (block right hl b hr) = rw hl

block_curly : {place : Place} {xs : List Statement} {v u : ℕ} {ls : List Spelt} → Block place xs v u ls → (k : Option TokenKind) → first ls k ≡ Some (kind.Mark mark.LeftCurly)
block_curly (block right hl b hr) k = rw hl

acts_append : (limit : ℕ) (ls rs : List Spelt) → ActsFirst limit ls → SaysFirst (ls ++ rs)
acts_append limit [] rs h = absurd h
acts_append limit (s ∷ ls) rs h = acts_says (Some s.token.kind) h

acts_sort : (limit : ℕ) (ls rs : List Spelt) (k : Option TokenKind) → ActsFirst limit ls → sort_of (first (ls ++ rs) k) ≡ sort.Simple
acts_sort limit [] rs k h = absurd h
acts_sort limit (s ∷ ls) rs k h = acts_simple (Some s.token.kind) h

abort_first : {v : ℕ} {b : Bool} {ws : List Spelt} (rs : List Spelt) → Optional word.Weak b v ws → SaysFirst rs → SaysFirst (ws ++ rs)
abort_first rs (there h) r = rw h
abort_first rs missing r = r

pub says_begin : {x : Statement} {o : Bool} {v u : ℕ} {ls : List Spelt} → SpellsStatement x o v u ls → SaysFirst ls
says_begin (nothing h) = rw h
says_begin (acts semicolon {ls = ls} s m) = acts_append 0 ls _ (simple_first 0 s)
says_begin (group b) = block_first b
says_begin (declares semicolon h s m) = rw h
says_begin (if_alone h b s) = rw h
says_begin (if_else other h b s m z) = rw h
says_begin (loops h b n s) = rw h
says_begin (counts h b n s) = rw h
says_begin (pauses h m) = rw h
says_begin (forks semicolon h f m) = rw h
says_begin (aborts t when semicolon w h b m f c n) = abort_first _ w (rw h)
says_begin (gives_back semicolon h s m) = rw h

round_ends : (t : Token) → IsMark mark.RightRound t → ends (Some t.kind) ≡ true
round_ends t h = rw h

round_comma : (t : Token) → IsMark mark.RightRound t → is_fixed fixed.Comma (Some t.kind) ≡ false
round_comma t h = rw h

comma_ends : (t : Token) → IsMark mark.Comma t → ends (Some t.kind) ≡ true
comma_ends t h = rw h

curly_body : (t : Token) → IsMark mark.RightCurly t → ends_body (Some t.kind) ≡ true
curly_body t h = rw h

ends_else : (k : Option TokenKind) → ends_body k ≡ true → is_fixed fixed.Else k ≡ false
ends_else None h = refl
ends_else (Some k) h = ap (is_fixed fixed.Else) (fixed-kind fixed.RightCurly (Some k) h)

pub declares_filled : (x : Declared) {v : ℕ} (ls : List Spelt) → Declares x v ls → Filled ls
declares_filled x ls (bare id h) = tt
declares_filled x ls (valued id h m s) = tt
declares_filled x ls (array id h l) = tt
declares_filled x ls (valued_array equal left right id h l m hl s hr) = tt

starting_filled : {x : Launch} {v : ℕ} {ls : List Spelt} → Starting x v ls → Filled ls
starting_filled (bare_call id h) = tt
starting_filled (call id h s) = tt
starting_filled (blocked (block right hl b hr)) = tt

first_then : (a b : List Spelt) (k : Option TokenKind) → first (a ++ b) k ≡ first a (first b k)
first_then [] b k = refl
first_then (s ∷ a) b k = refl

says_filled : (ls : List Spelt) → SaysFirst ls → Filled ls
says_filled [] h = h
says_filled (s ∷ ls) h = tt

module _ (limit : ℕ) where
  abbrev pub IsRead : Statement → Bool → ℕ → ℕ → List Spelt → Type 0
  IsRead x o v u ls = (d : ℕ) (k : Option TokenKind) → v ≤ limit → u ≤ limit → limit < d + v → Calm o k → Reading limit (read_statement limit d) v x v ls k

  abbrev pub AreRead : List Statement → ℕ → List Spelt → Type 0
  AreRead xs v ls = (d : ℕ) (k : Option TokenKind) → v ≤ limit → limit < d + v → ends_body k ≡ true → Reading limit (st.body limit (read_statement limit d)) v xs v ls k

  -- over any depth that is not used up
  deep : {x : Statement} {v : ℕ} {ls : List Spelt} {k : Option TokenKind} (d : ℕ) → v ≤ limit → limit < d + v
      → ((e : ℕ) → limit ≤ e + v → Reading limit (st.one_statement limit (read_statement limit e)) v x v ls k) → Reading limit (read_statement limit d) v x v ls k
  unfolding read_statement
  deep zero small far f = absurd (omega arith)
  deep (suc e) small far f = f e (omega arith)

  -- by what it begins with
  one_is : (p : Parser Statement) {x : Statement} {v : ℕ} {ls : List Spelt} {k : Option TokenKind} (s : Sort) → sort_of (first ls k) ≡ s → Reading limit (st.one_by limit p s) v x v ls k → Reading limit (st.one_statement limit p) v x v ls k
  unfolding st.one_statement
  one_is p {x} {v} {ls} {k} s h r = reading (λ rest e.
      let c : sort_of (kind_ahead (tokens ls ++ rest)) ≡ s = ap sort_of (first-is ls rest ∙ ap (first ls) e) ∙ h in
      rw c (read_at r rest e))

  -- ---- lists

  a_none : {v : ℕ} (d n : ℕ) (found : List Statement) (rest : List Token) → ends_body (kind_ahead rest) ≡ true → st.body_from limit (read_statement limit d) n found (input rest v) ≡ Ok (found ++ [], input rest v)
  unfolding st.body_from
  a_none {v} d zero found rest h = rw h (ap (λ z. Ok (z, input rest v)) (sym (append-nil found)))
  a_none {v} d (suc n) found rest h = rw h (ap (λ z. Ok (z, input rest v)) (sym (append-nil found)))

  a_step : {v : ℕ} {x : Statement} (xs : List Statement) (ls rs : List Spelt) (d n : ℕ) (found : List Statement) (rest : List Token) → SaysFirst ls
      → Follows limit x v ls (tokens rs ++ rest) (read_statement limit d (input (tokens ls ++ (tokens rs ++ rest)) v))
      → Follows limit ((found ++ x ∷ []) ++ xs) v rs rest (st.body_from limit (read_statement limit d) n (found ++ x ∷ []) (input (tokens rs ++ rest) v))
      → Follows limit (found ++ (x ∷ xs)) v (ls ++ rs) rest (st.body_from limit (read_statement limit d) (suc n) found (input (tokens ls ++ (tokens rs ++ rest)) v))
  unfolding st.body_from
  a_step {v} {x} xs ls rs d n found rest h r more =
      let c : ends_body (kind_ahead (tokens ls ++ (tokens rs ++ rest))) ≡ false = begins ls h in
      let R : List Statement → Type 0 = λ z. Follows limit z v rs rest (st.body_from limit (read_statement limit d) n (found ++ x ∷ []) (input (tokens rs ++ rest) v)) in
      rw c (follow_then rs (λ x. st.body_from limit (read_statement limit d) n (found ++ x ∷ [])) r (subst R (append_assoc found (x ∷ []) xs) more))
    where
      begins : (ls : List Spelt) → SaysFirst ls → ends_body (kind_ahead (tokens ls ++ (tokens rs ++ rest))) ≡ false
      begins [] h = absurd h
      begins (s ∷ ls) h = says_ends (Some s.token.kind) h

  abbrev Listing : List Statement → ℕ → List Spelt → Type 0
  Listing xs v ls = (d n : ℕ) (found : List Statement) (rest : List Token) → v ≤ limit → limit < d + v → ends_body (kind_ahead rest) ≡ true → length (tokens ls ++ rest) ≤ n
      → Follows limit (found ++ xs) v ls rest (st.body_from limit (read_statement limit d) n found (input (tokens ls ++ rest) v))

  next_calm : (xs : List Statement) {v : ℕ} (rs : List Spelt) (k : Option TokenKind) → SpellsStatements xs v rs → ends_body k ≡ true → is_fixed fixed.Else (first rs k) ≡ false
  next_calm [] rs k no_more h = ends_else k h
  next_calm (x ∷ xs) rs k (and_more {ls = ls} {rs = more} a b) h = of ls more (says_begin a)
    where
      of : (ls more : List Spelt) → SaysFirst ls → is_fixed fixed.Else (first (ls ++ more) k) ≡ false
      of [] more g = absurd g
      of (s ∷ ls) more g = says_else (Some s.token.kind) g

  l_more : {v : ℕ} {o : Bool} {x : Statement} {xs : List Statement} (ls rs : List Spelt) → SaysFirst ls → IsRead x o v v ls → Listing xs v rs
      → ((k : Option TokenKind) → ends_body k ≡ true → is_fixed fixed.Else (first rs k) ≡ false) → Listing (x ∷ xs) v (ls ++ rs)
  l_more {v} {o} {x} {xs} ls rs begin rx rxs calm d zero found rest small far hr le =
      let same : tokens (ls ++ rs) ++ rest ≡ tokens ls ++ (tokens rs ++ rest) = tokens_append ls rs rest in
      let none : length (tokens ls ++ (tokens rs ++ rest)) ≤ 0 = rw same at le in
      absurd (omega (arith, filled-long ls (tokens rs ++ rest) (says_filled ls begin)))
  l_more {v} {o} {x} {xs} ls rs begin rx rxs calm d (suc n) found rest small far hr le =
      let tail = tokens rs ++ rest in
      let same : tokens (ls ++ rs) ++ rest ≡ tokens ls ++ tail = tokens_append ls rs rest in
      let room : length (tokens ls ++ tail) ≤ suc n = rw same at le in
      let a : Follows limit x v ls tail (read_statement limit d (input (tokens ls ++ tail) v)) = read_at (rx d (first rs (kind_ahead rest)) small small far (λ _. calm (kind_ahead rest) hr)) tail (first-is rs rest) in
      let b = rxs d n (found ++ x ∷ []) rest small far hr (omega (arith, filled-long ls tail (says_filled ls begin))) in
      rw same (a_step xs ls rs d n found rest begin a b)

  l_body : {v : ℕ} {xs : List Statement} {ls : List Spelt} → Listing xs v ls → AreRead xs v ls
  unfolding st.body
  l_body {ls = ls} f d k small far h = reading (λ rest e. f d (length (tokens ls ++ rest)) [] rest small far (ap ends_body e ∙ h) (omega arith))

  -- ---- blocks and branches

  abbrev BlockReads : Place → List Statement → ℕ → ℕ → List Spelt → Type 0
  BlockReads place xs v u ls = (d : ℕ) (k : Option TokenKind) (g : ℕ → ℕ) → g v ≡ u → limit ≤ d + v
      → BracesBy limit (read_statement limit d) (sound_stmt limit d) g (Reading limit (st.body limit (read_statement limit d))) v (place, xs) v ls k

  b_block : {v u : ℕ} {left : Token} (right : Token) {xs : List Statement} {ls : List Spelt} → IsMark mark.LeftCurly left → AreRead xs (v + 1) ls → IsMark mark.RightCurly right
      → BlockReads left.place xs v u (at left (v + 1) ∷ (ls ++ (at right u ∷ [])))
  b_block {v} {u} {left} right {xs} {ls} hl b hr d k g e far =
      let R : ℕ → Type 0 = λ z. BracesBy limit (read_statement limit d) (sound_stmt limit d) g (Reading limit (st.body limit (read_statement limit d))) v (left.place, xs) v (at left (v + 1) ∷ (ls ++ (at right z ∷ []))) k in
      subst R e (encloses right hl (λ small. b d (Some right.kind) small (omega arith) (curly_body right hr)) hr)

  pub here_reads : {v : ℕ} {place : Place} {xs : List Statement} {ls : List Spelt} {k : Option TokenKind} (d : ℕ) → Block place xs v v ls → BlockReads place xs v v ls → limit ≤ d + v → Reading limit (st.block limit (read_statement limit d)) v (place, xs) v ls k
  here_reads {k = k} d b r far = reads_by (a_block limit (read_statement limit d) (sound_stmt limit d) (λ v. v) (λ v h. h)) (r d k (λ v. v) refl far)

  abbrev LaunchReads : Launch → ℕ → List Spelt → Type 0
  LaunchReads x v ls = (d : ℕ) (k : Option TokenKind) → limit ≤ d + v → ends k ≡ true → Reading limit (st.launch limit (read_statement limit d)) v x v ls k

  called_reads : (d : ℕ) (xs : List Term) {v id : ℕ} {t : Token} {ls : List Spelt} {k : Option TokenKind} → IsNameToken id t → Reading limit (st.call_launch limit) v (Calls (name_at id t.place) (listed xs)) v (at t v ∷ ls) k
      → Reading limit (st.launch limit (read_statement limit d)) v (Calls (name_at id t.place) (listed xs)) v (at t v ∷ ls) k
  called_reads d xs {t = t} h r = reads_by (a_launch limit (read_statement limit d) (sound_stmt limit d)) (off (rw h) r)

  l_bare : {v : ℕ} {t : Token} (id : ℕ) → IsNameToken id t → LaunchReads (Calls (name_at id t.place) (listed [])) v (at t v ∷ [])
  l_bare id h d k far e = called_reads d [] h (reads_by (a_called limit) (both (part (name_is id h) tt) (mapped (off (ends_round k e) done))))

  l_call : {v : ℕ} {t : Token} {args : List Term} {ls : List Spelt} (id : ℕ) → IsNameToken id t → SpellsArguments args v ls → LaunchReads (Calls (name_at id t.place) (listed args)) v (at t v ∷ ls)
  l_call {args = args} id h s d k far e =
      called_reads d args h (reads_by (a_called limit) (both (part (name_is id h) tt) (mapped (on (ap (is_fixed fixed.LeftRound) (passes_first s k)) (passed_reads limit s)))))

  l_block : {v : ℕ} {place : Place} {xs : List Statement} {ls : List Spelt} → Block place xs v v ls → BlockReads place xs v v ls → LaunchReads (Blocks place (in_order xs)) v ls
  l_block b r d k far e =
      reads_by (a_launch limit (read_statement limit d) (sound_stmt limit d)) (on (ap (is_fixed fixed.LeftCurly) (block_curly b k)) (mapped (here_reads d b r far)))

  abbrev LaunchesRead : List Launch → ℕ → List Spelt → Type 0
  LaunchesRead xs v ls = (d : ℕ) (k : Option TokenKind) → limit ≤ d + v → ends k ≡ true → is_fixed fixed.Comma k ≡ false → Listed (Full (Reading limit (st.launch limit (read_statement limit d)))) v xs v ls k

  l_last : {v : ℕ} {x : Launch} {ls : List Spelt} → Starting x v ls → LaunchReads x v ls → LaunchesRead (x ∷ []) v ls
  l_last s r d k far e n = end_of_list (full (r d k far e) (starting_filled s)) n

  l_next : {v : ℕ} {x : Launch} {xs : List Launch} (comma : Token) {ls rs : List Spelt} → Starting x v ls → LaunchReads x v ls → IsMark mark.Comma comma → LaunchesRead xs v rs
      → LaunchesRead (x ∷ xs) v (ls ++ (at comma v ∷ rs))
  l_next comma s r h rest d k far e n = next_of_list comma (full (r d (Some comma.kind) far (comma_ends comma h)) (starting_filled s)) h (rest d k far e n)

  -- ---- statements

  r_nothing : {v u : ℕ} {t : Token} → IsMark mark.Semicolon t → IsRead (plain.Nothing t.place) false v u (at t u ∷ [])
  r_nothing h d k small low far calm = deep d small far (λ e m. one_is (read_statement limit e) sort.Empty (rw h) (reads_by (x_empty limit (read_statement limit e) (sound_stmt limit e) _ low) (mapped (last h))))

  r_acts : {v u : ℕ} (semicolon : Token) {x : Statement} {ls : List Spelt} → Simple x v ls → IsMark mark.Semicolon semicolon → IsRead x false v u (ls ++ (at semicolon u ∷ []))
  r_acts {v} {u} semicolon {x} {ls} s h d k small low far calm = deep d small far (λ e m.
      one_is (read_statement limit e) sort.Simple (acts_sort limit ls (at semicolon u ∷ []) k (simple_first limit s))
      (reads_by (x_acting limit (read_statement limit e) (sound_stmt limit e) _ low) (both (simple_reads limit s small (semicolon_ends semicolon h)) (mapped (last h)))))

  r_group : {v u : ℕ} {place : Place} {xs : List Statement} {ls : List Spelt} → Block place xs v u ls → BlockReads place xs v u ls → IsRead (plain.Group place (in_order xs)) false v u ls
  r_group {u = u} b r d k small low far calm = deep d small far (λ e m.
      one_is (read_statement limit e) sort.Curly (ap sort_of (block_curly b k)) (reads_by (x_group limit (read_statement limit e) (sound_stmt limit e) u low) (mapped (r e k (λ _. u) refl m))))

  r_declares : {v u : ℕ} {t : Token} (semicolon : Token) {locals : List Declared} {ls : List Spelt} → IsWord word.Int t → Separated Declares locals v ls → IsMark mark.Semicolon semicolon
      → IsRead (plain.Declare t.place locals) false v u (at t v ∷ (ls ++ (at semicolon u ∷ [])))
  r_declares semicolon h s n d k small low far calm = deep d small far (λ e m.
      one_is (read_statement limit e) sort.Declares (rw h) (reads_by (x_declaring limit (read_statement limit e) (sound_stmt limit e) _ low)
      (both (tok h) (both (list_reads (λ x ls k q z. local_reads limit q small z) (λ x ls q. declares_filled x ls q) s (semicolon_ends semicolon n) (semicolon_comma semicolon n)) (mapped (last n))))))

  r_alone : {v u : ℕ} {o : Bool} {t : Token} {test : Term} {x : Statement} {ls ms : List Spelt} → IsWord word.If t → Brackets test (v + 1) ls → IsRead x o (v + 1) u ms
      → IsRead (plain.If t.place test x absent) true v u (at t (v + 1) ∷ (ls ++ ms))
  r_alone {v} {u} {o} {t} {test} {x} {ls} {ms} h b r d k small low far calm = deep d small far (λ e m.
      let R : List Spelt → Type 0 = λ z. Reading limit (st.if_statement limit (read_statement limit e)) v (plain.If t.place test x absent) v (at t (v + 1) ∷ (ls ++ z)) k in
      let done_so : R (ms ++ []) = reads_by (x_branching limit (read_statement limit e) (sound_stmt limit e) u low)
      (inside (over h (λ small. both (bracketed_reads limit b) (both (r e k small low (omega arith) (λ _. calm refl)) (off (calm refl) done))))) in
      one_is (read_statement limit e) sort.If (rw h) (subst R (append-nil ms) done_so))

  r_else : {v u : ℕ} {o : Bool} {t : Token} (other : Token) {test : Term} {x y : Statement} {ls ms rs : List Spelt} → IsWord word.If t → Brackets test (v + 1) ls → IsRead x false (v + 1) (v + 1) ms
      → IsWord word.Else other → IsRead y o (v + 1 + 1) u rs
      → IsRead (plain.If t.place test x (present y)) o v u (at t (v + 1) ∷ (ls ++ (ms ++ (at other (v + 1 + 1) ∷ rs))))
  r_else {v} {u} {o} {t} other {test} {x} {y} {ls} {ms} {rs} h b r n s d k small low far calm = deep d small far (λ e m.
      one_is (read_statement limit e) sort.If (rw h) (reads_by (x_branching limit (read_statement limit e) (sound_stmt limit e) u low)
      (inside (over h (λ small. both (bracketed_reads limit b) (both (r e (Some other.kind) small small (omega arith) (λ z. absurd (cc)))
      (on (is_so fixed.Else other n) (over n (λ smaller. mapped (s e k smaller low (omega arith) calm))))))))))

  r_loops : {v u : ℕ} {o : Bool} {t : Token} {test : Term} {bound : Option Number} {x : Statement} {ls ms rs : List Spelt} → IsWord word.While t → Brackets test (v + 1) ls → SpellsBound bound (v + 1) ms
      → SaysFirst rs → IsRead x o (v + 1) u rs → IsRead (plain.While t.place test bound x) o v u (at t (v + 1) ∷ (ls ++ (ms ++ rs)))
  r_loops {rs = rs} h b n f r d k small low far calm = deep d small far (λ e m.
      one_is (read_statement limit e) sort.While (rw h) (reads_by (x_looping limit (read_statement limit e) (sound_stmt limit e) _ low)
      (inside (over h (λ small. both (bracketed_reads limit b) (both (bound_reads limit n (says_then fixed.Hash says_hash rs k f)) (mapped (r e k small low (omega arith) calm))))))))

  r_counts : {v u : ℕ} {o : Bool} {t : Token} {head : Head} {bound : Option Number} {x : Statement} {ls ms rs : List Spelt} → IsWord word.For t → Heads head (v + 1) ls → SpellsBound bound (v + 1) ms
      → SaysFirst rs → IsRead x o (v + 1) u rs → IsRead (plain.For t.place head.start head.test head.step bound x) o v u (at t (v + 1) ∷ (ls ++ (ms ++ rs)))
  r_counts {rs = rs} h b n f r d k small low far calm = deep d small far (λ e m.
      one_is (read_statement limit e) sort.For (rw h) (reads_by (x_counting limit (read_statement limit e) (sound_stmt limit e) _ low)
      (inside (over h (λ small. both (head_reads limit b) (both (bound_reads limit n (says_then fixed.Hash says_hash rs k f)) (mapped (r e k small low (omega arith) calm))))))))

  r_pauses : {v u : ℕ} {t semicolon : Token} → IsWord word.Pause t → IsMark mark.Semicolon semicolon → IsRead (plain.Pause t.place) false v u (at t v ∷ at semicolon u ∷ [])
  r_pauses h n d k small low far calm = deep d small far (λ e m.
      one_is (read_statement limit e) sort.Pause (rw h) (reads_by (x_pausing limit (read_statement limit e) (sound_stmt limit e) _ low) (both (tok h) (mapped (last n)))))

  r_forks : {v u : ℕ} {t left : Token} (right semicolon : Token) {branches : List Launch} {ls : List Spelt} → IsWord word.Par t → IsMark mark.LeftRound left → LaunchesRead branches (v + 1) ls
      → IsMark mark.RightRound right → IsMark mark.Semicolon semicolon
      → IsRead (plain.Par t.place (launched branches)) false v u (at t v ∷ (at left (v + 1) ∷ (ls ++ (at right v ∷ [])) ++ (at semicolon u ∷ [])))
  r_forks right semicolon h hl r hr n d k small low far calm = deep d small far (λ e m.
      one_is (read_statement limit e) sort.Par (rw h) (reads_by (x_par_statement limit (read_statement limit e) (sound_stmt limit e) _ low)
      (both (tok h) (both (encloses right hl (λ small. reads_by (a_launches limit (read_statement limit e) (sound_stmt limit e)) (r e (Some right.kind) (omega arith) (round_ends right hr) (round_comma right hr))) hr) (mapped (last n))))))

  aborting_reads : {v u : ℕ} {weak immediate : Bool} {place : Place} (t when semicolon : Token) {test : Term} {body : List Statement} {ls is ms : List Spelt} (e : ℕ) (k : Option TokenKind) → u ≤ limit → limit ≤ e + v
      → IsWord word.Abort t → Block place body (v + 1) (v + 1) ls → BlockReads place body (v + 1) (v + 1) ls → IsWord word.When when → Optional word.Immediate immediate (v + 1) is
      → Brackets test (v + 1) ms → IsMark mark.Semicolon semicolon
      → Reading limit (st.abort_statement limit (read_statement limit e) weak) v (plain.Abort t.place weak immediate test (in_order body)) v (at t (v + 1) ∷ (ls ++ (at when (v + 1) ∷ (is ++ (ms ++ (at semicolon u ∷ [])))))) k
  aborting_reads {weak = weak} t when semicolon {ms = ms} e k low m h b r n f c q =
      reads_by (x_abort_statement limit (read_statement limit e) (sound_stmt limit e) _ low weak)
      (inside (over h (λ small. both (here_reads e b r (omega arith)) (both (tok n)
      (both (flag_reads limit f (ap (is_fixed fixed.Immediate) (first_then ms _ k ∙ brackets_first c _))) (both (bracketed_reads limit c) (mapped (last q))))))))

  r_weak : {v u : ℕ} {immediate : Bool} {place : Place} (t when semicolon : Token) {w : Token} {test : Term} {body : List Statement} {ls is ms : List Spelt}
      → IsWord word.Weak w → IsWord word.Abort t → Block place body (v + 1) (v + 1) ls → BlockReads place body (v + 1) (v + 1) ls → IsWord word.When when → Optional word.Immediate immediate (v + 1) is
      → Brackets test (v + 1) ms → IsMark mark.Semicolon semicolon
      → IsRead (plain.Abort t.place true immediate test (in_order body)) false v u (at w v ∷ at t (v + 1) ∷ (ls ++ (at when (v + 1) ∷ (is ++ (ms ++ (at semicolon u ∷ []))))))
  r_weak {u = u} t when semicolon hw h b r n f c q d k small low far calm = deep d small far (λ e m.
      one_is (read_statement limit e) sort.Weak (rw hw) (reads_by (bind (token limit fixed.Weak) (λ _. abort_statement_by e)) (both (tok hw) (aborting_reads t when semicolon e k low m h b r n f c q))))
    where
      abort_statement_by : (e : ℕ) → Exact limit (st.abort_statement limit (read_statement limit e) true) (Part Any (AbortRest limit (read_statement limit e) (sound_stmt limit e) u low true)) (Reading limit (st.abort_statement limit (read_statement limit e) true))
      abort_statement_by e = by_reading (x_abort_statement limit (read_statement limit e) (sound_stmt limit e) _ low true).sound

  r_abort : {v u : ℕ} {immediate : Bool} {place : Place} (t when semicolon : Token) {test : Term} {body : List Statement} {ls is ms : List Spelt}
      → IsWord word.Abort t → Block place body (v + 1) (v + 1) ls → BlockReads place body (v + 1) (v + 1) ls → IsWord word.When when → Optional word.Immediate immediate (v + 1) is
      → Brackets test (v + 1) ms → IsMark mark.Semicolon semicolon
      → IsRead (plain.Abort t.place false immediate test (in_order body)) false v u (at t (v + 1) ∷ (ls ++ (at when (v + 1) ∷ (is ++ (ms ++ (at semicolon u ∷ []))))))
  r_abort t when semicolon h b r n f c q d k small low far calm = deep d small far (λ e m. one_is (read_statement limit e) sort.Abort (rw h) (aborting_reads t when semicolon e k low m h b r n f c q))

  r_gives : {v u : ℕ} {t : Token} (semicolon : Token) {value : Term} {ls : List Spelt} → IsWord word.Return t → Whole value v ls → IsMark mark.Semicolon semicolon
      → IsRead (plain.Return t.place value) false v u (at t v ∷ (ls ++ (at semicolon u ∷ [])))
  r_gives semicolon h s n d k small low far calm = deep d small far (λ e m.
      one_is (read_statement limit e) sort.Return (rw h) (reads_by (x_return_statement limit (read_statement limit e) (sound_stmt limit e) _ low) (both (tok h) (both (value_reads limit s small (semicolon_ends semicolon n)) (mapped (last n))))))

  mutual
    pub reads : {x : Statement} {o : Bool} {v u : ℕ} {ls : List Spelt} → SpellsStatement x o v u ls → IsRead x o v u ls
    reads (nothing h) = r_nothing h
    reads (acts semicolon s h) = r_acts semicolon s h
    reads (group b) = r_group b (block_reads b)
    reads (declares semicolon h s n) = r_declares semicolon h s n
    reads (if_alone h b s) = r_alone h b (reads s)
    reads (if_else other h b s n z) = r_else other h b (reads s) n (reads z)
    reads (loops h b n s) = r_loops h b n (says_begin s) (reads s)
    reads (counts h b n s) = r_counts h b n (says_begin s) (reads s)
    reads (pauses h n) = r_pauses h n
    reads (forks semicolon h (forked right hl s hr) n) = r_forks right semicolon h hl (launches_read s) hr n
    reads (aborts t when semicolon (there hw) h b n f c q) = r_weak t when semicolon hw h b (block_reads b) n f c q
    reads (aborts t when semicolon missing h b n f c q) = r_abort t when semicolon h b (block_reads b) n f c q
    reads (gives_back semicolon h s n) = r_gives semicolon h s n

    pub listing : {xs : List Statement} {v : ℕ} {ls : List Spelt} → SpellsStatements xs v ls → Listing xs v ls
    listing no_more = λ d n found rest small far h le. rw (a_none d n found rest h) comes
    listing (and_more {xs = xs} {ls = ls} {rs = rs} a b) = l_more ls rs (says_begin a) (reads a) (listing b) (λ k h. next_calm xs rs k b h)

    pub block_reads : {place : Place} {xs : List Statement} {v u : ℕ} {ls : List Spelt} → Block place xs v u ls → BlockReads place xs v u ls
    block_reads (block right hl b hr) = b_block right hl (l_body (listing b)) hr

    launch_reads : {x : Launch} {v : ℕ} {ls : List Spelt} → Starting x v ls → LaunchReads x v ls
    launch_reads (bare_call id h) = l_bare id h
    launch_reads (call id h s) = l_call id h s
    launch_reads (blocked b) = l_block b (block_reads b)

    launches_read : {xs : List Launch} {v : ℕ} {ls : List Spelt} → SpellsLaunches xs v ls → LaunchesRead xs v ls
    launches_read (last_branch s) = l_last s (launch_reads s)
    launches_read (next_branch comma s h rest) = l_next comma s (launch_reads s) h (launches_read rest)
