-- Where a statement is refused, what was taken is the front of one.
use Rattle.std.proofs.Common.{◌≡◌, ℕ, zero, suc, ◌+◌, ◌≤◌, ◌<◌, ◌⊎◌, inl, inr, Bool, true, false, cond, List, [], ◌∷◌, ◌++◌, length, Option, Some, Err, refl, arith}
use Rattle.forec_tree.specs.declared.token.Token.{Token}
use Rattle.forec_tree.specs.declared.token.TokenKind.{TokenKind}
use Rattle.forec_tree.specs.declared.token.Word.TheVariants as word
use Rattle.forec_tree.specs.Terms as plain
use Rattle.forec_tree.specs.Terms.{Term, Statement, absent, present}
use Rattle.forec_tree.specs.Spelling.{Spelt, at, listed}
use Rattle.forec_tree.specs.Parts.{in_order, Calls, Blocks, launched}
use Rattle.forec_tree.specs.SpelledStatements.{Optional, nothing, no_more, Starting, SpellsLaunches}
use Rattle.expr_parser.specs.declared.fault.Fault.{Fault}
use Rattle.expr_parser.specs.declared.fault.Fault.TheVariants.{Syntax}
use Rattle.expr_parser.specs.declared.fixed.Fixed.TheVariants as fixed
use Rattle.statement_parser.specs.declared.meaning.Sort.{Sort}
use Rattle.statement_parser.specs.declared.meaning.Sort.TheVariants as sort
use Rattle.expr_parser.specs.Input.{Input, Parser, and_then, kind_ahead}
use Rattle.expr_parser.specs.Meaning.{is_fixed}
use Rattle.statement_parser.specs.Meaning.{sort_of, ends_body}
use Rattle.statement_parser.specs.Statements as st
use Rattle.statement_parser.specs.Statements.{read_statement}
use Rattle.expr_parser.proofs.Spans.{ok_of}
use Rattle.expr_parser.proofs.Closers.{kind_of}
use Rattle.expr_parser.proofs.Exact.{Bind, Map, mapped, Part, Any}
use Rattle.expr_parser.proofs.Leaves as leaves
use Rattle.expr_parser.proofs.Leaves.{token, opening, a_name}
use Rattle.expr_parser.proofs.Viable.{made, Least, Refused, Viable, Keeps, refused_here, refused_so, refused_to, refused_first, refused_second, Second, failed, bind, map_to, scope, higher, convert, choose_by, either_off, done_at}
use Rattle.expr_parser.proofs.ViableLeaves.{part_keeps, token_keeps, opening_keeps, enclosed_keeps, token_at, last_at, open_at, name_here, enclosing, enclosing_to, commas}
use Rattle.expr_parser.proofs.ViableLeaves as leaf
use Rattle.statement_parser.proofs.SimpleRules as sr
use Rattle.statement_parser.proofs.PartRules as pr
use Rattle.statement_parser.proofs.StatementSound as ss
use Rattle.statement_parser.proofs.StatementSound.{Said, said, SaidHere, said_here, Bodied, bodied, flag_of, launches_in, pair_of, open_never, SoundStmt, Braces, sound_stmt}
use Rattle.statement_parser.proofs.ViableParts.{list_at, value_at, bracketed_at, passed_at, simple_at, local_at, bound_at, head_at}

abbrev pub a_semicolon : Option TokenKind
a_semicolon = Some (kind_of fixed.Semicolon)

-- ---- what may be followed by anything but `else`

said_before : {u v w : ℕ} {x : Statement} {ls : List Spelt} {o k : Option TokenKind} → is_fixed fixed.Else k ≡ false → Said u v x w ls o → Said u v x w ls k
said_before n (said s c) = said s (λ _. n)

said_level : {u v w : ℕ} {x : Statement} {ls : List Spelt} {o : Option TokenKind} → Said u v x w ls o → v ≡ w
said_level (said s c) = refl

here_level : {v w : ℕ} {x : Statement} {ls : List Spelt} {o : Option TokenKind} → SaidHere v x w ls o → v ≡ w
here_level (said_here s c) = refl

said_keeps : {low u : ℕ} {k : Option TokenKind} → is_fixed fixed.Else k ≡ false → Keeps low low (Said u) k
said_keeps n = record { before = λ v w x ls o q. said_before n q; rises = λ v w x ls o q le. omega (arith, said_level q) }

bodied_before : {v w : ℕ} {xs : List Statement} {ls : List Spelt} {o k : Option TokenKind} → Bodied v xs w ls o → Bodied v xs w ls k
bodied_before (bodied s) = bodied s

bodied_level : {v w : ℕ} {xs : List Statement} {ls : List Spelt} {o : Option TokenKind} → Bodied v xs w ls o → v ≡ w
bodied_level (bodied s) = refl

bodied_keeps : {low : ℕ} {k : Option TokenKind} → Keeps low low Bodied k
bodied_keeps = record { before = λ v w x ls o q. bodied_before q; rises = λ v w x ls o q le. omega (arith, bodied_level q) }

least_said : {u : ℕ} {k : Option TokenKind} (v : ℕ) → Least (Said u) a_semicolon k v
least_said {u} {k} v = let t = made (kind_of fixed.Semicolon) in record { value = plain.Nothing t.place; last = v; tokens = at t u ∷ []; spells = said (nothing refl) (open_never k); begins = refl }

least_bodied : {k : Option TokenKind} (v : ℕ) → Least Bodied k k v
least_bodied v = record { value = []; last = v; tokens = []; spells = bodied no_more; begins = refl }

least_added : {k : Option TokenKind} (x : Statement) (v : ℕ) → Least (Map (λ ys. x ∷ ys) Bodied) k k v
least_added x v = record { value = x ∷ []; last = v; tokens = []; spells = mapped (bodied no_more); begins = refl }

module _ (limit : ℕ) where
  flag_at : {low : ℕ} {k : Option TokenKind} → is_fixed fixed.Immediate k ≡ false → Viable limit low (st.flag fixed.Immediate) (Part Any (Optional word.Immediate)) k k
  unfolding st.flag
  flag_at n = convert flag_of (either_off fixed.Immediate n (map_to (λ _. true) (token_at fixed.Immediate)) (done_at false))

  called_at : {low : ℕ} {k : Option TokenKind} → is_fixed fixed.LeftRound k ≡ false → Viable limit low (st.call_launch limit) (Part Any Starting) leaf.a_name k
  unfolding st.call_launch st.maybe_passed
  called_at n = convert (ss.called_of limit) (bind (a_name limit) part_keeps name_here (λ t. map_to (λ args. Calls t (listed args)) (either_off fixed.LeftRound n (passed_at limit) (done_at []))))

  -- from the level low on, a statement is refused after the front of one
  abbrev pub Speaks : ℕ → Parser Statement → Type 0
  Speaks low p = (u : ℕ) → u ≤ limit → (k : Option TokenKind) → is_fixed fixed.Else k ≡ false → Viable limit low p (Said u) a_semicolon k

  module _ (p : Parser Statement) (so : SoundStmt limit p) (low : ℕ) (view : Speaks (low + 1) p) where
    -- ---- lists of statements

    abbrev BodyRefused : Option TokenKind → ℕ → Type 0
    BodyRefused k turns = (found : List Statement) (i : Input) (e : Fault) → low + 1 ≤ i.level → i.level ≤ limit → st.body_from limit p turns found i ≡ Err e → Refused limit Bodied k i e

    abbrev Adding : ℕ → Option TokenKind → Input → Fault → Type 0
    Adding v k i e = Refused limit (Bind (Said v) (λ x. Map (λ ys. x ∷ ys) Bodied)) k i e

    added : {k : Option TokenKind} (i : Input) (e : Fault) → Adding i.level k i e → Refused limit Bodied k i e
    added i e r = refused_so r (λ ls s. record { value = s.value; last = s.last; behind = s.behind; spells = ss.add_on limit p so s.spells })

    fails_end : {k : Option TokenKind} → BodyRefused k zero
    unfolding st.body_from
    fails_end {k} found i e deep small h = by_test (ends_body (kind_ahead i.rest)) h
      where
        by_test : (b : Bool) → cond b (ok_of found i) (Err (Syntax (length i.rest))) ≡ Err e → Refused limit Bodied k i e
        by_test true h = absurd (cc)
        by_test false h = refused_here (least_bodied i.level) (cc)

    fails_turn : {k : Option TokenKind} → is_fixed fixed.Else k ≡ false → (turns : ℕ) → BodyRefused k turns → BodyRefused k (suc turns)
    unfolding st.body_from
    fails_turn {k} n turns ih found i e deep small h = by_test (ends_body (kind_ahead i.rest)) h
      where
        of : (p i ≡ Err e) ⊎ Second (p i) (λ x. st.body_from limit p turns (found ++ x ∷ [])) e → Refused limit Bodied k i e
        of (inl z) = added i e (refused_first (λ x u. least_added x u) ((view i.level small k n).refused i e deep small z))
        of (inr z) =
            let r = so i.level small i z.state z.value small z.was in
            let more : Refused limit (Map (λ ys. z.value ∷ ys) Bodied) k z.state e =
            refused_so (ih (found ++ z.value ∷ []) z.state e (omega (arith, said_level r.spells)) r.small z.goes) (λ ls s. record { value = z.value ∷ s.value; last = s.last; behind = s.behind; spells = mapped s.spells }) in
            added i e (refused_second r (said_before n r.spells) (least_added z.value z.state.level) more)

        by_test : (b : Bool) → cond b (ok_of found i) (and_then (p i) (λ x. st.body_from limit p turns (found ++ x ∷ []))) ≡ Err e → Refused limit Bodied k i e
        by_test true h = absurd (cc)
        by_test false h = of (failed (p i) (λ x. st.body_from limit p turns (found ++ x ∷ [])) e h)

    fails : {k : Option TokenKind} → is_fixed fixed.Else k ≡ false → (turns : ℕ) → BodyRefused k turns
    fails n zero = fails_end
    fails n (suc turns) = fails_turn n turns (fails n turns)

    body_at : {k : Option TokenKind} → is_fixed fixed.Else k ≡ false → Viable limit (low + 1) (st.body limit p) Bodied k k
    unfolding st.body
    body_at n = record { refused = λ i e deep small h. fails n (length i.rest) [] i e deep small h; least = least_bodied }

    pub block_at : {k : Option TokenKind} {m : ℕ} → low ≤ m → (g : ℕ → ℕ) → Viable limit m (st.block limit p) (Braces limit p so g Bodied) (Some (kind_of fixed.LeftCurly)) k
    unfolding st.block
    block_at le g = enclosing_to g fixed.LeftCurly fixed.RightCurly pair_of (ss.body_by limit p so) bodied_keeps (higher (omega arith) (body_at refl))

    -- ---- branches of a `par`

    launch_at : {k : Option TokenKind} {m : ℕ} → low ≤ m → is_fixed fixed.LeftRound k ≡ false → Viable limit m (st.launch limit p) (Part Any Starting) leaf.a_name k
    unfolding st.launch
    launch_at le n = convert (ss.launching_of limit p so) (either_off fixed.LeftCurly refl (map_to (λ b. Blocks b.0 (in_order b.1)) (block_at le (λ v. v))) (called_at n))

    launches_at : {m : ℕ} → low ≤ m → Viable limit m (st.launches limit p) (Part Any SpellsLaunches) leaf.a_name (Some (kind_of fixed.RightRound))
    unfolding st.launches
    launches_at le = convert (λ v w x ls o q. launches_in q) (commas (ss.launch_by limit p so) part_keeps refl (launch_at le refl))

    -- ---- statements

    module _ (u : ℕ) (top : u ≤ limit) where
      empty_at : {k : Option TokenKind} → Viable limit low (st.one_by limit p sort.Empty) (Said u) a_semicolon k
      empty_at = convert (ss.empty_of limit p so u top) (map_to (λ (t : Token). plain.Nothing t.place) (last_at fixed.Semicolon u))

      group_at : {k : Option TokenKind} → Viable limit low (st.group limit p) (Said u) (Some (kind_of fixed.LeftCurly)) k
      unfolding st.group
      group_at = convert (ss.group_of limit p so u top) (map_to (λ b. plain.Group b.0 (in_order b.1)) (block_at (omega arith) (λ _. u)))

      declaring_at : {k : Option TokenKind} → Viable limit low (st.declaring limit) (Said u) (Some (kind_of fixed.Int)) k
      unfolding st.declaring
      declaring_at = convert (ss.declaring_of limit p so u top)
          (bind (token limit fixed.Int) token_keeps (token_at fixed.Int) (λ t. bind (sr.a_list (pr.local_by limit)) part_keeps (list_at (pr.local_by limit) refl (local_at limit refl))
          (λ locals. map_to (λ (_ : Token). plain.Declare t.place locals) (last_at fixed.Semicolon u))))

      acting_at : {k : Option TokenKind} → Viable limit low (st.acting limit) (Said u) leaf.a_name k
      unfolding st.acting
      acting_at = convert (ss.acting_of limit p so u top) (bind (sr.a_simple limit) part_keeps (simple_at limit refl) (λ x. map_to (λ (_ : Token). x) (last_at fixed.Semicolon u)))

      otherwise_at : {k : Option TokenKind} (t : Token) (test : Term) (a : Statement) → is_fixed fixed.Else k ≡ false → Viable limit (low + 1) (st.otherwise limit p t test a) (ss.Otherwise limit p so u top t test a (Said u)) (Some (kind_of fixed.Else)) k
      unfolding st.otherwise
      otherwise_at {k} t test a n = bind (opening limit fixed.Else) opening_keeps (open_at fixed.Else) (λ _. map_to (λ b. plain.If t.place test a (present b)) (higher (omega arith) (view u top k n)))

      branching_at : {k : Option TokenKind} → is_fixed fixed.Else k ≡ false → Viable limit low (st.if_statement limit p) (Said u) (Some (kind_of fixed.If)) k
      unfolding st.if_statement
      branching_at {k} n = convert (λ v w x ls o q. ss.branched_of limit p so u top q)
          (scope (bind (opening limit fixed.If) opening_keeps (open_at fixed.If) (λ t. bind (sr.a_bracketed limit) part_keeps (bracketed_at limit) (λ test.
          choose_by fixed.Else (ss.inner_here limit p so) (ss.inner limit p so u top) (λ v w x ls o q le. omega (arith, here_level q)) (said_keeps n) n (view u top k n)
          (λ a. otherwise_at t test a n) (λ a. done_at (plain.If t.place test a absent))))))

      looping_at : {k : Option TokenKind} → is_fixed fixed.Else k ≡ false → Viable limit low (st.while_statement limit p) (Said u) (Some (kind_of fixed.While)) k
      unfolding st.while_statement
      looping_at {k} n = convert (ss.looping_of limit p so u top)
          (scope (bind (opening limit fixed.While) opening_keeps (open_at fixed.While) (λ t. bind (sr.a_bracketed limit) part_keeps (bracketed_at limit) (λ test.
          bind (pr.bound_by limit) part_keeps (bound_at limit refl) (λ turns. map_to (λ x. plain.While t.place test turns x) (view u top k n))))))

      counting_at : {k : Option TokenKind} → is_fixed fixed.Else k ≡ false → Viable limit low (st.for_statement limit p) (Said u) (Some (kind_of fixed.For)) k
      unfolding st.for_statement
      counting_at {k} n = convert (ss.counting_of limit p so u top)
          (scope (bind (opening limit fixed.For) opening_keeps (open_at fixed.For) (λ t. bind (pr.head_by limit) part_keeps (head_at limit) (λ h.
          bind (pr.bound_by limit) part_keeps (bound_at limit refl) (λ turns. map_to (λ x. plain.For t.place h.start h.test h.step turns x) (view u top k n))))))

      pausing_at : {k : Option TokenKind} → Viable limit low (st.pausing limit) (Said u) (Some (kind_of fixed.Pause)) k
      unfolding st.pausing
      pausing_at = convert (ss.pausing_of limit p so u top) (bind (token limit fixed.Pause) token_keeps (token_at fixed.Pause) (λ t. map_to (λ (_ : Token). plain.Pause t.place) (last_at fixed.Semicolon u)))

      par_statement_at : {k : Option TokenKind} → Viable limit low (st.par_statement limit p) (Said u) (Some (kind_of fixed.Par)) k
      unfolding st.par_statement
      par_statement_at = convert (ss.forking_of limit p so u top)
          (bind (token limit fixed.Par) token_keeps (token_at fixed.Par) (λ t. bind (leaves.enclosing fixed.LeftRound fixed.RightRound (λ _ xs. xs) (ss.launches_by limit p so)) enclosed_keeps
          (enclosing fixed.LeftRound fixed.RightRound (λ _ xs. xs) (ss.launches_by limit p so) part_keeps (launches_at (omega arith)))
          (λ bs. map_to (λ (_ : Token). plain.Par t.place (launched bs)) (last_at fixed.Semicolon u))))

      abort_statement_at : {k : Option TokenKind} (weak : Bool) → Viable limit low (st.abort_statement limit p weak) (Part Any (ss.AbortRest limit p so u top weak)) (Some (kind_of fixed.Abort)) k
      unfolding st.abort_statement
      abort_statement_at weak = convert (ss.aborting_of limit p so u top weak)
          (scope (bind (opening limit fixed.Abort) opening_keeps (open_at fixed.Abort) (λ t. bind (ss.block_here limit p so) enclosed_keeps (block_at (omega arith) (λ v. v)) (λ b.
          bind (token limit fixed.When) token_keeps (token_at fixed.When) (λ _. bind (ss.flag_by limit) part_keeps (flag_at refl) (λ immediate. bind (sr.a_bracketed limit) part_keeps (bracketed_at limit) (λ test.
          map_to (λ (_ : Token). plain.Abort t.place weak immediate test (in_order b.1)) (last_at fixed.Semicolon u))))))))

      weak_at : {k : Option TokenKind} → Viable limit low (st.one_by limit p sort.Weak) (Said u) (Some (kind_of fixed.Weak)) k
      weak_at = convert (λ v w x ls o q. ss.weak_of limit p so u top q) (bind (token limit fixed.Weak) token_keeps (token_at fixed.Weak) (λ _. abort_statement_at true))

      return_statement_at : {k : Option TokenKind} → Viable limit low (st.return_statement limit) (Said u) (Some (kind_of fixed.Return)) k
      unfolding st.return_statement
      return_statement_at = convert (ss.giving_of limit p so u top)
          (bind (token limit fixed.Return) token_keeps (token_at fixed.Return) (λ t. bind (sr.a_value limit) part_keeps (value_at limit refl) (λ x. map_to (λ (_ : Token). plain.Return t.place x) (last_at fixed.Semicolon u))))

      one_stops : {k : Option TokenKind} → is_fixed fixed.Else k ≡ false → (s : Sort) (i : Input) (e : Fault) → low ≤ i.level → i.level ≤ limit → st.one_by limit p s i ≡ Err e → Refused limit (Said u) k i e
      one_stops n sort.Empty i e deep small h = empty_at.refused i e deep small h
      one_stops n sort.Curly i e deep small h = group_at.refused i e deep small h
      one_stops n sort.Declares i e deep small h = declaring_at.refused i e deep small h
      one_stops n sort.If i e deep small h = (branching_at n).refused i e deep small h
      one_stops n sort.While i e deep small h = (looping_at n).refused i e deep small h
      one_stops n sort.For i e deep small h = (counting_at n).refused i e deep small h
      one_stops n sort.Pause i e deep small h = pausing_at.refused i e deep small h
      one_stops n sort.Par i e deep small h = par_statement_at.refused i e deep small h
      one_stops n sort.Weak i e deep small h = weak_at.refused i e deep small h
      one_stops n sort.Abort i e deep small h = refused_to (λ v w x ls o q. ss.strong_of limit p so u top q) ((abort_statement_at false).refused i e deep small h)
      one_stops n sort.Return i e deep small h = return_statement_at.refused i e deep small h
      one_stops n sort.Simple i e deep small h = acting_at.refused i e deep small h
      one_stops n sort.Nothing i e deep small h = refused_here (least_said i.level) (cc)

    one_at : Speaks low (st.one_statement limit p)
    unfolding st.one_statement
    one_at u top k n = record { refused = λ i e deep small h. one_stops u top n (sort_of (kind_ahead i.rest)) i e deep small h; least = least_said }

  -- A statement is refused after the front of one, where the depth lasts up to the limit of levels.
  pub viable_stmt : (d low : ℕ) → limit < d + low → Speaks low (read_statement limit d)
  unfolding read_statement
  viable_stmt zero low deep u top k n = record { refused = λ i e le small h. absurd (omega arith); least = least_said }
  viable_stmt (suc d) low deep u top k n = one_at (read_statement limit d) (sound_stmt limit d) low (viable_stmt d (low + 1) (omega arith)) u top k n
