-- What is read as a statement is spelled so.
use mathlib.Core.Path.{subst}
use Rattle.std.proofs.Common.{◌≡◌, ℕ, zero, suc, ◌+◌, ◌≤◌, Bool, true, false, cond, List, [], ◌∷◌, ◌++◌, length, Option, Ok, Err, refl, sym, ◌∙◌, append_assoc, append-nil}
use Rattle.forec_base.specs.declared.Place.{Place}
use Rattle.forec_tree.specs.declared.token.Token.{Token}
use Rattle.forec_tree.specs.declared.token.TokenKind.{TokenKind}
use Rattle.forec_tree.specs.declared.token.Mark.TheVariants as mark
use Rattle.forec_tree.specs.declared.token.Word.TheVariants as word
use Rattle.forec_tree.specs.declared.tree.Number.{Number}
use Rattle.forec_tree.specs.Terms as plain
use Rattle.forec_tree.specs.Terms.{Term, Declared, Statement, absent, present}
use Rattle.forec_tree.specs.Spelling.{Spelt, at, IsMark, IsWord, listed, Whole, Brackets, SpellsArguments}
use Rattle.forec_tree.specs.Parts.{in_order, Launch, Calls, Blocks, launched, Head}
use Rattle.forec_tree.specs.SpelledStatements.{Separated, Declares, Simple, SpellsBound, Heads, Optional, there, missing, SpellsStatement, nothing, acts, group, declares, if_alone, if_else, loops, counts, pauses, forks, aborts, gives_back, Block, block, SpellsStatements, no_more, and_more, forked, Starting, bare_call, call, blocked, SpellsLaunches, last_branch, next_branch}
use Rattle.expr_parser.specs.declared.fault.Fault.TheVariants.{Syntax}
use Rattle.expr_parser.specs.declared.fixed.Fixed.TheVariants as fixed
use Rattle.statement_parser.specs.declared.meaning.Sort.{Sort}
use Rattle.statement_parser.specs.declared.meaning.Sort.TheVariants as sort
use Rattle.expr_parser.specs.Input.{Input, Parser, and_then, kind_ahead}
use Rattle.expr_parser.specs.Meaning.{is_fixed}
use Rattle.statement_parser.specs.Meaning.{sort_of, ends_body}
use Rattle.statement_parser.specs.Statements as st
use Rattle.statement_parser.specs.Statements.{read_statement}
use Rattle.expr_parser.proofs.Spans.{step, ok_of, ok_pair}
use Rattle.expr_parser.proofs.Exact.{Lang, Read, Exact, Bind, both, Map, mapped, Scoped, inside, Done, done, If, on, off, Choice, taken, left_out, Part, part, Reading, Any, bind, map_to, scope, convert, either, done_at, by_reading, then_read, read_as, reads_by, choose_by}
use Rattle.expr_parser.proofs.Leaves.{Tok, tok, Last, last, Up, up, NameIs, name_is, token, last_token, a_name, EnclosedTo, Enclosed, Enclosing, EnclosedBy, Over, bind_up, between, enclosing, enclosing_to, Listed, end_of_list, next_of_list, full_commas, Full, is_so}
use Rattle.statement_parser.proofs.SimpleRules.{a_list, a_value, a_bracketed, a_passed, a_simple}
use Rattle.statement_parser.proofs.PartRules.{local_by, bound_by, head_by}

-- an `else` after the statement does not belong to it
abbrev pub Calm : Bool → Option TokenKind → Type 0
Calm o k = o ≡ true → is_fixed fixed.Else k ≡ false

-- a statement after which the level is u
pub data Said (u : ℕ) : ℕ → Statement → ℕ → List Spelt → Option TokenKind → Type 0 where
  said : {v : ℕ} {o : Bool} {x : Statement} {ls : List Spelt} {k : Option TokenKind} → SpellsStatement x o v u ls → Calm o k → Said u v x v ls k

-- a statement after which the level is that before it
pub data SaidHere : ℕ → Statement → ℕ → List Spelt → Option TokenKind → Type 0 where
  said_here : {v : ℕ} {o : Bool} {x : Statement} {ls : List Spelt} {k : Option TokenKind} → SpellsStatement x o v v ls → Calm o k → SaidHere v x v ls k

pub data Bodied : ℕ → List Statement → ℕ → List Spelt → Option TokenKind → Type 0 where
  bodied : {v : ℕ} {xs : List Statement} {ls : List Spelt} {k : Option TokenKind} → SpellsStatements xs v ls → Bodied v xs v ls k

shut : (o : Bool) (k : Option TokenKind) → Calm o k → is_fixed fixed.Else k ≡ true → o ≡ false
shut true k f h = absurd (let e = f refl in cc)
shut false k f h = refl

pub open_never : (k : Option TokenKind) → Calm false k
open_never k h = absurd (cc)

shut_says : {x : Statement} {v u : ℕ} {ls : List Spelt} (o : Bool) → o ≡ false → SpellsStatement x o v u ls → SpellsStatement x false v u ls
shut_says {x} {v} {u} {ls} o e s = let R : Bool → Type 0 = λ q. SpellsStatement x q v u ls in subst R e s

-- a statement that no `else` belongs to
data Shut : ℕ → Statement → ℕ → List Spelt → Type 0 where
  shut_here : {v : ℕ} {x : Statement} {ls : List Spelt} → SpellsStatement x false v v ls → Shut v x v ls

closed_here : {v w : ℕ} {x : Statement} {ls : List Spelt} (k : Option TokenKind) → SaidHere v x w ls k → is_fixed fixed.Else k ≡ true → Shut v x w ls
closed_here k (said_here {o = o} s calm) e = shut_here (shut_says o (shut o k calm e) s)

branch_shut : {u v n w : ℕ} {t : Token} {test : Term} {x y : Statement} {ls ms rs : List Spelt} {k : Option TokenKind} → IsWord word.If t → Brackets test (v + 1) ls → Shut (v + 1) x n ms
    → Bind (Up fixed.Else) (λ _. Map (λ b. plain.If t.place test x (present b)) (Said u)) n y w rs k → Said u v y v (at t (v + 1) ∷ (ls ++ (ms ++ rs))) k
branch_shut h b (shut_here s) (both (up m) (mapped (said z d))) = said (if_else _ h b s m z) d

abbrev pub pair_of : Token → List Statement → Place × List Statement
pair_of t xs = (t.place, xs)

more_of : {v w : ℕ} {x : Launch} {xs : List Launch} {ls rs : List Spelt} {k : Option TokenKind} (comma : Token) → Starting x v ls → IsMark mark.Comma comma → Part Any SpellsLaunches v xs w rs k
    → Part Any SpellsLaunches v (x ∷ xs) w (ls ++ (at comma v ∷ rs)) k
more_of comma s h (part r c) = part (next_branch comma s h r) tt

pub launches_in : {v w : ℕ} {xs : List Launch} {ls : List Spelt} {k : Option TokenKind} → Listed (Part Any Starting) v xs w ls k → Part Any SpellsLaunches v xs w ls k
launches_in (end_of_list (part s c) e) = part (last_branch s) tt
launches_in (next_of_list comma (part s c) h rest) = more_of comma s h (launches_in rest)

pub flag_of : (v w : ℕ) (x : Bool) (ls : List Spelt) (k : Option TokenKind) → If fixed.Immediate (Map (λ _. true) (Tok fixed.Immediate)) (Done false) v x w ls k → Part Any (Optional word.Immediate) v x w ls k
flag_of v w x ls k (on e (mapped (tok h))) = part (there h) tt
flag_of v w x ls k (off e done) = part missing tt

module _ (limit : ℕ) where
  a_flag : Exact limit (st.flag fixed.Immediate) (Part Any (Optional word.Immediate)) (If fixed.Immediate (Map (λ _. true) (Tok fixed.Immediate)) (Done false))
  unfolding st.flag
  a_flag = convert flag_of (λ v w x ls k q. q) (either fixed.Immediate (map_to (λ _. true) (token limit fixed.Immediate)) (done_at false))

  pub flag_by : Exact limit (st.flag fixed.Immediate) (Part Any (Optional word.Immediate)) (Reading limit (st.flag fixed.Immediate))
  flag_by = by_reading a_flag.sound

  pub flag_reads : {v : ℕ} {b : Bool} {ls : List Spelt} {k : Option TokenKind} → Optional word.Immediate b v ls → is_fixed fixed.Immediate k ≡ false → Reading limit (st.flag fixed.Immediate) v b v ls k
  flag_reads (there {t = t} h) n = reads_by a_flag (on (is_so fixed.Immediate t h) (mapped (tok h)))
  flag_reads missing n = reads_by a_flag (off n done)

  pub a_maybe_passed : Exact limit (st.maybe_passed limit) (If fixed.LeftRound (Part Any SpellsArguments) (Done [])) (If fixed.LeftRound (Reading limit (st.passed_expressions limit)) (Done []))
  unfolding st.maybe_passed
  a_maybe_passed = either fixed.LeftRound (a_passed limit) (done_at [])

  abbrev Called : Lang (List Term) → Lang Launch
  Called P = Bind (Part Any NameIs) (λ n. Map (λ args. Calls n (listed args)) (If fixed.LeftRound P (Done [])))

  pub called_of : (v w : ℕ) (x : Launch) (ls : List Spelt) (k : Option TokenKind) → Called (Part Any SpellsArguments) v x w ls k → Part Any Starting v x w ls k
  called_of v w x ls k (both (part (name_is id h) c) (mapped (on e (part s d)))) = part (call id h s) tt
  called_of v w x ls k (both (part (name_is id h) c) (mapped (off e done))) = part (bare_call id h) tt

  pub a_called : Exact limit (st.call_launch limit) (Part Any Starting) (Called (Reading limit (st.passed_expressions limit)))
  unfolding st.call_launch
  a_called = convert called_of (λ v w x ls k q. q) (bind (a_name limit) (λ n. map_to (λ args. Calls n (listed args)) a_maybe_passed))

  pub called_by : Exact limit (st.call_launch limit) (Part Any Starting) (Reading limit (st.call_launch limit))
  called_by = by_reading a_called.sound

  abbrev pub SoundStmt : Parser Statement → Type 0
  SoundStmt p = (u : ℕ) → u ≤ limit → (i j : Input) (x : Statement) → i.level ≤ limit → p i ≡ Ok (x, j) → Read limit (Said u) x i j

  module _ (p : Parser Statement) (sound_p : SoundStmt p) where
    pub inner : (u : ℕ) → u ≤ limit → Exact limit p (Said u) (Reading limit p)
    inner u low = by_reading (sound_p u low)

    pub inner_here : Exact limit p SaidHere (Reading limit p)
    inner_here = by_reading (λ i j x small h. read_as (sound_p i.level small i j x small h) (λ ls e q. of q))
      where
        of : {v w : ℕ} {x : Statement} {ls : List Spelt} {k : Option TokenKind} → Said v v x w ls k → SaidHere v x w ls k
        of (said s c) = said_here s c

    -- ---- lists of statements

    record More (found all : List Statement) (i j : Input) : Type 0 where
      pub xs : List Statement
      pub all_is : all ≡ found ++ xs
      pub read : Read limit Bodied xs i j

    pub add_on : {v w : ℕ} {xs : List Statement} {ls : List Spelt} {k : Option TokenKind} → Bind (Said v) (λ x. Map (λ ys. x ∷ ys) Bodied) v xs w ls k → Bodied v xs w ls k
    add_on (both (said s c) (mapped (bodied b))) = bodied (and_more s b)

    none_more : (found all : List Statement) (i j : Input) → i.level ≤ limit → ok_of found i ≡ Ok (all, j) → More found all i j
    none_more found all i j small k =
        let q = ok_pair found all i j k in
        let made : More found found i i = record { xs = []; all_is = sym (append-nil found); read = record { spelt = []; front = refl; spells = bodied no_more; within = tt; small = small } } in
        let R : Input → Type 0 = λ z. More found found i z in
        let S : List Statement → Type 0 = λ z. More found z i j in
        subst S q.0 (subst R q.1 made)

    b_from : (n : ℕ) (found all : List Statement) (i j : Input) → i.level ≤ limit → st.body_from limit p n found i ≡ Ok (all, j) → More found all i j
    unfolding st.body_from
    b_from zero found all i j small h = by_test (ends_body (kind_ahead i.rest)) h
      where
        by_test : (b : Bool) → cond b (ok_of found i) (Err (Syntax (length i.rest))) ≡ Ok (all, j) → More found all i j
        by_test true k = none_more found all i j small k
        by_test false k = absurd (cc)
    b_from (suc n) found all i j small h = by_test (b_from n) (ends_body (kind_ahead i.rest)) h
      where
        by_test : ((found all : List Statement) (i j : Input) → i.level ≤ limit → st.body_from limit p n found i ≡ Ok (all, j) → More found all i j)
            → (b : Bool) → cond b (ok_of found i) (and_then (p i) (λ x. st.body_from limit p n (found ++ x ∷ []))) ≡ Ok (all, j) → More found all i j
        by_test ih true k = none_more found all i j small k
        by_test ih false k =
            let s = step (p i) (λ x. st.body_from limit p n (found ++ x ∷ [])) (all, j) k in
            let a = sound_p i.level small i s.state s.value small s.was in
            let m = ih (found ++ s.value ∷ []) all s.state j a.small s.goes in
            let r : Read limit (Map (λ ys. s.value ∷ ys) Bodied) (s.value ∷ m.xs) s.state j = read_as m.read (λ ls e q. mapped q) in
            let t : Read limit (Bind (Said i.level) (λ x. Map (λ ys. x ∷ ys) Bodied)) (s.value ∷ m.xs) i j = then_read a r in
            record { xs = s.value ∷ m.xs; all_is = m.all_is ∙ append_assoc found (s.value ∷ []) m.xs; read = read_as t (λ ls e q. add_on q) }

    pub body_by : Exact limit (st.body limit p) Bodied (Reading limit (st.body limit p))
    unfolding st.body
    body_by = by_reading (λ i j xs small h.
        let m = b_from (length i.rest) [] xs i j small h in
        let S : List Statement → Type 0 = λ z. Read limit Bodied z i j in
        subst S (sym m.all_is) m.read)

    abbrev pub Braces : (ℕ → ℕ) → Lang (List Statement) → Lang (Place × List Statement)
    Braces g B = EnclosedTo g fixed.LeftCurly fixed.RightCurly pair_of B

    -- the same, where what stands between is looked at only where the limit allows it
    abbrev pub BracesBy : (ℕ → ℕ) → Lang (List Statement) → Lang (Place × List Statement)
    BracesBy g B = Enclosing limit g fixed.LeftCurly fixed.RightCurly pair_of B

    pub a_block : (g : ℕ → ℕ) → ((v : ℕ) → v ≤ limit → g v ≤ limit) → Exact limit (st.block limit p) (Braces g Bodied) (BracesBy g (Reading limit (st.body limit p)))
    unfolding st.block
    a_block g low = enclosing_to g low fixed.LeftCurly fixed.RightCurly pair_of body_by

    pub block_here : Exact limit (st.block limit p) (Braces (λ v. v) Bodied) (Reading limit (st.block limit p))
    block_here = by_reading (a_block (λ v. v) (λ v h. h)).sound

    -- ---- branches of a `par`

    abbrev LaunchBy : Lang (Place × List Statement) → Lang Launch → Lang Launch
    LaunchBy B C = If fixed.LeftCurly (Map (λ b. Blocks b.0 (in_order b.1)) B) C

    pub launching_of : (v w : ℕ) (x : Launch) (ls : List Spelt) (k : Option TokenKind) → LaunchBy (Braces (λ v. v) Bodied) (Part Any Starting) v x w ls k → Part Any Starting v x w ls k
    launching_of v w x ls k (on e (mapped (between right hl (bodied b) hr))) = part (blocked (block right hl b hr)) tt
    launching_of v w x ls k (off e q) = q

    pub a_launch : Exact limit (st.launch limit p) (Part Any Starting) (LaunchBy (Reading limit (st.block limit p)) (Reading limit (st.call_launch limit)))
    unfolding st.launch
    a_launch = convert launching_of (λ v w x ls k q. q) (either fixed.LeftCurly (map_to (λ b. Blocks b.0 (in_order b.1)) block_here) called_by)

    pub launch_by : Exact limit (st.launch limit p) (Part Any Starting) (Reading limit (st.launch limit p))
    launch_by = by_reading a_launch.sound

    pub a_launches : Exact limit (st.launches limit p) (Part Any SpellsLaunches) (Listed (Full (Reading limit (st.launch limit p))))
    unfolding st.launches
    a_launches = convert (λ v w x ls k q. launches_in q) (λ v w x ls k q. q) (full_commas launch_by)

    pub launches_by : Exact limit (st.launches limit p) (Part Any SpellsLaunches) (Reading limit (st.launches limit p))
    launches_by = by_reading a_launches.sound

    -- ---- statements

    module _ (u : ℕ) (low : u ≤ limit) where
      abbrev Empty : Lang Statement
      Empty = Map (λ (t : Token). plain.Nothing t.place) (Last fixed.Semicolon u)

      pub empty_of : (v w : ℕ) (x : Statement) (ls : List Spelt) (k : Option TokenKind) → Empty v x w ls k → Said u v x w ls k
      empty_of v w x ls k (mapped (last h)) = said (nothing h) (open_never k)

      pub x_empty : Exact limit (st.one_by limit p sort.Empty) (Said u) Empty
      x_empty = convert empty_of (λ v w x ls k q. q) (map_to (λ (t : Token). plain.Nothing t.place) (last_token limit u low fixed.Semicolon))

      abbrev Grouped : Lang (List Statement) → Lang Statement
      Grouped B = Map (λ b. plain.Group b.0 (in_order b.1)) (Braces (λ _. u) B)

      pub group_of : (v w : ℕ) (x : Statement) (ls : List Spelt) (k : Option TokenKind) → Grouped Bodied v x w ls k → Said u v x w ls k
      group_of v w x ls k (mapped (between right hl (bodied b) hr)) = said (group (block right hl b hr)) (open_never k)

      pub x_group : Exact limit (st.group limit p) (Said u) (Map (λ b. plain.Group b.0 (in_order b.1)) (BracesBy (λ _. u) (Reading limit (st.body limit p))))
      unfolding st.group
      x_group = convert group_of (λ v w x ls k q. q) (map_to (λ b. plain.Group b.0 (in_order b.1)) (a_block (λ _. u) (λ v h. low)))

      abbrev Declaring : Lang (List Declared) → Lang Statement
      Declaring L = Bind (Tok fixed.Int) (λ t. Bind L (λ locals. Map (λ (_ : Token). plain.Declare t.place locals) (Last fixed.Semicolon u)))

      pub declaring_of : (v w : ℕ) (x : Statement) (ls : List Spelt) (k : Option TokenKind) → Declaring (Part Any (Separated Declares)) v x w ls k → Said u v x w ls k
      declaring_of v w x ls k (both (tok h) (both (part s c) (mapped (last m)))) = said (declares _ h s m) (open_never k)

      pub x_declaring : Exact limit (st.declaring limit) (Said u) (Declaring (Listed (Full (Reading limit (st.local limit)))))
      unfolding st.declaring
      x_declaring = convert declaring_of (λ v w x ls k q. q)
          (bind (token limit fixed.Int) (λ t. bind (a_list (local_by limit)) (λ locals. map_to (λ (_ : Token). plain.Declare t.place locals) (last_token limit u low fixed.Semicolon))))

      abbrev Acting : Lang Statement → Lang Statement
      Acting S = Bind S (λ x. Map (λ (_ : Token). x) (Last fixed.Semicolon u))

      pub acting_of : (v w : ℕ) (x : Statement) (ls : List Spelt) (k : Option TokenKind) → Acting (Part Any Simple) v x w ls k → Said u v x w ls k
      acting_of v w x ls k (both (part s c) (mapped (last m))) = said (acts _ s m) (open_never k)

      pub x_acting : Exact limit (st.acting limit) (Said u) (Acting (Reading limit (st.simple limit)))
      unfolding st.acting
      x_acting = convert acting_of (λ v w x ls k q. q) (bind (a_simple limit) (λ x. map_to (λ (_ : Token). x) (last_token limit u low fixed.Semicolon)))

      abbrev pub Otherwise : Token → Term → Statement → Lang Statement → Lang Statement
      Otherwise t test a S = Bind (Up fixed.Else) (λ _. Map (λ b. plain.If t.place test a (present b)) S)

      abbrev OtherwiseBy : Token → Term → Statement → Lang Statement
      OtherwiseBy t test a = Over limit fixed.Else (λ _. Map (λ b. plain.If t.place test a (present b)) (Reading limit p))

      pub x_otherwise : (t : Token) (test : Term) (a : Statement) → Exact limit (st.otherwise limit p t test a) (Otherwise t test a (Said u)) (OtherwiseBy t test a)
      unfolding st.otherwise
      x_otherwise t test a = bind_up fixed.Else (λ _. map_to (λ b. plain.If t.place test a (present b)) (inner u low))

      abbrev Branched : Lang Statement
      Branched = Scoped (Bind (Up fixed.If) (λ t. Bind (Part Any Brackets) (λ test.
          Choice fixed.Else SaidHere (Said u) (λ a. Otherwise t test a (Said u)) (λ a. Done (plain.If t.place test a absent)))))

      abbrev pub IfBy : Lang Statement
      IfBy = Scoped (Over limit fixed.If (λ t. Bind (Reading limit (st.bracketed_expression limit)) (λ test.
          Bind (Reading limit p) (λ a. If fixed.Else (OtherwiseBy t test a) (Done (plain.If t.place test a absent))))))

      pub branched_of : {v w : ℕ} {x : Statement} {ls : List Spelt} {k : Option TokenKind} → Branched v x w ls k → Said u v x w ls k
      branched_of (inside (both (up h) (both (part b c) (taken e a q)))) = branch_shut h b (closed_here _ a e) q
      branched_of {v} {k = k} (inside (both (up {t = t} h) (both {x = test} {ls = ls} (part b c) (left_out {x = a} {ls = ms} e (said s calm) done)))) =
          let R : List Spelt → Type 0 = λ z. Said u v (plain.If t.place test a absent) v (at t (v + 1) ∷ (ls ++ z)) k in
          subst R (sym (append-nil ms)) (said (if_alone h b s) (λ _. e))

      pub x_branching : Exact limit (st.if_statement limit p) (Said u) IfBy
      unfolding st.if_statement
      x_branching = convert (λ v w x ls k q. branched_of q) (λ v w x ls k q. q)
          (scope (bind_up fixed.If (λ t. bind (a_bracketed limit) (λ test.
          choose_by fixed.Else inner_here (inner u low) (λ a. x_otherwise t test a) (λ a. done_at (plain.If t.place test a absent))))))

      abbrev WhileBy : Lang Term → Lang (Option Number) → Lang Statement → Lang Statement
      WhileBy B N S = Scoped (Bind (Up fixed.While) (λ t. Bind B (λ test. Bind N (λ turns. Map (λ x. plain.While t.place test turns x) S))))

      pub looping_of : (v w : ℕ) (x : Statement) (ls : List Spelt) (k : Option TokenKind) → WhileBy (Part Any Brackets) (Part Any SpellsBound) (Said u) v x w ls k → Said u v x w ls k
      looping_of v w x ls k (inside (both (up h) (both (part b c) (both (part n d) (mapped (said s calm)))))) = said (loops h b n s) calm

      abbrev LoopingBy : Lang Statement
      LoopingBy = Scoped (Over limit fixed.While (λ t. Bind (Reading limit (st.bracketed_expression limit)) (λ test. Bind (Reading limit (st.bound limit)) (λ turns. Map (λ x. plain.While t.place test turns x) (Reading limit p)))))

      pub x_looping : Exact limit (st.while_statement limit p) (Said u) LoopingBy
      unfolding st.while_statement
      x_looping = convert looping_of (λ v w x ls k q. q)
          (scope (bind_up fixed.While (λ t. bind (a_bracketed limit) (λ test. bind (bound_by limit) (λ turns. map_to (λ x. plain.While t.place test turns x) (inner u low))))))

      abbrev ForBy : Lang Head → Lang (Option Number) → Lang Statement → Lang Statement
      ForBy B N S = Scoped (Bind (Up fixed.For) (λ t. Bind B (λ h. Bind N (λ turns. Map (λ x. plain.For t.place h.start h.test h.step turns x) S))))

      pub counting_of : (v w : ℕ) (x : Statement) (ls : List Spelt) (k : Option TokenKind) → ForBy (Part Any Heads) (Part Any SpellsBound) (Said u) v x w ls k → Said u v x w ls k
      counting_of v w x ls k (inside (both (up h) (both (part b c) (both (part n d) (mapped (said s calm)))))) = said (counts h b n s) calm

      abbrev CountingBy : Lang Statement
      CountingBy = Scoped (Over limit fixed.For (λ t. Bind (Reading limit (st.head limit)) (λ h. Bind (Reading limit (st.bound limit)) (λ turns. Map (λ x. plain.For t.place h.start h.test h.step turns x) (Reading limit p)))))

      pub x_counting : Exact limit (st.for_statement limit p) (Said u) CountingBy
      unfolding st.for_statement
      x_counting = convert counting_of (λ v w x ls k q. q)
          (scope (bind_up fixed.For (λ t. bind (head_by limit) (λ h. bind (bound_by limit) (λ turns. map_to (λ x. plain.For t.place h.start h.test h.step turns x) (inner u low))))))

      abbrev Pausing : Lang Statement
      Pausing = Bind (Tok fixed.Pause) (λ t. Map (λ (_ : Token). plain.Pause t.place) (Last fixed.Semicolon u))

      pub pausing_of : (v w : ℕ) (x : Statement) (ls : List Spelt) (k : Option TokenKind) → Pausing v x w ls k → Said u v x w ls k
      pausing_of v w x ls k (both (tok h) (mapped (last m))) = said (pauses h m) (open_never k)

      pub x_pausing : Exact limit (st.pausing limit) (Said u) Pausing
      unfolding st.pausing
      x_pausing = convert pausing_of (λ v w x ls k q. q) (bind (token limit fixed.Pause) (λ t. map_to (λ (_ : Token). plain.Pause t.place) (last_token limit u low fixed.Semicolon)))

      abbrev Forking : Lang (List Launch) → Lang Statement
      Forking L = Bind (Tok fixed.Par) (λ t. Bind (Enclosed fixed.LeftRound fixed.RightRound (λ _ xs. xs) L) (λ bs. Map (λ (_ : Token). plain.Par t.place (launched bs)) (Last fixed.Semicolon u)))

      pub forking_of : (v w : ℕ) (x : Statement) (ls : List Spelt) (k : Option TokenKind) → Forking (Part Any SpellsLaunches) v x w ls k → Said u v x w ls k
      forking_of v w x ls k (both (tok h) (both (between right hl (part s c) hr) (mapped (last m)))) = said (forks _ h (forked right hl s hr) m) (open_never k)

      abbrev ForkingBy : Lang Statement
      ForkingBy = Bind (Tok fixed.Par) (λ t. Bind (EnclosedBy limit fixed.LeftRound fixed.RightRound (λ _ xs. xs) (Reading limit (st.launches limit p))) (λ bs.
          Map (λ (_ : Token). plain.Par t.place (launched bs)) (Last fixed.Semicolon u)))

      pub x_par_statement : Exact limit (st.par_statement limit p) (Said u) ForkingBy
      unfolding st.par_statement
      x_par_statement = convert forking_of (λ v w x ls k q. q)
          (bind (token limit fixed.Par) (λ t. bind (enclosing fixed.LeftRound fixed.RightRound (λ _ xs. xs) launches_by) (λ bs. map_to (λ (_ : Token). plain.Par t.place (launched bs)) (last_token limit u low fixed.Semicolon))))

      -- an abort from the word `abort` on
      pub data AbortRest (weak : Bool) : Statement → ℕ → List Spelt → Type 0 where
        abort_rest : {v : ℕ} {immediate : Bool} {place : Place} (t when semicolon : Token) {test : Term} {body : List Statement} {ls is ms : List Spelt}
            → IsWord word.Abort t → Block place body (v + 1) (v + 1) ls → IsWord word.When when → Optional word.Immediate immediate (v + 1) is → Brackets test (v + 1) ms → IsMark mark.Semicolon semicolon
            → AbortRest weak (plain.Abort t.place weak immediate test (in_order body)) v (at t (v + 1) ∷ (ls ++ (at when (v + 1) ∷ (is ++ (ms ++ (at semicolon u ∷ []))))))

      abbrev Aborting : Bool → Lang (Place × List Statement) → Lang Bool → Lang Term → Lang Statement
      Aborting weak B F T = Scoped (Bind (Up fixed.Abort) (λ t. Bind B (λ b. Bind (Tok fixed.When) (λ _. Bind F (λ immediate. Bind T (λ test.
          Map (λ (_ : Token). plain.Abort t.place weak immediate test (in_order b.1)) (Last fixed.Semicolon u)))))))

      pub aborting_of : (weak : Bool) → (v w : ℕ) (x : Statement) (ls : List Spelt) (k : Option TokenKind) → Aborting weak (Braces (λ v. v) Bodied) (Part Any (Optional word.Immediate)) (Part Any Brackets) v x w ls k → Part Any (AbortRest weak) v x w ls k
      aborting_of weak v w x ls k (inside (both (up h) (both (between right hl (bodied b) hr) (both (tok m) (both (part f c) (both (part t d) (mapped (last n)))))))) =
          part (abort_rest _ _ _ h (block right hl b hr) m f t n) tt

      abbrev AbortingBy : Bool → Lang Statement
      AbortingBy weak = Scoped (Over limit fixed.Abort (λ t. Bind (Reading limit (st.block limit p)) (λ b. Bind (Tok fixed.When) (λ _. Bind (Reading limit (st.flag fixed.Immediate)) (λ immediate.
          Bind (Reading limit (st.bracketed_expression limit)) (λ test. Map (λ (_ : Token). plain.Abort t.place weak immediate test (in_order b.1)) (Last fixed.Semicolon u)))))))

      pub x_abort_statement : (weak : Bool) → Exact limit (st.abort_statement limit p weak) (Part Any (AbortRest weak)) (AbortingBy weak)
      unfolding st.abort_statement
      x_abort_statement weak = convert (aborting_of weak) (λ v w x ls k q. q)
          (scope (bind_up fixed.Abort (λ t. bind block_here (λ b. bind (token limit fixed.When) (λ _. bind (flag_by) (λ immediate. bind (a_bracketed limit) (λ test.
          map_to (λ (_ : Token). plain.Abort t.place weak immediate test (in_order b.1)) (last_token limit u low fixed.Semicolon))))))))

      abbrev Giving : Lang Term → Lang Statement
      Giving V = Bind (Tok fixed.Return) (λ t. Bind V (λ x. Map (λ (_ : Token). plain.Return t.place x) (Last fixed.Semicolon u)))

      pub giving_of : (v w : ℕ) (x : Statement) (ls : List Spelt) (k : Option TokenKind) → Giving (Part Any Whole) v x w ls k → Said u v x w ls k
      giving_of v w x ls k (both (tok h) (both (part s c) (mapped (last m)))) = said (gives_back _ h s m) (open_never k)

      pub x_return_statement : Exact limit (st.return_statement limit) (Said u) (Giving (Reading limit (st.whole_expression limit)))
      unfolding st.return_statement
      x_return_statement = convert giving_of (λ v w x ls k q. q) (bind (token limit fixed.Return) (λ t. bind (a_value limit) (λ x. map_to (λ (_ : Token). plain.Return t.place x) (last_token limit u low fixed.Semicolon))))

      pub weak_of : {v w : ℕ} {x : Statement} {ls : List Spelt} {k : Option TokenKind} → Bind (Tok fixed.Weak) (λ _. Part Any (AbortRest true)) v x w ls k → Said u v x w ls k
      weak_of {k = k} (both (tok h) (part (abort_rest t when semicolon a b c d e f) g)) = said (aborts t when semicolon (there h) a b c d e f) (open_never k)

      pub strong_of : {v w : ℕ} {x : Statement} {ls : List Spelt} {k : Option TokenKind} → Part Any (AbortRest false) v x w ls k → Said u v x w ls k
      strong_of {k = k} (part (abort_rest t when semicolon a b c d e f) g) = said (aborts t when semicolon missing a b c d e f) (open_never k)

      one_of : (s : Sort) (i j : Input) (x : Statement) → i.level ≤ limit → st.one_by limit p s i ≡ Ok (x, j) → Read limit (Said u) x i j
      one_of sort.Empty i j x small h = x_empty.sound i j x small h
      one_of sort.Curly i j x small h = x_group.sound i j x small h
      one_of sort.Declares i j x small h = x_declaring.sound i j x small h
      one_of sort.If i j x small h = x_branching.sound i j x small h
      one_of sort.While i j x small h = x_looping.sound i j x small h
      one_of sort.For i j x small h = x_counting.sound i j x small h
      one_of sort.Pause i j x small h = x_pausing.sound i j x small h
      one_of sort.Par i j x small h = x_par_statement.sound i j x small h
      one_of sort.Weak i j x small h = read_as ((bind (token limit fixed.Weak) (λ _. x_abort_statement true)).sound i j x small h) (λ ls e q. weak_of q)
      one_of sort.Abort i j x small h = read_as ((x_abort_statement false).sound i j x small h) (λ ls e q. strong_of q)
      one_of sort.Return i j x small h = x_return_statement.sound i j x small h
      one_of sort.Simple i j x small h = x_acting.sound i j x small h
      one_of sort.Nothing i j x small h = absurd (cc)

    sound_one : SoundStmt (st.one_statement limit p)
    unfolding st.one_statement
    sound_one u low i j x small h = one_of u low (sort_of (kind_ahead i.rest)) i j x small h

  pub sound_stmt : (d : ℕ) → SoundStmt (read_statement limit d)
  unfolding read_statement
  sound_stmt zero u low i j x small h = absurd (cc)
  sound_stmt (suc d) u low i j x small h = sound_one (read_statement limit d) (sound_stmt d) u low i j x small h
