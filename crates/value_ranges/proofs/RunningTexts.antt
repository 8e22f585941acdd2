-- Running texts in which each number of a statement has a property, and each place at which a trap can be has one.
use Rattle.std.proofs.Common.{ℤ, Bool, true, false, cond, List}
use Rattle.forec_base.specs.Numbers.{is_zero}
use Rattle.forec_kernel.specs.declared.shape.VarCopy.{VarCopy}
use Rattle.forec_kernel.specs.Terms.{Expr, Stmt, Nop, Set, SetAt, PutAt, Clear, Seq, If, While, Pause, Par, Enter, Return, Stmts, no_stmts, more_stmts}
use Rattle.forec_kernel.specs.Texts.{Loop, After, Go_on, Again, Status, RunningText, Done, Run, Then, Turning, Resting, Fork, Held, Watch, Last, Threads, no_threads, child, text_of, texts_of, then_list, after_text, ended_is_gone, ended_are_gone}
use Rattle.forec_kernel.specs.Steps.{entered_abort, refilled}
use Rattle.value_ranges.specs.Properties.{Property, ExprHolds, StmtHolds, StmtsHolds}

module _ (has : Property) where
  abbrev pub LoopHolds : Loop → Type 0
  LoopHolds loop = ExprHolds has loop.test × StmtHolds has loop.body × has.OfPlace loop.place

  abbrev pub AfterHolds : After → Type 0
  AfterHolds (Go_on list) = StmtsHolds has list
  AfterHolds (Again loop) = LoopHolds loop

  -- with what the numbers, the copies and the status of each thread in it have
  module _ (Own : List ℤ → List VarCopy → Status → Type 0) where
    abbrev mutual
      pub RunningHolds : RunningText → Type 0
      RunningHolds Done = Unit {0}
      RunningHolds (Run s) = StmtHolds has s
      RunningHolds (Then R a) = RunningHolds R × AfterHolds a
      RunningHolds (Turning loop) = LoopHolds loop
      RunningHolds Resting = Unit {0}
      RunningHolds (Fork cs) = ThreadsHold cs
      RunningHolds (Held cs) = ThreadsHold cs
      RunningHolds (Watch weak e R) = ExprHolds has e × RunningHolds R
      RunningHolds (Last R) = RunningHolds R

      pub ThreadsHold : Threads → Type 0
      ThreadsHold no_threads = Unit {0}
      ThreadsHold (child t R w c st rest) = RunningHolds R × Own w c st × ThreadsHold rest

    -- ---- reading a statement as a text

    then_list_holds : (R : RunningText) (rest : Stmts) → RunningHolds R → StmtsHolds has rest → RunningHolds (then_list R rest)
    then_list_holds R no_stmts h g = h
    then_list_holds R (more_stmts s rest) h g = (h, g)

    mutual
      pub text_holds : (s : Stmt) → StmtHolds has s → RunningHolds (text_of s)
      text_holds Nop h = tt
      text_holds (Set to e) h = h
      text_holds (SetAt slot n i e place) h = h
      text_holds (PutAt v n i e place) h = h
      text_holds (Clear slot n) h = h
      text_holds (Seq list) h = texts_hold list h
      text_holds (If e a b) h = h
      text_holds (While e bound body place) h = h
      text_holds Pause h = h
      text_holds (Par branches) h = h
      text_holds (Enter weak immediate e body) h = h
      text_holds (Return e) h = h

      pub texts_hold : (list : Stmts) → StmtsHolds has list → RunningHolds (texts_of list)
      texts_hold no_stmts h = tt
      texts_hold (more_stmts s rest) h = then_list_holds (text_of s) rest (text_holds s h.0) h.1

    pub after_holds : (a : After) → AfterHolds a → RunningHolds (after_text a)
    after_holds (Go_on list) h = texts_hold list h
    after_holds (Again loop) h = h

    -- ---- children

    pub gone_hold : ((w : List ℤ) (c : List VarCopy) (st : Status) → Own w c st → Own w c (ended_is_gone st)) → (cs : Threads) → ThreadsHold cs →
        ThreadsHold (ended_are_gone cs)
    gone_hold gone no_threads h = tt
    gone_hold gone (child t R w c st rest) h = (h.0, gone w c st h.1, gone_hold gone rest h.2)

    -- ---- tests

    pub chosen_holds : (b : Bool) (R S : RunningText) → RunningHolds R → RunningHolds S → RunningHolds (cond b R S)
    chosen_holds true R S h g = h
    chosen_holds false R S h g = g

    pub entered_holds : (weak : Bool) (e : Expr) (body : Stmt) (n : ℤ) → ExprHolds has e → StmtHolds has body → RunningHolds (entered_abort weak e body n)
    entered_holds false e body n h g = chosen_holds (is_zero n) (Watch false e (text_of body)) Done (h, text_holds body g) tt
    entered_holds true e body n h g =
        chosen_holds (is_zero n) (Watch true e (text_of body)) (Last (text_of body)) (h, text_holds body g) (text_holds body g)

  pub refilled_holds : (a : After) → AfterHolds a → AfterHolds (refilled a)
  refilled_holds (Go_on list) h = h
  refilled_holds (Again loop) h = h
