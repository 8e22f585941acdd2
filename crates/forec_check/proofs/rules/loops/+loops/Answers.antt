use Rattle.std.proofs.Common.{ℕ, ◌+◌, ◌≡◌, ◌∙◌, ◌&&◌, ◌||◌, sym, ap, refl, not, Bool, false, true, Option, [], ◌∷◌, ◌++◌, drop, add-one}
use Rattle.std.proofs.Math.Seq.{drop-cons}
use Rattle.std.proofs.lemmas.List.{drop_all}
use Rattle.forec_tree.specs.declared.fault.Fault.{Fault}
use Rattle.forec_tree.specs.declared.tree.Stmt.{Stmt}
use Rattle.forec_tree.specs.declared.tree.StmtKind.{While}
use Rattle.forec_tree.specs.Plain as plain
use Rattle.forec_tree.specs.Terms.{Text, Statement, For, Branches}
use Rattle.forec_tree.specs.Pauses.{certain, certain_function, some_certain, branch_certain}
use Rattle.fault_order.specs.Least.{least_from}
use Rattle.forec_tree.proofs.Rows.{of_kind, of_group, of_abort, of_par, of_if, of_for}
use Rattle.forec_tree.specs.Plain.{perhaps_of}
use Rattle.loop_check.specs.Judges.{judge_text}
use Rattle.forec_check.specs.Loops.{loops_in, loops_in_perhaps, loops_in_all, loops_in_branches, loops_faults}
use Rattle.forec_check.proofs.LoopLemmas.{none_here, kind_none, two_loops, last_loop, next_loops, or_next}
use Rattle.loop_check.proofs.Branches.{call_first, group_first}
use Rattle.forec_check.proofs.rules.loops.+loops.Goals as goal
use Rattle.forec_check.proofs.rules.loops.+loops.Goals.{judge_statement-After-judge_optional_statement-second, judge_statement-After-keep_endless, judge_statement-After-keep_endless-turns, judge_statement-After-judge_statements-inside, judge_statements-then-judge_statement, judge_statements-else-judge_statement, judge_branches-in-Call, judge_branches-in-Group, judge_branches-then-one, judge_branches-else-one}

-- the least fault, with those of the loops in a statement
abbrev least_of : Text → Option Fault → Statement → Option Fault
least_of text least s = least_from least (loops_faults text (loops_in s))

pub judge_statement-returns-in-Nothing-clause-least : goal.judge_statement-returns-in-Nothing-clause-least
judge_statement-returns-in-Nothing-clause-least t c = kind_none (judge_text c.args.pauses.now) c.args.least.now c.args.s.now _ c.in-Nothing.is refl

pub judge_statement-returns-in-Declare-clause-least : goal.judge_statement-returns-in-Declare-clause-least
judge_statement-returns-in-Declare-clause-least t c = kind_none (judge_text c.args.pauses.now) c.args.least.now c.args.s.now _ c.in-Declare.is refl

pub judge_statement-returns-in-Assign-clause-least : goal.judge_statement-returns-in-Assign-clause-least
judge_statement-returns-in-Assign-clause-least t c = kind_none (judge_text c.args.pauses.now) c.args.least.now c.args.s.now _ c.in-Assign.is refl

pub judge_statement-returns-in-Call-clause-least : goal.judge_statement-returns-in-Call-clause-least
judge_statement-returns-in-Call-clause-least t c = kind_none (judge_text c.args.pauses.now) c.args.least.now c.args.s.now _ c.in-Call.is refl

pub judge_statement-returns-in-Pause-clause-least : goal.judge_statement-returns-in-Pause-clause-least
judge_statement-returns-in-Pause-clause-least t c = kind_none (judge_text c.args.pauses.now) c.args.least.now c.args.s.now _ c.in-Pause.is refl

pub judge_statement-returns-in-Return-clause-least : goal.judge_statement-returns-in-Return-clause-least
judge_statement-returns-in-Return-clause-least t c = kind_none (judge_text c.args.pauses.now) c.args.least.now c.args.s.now _ c.in-Return.is refl

pub judge_statement-returns-in-Group-clause-certain : goal.judge_statement-returns-in-Group-clause-certain
judge_statement-returns-in-Group-clause-certain t c =
    c.judge_statements.ensures.certain ∙ of_group (certain (judge_text c.args.pauses.now)) c.args.s.now c.in-Group.body c.as_slice.result.now c.in-Group.is c.as_slice.ensures

pub judge_statement-returns-in-Group-clause-least : goal.judge_statement-returns-in-Group-clause-least
judge_statement-returns-in-Group-clause-least t c =
    c.judge_statements.ensures.least ∙ of_group (least_of (judge_text c.args.pauses.now) c.args.least.now) c.args.s.now c.in-Group.body c.as_slice.result.now c.in-Group.is c.as_slice.ensures

pub judge_statement-returns-in-Par-clause-certain : goal.judge_statement-returns-in-Par-clause-certain
judge_statement-returns-in-Par-clause-certain t c =
    c.judge_branches.ensures.certain ∙ of_par (certain (judge_text c.args.pauses.now)) c.args.s.now c.in-Par.branches c.as_slice-in-Par.result.now c.in-Par.is c.as_slice-in-Par.ensures

pub judge_statement-returns-in-Par-clause-least : goal.judge_statement-returns-in-Par-clause-least
judge_statement-returns-in-Par-clause-least t c =
    c.judge_branches.ensures.least ∙ of_par (least_of (judge_text c.args.pauses.now) c.args.least.now) c.args.s.now c.in-Par.branches c.as_slice-in-Par.result.now c.in-Par.is c.as_slice-in-Par.ensures

-- the least fault after an `if`, a `while` and a `for`, whether they pause or not
if_least : (t : ℕ) (c : judge_statement-After-judge_optional_statement-second t) → c.judge_optional_statement-second.new.least ≡ least_of (judge_text c.args.pauses.now) c.args.least.now (plain.statement c.args.s.now)
if_least t c =
    let text = judge_text c.args.pauses.now in
    let F = least_of text c.args.least.now in
    two_loops text c.args.least.now c.judge_statement-first.new.least c.judge_optional_statement-second.new.least (loops_in (plain.statement c.in-If.yes.value)) (loops_in_perhaps (perhaps_of c.in-If.no))
    (c.judge_statement-first.ensures.least ∙ ap (λ (x : Stmt). F (plain.statement x)) c.deref.ensures) c.judge_optional_statement-second.ensures.least
    ∙ of_if F c.args.s.now c.in-If.test c.in-If.yes c.in-If.no c.in-If.is

while_least : (t : ℕ) (c : judge_statement-After-keep_endless t) → c.keep_endless.new.least ≡ least_of (judge_text c.args.pauses.now) c.args.least.now (plain.statement c.args.s.now)
while_least t c =
    let text = judge_text c.args.pauses.now in
    let s = c.args.s.now in
    let F = least_of text c.args.least.now in
    let w = plain.statement_at (While c.in-While.test c.in-While.bound c.in-While.body) s.place in
    let is : plain.statement s ≡ w = sym (of_kind (λ x. x) s (While c.in-While.test c.in-While.bound c.in-While.body) c.in-While.is) in
    two_loops text c.args.least.now c.judge_statement-inside.new.least c.keep_endless.new.least (loops_in (plain.statement c.in-While.body.value)) (w ∷ [])
    (c.judge_statement-inside.ensures.least ∙ ap (λ (x : Stmt). F (plain.statement x)) c.deref-in-While.ensures)
    (last_loop text c.judge_statement-inside.new.least _ c.in-While.bound _ _ (plain.statement s) w (plain.statement c.in-While.body.value) c.keep_endless.ensures.least
    (c.judge_statement-inside.ensures.certain ∙ ap (λ (x : Stmt). certain text (plain.statement x)) c.deref-in-While.ensures) is refl refl)
    ∙ of_kind F s (While c.in-While.test c.in-While.bound c.in-While.body) c.in-While.is

for_least : (t : ℕ) (c : judge_statement-After-keep_endless-turns t) → c.keep_endless-turns.new.least ≡ least_of (judge_text c.args.pauses.now) c.args.least.now (plain.statement c.args.s.now)
for_least t c =
    let text = judge_text c.args.pauses.now in
    let s = c.args.s.now in
    let F = least_of text c.args.least.now in
    let first = loops_in_perhaps (perhaps_of c.in-For.start) in
    let step = loops_in_perhaps (perhaps_of c.in-For.step) in
    let inside = loops_in (plain.statement c.in-For.body.value) in
    let w = For s.place (perhaps_of c.in-For.start) (plain.optional_term c.in-For.test) (perhaps_of c.in-For.step) c.in-For.bound (plain.statement c.in-For.body.value) in
    let is : plain.statement s ≡ w = sym (of_for (λ x. x) s c.in-For.start c.in-For.step c.in-For.test c.in-For.bound c.in-For.body c.in-For.is) in
    let k0 = c.args.least.now in
    let k1 = c.judge_optional_statement.new.least in
    let k2 = c.judge_optional_statement-in-For.new.least in
    let k3 = c.judge_statement-inside-in-For.new.least in
    let body = c.judge_statement-inside-in-For.ensures.least ∙ ap (λ (x : Stmt). least_from k2 (loops_faults text (loops_in (plain.statement x)))) c.deref-in-For.ensures in
    let e = c.keep_endless-turns.new.least in
    let last = last_loop text k3 e c.in-For.bound _ _ (plain.statement s) w (plain.statement c.in-For.body.value) c.keep_endless-turns.ensures.least
    (c.judge_statement-inside-in-For.ensures.certain ∙ ap (λ (x : Stmt). certain text (plain.statement x)) c.deref-in-For.ensures) is refl refl in
    two_loops text k0 k1 e first (step ++ (inside ++ w ∷ [])) c.judge_optional_statement.ensures.least
    (two_loops text k1 k2 e step (inside ++ w ∷ []) c.judge_optional_statement-in-For.ensures.least (two_loops text k2 k3 e inside (w ∷ []) body last))
    ∙ of_for F s c.in-For.start c.in-For.step c.in-For.test c.in-For.bound c.in-For.body c.in-For.is

pub judge_statement-returns-then-first-clause-least : goal.judge_statement-returns-then-first-clause-least
judge_statement-returns-then-first-clause-least t c = if_least t (goal.at.judge_statement-returns-then-first-clause-least t c).After-judge_optional_statement-second

pub judge_statement-returns-else-first-clause-least : goal.judge_statement-returns-else-first-clause-least
judge_statement-returns-else-first-clause-least t c = if_least t (goal.at.judge_statement-returns-else-first-clause-least t c).After-judge_optional_statement-second

pub judge_statement-returns-then-is_nonzero-clause-least : goal.judge_statement-returns-then-is_nonzero-clause-least
judge_statement-returns-then-is_nonzero-clause-least t c = while_least t (goal.at.judge_statement-returns-then-is_nonzero-clause-least t c).After-keep_endless

pub judge_statement-returns-else-is_nonzero-clause-least : goal.judge_statement-returns-else-is_nonzero-clause-least
judge_statement-returns-else-is_nonzero-clause-least t c = while_least t (goal.at.judge_statement-returns-else-is_nonzero-clause-least t c).After-keep_endless

pub judge_statement-returns-then-runs-clause-least : goal.judge_statement-returns-then-runs-clause-least
judge_statement-returns-then-runs-clause-least t c = for_least t (goal.at.judge_statement-returns-then-runs-clause-least t c).After-keep_endless-turns

pub judge_statement-returns-else-runs-clause-least : goal.judge_statement-returns-else-runs-clause-least
judge_statement-returns-else-runs-clause-least t c = for_least t (goal.at.judge_statement-returns-else-runs-clause-least t c).After-keep_endless-turns

gate : (b x : Bool) → b ≡ false → x ≡ (not b && x)
gate b x h = rw h refl

pub judge_statement-returns-then-not-immediate-clause-certain : goal.judge_statement-returns-then-not-immediate-clause-certain
judge_statement-returns-then-not-immediate-clause-certain t c =
    c.judge_statements-inside.ensures.certain
    ∙ gate c.in-Abort.immediate _ c.if-not-immediate.true
    ∙ of_abort (certain (judge_text c.args.pauses.now)) c.args.s.now c.in-Abort.weak c.in-Abort.immediate c.in-Abort.test c.in-Abort.body c.as_slice-in-Abort.result.now c.in-Abort.is c.as_slice-in-Abort.ensures

abort_least : (t : ℕ) (c : judge_statement-After-judge_statements-inside t) → c.judge_statements-inside.new.least ≡ least_of (judge_text c.args.pauses.now) c.args.least.now (plain.statement c.args.s.now)
abort_least t c =
    c.judge_statements-inside.ensures.least
    ∙ of_abort (least_of (judge_text c.args.pauses.now) c.args.least.now) c.args.s.now c.in-Abort.weak c.in-Abort.immediate c.in-Abort.test c.in-Abort.body c.as_slice-in-Abort.result.now c.in-Abort.is c.as_slice-in-Abort.ensures

pub judge_statement-returns-then-not-immediate-clause-least : goal.judge_statement-returns-then-not-immediate-clause-least
judge_statement-returns-then-not-immediate-clause-least t c = abort_least t (goal.at.judge_statement-returns-then-not-immediate-clause-least t c).After-judge_statements-inside

pub judge_statement-returns-else-not-immediate-clause-least : goal.judge_statement-returns-else-not-immediate-clause-least
judge_statement-returns-else-not-immediate-clause-least t c = abort_least t (goal.at.judge_statement-returns-else-not-immediate-clause-least t c).After-judge_statements-inside

pub judge_optional_statement-returns-in-None-clause-least : goal.judge_optional_statement-returns-in-None-clause-least
judge_optional_statement-returns-in-None-clause-least t c =
    none_here (judge_text c.args.pauses.now) c.args.least.now ∙ ap (λ o. least_from c.args.least.now (loops_faults (judge_text c.args.pauses.now) (loops_in_perhaps (perhaps_of o)))) (sym c.in-None.is)

pub judge_statements-returns-clause-least : goal.judge_statements-returns-clause-least
judge_statements-returns-clause-least t c =
    let text = judge_text c.args.pauses.now in
    none_here text c.loop-s.least ∙ sym (ap (λ l. least_from c.loop-s.least (loops_faults text (loops_in_all (plain.statements l)))) (drop_all c.loop-s.s-index c.args.list.now c.loop-s-test.false)) ∙ c.loop-s.invariant.least

pub judge_branches-returns-clause-least : goal.judge_branches-returns-clause-least
judge_branches-returns-clause-least t c =
    let text = judge_text c.args.pauses.now in
    none_here text c.loop-branch.least
    ∙ sym (ap (λ l. least_from c.loop-branch.least (loops_faults text (loops_in_branches (plain.branches l)))) (drop_all c.loop-branch.branch-index c.args.list.now c.loop-branch-test.false)) ∙ c.loop-branch.invariant.least

-- whether one of a list was found
on_true : (found next one : Bool) → one ≡ true → next ≡ true → next ≡ (found || one)
on_true true next one a b = b
on_true false next one a b = b ∙ sym a

on_false : (found next one : Bool) → one ≡ false → next ≡ found → next ≡ (found || one)
on_false true next one a b = b
on_false false next one a b = b ∙ sym a

pub judge_statements-loop-s-preserved : goal.judge_statements-loop-s-preserved
judge_statements-loop-s-preserved t c =
    let text = judge_text c.args.pauses.now in
    let list = c.args.list.now in
    let i = c.loop-s.s-index in
    let x = c.s-item.result in
    let d : drop i list ≡ x ∷ drop (i + 1) list = drop-cons list i x c.loop-s-test.true ∙ rw (sym c.s-item.is, add-one) refl in
    record {
      certain = or_next c.loop-s.found c.if-judge_statement.found c.judge_statement.result _ _ _
          (elim c.if-judge_statement.branch [
            | judge_statements-then-judge_statement w ↦ on_true c.loop-s.found c.if-judge_statement.found c.judge_statement.result w.if-judge_statement.true w.found-is
            | judge_statements-else-judge_statement w ↦ on_false c.loop-s.found c.if-judge_statement.found c.judge_statement.result w.if-judge_statement.false w.found-is
          ])
          (ap (λ l. some_certain text (certain_function text) (plain.statements l)) d ∙ ap (λ b. b || some_certain text (certain_function text) (plain.statements (drop (i + 1) list))) (sym c.judge_statement.ensures.certain))
          c.loop-s.invariant.certain;
      least = next_loops text c.loop-s.least c.judge_statement.new.least _ (loops_in (plain.statement x)) (loops_in_all (plain.statements (drop (i + 1) list))) (loops_in_all (plain.statements (drop i list)))
          c.judge_statement.ensures.least (ap (λ l. loops_in_all (plain.statements l)) d) c.loop-s.invariant.least;
    }

pub judge_branches-loop-branch-preserved : goal.judge_branches-loop-branch-preserved
judge_branches-loop-branch-preserved t c =
    let text = judge_text c.args.pauses.now in
    let F = branch_certain text (certain_function text) in
    let list = c.args.list.now in
    let i = c.loop-branch.branch-index in
    let rest = plain.branches (drop (i + 1) list) in
    let found : c.if-one.found ≡ (c.loop-branch.found || c.match-branch.one) =
    elim c.if-one.branch [
      | judge_branches-then-one w ↦ on_true c.loop-branch.found c.if-one.found c.match-branch.one w.if-one.true w.found-is
      | judge_branches-else-one w ↦ on_false c.loop-branch.found c.if-one.found c.match-branch.one w.if-one.false w.found-is
    ] in
    elim c.match-branch.branch [
      | judge_branches-in-Call w ↦
          let G = λ (b : Branches). loops_in_branches b in
          let call = call_first F list i c.branch-item.result w.in-Call.name w.in-Call.args c.loop-branch-test.true (sym c.branch-item.is) w.in-Call.is in
          let loops = call_first G list i c.branch-item.result w.in-Call.name w.in-Call.args c.loop-branch-test.true (sym c.branch-item.is) w.in-Call.is in
          record {
            certain = or_next c.loop-branch.found c.if-one.found c.match-branch.one _ _ _ found (call ∙ ap (λ b. b || F rest) (sym (w.one-is ∙ w.function-one.ensures))) c.loop-branch.invariant.certain;
            least = next_loops text c.loop-branch.least c.match-branch.least _ [] (G rest) (G (plain.branches (drop i list))) (w.least-is ∙ none_here text c.loop-branch.least) loops c.loop-branch.invariant.least;
          }
      | judge_branches-in-Group w ↦
          let G = λ (b : Branches). loops_in_branches b in
          let block = group_first F list i c.branch-item.result w.in-Group.place w.in-Group.body w.as_slice.result.now c.loop-branch-test.true (sym c.branch-item.is) w.in-Group.is w.as_slice.ensures in
          let loops = group_first G list i c.branch-item.result w.in-Group.place w.in-Group.body w.as_slice.result.now c.loop-branch-test.true (sym c.branch-item.is) w.in-Group.is w.as_slice.ensures in
          record {
            certain = or_next c.loop-branch.found c.if-one.found c.match-branch.one _ _ _ found (block ∙ ap (λ b. b || F rest) (sym (w.one-is ∙ w.judge_statements-one.ensures.certain))) c.loop-branch.invariant.certain;
            least = next_loops text c.loop-branch.least c.match-branch.least _ (loops_in_all (plain.statements w.as_slice.result.now)) (G rest) (G (plain.branches (drop i list)))
                (w.least-is ∙ w.judge_statements-one.ensures.least) loops c.loop-branch.invariant.least;
          }
    ]

-- ---- statements that are certain to pause, by their kind

pub judge_statement-returns-in-Nothing-clause-certain : goal.judge_statement-returns-in-Nothing-clause-certain
judge_statement-returns-in-Nothing-clause-certain t c = of_kind (certain (judge_text c.args.pauses.now)) c.args.s.now _ c.in-Nothing.is

pub judge_statement-returns-in-Declare-clause-certain : goal.judge_statement-returns-in-Declare-clause-certain
judge_statement-returns-in-Declare-clause-certain t c = of_kind (certain (judge_text c.args.pauses.now)) c.args.s.now _ c.in-Declare.is

pub judge_statement-returns-in-Assign-clause-certain : goal.judge_statement-returns-in-Assign-clause-certain
judge_statement-returns-in-Assign-clause-certain t c = of_kind (certain (judge_text c.args.pauses.now)) c.args.s.now _ c.in-Assign.is

pub judge_statement-returns-in-Pause-clause-certain : goal.judge_statement-returns-in-Pause-clause-certain
judge_statement-returns-in-Pause-clause-certain t c = of_kind (certain (judge_text c.args.pauses.now)) c.args.s.now _ c.in-Pause.is

pub judge_statement-returns-in-Return-clause-certain : goal.judge_statement-returns-in-Return-clause-certain
judge_statement-returns-in-Return-clause-certain t c = of_kind (certain (judge_text c.args.pauses.now)) c.args.s.now _ c.in-Return.is

pub judge_statement-returns-in-Call-clause-certain : goal.judge_statement-returns-in-Call-clause-certain
judge_statement-returns-in-Call-clause-certain t c = c.function.ensures ∙ of_kind (certain (judge_text c.args.pauses.now)) c.args.s.now _ c.in-Call.is
