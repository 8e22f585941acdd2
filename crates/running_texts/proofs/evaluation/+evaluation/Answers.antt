use Rattle.std.proofs.Common.{◌≡◌, ◌<◌, ◌∙◌, length, get_or, map, [], ◌∷◌, ◌++◌, true, not, is_ok, rules, SFits, w32, arith, refl, ap, sym, subst}
use Rattle.std.proofs.lemmas.Int.{to_z-of_z}
use Rattle.forec_kernel.specs.Shapes.{plain_kernel}
use Rattle.running_texts.proofs.Words.{called, body_of_call}
use Rattle.forec_kernel.specs.Plain.{expr, stmt}
use Rattle.forec_kernel.specs.Terms as plain
use Rattle.forec_kernel.proofs.VecTerms.{expr-call, stmt-sequence}
use Rattle.forec_kernel.specs.Values.{value_then, more_units, function_words, fresh_words, val, vals, flow, words_alone, flow_with, more_flow}
use Rattle.running_texts.specs.Metered.{IsMetered, value_kind, flowing, setting_within, sight_of}
use Rattle.running_texts.proofs.Falls.{expression_within, statement_within, call_falls, call_depth, sequence_depth}
use Rattle.running_texts.proofs.Tests.{zero_of, nonzero_of, and_zero, and_some, and_err, or_some, or_zero, or_err, choose_no, choose_yes, choose_err, call_ok, call_over, call_err, if_no, if_yes, if_err}
use Rattle.running_texts.proofs.MeteredLemmas.{then_ok, then_err, binds_value, adds_number, binds_flow, adds_flow}
use Rattle.running_texts.proofs.Onward.{exprs_next, numbers_same, numbers_stop, numbers_more, flow_same, flows_next, flow_returns, flow_stops, flow_goes, turns_end, turns_trap, turns_err, turns_turn}
use Rattle.running_texts.proofs.evaluation.+evaluation.Goals as goal

pub call_function-run-part-requires : goal.call_function-run-part-requires
call_function-run-part-requires t c =
    let h = call_falls c.args.kernel.now c.args.deep c.args.function c.index.result.now (omega arith) (omega arith) c.index.ensures in
    let d = c.decreases in
    (omega arith, tt)

pub call_function-returns-in-Ok : goal.call_function-returns-in-Ok
call_function-returns-in-Ok t c =
    let some : 0 < c.args.deep = omega arith in
    let inside : c.args.function < length c.args.kernel.now.functions.items = omega arith in
    let shapes : c.deref.result.now ≡ c.args.kernel.now.shape.functions.items = c.deref.ensures.value in
    let count = c.function_word_count-count.ensures ∙ ap (λ fs. function_words fs c.args.function) shapes in
    let words = c.in-Ok.ensures ∙ ap (fresh_words c.args.args.now) count in
    called (plain_kernel c.args.kernel.now) c.args.deep c.args.function c.args.args.now _ _ _ _ _ some
    (body_of_call c.args.kernel.now c.args.function c.index.result.now inside c.index.ensures) words (c.as_value.ensures _ _ _ c.run-part.ensures)

pub evaluate-returns-in-LocalAt : goal.evaluate-returns-in-LocalAt
evaluate-returns-in-LocalAt t c =
    rw (c.in-LocalAt.is, ← c.deref.ensures) (c.after_word_index.ensures _ _ c.evaluate-part.ensures)

pub evaluate-returns-in-SharedAt : goal.evaluate-returns-in-SharedAt
evaluate-returns-in-SharedAt t c =
    rw (c.in-SharedAt.is, ← c.deref-in-SharedAt.ensures) (c.after_shared_index.ensures _ _ c.evaluate-part-in-SharedAt.ensures)

pub evaluate-returns-in-TableAt : goal.evaluate-returns-in-TableAt
evaluate-returns-in-TableAt t c =
    let tables : c.deref-in-TableAt-2.result.now ≡ c.args.kernel.now.shape.tables.items = c.deref-in-TableAt-2.ensures.value in
    let table = c.table_at.ensures ∙ ap (λ ts. get_or (map (λ v. v.items) ts) c.in-TableAt.table []) tables in
    rw (c.in-TableAt.is, ← c.deref-in-TableAt.ensures, ← table) (c.after_table_index.ensures _ _ c.evaluate-part-in-TableAt.ensures)

pub evaluate-returns-in-Unary : goal.evaluate-returns-in-Unary
evaluate-returns-in-Unary t c =
    rw (c.in-Unary.is, ← c.deref-in-Unary.ensures) (c.after_unary.ensures _ _ c.evaluate-part-in-Unary.ensures)

pub evaluate-returns-in-Ok : goal.evaluate-returns-in-Ok
evaluate-returns-in-Ok t c =
    let fits : SFits w32 c.in-Ok.a = search rules in
    let rest = simp to_z-of_z at (c.after_binary.ensures _ _ c.evaluate-part-in-Ok.ensures) in
    rw (c.in-Binary.is, ← c.deref-in-Binary.ensures, ← c.deref-in-Ok.ensures)
    (then_ok value_kind value_kind (λ x. x) value_then more_units binds_value adds_number _ _ _ _ _ _ _ c.in-Ok.ensures rest)

pub evaluate-returns-in-Binary : goal.evaluate-returns-in-Binary
evaluate-returns-in-Binary t c =
    rw (c.in-Binary.is, ← c.deref-in-Binary.ensures)
    (then_err value_kind value_kind (λ x. x) value_then more_units binds_value _ _ _ _ _ c.in-Err.ensures)

pub evaluate-returns-in-And : goal.evaluate-returns-in-And
evaluate-returns-in-And t c =
    let value = val (setting_within (plain_kernel c.args.kernel.now) c.args.deep) (sight_of c.args.values.now) in
    let same =
    ap (λ x. value (plain.And (expr x) (expr c.deref-in-And-2.result.now))) c.deref-in-And.ensures
    ∙ ap (λ x. value (plain.And (expr c.in-And.first.value) (expr x))) c.deref-in-And-2.ensures
    ∙ ap (λ x. value (expr x)) (sym c.in-And.is)
    in
    subst (λ v. IsMetered value_kind c.args.left.now c.evaluate_and.new.left c.evaluate_and.result v) same c.evaluate_and.ensures

pub evaluate-returns-in-Or : goal.evaluate-returns-in-Or
evaluate-returns-in-Or t c =
    let value = val (setting_within (plain_kernel c.args.kernel.now) c.args.deep) (sight_of c.args.values.now) in
    let same =
    ap (λ x. value (plain.Or (expr x) (expr c.deref-in-Or-2.result.now))) c.deref-in-Or.ensures
    ∙ ap (λ x. value (plain.Or (expr c.in-Or.first.value) (expr x))) c.deref-in-Or-2.ensures
    ∙ ap (λ x. value (expr x)) (sym c.in-Or.is)
    in
    subst (λ v. IsMetered value_kind c.args.left.now c.evaluate_or.new.left c.evaluate_or.result v) same c.evaluate_or.ensures

pub evaluate_and-returns-then-n-eq0 : goal.evaluate_and-returns-then-n-eq0
evaluate_and-returns-then-n-eq0 t c =
    let fits : SFits w32 c.in-Ok.n = search rules in
    and_zero _ _ _ _ _ (c.in-Ok.ensures _ _ c.evaluate-test.ensures) (zero_of _ fits c.if-n-eq0.true)

pub evaluate_and-returns-else-n-eq0 : goal.evaluate_and-returns-else-n-eq0
evaluate_and-returns-else-n-eq0 t c =
    and_some _ _ _ _ _ _ _ _ refl (c.in-Ok.ensures _ _ c.evaluate-test.ensures) (nonzero_of _ c.if-n-eq0.false) (c.as_truth.ensures _ _ _ c.evaluate-part.ensures)

pub evaluate_and-returns-in-Err : goal.evaluate_and-returns-in-Err
evaluate_and-returns-in-Err t c = and_err _ _ _ _ _ (c.in-Err.ensures _ _ c.evaluate-test.ensures)

pub evaluate_or-returns-then-n-ne0 : goal.evaluate_or-returns-then-n-ne0
evaluate_or-returns-then-n-ne0 t c =
    or_some _ _ _ _ _ (c.in-Ok.ensures _ _ c.evaluate-test.ensures) (nonzero_of _ c.if-n-ne0.true)

pub evaluate_or-returns-else-n-ne0 : goal.evaluate_or-returns-else-n-ne0
evaluate_or-returns-else-n-ne0 t c =
    let fits : SFits w32 c.in-Ok.n = search rules in
    or_zero _ _ _ _ _ _ _ _ refl (c.in-Ok.ensures _ _ c.evaluate-test.ensures) (zero_of _ fits c.if-n-ne0.false) (c.as_truth.ensures _ _ _ c.evaluate-part.ensures)

pub evaluate_or-returns-in-Err : goal.evaluate_or-returns-in-Err
evaluate_or-returns-in-Err t c = or_err _ _ _ _ _ (c.in-Err.ensures _ _ c.evaluate-test.ensures)

pub evaluate-returns-then-n-eq0 : goal.evaluate-returns-then-n-eq0
evaluate-returns-then-n-eq0 t c =
    let fits : SFits w32 c.in-Ok-tested.n = search rules in
    let side : c.deref-then-n-eq0.result.now ≡ c.in-Choose.no.value = c.deref-then-n-eq0.ensures in
    rw (c.in-Choose.is, ← c.deref-in-Choose.ensures)
    (choose_no _ _ _ _ _ _ _ _ _ (ap (λ x. val (setting_within (plain_kernel c.args.kernel.now) c.args.deep) (sight_of c.args.values.now) (expr x)) side)
    (c.in-Ok-tested.ensures _ _ c.evaluate-test.ensures) (zero_of _ fits c.if-n-eq0.true) c.evaluate-then-n-eq0.ensures)

pub evaluate-returns-in-Ok-tested : goal.evaluate-returns-in-Ok-tested
evaluate-returns-in-Ok-tested t c =
    let side : c.deref-in-Ok-tested.result.now ≡ c.in-Choose.yes.value = c.deref-in-Ok-tested.ensures in
    rw (c.in-Choose.is, ← c.deref-in-Choose.ensures)
    (choose_yes _ _ _ _ _ _ _ _ _ (ap (λ x. val (setting_within (plain_kernel c.args.kernel.now) c.args.deep) (sight_of c.args.values.now) (expr x)) side)
    (c.in-Ok-tested.ensures _ _ c.evaluate-test.ensures) (nonzero_of _ c.if-n-eq0.false) c.evaluate-in-Ok-tested.ensures)

pub evaluate-returns-in-Choose : goal.evaluate-returns-in-Choose
evaluate-returns-in-Choose t c = rw (c.in-Choose.is, ← c.deref-in-Choose.ensures) (choose_err _ _ _ _ _ _ (c.in-Err-tested.ensures _ _ c.evaluate-test.ensures))

pub evaluate-evaluate_all-requires : goal.evaluate-evaluate_all-requires
evaluate-evaluate_all-requires t c =
    let h = call_depth c.in-Call.function c.in-Call.args c.args.e.now c.deref-in-Call.result.now c.in-Call.is c.deref-in-Call.ensures.value in
    let d = c.decreases in
    (omega arith, tt)

pub evaluate-returns-in-Ok-pay : goal.evaluate-returns-in-Ok-pay
evaluate-returns-in-Ok-pay t c = rw (ap expr c.in-Call.is ∙ expr-call c.in-Call.function c.in-Call.args, ← c.deref-in-Call.ensures.value) (call_ok _ _ _ _ _ _ _ _ _ c.in-Ok-evaluate_all.ensures c.in-Ok-pay.ensures.ok c.deref-in-Ok-pay.ensures.value c.call_function.ensures)

pub evaluate-returns-in-Ok-evaluate_all : goal.evaluate-returns-in-Ok-evaluate_all
evaluate-returns-in-Ok-evaluate_all t c = rw (ap expr c.in-Call.is ∙ expr-call c.in-Call.function c.in-Call.args, ← c.deref-in-Call.ensures.value) (call_over _ _ _ _ _ _ _ c.in-Ok-evaluate_all.ensures c.in-Err-pay.ensures.over)

pub evaluate-returns : goal.evaluate-returns
evaluate-returns t c = rw (ap expr c.in-Call.is ∙ expr-call c.in-Call.function c.in-Call.args, ← c.deref-in-Call.ensures.value) (call_err _ _ _ _ _ c.in-Err-evaluate_all.ensures)

pub evaluate_all-evaluate-requires : goal.evaluate_all-evaluate-requires
evaluate_all-evaluate-requires t c =
    let h = expression_within c.args.list.now c.loop-e.e-index c.e-item.result c.loop-e-test.true c.e-item.is in
    let d = c.decreases in
    (omega arith, tt)

pub evaluate_all-returns-in-Err : goal.evaluate_all-returns-in-Err
evaluate_all-returns-in-Err t c =
    numbers_stop _ _ _ _ _ _ _ _
    (numbers_same _ _ _ _ _ _ c.loop-e.invariant
    (ap (vals (setting_within (plain_kernel c.args.kernel.now) c.args.deep) (sight_of c.args.values.now)) (exprs_next c.args.list.now c.loop-e.e-index c.e-item.result c.loop-e-test.true c.e-item.is)))
    c.in-Err.ensures

pub evaluate_all-loop-e-preserved : goal.evaluate_all-loop-e-preserved
evaluate_all-loop-e-preserved t c =
    let fits : SFits w32 c.in-Ok.n = search rules in
    let pushed : c.push.new.self.items ≡ c.loop-e.numbers.items ++ c.in-Ok.n ∷ [] =
    let ok : is_ok c.push.result ≡ true = c.is_err.ensures.negation ∙ ap not c.if-is_err.false in simp to_z-of_z at (rw ok at c.push.ensures.items) in
    numbers_more _ _ _ _ _ _ _ _ _
    (numbers_same _ _ _ _ _ _ c.loop-e.invariant
    (ap (vals (setting_within (plain_kernel c.args.kernel.now) c.args.deep) (sight_of c.args.values.now)) (exprs_next c.args.list.now c.loop-e.e-index c.e-item.result c.loop-e-test.true c.e-item.is)))
    c.in-Ok.ensures pushed

pub run-run_all-requires : goal.run-run_all-requires
run-run_all-requires t c =
    let h = sequence_depth c.in-Sequence.list c.args.s.now c.deref-in-Sequence.result.now c.in-Sequence.is c.deref-in-Sequence.ensures.value in
    let d = c.decreases in
    (omega arith, tt)

pub run-returns-then-n-eq0 : goal.run-returns-then-n-eq0
run-returns-then-n-eq0 t c =
    let fits : SFits w32 c.in-Ok-tested.n = search rules in
    let side : c.deref-then-n-eq0.result.now ≡ c.in-If.no.value = c.deref-then-n-eq0.ensures in
    rw c.in-If.is
    (if_no _ _ _ _ _ _ _ _ _ (ap (λ x. flow (setting_within (plain_kernel c.args.kernel.now) c.args.deep) (stmt x) c.args.words.items) side)
    (c.in-Ok-tested.ensures _ _ (rw (c.only_words-in-If.ensures, c.deref-in-If.ensures.value) at c.evaluate-test.ensures)) (zero_of _ fits c.if-n-eq0.true) c.run.ensures)

pub run-returns-in-Set : goal.run-returns-in-Set
run-returns-in-Set t c =
    rw c.in-Set.is (c.after_set.ensures _ _ (rw (c.only_words.ensures, c.deref.ensures.value) at c.evaluate-part.ensures))

pub run-returns-in-Ok : goal.run-returns-in-Ok
run-returns-in-Ok t c =
    let fits : SFits w32 c.in-Ok.at = search rules in
    let part = rw (c.only_words-in-Ok.ensures, c.deref-in-Ok.ensures.value) at c.evaluate-part-in-Ok.ensures in
    let rest = simp to_z-of_z at (c.after_set_at.ensures _ _ part) in
    rw c.in-SetAt.is
    (then_ok value_kind flowing (λ x. x) flow_with more_flow binds_flow adds_flow _ _ _ _ _ _ _ (rw (c.only_words-in-SetAt.ensures, c.deref-in-SetAt.ensures.value) at c.in-Ok.ensures) rest)

pub run-returns-in-Err : goal.run-returns-in-Err
run-returns-in-Err t c =
    rw c.in-SetAt.is
    (then_err value_kind flowing (λ x. x) flow_with more_flow binds_flow _ _ _ _ _ (rw (c.only_words-in-SetAt.ensures, c.deref-in-SetAt.ensures.value) at c.in-Err.ensures))

pub run-returns-in-Sequence : goal.run-returns-in-Sequence
run-returns-in-Sequence t c =
    rw (ap stmt c.in-Sequence.is ∙ stmt-sequence c.in-Sequence.list, ← c.deref-in-Sequence.ensures.value) c.run_all.ensures

pub run-returns-else-n-eq0 : goal.run-returns-else-n-eq0
run-returns-else-n-eq0 t c =
    let side : c.deref-in-Ok-tested.result.now ≡ c.in-If.yes.value = c.deref-in-Ok-tested.ensures in
    rw c.in-If.is
    (if_yes _ _ _ _ _ _ _ _ _ (ap (λ x. flow (setting_within (plain_kernel c.args.kernel.now) c.args.deep) (stmt x) c.args.words.items) side)
    (c.in-Ok-tested.ensures _ _ (rw (c.only_words-in-If.ensures, c.deref-in-If.ensures.value) at c.evaluate-test.ensures)) (nonzero_of _ c.if-n-eq0.false) c.run-in-Ok-tested.ensures)

pub run-returns-in-Err-tested : goal.run-returns-in-Err-tested
run-returns-in-Err-tested t c =
    rw c.in-If.is (if_err _ _ _ _ _ _ (c.in-Err-tested.ensures _ _ (rw (c.only_words-in-If.ensures, c.deref-in-If.ensures.value) at c.evaluate-test.ensures)))

pub run-returns-in-Some : goal.run-returns-in-Some
run-returns-in-Some t c =
    let body : c.deref-in-Some.result.now ≡ c.in-While.body.value = c.deref-in-Some.ensures in
    rw (c.in-While.is, c.in-Some.is, ← body) c.run_turns.ensures

pub run-returns-in-Return : goal.run-returns-in-Return
run-returns-in-Return t c =
    rw c.in-Return.is (c.as_return.ensures _ _ _ (rw (c.only_words-in-Return.ensures, c.deref-in-Return.ensures.value) at c.evaluate-part-in-Return.ensures))

pub run_all-run-requires : goal.run_all-run-requires
run_all-run-requires t c =
    let h = statement_within c.args.list.now c.loop-s.s-index c.s-item.result c.loop-s-test.true c.s-item.is in
    let d = c.decreases in
    (omega arith, tt)

pub run_all-returns-in-Ok-Returns : goal.run_all-returns-in-Ok-Returns
run_all-returns-in-Ok-Returns t c =
    let fits : SFits w32 c.in-Ok-Returns.n = search rules in
    simp to_z-of_z (flow_returns _ _ _ _ _ _ _
    (flow_same _ _ _ _ _ c.loop-s.invariant (flows_next (setting_within (plain_kernel c.args.kernel.now) c.args.deep) c.args.list.now c.loop-s.s-index c.s-item.result c.loop-s.words.items c.loop-s-test.true c.s-item.is))
    (rw c.in-Ok-Returns.field-0-is at c.in-Ok-Returns.ensures))

pub run_all-returns-in-Err : goal.run_all-returns-in-Err
run_all-returns-in-Err t c =
    flow_stops _ _ _ _ _ _ _
    (flow_same _ _ _ _ _ c.loop-s.invariant (flows_next (setting_within (plain_kernel c.args.kernel.now) c.args.deep) c.args.list.now c.loop-s.s-index c.s-item.result c.loop-s.words.items c.loop-s-test.true c.s-item.is))
    c.in-Err.ensures

pub run_all-loop-s-preserved : goal.run_all-loop-s-preserved
run_all-loop-s-preserved t c =
    flow_goes _ _ _ _ _ _ _
    (flow_same _ _ _ _ _ c.loop-s.invariant (flows_next (setting_within (plain_kernel c.args.kernel.now) c.args.deep) c.args.list.now c.loop-s.s-index c.s-item.result c.loop-s.words.items c.loop-s-test.true c.s-item.is))
    (rw c.in-Ok-Continues.field-0-is at c.in-Ok-Continues.ensures)

pub run_turns-returns-then-n-eq0 : goal.run_turns-returns-then-n-eq0
run_turns-returns-then-n-eq0 t c =
    let fits : SFits w32 c.in-Ok.n = search rules in
    turns_end (λ w. val (setting_within (plain_kernel c.args.kernel.now) c.args.deep) (words_alone w) (expr c.args.bounded.now.test.now)) (flow (setting_within (plain_kernel c.args.kernel.now) c.args.deep) (stmt c.args.bounded.now.body.now)) c.args.bounded.now.place _ _ _ _ _ _ _ c.turns.invariant (c.in-Ok.ensures _ _ (rw (c.only_words.ensures, c.deref.ensures.value) at c.evaluate-part.ensures)) (zero_of _ fits c.if-n-eq0.true)

pub run_turns-returns-then-turns_left-eq0 : goal.run_turns-returns-then-turns_left-eq0
run_turns-returns-then-turns_left-eq0 t c =
    turns_trap (λ w. val (setting_within (plain_kernel c.args.kernel.now) c.args.deep) (words_alone w) (expr c.args.bounded.now.test.now)) (flow (setting_within (plain_kernel c.args.kernel.now) c.args.deep) (stmt c.args.bounded.now.body.now)) c.args.bounded.now.place _ _ _ _ _ _ _ c.turns.invariant (c.in-Ok.ensures _ _ (rw (c.only_words.ensures, c.deref.ensures.value) at c.evaluate-part.ensures)) (nonzero_of _ c.if-n-eq0.false) c.if-turns_left-eq0.true

pub run_turns-turns-preserved : goal.run_turns-turns-preserved
run_turns-turns-preserved t c =
    flow_goes _ _ _ _ _ _ _
    (turns_turn (λ w. val (setting_within (plain_kernel c.args.kernel.now) c.args.deep) (words_alone w) (expr c.args.bounded.now.test.now)) (flow (setting_within (plain_kernel c.args.kernel.now) c.args.deep) (stmt c.args.bounded.now.body.now)) c.args.bounded.now.place _ _ _ _ _ _ _ c.turns.invariant (c.in-Ok.ensures _ _ (rw (c.only_words.ensures, c.deref.ensures.value) at c.evaluate-part.ensures)) (nonzero_of _ c.if-n-eq0.false) (omega arith))
    (rw c.in-Ok-Continues.field-0-is at c.in-Ok-Continues.ensures)

pub run_turns-returns-in-Ok-Returns : goal.run_turns-returns-in-Ok-Returns
run_turns-returns-in-Ok-Returns t c =
    let fits : SFits w32 c.in-Ok-Returns.n = search rules in
    simp to_z-of_z (flow_returns _ _ _ _ _ _ _
    (turns_turn (λ w. val (setting_within (plain_kernel c.args.kernel.now) c.args.deep) (words_alone w) (expr c.args.bounded.now.test.now)) (flow (setting_within (plain_kernel c.args.kernel.now) c.args.deep) (stmt c.args.bounded.now.body.now)) c.args.bounded.now.place _ _ _ _ _ _ _ c.turns.invariant (c.in-Ok.ensures _ _ (rw (c.only_words.ensures, c.deref.ensures.value) at c.evaluate-part.ensures)) (nonzero_of _ c.if-n-eq0.false) (omega arith))
    (rw c.in-Ok-Returns.field-0-is at c.in-Ok-Returns.ensures))

pub run_turns-returns-in-Err-run : goal.run_turns-returns-in-Err-run
run_turns-returns-in-Err-run t c =
    flow_stops _ _ _ _ _ _ _
    (turns_turn (λ w. val (setting_within (plain_kernel c.args.kernel.now) c.args.deep) (words_alone w) (expr c.args.bounded.now.test.now)) (flow (setting_within (plain_kernel c.args.kernel.now) c.args.deep) (stmt c.args.bounded.now.body.now)) c.args.bounded.now.place _ _ _ _ _ _ _ c.turns.invariant (c.in-Ok.ensures _ _ (rw (c.only_words.ensures, c.deref.ensures.value) at c.evaluate-part.ensures)) (nonzero_of _ c.if-n-eq0.false) (omega arith))
    c.in-Err-run.ensures

pub run_turns-returns-in-Err : goal.run_turns-returns-in-Err
run_turns-returns-in-Err t c =
    turns_err (λ w. val (setting_within (plain_kernel c.args.kernel.now) c.args.deep) (words_alone w) (expr c.args.bounded.now.test.now)) (flow (setting_within (plain_kernel c.args.kernel.now) c.args.deep) (stmt c.args.bounded.now.body.now)) c.args.bounded.now.place _ _ _ _ _ _ _ c.turns.invariant (c.in-Err.ensures _ _ (rw (c.only_words.ensures, c.deref.ensures.value) at c.evaluate-part.ensures))
