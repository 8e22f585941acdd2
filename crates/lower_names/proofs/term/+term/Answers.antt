use Rattle.std.proofs.Common.{sym}
use Rattle.loop_check.specs.Views.{indexed_text}
use Rattle.lower_names.specs.Views.{seen}
use Rattle.lower_names.proofs.Lists.{terms_step, terms_end, call_done}
use Rattle.lower_names.proofs.term.+term.Goals as goal

pub lower_term-returns-in_ok-args-in-Call : goal.lower_term-returns-in_ok-args-in-Call
lower_term-returns-in_ok-args-in-Call t c =
    call_done (indexed_text c.args.globals.now.index) (seen c.args.scope.now) c.function.result c.in_ok-args-in-Call.args c.in-Call.args c.as_slice.result.now c.in-Call.name c.args.e.now
    c.in-Call.is c.as_slice.ensures c.function.ensures c.in_ok-args-in-Call.ensures

pub lower_terms-loop-e-preserved : goal.lower_terms-loop-e-preserved
lower_terms-loop-e-preserved t c =
    terms_step (indexed_text c.args.globals.now.index) (seen c.args.scope.now) c.args.list.now c.loop-e.e-index c.e-item.result c.loop-e.terms.items c.push.new.self.items c.in_ok-lower_term.field-0 _
    c.loop-e-test.true (sym c.e-item.is) c.in_ok-lower_term.ensures c.in_ok-push.ensures.items c.loop-e.invariant

pub lower_terms-returns : goal.lower_terms-returns
lower_terms-returns t c =
    terms_end (indexed_text c.args.globals.now.index) (seen c.args.scope.now) c.args.list.now c.loop-e.e-index c.loop-e.terms.items _ c.loop-e-test.false c.loop-e.invariant
