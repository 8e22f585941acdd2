use Rattle.std.proofs.Common.{sym}
use Rattle.std.proofs.lemmas.Result.{on_ok_weaker}
use Rattle.program_walk.specs.Views.{judging_in, text_in, scope_of}
use Rattle.program_walk.specs.Walk.{notes_of}
use Rattle.program_walk.proofs.WalkLemmas.{walked-none}
use Rattle.program_walk.proofs.Parts.{two, three, then, part, of_kind, call_begins, terms_step, terms_end}
use Rattle.program_walk.proofs.walk.context.Context.+expression.Goals as goal

pub loop-arg-init : goal.loop-arg-init
loop-arg-init t c =
    rw c.in-Call.is
    (call_begins _ _ _ c.args.e.now.place c.in-Call.name c.in-Call.args c.as_slice-arg-items.result.now c.len.result
    _ (notes_of c.use_name-in-Call.new.notes) c.len.ensures c.as_slice-arg-items.ensures c.in_ok-use_name-in-Call.ensures)

pub loop-arg-preserved : goal.loop-arg-preserved
loop-arg-preserved t c =
    terms_step _ _ _ c.as_slice-arg-items.result.now c.loop-arg.arg-index c.arg-item.result
    (notes_of c.loop-arg.notes) (notes_of c.expression-in-loop-arg.new.notes) _ c.loop-arg-test.true (sym c.arg-item.is) c.in_ok-expression-in-Call.ensures c.loop-arg.invariant

pub returns-after-loop-arg : goal.returns-after-loop-arg
returns-after-loop-arg t c =
    terms_end _ _ _ c.as_slice-arg-items.result.now c.loop-arg.arg-index (notes_of c.loop-arg.notes) _ c.loop-arg-test.false c.loop-arg.invariant

pub returns-in-Number : goal.returns-in-Number
returns-in-Number t c =
    of_kind _ _ _ _ _ c.args.e.now _ c.in-Number.is
    (sym (walked-none _ _))

pub returns-in_ok-use_name-in-Element : goal.returns-in_ok-use_name-in-Element
returns-in_ok-use_name-in-Element t c =
    on_ok_weaker c.expression.result
    (λ h.
    of_kind _ _ _ _ _ c.args.e.now _ c.in-Element.is
    (then _ _ _ _ (notes_of c.use_name-in-Element.new.notes) (notes_of c.expression.new.notes) c.in_ok-use_name-in-Element.ensures (part _ _ _ _ _ _ _ c.deref.ensures h)))
    c.expression.ensures

pub returns-in_ok-expression-in-Binary : goal.returns-in_ok-expression-in-Binary
returns-in_ok-expression-in-Binary t c =
    on_ok_weaker c.expression-in-Binary-2.result
    (λ h.
    of_kind _ _ _ _ _ c.args.e.now _ c.in-Binary.is
    (two _ _ _ _ (notes_of c.expression-in-Binary.new.notes) (notes_of c.expression-in-Binary-2.new.notes) (part _ _ _ _ _ _ _ c.deref-in-Binary.ensures c.in_ok-expression-in-Binary.ensures) (part _ _ _ _ _ _ _ c.deref-in-Binary-2.ensures h)))
    c.expression-in-Binary-2.ensures

pub returns-in_ok-expression-in-And : goal.returns-in_ok-expression-in-And
returns-in_ok-expression-in-And t c =
    on_ok_weaker c.expression-in-And-2.result
    (λ h.
    of_kind _ _ _ _ _ c.args.e.now _ c.in-And.is
    (two _ _ _ _ (notes_of c.expression-in-And.new.notes) (notes_of c.expression-in-And-2.new.notes) (part _ _ _ _ _ _ _ c.deref-in-And.ensures c.in_ok-expression-in-And.ensures) (part _ _ _ _ _ _ _ c.deref-in-And-2.ensures h)))
    c.expression-in-And-2.ensures

pub returns-in_ok-expression-in-Or : goal.returns-in_ok-expression-in-Or
returns-in_ok-expression-in-Or t c =
    on_ok_weaker c.expression-in-Or-2.result
    (λ h.
    of_kind _ _ _ _ _ c.args.e.now _ c.in-Or.is
    (two _ _ _ _ (notes_of c.expression-in-Or.new.notes) (notes_of c.expression-in-Or-2.new.notes) (part _ _ _ _ _ _ _ c.deref-in-Or.ensures c.in_ok-expression-in-Or.ensures) (part _ _ _ _ _ _ _ c.deref-in-Or-2.ensures h)))
    c.expression-in-Or-2.ensures

pub returns-in_ok-expression-in-Choose-2 : goal.returns-in_ok-expression-in-Choose-2
returns-in_ok-expression-in-Choose-2 t c =
    on_ok_weaker c.expression-in-Choose-3.result
    (λ h.
    of_kind _ _ _ _ _ c.args.e.now _ c.in-Choose.is
    (three _ _ _ _ _ (notes_of c.expression-in-Choose.new.notes) (notes_of c.expression-in-Choose-2.new.notes) (notes_of c.expression-in-Choose-3.new.notes)
    (part _ _ _ _ _ _ _ c.deref-in-Choose.ensures c.in_ok-expression-in-Choose.ensures) (part _ _ _ _ _ _ _ c.deref-in-Choose-2.ensures c.in_ok-expression-in-Choose-2.ensures) (part _ _ _ _ _ _ _ c.deref-in-Choose-3.ensures h)))
    c.expression-in-Choose-3.ensures

pub returns-in-Read : goal.returns-in-Read
returns-in-Read t c =
    on_ok_weaker c.use_name.result (λ h. of_kind _ _ _ _ _ c.args.e.now _ c.in-Read.is h) c.use_name.ensures

pub returns-in-Unary : goal.returns-in-Unary
returns-in-Unary t c =
    on_ok_weaker c.expression-in-Unary.result (λ h. of_kind _ _ _ _ _ c.args.e.now _ c.in-Unary.is (part _ _ _ _ _ _ _ c.deref-in-Unary.ensures h)) c.expression-in-Unary.ensures
