use Rattle.std.proofs.Common.{◌≤◌, Some, length, sym, ap, ◌∙◌, arith}
use Rattle.trace_rows.proofs.NamePlaces.{place_found, none_more, place_none}
use Rattle.trace_rows.proofs.names.place_of.Goals as goal

pub returns-then-eq : goal.returns-then-eq
returns-then-eq c =
    place_found c.args.texts.now c.args.name.now c.as_bytes.result.now c.loop-i.i (c.get.ensures ∙ ap Some (sym c.as_bytes.ensures.value)) (sym c.eq.ensures ∙ c.if-eq.true) c.loop-i.invariant

pub loop-i-preserved : goal.loop-i-preserved
loop-i-preserved c =
    none_more c.args.texts.now c.args.name.now c.as_bytes.result.now c.loop-i.i (c.get.ensures ∙ ap Some (sym c.as_bytes.ensures.value)) (sym c.eq.ensures ∙ c.if-eq.false) c.loop-i.invariant

pub returns : goal.returns
returns c =
    let past : length c.args.texts.now ≤ c.loop-i.i = omega arith in
    c.len.ensures ∙ place_none c.args.texts.now c.args.name.now c.loop-i.i past c.loop-i.invariant
