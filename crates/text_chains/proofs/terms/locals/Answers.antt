use Rattle.std.proofs.Common.{◌≡◌, ◌∙◌, ◌+◌, sym, ap, map, drop}
use Rattle.forec_tree.specs.Plain as plain
use Rattle.text_chains.specs.Tallies as of
use Rattle.text_chains.specs.Tallies.{both_tallies}
use Rattle.text_chains.specs.Views.{value_by}
use Rattle.text_chains.proofs.Sums.{begin_low, begin_told, next_low, locals_low, join_next, drop_item}
use Rattle.text_chains.proofs.terms.locals.Goals as goal

pub loop-l-init : goal.loop-l-init
loop-l-init c =
    let w = c.args.w.now in
    record { small = begin_low c.nothing-total.result c.nothing-total.ensures; told = begin_told c.nothing-total.result _ c.nothing-total.ensures (locals_low w.variable w.array (value_by w) c.args.hidden (map plain.declared c.args.list.now)) }

pub loop-l-preserved : goal.loop-l-preserved
loop-l-preserved c =
    let w = c.args.w.now in
    let so_far = c.loop-l.total in
    let rest = map plain.declared (drop (c.loop-l.l-index + 1) c.args.list.now) in
    let d = drop_item c.args.list.now c.loop-l.l-index c.l-item.result c.loop-l-test.true (sym c.l-item.is) in
    let told = ap (λ l. both_tallies so_far (of.of_locals w.variable w.array (value_by w) c.loop-l.now_hidden (map plain.declared l))) (sym d) ∙ c.loop-l.invariant.told in
    record {
      small = next_low c.joined-total.result so_far c.local.result c.joined-total.ensures;
      told =
          ap (λ h. both_tallies c.joined-total.result (of.of_locals w.variable w.array (value_by w) h rest)) c.hides-now_hidden.ensures
          ∙ join_next so_far _ _ _ c.joined-total.result (c.joined-total.ensures ∙ ap (both_tallies so_far) c.local.ensures) told;
    }
