use Rattle.std.proofs.Common.{◌≡◌, Some, false, take, sym, ap, ◌∙◌, subst}
use Rattle.std.specs.Prelude.{slice_index_or}
use Rattle.std.proofs.lemmas.Option.{slice_get-get_or}
use Rattle.core_seats.specs.Loads.{contains_core}
use Rattle.core_seats.proofs.LoadLemmas.{contains_at, contains_not, take_next}
use Rattle.core_seats.proofs.load.is_among.Goals as goal

pub returns-then-other-core : goal.returns-then-other-core
returns-then-other-core c =
    sym (contains_at c.args.core c.args.cores.now c.loop-other.other-index (slice_get-get_or c.args.cores.now c.loop-other.other-index 0 c.loop-other-test.true ∙ ap Some c.if-other-core.true))

pub loop-other-preserved : goal.loop-other-preserved
loop-other-preserved c =
    let x = slice_index_or c.args.cores.now c.loop-other.other-index 0 in
    subst (λ l. contains_core c.args.core l ≡ false) (take_next c.args.cores.now c.loop-other.other-index x (slice_get-get_or c.args.cores.now c.loop-other.other-index 0 c.loop-other-test.true))
    (contains_not c.args.core (take c.loop-other.other-index c.args.cores.now) x c.loop-other.invariant c.if-other-core.false)
