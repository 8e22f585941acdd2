use Rattle.std.proofs.Common.{◌∙◌, ◌&&◌, ap, not}
use Rattle.forec_tree.specs.Rules.{fault_if, is_none}
use Rattle.fault_order.specs.Least.{least_from}
use Rattle.forec_check.proofs.rules.loops.keep_endless.Goals as goal

pub returns-clause-least : goal.returns-clause-least
returns-clause-least c =
    c.keep_fault.ensures
    ∙ ap (λ b. least_from c.args.least.now (fault_if b c.args.s.now.place 20)) (c.is_endless.ensures ∙ ap (λ o. is_none c.args.bound && (is_none o && not c.args.inside)) c.turns-turns.ensures)
