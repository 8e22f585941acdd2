use Rattle.std.proofs.Common.{◌∙◌}
use Rattle.code_gen.specs.Arounds.{plain_around}
use Rattle.code_gen.proofs.Patch.{patch_fork}
use Rattle.code_gen.proofs.statements.emit_fork.Goals as goal

pub returns : goal.returns
returns c =
    patch_fork c.args.steps.now.items _ _ _ _ _ _ _ (plain_around c.args.surroundings.now.around.now) c.args.par _ _ _ _ _ _ _ _ c.in_ok-fork.ensures.at c.in_ok-put.ensures (c.len-first.ensures ∙ c.put.new.steps.ok.0) c.in_ok-put-2.ensures c.in_ok-wake.ensures.code
    c.in_ok-wake.ensures.at c.in_ok-again.ensures.at c.in_ok-put-3.ensures (c.len-second.ensures ∙ c.put-3.new.steps.ok.0) c.in_ok-put-4.ensures c.in_ok-emit_checks.ensures c.in_ok-put-5.ensures c.in_ok-end.ensures.at
