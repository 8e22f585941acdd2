use Rattle.std.proofs.Common.{◌≡◌, ◌++◌, ap, sym, ◌∙◌, length, map, arith}
use Rattle.std.proofs.lemmas.Grind.{common_steps}
use Rattle.forec_kernel.specs.Plain.{stmt}
use Rattle.forec_kernel.specs.Shapes.{plain_thread}
use Rattle.code_gen.specs.Statements.{Outside, statement_code}
use Rattle.code_gen.proofs.Counted.{outside_is}
use Rattle.code_gen.proofs.generator.body_steps.Goals as goal

pub returns-clause-room : goal.returns-clause-room
returns-clause-room c =
    let ts = map plain_thread c.args.threads.now in
    let body = stmt c.args.body.now in
    let written = c.in_ok-emit_statement.ensures ∙ ap (λ l. l ++ statement_code ts Outside (length l) body) c.in_ok-steps.ensures.items in
    let long : c.in_ok-own.own ≡ length c.emit_statement.new.self.steps.items = c.in_ok-own.ensures.size ∙ sym (ap (λ l. length l) written ∙ outside_is ts body) in
    grind (arith, common_steps, long)
