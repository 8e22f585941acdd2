use Rattle.thread_code.specs.declared.instruction.CodeParts.{CodeParts}
use Rattle.thread_code.proofs.SmallCode.{parts_are}
use Rattle.core_rows.proofs.jobs.parts.Goals as goal

pub returns : goal.returns
returns c =
    let parts : CodeParts = record { shape = c.in_ok-shape.field-0; threads = c.in_ok-threads.threads; functions = c.in_ok-functions.functions } in
    parts_are parts c.in_ok-main_block.field-0 c.in_ok-function_block.field-0 c.in_ok-shape.ensures c.in_ok-threads.ensures c.in_ok-main_block.ensures c.in_ok-functions.ensures
    c.in_ok-function_block.ensures
