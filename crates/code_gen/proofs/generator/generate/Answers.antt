use Rattle.thread_code.specs.declared.instruction.CodeParts.{CodeParts}
use Rattle.thread_code.specs.Plain.{plain_code}
use Rattle.code_gen.proofs.Whole.{ok_too, written_valid, written_stands}
use Rattle.code_gen.proofs.generator.generate.Goals as goal

pub code_of-requires : goal.code_of-requires
code_of-requires c =
    written_valid c.args.kernel.now c.parts-parts.result.now (record { shape = c.in_ok-shape.shape; threads = c.in_ok-threads.threads; functions = c.in_ok-functions.functions }) c.parts-parts.ensures.same c.in_ok-shape.ensures c.in_ok-threads.ensures c.in_ok-functions.ensures
    c.parts-parts.ensures.well_formed

pub returns : goal.returns
returns c =
    let parts : CodeParts = record { shape = c.in_ok-shape.shape; threads = c.in_ok-threads.threads; functions = c.in_ok-functions.functions } in
    ok_too c.code_of.result (λ code same. written_stands c.args.kernel.now c.parts-parts.result.now parts c.parts-parts.ensures.same c.in_ok-shape.ensures c.in_ok-threads.ensures c.in_ok-functions.ensures c.parts-parts.ensures.well_formed (plain_code code) same) c.code_of.ensures
