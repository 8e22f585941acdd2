use Rattle.std.proofs.Common.{◌≡◌, map, take}
use Rattle.forec_kernel.specs.Plain.{stmt}
use Rattle.forec_kernel.specs.Shapes.{plain_kernel}
use Rattle.thread_code.specs.Plain.{plain_block}
use Rattle.code_gen.specs.Blocks.{function_block, blocks_from}
use Rattle.code_gen.proofs.generator.function_blocks.Given as goal

abbrev pub invariant-loop-f : goal.invariant-loop-f
invariant-loop-f l = map plain_block l.blocks.items ≡ blocks_from (function_block (plain_kernel l.parts)) 0 (map stmt (take l.f l.parts.functions.items))
