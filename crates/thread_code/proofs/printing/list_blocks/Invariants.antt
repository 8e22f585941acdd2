use Rattle.std.proofs.Common.{◌≡◌, ◌++◌, string_bytes, drop, map}
use Rattle.thread_code.specs.Plain.{plain_block}
use Rattle.thread_code.specs.Listing.{blocks_text}
use Rattle.thread_code.proofs.printing.list_blocks.Given as goal

abbrev pub invariant-loop-number : goal.invariant-loop-number
invariant-loop-number l =
    string_bytes l.text ++ blocks_text l.word l.number-counter (map plain_block (drop l.number-counter l.blocks))
    ≡ string_bytes l.initial.text ++ blocks_text l.word 0 (map plain_block l.blocks)
