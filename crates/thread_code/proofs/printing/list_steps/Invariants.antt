use Rattle.std.proofs.Common.{◌≡◌, ◌++◌, string_bytes, drop}
use Rattle.thread_code.specs.Listing.{steps_text}
use Rattle.thread_code.proofs.printing.list_steps.Given as goal

abbrev pub invariant-loop-address : goal.invariant-loop-address
invariant-loop-address l =
    string_bytes l.text ++ steps_text l.address-counter (drop l.address-counter l.steps) ≡ string_bytes l.initial.text ++ steps_text 0 l.steps
