-- The parts of a lowered `for` before its body, and the scopes that its test and its body stand in.
use Rattle.std.proofs.Common.{ℕ, List}
use Rattle.forec_tree.specs.Terms.{Text, Perhaps}
use Rattle.text_kernel.specs.declared.names.Slot.{Slot}
use Rattle.text_kernel.specs.Lowering.{lower_perhaps, scope_after_perhaps, NextNumbers, Lowered, Inlined}

pub record ForParts : Type 0 where
  pub started : Lowered
  pub tested : List Slot
  pub stepped : Lowered
  pub inside : List Slot

abbrev pub for_parts : Text → (ℕ → Inlined) → ℕ → List Slot → NextNumbers → Perhaps → Perhaps → ForParts
for_parts text called t s n start step =
    let i = lower_perhaps text called t s n start in
    let s2 = scope_after_perhaps text s n.slot start in
    let d = lower_perhaps text called t s2 i.next step in
    record { started = i; tested = s2; stepped = d; inside = scope_after_perhaps text s2 i.next.slot step }
