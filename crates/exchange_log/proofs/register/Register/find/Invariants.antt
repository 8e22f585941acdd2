use Rattle.std.proofs.Common.{ℕ, ◌≡◌, ◌<◌, false, Some}
use Rattle.std.specs.Prelude.{slice_get}
use Rattle.exchange_log.specs.declared.entry.Entry.{Entry}
use Rattle.exchange_log.specs.Registers.{is_entry}
use Rattle.exchange_log.proofs.register.Register.find.Given as goal

abbrev pub invariant-loop-at : goal.invariant-loop-at
invariant-loop-at l = record { absent : (i : ℕ) (e : Entry) → i < l.at → slice_get l.self.entries.items i ≡ Some e → is_entry l.k l.number e ≡ false }
