use Rattle.std.proofs.Common.{◌≡◌, ℕ, suc, Some, length}
use Rattle.std.specs.Prelude.{slice_get, map}
use Rattle.forec_kernel.specs.Shapes.{plain_thread}
use Rattle.forec_kernel.specs.Texts.{uses_in, params_in}
use Rattle.combine_tree.specs.declared.packet.Packet.{Packet}
use Rattle.core_seats.proofs.local.blanks.Given as goal

abbrev pub invariant-loop-mailbox : goal.invariant-loop-mailbox
invariant-loop-mailbox l = record {
  count : length l.packets.items ≡ l.mailbox;
  each : (k : ℕ) (p : Packet) → slice_get l.packets.items k ≡ Some p →
      (length p.args.items ≡ params_in (map plain_thread l.threads.items) (suc k)) × (length p.copies.items ≡ length (uses_in (map plain_thread l.threads.items) (suc k)));
}
