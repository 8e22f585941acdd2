use Rattle.std.proofs.Common.{◌≡◌, length, take}
use Rattle.thread_state.specs.Kept.{handed_by}
use Rattle.thread_state.proofs.own.Own.hand_down.Given as goal

abbrev pub invariant-loop-i : goal.invariant-loop-i
invariant-loop-i l = record {
  long : length l.copies ≡ length l.uses;
  front : take l.i l.copies ≡ take l.i (handed_by l.self l.uses);
}
