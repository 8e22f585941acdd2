use Rattle.std.proofs.Common.{◌≡◌, false}
use Rattle.thread_code.specs.Plain.{plain_code, plain_block}
use Rattle.thread_rooms.specs.Depths.{HoldsDepths, AreFollowed, FindsDepths}
use Rattle.thread_rooms.proofs.depths.pass.Given as goal

abbrev pub invariant-loop-at : goal.invariant-loop-at
invariant-loop-at l = record {
  holds : HoldsDepths (plain_code l.code) (plain_block l.block) l.depths;
  finds : FindsDepths l.found l.initial.depths l.depths;
  followed : l.found ≡ false → AreFollowed (plain_block l.block) l.depths l.at;
}
