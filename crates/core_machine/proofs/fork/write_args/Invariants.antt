use Rattle.std.proofs.Common.{◌≡◌, length, take}
use Rattle.thread_state.specs.Frames.{args_from}
use Rattle.core_machine.proofs.fork.write_args.Given as goal

abbrev pub invariant-loop-i : goal.invariant-loop-i
invariant-loop-i l = record {
  long : length l.args ≡ length l.fn.args;
  front : take l.i l.args ≡ take l.i (args_from l.count 0 (length l.fn.args) l.stack.stack);
}
