use Rattle.std.proofs.Common.{◌≡◌, ◌≤◌, ◌+◌, ◌++◌, List, ℕ, length, take}
use Rattle.forec_kernel.specs.Shapes.{plain_shape}
use Rattle.thread_code.specs.Valid.{branches_in}
use Rattle.thread_state.specs.Pars.{Lead}
use Rattle.core_machine.specs.Branches.{chosen}
use Rattle.thread_state.proofs.Links.{left_of}
use Rattle.core_machine.proofs.branches.fill.Given as goal

abbrev pub invariant-loop-next : goal.invariant-loop-next
invariant-loop-next l = record {
  rest : List ℕ;
  lead : Lead (plain_shape l.shape) l.pars.siblings l.next rest;
  long : length l.numbers ≡ length l.fn.numbers;
  count : l.count + length rest ≤ length l.fn.numbers;
  front : take l.count l.numbers ++ chosen l.again l.own.live rest ≡ chosen l.again l.own.live (branches_in (plain_shape l.shape) l.par);
}

abbrev pub decreases-loop-next : goal.decreases-loop-next
decreases-loop-next l = left_of (plain_shape l.shape) l.pars.siblings l.next
