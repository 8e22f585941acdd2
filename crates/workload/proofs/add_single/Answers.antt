use Rattle.std.proofs.Common.{append_assoc}
use Rattle.workload.proofs.add_single.Goals as goal

pub returns : goal.returns
returns c =
    rw (c.in_ok-add-3.ensures, c.in_ok-add_number-2.ensures, c.in_ok-add-2.ensures, c.in_ok-add_number.ensures, c.in_ok-add.ensures) (simp append_assoc)
