use Rattle.thread_code.proofs.Unstuck.{never_stuck}
use Rattle.thread_code.proofs.laws.valid_code_is_never_stuck.Goals as goal

pub returns : goal.returns
returns c = never_stuck
