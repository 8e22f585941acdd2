use Rattle.exchange_meaning.proofs.OwnBranches.{all_mine}
use Rattle.exchange_meaning.proofs.laws.threads_tell_their_branches.Goals as goal

pub returns : goal.returns
returns c = λ code valid t lt exchanges outputs alone. all_mine code t valid lt exchanges outputs alone
