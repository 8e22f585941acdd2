use Rattle.thread_code.proofs.Sized.{jobs_and_replies_fit}
use Rattle.thread_code.proofs.laws.jobs_and_replies_fit.Goals as goal

pub returns : goal.returns
returns c = jobs_and_replies_fit
