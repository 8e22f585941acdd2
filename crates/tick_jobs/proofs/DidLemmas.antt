-- What a thread has done, where its posts stay.
use Rattle.std.proofs.Common.{ℕ, List}
use Rattle.forec_kernel.specs.Engine.{Job, Answered}
use Rattle.thread_code.specs.Plain.{PlainCode}
use Rattle.core_machine.specs.declared.thread.Thread.{Thread}
use Rattle.tick_jobs.specs.Told.{DidJobs}

pub did_for : {P Q : ℕ → List Answered → Type 0} (c : PlainCode) (h : Thread) (jobs : List Job) → DidJobs c h P jobs → ((pairs : List Answered) → P h.number pairs → Q h.number pairs) → DidJobs c h Q jobs
did_for c h jobs d keeps = record {
  exchanges = d.exchanges;
  outputs = d.outputs;
  stands = d.stands;
  jobs_are = d.jobs_are;
  runs = d.runs;
  complete = d.complete;
  posts = keeps _ d.posts;
}
