-- Thread 0 has replied to one more job.
use Rattle.std.specs.Prelude.{List, [], ◌∷◌, ◌++◌, length}
use Rattle.forec_kernel.specs.Packets.{PlainPacket}
use Rattle.forec_kernel.specs.Packed.{IsJob, IsReply}
use Rattle.forec_kernel.specs.Engine.{Job, Reply, Answers}
use Rattle.thread_code.specs.Alone.{CodeAlone}
use Rattle.core_machine.specs.declared.thread.Thread.{Thread}
use Rattle.core_seats.specs.Done.{HasDone}
use Rattle.core_seats.specs.Keeping.{SchedulerState, code_in, Sits}

pub record HasReplied (s : SchedulerState) (h : Thread) (jobs : List Job) (p : PlainPacket) : Type 0 where
  pub done : HasDone (code_in s) h s.mail jobs
  pub reply : Reply
  pub is : IsReply p reply
  pub answers : Answers (CodeAlone (code_in s)) (length (code_in s).threads) 0 jobs reply

-- it has replied by the second packet to the job in the first, after all that it had done before
abbrev pub HasRepliedTo : SchedulerState → SchedulerState → PlainPacket → PlainPacket → Type 0
HasRepliedTo a b p q = (t u : Thread) (jobs : List Job) (job : Job) → Sits a 0 t → Sits b 0 u → HasDone (code_in a) t a.mail jobs → IsJob p job → HasReplied b u (jobs ++ job ∷ []) q
