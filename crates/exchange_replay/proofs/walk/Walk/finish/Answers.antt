use Rattle.std.proofs.Common.{◌≡◌, ◌+◌, ◌*◌, ◌<◌, ◌≤◌, ◌++◌, ◌∷◌, [], Bool, true, false, List, None, length, refl, sym, ap, ◌∙◌, subst, arith}
use Rattle.forec_kernel.specs.Engine.{Job}
use Rattle.std.proofs.Math.Facts.{Fits-of_lt}
use Rattle.thread_code.specs.Plain.{plain_code}
use Rattle.thread_code.specs.Alone.{block_of}
use Rattle.core_machine.specs.declared.thread.Thread.{Thread}
use Rattle.core_machine.specs.Threads.{LeftByEvent}
use Rattle.tick_jobs.specs.Writing.{told}
use Rattle.tick_jobs.proofs.Forks.{fits_forks, replied_by}
use Rattle.exchange_replay.specs.declared.walk.Walk.{Walk}
use Rattle.exchange_meaning.specs.Logged.{ExchangeLog}
use Rattle.exchange_replay.specs.Walks.{PassesFork, CannotTell, HasOtherJob, WalksJob}
use Rattle.exchange_replay.proofs.FinishLemmas.{Counted, HasForked, runs_on, own_fork, some_told, some_branch, forks_left, later_replies, fork_passed, fork_differs}
use Rattle.exchange_replay.proofs.walk.Walk.finish.Goals.{After-passes_fork, In-Fork}
use Rattle.exchange_replay.proofs.walk.Walk.finish.Goals as goal

pub loop-self-init : goal.loop-self-init
loop-self-init c = record {
  loaded = c.requires.loaded;
  running = c.requires.running;
  number = refl;
  at = λ pairs jobs job w. (w, omega arith);
}

-- ---- a fork

module _ (c : In-Fork) where
  abbrev here : Walk
  here = record { thread = c.run.new.self; branches = c.loop-self.self.branches }

  counted : (pairs : ExchangeLog) (jobs : List Job) (job : Job) (w : WalksJob (plain_code c.args.code.now) c.args.log.now pairs c.args.self.now jobs job) →
      Counted (plain_code c.args.code.now) c.args.log.now pairs here jobs job (length w.log.before + c.loop-self.forks)
  counted pairs jobs job w =
      runs_on (plain_code c.args.code.now) c.args.log.now pairs jobs job c.loop-self.self here refl c.run.ensures.number c.run.ensures.stands (length w.log.before + c.loop-self.forks) (c.loop-self.invariant.at pairs jobs job w)

  abbrev forked : (pairs : ExchangeLog) (jobs : List Job) (job : Job) → WalksJob (plain_code c.args.code.now) c.args.log.now pairs c.args.self.now jobs job → HasForked (plain_code c.args.code.now) c.args.log.now pairs jobs job here
  forked pairs jobs job w = record {
    valid = c.requires.valid;
    loaded = c.run.ensures.loaded;
    settled = subst (λ e. LeftByEvent c.run.new.self e) c.in-Fork.is c.run.ensures.left;
    numbers = c.run.ensures.branches c.in-Fork.is;
    at = (counted pairs jobs job w).0;
  }

  -- in the job that was begun
  abbrev begun : HasForked (plain_code c.args.code.now) c.args.log.now c.requires.begun.log c.requires.begun.jobs c.requires.begun.job here
  begun = let b = c.requires.begun in forked b.log b.jobs b.job b.at

  left : c.loop-self.forks + 1 ≤ (length (block_of (plain_code c.args.code.now) c.args.self.now.thread.number).steps + 2) * c.args.self.now.thread.allowance + (length (block_of (plain_code c.args.code.now) c.args.self.now.thread.number).steps + 1)
  left =
      let b = c.requires.begun in
      forks_left begun c.args.self.now b.at b.first c.loop-self.forks (c.run.ensures.number ∙ c.loop-self.invariant.number) (counted b.log b.jobs b.job b.at).1

-- whether the branches are written their next jobs
passed : (c : After-passes_fork) (result : Bool) → c.passes_fork.result ≡ result → {pairs : ExchangeLog} {jobs : List Job} {job : Job} →
    (f : HasForked (plain_code c.args.code.now) c.args.log.now pairs jobs job (record { thread = c.run.new.self; branches = c.loop-self.self.branches })) →
    PassesFork (plain_code c.args.code.now) c.args.log.now pairs c.passes_fork.new.self result (told (plain_code c.args.code.now) c.run.new.self.number jobs job f.at.log)
passed c result is {pairs} {jobs} {job} f =
    let so_far = told (plain_code c.args.code.now) c.run.new.self.number jobs job f.at.log in
    subst (λ r. PassesFork (plain_code c.args.code.now) c.args.log.now pairs c.passes_fork.new.self r so_far) is (c.passes_fork.ensures.passes pairs so_far f.at.posts)

pub passes_fork-requires-clause-fork : goal.passes_fork-requires-clause-fork
passes_fork-requires-clause-fork c = own_fork (begun (goal.at.passes_fork-requires-clause-fork c).In-Fork)

pub passes_fork-requires-clause-passed : goal.passes_fork-requires-clause-passed
passes_fork-requires-clause-passed c = some_told (begun (goal.at.passes_fork-requires-clause-passed c).In-Fork)

pub returns-then-not-passes_fork-clause-walks : goal.returns-then-not-passes_fork-clause-walks
returns-then-not-passes_fork-clause-walks c pairs jobs job w =
    let at = goal.at.returns-then-not-passes_fork-clause-walks c in
    let k = plain_code c.args.code.now in
    let f = forked at.In-Fork pairs jobs job w in
    let other = subst (λ (t : Thread). HasOtherJob k pairs t (told k c.run.new.self.number jobs job f.at.log)) c.passes_fork.ensures.thread (passed at.After-passes_fork false c.if-not-passes_fork.true f) in
    subst (λ n. CannotTell k pairs n (jobs ++ job ∷ [])) (c.run.ensures.number ∙ c.loop-self.invariant.number) (fork_differs f other)

-- ---- the replies were read

pub settle-requires-clause-replies : goal.settle-requires-clause-replies
settle-requires-clause-replies c =
    let at = goal.at.settle-requires-clause-replies c in
    let passes = passed at.After-passes_fork true c.if-not-passes_fork.false (begun at.In-Fork) in (passes.0, passes.2)

pub join-requires-clause-some : goal.join-requires-clause-some
join-requires-clause-some c =
    subst (λ ls. 0 < length ls) (sym (c.settle.ensures.branches ∙ ap (λ (t : Thread). t.branches.numbers) c.passes_fork.ensures.thread)) (some_branch (begun (goal.at.join-requires-clause-some c).In-Fork))

pub join-requires-clause-replies : goal.join-requires-clause-replies
join-requires-clause-replies c =
    let at = goal.at.join-requires-clause-replies c in
    let passes = passed at.After-passes_fork true c.if-not-passes_fork.false (begun at.In-Fork) in
    (passes.0, later_replies (plain_code c.args.code.now) c.passes_fork.new.self c.settle.new.self c.settle.ensures.tracks c.settle.ensures.branches passes.0 passes.2)

pub overflow_add-forks : goal.overflow_add-forks
overflow_add-forks c =
    Fits-of_lt (fits_forks c.loop-self.forks (length (block_of (plain_code c.args.code.now) c.args.self.now.thread.number).steps) c.args.self.now.thread.allowance (left (goal.at.overflow_add-forks c).In-Fork) (c.requires.loaded.short None) c.requires.loaded.small)

pub loop-self-smaller : goal.loop-self-smaller
loop-self-smaller c = let less = left (goal.at.loop-self-smaller c).In-Fork in omega (arith, less)

pub loop-self-preserved : goal.loop-self-preserved
loop-self-preserved c =
    let at = goal.at.loop-self-preserved c in
    record {
      loaded = c.join.ensures.loaded;
      running = c.join.ensures.running;
      number = c.join.ensures.number ∙ c.settle.ensures.number ∙ ap (λ (t : Thread). t.number) c.passes_fork.ensures.thread ∙ c.run.ensures.number ∙ c.loop-self.invariant.number;
      at = λ pairs jobs job w.
          let f = forked at.In-Fork pairs jobs job w in
          let on = fork_passed f c.passes_fork.new.self c.settle.new.self c.join.new.self c.passes_fork.ensures.thread (passed at.After-passes_fork true c.if-not-passes_fork.false f) c.settle.ensures.tracks c.settle.ensures.number
          c.settle.ensures.branches c.settle.ensures.stands c.join.ensures.tracks c.join.ensures.number c.join.ensures.stands in
          (on.0, let x = on.1 in let y = (counted at.In-Fork pairs jobs job w).1 in omega (arith, x, y));
    }

-- ---- the reply

pub returns : goal.returns
returns c =
    let i = c.loop-self.invariant in
    record {
      loaded = c.run.ensures.loaded;
      number = c.run.ensures.number ∙ i.number;
      reply = λ e. replied_by c.run.new.self c.run.result c.run.ensures.left c.in_default.not-Fork;
      walks = λ pairs jobs job w.
          (runs_on (plain_code c.args.code.now) c.args.log.now pairs jobs job c.loop-self.self (record { thread = c.run.new.self; branches = c.loop-self.self.branches }) refl c.run.ensures.number c.run.ensures.stands
          (length w.log.before + c.loop-self.forks) (i.at pairs jobs job w)).0;
    }
