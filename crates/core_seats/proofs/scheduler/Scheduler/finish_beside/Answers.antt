use Rattle.std.proofs.Common.{◌≡◌, ◌<◌, ◌≤◌, List, [], length, refl, sym, ap, ◌∙◌, subst}
use Rattle.forec_kernel.specs.Engine.{Job, Answered}
use Rattle.thread_code.specs.declared.instruction.CodeParts.{CodeParts}
use Rattle.thread_code.specs.Plain.{plain_code}
use Rattle.core_machine.specs.Threads.{Loaded}
use Rattle.core_seats.specs.Keeping.{SchedulerState, code_in, IsSeated, HaveHeard, AtFork}
use Rattle.core_seats.specs.OnJob.{IsOnJob}
use Rattle.core_seats.specs.Serving.{KeepsOthers}
use Rattle.core_seats.specs.Waiting.{HasTold, HasReplies}
use Rattle.tick_jobs.proofs.Forks.{ComesToFork, came_to_fork, replied_by, stands_by}
use Rattle.core_seats.proofs.BesideLemmas.{on_runs, told_now, fork_now, forked_now, replies_now, heard_now, on_next, pairs_now}
use Rattle.core_seats.proofs.RoundLemmas.{round_same, round_then, round_others}
use Rattle.core_seats.proofs.ServingLemmas.{others_same, others_then, others_seated}
use Rattle.core_seats.proofs.scheduler.Scheduler.finish_beside.Given.{Over}
use Rattle.core_seats.proofs.scheduler.Scheduler.finish_beside.Goals.{In-Fork}
use Rattle.core_seats.proofs.scheduler.Scheduler.finish_beside.Goals as goal

pub loop-init : goal.loop-init
loop-init g c = record {
  keeps = others_same c.args.self.now;
  round = round_same c.args.self.now c.args.round.now c.requires.round;
  root = c.requires.root;
  loaded = c.requires.loaded;
  running = c.requires.running;
  done = λ jobs job on. on;
  others = refl;
}

pub await_fork-requires-clause-seated : goal.await_fork-requires-clause-seated
await_fork-requires-clause-seated g c = others_seated c.args.self.now c.loop.self c.loop.invariant.keeps c.requires.seated

pub await_fork-requires-clause-round : goal.await_fork-requires-clause-round
await_fork-requires-clause-round g c = round_others c.args.self.now c.loop.self c.args.round.now c.loop.round c.loop.invariant.keeps c.loop.invariant.round c.requires.round

pub await_fork-requires-clause-root : goal.await_fork-requires-clause-root
await_fork-requires-clause-root g c = c.run.ensures.number ∙ c.loop.invariant.root

-- ---- at a fork

module _ (g : Over) (c : In-Fork g) where
  code : c.self.inside.code.now ≡ c.loop.self.code
  code = ap (λ (s : SchedulerState). s.code) c.self.view_is

  seated : IsSeated c.loop.self
  seated = others_seated c.args.self.now c.loop.self c.loop.invariant.keeps c.requires.seated

  ran : ComesToFork (code_in c.loop.self) c.loop.thread c.run.new.self
  ran = came_to_fork code c.loop.thread c.run.new.self c.run.result c.in-Fork.is c.run.ensures.loaded c.run.ensures.number c.run.ensures.stands c.run.ensures.left c.run.ensures.branches

  -- in the job that was begun
  abbrev jobs : List Job
  jobs = c.requires.begun.0

  abbrev job : Job
  job = c.requires.begun.1

  begun : IsOnJob c.loop.self c.loop.thread jobs job
  begun = c.loop.invariant.done jobs job c.requires.begun.2

  abbrev pairs : List Answered
  pairs = pairs_now c.loop.self seated c.loop.thread c.run.new.self ran jobs job begun

  was_told : HasTold c.loop.self c.run.new.self.number pairs []
  was_told = told_now c.loop.self seated c.loop.thread c.run.new.self ran jobs job begun

  forks : AtFork c.loop.self c.run.new.self
  forks = fork_now c.loop.self seated c.loop.thread c.run.new.self ran jobs job begun

  -- its branches have replied
  module _ (d : SchedulerState) (keeps : KeepsOthers c.loop.self d) (all : (ps : List Answered) → HasTold c.loop.self c.run.new.self.number ps [] → HasReplies d c.run.new.self ps) where
    replied : HasReplies d c.run.new.self pairs
    replied = replies_now c.loop.self seated c.loop.thread c.run.new.self ran jobs job begun d keeps all

    were_heard : HaveHeard d c.run.new.self.branches.numbers replied.gathering.replies
    unfolding replied
    were_heard = heard_now c.loop.self seated c.loop.thread c.run.new.self ran jobs job begun d keeps all

pub await_fork-requires-clause-fork : goal.await_fork-requires-clause-fork
await_fork-requires-clause-fork g c = forks g (goal.at.await_fork-requires-clause-fork g c).In-Fork

pub await_fork-requires-clause-forked : goal.await_fork-requires-clause-forked
await_fork-requires-clause-forked g c =
    let f = (goal.at.await_fork-requires-clause-forked g c).In-Fork in
    forked_now c.loop.self (seated g f) c.loop.thread c.run.new.self (ran g f) (jobs g f) (job g f) (begun g f)

pub await_fork-requires-clause-told : goal.await_fork-requires-clause-told
await_fork-requires-clause-told g c = let f = (goal.at.await_fork-requires-clause-told g c).In-Fork in (pairs g f, was_told g f)

pub settle-requires-clause-loaded : goal.settle-requires-clause-loaded
settle-requires-clause-loaded g c =
    subst (λ (x : CodeParts). Loaded (plain_code x) c.run.new.self) (sym c.await_fork.ensures.keeps.code) (ran g (goal.at.settle-requires-clause-loaded g c).In-Fork).loaded

pub settle-requires-clause-fork : goal.settle-requires-clause-fork
settle-requires-clause-fork g c = (ran g (goal.at.settle-requires-clause-fork g c).In-Fork).settled

pub settle-requires-clause-few : goal.settle-requires-clause-few
settle-requires-clause-few g c = (forks g (goal.at.settle-requires-clause-few g c).In-Fork).few

pub settle-requires-clause-heard : goal.settle-requires-clause-heard
settle-requires-clause-heard g c =
    let f = (goal.at.settle-requires-clause-heard g c).In-Fork in
    let d = c.await_fork.new.self in
    let e = c.await_fork.ensures in ((replied g f d e.keeps e.all).gathering.replies, were_heard g f d e.keeps e.all)

pub join-requires-clause-some : goal.join-requires-clause-some
join-requires-clause-some g c =
    let f = (goal.at.join-requires-clause-some g c).In-Fork in
    let r = replied g f c.await_fork.new.self c.await_fork.ensures.keeps c.await_fork.ensures.all in
    subst (λ l. 0 < length l) (sym c.settle.ensures.branches) r.gathering.forked.some

pub join-requires-clause-few : goal.join-requires-clause-few
join-requires-clause-few g c =
    let f = (goal.at.join-requires-clause-few g c).In-Fork in
    let r = replied g f c.await_fork.new.self c.await_fork.ensures.keeps c.await_fork.ensures.all in
    subst (λ l. length l ≤ 256) (sym c.settle.ensures.branches) r.gathering.forked.few

pub join-requires-clause-heard : goal.join-requires-clause-heard
join-requires-clause-heard g c =
    let f = (goal.at.join-requires-clause-heard g c).In-Fork in
    let d = c.await_fork.new.self in
    let e = c.await_fork.ensures in
    let r = (replied g f d e.keeps e.all).gathering.replies in (r, subst (λ l. HaveHeard d l r) (sym c.settle.ensures.branches) (were_heard g f d e.keeps e.all))

pub loop-preserved : goal.loop-preserved
loop-preserved g c =
    let f = (goal.at.loop-preserved g c).In-Fork in
    record {
      keeps = others_then c.args.self.now c.loop.self c.await_fork.new.self c.loop.invariant.keeps c.await_fork.ensures.keeps;
      round = round_then c.args.round.now c.loop.round c.await_fork.new.round c.loop.invariant.round c.await_fork.ensures.round;
      root = c.join.ensures.number ∙ c.settle.ensures.number ∙ c.run.ensures.number ∙ c.loop.invariant.root;
      loaded = c.join.ensures.loaded;
      running = c.join.ensures.running;
      others = c.await_fork.ensures.others ∙ c.loop.invariant.others;
      done = λ jobs job on.
          on_next c.loop.self (seated g f) c.loop.thread c.run.new.self (ran g f) jobs job (c.loop.invariant.done jobs job on)
          c.await_fork.new.self c.await_fork.ensures.keeps c.await_fork.ensures.all c.settle.new.thread c.join.new.thread c.settle.ensures.number c.join.ensures.number c.settle.ensures.branches c.settle.ensures.stands c.join.ensures.stands;
    }

pub returns-in_default : goal.returns-in_default
returns-in_default g c =
    let code : c.self.inside.code.now ≡ c.loop.self.code = ap (λ (s : SchedulerState). s.code) c.self.view_is in
    record {
      others = c.loop.invariant.others;
      keeps = c.loop.invariant.keeps;
      round = c.loop.invariant.round;
      root = c.run.ensures.number ∙ c.loop.invariant.root;
      loaded = subst (λ (x : CodeParts). Loaded (plain_code x) c.run.new.self) (code ∙ c.loop.invariant.keeps.code) c.run.ensures.loaded;
      reply = replied_by c.run.new.self c.run.result c.run.ensures.left c.in_default.not-Fork;
      done = λ jobs job on.
          on_runs c.loop.self c.loop.thread c.run.new.self jobs job c.run.ensures.number (stands_by code c.loop.thread c.run.new.self c.run.ensures.stands) (c.loop.invariant.done jobs job on);
    }
