use Rattle.std.proofs.Common.{◌≡◌, Bool, true, false, List, ◌++◌, length, refl, sym, ap, ◌∙◌, subst, arith}
use Rattle.std.specs.Prelude.{Some, slice_get}
use Rattle.std.proofs.lemmas.Option.{slice_get_within}
use Rattle.forec_kernel.specs.Engine.{Answered, Written, pair_up}
use Rattle.core_machine.specs.declared.thread.Thread.{Thread}
use Rattle.core_machine.specs.Forks.{jobs_at}
use Rattle.thread_code.specs.Plain.{PlainCode, plain_code}
use Rattle.exchange_meaning.specs.Logged.{ExchangeLog}
use Rattle.tick_jobs.proofs.Lists.{past_end}
use Rattle.exchange_replay.specs.Walks.{PassesBranch, HasOtherJob}
use Rattle.exchange_replay.specs.Tracks.{HavePassed}
use Rattle.exchange_replay.proofs.ForkLemmas.{PassedFirst, its_job, first_none, first_more, first_other, first_all, some_passed}
use Rattle.exchange_replay.proofs.walk.Walk.passes_fork.Goals.{After-passes_branch}
use Rattle.exchange_replay.proofs.walk.Walk.passes_fork.Goals as goal

-- the branch at work, and whether it is written its next job
module _ (c : After-passes_branch) where
  abbrev code : PlainCode
  code = plain_code c.args.code.now

  abbrev own : Thread
  own = c.args.self.now.thread

  at : slice_get own.branches.numbers c.loop-branch.k ≡ Some c.in-Some.branch
  at = ap (λ (h : Thread). slice_get h.branches.numbers c.loop-branch.k) (sym c.loop-branch.invariant.thread) ∙ sym c.active.ensures ∙ c.in-Some.is

  abbrev job : (w : Written) × (slice_get (jobs_at code own) c.loop-branch.k ≡ Some w) × (w.branch ≡ c.in-Some.branch)
  job = its_job code own c.requires.fork c.loop-branch.k c.in-Some.branch at

  passes : (result : Bool) → c.passes_branch.result ≡ result → {pairs : ExchangeLog} {told : List Answered} (f : PassedFirst code c.args.log.now pairs own c.loop-branch.self c.loop-branch.k told) →
      PassesBranch code c.args.log.now pairs c.passes_branch.new.self result job.0 (told ++ pair_up (jobs_at code own) f.replies)
  passes result is {pairs} {told} f =
      let thread = c.loop-branch.invariant.thread in
      let all = told ++ pair_up (jobs_at code own) f.replies in
      subst (λ r. PassesBranch code c.args.log.now pairs c.passes_branch.new.self r job.0 all) is
      (c.passes_branch.ensures.passes pairs all job.0 (ap (λ (t : Thread). slice_get (jobs_at code t) c.loop-branch.k) thread ∙ job.1)
      (subst (λ (t : Thread). HavePassed code.shape c.args.log.now pairs t.number c.loop-branch.self.branches.items all) (sym thread) f.passed))

pub loop-branch-init : goal.loop-branch-init
loop-branch-init c = record {
  thread = refl;
  within = omega arith;
  first = λ pairs told p. first_none (plain_code c.args.code.now) c.args.log.now pairs c.args.self.now.thread c.args.self.now told p;
}

pub passes_branch-requires-clause-passed : goal.passes_branch-requires-clause-passed
passes_branch-requires-clause-passed c =
    let p = c.requires.passed in
    some_passed (plain_code c.args.code.now) c.args.log.now p.log c.args.self.now.thread c.loop-branch.self c.loop-branch.k p.told c.loop-branch.invariant.thread (c.loop-branch.invariant.first p.log p.told p.passed)

pub returns-then-not-passes_branch-clause-passes : goal.returns-then-not-passes_branch-clause-passes
returns-then-not-passes_branch-clause-passes c pairs told p =
    let b = (goal.at.returns-then-not-passes_branch-clause-passes c).After-passes_branch in
    let f = c.loop-branch.invariant.first pairs told p in
    let other = first_other (code b) c.args.log.now pairs (own b) c.requires.fork c.loop-branch.self c.loop-branch.k c.in-Some.branch (at b) told f (passes b false c.if-not-passes_branch.true f) in
    subst (λ (t : Thread). HasOtherJob (code b) pairs t told) (sym (c.passes_branch.ensures.thread ∙ c.loop-branch.invariant.thread)) other

pub loop-branch-smaller : goal.loop-branch-smaller
loop-branch-smaller c =
    let lt = slice_get_within c.args.self.now.thread.branches.numbers c.loop-branch.k c.in-Some.branch (at (goal.at.loop-branch-smaller c).After-passes_branch) in
    omega (arith, lt)

pub loop-branch-preserved : goal.loop-branch-preserved
loop-branch-preserved c =
    let b = (goal.at.loop-branch-preserved c).After-passes_branch in
    let same = c.passes_branch.ensures.thread ∙ c.loop-branch.invariant.thread in
    let lt = slice_get_within (own b).branches.numbers c.loop-branch.k c.in-Some.branch (at b) in
    record {
      thread = same;
      within = omega (arith, lt);
      first = λ pairs told p.
          let f = c.loop-branch.invariant.first pairs told p in
          first_more (code b) c.args.log.now pairs (own b) c.requires.fork c.loop-branch.self c.loop-branch.k c.in-Some.branch (at b) told f c.passes_branch.new.self c.passes_branch.ensures.others (ap (λ (t : Thread). t.number) same)
          (passes b true c.if-not-passes_branch.false f);
    }

pub returns-clause-passes : goal.returns-clause-passes
returns-clause-passes c pairs told p =
    let i = c.loop-branch.invariant in
    let past = past_end c.loop-branch.self.thread.branches.numbers c.loop-branch.k (sym c.active.ensures ∙ c.in_default.is) in
    let count = ap (λ (h : Thread). length h.branches.numbers) i.thread in
    first_all (plain_code c.args.code.now) c.args.log.now pairs c.args.self.now c.loop-branch.self c.loop-branch.k told i.thread (omega (arith, past, count)) i.within (i.first pairs told p)
