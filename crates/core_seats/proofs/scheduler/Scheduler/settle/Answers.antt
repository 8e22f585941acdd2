use Rattle.std.proofs.Common.{◌≡◌, Some, ◌+◌, ◌++◌, ◌∷◌, [], suc, length, take, slice_get, refl, sym, ap, ◌∙◌, subst, arith}
use Rattle.std.proofs.lemmas.Option.{slice_get_within}
use Rattle.thread_code.specs.declared.instruction.CodeParts.{CodeParts}
use Rattle.thread_code.specs.Plain.{plain_code}
use Rattle.core_machine.specs.Threads.{Loaded, StandsFor, HasSettled}
use Rattle.core_machine.specs.Forks.{with_replies}
use Rattle.tick_jobs.proofs.Lists.{take_more, take_count, take_all}
use Rattle.tick_jobs.proofs.BranchLoops.{at_first, this_branch, at_next, at_end}
use Rattle.core_seats.specs.Keeping.{SchedulerState, code_in}
use Rattle.core_seats.proofs.Hearing.{reply_kind, reply_at, in_hand, some_branch, reply_is}
use Rattle.core_seats.proofs.scheduler.Scheduler.settle.Given.{Over}
use Rattle.core_seats.proofs.scheduler.Scheduler.settle.Goals.{In-Some}
use Rattle.core_seats.proofs.scheduler.Scheduler.settle.Goals as goal

-- the branch at work
its_number : (g : Over) (c : In-Some g) → slice_get c.args.thread.now.branches.numbers c.loop-branch.k ≡ Some c.in-Some.branch
its_number g c = this_branch c.loop-branch.invariant.at c.active.ensures c.in-Some.is

pub settle-requires-clause-branch : goal.settle-requires-clause-branch
settle-requires-clause-branch g c = slice_get_within c.loop-branch.thread.branches.numbers c.loop-branch.k c.in-Some.branch (sym c.active.ensures ∙ c.in-Some.is)

pub settle-requires-clause-reply : goal.settle-requires-clause-reply
settle-requires-clause-reply g c =
    let at = its_number g (goal.at.settle-requires-clause-reply g c).In-Some in
    let heard = c.requires.heard.1 in
    let p = c.reply_of-packet.result.now in
    reply_kind p.kind p (reply_at heard c.loop-branch.k c.in-Some.branch at).0 refl (reply_is heard c.loop-branch.k c.in-Some.branch at c.reply_of-packet.ensures)

pub reply_of-packet-requires-clause-some : goal.reply_of-packet-requires-clause-some
reply_of-packet-requires-clause-some g c = some_branch c.requires.heard.1 c.loop-branch.k c.in-Some.branch (its_number g (goal.at.reply_of-packet-requires-clause-some g c).In-Some)

pub reply_of-packet-requires-clause-there : goal.reply_of-packet-requires-clause-there
reply_of-packet-requires-clause-there g c = in_hand c.requires.heard.1 c.loop-branch.k c.in-Some.branch (its_number g (goal.at.reply_of-packet-requires-clause-there g c).In-Some)

pub loop-branch-init : goal.loop-branch-init
loop-branch-init g c = record { at = at_first _ _ c.requires.loaded; order = c.requires.fork; stands = λ rs xs heard before. before }

pub loop-branch-preserved : goal.loop-branch-preserved
loop-branch-preserved g c =
    let i = c.loop-branch.invariant in
    let at = its_number g (goal.at.loop-branch-preserved g c).In-Some in
    let code = ap (λ (s : SchedulerState). s.code) c.self.view_is in
    let lt = slice_get_within c.args.thread.now.branches.numbers c.loop-branch.k c.in-Some.branch at in
    record {
      at = at_next i.at c.active.ensures c.in-Some.is c.settle.new.self (subst (λ (x : CodeParts). Loaded (plain_code x) c.settle.new.self) code c.settle.ensures.loaded) c.settle.ensures.number c.settle.ensures.branches;
      order = c.settle.ensures.order;
      stands = λ rs xs heard before.
          let r = reply_at heard c.loop-branch.k c.in-Some.branch at in
          let old = subst (λ (x : CodeParts). StandsFor (plain_code x) c.loop-branch.thread (with_replies xs (take c.loop-branch.k rs))) (sym code) (i.stands rs xs heard before) in
          let new = c.settle.ensures.stands xs (take c.loop-branch.k rs) r.0 (take_count rs c.loop-branch.k (omega (arith, lt, heard.count))) (reply_is heard c.loop-branch.k c.in-Some.branch at c.reply_of-packet.ensures) old in
          let one : suc c.loop-branch.k ≡ c.loop-branch.k + 1 = omega arith in
          let more = sym (take_more rs c.loop-branch.k r.0 r.1) ∙ ap (λ n. take n rs) one in
          subst (λ l. StandsFor (code_in c.args.self.now) c.settle.new.self (with_replies xs l)) more
          (subst (λ (x : CodeParts). StandsFor (plain_code x) c.settle.new.self (with_replies xs (take c.loop-branch.k rs ++ r.0 ∷ []))) code new);
    }

pub returns-clause-loaded : goal.returns-clause-loaded
returns-clause-loaded g c = c.loop-branch.invariant.at.loaded

pub returns-clause-number : goal.returns-clause-number
returns-clause-number g c = c.loop-branch.invariant.at.number

pub returns-clause-branches : goal.returns-clause-branches
returns-clause-branches g c = c.loop-branch.invariant.at.branches

pub returns-clause-order : goal.returns-clause-order
returns-clause-order g c =
    let i = c.loop-branch.invariant in
    subst (HasSettled c.loop-branch.thread) (at_end i.at c.active.ensures c.in_default.is ∙ sym (ap length i.at.branches)) i.order

pub returns-clause-stands : goal.returns-clause-stands
returns-clause-stands g c rs xs heard before =
    let end = at_end c.loop-branch.invariant.at c.active.ensures c.in_default.is in
    let many = heard.count in
    subst (λ l. StandsFor (code_in c.args.self.now) c.loop-branch.thread (with_replies xs l)) (take_all rs c.loop-branch.k (omega (arith, end, many))) (c.loop-branch.invariant.stands rs xs heard before)
