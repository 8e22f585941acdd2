use Rattle.std.proofs.Common.{◌≡◌, Some, take, length, refl, sym, ap, ◌∙◌, subst, arith}
use Rattle.std.specs.Prelude.{slice_get}
use Rattle.std.proofs.lemmas.Option.{slice_get_within}
use Rattle.thread_code.specs.Plain.{plain_code}
use Rattle.core_machine.specs.Threads.{StandsFor, HasSettled}
use Rattle.core_machine.specs.Forks.{with_replies}
use Rattle.tick_jobs.proofs.Lists.{take_all, take_count}
use Rattle.tick_jobs.proofs.BranchLoops.{at_first, this_branch, at_next, at_end}
use Rattle.exchange_replay.proofs.HeardLemmas.{reply_at, heard_at, track_at, its_reply, its_kind, settled_more}
use Rattle.exchange_replay.proofs.walk.Walk.settle.Goals.{In-Some, After-deref}
use Rattle.exchange_replay.proofs.walk.Walk.settle.Goals as goal

-- the branch at work
its_number : (c : In-Some) → slice_get c.args.self.now.thread.branches.numbers c.loop-branch.k ≡ Some c.in-Some.branch
its_number c = this_branch c.loop-branch.invariant.at c.active.ensures c.in-Some.is

tracks : (c : After-deref) → c.deref.result.now ≡ c.args.self.now.branches.items
tracks c = c.deref.ensures.value ∙ ap (λ v. v.items) c.loop-branch.invariant.tracks

pub loop-branch-init : goal.loop-branch-init
loop-branch-init c = record { at = at_first _ _ c.requires.loaded; tracks = refl; order = c.requires.order; stands = λ rs xs heard before. before }

pub logged_reply-packet-requires : goal.logged_reply-packet-requires
logged_reply-packet-requires c =
    let at = goal.at.logged_reply-packet-requires c in
    let heard = c.requires.replies.1 in
    ((heard_at heard c.loop-branch.k c.in-Some.branch (its_number at.In-Some)).track, track_at heard c.loop-branch.k c.in-Some.branch (its_number at.In-Some) (tracks at.After-deref))

pub settle-requires-clause-branch : goal.settle-requires-clause-branch
settle-requires-clause-branch c = slice_get_within c.loop-branch.self.thread.branches.numbers c.loop-branch.k c.in-Some.branch (sym c.active.ensures ∙ c.in-Some.is)

pub settle-requires-clause-reply : goal.settle-requires-clause-reply
settle-requires-clause-reply c =
    let at = goal.at.settle-requires-clause-reply c in
    its_kind c.requires.replies.1 c.loop-branch.k c.in-Some.branch (its_number at.In-Some) (tracks at.After-deref) c.logged_reply-packet.ensures

pub loop-branch-smaller : goal.loop-branch-smaller
loop-branch-smaller c =
    let lt = slice_get_within c.args.self.now.thread.branches.numbers c.loop-branch.k c.in-Some.branch (its_number (goal.at.loop-branch-smaller c).In-Some) in omega (arith, lt)

pub loop-branch-preserved : goal.loop-branch-preserved
loop-branch-preserved c =
    let k = plain_code c.args.code.now in
    let i = c.loop-branch.invariant in
    let at = goal.at.loop-branch-preserved c in
    let number = its_number at.In-Some in
    let lt = slice_get_within c.args.self.now.thread.branches.numbers c.loop-branch.k c.in-Some.branch number in
    record {
      at = at_next i.at c.active.ensures c.in-Some.is c.settle.new.self c.settle.ensures.loaded c.settle.ensures.number c.settle.ensures.branches;
      tracks = i.tracks;
      order = c.settle.ensures.order;
      stands = λ rs xs heard before.
          let r = reply_at heard c.loop-branch.k c.in-Some.branch number in
          let is = its_reply heard c.loop-branch.k c.in-Some.branch number (tracks at.After-deref) c.logged_reply-packet.ensures in
          let count = heard.count in
          settled_more k c.settle.new.self xs rs c.loop-branch.k r.0 r.1 (c.settle.ensures.stands xs (take c.loop-branch.k rs) r.0 (take_count rs c.loop-branch.k (omega (arith, lt, count))) is (i.stands rs xs heard before));
    }

pub returns-clause-loaded : goal.returns-clause-loaded
returns-clause-loaded c = c.loop-branch.invariant.at.loaded

pub returns-clause-number : goal.returns-clause-number
returns-clause-number c = c.loop-branch.invariant.at.number

pub returns-clause-branches : goal.returns-clause-branches
returns-clause-branches c = c.loop-branch.invariant.at.branches

pub returns-clause-order : goal.returns-clause-order
returns-clause-order c =
    let i = c.loop-branch.invariant in
    subst (HasSettled c.loop-branch.self.thread) (at_end i.at c.active.ensures c.in_default.is ∙ sym (ap length i.at.branches)) i.order

pub returns-clause-stands : goal.returns-clause-stands
returns-clause-stands c rs xs heard before =
    let end = at_end c.loop-branch.invariant.at c.active.ensures c.in_default.is in
    let many = heard.count in
    subst (λ l. StandsFor (plain_code c.args.code.now) c.loop-branch.self.thread (with_replies xs l)) (take_all rs c.loop-branch.k (omega (arith, end, many))) (c.loop-branch.invariant.stands rs xs heard before)
