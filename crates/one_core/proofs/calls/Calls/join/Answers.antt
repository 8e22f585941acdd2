use Rattle.std.proofs.Common.{◌<◌, length, sym, ap, ◌∙◌, subst, arith}
use Rattle.std.specs.Prelude.{slice_index_or}
use Rattle.std.proofs.lemmas.Option.{slice_get_within, get_or_from_slice_get}
use Rattle.thread_code.specs.declared.instruction.CodeParts.{CodeParts}
use Rattle.thread_code.specs.Plain.{plain_code}
use Rattle.core_machine.specs.declared.thread.Thread.{Thread}
use Rattle.core_machine.specs.Threads.{Loaded, StandsFor, HasReply}
use Rattle.core_machine.specs.Forks.{with_replies}
use Rattle.tick_jobs.proofs.BranchLoops.{at_first, this_branch, at_next, at_end}
use Rattle.one_core.specs.Seats.{Seated}
use Rattle.core_machine.specs.Direct.{RepliesBy}
use Rattle.one_core.proofs.HearingLemmas.{reply_at, in_seats, not_empty, it_replied, it_loaded, its_number, its_reply}
use Rattle.one_core.proofs.calls.Calls.join.Goals as goal

pub index-requires : goal.index-requires
index-requires c =
    let at = this_branch c.loop-branch.invariant.at c.active.ensures c.in-Some.is in
    let lt = in_seats c.args.self.now c.args.thread.now.branches.numbers c.requires.heard.0 c.requires.heard.1 c.loop-branch.k c.in-Some.branch at in
    let less : c.in-Some.branch < length c.self.inside.seats.items = subst (λ (s : Seated). c.in-Some.branch < length s.threads) (sym c.self.view_is) lt in
    subst (λ n. c.in-Some.branch < n) (sym c.self.inside.seats.ok.0) less

pub unreachable-requires : goal.unreachable-requires
unreachable-requires c =
    let at = this_branch c.loop-branch.invariant.at c.active.ensures c.in-Some.is in
    not_empty c.args.self.now c.args.thread.now.branches.numbers c.requires.heard.0 c.requires.heard.1 c.loop-branch.k c.in-Some.branch at c.index.result.now
    (c.index.ensures ∙ ap (λ (s : Seated). slice_index_or s.threads c.in-Some.branch c.index.result.now) c.self.view_is) c.in_default-index.is

pub join_call-requires-clause-order : goal.join_call-requires-clause-order
join_call-requires-clause-order c =
    let at = this_branch c.loop-branch.invariant.at c.active.ensures c.in-Some.is in
    c.loop-branch.invariant.order (slice_get_within c.args.thread.now.branches.numbers c.loop-branch.k c.in-Some.branch at)

pub join_call-requires-clause-index : goal.join_call-requires-clause-index
join_call-requires-clause-index c = slice_get_within c.loop-branch.thread.branches.numbers c.loop-branch.k c.in-Some.branch (sym c.active.ensures ∙ c.in-Some.is)

pub join_call-requires-clause-branch : goal.join_call-requires-clause-branch
join_call-requires-clause-branch c =
    let at = this_branch c.loop-branch.invariant.at c.active.ensures c.in-Some.is in
    let code = ap (λ (s : Seated). s.code) c.self.view_is in
    subst (λ (p : Thread). Loaded (plain_code c.self.inside.code.now) p) (sym c.deref.ensures)
    (subst (λ (x : CodeParts). Loaded (plain_code x) c.in-Some-index.called) (sym code)
    (it_loaded c.args.self.now c.args.thread.now.branches.numbers c.requires.heard.0 c.requires.heard.1 c.loop-branch.k c.in-Some.branch at c.index.result.now
    (c.index.ensures ∙ ap (λ (s : Seated). slice_index_or s.threads c.in-Some.branch c.index.result.now) c.self.view_is) c.in-Some-index.called c.in-Some-index.is))

pub join_call-requires-clause-number : goal.join_call-requires-clause-number
join_call-requires-clause-number c =
    let at = this_branch c.loop-branch.invariant.at c.active.ensures c.in-Some.is in
    let number = its_number c.args.self.now c.args.thread.now.branches.numbers c.requires.heard.0 c.requires.heard.1 c.loop-branch.k c.in-Some.branch at c.index.result.now
    (c.index.ensures ∙ ap (λ (s : Seated). slice_index_or s.threads c.in-Some.branch c.index.result.now) c.self.view_is) c.in-Some-index.called c.in-Some-index.is in
    let branch = get_or_from_slice_get c.loop-branch.thread.branches.numbers c.loop-branch.k c.in-Some.branch 0 (sym c.active.ensures ∙ c.in-Some.is) in
    ap (λ (p : Thread). p.number) c.deref.ensures ∙ number ∙ sym branch

pub join_call-requires-clause-reply : goal.join_call-requires-clause-reply
join_call-requires-clause-reply c =
    let at = this_branch c.loop-branch.invariant.at c.active.ensures c.in-Some.is in
    subst HasReply (sym c.deref.ensures)
    (it_replied c.args.self.now c.args.thread.now.branches.numbers c.requires.heard.0 c.requires.heard.1 c.loop-branch.k c.in-Some.branch at c.index.result.now
    (c.index.ensures ∙ ap (λ (s : Seated). slice_index_or s.threads c.in-Some.branch c.index.result.now) c.self.view_is) c.in-Some-index.called c.in-Some-index.is)

pub loop-branch-smaller : goal.loop-branch-smaller
loop-branch-smaller c =
    let at = this_branch c.loop-branch.invariant.at c.active.ensures c.in-Some.is in
    let lt = slice_get_within c.args.thread.now.branches.numbers c.loop-branch.k c.in-Some.branch at in
    omega (arith, lt)

pub loop-branch-init : goal.loop-branch-init
loop-branch-init c = record {
  at = at_first _ _ c.requires.loaded;
  order = λ lt. c.requires.order;
  running = λ e. absurd (omega (arith, e, c.requires.some));
  stands = λ rs xs heard before. before;
}

pub loop-branch-preserved : goal.loop-branch-preserved
loop-branch-preserved c =
    let at = this_branch c.loop-branch.invariant.at c.active.ensures c.in-Some.is in
    let code = ap (λ (s : Seated). s.code) c.self.view_is in
    let count = ap length c.loop-branch.invariant.at.branches in
    record {
      at = at_next c.loop-branch.invariant.at c.active.ensures c.in-Some.is c.join_call.new.self (subst (λ (x : CodeParts). Loaded (plain_code x) c.join_call.new.self) code c.join_call.ensures.loaded) c.join_call.ensures.number c.join_call.ensures.branches;
      order = λ less. c.join_call.ensures.order (omega (arith, less, count));
      running = λ e. c.join_call.ensures.running (e ∙ sym count);
      stands = λ rs xs heard before.
          let r = reply_at c.args.self.now c.args.thread.now.branches.numbers rs heard c.loop-branch.k c.in-Some.branch at in
          let is = its_reply c.args.self.now c.args.thread.now.branches.numbers rs heard c.loop-branch.k c.in-Some.branch at c.index.result.now
          (c.index.ensures ∙ ap (λ (s : Seated). slice_index_or s.threads c.in-Some.branch c.index.result.now) c.self.view_is) c.in-Some-index.called c.in-Some-index.is in
          let old = subst (λ (x : CodeParts). StandsFor (plain_code x) c.loop-branch.thread (with_replies xs rs)) (sym code) (c.loop-branch.invariant.stands rs xs heard before) in
          let new = c.join_call.ensures.stands xs rs r.0 (heard.count ∙ sym count) r.1 (subst (λ (p : Thread). RepliesBy p r.0) (sym c.deref.ensures) is) old in
          subst (λ (x : CodeParts). StandsFor (plain_code x) c.join_call.new.self (with_replies xs rs)) code new;
    }

pub returns-clause-loaded : goal.returns-clause-loaded
returns-clause-loaded c = c.loop-branch.invariant.at.loaded

pub returns-clause-number : goal.returns-clause-number
returns-clause-number c = c.loop-branch.invariant.at.number

pub returns-clause-running : goal.returns-clause-running
returns-clause-running c = c.loop-branch.invariant.running (at_end c.loop-branch.invariant.at c.active.ensures c.in_default.is)
