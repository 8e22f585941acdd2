use Rattle.std.proofs.Common.{◌≡◌, Some, length, slice_get, sym, ap, ◌∙◌, subst, arith}
use Rattle.std.proofs.lemmas.Option.{slice_get_within, get_or_from_slice_get}
use Rattle.thread_code.specs.declared.instruction.CodeParts.{CodeParts}
use Rattle.thread_code.specs.Plain.{plain_code}
use Rattle.combine_tree.specs.Plain.{plain_packet}
use Rattle.core_machine.specs.Threads.{Loaded, StandsFor}
use Rattle.core_machine.specs.Forks.{with_replies, branch_at}
use Rattle.forec_kernel.specs.Packed.{HasRoom}
use Rattle.thread_code.specs.Valid.{of_shape}
use Rattle.tick_jobs.proofs.BranchLoops.{at_first, this_branch, at_next, at_end}
use Rattle.core_seats.specs.Keeping.{SchedulerState, code_in}
use Rattle.core_seats.proofs.Hearing.{reply_at, in_hand, some_branch, reply_is, reply_room}
use Rattle.core_seats.proofs.scheduler.Scheduler.join.Given.{Over}
use Rattle.core_seats.proofs.scheduler.Scheduler.join.Goals.{In-Some}
use Rattle.core_seats.proofs.scheduler.Scheduler.join.Goals as goal

-- the branch at work
its_number : (g : Over) (c : In-Some g) → slice_get c.args.thread.now.branches.numbers c.loop-branch.k ≡ Some c.in-Some.branch
its_number g c = this_branch c.loop-branch.invariant.at c.active.ensures c.in-Some.is

pub reply_of-packet-requires-clause-some : goal.reply_of-packet-requires-clause-some
reply_of-packet-requires-clause-some g c = some_branch c.requires.heard.1 c.loop-branch.k c.in-Some.branch (its_number g (goal.at.reply_of-packet-requires-clause-some g c).In-Some)

pub reply_of-packet-requires-clause-there : goal.reply_of-packet-requires-clause-there
reply_of-packet-requires-clause-there g c = in_hand c.requires.heard.1 c.loop-branch.k c.in-Some.branch (its_number g (goal.at.reply_of-packet-requires-clause-there g c).In-Some)

pub joined-requires-clause-order : goal.joined-requires-clause-order
joined-requires-clause-order g c =
    c.loop-branch.invariant.order (slice_get_within c.args.thread.now.branches.numbers c.loop-branch.k c.in-Some.branch (its_number g (goal.at.joined-requires-clause-order g c).In-Some))

pub joined-requires-clause-branch : goal.joined-requires-clause-branch
joined-requires-clause-branch g c = slice_get_within c.loop-branch.thread.branches.numbers c.loop-branch.k c.in-Some.branch (sym c.active.ensures ∙ c.in-Some.is)

pub joined-requires-clause-room : goal.joined-requires-clause-room
joined-requires-clause-room g c =
    let at = its_number g (goal.at.joined-requires-clause-room g c).In-Some in
    let code = ap (λ (s : SchedulerState). s.code) c.self.view_is in
    let room = reply_room c.requires.heard.1 c.loop-branch.k c.in-Some.branch at c.reply_of-packet.ensures in
    let branch = get_or_from_slice_get c.loop-branch.thread.branches.numbers c.loop-branch.k c.in-Some.branch 0 (sym c.active.ensures ∙ c.in-Some.is) in
    subst (λ (x : CodeParts). HasRoom (of_shape (plain_code x).shape) (branch_at c.loop-branch.thread c.loop-branch.k) (plain_packet c.reply_of-packet.result.now)) (sym code)
    (subst (λ t. HasRoom (of_shape (code_in c.args.self.now).shape) t (plain_packet c.reply_of-packet.result.now)) (sym branch) room)

pub loop-branch-smaller : goal.loop-branch-smaller
loop-branch-smaller g c =
    let lt = slice_get_within c.args.thread.now.branches.numbers c.loop-branch.k c.in-Some.branch (its_number g (goal.at.loop-branch-smaller g c).In-Some) in omega (arith, lt)

pub loop-branch-init : goal.loop-branch-init
loop-branch-init g c = record {
  at = at_first _ _ c.requires.loaded;
  order = λ lt. c.requires.order;
  running = λ e. absurd (omega (arith, e, c.requires.some));
  stands = λ rs xs heard before. before;
}

pub loop-branch-preserved : goal.loop-branch-preserved
loop-branch-preserved g c =
    let i = c.loop-branch.invariant in
    let at = its_number g (goal.at.loop-branch-preserved g c).In-Some in
    let code = ap (λ (s : SchedulerState). s.code) c.self.view_is in
    let count = ap length i.at.branches in
    record {
      at = at_next i.at c.active.ensures c.in-Some.is c.joined.new.self (subst (λ (x : CodeParts). Loaded (plain_code x) c.joined.new.self) code c.joined.ensures.loaded) c.joined.ensures.number c.joined.ensures.branches;
      order = λ less. c.joined.ensures.order (omega (arith, less, count));
      running = λ e. c.joined.ensures.running (e ∙ sym count);
      stands = λ rs xs heard before.
          let r = reply_at heard c.loop-branch.k c.in-Some.branch at in
          let old = subst (λ (x : CodeParts). StandsFor (plain_code x) c.loop-branch.thread (with_replies xs rs)) (sym code) (i.stands rs xs heard before) in
          let new = c.joined.ensures.stands xs rs r.0 (heard.count ∙ sym count) r.1 (reply_is heard c.loop-branch.k c.in-Some.branch at c.reply_of-packet.ensures) old in
          subst (λ (x : CodeParts). StandsFor (plain_code x) c.joined.new.self (with_replies xs rs)) code new;
    }

pub returns-clause-loaded : goal.returns-clause-loaded
returns-clause-loaded g c = c.loop-branch.invariant.at.loaded

pub returns-clause-number : goal.returns-clause-number
returns-clause-number g c = c.loop-branch.invariant.at.number

pub returns-clause-running : goal.returns-clause-running
returns-clause-running g c = c.loop-branch.invariant.running (at_end c.loop-branch.invariant.at c.active.ensures c.in_default.is)
