use Rattle.std.proofs.Common.{◌≡◌, Some, length, refl, sym, ap, ◌∙◌, subst, arith}
use Rattle.std.specs.Prelude.{slice_get}
use Rattle.std.proofs.lemmas.Option.{slice_get_within, get_or_from_slice_get}
use Rattle.forec_kernel.specs.Packed.{HasRoom}
use Rattle.thread_code.specs.Plain.{plain_code}
use Rattle.thread_code.specs.Valid.{of_shape}
use Rattle.combine_tree.specs.Plain.{plain_packet}
use Rattle.tick_jobs.proofs.BranchLoops.{at_first, this_branch, at_next, at_end}
use Rattle.exchange_replay.proofs.HeardLemmas.{reply_at, heard_at, track_at, its_reply, its_room}
use Rattle.exchange_replay.proofs.walk.Walk.join.Goals.{In-Some, After-deref}
use Rattle.exchange_replay.proofs.walk.Walk.join.Goals as goal

-- the branch at work
its_number : (c : In-Some) → slice_get c.args.self.now.thread.branches.numbers c.loop-branch.k ≡ Some c.in-Some.branch
its_number c = this_branch c.loop-branch.invariant.at c.active.ensures c.in-Some.is

tracks : (c : After-deref) → c.deref.result.now ≡ c.args.self.now.branches.items
tracks c = c.deref.ensures.value ∙ ap (λ v. v.items) c.loop-branch.invariant.tracks

pub joined-requires-clause-order : goal.joined-requires-clause-order
joined-requires-clause-order c =
    c.loop-branch.invariant.order (slice_get_within c.args.self.now.thread.branches.numbers c.loop-branch.k c.in-Some.branch (its_number (goal.at.joined-requires-clause-order c).In-Some))

pub joined-requires-clause-branch : goal.joined-requires-clause-branch
joined-requires-clause-branch c = slice_get_within c.loop-branch.self.thread.branches.numbers c.loop-branch.k c.in-Some.branch (sym c.active.ensures ∙ c.in-Some.is)

pub joined-requires-clause-room : goal.joined-requires-clause-room
joined-requires-clause-room c =
    let at = goal.at.joined-requires-clause-room c in
    let room = its_room c.requires.replies.1 c.loop-branch.k c.in-Some.branch (its_number at.In-Some) (tracks at.After-deref) c.logged_reply-packet.ensures in
    subst (λ n. HasRoom (of_shape (plain_code c.args.code.now).shape) n (plain_packet c.logged_reply-packet.result.now)) (sym (get_or_from_slice_get c.loop-branch.self.thread.branches.numbers c.loop-branch.k c.in-Some.branch 0 (sym c.active.ensures ∙ c.in-Some.is))) room

pub logged_reply-packet-requires : goal.logged_reply-packet-requires
logged_reply-packet-requires c =
    let at = goal.at.logged_reply-packet-requires c in
    let heard = c.requires.replies.1 in
    ((heard_at heard c.loop-branch.k c.in-Some.branch (its_number at.In-Some)).track, track_at heard c.loop-branch.k c.in-Some.branch (its_number at.In-Some) (tracks at.After-deref))

pub loop-branch-init : goal.loop-branch-init
loop-branch-init c = record {
  at = at_first _ _ c.requires.loaded;
  tracks = refl;
  order = λ lt. c.requires.order;
  running = λ e. absurd (omega (arith, e, c.requires.some));
  stands = λ rs xs heard before. before;
}

pub loop-branch-smaller : goal.loop-branch-smaller
loop-branch-smaller c =
    let lt = slice_get_within c.args.self.now.thread.branches.numbers c.loop-branch.k c.in-Some.branch (its_number (goal.at.loop-branch-smaller c).In-Some) in omega (arith, lt)

pub loop-branch-preserved : goal.loop-branch-preserved
loop-branch-preserved c =
    let i = c.loop-branch.invariant in
    let at = goal.at.loop-branch-preserved c in
    let number = its_number at.In-Some in
    let count = ap length i.at.branches in
    record {
      at = at_next i.at c.active.ensures c.in-Some.is c.joined.new.self c.joined.ensures.loaded c.joined.ensures.number c.joined.ensures.branches;
      tracks = i.tracks;
      order = λ less. c.joined.ensures.order (omega (arith, less, count));
      running = λ e. c.joined.ensures.running (e ∙ sym count);
      stands = λ rs xs heard before.
          let r = reply_at heard c.loop-branch.k c.in-Some.branch number in
          let is = its_reply heard c.loop-branch.k c.in-Some.branch number (tracks at.After-deref) c.logged_reply-packet.ensures in
          c.joined.ensures.stands xs rs r.0 (heard.count ∙ sym count) r.1 is (i.stands rs xs heard before);
    }

pub returns-clause-running : goal.returns-clause-running
returns-clause-running c = c.loop-branch.invariant.running (at_end c.loop-branch.invariant.at c.active.ensures c.in_default.is)

pub returns-clause-loaded : goal.returns-clause-loaded
returns-clause-loaded c = c.loop-branch.invariant.at.loaded

pub returns-clause-number : goal.returns-clause-number
returns-clause-number c = c.loop-branch.invariant.at.number
