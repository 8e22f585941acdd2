use Rattle.std.proofs.Common.{false, ◌≡◌, ◌∙◌, ◌-◌, sym, ap, subst, arith, length, drop, None, Some}
use Rattle.forec_kernel.specs.Texts.{params_in}
use Rattle.forec_kernel.specs.Packets.{PlainPacket}
use Rattle.forec_kernel.specs.Packed.{HasRoom}
use Rattle.thread_code.specs.Plain.{PlainBlock, plain_code}
use Rattle.thread_code.specs.Valid.{of_shape, arguments_of}
use Rattle.thread_code.specs.Alone.{block_of}
use Rattle.thread_state.specs.Frames.{Frames, started_frames, args_from}
use Rattle.thread_state.specs.Kept.{PlainOwn, handed_by, begun_own}
use Rattle.thread_state.specs.Pars.{Links, arguments_from}
use Rattle.thread_state.proofs.Links.{fork_arguments}
use Rattle.core_machine.specs.declared.thread.Thread.{Thread}
use Rattle.core_machine.specs.declared.thread.Phase.TheVariants as phase
use Rattle.core_machine.specs.Forks.{branch_at}
use Rattle.core_machine.specs.RunParts.{Begun, started_by}
use Rattle.core_machine.specs.Direct.{start_packet}
use Rattle.core_machine.proofs.Args.{sum_within, sum_parts, args_behind}
use Rattle.core_machine.proofs.Direct.{start_room_is}
use Rattle.core_machine.proofs.Jobs.{is_block, start_args, start_begun}
use Rattle.core_machine.proofs.Seeds.{fork_numbers, numbers_room, branch_uses, branch_places, branch_copies}
use Rattle.core_machine.proofs.thread.Thread.start_branch.Goals.{Start, After-arguments_from-count}
use Rattle.core_machine.proofs.thread.Thread.start_branch.Goals as goal

pub arguments_from-count-requires : goal.arguments_from-count-requires
arguments_from-count-requires c =
    let h = c.args.self.now in
    let code = plain_code c.args.code.now in
    let j = c.requires.fresh in
    let f = fork_arguments code.shape h.own.pars c.requires.loaded.serves.pars h.branches.numbers j.0 (fork_numbers code h c.requires.loaded c.requires.fork j.0 j.1 j.2) c.args.k c.requires.index in
    let n = ap (λ (p : Links). length p.siblings) c.pars.ensures in
    omega (arith, f.0, n, c.at-number.ensures)

-- how many arguments lie there
count : (c : After-arguments_from-count) → c.arguments_from-count.result ≡ arguments_of (plain_code c.args.code.now).shape (drop c.args.k c.args.self.now.branches.numbers)
count c =
    let h = c.args.self.now in
    let code = plain_code c.args.code.now in
    let j = c.requires.fresh in
    let f = fork_arguments code.shape h.own.pars c.requires.loaded.serves.pars h.branches.numbers j.0 (fork_numbers code h c.requires.loaded c.requires.fork j.0 j.1 j.2) c.args.k c.requires.index in
    c.arguments_from-count.ensures ∙ ap (λ (p : Links). arguments_from p.siblings (Some c.at-number.result)) c.pars.ensures ∙ ap (λ b. arguments_from h.own.pars.siblings (Some b)) c.at-number.ensures ∙ f.1

-- the job that the branch is given
module _ (c : Start) where
  abbrev p : PlainPacket
  p = start_packet (plain_code c.args.code.now) c.args.self.now c.args.k

  room : HasRoom (of_shape (plain_code c.args.code.now).shape) c.args.branch.now.number p
  room = start_room_is (plain_code c.args.code.now) c.args.self.now c.requires.loaded c.requires.fork c.args.k c.requires.index c.args.branch.now.number c.requires.number

  abbrev block : PlainBlock
  block = block_of (plain_code c.args.code.now) c.args.branch.now.number

  params : block.params ≡ params_in (plain_code c.args.code.now).shape.threads c.args.branch.now.number
  params = (is_block (plain_code c.args.code.now) c.requires.valid c.args.branch.now c.requires.branch p room).same

pub restart_from-requires-clause-args : goal.restart_from-requires-clause-args
restart_from-requires-clause-args c =
    let s = (goal.at.restart_from-requires-clause-args c).Start in
    let n = start_args (plain_code c.args.code.now) c.requires.valid c.args.branch.now c.requires.branch (p s) (room s) in
    let w = ap (λ (b : PlainBlock). b.words) c.block_at-block.ensures in
    let q = ap (λ (b : PlainBlock). b.params) c.block_at-block.ensures in
    let r = room s in
    omega (arith, n, w, q, params s, r.args)

pub restart_from-requires-clause-within : goal.restart_from-requires-clause-within
restart_from-requires-clause-within c =
    let at = goal.at.restart_from-requires-clause-within c in
    let s = (plain_code c.args.code.now).shape in
    let bs = c.args.self.now.branches.numbers in
    let q = ap (λ (b : PlainBlock). b.params) c.block_at-block.ensures in
    let n = ap (λ b. params_in s.threads b) c.requires.number in
    omega (arith, count at.After-arguments_from-count, q, params at.Start, n, sum_within s bs c.args.k c.requires.index, sum_parts s bs c.args.k)

pub restart_from-requires-clause-stack : goal.restart_from-requires-clause-stack
restart_from-requires-clause-stack c =
    let n = count (goal.at.restart_from-requires-clause-stack c).After-arguments_from-count in
    let code = plain_code c.args.code.now in
    let h = c.args.self.now in
    let j = c.requires.fresh in
    omega (arith, n, numbers_room code h c.requires.loaded c.requires.fork j.0 j.1 j.2, sum_parts code.shape h.branches.numbers c.args.k)

pub restart_from-requires-2-clause-places : goal.restart_from-requires-2-clause-places
restart_from-requires-2-clause-places c = branch_places (plain_code c.args.code.now) c.args.self.now c.requires.loaded c.requires.fork c.args.k c.requires.index c.at-number.result c.at-number.ensures

pub restart_from-requires-2-clause-room : goal.restart_from-requires-2-clause-room
restart_from-requires-2-clause-room c = branch_copies (plain_code c.args.code.now) c.args.self.now c.requires.loaded c.requires.fork c.args.k c.requires.index c.at-number.result c.at-number.ensures c.args.branch.now c.requires.branch c.requires.number

pub returns : goal.returns
returns c =
    let at = goal.at.returns c in
    let code = plain_code c.args.code.now in
    let s = code.shape in
    let h = c.args.self.now in
    let b = c.args.branch.now in
    let k = c.args.k in
    let bs = h.branches.numbers in
    let blk = block_of code b.number in
    let stack = h.stack.stack in
    let p = start_packet code h k in
    let number : blk.params ≡ params_in s.threads (branch_at h k) = params at.Start ∙ ap (params_in s.threads) c.requires.number in
    let args : args_from c.arguments_from-count.result 0 blk.params stack ≡ p.args =
    ap (λ m. args_from m 0 blk.params stack) (count at.After-arguments_from-count) ∙ ap (λ n. args_from (arguments_of s (drop k bs)) 0 n stack) number ∙ sym (args_behind s bs k (params_in s.threads (branch_at h k)) stack) in
    let used = branch_uses code h c.requires.loaded c.requires.fork k c.requires.index c.at-number.result c.at-number.ensures in
    let make : Frames → PlainOwn → Thread = λ f k. record { number = b.number; phase = phase.Running false; function = None; at = 0; stack = f; own = k; units = 0; allowance = h.allowance - h.units; branches = b.branches; joining = b.joining } in
    let fr : c.restart_from.new.self ≡ started_frames p.args blk.words blk.counters b.stack.room b.stack.most =
    c.restart_from.ensures ∙ ap (λ (b' : PlainBlock). started_frames (args_from c.arguments_from-count.result 0 b'.params stack) b'.words b'.counters b.stack.room b.stack.most) c.block_at-block.ensures
    ∙ ap (λ xs. started_frames xs blk.words blk.counters b.stack.room b.stack.most) args in
    let kept : c.restart_from-2.new.self ≡ begun_own p.copies b.own = c.restart_from-2.ensures ∙ ap (λ vs. begun_own (handed_by h.own vs) b.own) used in
    let small = c.requires.loaded.small in
    subst (λ f. Begun code b (make f c.restart_from-2.new.self) (started_by code b p) (h.allowance - h.units)) (sym fr)
    (subst (λ k. Begun code b (make (started_frames p.args blk.words blk.counters b.stack.room b.stack.most) k) (started_by code b p) (h.allowance - h.units)) (sym kept)
    (start_begun code c.requires.valid b c.requires.branch p (room at.Start) (omega (arith, small))))
