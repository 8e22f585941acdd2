use Rattle.std.proofs.Common.{false, ◌≡◌, ◌∙◌, sym, ap, subst, arith, length, None, List, ℤ}
use Rattle.forec_kernel.specs.declared.shape.VarCopy.{VarCopy}
use Rattle.thread_code.specs.Plain.{PlainBlock, plain_code}
use Rattle.thread_code.specs.Alone.{block_of}
use Rattle.thread_state.specs.Frames.{Frames, started_frames}
use Rattle.thread_state.specs.Kept.{PlainOwn, begun_own}
use Rattle.core_machine.specs.declared.thread.Thread.{Thread}
use Rattle.core_machine.specs.declared.thread.Phase.TheVariants as phase
use Rattle.core_machine.specs.RunParts.{Begun, started_anew}
use Rattle.combine_tree.specs.Plain.{plain_packet}
use Rattle.core_machine.proofs.Jobs.{start_args, start_begun}
use Rattle.core_machine.proofs.thread.Thread.start.Goals as goal

pub restart-requires-clause-args : goal.restart-requires-clause-args
restart-requires-clause-args c =
    let n = start_args (plain_code c.args.code.now) c.requires.valid c.args.self.now c.requires.loaded (plain_packet c.args.packet.now) c.requires.room in
    let w = ap (λ (b : PlainBlock). b.words) c.block_at-block.ensures in
    let l = ap (λ (xs : List ℤ). length xs) c.deref.ensures.value in
    omega (arith, n, w, l)

pub returns : goal.returns
returns c =
    let code = plain_code c.args.code.now in
    let h = c.args.self.now in
    let p = c.args.packet.now in
    let b = block_of code h.number in
    let make : Frames → PlainOwn → Thread = λ f k. record { number = h.number; phase = phase.Running false; function = None; at = 0; stack = f; own = k; units = 0; allowance = p.allowance; branches = h.branches; joining = h.joining } in
    let f : c.restart.new.self ≡ started_frames p.args.items b.words b.counters h.stack.room h.stack.most =
    c.restart.ensures ∙ ap (λ (b : PlainBlock). started_frames c.deref.result.now b.words b.counters h.stack.room h.stack.most) c.block_at-block.ensures
    ∙ ap (λ (xs : List ℤ). started_frames xs b.words b.counters h.stack.room h.stack.most) c.deref.ensures.value in
    let k : c.restart-2.new.self ≡ begun_own p.copies.items h.own = c.restart-2.ensures ∙ ap (λ (xs : List VarCopy). begun_own xs h.own) c.deref-2.ensures.value in
    subst (λ f. Begun code h (make f c.restart-2.new.self) (started_anew code h p) p.allowance) (sym f)
    (subst (λ k. Begun code h (make (started_frames p.args.items b.words b.counters h.stack.room h.stack.most) k) (started_anew code h p) p.allowance) (sym k)
    (start_begun code c.requires.valid h c.requires.loaded (plain_packet p) c.requires.room c.requires.small))
