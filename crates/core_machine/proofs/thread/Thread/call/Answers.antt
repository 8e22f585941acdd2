use Rattle.std.proofs.Common.{◌∙◌, sym, ap, subst, arith, Some, ◌+◌}
use Rattle.thread_code.specs.Plain.{PlainBlock, plain_code}
use Rattle.thread_state.specs.Frames.{called_frames}
use Rattle.thread_state.specs.declared.stack.Resume.{Resume}
use Rattle.core_machine.specs.RunParts.{Calls}
use Rattle.core_machine.proofs.CallRuns.{known, call_args, call_words, call_next, call_frames, call_room, call_goes}
use Rattle.core_machine.proofs.thread.Thread.call.Goals as goal

pub block_at-block-requires-clause-function : goal.block_at-block-requires-clause-function
block_at-block-requires-clause-function c =
    known c.requires.running.0 (plain_code c.args.code.now) c.requires.valid c.args.self.now c.requires.loaded c.requires.running.1 c.args.function c.requires.before

pub overflow_add-resume : goal.overflow_add-resume
overflow_add-resume c =
    let n = call_next c.requires.running.0 (plain_code c.args.code.now) c.requires.valid c.args.self.now c.requires.loaded c.requires.running.1 c.args.function c.requires.before in omega (arith, n)

pub enter-requires-clause-args : goal.enter-requires-clause-args
enter-requires-clause-args c =
    let n = call_args c.requires.running.0 (plain_code c.args.code.now) c.requires.valid c.args.self.now c.requires.loaded c.requires.running.1 c.args.function c.requires.before in
    let e = ap (λ (b : PlainBlock). b.params) c.block_at-block.ensures in
    omega (arith, n, e)

pub enter-requires-clause-words : goal.enter-requires-clause-words
enter-requires-clause-words c =
    let n = call_words c.requires.running.0 (plain_code c.args.code.now) c.requires.valid c.args.self.now c.requires.loaded c.requires.running.1 c.args.function c.requires.before in
    let e = ap (λ (b : PlainBlock). b.params) c.block_at-block.ensures in
    let k = ap (λ (b : PlainBlock). b.words) c.block_at-block.ensures in
    omega (arith, n, e, k)

pub enter-requires-clause-room : goal.enter-requires-clause-room
enter-requires-clause-room c =
    let n = call_room c.requires.running.0 (plain_code c.args.code.now) c.requires.valid c.args.self.now c.requires.loaded c.requires.running.1 c.args.function c.requires.before in
    let e = ap (λ (b : PlainBlock). b.params) c.block_at-block.ensures in
    let k = ap (λ (b : PlainBlock). b.words) c.block_at-block.ensures in
    let x = ap (λ (b : PlainBlock). b.counters) c.block_at-block.ensures in
    omega (arith, n, e, k, x)

pub enter-requires-clause-frames : goal.enter-requires-clause-frames
enter-requires-clause-frames c =
    call_frames c.requires.running.0 (plain_code c.args.code.now) c.requires.valid c.args.self.now c.requires.loaded c.requires.running.1 c.args.function c.requires.before

pub returns : goal.returns
returns c =
    let h = c.args.self.now in
    let resume : Resume = record { at = h.at + 1; block = h.function } in
    let e = c.enter.ensures ∙ ap (λ (b : PlainBlock). called_frames b.params b.words b.counters resume h.stack) c.block_at-block.ensures in
    subst
    (λ s. Calls (plain_code c.args.code.now) h (record { number = h.number; phase = h.phase; function = Some c.args.function; at = 0; stack = s; own = h.own; units = h.units + 1; allowance = h.allowance; branches = h.branches; joining = h.joining })) (sym e)
    (call_goes c.requires.running.0 (plain_code c.args.code.now) c.requires.valid h c.requires.loaded c.requires.running.1 c.args.function c.requires.before)
