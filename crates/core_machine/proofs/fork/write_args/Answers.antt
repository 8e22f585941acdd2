use Rattle.std.proofs.Common.{rules, ◌≡◌, ◌+◌, ◌-◌, ◌∙◌, sym, ap, arith, length, length-set, pos, w32, to_z, of_z}
use Rattle.forec_kernel.specs.Values.{word}
use Rattle.thread_state.specs.Frames.{args_from}
use Rattle.thread_state.proofs.FrameLemmas.{args_read, length_args}
use Rattle.thread_state.proofs.Lists.{front_next, all_front}
use Rattle.core_machine.proofs.fork.write_args.Goals as goal

pub loop-i-preserved : goal.loop-i-preserved
loop-i-preserved c =
    let n = length c.args.args.now in
    let ys = args_from c.args.count 0 n c.args.stack.now.stack in
    let i = c.loop-i.i in
    let value : to_z w32 (of_z w32 c.below_top.result) ≡ c.below_top.result = search rules in
    let l = length_args c.args.count 0 n c.args.stack.now.stack in
    let z : c.loop-i.i ≡ 0 + c.loop-i.i = omega arith in
    let is = value ∙ c.below_top.ensures ∙ ap (λ i. word c.args.stack.now.stack (c.args.count - 1 - i)) z ∙ sym (args_read c.args.count 0 n c.args.stack.now.stack i (omega (arith, c.loop-i.invariant.long))) in
    record {
      long = length-set _ _ _ ∙ c.loop-i.invariant.long;
      front = front_next c.loop-i.args ys i _ (pos 0) (omega arith) (omega (arith, l, c.loop-i.invariant.long)) is c.loop-i.invariant.front;
    }

pub returns : goal.returns
returns c =
    let n = length c.args.args.now in
    let l = length_args c.args.count 0 n c.args.stack.now.stack in
    all_front c.loop-i.args (args_from c.args.count 0 n c.args.stack.now.stack) c.loop-i.i (omega arith) (omega (arith, l, c.loop-i.invariant.long)) c.loop-i.invariant.front
