use Rattle.std.proofs.Common.{◌+◌, take, drop, get_or, ◌∙◌, arith}
use Rattle.exchange_meaning.specs.LogLines.{marked_numbers}
use Rattle.exchange_log.specs.Lines.{unset, marked_number}
use Rattle.exchange_log.proofs.LineLemmas.{step_on, copies_step, copies_end}
use Rattle.exchange_log.proofs.lines.put_copies.Goals as goal

pub loop-i-preserved : goal.loop-i-preserved
loop-i-preserved c =
    let ns = c.args.copies.now in
    let i = c.loop-i.i in
    let inv = c.loop-i.invariant in
    let call = c.put_marked-end in
    record {
      room = omega (arith, inv.room, call.ensures.within);
      same_length = call.ensures.same_length ∙ inv.same_length;
      text = step_on (take c.loop-i.end c.loop-i.buffer) (marked_number (get_or ns i unset)) (marked_numbers (drop (i + 1) ns)) (take call.result call.new.buffer) _ (marked_numbers (drop i ns)) call.ensures.front
          (copies_step ns i (omega arith)) inv.text;
    }

pub returns-clause-front : goal.returns-clause-front
returns-clause-front c = copies_end c.args.copies.now c.loop-i.i (take c.loop-i.end c.loop-i.buffer) _ (omega arith) c.loop-i.invariant.text
