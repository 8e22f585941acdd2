use Rattle.std.proofs.Common.{◌+◌, ◌++◌, take, drop, get_or, codes, ◌∙◌, arith}
use Rattle.std.specs.Fmt.{signed_decimal}
use Rattle.forec_kernel.specs.Solo.{values_in}
use Rattle.exchange_meaning.specs.LogLines.{spaced_numbers}
use Rattle.exchange_log.specs.Lines.{unset}
use Rattle.exchange_log.proofs.LineLemmas.{step_on, values_step, values_end}
use Rattle.exchange_log.proofs.lines.put_values.Goals as goal

pub loop-i-preserved : goal.loop-i-preserved
loop-i-preserved c =
    let ns = c.args.copies.now in
    let i = c.loop-i.i in
    let inv = c.loop-i.invariant in
    let call = c.put_copied-end in
    record {
      room = omega (arith, inv.room, call.ensures.within);
      same_length = call.ensures.same_length ∙ inv.same_length;
      text = step_on (take c.loop-i.end c.loop-i.buffer) (codes " " ++ signed_decimal (get_or ns i unset).value) (spaced_numbers (values_in (drop (i + 1) ns))) (take call.result call.new.buffer) _ (spaced_numbers (values_in (drop i ns))) call.ensures.front
          (values_step ns i (omega arith)) inv.text;
    }

pub returns-clause-front : goal.returns-clause-front
returns-clause-front c = values_end c.args.copies.now c.loop-i.i (take c.loop-i.end c.loop-i.buffer) _ (omega arith) c.loop-i.invariant.text
