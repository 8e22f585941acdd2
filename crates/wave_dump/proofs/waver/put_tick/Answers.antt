use Rattle.std.proofs.Common.{rules, ◌≡◌, ◌<◌, ◌≤◌, ◌+◌, ◌++◌, length, take, drop, pos, get_or, ap, ◌∙◌, arith}
use Rattle.wave_dump.specs.Wave.{change_line, change_lines, tick_text}
use Rattle.wave_dump.specs.Writing.{value_before, values_before}
use Rattle.wave_dump.proofs.WritingLemmas.{step_on, changes_step, changes_end}
use Rattle.wave_dump.proofs.waver.put_tick.Goals as goal

pub loop-k-init : goal.loop-k-init
loop-k-init c =
    record {
      room = search rules;
      same_length = search rules;
      text = ap (λ x. x ++ change_lines 0 (values_before c.args.first c.args.last.now) c.args.values.now) c.put_number-at.ensures.front;
    }

pub loop-k-preserved : goal.loop-k-preserved
loop-k-preserved c =
    let first = c.args.first in
    let last = c.args.last.now in
    let values = c.args.values.now in
    let k = c.loop-k.k in
    let at = c.loop-k.at in
    let inv = c.loop-k.invariant in
    let one = change_line k (value_before first (get_or last k (pos 0))) (get_or values k (pos 0)) in
    let rest = change_lines (k + 1) (values_before first (drop (k + 1) last)) (drop (k + 1) values) in
    let left = change_lines k (values_before first (drop k last)) (drop k values) in
    record {
      room = omega (arith, inv.room, c.put_change-at.ensures.within);
      same_length = c.put_change-at.ensures.same_length ∙ inv.same_length;
      text = step_on (take at c.loop-k.buffer) one rest (take c.put_change-at.result c.put_change-at.new.buffer) (tick_text c.args.tick (values_before first last) values) left
          c.put_change-at.ensures.front (changes_step first last values k (pos 0) (omega arith) (omega arith)) inv.text;
    }

pub returns-clause-lines : goal.returns-clause-lines
returns-clause-lines c =
    let first = c.args.first in
    let last = c.args.last.now in
    let values = c.args.values.now in
    changes_end first last values c.loop-k.k (take c.loop-k.at c.loop-k.buffer) (tick_text c.args.tick (values_before first last) values) (omega arith) c.loop-k.invariant.text
