use Rattle.std.proofs.Common.{rules, ◌≡◌, true, length}
use Rattle.trace_rows.specs.Trace.{row_width}
use Rattle.forec_rows.proofs.rows.read.Goals as goal

pub rows-preserved : goal.rows-preserved
rows-preserved c =
    let live : c.next-last.new.self.live ≡ true = search rules in
    let width : length c.next-last.new.row ≡ row_width c.next-last.new.self.form = search rules in
    record { live = live; width = width; ended = λ e. search (rules, c.next-last.ensures.ended e) }
