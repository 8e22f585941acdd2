-- What a reader of rows shows.
use Rattle.trace_rows.specs.declared.rows.Rows.TheInside.{Inside}
use Rattle.trace_rows.specs.Held.{held}
use Rattle.trace_rows.specs.Reader.{Reader}
use Rattle.trace_rows.specs.RowForms.{shown_form}

abbrev pub reader_of : Inside → Reader
reader_of a =
    record {
      held = held a.lines;
      ended = a.lines.ended;
      form = shown_form a.form;
      limit = a.limit;
      given = a.given;
      live = a.live;
    }
