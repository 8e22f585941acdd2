use Rattle.std.proofs.Common.{append_assoc}
use Rattle.thread_places.specs.Lines.{thread_line}
use Rattle.thread_places.proofs.listing.add_row.Goals as goal

pub returns : goal.returns
unfolding thread_line
returns c =
    rw (
      c.in_ok-add-6.ensures,
      c.in_ok-add_number-3.ensures,
      c.in_ok-add-5.ensures,
      c.in_ok-add_number-2.ensures,
      c.in_ok-add-4.ensures,
      c.in_ok-add_name.ensures,
      c.in_ok-add-3.ensures,
      c.in_ok-add_parent.ensures,
      c.in_ok-add-2.ensures,
      c.in_ok-add_number.ensures,
      c.in_ok-add.ensures,
      c.from.ensures,
      c.from-2.ensures,
    )
    (simp append_assoc)
