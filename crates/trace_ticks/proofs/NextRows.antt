-- What is found where the next row stands.
use Rattle.std.proofs.Common.{◌≡◌, ◌≢◌, ℕ, ◌+◌, ◌<◌, true, false, List, Option, Some, Result, Ok, Err, refl}
use Rattle.trace_rows.specs.Calls.{IfTold}
use Rattle.trace_rows.specs.Reader.{Reader, Takes, NextTakes, NextSays, NextLeaves, trace_ahead}
use Rattle.trace_rows.specs.Trace.{Row, next_form, row_at, row_width, stop, onto}
use Rattle.trace_rows.specs.declared.fault.Next.{Next}
use Rattle.trace_rows.specs.declared.fault.Next.TheVariants as next
use Rattle.trace_rows.specs.declared.fault.RowFault.{RowFault}
use Rattle.trace_rows.specs.declared.fault.RowFault.TheVariants as fault

-- the next line was a row, and gave these values
pub record Gave (old new : Reader) (left_old left_new : Option (List ℕ)) (row : Row) : Type 0 where
  pub line : List ℕ
  pub is : row_at old.limit old.form (old.given + 1) line ≡ Ok row
  pub takes : Takes line old.held new.held new.ended left_old left_new
  pub stays : new.ended ≡ false → old.ended ≡ false
  pub trace : IfTold left_old left_new (λ x y. trace_ahead old x ≡ onto (Ok row) (old.given + 1) (trace_ahead new y))
  pub within : old.given < old.limit
  pub count : new.given ≡ old.given + 1
  pub most : new.limit ≡ old.limit
  pub live : new.live ≡ true
  pub form : new.form ≡ next_form old.form row
  pub width : row_width new.form ≡ row_width old.form

-- what a call says that gave it
pub gave_row : (old new : Reader) (row : Row) (a b : Option (List ℕ)) → NextTakes old new row a b (Ok next.Row) → IfTold a b (NextSays old new row (Ok next.Row)) → NextLeaves old new row row (Ok next.Row) →
    new.limit ≡ old.limit → (new.ended ≡ false → old.ended ≡ false) → Gave old new a b row
gave_row old new row a b takes says leaves same stays = record {
  line = takes.0;
  is = takes.1;
  takes = takes.2;
  stays = stays;
  trace = says;
  within = leaves.0;
  count = leaves.1;
  most = same;
  live = leaves.2;
  form = leaves.3;
  width = leaves.4;
}

-- what stands next is no row
pub stops_there : (old new : Reader) (row : Row) (a b : Option (List ℕ)) (f : RowFault) → IfTold a b (NextSays old new row (Err f)) → f ≢ fault.ReadFault → ◌≢◌ {A = Result Next RowFault} (Err f) (Err fault.OutOfMemory) →
    IfTold a b (λ x y. trace_ahead old x ≡ stop (Some f) (old.given + 1))
stops_there old new row a b fault.Bad says read memory = says
stops_there old new row a b fault.Long says read memory = says
stops_there old new row a b fault.Many says read memory = says
stops_there old new row a b fault.ReadFault says read memory = absurd (read refl)
stops_there old new row a b fault.OutOfMemory says read memory = absurd (memory refl)
