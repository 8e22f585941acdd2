-- How a reader of rows reads the next one.
use Rattle.std.specs.Prelude.{Bool, true, false, ℕ, ℤ, List}
use Rattle.trace_rows.specs.declared.form.RowForm.{RowForm}
use Rattle.trace_rows.specs.Trace.{Form, InOrder, Changes}

abbrev pub form_with : List (List ℕ) → List ℕ → List ℤ → Bool → Form
form_with names places values false = InOrder places
form_with names places values true = Changes names values

abbrev pub shown_form : RowForm → Form
shown_form f = form_with f.names.texts f.places.items f.values.items f.changes
