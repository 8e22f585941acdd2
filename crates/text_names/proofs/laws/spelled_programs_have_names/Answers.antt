use Rattle.text_names.proofs.Whole.{spelled_programs_have_names, spelled_variables_are_named, spelled_outputs_are_safe}
use Rattle.text_names.proofs.laws.spelled_programs_have_names.Goals as goal

pub returns : goal.returns
returns c = record { plain = spelled_programs_have_names; named = spelled_variables_are_named; safe = spelled_outputs_are_safe }
