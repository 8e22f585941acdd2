use Rattle.text_ranges.proofs.Whole.{spelled_programs_have_words, spelled_runs_fit}
use Rattle.text_ranges.proofs.laws.spelled_programs_have_words.Goals as goal

pub returns : goal.returns
returns c = record { words = spelled_programs_have_words; runs = spelled_runs_fit }
