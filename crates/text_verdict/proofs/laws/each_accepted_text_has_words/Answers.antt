use Rattle.text_verdict.proofs.PacedVerdicts.{accepted_texts_have_words, accepted_texts_give_words}
use Rattle.text_verdict.proofs.laws.each_accepted_text_has_words.Goals as goal

pub returns : goal.returns
returns c = record { words = accepted_texts_have_words; outputs = accepted_texts_give_words }
