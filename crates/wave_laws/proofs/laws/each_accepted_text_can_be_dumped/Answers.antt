use Rattle.wave_laws.proofs.laws.each_accepted_text_can_be_dumped.Goals as goal

pub returns : goal.returns
returns c = λ text counts k judged.
    let outputs = c.each_accepted_text_has_names.ensures.safe text counts k judged in
    record { words = c.each_accepted_text_has_words.ensures.words text counts k judged; names = outputs.1; few = outputs.0 }
