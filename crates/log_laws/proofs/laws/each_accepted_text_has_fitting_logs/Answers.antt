use Rattle.log_laws.proofs.laws.each_accepted_text_has_fitting_logs.Goals as goal

pub returns : goal.returns
returns c = λ text counts k judged code valid stands turns log is fit.
    c.logs_fit.ensures code k valid (c.each_accepted_text_is_formed.ensures text counts k judged) stands
    (c.each_accepted_text_has_words.ensures.words text counts k judged) (c.each_accepted_text_has_places.ensures text counts k judged) turns log is fit
