use Rattle.text_verdict.proofs.PacedVerdicts.{accepted_texts_have_names, accepted_texts_have_plain_names, accepted_texts_have_safe_outputs}
use Rattle.text_verdict.proofs.laws.each_accepted_text_has_names.Goals as goal

pub returns : goal.returns
returns c = record { named = accepted_texts_have_names; plain = accepted_texts_have_plain_names; safe = accepted_texts_have_safe_outputs }
