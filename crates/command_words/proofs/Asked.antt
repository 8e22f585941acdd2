-- What words ask for, by whether clap takes them.
use Rattle.std.proofs.Common.{◌≡◌, ◌≢◌, refl, List, Option, None, [], ◌∷◌}
use Rattle.clap.specs.Words.{Kinds, Text}
use Rattle.command_words.specs.CommandLine.{kinds_of, command_values}
use Rattle.command_words.specs.Requests.{PlainRequest, request_of, request_by, unless_refused}

taken : (kinds : Kinds) (r : Option PlainRequest) → kinds ≡ [] → unless_refused kinds r ≡ r
taken [] r e = refl
taken (k ∷ ks) r e = absurd cc

not_taken : (kinds : Kinds) (r : Option PlainRequest) → kinds ≢ [] → unless_refused kinds r ≡ None
not_taken [] r h = absurd (h refl)
not_taken (k ∷ ks) r h = refl

pub asked : (words : List Text) → kinds_of words ≡ [] → request_of words ≡ request_by (command_values words)
unfolding request_of
asked words e = taken (kinds_of words) _ e

pub refused : (words : List Text) → kinds_of words ≢ [] → request_of words ≡ None
unfolding request_of
refused words h = not_taken (kinds_of words) _ h
