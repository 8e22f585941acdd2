-- Each answer comes wherever its cause is.
use Rattle.std.proofs.Common.{◌≡◌, ◌≢◌, ℕ, ◌≤◌, List, length, Result, Ok, Err, IfOk, IfErr, refl, ap}
use Rattle.std.specs.Prelude.{IsOkAnd}
use Rattle.std.specs.List.{All}
use Rattle.std.proofs.lemmas.List.Elements.{All-weaker}
use Rattle.std.proofs.lemmas.Option.{slice_get_within}
use Rattle.forec_base.specs.declared.Place.{Place}
use Rattle.forec_tree.specs.declared.token.Token.{Token}
use Rattle.forec_tree.specs.LexedText.{IsLexed, IsBad, IsMany, AreDistinct, IsSpelt, IsNumbered, NumbersSpellings, AreInOrder, token_bytes}
use Rattle.forec_lexer.specs.declared.fault.LexFault.{LexFault}
use Rattle.forec_lexer.specs.declared.fault.LexFault.TheVariants as fault
use Rattle.forec_lexer.specs.declared.text.Lexed.{Lexed}
use Rattle.forec_lexer.specs.Answers.{HasLexCause}
use Rattle.forec_lexer.proofs.OneWay.{one_lexed, lexed_not_bad, lexed_not_many, bad_not_many, one_bad, one_many}
use Rattle.forec_lexer.proofs.Whole.{named, in_order, numbers_spellings}

abbrev Answer : Type 0
Answer = Result Lexed LexFault

abbrev refused : LexFault → Answer
refused f = Err f

module _ (text : List ℕ) where
  pub only_lexed : (r : Result Lexed LexFault) → IfOk r (λ l. IsLexed text l.tokens.items l.names) → IfErr r (HasLexCause text)
      → (ts : List Token) (ns : List (List ℕ)) → IsLexed text ts ns → r ≢ Err fault.OutOfMemory → IsOkAnd r (λ l. (l.tokens.items ≡ ts) × (l.names ≡ ns))
  only_lexed (Ok l) ok err ts ns x m = one_lexed text l.tokens.items ts l.names ns ok x
  only_lexed (Err (fault.Bad p)) ok err ts ns x m = absurd (lexed_not_bad text ts ns p x err)
  only_lexed (Err (fault.Many p)) ok err ts ns x m = absurd (lexed_not_many text ts ns p x err)
  only_lexed (Err fault.OutOfMemory) ok err ts ns x m = absurd (m refl)

  pub only_bad : (r : Result Lexed LexFault) → IfOk r (λ l. IsLexed text l.tokens.items l.names) → IfErr r (HasLexCause text)
      → (p : Place) → IsBad text p → r ≢ Err fault.OutOfMemory → r ≡ Err (fault.Bad p)
  only_bad (Ok l) ok err p x m = absurd (lexed_not_bad text l.tokens.items l.names p ok x)
  only_bad (Err (fault.Bad q)) ok err p x m = ap (λ z. refused (fault.Bad z)) (one_bad text q p err x)
  only_bad (Err (fault.Many q)) ok err p x m = absurd (bad_not_many text p q x err)
  only_bad (Err fault.OutOfMemory) ok err p x m = absurd (m refl)

  pub only_many : (r : Result Lexed LexFault) → IfOk r (λ l. IsLexed text l.tokens.items l.names) → IfErr r (HasLexCause text)
      → (p : Place) → IsMany text p → r ≢ Err fault.OutOfMemory → r ≡ Err (fault.Many p)
  only_many (Ok l) ok err p x m = absurd (lexed_not_many text l.tokens.items l.names p ok x)
  only_many (Err (fault.Bad q)) ok err p x m = absurd (bad_not_many text q p err x)
  only_many (Err (fault.Many q)) ok err p x m = ap (λ z. refused (fault.Many z)) (one_many text q p err x)
  only_many (Err fault.OutOfMemory) ok err p x m = absurd (m refl)

  pub names_spelt : (r : Result Lexed LexFault) → IfOk r (λ l. IsLexed text l.tokens.items l.names) → IfOk r (λ l. All (IsSpelt text l.names) l.tokens.items)
  names_spelt (Ok l) ok = (named ok.lexes.cuts).spelt
  names_spelt (Err f) ok = tt

  pub names_few : (r : Result Lexed LexFault) → IfOk r (λ l. IsLexed text l.tokens.items l.names) → IfOk r (λ l. length l.names ≤ length l.tokens.items)
  names_few (Ok l) ok = (named ok.lexes.cuts).few
  names_few (Err f) ok = tt

  pub names_distinct : (r : Result Lexed LexFault) → IfOk r (λ l. IsLexed text l.tokens.items l.names) → IfOk r (λ l. AreDistinct l.names)
  names_distinct (Ok l) ok = (named ok.lexes.cuts).distinct
  names_distinct (Err f) ok = tt

  pub tokens_in_order : (r : Result Lexed LexFault) → IfOk r (λ l. IsLexed text l.tokens.items l.names) → IfOk r (λ l. AreInOrder 0 l.tokens.items (length text))
  tokens_in_order (Ok l) ok = in_order ok.lexes.cuts
  tokens_in_order (Err f) ok = tt

  pub names_numbered : (r : Result Lexed LexFault) → IfOk r (λ l. IsLexed text l.tokens.items l.names) → IfOk r (λ l. NumbersSpellings text l.tokens.items)
  names_numbered (Ok l) ok = numbers_spellings text l.tokens.items l.names (named ok.lexes.cuts)
  names_numbered (Err f) ok = tt

  pub ids_small : (r : Result Lexed LexFault) → IfOk r (λ l. IsLexed text l.tokens.items l.names) → IfOk r (λ l. All (IsNumbered l.names) l.tokens.items)
  ids_small (Ok l) ok =
      All-weaker (IsSpelt text l.names) (IsNumbered l.names) (λ t s i e. slice_get_within l.names i (token_bytes text t) (s i e)) l.tokens.items (named ok.lexes.cuts).spelt
  ids_small (Err f) ok = tt
