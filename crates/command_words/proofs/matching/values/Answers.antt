use Rattle.std.proofs.Common.{◌≡◌, ◌∙◌, ap, sym, refl, map, string_bytes, codes, List, ℕ}
use Rattle.clap.proofs.WalkLemmas.{first_value-rows, raw_values-rows}
use Rattle.clap.specs.Words.{App, Text, found_of, app_of, is_simple, is_simple_and_free, all_of, fault_of, first_of, first_value, matches_of}
use Rattle.command_words.specs.CommandLine.{value_of, is_set, kept_words}
use Rattle.command_words.specs.declared.fault.WordsFault.TheVariants.{Usage}
use Rattle.command_words.proofs.Free.{free, simple, no_kind}
use Rattle.command_words.proofs.matching.values.Goals as goal

pub returns-in_ok-more-in-Ok-clause-accepted : goal.returns-in_ok-more-in-Ok-clause-accepted
returns-in_ok-more-in-Ok-clause-accepted c =
    let e = c.in_ok-command.ensures in
    let words : List (List ℕ) = map string_bytes c.args.words.now in
    ap (λ (a : App). fault_of a words) (sym e) ∙ c.in-Ok.ensures.kinds (ap is_simple_and_free e ∙ free)

pub returns-in_ok-more-in-Ok-clause-values : goal.returns-in_ok-more-in-Ok-clause-values
returns-in_ok-more-in-Ok-clause-values c =
    let e = c.in_ok-command.ensures in
    let words : List (List ℕ) = map string_bytes c.args.words.now in
    let m = (c.in-Ok.ensures.matches (ap is_simple e ∙ simple)).0 in
    let found = m ∙ ap (λ (a : App). matches_of a words) e in
    let value : (id : Text) → first_value (found_of c.in-Ok.matches) id ≡ value_of words id = λ id.
    first_value-rows (found_of c.in-Ok.matches) id ∙ ap (first_of id) found in
    let more = raw_values-rows (found_of c.in-Ok.matches) (codes "more") ∙ ap (all_of (codes "more")) found in
    rw (
      c.get_str.ensures ∙ value (codes "command"),
      c.get_str-in-Ok.ensures ∙ value (codes "program"),
      c.in_ok-more-in-Ok.ensures ∙ ap kept_words (c.get_strs.ensures ∙ more),
      c.get_str-in-Ok-2.ensures ∙ value (codes "cores"),
      c.get_str-in-Ok-3.ensures ∙ value (codes "place"),
      c.get_str-in-Ok-4.ensures ∙ value (codes "budget"),
      c.get_str-in-Ok-5.ensures ∙ value (codes "order"),
      c.is_given.ensures ∙ ap is_set (c.get_str-in-Ok-6.ensures ∙ value (codes "fold")),
    ) refl

pub returns-in-Err-clause-usage : goal.returns-in-Err-clause-usage
returns-in-Err-clause-usage c = λ same none.
    let e = c.in_ok-command.ensures in
    let words : List (List ℕ) = map string_bytes c.args.words.now in
    let k = c.in-Err.ensures.kinds (ap is_simple_and_free e ∙ free) in
    let usage : c.fault.result ≡ Usage = cc in
    no_kind (fault_of (app_of c.in_ok-command.command) words) _ (ap (λ (a : App). fault_of a words) e ∙ none) k (λ o. c.fault.ensures usage (c.kind.ensures ∙ o))
