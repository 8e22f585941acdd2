-- What the verdict on a text says of its kernel.
use Rattle.std.proofs.Common.{ℕ, ◌≤◌, List, [], get_or, arith}
use Rattle.std.specs.List.{AllByRecursion}
use Rattle.std.proofs.lemmas.List.{length-map}
use Rattle.forec_tree.specs.Terms as tree
use Rattle.forec_tree.specs.declared.token.Token.{Token}
use Rattle.forec_tree.specs.LexedText.{IsLexed}
use Rattle.forec_tree.specs.SpelledPrograms.{IsSpelled}
use Rattle.forec_check.specs.Faultless.{Faultless}
use Rattle.forec_kernel.specs.Shapes.{PlainKernel}
use Rattle.text_kernel.specs.Kernels.{kernel_of}
use Rattle.text_kernel.specs.Limits.{WithinLimits}
use Rattle.forec_kernel.specs.Ticks.{run_of}
use Rattle.tick_bounds.specs.Bound.{worst_case}
use Rattle.bound_laws.specs.Paced.{Paced}
use Rattle.bound_laws.specs.Laws.{NoneOver}
use Rattle.text_verdict.specs.Judging.{most_levels, Verdict, Accepts, Refuses, OnUnbroken, beyond, accepted, OnProgram, broken, unbroken, OnTokens, spelled, stuck, too_deep, Judged, too_long, stops, too_many, lexed}
use Rattle.forec_kernel.specs.WellFormed.{WellFormed}
use Rattle.text_kernel.proofs.Whole.{well_formed}
use Rattle.paced_texts.proofs.Accepted.{accepted_programs_are_paced, accepted_runs_never_over}
use Rattle.value_ranges.specs.Words.{KernelWords}
use Rattle.value_ranges.proofs.Ticks.{values_fit}
use Rattle.text_ranges.proofs.Whole.{spelled_programs_have_words}
use Rattle.text_names.specs.Names.{IsPlainName, HasNames}
use Rattle.text_names.proofs.Bytes.{safe_names}
use Rattle.text_names.proofs.Whole.{spelled_programs_have_names, spelled_variables_are_named}
use Rattle.text_verdict.specs.Laws.{AcceptedTextsAreFormed, AcceptedTextsArePaced, AcceptedTextsAreNeverOver, AcceptedTextsHaveWords, AcceptedTextsGiveWords, AcceptedTextsHaveNames, AcceptedTextsHavePlainNames, AcceptedTextsHaveSafeOutputs}

-- what holds of the kernels of all programs that are accepted holds of the kernel of a verdict
module _ (P : PlainKernel → Type 0)
    (all : (text : List ℕ) (tokens : List Token) (program : tree.Text) (names : List (List ℕ)) → IsLexed text tokens names → IsSpelled most_levels program tokens → Faultless program names →
    WithinLimits (kernel_of program names) → P (kernel_of program names))
  where
    abbrev Told : Verdict → Type 0
    Told (Accepts counts k) = P k
    Told (Refuses why) = Unit {0}

    on_unbroken : (program : tree.Text) (names : List (List ℕ)) (v : Verdict) → (WithinLimits (kernel_of program names) → P (kernel_of program names)) → OnUnbroken program names v → Told v
    on_unbroken program names v h (beyond what count is) = tt
    on_unbroken program names v h (accepted w) = h w

    on_program : (program : tree.Text) (names : List (List ℕ)) (v : Verdict) → (Faultless program names → WithinLimits (kernel_of program names) → P (kernel_of program names)) → OnProgram program names v → Told v
    on_program program names v h (broken place rule least) = tt
    on_program program names v h (unbroken f u) = on_unbroken program names v (h f) u

    on_tokens : (text : List ℕ) (tokens : List Token) (names : List (List ℕ)) (v : Verdict) → IsLexed text tokens names → OnTokens text tokens names v → Told v
    on_tokens text tokens names v x (spelled program s p) = on_program program names v (all text tokens program names x s) p
    on_tokens text tokens names v x (stuck n h) = tt
    on_tokens text tokens names v x (too_deep n h) = tt

    on_text : (text : List ℕ) (v : Verdict) → Judged text v → Told v
    on_text text v (too_long h) = tt
    on_text text v (stops place l h) = tt
    on_text text v (too_many place l h) = tt
    on_text text v (lexed tokens names l x t) = on_tokens text tokens names v x t

pub accepted_texts_are_formed : AcceptedTextsAreFormed
accepted_texts_are_formed text counts k h = on_text WellFormed (λ t tokens program names x s. well_formed program names) text (Accepts counts k) h

pub accepted_texts_are_paced : AcceptedTextsArePaced
accepted_texts_are_paced text counts k h = on_text Paced (λ t tokens program names x s. accepted_programs_are_paced program names) text (Accepts counts k) h

pub accepted_texts_are_never_over : AcceptedTextsAreNeverOver
accepted_texts_are_never_over text counts k h budget fits rows =
    on_text (λ k. worst_case k ≤ budget → NoneOver (run_of k budget rows))
    (λ t tokens program names x s f w fit. accepted_runs_never_over program names f w budget fit rows) text (Accepts counts k) h fits

pub accepted_texts_have_words : AcceptedTextsHaveWords
accepted_texts_have_words text counts k h =
    on_text KernelWords (λ t tokens program names x s f w. spelled_programs_have_words t tokens names most_levels program x s) text (Accepts counts k) h

pub accepted_texts_give_words : AcceptedTextsGiveWords
accepted_texts_give_words text counts k h budget rows fit = values_fit k (accepted_texts_have_words text counts k h) budget rows fit

pub accepted_texts_have_names : AcceptedTextsHaveNames
accepted_texts_have_names text counts k h =
    on_text (λ k. HasNames k.shape) (λ t tokens program names x s f w. spelled_variables_are_named t tokens names most_levels program x s) text (Accepts counts k) h

pub accepted_texts_have_plain_names : AcceptedTextsHavePlainNames
accepted_texts_have_plain_names text counts k h =
    on_text (λ k. AllByRecursion IsPlainName k.shape.names) (λ t tokens program names x s f w. spelled_programs_have_names t tokens names most_levels program x s) text (Accepts counts k) h

pub accepted_texts_have_safe_outputs : AcceptedTextsHaveSafeOutputs
accepted_texts_have_safe_outputs text counts k h =
    let few = (accepted_texts_are_formed text counts k h).few_outputs in
    let as_many = length-map k.shape.outputs (λ v. get_or k.shape.names v []) in
    (omega (arith, few, as_many), safe_names k.shape.names k.shape.outputs (accepted_texts_have_plain_names text counts k h))
