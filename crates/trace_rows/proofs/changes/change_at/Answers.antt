use Rattle.std.proofs.Common.{◌≡◌, ◌+◌, ℕ, ℤ, List, [], Some, None, take, drop, w32, to_z, of_z, SFits, sym, ap, subst, ◌∙◌, rules}
use Rattle.std.specs.List.{position_or_len}
use Rattle.std.specs.Str.{bytes_eq}
use Rattle.std.proofs.lemmas.Int.{to_z-of_z}
use Rattle.std.proofs.lemmas.List.{take_rest}
use Rattle.std.proofs.lemmas.List.Quantifiers.{position-Some}
use Rattle.trace_rows.specs.Numbers.{word_number}
use Rattle.trace_rows.specs.Words.{is_blank}
use Rattle.trace_rows.proofs.ChangeWords.{no_equals, is_no_number, is_no_input, is_change, word_len}
use Rattle.trace_rows.proofs.changes.change_at.Goals as goal

pub returns-in_default-clause-none : goal.returns-in_default-clause-none
returns-in_default-clause-none c = no_equals c.args.names.now.texts c.args.text.now c.in_default.ensures.none

pub returns-in_default-number_at-clause-none : goal.returns-in_default-number_at-clause-none
returns-in_default-number_at-clause-none c =
    let t = c.args.text.now in
    let n = c.in-Some.head.len in
    let h = c.in-Some.ensures.some in
    is_no_number c.args.names.now.texts t n h.1 h.0
    (subst (λ (r : List ℕ). word_number (take (position_or_len is_blank r) r) ≡ None) (take_rest t (n + 1)) c.in_default-number_at.ensures.none)

pub returns-in_default-find-clause-none : goal.returns-in_default-find-clause-none
returns-in_default-find-clause-none c =
    let h = c.in-Some.ensures.some in
    is_no_input c.args.names.now.texts c.args.text.now c.in-Some.head.len h.1 h.0 c.in_default-find.ensures

pub returns-clause-some : goal.returns-clause-some
returns-clause-some c =
    let t = c.args.text.now in
    let n = c.in-Some.head.len in
    let h = c.in-Some.ensures.some in
    let number = c.in-Some-number_at.number in
    let says = c.in-Some-number_at.ensures.some in
    let fits : SFits w32 number.value = search rules in
    let value : ℤ = to_z w32 (of_z w32 number.value) in
    let len : number.len ≡ position_or_len is_blank (drop (n + 1) t) = says.0 ∙ ap (position_or_len is_blank) (take_rest t (n + 1)) in
    let good : word_number (take number.len (drop (n + 1) t)) ≡ Some value =
    sym (ap (λ (r : List ℕ). word_number (take number.len r)) (take_rest t (n + 1))) ∙ says.1 ∙ ap Some (sym (to_z-of_z w32 number.value fits)) in (
      ap (λ l. n + 1 + l) len ∙ word_len c.args.names.now.texts t n h.1 h.0,
      is_change c.args.names.now.texts t n h.1 h.0 c.in-Some-find.input number.len value len c.in-Some-find.ensures good,
      (position-Some (bytes_eq (take n t)) c.args.names.now.texts c.in-Some-find.input [] (sym c.in-Some-find.ensures)).0,
    )
