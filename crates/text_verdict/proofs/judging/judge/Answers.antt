use Rattle.std.proofs.Common.{List, ℕ, Err, subst}
use Rattle.std.proofs.lemmas.Result.{err_from_is_err_and}
use Rattle.forec_tree.specs.Plain as tree
use Rattle.forec_tree.specs.SpelledPrograms.{IsSpelled}
use Rattle.forec_tree.specs.Terms.{Text}
use Rattle.forec_tree.specs.declared.token.Token.{Token}
use Rattle.forec_check.specs.Checked.{checked_text, names_of}
use Rattle.forec_check.proofs.NamesBelow.{distinct_names, names_below}
use Rattle.text_verdict.specs.Judging.{most_levels, OnUnbroken, OnProgram, GivesVerdict, unbroken}
use Rattle.text_verdict.proofs.Verdicts.{says_too, said_of_text, said_of_tokens, told, told_of_tokens, told_by_check}
use Rattle.text_verdict.proofs.judging.judge.Goals as goal

pub returns-in_err-lexed : goal.returns-in_err-lexed
returns-in_err-lexed c =
    let p = err_from_is_err_and c.from_residual.result c.from_residual.ensures.1 in
    rw p.1 (told c.args.text.now _ p.0 c.requires c.in_err-lexed.ensures.err p.2)

pub returns-in_err-program : goal.returns-in_err-program
returns-in_err-program c =
    let p = err_from_is_err_and c.from_residual-in_err-program.result c.from_residual-in_err-program.ensures.1 in
    let tokens = c.in_ok-lexed.lexed.tokens.items in
    let names = c.in_ok-lexed.lexed.names in
    rw p.1 (said_of_text c.args.text.now tokens names c.requires c.in_ok-lexed.ensures.ok (Err p.0)
    (told_of_tokens c.args.text.now _ tokens names _ p.0 c.deref.ensures.value c.in_err-program.ensures.refused p.2))

pub check-requires-clause-distinct : goal.check-requires-clause-distinct
check-requires-clause-distinct c = distinct_names c.in_ok-lexed.lexed.names c.in_ok-lexed.ensures.distinct

pub check-requires-clause-below : goal.check-requires-clause-below
check-requires-clause-below c =
    let program = tree.program c.in_ok-program.program in
    let spells = subst (λ (ts : List Token). IsSpelled most_levels program ts) c.deref.ensures.value c.in_ok-program.ensures.found in
    names_below most_levels program c.in_ok-lexed.lexed.tokens.items c.in_ok-lexed.lexed.names spells c.in_ok-lexed.ensures.ids

pub returns-in_err-checked : goal.returns-in_err-checked
returns-in_err-checked c =
    let p = err_from_is_err_and c.from_residual-in_err-checked.result c.from_residual-in_err-checked.ensures.1 in
    let tokens = c.in_ok-lexed.lexed.tokens.items in
    let names = c.in_ok-lexed.lexed.names in
    let program = tree.program c.in_ok-program.program in
    let spells = subst (λ (ts : List Token). IsSpelled most_levels program ts) c.deref.ensures.value c.in_ok-program.ensures.found in
    rw p.1 (said_of_text c.args.text.now tokens names c.requires c.in_ok-lexed.ensures.ok (Err p.0)
    (said_of_tokens c.args.text.now tokens names program spells (Err p.0) (told_by_check program names _ p.0 c.in_err-checked.ensures.fault p.2)))

pub returns : goal.returns
returns c =
    let tokens = c.in_ok-lexed.lexed.tokens.items in
    let names = c.in_ok-lexed.lexed.names in
    let program = tree.program c.in_ok-program.program in
    let spells = subst (λ (ts : List Token). IsSpelled most_levels program ts) c.deref.ensures.value c.in_ok-program.ensures.found in
    let checked = c.in_ok-checked.checked in
    let said =
    says_too (OnUnbroken (checked_text checked) (names_of checked)) (OnProgram (checked_text checked) (names_of checked)) (λ v x. unbroken checked.faultless x)
    c.accept.result c.accept.ensures in
    let named = subst (λ (ns : List (List ℕ)). GivesVerdict (OnProgram (checked_text checked) ns) c.accept.result) c.in_ok-checked.ensures.names said in
    let whole = subst (λ (t : Text). GivesVerdict (OnProgram t names) c.accept.result) c.in_ok-checked.ensures.program named in
    said_of_text c.args.text.now tokens names c.requires c.in_ok-lexed.ensures.ok c.accept.result
    (said_of_tokens c.args.text.now tokens names program spells c.accept.result whole)
