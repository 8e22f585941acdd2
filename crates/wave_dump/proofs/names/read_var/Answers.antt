use Rattle.std.proofs.Common.{◌++◌, ◌∷◌, [], ◌∙◌, string_bytes}
use Rattle.wave_dump.specs.Wave.{output_letter}
use Rattle.wave_dump.specs.Machine.{Name, Vars, literal}
use Rattle.wave_dump.proofs.GoesLemmas.{goes_passed}
use Rattle.wave_dump.proofs.NameLemmas.{at_var, name_closed}
use Rattle.wave_dump.proofs.names.read_var.Goals as goal

pub returns-in_err-wire-clause-goes : goal.returns-in_err-wire-clause-goes
returns-in_err-wire-clause-goes c =
    let bytes = c.args.bytes.now in
    let at = c.args.at in
    let k = c.args.k in
    λ names e. goes_passed c.from_residual.result c.in_err-wire.field-0.0 _ _ _ _ c.from_residual.ensures.1 (at_var bytes at k names c.requires.begins.0 c.requires.begins.1 e c.requires.few) (c.in_err-wire.ensures.goes (literal (output_letter k ∷ 32 ∷ []) (Name names [])))

pub returns-in_err-letter-clause-goes : goal.returns-in_err-letter-clause-goes
returns-in_err-letter-clause-goes c =
    let bytes = c.args.bytes.now in
    let at = c.args.at in
    let k = c.args.k in
    λ names e. goes_passed c.from_residual-in_err-letter.result c.in_err-letter.field-0.0 _ _ _ _ c.from_residual-in_err-letter.ensures.1 (at_var bytes at k names c.requires.begins.0 c.requires.begins.1 e c.requires.few ∙ c.in_ok-wire.ensures.goes (literal (output_letter k ∷ 32 ∷ []) (Name names []))) (c.in_err-letter.ensures.goes (Name names []))

pub returns-in_err-name-clause-goes : goal.returns-in_err-name-clause-goes
returns-in_err-name-clause-goes c =
    let bytes = c.args.bytes.now in
    let at = c.args.at in
    let k = c.args.k in
    λ names e. goes_passed c.from_residual-in_err-name.result c.in_err-name.field-0.0 _ _ _ _ c.from_residual-in_err-name.ensures.1 (at_var bytes at k names c.requires.begins.0 c.requires.begins.1 e c.requires.few ∙ c.in_ok-wire.ensures.goes (literal (output_letter k ∷ 32 ∷ []) (Name names [])) ∙ c.in_ok-letter.ensures.goes (Name names [])) (c.in_err-name.ensures.goes names)

pub returns-clause-goes : goal.returns-clause-goes
returns-clause-goes c =
    let bytes = c.args.bytes.now in
    let at = c.args.at in
    let k = c.args.k in
    let name = string_bytes c.in_ok-name.name in
    let end = c.in_ok-name.end in
    λ names e. at_var bytes at k names c.requires.begins.0 c.requires.begins.1 e c.requires.few ∙ c.in_ok-wire.ensures.goes (literal (output_letter k ∷ 32 ∷ []) (Name names [])) ∙ c.in_ok-letter.ensures.goes (Name names []) ∙ c.in_ok-name.ensures.goes names
    ∙ name_closed bytes end names name c.in_ok-name.ensures.stops ∙ c.in_ok-next.ensures.goes (Vars (names ++ name ∷ []))

pub returns-in_err-next-clause-goes : goal.returns-in_err-next-clause-goes
returns-in_err-next-clause-goes c =
    let bytes = c.args.bytes.now in
    let at = c.args.at in
    let k = c.args.k in
    let name = string_bytes c.in_ok-name.name in
    let end = c.in_ok-name.end in
    λ names e. goes_passed c.from_residual-in_err-next.result c.in_err-next.field-0.0 _ _ _ _ c.from_residual-in_err-next.ensures.1 (at_var bytes at k names c.requires.begins.0 c.requires.begins.1 e c.requires.few ∙ c.in_ok-wire.ensures.goes (literal (output_letter k ∷ 32 ∷ []) (Name names [])) ∙ c.in_ok-letter.ensures.goes (Name names []) ∙ c.in_ok-name.ensures.goes names
    ∙ name_closed bytes end names name c.in_ok-name.ensures.stops) (c.in_err-next.ensures.goes (Vars (names ++ name ∷ [])))
