use Rattle.std.proofs.Common.{Err, sym, ap, subst}
use Rattle.forec_tree.specs.Plain.{program}
use Rattle.forec_parser.specs.declared.fault.ParseFault.{ParseFault}
use Rattle.forec_parser.specs.Program.{HasParseCause}
use Rattle.forec_parser.proofs.ProgramLemmas.{found_so, only_so}
use Rattle.forec_parser.proofs.Stops.{is_among, has_cause, only_memory, only_stop, only_opening, found_never_stops, found_never_opens}
use Rattle.forec_parser.proofs.whole.parse.Goals as goal

pub told-requires-clause-among : goal.told-requires-clause-among
told-requires-clause-among c = is_among c.args.tokens.now c.in-Err.fault c.in-Err.ensures

pub returns-in-Ok-clause-found : goal.returns-in-Ok-clause-found
returns-in-Ok-clause-found c = found_so c.args.tokens.now c.in-Ok.program c.in-Ok.ensures

pub returns-in-Ok-clause-only : goal.returns-in-Ok-clause-only
returns-in-Ok-clause-only c text s = only_so c.args.tokens.now c.in-Ok.program text c.in-Ok.ensures s

pub returns-in-Ok-clause-stops : goal.returns-in-Ok-clause-stops
returns-in-Ok-clause-stops c token s memory = absurd (found_never_stops c.args.tokens.now c.in-Ok.program token c.in-Ok.ensures s)

pub returns-in-Ok-clause-opens : goal.returns-in-Ok-clause-opens
returns-in-Ok-clause-opens c token s memory = absurd (found_never_opens c.args.tokens.now c.in-Ok.program token c.in-Ok.ensures s)

pub returns-in-Err-clause-only : goal.returns-in-Err-clause-only
returns-in-Err-clause-only c text s = only_memory c.args.tokens.now c.told.result (subst (λ (f : ParseFault). HasParseCause c.args.tokens.now f) (sym c.told.ensures) (has_cause c.args.tokens.now c.in-Err.fault c.in-Err.ensures)) text s

pub returns-in-Err-clause-refused : goal.returns-in-Err-clause-refused
returns-in-Err-clause-refused c = subst (λ (f : ParseFault). HasParseCause c.args.tokens.now f) (sym c.told.ensures) (has_cause c.args.tokens.now c.in-Err.fault c.in-Err.ensures)

pub returns-in-Err-clause-stops : goal.returns-in-Err-clause-stops
returns-in-Err-clause-stops c token s memory =
    ap (λ f. Err f) (only_stop c.args.tokens.now c.told.result (subst (λ (f : ParseFault). HasParseCause c.args.tokens.now f) (sym c.told.ensures) (has_cause c.args.tokens.now c.in-Err.fault c.in-Err.ensures)) token s
    (λ e. memory (ap (λ f. Err f) e)))

pub returns-in-Err-clause-opens : goal.returns-in-Err-clause-opens
returns-in-Err-clause-opens c token s memory =
    ap (λ f. Err f) (only_opening c.args.tokens.now c.told.result (subst (λ (f : ParseFault). HasParseCause c.args.tokens.now f) (sym c.told.ensures) (has_cause c.args.tokens.now c.in-Err.fault c.in-Err.ensures)) token s
    (λ e. memory (ap (λ f. Err f) e)))
