use Rattle.std.proofs.Common.{rules, ◌≡◌, ◌<◌, ◌++◌, ◌∷◌, [], true, false, suc, length, codes, string_bytes, get_or, ap, sym, ◌∙◌, arith}
use Rattle.wave_dump.specs.Machine.{Vars, Dollar, Start, literal}
use Rattle.wave_dump.specs.Reading.{dump_from}
use Rattle.wave_dump.proofs.Tools.{length_pushed}
use Rattle.wave_dump.proofs.GoesLemmas.{goes_passed}
use Rattle.wave_dump.proofs.NameLemmas.{at_vars, at_full, at_upscope}
use Rattle.wave_dump.proofs.names.read_names.Goals.{After-len-count, In_ok-name, After-stands}
use Rattle.wave_dump.proofs.names.read_names.Goals as goal

-- a further output begins here, and how many there are
begins : (c : After-len-count) → (c.loop-alloc.at < length c.args.bytes.now) × (get_or c.args.bytes.now c.loop-alloc.at 0 ≡ 118) × (c.len-count.result ≡ length c.loop-alloc.names)
begins c =
    let here : c.stands.result ≡ true = search rules in
    let stands = c.stands.ensures.yes here in
    (stands.0, stands.1, search rules)

-- with the output that was read
named : (c : In_ok-name) → c.len-count.result ≡ length c.loop-alloc.names →
    dump_from c.args.bytes.now c.args.start (Vars []) ≡ dump_from c.args.bytes.now c.in_ok-name.end (literal (codes "$") (Dollar (c.loop-alloc.names ++ string_bytes c.in_ok-name.name ∷ [])))
named c n = c.loop-alloc.invariant.same ∙ c.in_ok-name.ensures.goes c.loop-alloc.names (sym n) ∙ at_vars c.args.bytes.now c.in_ok-name.end (c.loop-alloc.names ++ string_bytes c.in_ok-name.name ∷ [])

-- no further output begins here
ended : (c : After-stands) → c.stands.result ≡ false →
    dump_from c.args.bytes.now c.args.start (Vars []) ≡ dump_from c.args.bytes.now c.loop-alloc.at (literal (codes "upscope $end\n$enddefinitions $end\n") (Start c.loop-alloc.names))
ended c gone = c.loop-alloc.invariant.same ∙ at_upscope c.args.bytes.now c.loop-alloc.at c.loop-alloc.names (c.stands.ensures.no gone)

pub returns-in_err-at-clause-goes : goal.returns-in_err-at-clause-goes
returns-in_err-at-clause-goes c = goes_passed c.from_residual.result c.in_err-at.field-0.0 _ _ _ _ c.from_residual.ensures.1 (at_vars c.args.bytes.now c.args.start []) (c.in_err-at.ensures.goes (Dollar []))

pub returns-then-count-ge-MAX_OUTPUTS-clause-goes : goal.returns-then-count-ge-MAX_OUTPUTS-clause-goes
returns-then-count-ge-MAX_OUTPUTS-clause-goes c =
    let b = begins (goal.at.returns-then-count-ge-MAX_OUTPUTS-clause-goes c).After-len-count in
    c.loop-alloc.invariant.same ∙ at_full c.args.bytes.now c.loop-alloc.at c.loop-alloc.names b.0 b.1 (omega (arith, b.2))

pub returns-in_err-name-clause-goes : goal.returns-in_err-name-clause-goes
returns-in_err-name-clause-goes c =
    let b = begins (goal.at.returns-in_err-name-clause-goes c).After-len-count in
    goes_passed c.from_residual-in_err-name.result c.in_err-name.field-0.0 _ _ _ _ c.from_residual-in_err-name.ensures.1 c.loop-alloc.invariant.same (c.in_err-name.ensures.goes c.loop-alloc.names (sym b.2))

pub returns-in_err-at-2-clause-goes : goal.returns-in_err-at-2-clause-goes
returns-in_err-at-2-clause-goes c =
    let at = goal.at.returns-in_err-at-2-clause-goes c in
    goes_passed c.from_residual-in_err-at-2.result c.in_err-at-2.field-0.0 _ _ _ _ c.from_residual-in_err-at-2.ensures.1 (named at.In_ok-name (begins at.After-len-count).2) (c.in_err-at-2.ensures.goes (Dollar _))

pub loop-alloc-preserved : goal.loop-alloc-preserved
loop-alloc-preserved c =
    let at = goal.at.loop-alloc-preserved c in
    let b = begins at.After-len-count in
    let names = c.loop-alloc.names in
    let push : c.push.new.self ≡ names ++ string_bytes c.in_ok-name.name ∷ [] = search rules in
    record {
      within = c.in_ok-at-2.ensures.within;
      few = let more : length c.push.new.self ≡ suc (length names) = ap length push ∙ length_pushed names (string_bytes c.in_ok-name.name) in omega (arith, b.2);
      same = named at.In_ok-name b.2 ∙ c.in_ok-at-2.ensures.goes (Dollar _) ∙ ap (λ l. dump_from c.args.bytes.now c.in_ok-at-2.at (Dollar l)) (sym push);
    }

pub returns-clause-goes : goal.returns-clause-goes
returns-clause-goes c = ended (goal.at.returns-clause-goes c).After-stands (search rules) ∙ c.in_ok-next.ensures.goes (Start c.loop-alloc.names)

pub returns-in_err-next-clause-goes : goal.returns-in_err-next-clause-goes
returns-in_err-next-clause-goes c =
    goes_passed c.from_residual-in_err-next.result c.in_err-next.field-0.0 _ _ _ _ c.from_residual-in_err-next.ensures.1 (ended (goal.at.returns-in_err-next-clause-goes c).After-stands (search rules)) (c.in_err-next.ensures.goes (Start c.loop-alloc.names))
