use Rattle.std.proofs.Common.{rules, ◌≡◌, ℕ, List, ◌+◌, ◌<◌, ◌^◌, ◌++◌, ◌∷◌, [], true, false, length, codes, decimal, refl, ap, sym, ◌∙◌, arith}
use Rattle.wave_dump.specs.Machine.{Start, Body, Ending, literal, olds_of}
use Rattle.wave_dump.specs.Reading.{dump_from, dump_between, spot_with, signed_words, olds_at}
use Rattle.wave_dump.specs.Dumps.{plain_ticks}
use Rattle.wave_dump.proofs.GoesLemmas.{goes_passed}
use Rattle.wave_dump.proofs.Between.{start_between, tick_none}
use Rattle.wave_dump.proofs.AllTicks.{no_old, plain_after, olds_then, begins_all}
use Rattle.wave_dump.proofs.ticks.read_ticks.Goals.{After-len, After-stands}
use Rattle.wave_dump.proofs.ticks.read_ticks.Goals as goal

-- a further tick begins here
begins : (c : After-len) (names : List (List ℕ)) → length names ≡ length c.args.values.now → c.len.result + 1 < 2 ^ 64 →
    dump_from c.args.bytes.now c.args.start (Start names) ≡ dump_from c.args.bytes.now (c.loop-alloc.at + 1)
    (literal (decimal (c.len.result + 1) ++ codes "\n") (Body (spot_with names (plain_ticks c.loop-alloc.ticks.items) [] (olds_at c.loop-alloc.first c.loop-alloc.values))))
begins c names e few =
    let here : c.stands.result ≡ true = search rules in
    let stands = c.stands.ensures.yes here in
    let n : c.len.result ≡ length c.loop-alloc.ticks.items = search rules in
    c.loop-alloc.invariant.same names e ∙ begins_all c.args.bytes.now c.loop-alloc.at (c.len.result + 1) names c.loop-alloc.ticks.items _ stands.0 stands.1 (omega arith) few (c.loop-alloc.invariant.olds names e)

-- no further tick begins here
ended : (c : After-stands) (names : List (List ℕ)) → length names ≡ length c.args.values.now → c.stands.result ≡ false →
    dump_from c.args.bytes.now c.args.start (Start names) ≡ dump_from c.args.bytes.now c.loop-alloc.at (literal (codes "$comment ") (Ending names (plain_ticks c.loop-alloc.ticks.items) []))
ended c names e gone = c.loop-alloc.invariant.same names e ∙ tick_none c.args.bytes.now c.loop-alloc.at names (plain_ticks c.loop-alloc.ticks.items) (c.stands.ensures.no gone)

pub loop-alloc-init : goal.loop-alloc-init
loop-alloc-init c =
    let none : c.new-ticks.result.items ≡ [] = search rules in
    record {
      within = c.requires.place;
      count = refl;
      olds = λ names e. ap (λ xs. olds_of names (plain_ticks xs)) none ∙ no_old names c.args.values.now e;
      same = λ names e. start_between c.args.bytes.now c.args.start names ∙ ap (λ xs. dump_between c.args.bytes.now c.args.start names (plain_ticks xs)) (sym none);
    }

pub returns-in_err-line-clause-goes : goal.returns-in_err-line-clause-goes
returns-in_err-line-clause-goes c =
    let few : c.len.result + 1 < 2 ^ 64 = search rules in
    λ names e. goes_passed c.from_residual.result c.in_err-line.field-0.0 _ _ _ _ c.from_residual.ensures.1 (begins (goal.at.returns-in_err-line-clause-goes c).After-len names e few) (c.in_err-line.ensures.goes _)

pub returns-in_err-at-clause-goes : goal.returns-in_err-at-clause-goes
returns-in_err-at-clause-goes c =
    let few : c.len.result + 1 < 2 ^ 64 = search rules in
    λ names e. goes_passed c.from_residual-in_err-at.result c.in_err-at.field-0.0 _ _ _ _ c.from_residual-in_err-at.ensures.1 (begins (goal.at.returns-in_err-at-clause-goes c).After-len names e few ∙ c.in_ok-line.ensures.goes _) (c.in_err-at.ensures.goes names (plain_ticks c.loop-alloc.ticks.items))

pub loop-alloc-preserved : goal.loop-alloc-preserved
loop-alloc-preserved c =
    let ts = c.loop-alloc.ticks.items in
    let few : c.len.result + 1 < 2 ^ 64 = search rules in
    let xs = c.read_values.new.values in
    let all : c.push.new.self.items ≡ ts ++ c.in_ok-signed.field-0 ∷ [] = search rules in
    let copy : c.in_ok-signed.field-0.items ≡ signed_words xs = search rules in
    record {
      within = search rules;
      count = c.in_ok-at.ensures.count ∙ c.loop-alloc.invariant.count;
      olds = λ names e. olds_then names ts c.push.new.self.items c.in_ok-signed.field-0 xs all copy;
      same = λ names e. begins (goal.at.loop-alloc-preserved c).After-len names e few ∙ c.in_ok-line.ensures.goes _ ∙ c.in_ok-at.ensures.goes names (plain_ticks ts)
          ∙ ap (dump_between c.args.bytes.now c.in_ok-at.at names) (sym (plain_after ts c.push.new.self.items c.in_ok-signed.field-0 xs all copy));
    }

pub returns-clause-goes : goal.returns-clause-goes
returns-clause-goes c =
    let gone : c.stands.result ≡ false = search rules in
    λ names e. ended (goal.at.returns-clause-goes c).After-stands names e gone ∙ c.in_ok-next.ensures.goes (Ending names (plain_ticks c.loop-alloc.ticks.items) [])

pub returns-in_err-next-clause-goes : goal.returns-in_err-next-clause-goes
returns-in_err-next-clause-goes c =
    let gone : c.stands.result ≡ false = search rules in
    λ names e. goes_passed c.from_residual-in_err-next.result c.in_err-next.field-0.0 _ _ _ _ c.from_residual-in_err-next.ensures.1 (ended (goal.at.returns-in_err-next-clause-goes c).After-stands names e gone) (c.in_err-next.ensures.goes (Ending names (plain_ticks c.loop-alloc.ticks.items) []))
