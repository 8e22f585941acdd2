use Rattle.std.proofs.Common.{rules, ◌≡◌, ℕ, ℤ, List, [], ◌-◌, ◌<◌, inl, inr, true, Ok, length, codes, take, get_or, ap, sym, ◌∙◌, arith}
use Rattle.wave_dump.specs.Wave.{PlainDump, is_ending_byte}
use Rattle.wave_dump.specs.Machine.{Ending, Done, literal, ends_blank}
use Rattle.wave_dump.specs.Reading.{dump_from, dump_with}
use Rattle.wave_dump.proofs.GoesLemmas.{goes_passed}
use Rattle.wave_dump.proofs.EndingLemmas.{between_places, Halts, ending_more, ending_closed, places_blank, places_front, done_here, done_not}
use Rattle.wave_dump.proofs.ending.read_ending.Goals as goal
use Rattle.wave_dump.proofs.ending.read_ending.Goals.{After-expect, then-loop-end-test+else-is_ending, else-loop-end-test}

-- the ending is closed here, and this is the dump
abbrev its_dump : After-expect → List (List ℕ) → List (List ℤ) → PlainDump
its_dump c names ticks = let e = between_places c.args.bytes.now c.args.start c.loop-end.end in dump_with names ticks (take (length e - 1) e)

closes : (c : After-expect) (names : List (List ℕ)) (ticks : List (List ℤ)) →
    dump_from c.args.bytes.now c.args.start (Ending names ticks []) ≡ dump_from c.args.bytes.now c.loop-end.end (literal (codes "$end\n") (Done (its_dump c names ticks)))
closes c names ticks =
    let bytes = c.args.bytes.now in
    let end = c.loop-end.end in
    let inv = c.loop-end.invariant in
    let halts : Halts bytes end = elim c.loop-end-test.branch [
      | then-loop-end-test+else-is_ending w ↦ inr (sym w.is_ending.ensures ∙ w.if-is_ending.false)
      | else-loop-end-test w ↦ inl (omega arith)
    ] in
    let e = between_places bytes c.args.start end in
    let blank : ends_blank e ≡ true = places_blank bytes c.args.start end (omega arith) inv.within (omega arith) in
    inv.same names ticks ∙ ending_closed bytes end names ticks e halts blank

pub loop-end-preserved : goal.loop-end-preserved
loop-end-preserved c =
    let bytes = c.args.bytes.now in
    let end = c.loop-end.end in
    let inv = c.loop-end.invariant in
    let h : is_ending_byte (get_or bytes end 0) ≡ true = sym c.is_ending.ensures ∙ c.if-is_ending.true in
    record {
      low = omega arith;
      within = omega arith;
      same = λ names ticks. inv.same names ticks ∙ ending_more bytes c.args.start end names ticks inv.low c.loop-end-test.true h;
    }

pub returns-in_err-next : goal.returns-in_err-next
returns-in_err-next c =
    let at = (goal.at.returns-in_err-next c).After-expect in
    λ names ticks. goes_passed c.from_residual.result c.in_err-next.field-0.0 _ _ _ _ c.from_residual.ensures.1 (closes at names ticks) (c.in_err-next.ensures.goes (Done (its_dump at names ticks)))

pub returns-then-next-bytes : goal.returns-then-next-bytes
returns-then-next-bytes c =
    let at = (goal.at.returns-then-next-bytes c).After-expect in
    λ names ticks. closes at names ticks ∙ c.in_ok-next.ensures.goes (Done (its_dump at names ticks)) ∙ done_not c.args.bytes.now c.in_ok-next.next (its_dump at names ticks) c.if-next-bytes.true

pub returns : goal.returns
returns c =
    let at = (goal.at.returns c).After-expect in
    let bytes = c.args.bytes.now in
    let start = c.args.start in
    let end = c.loop-end.end in
    let low : start < end = omega arith in
    let text : c.in_ok-text.text.items ≡ between_places bytes start (end - 1) = search rules in
    λ names ticks. closes at names ticks ∙ c.in_ok-next.ensures.goes (Done (its_dump at names ticks))
    ∙ done_here bytes c.in_ok-next.next (its_dump at names ticks) (omega arith)
    ∙ ap (λ x. Ok (dump_with names ticks x)) (places_front bytes start end low c.loop-end.invariant.within ∙ sym text)
