use Rattle.std.proofs.Common.{◌≡◌, ◌<◌, ◌+◌, ℕ, List, Some, length, take, set, sym, ap, subst, ◌∙◌, arith}
use Rattle.std.specs.List.{slice_get}
use Rattle.trace_rows.specs.Words.{line_words}
use Rattle.trace_rows.specs.Trace.{places_of}
use Rattle.trace_rows.proofs.HeaderWords.{once_more, places_more, not_each}
use Rattle.trace_rows.proofs.header.read_header.Goals as goal

pub returns-then-count_name-ne1-clause-no : goal.returns-then-count_name-ne1-clause-no
returns-then-count_name-ne1-clause-no c = λ _.
    let names = c.args.inputs.now in
    let name : List ℕ = c.as_bytes-name.result.now in
    let at : slice_get names c.loop-i.i ≡ Some name = c.get.ensures ∙ ap Some (sym c.as_bytes-name.ensures.value) in
    not_each names (line_words c.args.line.now) c.loop-i.i name at (λ once. c.if-count_name-ne1.true (c.count_name.ensures ∙ once))

pub loop-i-preserved : goal.loop-i-preserved
loop-i-preserved c =
    let names = c.args.inputs.now in
    let words : List (List ℕ) = line_words c.args.line.now in
    let name : List ℕ = c.as_bytes-name.result.now in
    let at : slice_get names c.loop-i.i ≡ Some name = c.get.ensures ∙ ap Some (sym c.as_bytes-name.ensures.value) in
    let low : c.loop-i.i < length c.loop-i.places = (let e = c.loop-i-test.true in omega (arith, c.requires, c.loop-i.auto.places, c.len-i-end.ensures)) in
    record {
      once = once_more names words c.loop-i.i name at (sym c.count_name.ensures ∙ c.if-count_name-ne1.false) c.loop-i.invariant.once;
      places = subst (λ (p : ℕ). take (c.loop-i.i + 1) (set c.loop-i.places c.loop-i.i p) ≡ places_of (take (c.loop-i.i + 1) names) words) (sym c.first_place.ensures)
          (places_more names words c.loop-i.i name c.loop-i.places at low c.loop-i.invariant.places);
    }
