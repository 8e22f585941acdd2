use Rattle.std.proofs.Common.{◌≡◌, ◌<◌, ◌+◌, ℕ, List, length, take, set, sym, ap, subst, ◌∙◌, arith, Some}
use Rattle.std.specs.List.{slice_get}
use Rattle.std.proofs.lemmas.List.{length-set}
use Rattle.trace_rows.specs.Trace.{places_of}
use Rattle.trace_rows.proofs.HeaderWords.{places_more}
use Rattle.trace_rows.proofs.names.first_places.Goals as goal

pub loop-i-preserved : goal.loop-i-preserved
loop-i-preserved c =
    let texts = c.args.texts.now in
    let name : List ℕ = c.as_bytes.result.now in
    let at : slice_get texts c.loop-i.i ≡ Some name = c.get.ensures ∙ ap Some (sym c.as_bytes.ensures.value) in
    let i = c.loop-i.invariant in
    let low : c.loop-i.i < length c.loop-i.places.items = (let e = c.loop-i-test.true in omega (arith, i.each, c.len-i-end.ensures)) in
    record {
      so_far = subst (λ (p : ℕ). take (c.loop-i.i + 1) (set c.loop-i.places.items c.loop-i.i p) ≡ places_of (take (c.loop-i.i + 1) texts) texts) (sym c.place_of.ensures)
          (places_more texts texts c.loop-i.i name c.loop-i.places.items at low i.so_far);
      each = length-set c.loop-i.places.items c.loop-i.i c.place_of.result ∙ i.each;
    }
