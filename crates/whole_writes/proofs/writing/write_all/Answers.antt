use Rattle.std.proofs.Common.{◌++◌, ◌≤◌, List, ℕ, length, take, drop, sym, subst, ap, ◌∙◌, arith, length-drop}
use Rattle.std.proofs.Math.Seq.{take-add}
use Rattle.std.specs.List.{slice_range}
use Rattle.std.specs.Io.KnownBytes.{Appends}
use Rattle.std.proofs.lemmas.List.{take-append-drop}
use Rattle.whole_writes.proofs.Appending.{appends_both, front_kept, range_rest}
use Rattle.whole_writes.proofs.writing.write_all.Goals as goal

pub loop-at-preserved : goal.loop-at-preserved
loop-at-preserved g c =
    let i = c.loop-at.invariant in
    let bytes : List ℕ = c.args.bytes.now in
    let at = c.loop-at.at in
    let n = c.in-Ok.n in
    let held = g.K.Sink.held in
    let rest = range_rest at bytes in
    let gained : Appends (held c.loop-at.out) (held c.write.new.self) (take n (slice_range bytes at (length bytes))) = c.in-Ok.ensures.bytes in
    let few : n ≤ length (slice_range bytes at (length bytes)) = c.in-Ok.ensures.bound.within in
    let short : n ≤ length (drop at bytes) = subst (λ (w : List ℕ). n ≤ length w) rest few in
    record {
      within = omega (arith, short, i.within, length-drop at bytes);
      written = subst (Appends (held c.args.out.now) (held c.write.new.self)) (ap (λ (w : List ℕ). take at bytes ++ take n w) rest ∙ sym (take-add at n bytes))
          (appends_both (held c.args.out.now) (held c.loop-at.out) (held c.write.new.self) (take at bytes) (take n (slice_range bytes at (length bytes))) i.written gained);
      faults = omega (arith, i.faults, c.in-Ok.ensures.cause.later);
    }

pub returns-in-Err-clause-err : goal.returns-in-Err-clause-err
returns-in-Err-clause-err g c =
    let held = g.K.Sink.held in
    front_kept (held c.args.out.now) (held c.loop-at.out) (held c.write.new.self) (take c.loop-at.at c.args.bytes.now) (drop c.loop-at.at c.args.bytes.now) c.args.bytes.now
    (sym (take-append-drop c.loop-at.at c.args.bytes.now)) c.loop-at.invariant.written c.in-Err.ensures.bytes
