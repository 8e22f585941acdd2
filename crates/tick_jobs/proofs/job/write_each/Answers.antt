use Rattle.std.proofs.Common.{rules, ◌≡◌, ◌∙◌, length, get_or, take, sym, arith, length-set, w32, to_z, of_z, pos}
use Rattle.tick_jobs.proofs.Copies.{below_at, taken_at, row_more}
use Rattle.tick_jobs.proofs.job.write_each.Goals as goal

pub bounds-copies-inputs : goal.bounds-copies-inputs
bounds-copies-inputs c =
    let b = below_at (length c.args.copies.now) c.args.inputs.now c.loop-i.i 0 c.requires.inputs (omega arith) in
    omega (arith, b, c.loop-i.invariant.long)

pub loop-i-preserved : goal.loop-i-preserved
loop-i-preserved c =
    let inputs = c.args.inputs.now in
    let row = c.args.row.now in
    let x = get_or (take (length inputs) row) c.loop-i.i (pos 0) in
    let fits : to_z w32 (of_z w32 x) ≡ x = search rules in
    record {
      long = length-set _ _ _ ∙ c.loop-i.invariant.long;
      told = row_more inputs row c.loop-i.copies (length c.args.copies.now) c.loop-i.i _ _ _ (sym c.loop-i.invariant.long) c.requires.inputs (omega arith) (omega (arith, c.requires.row)) (fits ∙ taken_at _ row _ (omega (arith, c.requires.row))) ∙ c.loop-i.invariant.told;
    }
