use Rattle.forec_kernel.specs.Ticks.{with_row}
use Rattle.forec_kernel.specs.WellFormed.{count_up}
use Rattle.std.proofs.Common.{rules, ◌≡◌, ◌∙◌, ◌+◌, drop, false, length, get_or, take, sym, ap, arith, length-set, w32, slice_set, to_z, of_z, pos}
use Rattle.tick_jobs.proofs.Copies.{below_at, taken_at, row_more}
use Rattle.tick_jobs.proofs.InARow.{following_at}
use Rattle.tick_jobs.proofs.job.write_in_a_row.Goals as goal

pub bounds-copies-inputs : goal.bounds-copies-inputs
bounds-copies-inputs c =
    let b = below_at (length c.args.copies.now) c.args.inputs.now c.loop-i.i 0 c.requires.inputs (omega arith) in
    let at = following_at c.args.inputs.now c.loop-i.i 0 c.requires.follow (omega arith) in
    omega (arith, b, at, c.loop-i.invariant.long)

pub offset_bounds-copies-inputs : goal.offset_bounds-copies-inputs
offset_bounds-copies-inputs c =
    let b = below_at (length c.args.copies.now) c.args.inputs.now c.loop-i.i 0 c.requires.inputs (omega arith) in
    let at = following_at c.args.inputs.now c.loop-i.i 0 c.requires.follow (omega arith) in
    omega (arith, b, at, c.loop-i.invariant.long)

pub loop-i-preserved : goal.loop-i-preserved
loop-i-preserved c =
    let copies = c.loop-i.copies in
    let i = c.loop-i.i in
    let inputs = c.args.inputs.now in
    let row = c.args.row.now in
    let x = get_or (take (length inputs) row) i (pos 0) in
    let fits : to_z w32 (of_z w32 x) ≡ x = search rules in
    let at = following_at inputs i 0 c.requires.follow (omega arith) in
    record {
      long = length-set _ _ _ ∙ c.loop-i.invariant.long;
      told = ap (λ n. with_row (count_up 0 (length c.args.copies.now)) (drop (i + 1) inputs) (drop (i + 1) row) (slice_set copies n (record { value = to_z w32 (of_z w32 x); modified = false }))) (sym at)
          ∙ row_more inputs row copies (length c.args.copies.now) i _ _ _ (sym c.loop-i.invariant.long) c.requires.inputs (omega arith) (omega (arith, c.requires.row)) (fits ∙ taken_at _ row _ (omega (arith, c.requires.row))) ∙ c.loop-i.invariant.told;
    }
