use Rattle.std.proofs.Common.{rules, ◌≡◌, ◌∙◌, length, get_or, arith, length-set, w32, to_z, of_z, pos, false}
use Rattle.forec_kernel.specs.declared.shape.VarCopy.{VarCopy}
use Rattle.tick_jobs.proofs.Copies.{below_at, values_more}
use Rattle.tick_jobs.proofs.outcome.write_values.Goals as goal

pub bounds-copies-variables : goal.bounds-copies-variables
bounds-copies-variables c = below_at (length c.args.copies.now) c.args.variables.now c.loop-i.i 0 c.requires.variables (omega arith)

pub loop-i-preserved : goal.loop-i-preserved
loop-i-preserved c =
    let none : VarCopy = record { value = pos 0; modified = false } in
    let x = get_or c.args.copies.now (get_or c.args.variables.now c.loop-i.i 0) none in
    let value : to_z w32 (of_z w32 x.value) ≡ x.value = search rules in
    record {
      long = length-set _ _ _ ∙ c.loop-i.invariant.long;
      front = values_more c.args.copies.now c.args.variables.now c.loop-i.values c.loop-i.i _ none _ c.requires.variables (omega arith) (omega (arith, c.loop-i.invariant.long)) value c.loop-i.invariant.front;
    }
