use Rattle.std.proofs.Common.{◌<◌, ◌*◌, ◌+ℤ◌, ◌<ℤ◌, ◌≤ℤ◌, pos, sym, arith}
use Rattle.std.specs.Prelude.{int_lt}
use Rattle.std.proofs.lemmas.Int.{ints}
use Rattle.loop_check.proofs.Arithmetic.{up_some, up_long, up_out, none_pass, lt_false, fits_32, steps_mono}
use Rattle.loop_check.proofs.runs.run_up.Goals as goal

pub returns-then-limit-from : goal.returns-then-limit-from
returns-then-limit-from c =
    let t = c.if-limit-from.true in
    let q : c.args.limit ≤ℤ c.args.from = omega (arith, ints, t) in
    sym (none_pass 1000001 (λ v. int_lt v c.args.limit) (pos c.args.by) c.args.from (omega arith) (lt_false c.args.from c.args.limit q) (fits_32 c.args.from c.requires.from))

pub returns-then-turns : goal.returns-then-turns
returns-then-turns c =
    let h = c.if-turns.true in
    sym (up_long 1000001 c.args.from c.args.limit c.args.by c.steps-turns.result c.gap.result
    c.steps-turns.ensures.some c.steps-turns.ensures.reach c.steps-turns.ensures.last (fits_32 c.args.from c.requires.from) (omega (arith, ints, c.gap.ensures)) (omega (arith, h)))

pub returns-then-from-last-gt2147483647 : goal.returns-then-from-last-gt2147483647
returns-then-from-last-gt2147483647 c =
    let h = c.if-from-last-gt2147483647.true in
    let small = c.if-turns.false in
    let range = c.ranges.by in
    let most = steps_mono c.steps-turns.result 1000000 c.args.by (omega (arith, small)) in
    let q : pos 2147483647 <ℤ (c.args.from +ℤ pos (c.steps-turns.result * c.args.by)) = omega (arith, ints, h, most, range) in
    sym (up_out 1000001 c.args.from c.args.limit c.args.by c.steps-turns.result c.gap.result
    c.steps-turns.ensures.some c.steps-turns.ensures.reach c.steps-turns.ensures.last (fits_32 c.args.from c.requires.from) (omega (arith, ints, c.gap.ensures)) q)

pub returns : goal.returns
returns c =
    let small = c.if-turns.false in
    let below : c.steps-turns.result < 1000001 = omega (arith, small) in
    let h = c.if-from-last-gt2147483647.false in
    let range = c.ranges.by in
    let most = steps_mono c.steps-turns.result 1000000 c.args.by (omega (arith, small)) in
    let q : (c.args.from +ℤ pos (c.steps-turns.result * c.args.by)) ≤ℤ pos 2147483647 = omega (arith, ints, h, most, range) in
    sym (up_some 1000001 c.args.from c.args.limit c.args.by c.steps-turns.result c.gap.result
    c.steps-turns.ensures.some c.steps-turns.ensures.reach c.steps-turns.ensures.last (fits_32 c.args.from c.requires.from) (omega (arith, ints, c.gap.ensures)) below q)
