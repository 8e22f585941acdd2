use Rattle.std.proofs.Common.{◌<◌, ◌*◌, ◌-ℤ◌, ◌<ℤ◌, ◌≤ℤ◌, pos, negsuc, neg_ℤ, sym, arith}
use Rattle.std.specs.Prelude.{int_lt}
use Rattle.std.proofs.lemmas.Int.{ints}
use Rattle.loop_check.proofs.Arithmetic.{down_some, down_long, down_out, none_pass, lt_false, fits_32, steps_mono}
use Rattle.loop_check.proofs.runs.run_down.Goals as goal

pub returns-then-from-limit : goal.returns-then-from-limit
returns-then-from-limit c =
    let t = c.if-from-limit.true in
    let q : c.args.from ≤ℤ c.args.limit = omega (arith, ints, t) in
    sym (none_pass 1000001 (λ v. int_lt c.args.limit v) (neg_ℤ (pos c.args.by)) c.args.from (omega arith) (lt_false c.args.limit c.args.from q) (fits_32 c.args.from c.requires.from))

pub returns-then-turns : goal.returns-then-turns
returns-then-turns c =
    let h = c.if-turns.true in
    sym (down_long 1000001 c.args.from c.args.limit c.args.by c.steps-turns.result c.gap.result
    c.steps-turns.ensures.some c.steps-turns.ensures.reach c.steps-turns.ensures.last (fits_32 c.args.from c.requires.from) (omega (arith, ints, c.gap.ensures)) (omega (arith, h)))

pub returns-then-from-last-ltminus2147483648 : goal.returns-then-from-last-ltminus2147483648
returns-then-from-last-ltminus2147483648 c =
    let h = c.if-from-last-ltminus2147483648.true in
    let small = c.if-turns.false in
    let range = c.ranges.by in
    let most = steps_mono c.steps-turns.result 1000000 c.args.by (omega (arith, small)) in
    let q : (c.args.from -ℤ pos (c.steps-turns.result * c.args.by)) <ℤ negsuc 2147483647 = omega (arith, ints, h, most, range) in
    sym (down_out 1000001 c.args.from c.args.limit c.args.by c.steps-turns.result c.gap.result
    c.steps-turns.ensures.some c.steps-turns.ensures.reach c.steps-turns.ensures.last (fits_32 c.args.from c.requires.from) (omega (arith, ints, c.gap.ensures)) q)

pub returns : goal.returns
returns c =
    let small = c.if-turns.false in
    let below : c.steps-turns.result < 1000001 = omega (arith, small) in
    let h = c.if-from-last-ltminus2147483648.false in
    let range = c.ranges.by in
    let most = steps_mono c.steps-turns.result 1000000 c.args.by (omega (arith, small)) in
    let q : negsuc 2147483647 ≤ℤ (c.args.from -ℤ pos (c.steps-turns.result * c.args.by)) = omega (arith, ints, h, most, range) in
    sym (down_some 1000001 c.args.from c.args.limit c.args.by c.steps-turns.result c.gap.result
    c.steps-turns.ensures.some c.steps-turns.ensures.reach c.steps-turns.ensures.last (fits_32 c.args.from c.requires.from) (omega (arith, ints, c.gap.ensures)) below q)
