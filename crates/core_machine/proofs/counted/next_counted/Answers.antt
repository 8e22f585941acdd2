use Rattle.std.proofs.Common.{rules, ◌≡◌, ◌∙◌, ℕ, List, length, get_or, take, sym, ap, arith, true, false}
use Rattle.std.proofs.lemmas.List.{take_all}
use Rattle.forec_base.specs.declared.Policy.TheVariants as policy
use Rattle.forec_kernel.specs.Combining.{variable_of}
use Rattle.forec_kernel.specs.Shapes.{plain_shape}
use Rattle.thread_code.specs.Valid.{of_shape}
use Rattle.thread_state.specs.Kept.{no_copy}
use Rattle.core_machine.proofs.Counting.{passed_more}
use Rattle.core_machine.proofs.counted.next_counted.Goals as goal

pub loop-i-preserved : goal.loop-i-preserved
loop-i-preserved c =
    let kernel = of_shape (plain_shape c.args.shape.now) in
    let uses = c.args.uses.now in
    let copies = c.args.copies.now in
    let i = c.loop-i.i in
    let all : take (length copies) uses ≡ uses = take_all (length copies) uses (omega (arith, c.requires.long)) in
    let alone : c.marks_alone.result ≡ true = search rules in
    let marks : (variable_of kernel (get_or uses i 0)).policy ≡ policy.Mod =
    ap (λ (vs : List ℕ). (variable_of kernel (get_or vs i 0)).policy) (sym all) ∙ c.marks_alone.ensures alone in
    let unmarked : (get_or copies i no_copy).modified ≡ false = search rules in
    passed_more kernel uses copies c.args.from i c.loop-i.invariant unmarked marks
