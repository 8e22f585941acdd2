use Rattle.std.proofs.Common.{◌≡◌, ap, sym, ◌∙◌, subst, IfOk}
use Rattle.forec_kernel.specs.Plain.{stmt, stmts}
use Rattle.forec_kernel.proofs.VecTerms.{stmt-sequence}
use Rattle.code_gen.specs.Blocks.{flags_in, flags_of}
use Rattle.code_gen.proofs.generator.+flags.Goals as goal

pub flags-returns-in-Sequence : goal.flags-returns-in-Sequence
flags-returns-in-Sequence t c =
    subst (λ m. IfOk c.flags_within.result (λ n. n ≡ m)) (ap (λ l. flags_of (stmts l)) c.deref.ensures.value ∙ sym (ap flags_in (ap stmt c.in-Sequence.is ∙ stmt-sequence c.in-Sequence.list))) c.flags_within.ensures
