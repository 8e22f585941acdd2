use Rattle.std.proofs.Common.{◌≡◌, ap, sym, ◌∙◌, subst, IfOk}
use Rattle.forec_kernel.specs.Plain.{stmt, stmts}
use Rattle.forec_kernel.proofs.VecTerms.{stmt-sequence}
use Rattle.code_gen.specs.Blocks.{counters_in, counters_of}
use Rattle.code_gen.proofs.generator.+counters.Goals as goal

pub counters-returns-in-Sequence : goal.counters-returns-in-Sequence
counters-returns-in-Sequence t c =
    subst (λ m. IfOk c.counters_within.result (λ n. n ≡ m)) (ap (λ l. counters_of (stmts l)) c.deref.ensures.value ∙ sym (ap counters_in (ap stmt c.in-Sequence.is ∙ stmt-sequence c.in-Sequence.list))) c.counters_within.ensures
