use Rattle.std.proofs.Common.{sym, subst}
use Rattle.thread_code.specs.declared.instruction.CodeParts.{CodeParts}
use Rattle.thread_code.specs.Plain.{plain_code}
use Rattle.thread_code.specs.Valid.{IsValidCode}
use Rattle.thread_code.proofs.SmallCode.{small_valid}
use Rattle.core_rows.proofs.jobs.code.Goals as goal

pub decoded-requires : goal.decoded-requires
decoded-requires c = subst IsValidCode (sym c.in_ok-parts.ensures) small_valid

pub of-requires : goal.of-requires
of-requires c = subst IsValidCode (sym c.in_ok-parts.ensures) small_valid
