use Rattle.std.proofs.Common.{◌≡◌, ◌∙◌, ◌++◌, ◌-◌, ℕ, List, ap, append_assoc, arith, codes}
use Rattle.workload.specs.Text.{head_lines, workload_lines_to, workload_text}
use Rattle.workload.proofs.Adding.{whole}
use Rattle.workload.proofs.workload_text.Goals as goal

pub returns : goal.returns
returns c =
    let last : c.loop-thread.thread - 1 ≡ c.args.threads = omega (arith, c.loop-thread-test.false, c.loop-thread.invariant.some, c.loop-thread.auto.thread) in
    c.in_ok-add-3.ensures ∙ whole c.args.threads (c.loop-thread.thread - 1) c.loop-thread.text.items last c.loop-thread.invariant.text
