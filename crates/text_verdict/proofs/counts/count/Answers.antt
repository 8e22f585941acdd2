use Rattle.std.proofs.Common.{◌≡◌, ℕ, ap, ◌∙◌, arith}
use Rattle.forec_tree.specs.Threads.{instances}
use Rattle.forec_check.specs.Checked.{checked_text, names_of, count_inputs}
use Rattle.forec_check.specs.Instances.{main_number}
use Rattle.text_verdict.specs.declared.counts.Counts.{Counts}
use Rattle.text_verdict.proofs.counts.count.Goals as goal

abbrev counts : ℕ → ℕ → ℕ → Counts
counts t i o = record { threads = t; inputs = i; outputs = o }

pub returns : goal.returns
returns c =
    let text = checked_text c.args.checked.now in
    let all : ℕ = instances text (main_number (names_of c.args.checked.now) text) in
    let threads : c.in_ok-threads.threads ≡ all = (let e = c.in_ok-threads.ensures in let few = c.requires in omega (arith, e, few)) in
    ap (λ n. counts n c.inputs.result c.outputs.result) threads ∙ (ap (λ n. counts all n c.outputs.result) c.inputs.ensures ∙ ap (counts all (count_inputs text)) c.outputs.ensures)
