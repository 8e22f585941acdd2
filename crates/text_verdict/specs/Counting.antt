-- What `check` counts of a program, and the line that reports it.
use Rattle.std.specs.Prelude.{ℕ, List, ◌++◌, codes, decimal}
use Rattle.forec_tree.specs.Terms.{Text}
use Rattle.forec_check.specs.Checked.{count_inputs, count_outputs}
use Rattle.forec_check.specs.Instances.{main_number}
use Rattle.forec_tree.specs.Threads.{instances}
use Rattle.text_verdict.specs.declared.counts.Counts.{Counts}

abbrev pub counts_of : Text → List (List ℕ) → Counts
counts_of text names = record { threads = instances text (main_number names text); inputs = count_inputs text; outputs = count_outputs text }

-- `ok threads T inputs I outputs O`
unfoldable pub counts_line : Counts → List ℕ
counts_line c = codes "ok threads " ++ decimal c.threads ++ codes " inputs " ++ decimal c.inputs ++ codes " outputs " ++ decimal c.outputs ++ codes "\n"
