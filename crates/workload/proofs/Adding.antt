-- The text, when its last line is added.
use Rattle.std.proofs.Common.{◌≡◌, ℕ, List, ◌++◌, ap, ◌∙◌, append_assoc, codes}
use Rattle.workload.specs.Text.{head_lines, workload_lines_to, workload_text}

pub whole : (threads n : ℕ) (text : List ℕ) → n ≡ threads → text ≡ head_lines ++ workload_lines_to threads n →
    text ++ codes "void main(void) { par(t1); }\n" ≡ workload_text threads
unfolding workload_text
whole threads n text same is =
    ap (λ t. t ++ codes "void main(void) { par(t1); }\n") (is ∙ ap (λ m. head_lines ++ workload_lines_to threads m) same)
    ∙ append_assoc head_lines (workload_lines_to threads threads) (codes "void main(void) { par(t1); }\n")
