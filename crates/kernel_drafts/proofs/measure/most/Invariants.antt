use Rattle.std.proofs.Common.{◌≡◌, ◌-◌, ◌^◌, ◌≤◌, min, max, length}
use Rattle.forec_kernel.specs.WellFormed.{greatest, count_up}
use Rattle.text_kernel.specs.Limits.{thread_words, thread_depth}
use Rattle.kernel_drafts.specs.Measures.{plain_draft}
use Rattle.kernel_drafts.proofs.measure.most.Given as goal

abbrev pub invariant-loop-t : goal.invariant-loop-t
invariant-loop-t l =
    let k = plain_draft l.draft in
    let n = length l.draft.texts.items in
    record {
      small_words : l.most.words ≤ 2 ^ 64 - 1;
      small_depth : l.most.depth ≤ 2 ^ 64 - 1;
      words : min (max l.most.words (greatest (thread_words k) (count_up l.t (n - l.t)))) (2 ^ 64 - 1) ≡ min (greatest (thread_words k) (count_up 0 n)) (2 ^ 64 - 1);
      depth : min (max l.most.depth (greatest (thread_depth k) (count_up l.t (n - l.t)))) (2 ^ 64 - 1) ≡ min (greatest (thread_depth k) (count_up 0 n)) (2 ^ 64 - 1);
    }
