use Rattle.std.proofs.Common.{ℕ, ◌≡◌, ◌<◌, ◌||◌, length, drop, map}
use Rattle.forec_tree.specs.Faults.{is_in}
use Rattle.kernel_drafts.specs.Marks.{is_marked}
use Rattle.lower_names.specs.Views.{of_thread}
use Rattle.kernel_drafts.specs.Drafts.{vars_bare}
use Rattle.kernel_drafts.proofs.shapes.marks_of.Given as goal

abbrev pub invariant-loop-thread : goal.invariant-loop-thread
invariant-loop-thread l =
    record {
      long : length l.marks.items ≡ l.count;
      told : (v : ℕ) → v < l.count → (is_marked l.marks.items v || is_in v (vars_bare (map of_thread (drop l.thread-index l.threads)))) ≡ is_in v (vars_bare (map of_thread l.fn.threads));
    }
