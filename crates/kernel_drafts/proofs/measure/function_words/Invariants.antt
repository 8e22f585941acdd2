use Rattle.std.proofs.Common.{◌≡◌, ◌++◌, map, drop}
use Rattle.kernel_drafts.specs.Measures.{words_of_shape}
use Rattle.kernel_drafts.proofs.measure.function_words.Given as goal

abbrev pub invariant-loop-shape : goal.invariant-loop-shape
invariant-loop-shape l = l.list.items ++ map words_of_shape (drop l.shape-index l.shapes) ≡ map words_of_shape l.fn.shapes
