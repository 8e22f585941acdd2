use Rattle.std.proofs.Common.{◌≡◌, max, drop}
use Rattle.loop_check.specs.Views.{indexed_text}
use Rattle.text_kernel.specs.Items.{globals_of}
use Rattle.text_chains.specs.Peaks.{peak_over}
use Rattle.text_chains.specs.Views.{value_by}
use Rattle.text_chains.proofs.peaks.peaks_with.Given as goal

abbrev pub invariant-loop-global : goal.invariant-loop-global
invariant-loop-global l =
    max l.most (peak_over (value_by l.w) (indexed_text l.w.globals.now.index) l.first (globals_of (drop l.global-index l.globals))) ≡ peak_over (value_by l.fn.w) (indexed_text l.fn.w.globals.now.index) l.fn.first (globals_of l.fn.globals)
