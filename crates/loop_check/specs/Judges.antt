-- The text that a judge of loops judges by.
use Rattle.forec_tree.specs.Terms.{Text}
use Rattle.loop_check.specs.declared.table.Pauses.{Pauses}
use Rattle.loop_check.specs.Views.{indexed_text}

abbrev pub judge_text : Pauses → Text
judge_text p = indexed_text p.index
