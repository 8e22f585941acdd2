-- The least of some faults, one after the other.
use Rattle.std.specs.Prelude.{cond, Bool, true, Option, Some, None, List, [], ◌∷◌}
use Rattle.forec_tree.specs.declared.fault.Fault.{Fault}
use Rattle.forec_tree.specs.Findings.{Finding}
use Rattle.forec_tree.specs.Rules.{Judging, findings_faults}
use Rattle.forec_tree.specs.Faults.{is_before}

-- a fault is less than the one kept, if any
abbrev pub improves : Option Fault → Fault → Bool
improves None f = true
improves (Some kept) f = is_before f kept

abbrev pub lesser : Option Fault → Fault → Fault
lesser None f = f
lesser (Some kept) f = cond (is_before f kept) f kept

unfoldable pub least_from : Option Fault → List Fault → Option Fault
least_from kept [] = kept
least_from kept (f ∷ rest) = least_from (Some (lesser kept f)) rest

-- the least of what was kept and of the faults in some findings
unfoldable pub judged : Judging → List Finding → Option Fault → Option Fault
judged j fs kept = least_from kept (findings_faults j fs)
