-- The faults of findings that stand one after the other.
use Rattle.std.proofs.Common.{◌≡◌, ◌∙◌, sym, ap, refl, List, [], ◌∷◌, ◌++◌, append_assoc}
use Rattle.forec_tree.specs.Findings.{Finding}
use Rattle.forec_tree.specs.Rules.{Judging, finding_faults, findings_faults}

pub findings-append : (j : Judging) (xs ys : List Finding) → findings_faults j (xs ++ ys) ≡ findings_faults j xs ++ findings_faults j ys
findings-append j [] ys = refl
findings-append j (x ∷ xs) ys = ap (λ r. finding_faults j x ++ r) (findings-append j xs ys) ∙ sym (append_assoc (finding_faults j x) (findings_faults j xs) (findings_faults j ys))
