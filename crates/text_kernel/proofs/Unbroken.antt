-- Findings that break no rule; in an int function none of the rule on endless loops either.
use Rattle.std.proofs.Common.{◌≡◌, ◌∙◌, sym, ap, refl, true, List, [], ◌∷◌, ◌++◌, append_assoc}
use Rattle.forec_tree.specs.Terms.{Text}
use Rattle.forec_tree.specs.Findings.{Finding, Use, Declares, Bound, Loop, Synchronous, Gives, Opens, Closes}
use Rattle.forec_tree.specs.Rules.{Judging, fault_if, endless, loop_place, findings_faults, loop_faults}
use Rattle.text_kernel.proofs.Fine.{none_left, none_right, parts_left, parts_right}

pub record Unbroken (text : Text) (j : Judging) (fs : List Finding) : Type 0 where
  pub rules : findings_faults j fs ≡ []
  pub loops : j.gives ≡ true → loop_faults text fs ≡ []

pub loops_append : (text : Text) (xs ys : List Finding) → loop_faults text (xs ++ ys) ≡ loop_faults text xs ++ loop_faults text ys
loops_append text [] ys = refl
loops_append text (Loop x ∷ xs) ys =
    let here = fault_if (endless text x) (loop_place x) 20 in
    ap (λ l. here ++ l) (loops_append text xs ys) ∙ sym (append_assoc here (loop_faults text xs) (loop_faults text ys))
loops_append text (Use how name m ∷ xs) ys = loops_append text xs ys
loops_append text (Declares name again size values ∷ xs) ys = loops_append text xs ys
loops_append text (Bound n ∷ xs) ys = loops_append text xs ys
loops_append text (Synchronous place ∷ xs) ys = loops_append text xs ys
loops_append text (Gives place ∷ xs) ys = loops_append text xs ys
loops_append text (Opens ∷ xs) ys = loops_append text xs ys
loops_append text (Closes ∷ xs) ys = loops_append text xs ys

pub unbroken_left : (text : Text) (j : Judging) (xs ys : List Finding) → Unbroken text j (xs ++ ys) → Unbroken text j xs
unbroken_left text j xs ys h =
    record {
      rules = parts_left j xs ys h.rules;
      loops = λ g. none_left (loop_faults text xs) (loop_faults text ys) (sym (loops_append text xs ys) ∙ h.loops g);
    }

pub unbroken_right : (text : Text) (j : Judging) (xs ys : List Finding) → Unbroken text j (xs ++ ys) → Unbroken text j ys
unbroken_right text j xs ys h =
    record {
      rules = parts_right j xs ys h.rules;
      loops = λ g. none_right (loop_faults text xs) (loop_faults text ys) (sym (loops_append text xs ys) ∙ h.loops g);
    }
