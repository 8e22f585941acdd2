use Rattle.std.proofs.Common.{◌≡◌, ◌∙◌, sym, ap, subst, map, ℕ, List, [], true, false}
use Rattle.forec_tree.specs.Terms.{Text}
use Rattle.forec_tree.specs.Plain.{plain_item}
use Rattle.forec_tree.specs.Pauses.{callees_of}
use Rattle.forec_tree.specs.Faults.{Leads, at_once, through}
use Rattle.text_rows.proofs.loops.judged.Goals as goal

none_lead : {f g : ℕ} → Leads (callees_of []) f g → ⊥
none_lead (at_once e) = let q : false ≡ true = e in cc
none_lead (through e r) = let q : false ≡ true = e in cc

pub certain-requires : goal.certain-requires
certain-requires c = λ f l. none_lead (subst (λ (t : Text). Leads (callees_of t) f f) (ap (map plain_item) c.nothing-program.ensures) l)
