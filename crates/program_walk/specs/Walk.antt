-- What a walk through a body keeps of its findings.
use Rattle.std.specs.Prelude.{ℕ, Option, Some, None, List, [], ◌∷◌, ◌++◌, map}
use Rattle.forec_tree.specs.declared.fault.Fault.{Fault}
use Rattle.forec_tree.specs.declared.tree.Name.{Name}
use Rattle.forec_tree.specs.declared.uses.How.{How}
use Rattle.forec_tree.specs.declared.uses.How.TheVariants as how
use Rattle.forec_tree.specs.declared.uses.Meaning.{Meaning}
use Rattle.forec_tree.specs.declared.uses.Meaning.TheVariants as means
use Rattle.std.specs.declared.vec.Vec.{Vec}
use Rattle.std.specs.declared.alloc.Global.{Global}
use Rattle.forec_tree.specs.Terms.{Text, PlainItem, Statement}
use Rattle.program_walk.specs.Items.{in_item}
use Rattle.forec_tree.specs.Plain.{statement}
use Rattle.forec_tree.specs.Findings as finding
use Rattle.forec_tree.specs.Findings.{Finding}
use Rattle.forec_tree.specs.Rules.{Judging}
use Rattle.fault_order.specs.Least.{judged}
use Rattle.program_walk.specs.declared.walk.effects.Effect.{Effect}
use Rattle.program_walk.specs.declared.walk.effects.Effect.TheVariants as effect
use Rattle.program_walk.specs.declared.walk.effects.Notes.{Notes}

pub record NotesView : Type 0 where
  pub least : Option Fault
  pub effects : List Effect

abbrev pub notes_of : Notes → NotesView
notes_of f = record { least = f.least; effects = f.effects.items }

-- what a use of a name is, where it means that
abbrev pub effect_of : How → ℕ → Meaning → Option Effect
effect_of (how.Computes n) id (means.Function gives params) = Some (effect.Computes id)
effect_of (how.Runs n) id (means.Function gives params) = Some (effect.Runs id)
effect_of (how.Starts n) id (means.Function gives params) = Some (effect.Starts id)
effect_of how id (means.Global kind array) = Some (effect.Accesses id)
effect_of how id m = None

abbrev pub as_list : {A : Type 0} → Option A → List A
as_list None = []
as_list (Some a) = a ∷ []

abbrev pub finding_effects : Finding → List Effect
finding_effects (finding.Use how name m) = as_list (effect_of how name.id m)
finding_effects finding.Opens = effect.Opens ∷ []
finding_effects finding.Closes = effect.Closes ∷ []
finding_effects _ = []

abbrev pub effects_of : List Finding → List Effect
effects_of [] = []
effects_of (f ∷ rest) = finding_effects f ++ effects_of rest

-- what is kept after some findings
unfoldable pub walked : Judging → List Finding → NotesView → NotesView
walked j fs s = record { least = judged j fs s.least; effects = s.effects ++ effects_of fs }

-- the effects of an item
abbrev pub item_effects : Text → PlainItem → List Effect
item_effects text i = effects_of (in_item text i)

abbrev pub effects_lists : List (Vec Effect Global) → List (List Effect)
effects_lists vs = map (λ v. v.items) vs
