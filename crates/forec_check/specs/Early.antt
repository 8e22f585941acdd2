-- The rules that ask for no thread, with the chains of calls.
use Rattle.std.specs.Prelude.{◌≡◌, ◌⊎◌, ℕ, Option, Some, None, List, [], ◌∷◌}
use Rattle.forec_tree.specs.declared.fault.Fault.{Fault}
use Rattle.forec_tree.specs.declared.rule.TheConstants as rule
use Rattle.forec_tree.specs.Terms.{Text, PlainFunction, PlainItem, IsFunction}
use Rattle.forec_tree.specs.Scopes.{find_item}
use Rattle.forec_tree.specs.Faults.{Member, ReachesByCalls, IsLeast, text_faults, called_in, in_function}
use Rattle.loop_check.specs.declared.table.Calls.{Calls}
use Rattle.loop_check.specs.Graph.{callees}
use Rattle.loop_check.specs.Known.{Read}
use Rattle.program_walk.specs.declared.walk.effects.Effect.{Effect}
use Rattle.program_walk.specs.declared.walk.effects.Effect.TheVariants as effect

-- the functions that effects call or start
abbrev pub effect_calls : List Effect → List ℕ
effect_calls [] = []
effect_calls (effect.Computes id ∷ rest) = id ∷ effect_calls rest
effect_calls (effect.Runs id ∷ rest) = id ∷ effect_calls rest
effect_calls (effect.Starts id ∷ rest) = id ∷ effect_calls rest
effect_calls (effect.Accesses id ∷ rest) = effect_calls rest
effect_calls (effect.Opens ∷ rest) = effect_calls rest
effect_calls (effect.Closes ∷ rest) = effect_calls rest

abbrev pub function_calls : Text → PlainFunction → List ℕ
function_calls text f = called_in (in_function text f)

-- the calls as they are kept: all functions of a text, and those that each calls or starts
abbrev pub KnowsCalls : Text → Calls → Type 0
KnowsCalls text calls = Read (function_calls text) text calls.functions.items (callees calls.lists.items)

-- none of a set, or its least
abbrev pub IsLeastOrNone : Option Fault → (Fault → Type 0) → Type 0
IsLeastOrNone None Is = (f : Fault) → Is f → ⊥
IsLeastOrNone (Some m) Is = IsLeast m Is

-- a function among some items that reaches itself
pub record RecursiveIn (text : Text) (xs : List PlainItem) (fault : Fault) : Type 0 where
  pub function : PlainFunction
  pub stands : Member (IsFunction function) xs
  pub first : find_item function.name.id text ≡ Some (IsFunction function)
  pub reaches : ReachesByCalls text function.name.id function.name.id
  pub is : fault ≡ record { place = function.name.place; rule = rule.CALLS_ITSELF }

abbrev pub EarlyTo : Text → List (List ℕ) → List PlainItem → Fault → Type 0
EarlyTo text names xs f = Member f (text_faults text names) ⊎ RecursiveIn text xs f
