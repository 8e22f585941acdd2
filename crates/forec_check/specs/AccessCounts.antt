-- Thread instances that name a global, counted up to two.
use Rattle.std.specs.Prelude.{ℕ, ◌+◌, ◌<◌, ◌==◌, ◌≡◌, Bool, true, false, cond, ◌||◌, ◌&&◌, nat_lt, min, Option, Some, None, List, [], ◌∷◌, ◌++◌, reverse, length, take, slice_index_or}
use Rattle.forec_check.specs.AccessScan.{TextAccess, AccessScan, no_access, closed, accessing_instances, as_access, access_step, program_namings}
use Rattle.forec_tree.specs.Findings.{in_function}
use Rattle.forec_tree.specs.Pauses.{within}
use Rattle.forec_tree.specs.Rules.{fault_if, is_plain}
use Rattle.forec_tree.specs.Faults.{is_in, ReachesByCalls}
use Rattle.forec_tree.specs.declared.fault.Fault.{Fault}
use Rattle.forec_tree.specs.declared.rule.TheConstants as rule
use Rattle.loop_check.specs.Known.{is_function}
use Rattle.forec_check.specs.Table.{Settles}
use Rattle.program_walk.specs.Walk.{effects_of}
use Rattle.forec_check.specs.declared.instances.access_count.AccessTally.{AccessTally}
use Rattle.forec_tree.specs.Terms.{Text, PlainItem, IsGlobal, IsFunction, PlainFunction}
use Rattle.program_walk.specs.declared.walk.effects.Effect.{Effect}
use Rattle.program_walk.specs.declared.walk.effects.Effect.TheVariants as effect
use Rattle.forec_check.specs.declared.instances.access_count.AccessCount.{AccessCount}

-- counts past two are all one
abbrev pub capped_access : TextAccess → TextAccess
capped_access n = record { own = n.own; below = min n.below 2 }

abbrev pub access_of : AccessCount → TextAccess
access_of f = record { own = f.own; below = f.below }

abbrev pub no_access_count : AccessCount
no_access_count = record { own = false; below = 0 }

abbrev pub access_at : List AccessCount → ℕ → TextAccess
access_at table id = access_of (slice_index_or table id no_access_count)

-- the same, of the effects of a body
module _ (g : ℕ) (called : ℕ → TextAccess) where
  abbrev pub scan_effect : AccessScan → Effect → AccessScan
  scan_effect r (effect.Accesses id) = record { own = r.own || (id == g); below = r.below; round = r.round }
  scan_effect r (effect.Computes id) = r
  scan_effect r (effect.Runs id) = record { own = r.own || (called id).own; below = r.below + (called id).below; round = r.round }
  scan_effect r (effect.Starts id) = record { own = r.own; below = r.below + accessing_instances (called id); round = r.round }
  scan_effect r effect.Opens = record { own = false; below = r.below; round = r.own ∷ r.round }
  scan_effect r effect.Closes = closed r r.round

  abbrev pub scan_effects : AccessScan → List Effect → AccessScan
  scan_effects r [] = r
  scan_effects r (e ∷ rest) = scan_effects (scan_effect r e) rest

-- the step of a table that counts up to two
abbrev pub capped_step : Text → ℕ → (ℕ → TextAccess) → ℕ → TextAccess
capped_step text g called id = capped_access (access_step text g called id)

-- a table as the namings of functions
abbrev pub called_access : List AccessCount → ℕ → TextAccess
called_access table id = capped_access (access_at table id)

abbrev pub scan_of : AccessTally → AccessScan
scan_of t = record { own = t.own; below = t.below; round = reverse t.round.items }

-- the same up to two
pub record AlikeUpToTwo (a b : AccessScan) : Type 0 where
  pub own : a.own ≡ b.own
  pub below : min a.below 2 ≡ min b.below 2
  pub round : a.round ≡ b.round

abbrev pub CountsEffect : AccessTally → AccessTally → ℕ → List AccessCount → Effect → Type 0
CountsEffect old new g table e = (r : AccessScan) → AlikeUpToTwo (scan_of old) r → AlikeUpToTwo (scan_of new) (scan_effect g (called_access table) r e)

-- the effects of a function; none where there is no function
abbrev pub effects_in : Text → Option PlainFunction → List Effect
effects_in text None = []
effects_in text (Some f) = effects_of (in_function text f)

-- the naming of each function, up to two
abbrev pub access_value : Text → ℕ → ℕ → TextAccess
access_value text g = within no_access (capped_step text g) (length text)

-- the faults of plain globals that two instances name
abbrev pub access_fault : Text → List (List ℕ) → PlainItem → List Fault
access_fault text names (IsGlobal g) = fault_if (is_plain g.kind && nat_lt 1 (program_namings text names g.name.id)) g.name.place rule.PLAIN_IN_TWO_THREADS
access_fault text names (IsFunction f) = []

abbrev pub access_faults : Text → List (List ℕ) → List PlainItem → List Fault
access_faults text names [] = []
access_faults text names (i ∷ rest) = access_fault text names i ++ access_faults text names rest

-- all functions, in an order in which each one's naming follows from those before it
pub record Orders (text : Text) (order : List ℕ) : Type 0 where
  pub settles : (g : ℕ) → Settles no_access (capped_step text g) (access_value text g) order
  pub whole : (f : ℕ) → is_function text f ≡ true → is_in f order ≡ true
  pub free : (f : ℕ) → ReachesByCalls text f f → ⊥
