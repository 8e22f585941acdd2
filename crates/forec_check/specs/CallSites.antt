-- Which one site a function is called from, and which one instance a text stands in or a global is named by.
use Rattle.std.specs.Prelude.{ℕ, suc, ◌≡◌, ◌==◌, ◌<◌, ◌≢◌, Bool, true, false, ◌&&◌, nat_lt, Option, Some, None, List, [], ◌∷◌, reverse, length, slice_index_or}
use Rattle.forec_tree.specs.Terms.{Text}
use Rattle.forec_tree.specs.Pauses.{find_function}
use Rattle.program_walk.specs.declared.walk.effects.Effect.{Effect}
use Rattle.program_walk.specs.declared.walk.effects.Effect.TheVariants as effect
use Rattle.forec_check.specs.declared.instances.call_sites.CallSite.{CallSite}
use Rattle.forec_check.specs.declared.instances.call_sites.CallSites.{CallSites}
use Rattle.forec_check.specs.declared.instances.call_sites.CallSites.TheVariants as sites
use Rattle.forec_check.specs.declared.instances.propagate.SiteTables.{SiteTables}
use Rattle.forec_check.specs.declared.instances.propagate.OpenInstances.{OpenInstances}
use Rattle.forec_check.specs.AccessCounts.{effects_in}

abbrev pub same_call_site : CallSite → CallSite → Bool
same_call_site a b = (a.function == b.function) && (a.effect == b.effect)

-- a set is part of another, as far as the two tell
abbrev pub is_within : CallSites → CallSites → Bool
is_within sites.None whole = true
is_within (sites.One a) sites.None = false
is_within (sites.One a) (sites.One b) = same_call_site a b
is_within (sites.One a) sites.Many = true
is_within sites.Many sites.None = false
is_within sites.Many (sites.One b) = false
is_within sites.Many sites.Many = true

abbrev pub sites_at : List CallSites → ℕ → CallSites
sites_at table id = slice_index_or table id sites.None

abbrev pub no_sites : CallSites
no_sites = sites.None

-- the instances that start at a site, in a function that is called from some sites
abbrev pub opened_sites : CallSites → CallSite → CallSites
opened_sites sites.None site = sites.None
opened_sites (sites.One a) site = sites.One site
opened_sites sites.Many site = sites.Many

-- the tables by number
pub record SiteMaps : Type 0 where
  pub calls : ℕ → CallSites
  pub texts : ℕ → CallSites
  pub globals : ℕ → CallSites

abbrev pub site_maps : SiteTables → SiteMaps
site_maps t = record { calls = sites_at t.calls.items; texts = sites_at t.texts.items; globals = sites_at t.globals.items }

pub record SameTables (a b : SiteTables) : Type 0 where
  pub calls : b.calls.items ≡ a.calls.items
  pub texts : b.texts.items ≡ a.texts.items
  pub globals : b.globals.items ≡ a.globals.items

-- the instances whose text is read, and those of the texts round it, innermost first
pub record InstanceView : Type 0 where
  pub here : CallSites
  pub round : List CallSites

abbrev pub instances_around : OpenInstances → InstanceView
instances_around r = record { here = r.here; round = reverse r.round.items }

abbrev pub view_after_block : CallSites → List CallSites → InstanceView
view_after_block here [] = record { here = here; round = [] }
view_after_block here (outer ∷ rest) = record { here = outer; round = rest }

-- where an effect leads
abbrev pub inside_after : Effect → CallSites → InstanceView → InstanceView
inside_after effect.Opens site r = record { here = site; round = r.here ∷ r.round }
inside_after effect.Closes site r = view_after_block r.here r.round
inside_after _ site r = r

-- the tables hold what an effect tells
abbrev pub Holds : SiteMaps → Effect → CallSites → InstanceView → Type 0
Holds t (effect.Accesses id) site r = is_within r.here (t.globals id) ≡ true
Holds t (effect.Runs id) site r = (is_within site (t.calls id) ≡ true) × (is_within r.here (t.texts id) ≡ true)
Holds t (effect.Starts id) site r = (is_within site (t.calls id) ≡ true) × (is_within site (t.texts id) ≡ true)
Holds t _ site r = Unit {0}

-- an effect moves nothing
pub record MovesNothing (t : SiteMaps) (e : Effect) (site : CallSites) (before after : InstanceView) : Type 0 where
  pub holds : Holds t e site before
  pub next : after ≡ inside_after e site before

-- the same of the tables and the instances as they are kept
abbrev pub RestsAround : SiteTables → Effect → CallSites → OpenInstances → OpenInstances → Type 0
RestsAround tables e site before after = MovesNothing (site_maps tables) e site (instances_around before) (instances_around after)

-- The tables hold what the effects from number n on of the body of f tell, and each block in it ends.
abbrev pub HoldsEffects : SiteMaps → ℕ → ℕ → InstanceView → List Effect → Type 0
HoldsEffects t f n r [] = r.round ≡ []
HoldsEffects t f n r (e ∷ rest) =
    Holds t e (opened_sites (t.calls f) (record { function = f; effect = n })) r
    × HoldsEffects t f (suc n) (inside_after e (opened_sites (t.calls f) (record { function = f; effect = n })) r) rest

-- the text of a function outside of its blocks
abbrev pub outermost : SiteMaps → ℕ → InstanceView
outermost t f = record { here = t.texts f; round = [] }

abbrev pub body_settled : Text → SiteMaps → ℕ → Type 0
body_settled text t f = HoldsEffects t f 1 (outermost t f) (effects_in text (find_function f text))

-- the tables hold what the body of a function tells, where it is called
abbrev pub SettlesCalled : Text → SiteTables → ℕ → Type 0
SettlesCalled text tables f = (site_maps tables).calls f ≢ sites.None → body_settled text (site_maps tables) f

-- where a program starts
abbrev pub start_site : ℕ → CallSites
start_site first = sites.One (record { function = first; effect = 0 })

-- the tables of a whole program, whose functions stand in a list
pub record AllSettled (text : Text) (first : ℕ) (functions : List ℕ) (t : SiteMaps) : Type 0 where
  pub calls : is_within (start_site first) (t.calls first) ≡ true
  pub texts : is_within (start_site first) (t.texts first) ≡ true
  pub bodies : (k : ℕ) → k < length functions → t.calls (slice_index_or functions k 0) ≢ sites.None → body_settled text t (slice_index_or functions k 0)
