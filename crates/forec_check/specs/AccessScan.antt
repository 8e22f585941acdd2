-- A walk over what stands in each function, which counts the thread instances that name a global.
use Rattle.std.specs.Prelude.{ℕ, suc, ◌+◌, ◌==◌, Bool, false, cond, ◌||◌, Option, Some, None, List, [], ◌∷◌, length}
use Rattle.forec_tree.specs.declared.uses.How.{How}
use Rattle.forec_tree.specs.declared.uses.How.TheVariants.{Runs, Starts}
use Rattle.forec_tree.specs.declared.uses.Meaning.{Meaning}
use Rattle.forec_tree.specs.declared.uses.Meaning.TheVariants as means
use Rattle.forec_tree.specs.Terms.{Text, PlainFunction}
use Rattle.forec_tree.specs.Findings.{Finding, Use, Opens, Closes, in_function}
use Rattle.forec_tree.specs.Pauses.{within, find_function}
use Rattle.forec_tree.specs.Faults.{start_name}

-- whether a text names a global itself, and how many instances below it do
pub record TextAccess : Type 0 where
  pub own : Bool
  pub below : ℕ

abbrev pub no_access : TextAccess
no_access = record { own = false; below = 0 }

-- of an instance and those below it, those that name the global
abbrev pub accessing_instances : TextAccess → ℕ
accessing_instances n = cond n.own (suc n.below) n.below

-- A thread while what stands in its text is read: whether it names the global so far, how many instances below it do, and whether
-- each thread round a block that is being read names it.
pub record AccessScan : Type 0 where
  pub own : Bool
  pub below : ℕ
  pub round : List Bool

abbrev pub scan_start : AccessScan
scan_start = record { own = false; below = 0; round = [] }

-- the end of a block that is a branch
abbrev pub closed : AccessScan → List Bool → AccessScan
closed r [] = r
closed r (own ∷ round) = record { own = own; below = r.below + cond r.own 1 0; round = round }

-- the name g of a global, with the naming of each function's body
module _ (g : ℕ) (called : ℕ → TextAccess) where
  -- a function that is called as a statement is put in place; a branch is an instance of its own
  abbrev pub scan_use : AccessScan → How → ℕ → Meaning → AccessScan
  scan_use r how id (means.Global kind array) = record { own = r.own || (id == g); below = r.below; round = r.round }
  scan_use r (Runs n) id (means.Function gives params) =
      record { own = r.own || (called id).own; below = r.below + (called id).below; round = r.round }
  scan_use r (Starts n) id (means.Function gives params) = record { own = r.own; below = r.below + accessing_instances (called id); round = r.round }
  scan_use r how id m = r

  abbrev pub scan_finding : AccessScan → Finding → AccessScan
  scan_finding r (Use how name m) = scan_use r how name.id m
  scan_finding r Opens = record { own = false; below = r.below; round = r.own ∷ r.round }
  scan_finding r Closes = closed r r.round
  scan_finding r _ = r

  abbrev pub scan_all : AccessScan → List Finding → AccessScan
  scan_all r [] = r
  scan_all r (f ∷ rest) = scan_all (scan_finding r f) rest

abbrev pub as_access : AccessScan → TextAccess
as_access r = record { own = r.own; below = r.below }

abbrev pub body_access : Text → ℕ → (ℕ → TextAccess) → Option PlainFunction → TextAccess
body_access text g called None = no_access
body_access text g called (Some f) = as_access (scan_all g called scan_start (in_function text f))

abbrev pub access_step : Text → ℕ → (ℕ → TextAccess) → ℕ → TextAccess
access_step text g called id = body_access text g called (find_function id text)

-- the instances that name the global g, where `first` is the name of `main`
abbrev pub instances_of : Text → ℕ → ℕ → ℕ
instances_of text g first = accessing_instances (within no_access (access_step text g) (length text) first)

-- the same of a whole program, where it has a `main`
abbrev pub program_namings : Text → List (List ℕ) → ℕ → ℕ
program_namings text names g = elim (start_name names text) [ None ↦ 0 | Some first ↦ instances_of text g first ]
