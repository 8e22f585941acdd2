-- What contracts see of the words of int functions.
use Rattle.std.specs.Prelude.{ℕ, ◌+◌, ◌≡◌, Bool, List}
use Rattle.forec_tree.specs.declared.tree.Branch.{Branch}
use Rattle.forec_tree.specs.Plain.{branch_with}
use Rattle.forec_tree.specs.Terms.{Text, Branches}
use Rattle.forec_check.specs.Table.{Settles}
use Rattle.loop_check.specs.Views.{indexed_text}
use Rattle.text_kernel.specs.Bindings.{number_among, is_int_function}
use Rattle.text_chains.specs.declared.tally.Tally.{Tally}
use Rattle.text_chains.specs.declared.tally.Weights.{Weights}
use Rattle.text_chains.specs.Tallies.{table_value, no_tally, both_tallies, branches_tally, branches_naming, tally_at, tally_step, tally_value}

-- the words of the int function of a name, and of all that it calls
abbrev pub value_by : Weights → ℕ → ℕ
value_by w id = table_value w.values.now (number_among is_int_function id (indexed_text w.globals.now.index))

-- an order of functions in which what each brings follows from those before it
abbrev pub SettlesTallies : Text → List ℕ → Type 0
SettlesTallies text order =
    (variable : ℕ) (array : Bool) (value : ℕ → ℕ) (worth : ℕ) → Settles no_tally (tally_step variable array value worth text) (tally_value variable array value worth text) order

-- what a branch brings, before others
abbrev pub AddsTally : Weights → List Tally → Bool → Branch → Tally → Type 0
AddsTally w table hidden b own =
    (rest : Branches) → both_tallies own (branches_tally w.variable w.array (value_by w) w.worth (tally_at table) hidden rest)
    ≡ branches_tally w.variable w.array (value_by w) w.worth (tally_at table) hidden (branch_with b rest)

-- how many of a branch and others name the variable
abbrev pub AddsNaming : Weights → List Tally → Branch → ℕ → Type 0
AddsNaming w table b own =
    (rest : Branches) → own + branches_naming w.variable w.array (value_by w) w.worth (tally_at table) rest
    ≡ branches_naming w.variable w.array (value_by w) w.worth (tally_at table) (branch_with b rest)

-- a table of what each function brings
abbrev pub HasTallies : Weights → List Tally → Type 0
HasTallies w table = (id : ℕ) → tally_at table id ≡ tally_value w.variable w.array (value_by w) w.worth (indexed_text w.globals.now.index) id
