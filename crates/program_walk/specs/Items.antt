-- The items of a program, one after the other.
use Rattle.std.specs.Prelude.{ℕ, suc, ◌+◌, ◌*◌, ◌^◌, ◌<◌, ◌≡◌, Bool, Option, ◌||◌, ◌&&◌, nat_le, nat_lt, not, length, List, [], ◌∷◌, ◌++◌, take}
use Rattle.forec_base.specs.declared.limits.TheConstants.{MAX_INPUTS, MAX_OUTPUTS, MAX_PARAMS, MAX_FUNCTIONS}
use Rattle.forec_tree.specs.declared.tree.Global.{Global}
use Rattle.forec_tree.specs.declared.tree.GlobalKind.{GlobalKind}
use Rattle.forec_tree.specs.declared.tree.Function.{Function}
use Rattle.forec_tree.specs.declared.tree.Item.{Item}
use Rattle.forec_tree.specs.Plain as plain
use Rattle.forec_tree.specs.Terms.{Text, PlainItem, IsGlobal, IsFunction, PlainFunction}
use Rattle.forec_tree.specs.Rules.{is_input, is_long, fault_if, some_always_returns}
use Rattle.forec_tree.specs.Faults.{Before, none_before, in_function, item_named, one_if, output_count, runs_over, global_faults, function_faults, item_faults, items_faults}
use Rattle.forec_tree.specs.declared.fault.Fault.{Fault}
use Rattle.forec_tree.specs.declared.rule.TheConstants as rule
use Rattle.forec_tree.specs.Findings.{Finding}
use Rattle.fault_order.specs.Least.{least_from}
use Rattle.program_walk.specs.declared.walk.item_counts.ItemCounts.{ItemCounts}

-- what stands before the item of this place
abbrev pub before_of : Text → ℕ → ItemCounts → Before
before_of text at c = record { items = take at text; inputs = c.inputs; outputs = c.outputs; functions = c.functions }

-- a global of a kind that is so many outputs
abbrev pub is_extra : ItemCounts → GlobalKind → ℕ → Bool
is_extra c kind outputs = (is_input kind && nat_le MAX_INPUTS c.inputs) || runs_over MAX_OUTPUTS c.outputs outputs

-- what stands in an item
abbrev pub in_item : Text → PlainItem → List Finding
in_item text (IsGlobal g) = []
in_item text (IsFunction f) = in_function text f

-- the faults of a function but those in its parameters and body
abbrev pub head_faults : Text → List (List ℕ) → Before → PlainFunction → List Fault
head_faults text names b f =
    fault_if (item_named f.name.id b.items) f.name.place rule.NAME_TWICE
    ++ (fault_if (is_long names f.name.id) f.name.place rule.LONG_NAME
    ++ (fault_if (nat_lt MAX_PARAMS (length f.params)) f.name.place rule.TOO_MANY_PARAMS
    ++ (fault_if (nat_le MAX_FUNCTIONS b.functions) f.name.place rule.TOO_MANY_FUNCTIONS
    ++ fault_if (f.gives && not (some_always_returns f.body)) f.name.place rule.INT_WITHOUT_VALUE)))

-- ---- from the least fault before to that after: of a global, the head of a function, a function, an item, all items

abbrev pub JudgesGlobal : Text → List (List ℕ) → ℕ → ItemCounts → Global → Option Fault → Option Fault → Type 0
JudgesGlobal text names at c g old new = new ≡ least_from old (global_faults text names (before_of text at c) (plain.plain_global g))

abbrev pub JudgesHead : Text → List (List ℕ) → ℕ → ItemCounts → Function → Option Fault → Option Fault → Type 0
JudgesHead text names at c f old new = new ≡ least_from old (head_faults text names (before_of text at c) (plain.plain_function f))

abbrev pub JudgesFunction : Text → List (List ℕ) → ℕ → ItemCounts → Function → Option Fault → Option Fault → Type 0
JudgesFunction text names at c f old new = new ≡ least_from old (function_faults text names (before_of text at c) (plain.plain_function f))

abbrev pub JudgesItem : Text → List (List ℕ) → ℕ → ItemCounts → Item → Option Fault → Option Fault → Type 0
JudgesItem text names at c i old new = new ≡ least_from old (item_faults text names (before_of text at c) (plain.plain_item i))

abbrev pub JudgesItems : Text → List (List ℕ) → Option Fault → Option Fault → Type 0
JudgesItems text names old new = new ≡ least_from old (items_faults text names none_before text)

abbrev pub counts_after : ItemCounts → PlainItem → ItemCounts
counts_after c (IsGlobal g) = record { inputs = c.inputs + one_if (is_input g.kind); outputs = c.outputs + output_count g; functions = c.functions }
counts_after c (IsFunction f) = record { inputs = c.inputs; outputs = c.outputs; functions = suc c.functions }

-- fewer of each sort than a number, where an output may be an array of any length
pub record CountsBelow (c : ItemCounts) (n : ℕ) : Type 0 where
  pub inputs : c.inputs < n
  pub outputs : c.outputs < n * 2 ^ 32
  pub functions : c.functions < n

-- one item more
abbrev pub OneMore : ItemCounts → ItemCounts → Type 0
OneMore old new = (n : ℕ) → CountsBelow old n → CountsBelow new (n + 1)
