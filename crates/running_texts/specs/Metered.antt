-- Computing under an allowance of units.
use Rattle.std.specs.Prelude.{ℕ, ◌+◌, ◌<◌, ◌≡◌, ℤ, List}
use Rattle.std.specs.declared.result.Result.{Result}
use Rattle.std.specs.declared.result.Result.TheVariants.{Ok, Err}
use Rattle.std.specs.declared.vec.Vec.{Vec}
use Rattle.std.specs.declared.alloc.Global.{Global}
use Rattle.forec_base.specs.declared.Place.{Place}
use Rattle.forec_base.specs.declared.Trap.{Trap}
use Rattle.forec_kernel.specs.Shapes.{PlainKernel}
use Rattle.forec_kernel.specs.Plain.{expr, stmt}
use Rattle.forec_kernel.specs.Values.{Value, Gives, Raises, Values, AllGive, OneRaises, Flow, Goes, Returns, Breaks, Setting, Sight, value_then, flow_with, val, flow, turns, words_alone, call_within}
use Rattle.running_texts.specs.declared.evaluation.ThreadValues.{ThreadValues}
use Rattle.running_texts.specs.declared.evaluation.BoundedLoop.{BoundedLoop}
use Rattle.running_texts.specs.declared.meter.Halt.{Halt}
use Rattle.running_texts.specs.declared.meter.Halt.TheVariants.{Trapped, Over, OutOfMemory}
use Rattle.running_texts.specs.declared.functions.Ran.{Ran}
use Rattle.running_texts.specs.declared.functions.Ran.TheVariants as ran

-- How a kind of result is read: what an answer stands for at so many units, what a trap stands for, and how many units a result has.
pub record ResultKind (X V : Type 0) : Type 0 where
  pub gives : X → ℕ → V
  pub stops : Place → Trap → ℕ → V
  pub units : V → ℕ

-- so many units were taken from the allowance
pub record Paid {V : Type 0} (old new : ℕ) (v : V) (of : ℕ → V) : Type 0 where
  pub units : ℕ
  pub is : v ≡ of units
  pub left : new + units ≡ old

abbrev pub MeteredBy : {X V : Type 0} → ResultKind X V → ℕ → ℕ → Result X Halt → V → Type 0
MeteredBy k old new (Ok x) v = Paid old new v (k.gives x)
MeteredBy k old new (Err (Trapped place trap)) v = Paid old new v (k.stops place trap)
MeteredBy k old new (Err Over) v = old < k.units v
MeteredBy k old new (Err OutOfMemory) v = Unit {0}

-- What computing under an allowance answers: what it gives or the trap, with its units paid; or Over exactly where the units exceed the allowance.
pub record IsMetered {X V : Type 0} (k : ResultKind X V) (old new : ℕ) (result : Result X Halt) (v : V) : Type 0 where
  pub by : MeteredBy k old new result v

-- ---- kinds

abbrev pub value_units : Value → ℕ
value_units (Gives n u) = u
value_units (Raises place trap u) = u

abbrev pub value_kind : ResultKind ℤ Value
value_kind = record { gives = Gives; stops = Raises; units = value_units }

abbrev pub values_units : Values → ℕ
values_units (AllGive ns u) = u
values_units (OneRaises place trap u) = u

abbrev pub values_kind : ResultKind (Vec ℤ Global) Values
values_kind = record { gives = λ v u. AllGive v.items u; stops = OneRaises; units = values_units }

abbrev pub flow_units : Flow → ℕ
flow_units (Goes words u) = u
flow_units (Returns n u) = u
flow_units (Breaks place trap u) = u

abbrev pub run_gives : Ran → ℕ → Flow
run_gives (ran.Continues words) u = Goes words.items u
run_gives (ran.Returns n) u = Returns n u

abbrev pub flowing : ResultKind Ran Flow
flowing = record { gives = run_gives; stops = Breaks; units = flow_units }

-- ---- what follows a number

-- the number after a part: what is done with the part's number, under what the part left of the allowance
abbrev pub IsNumberAfter : Result ℤ Halt → ℕ → ℕ → Result ℤ Halt → (ℤ → Value) → Type 0
IsNumberAfter part mid new result go =
    (old : ℕ) (v : Value) → IsMetered value_kind old mid part v → IsMetered value_kind old new result (value_then v go)

-- the same of a statement of an int function
abbrev pub IsFlowAfter : Result ℤ Halt → ℕ → ℕ → Result Ran Halt → (ℤ → Flow) → Type 0
IsFlowAfter part mid new result go =
    (old : ℕ) (v : Value) → IsMetered value_kind old mid part v → IsMetered flowing old new result (flow_with v go)

-- ---- what an evaluation sees

abbrev pub setting_within : PlainKernel → ℕ → Setting
setting_within k deep = record { tables = k.shape.tables; call = call_within k deep }

abbrev pub sight_of : ThreadValues → Sight
sight_of v = record { words = v.words.now; uses = v.uses.now; copies = v.copies.now }

-- a loop of an int function, with its words
abbrev pub bounded_flow : PlainKernel → ℕ → BoundedLoop → List ℤ → Flow
bounded_flow k deep l words =
    let s = setting_within k deep in
    turns l.bound (λ w. val s (words_alone w) (expr l.test.now)) (flow s (stmt l.body.now)) l.place words
