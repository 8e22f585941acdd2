-- A kernel as a plain value: its shape, and a body for each thread and each int function.
use Rattle.std.specs.Prelude.{ℕ, ℤ, Option, Some, None, List, map}
use Rattle.forec_kernel.specs.Terms.{Stmt}
use Rattle.forec_kernel.specs.Plain.{stmt}
use Rattle.forec_kernel.specs.declared.shape.ThreadShape.{ThreadShape}
use Rattle.forec_kernel.specs.declared.shape.Variable.{Variable}
use Rattle.forec_kernel.specs.declared.shape.FunctionShape.{FunctionShape}
use Rattle.forec_kernel.specs.declared.shape.Shape.{Shape}
use Rattle.forec_kernel.specs.declared.shape.KernelParts.{KernelParts}
use Rattle.std.specs.declared.vec.Vec.{Vec}
use Rattle.std.specs.declared.alloc.Global.{Global}

pub record PlainThread : Type 0 where
  pub parent : Option ℕ
  pub par : Option ℕ
  pub name : Option (List ℕ)
  pub params : ℕ
  pub words : ℕ
  pub uses : List ℕ

pub record PlainShape : Type 0 where
  pub threads : List PlainThread
  pub variables : List Variable
  pub functions : List FunctionShape
  pub tables : List (List ℤ)
  pub inputs : List ℕ
  pub outputs : List ℕ
  pub names : List (List ℕ)

pub record PlainKernel : Type 0 where
  pub shape : PlainShape
  pub threads : List Stmt
  pub functions : List Stmt

abbrev pub plain_name : Option (Vec ℕ Global) → Option (List ℕ)
plain_name None = None
plain_name (Some v) = Some v.items

abbrev pub plain_thread : ThreadShape → PlainThread
plain_thread t =
    record { parent = t.parent; par = t.par; name = plain_name t.name; params = t.params; words = t.words; uses = t.uses.items }

abbrev pub plain_shape : Shape → PlainShape
plain_shape s =
    record {
      threads = map plain_thread s.threads.items;
      variables = s.variables.items;
      functions = s.functions.items;
      tables = map (λ v. v.items) s.tables.items;
      inputs = s.inputs.items;
      outputs = s.outputs.items;
      names = s.names;
    }

-- the plain value of a kernel
abbrev pub plain_kernel : KernelParts → PlainKernel
plain_kernel k =
    record {
      shape = plain_shape k.shape;
      threads = map stmt k.threads.items;
      functions = map stmt k.functions.items;
    }
