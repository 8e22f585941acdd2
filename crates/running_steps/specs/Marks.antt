-- The marks of branches.
use Rattle.std.specs.Prelude.{ℕ, ◌<◌, ◌≡◌, Bool, false, cond, List, length, get_or}
use Rattle.forec_kernel.specs.declared.shape.VarCopy.{VarCopy}
use Rattle.forec_kernel.specs.Shapes.{PlainKernel}
use Rattle.forec_kernel.specs.Values.{copy_of}
use Rattle.forec_kernel.specs.Texts.{Threads}
use Rattle.forec_kernel.specs.Combining.{contains, shares, some_marked}

-- a thread with these copies of these variables has marked its copy of the variable v
abbrev pub marks_it : List ℕ → List VarCopy → ℕ → Bool
marks_it uses copies v = cond (contains v uses) (copy_of uses copies v).modified false

-- each mark says whether some branch has marked its copy of the variable at the same place
abbrev pub AreMarks : PlainKernel → Threads → List ℕ → List Bool → Type 0
AreMarks k cs vs marks = (j i : ℕ) → i < length vs → get_or marks i false ≡ some_marked (shares k (get_or vs i 0) j cs)
