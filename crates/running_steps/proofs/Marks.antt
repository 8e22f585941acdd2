-- The marks of branches, branch by branch.
use Rattle.std.proofs.Common.{◌≡◌, ◌∙◌, ℕ, suc, ◌<◌, ◌&&◌, ◌||◌, Bool, true, false, cond, List, ◌∷◌, length, get_or, refl, ap, sym, ℤ}
use Rattle.forec_kernel.specs.declared.shape.VarCopy.{VarCopy}
use Rattle.forec_kernel.specs.Shapes.{PlainKernel}
use Rattle.forec_kernel.specs.Values.{copy_of}
use Rattle.forec_kernel.specs.Texts.{RunningText, Threads, child, Status, is_active, uses_of}
use Rattle.forec_kernel.specs.Combining.{Share, contains, shares, some_marked}
use Rattle.running_steps.specs.Marks.{AreMarks, marks_it}

-- one more branch, in front of the others
pub marked_before : (there : Bool) (s : Share) (ss : List Share) → some_marked (cond there (s ∷ ss) ss) ≡ (cond there s.copy.modified false || some_marked ss)
marked_before true s ss = refl
marked_before false s ss = refl

pub marks_more : (k : PlainKernel) (t : ℕ) (R : RunningText) (w : List ℤ) (c : List VarCopy) (st : Status) (rest : Threads) (vs : List ℕ) (old new : List Bool) →
    is_active st ≡ true → AreMarks k rest vs old →
    ((i : ℕ) → i < length vs → get_or new i false ≡ (marks_it (uses_of k t) c (get_or vs i 0) || get_or old i false)) →
    AreMarks k (child t R w c st rest) vs new
marks_more k t R w c st rest vs old new active before step j i p =
    let v : ℕ = get_or vs i 0 in
    rw active
    (step i p ∙ ap (λ b. marks_it (uses_of k t) c v || b) (before (suc j) i p)
    ∙ sym (marked_before (contains v (uses_of k t)) (record { from = j; copy = copy_of (uses_of k t) c v }) (shares k v (suc j) rest)))

pub marks_gone : (k : PlainKernel) (t : ℕ) (R : RunningText) (w : List ℤ) (c : List VarCopy) (st : Status) (rest : Threads) (vs : List ℕ) (marks : List Bool) →
    is_active st ≡ false → AreMarks k rest vs marks → AreMarks k (child t R w c st rest) vs marks
marks_gone k t R w c st rest vs marks gone before j i p = rw gone (before (suc j) i p)
