-- Parts of the kernel of a program.
use Rattle.std.specs.Prelude.{◌≡◌, ◌-◌, ℕ, suc, Bool, cond, Option, Some, None, List, [], ◌∷◌, ◌++◌, map, length, take, drop, slice_index_or}
use Rattle.forec_tree.specs.Terms.{Text, PlainFunction}
use Rattle.forec_tree.specs.Rules.{spelling_of_name}
use Rattle.forec_kernel.specs.Terms.{Stmt, Nop}
use Rattle.forec_kernel.specs.Plain.{stmt}
use Rattle.forec_kernel.specs.Shapes.{PlainThread}
use Rattle.forec_kernel.specs.WellFormed.{count_up}
use Rattle.forec_kernel.specs.declared.terms.Statement.{Statement}
use Rattle.forec_kernel.specs.declared.shape.FunctionShape.{FunctionShape}
use Rattle.kernel_drafts.specs.declared.expand.Bodies.{Bodies}
use Rattle.lower_names.specs.declared.state.Thread.{Thread}
use Rattle.text_kernel.specs.Lowering.{Lowered, sequence, vars_of, inlined}
use Rattle.text_kernel.specs.Kernels.{lowered_function_body, filter_in}
use Rattle.lower_names.specs.Views.{Bare, bare, of_thread}

abbrev pub function_shape : Text → List (List ℕ) → PlainFunction → FunctionShape
function_shape text names f = record { params = length f.params; words = (lowered_function_body text names f).next.slot }

abbrev pub function_text : Text → List (List ℕ) → PlainFunction → Stmt
function_text text names f = sequence (lowered_function_body text names f).list

-- `main` and what stands below it, from a function by its name
abbrev pub root_of : Text → ℕ → Lowered
root_of text first = inlined text first 0 0 (record { slot = 0; thread = 1; par = 0 })

pub record Expanded (text : Text) (first : ℕ) (b : Bodies) : Type 0 where
  pub main : stmt b.main ≡ (root_of text first).stmt
  pub words : b.words ≡ (root_of text first).next.slot
  pub threads : map of_thread b.threads.items ≡ map bare (root_of text first).made

-- ---- the variables that threads name

abbrev pub vars_bare : List Bare → List ℕ
vars_bare [] = []
vars_bare (b ∷ rest) = vars_of b.body ++ vars_bare rest

-- the thread at a place of those below thread 0, and the threads below it, where the number of the thread after these is known
abbrev pub part_at : List Bare → ℕ → ℕ → List Bare
part_at all i behind = take (behind - 1 - i) (drop i all)

abbrev pub named_at : List Bare → ℕ → Bare → List ℕ
named_at all i b = vars_bare (part_at all i b.behind)

-- ---- what the kernel says of the threads

abbrev pub optional_name_bytes : List (List ℕ) → Option ℕ → Option (List ℕ)
optional_name_bytes names None = None
optional_name_bytes names (Some id) = Some (spelling_of_name names id)

abbrev pub bare_shape : List (List ℕ) → ℕ → List Bare → ℕ → Bare → PlainThread
bare_shape names count all i b =
    record {
      parent = Some b.parent;
      par = Some b.par;
      name = optional_name_bytes names b.name;
      params = b.params;
      words = b.words;
      uses = filter_in (named_at all i b) (count_up 0 count);
    }

-- those of the threads below thread 0, from a place on
abbrev pub bare_shapes : List (List ℕ) → ℕ → List Bare → ℕ → List Bare → List PlainThread
bare_shapes names count all i [] = []
bare_shapes names count all i (b ∷ rest) = bare_shape names count all i b ∷ bare_shapes names count all (suc i) rest

-- thread 0 has a copy of each variable
abbrev pub main_shape : List (List ℕ) → ℕ → ℕ → ℕ → PlainThread
main_shape names count first words =
    record { parent = None; par = None; name = Some (spelling_of_name names first); params = 0; words = words; uses = count_up 0 count }

-- the numbers of the marks that are set, from a number on
abbrev pub marked_from : ℕ → List Bool → List ℕ
marked_from v [] = []
marked_from v (m ∷ rest) = cond m (v ∷ marked_from (suc v) rest) (marked_from (suc v) rest)

abbrev pub blank_bare : Bare
blank_bare = record { parent = 0; par = 0; name = None; params = 0; words = 0; behind = 0; body = Nop }

abbrev pub thread_body : Thread → Stmt
thread_body t = stmt t.body

-- the variables that the thread at a place and those below it name
abbrev pub named_from : List Bare → ℕ → List ℕ
named_from all i = named_at all i (slice_index_or all i blank_bare)

-- the bodies of int functions
abbrev pub AreBodies : Text → List (List ℕ) → List PlainFunction → List Statement → Type 0
AreBodies text names fs bodies = map stmt bodies ≡ map (function_text text names) fs
