-- The tree of thread instances. A void function that is called as a statement is put in place, and each branch of each `par` in the text
-- so expanded is one instance. Instances are numbered in preorder from `main`, which is 0.
use Rattle.std.specs.Prelude.{ℕ, zero, suc, ◌+◌, cond, Option, Some, None, List, [], ◌∷◌, ◌++◌, length, slice_get}
use Rattle.forec_tree.specs.declared.uses.Meaning.TheVariants as means
use Rattle.forec_tree.specs.Terms.{Statement, Declare, Nothing, Group, Assign, Invoke, If, While, For, Pause, Par, Abort, Return, Statements, no_statements, more_statements, Perhaps, absent, present, Branches, no_branches, by_call, by_group, Text, PlainFunction}
use Rattle.forec_tree.specs.Scopes.{Scope, no_scope, inner_scope, after, after_perhaps, with_params, is_in}
use Rattle.forec_tree.specs.Findings.{Finding, Use, in_term, in_terms, in_optional, in_target, in_locals}
use Rattle.forec_tree.specs.Pauses.{within, find_function}
use Rattle.forec_tree.specs.Variables.{PlainVariable, variables}

-- Instances side by side: each with the globals that its own text names, the instances that start in it, and those that follow it.
pub data InstanceTree : Type 0 where
  no_threads : InstanceTree
  thread : (named : List ℕ) → (below : InstanceTree) → (rest : InstanceTree) → InstanceTree

abbrev pub followed_by : InstanceTree → InstanceTree → InstanceTree
followed_by no_threads us = us
followed_by (thread named below rest) us = thread named below (followed_by rest us)

-- what a text brings to the thread in which it stands: the globals that it names, and the instances that start in it
pub record ThreadPart : Type 0 where
  pub named : List ℕ
  pub below : InstanceTree

abbrev pub no_part : ThreadPart
no_part = record { named = []; below = no_threads }

-- one text, then another
abbrev pub both_parts : ThreadPart → ThreadPart → ThreadPart
both_parts a b = record { named = a.named ++ b.named; below = followed_by a.below b.below }

-- the text of a branch is an instance of its own
abbrev pub as_instance : ThreadPart → ThreadPart
as_instance a = record { named = []; below = thread a.named a.below no_threads }

-- the globals that some uses of names mean
abbrev pub globals_in : List Finding → List ℕ
globals_in [] = []
globals_in (Use how name (means.Global kind array) ∷ rest) = name.id ∷ globals_in rest
globals_in (_ ∷ rest) = globals_in rest

abbrev pub naming_part : List Finding → ThreadPart
naming_part uses = record { named = globals_in uses; below = no_threads }

-- with what each function's body brings
module _ (text : Text) (called : ℕ → ThreadPart) where
  abbrev mutual
    pub statement_part : Scope → Statement → ThreadPart
    statement_part s (Nothing at) = no_part
    statement_part s (Group at body) = all_placed (inner_scope s) body
    statement_part s (Declare at locals) = naming_part (in_locals text s locals)
    statement_part s (Assign at target op value) = naming_part (in_target text s target ++ in_term text s value)
    statement_part s (Invoke at name args) = both_parts (naming_part (in_terms text s args)) (called name.id)
    statement_part s (If at test a b) = both_parts (naming_part (in_term text s test)) (both_parts (statement_part (inner_scope s) a) (perhaps_placed (inner_scope s) b))
    statement_part s (While at test bound body) = both_parts (naming_part (in_term text s test)) (statement_part (inner_scope s) body)
    statement_part s (For at start test step bound body) =
        let inside = after_perhaps (inner_scope s) start in
        both_parts (perhaps_placed (inner_scope s) start)
        (both_parts (naming_part (in_optional text inside test)) (both_parts (perhaps_placed inside step) (statement_part (inner_scope (after_perhaps inside step)) body)))
    statement_part s (Pause at) = no_part
    statement_part s (Par at bs) = branches_placed s bs
    statement_part s (Abort at weak immediate test body) = both_parts (naming_part (in_term text s test)) (all_placed (inner_scope s) body)
    statement_part s (Return at value) = naming_part (in_term text s value)

    pub all_placed : Scope → Statements → ThreadPart
    all_placed s no_statements = no_part
    all_placed s (more_statements a rest) = both_parts (statement_part s a) (all_placed (after s a) rest)

    pub perhaps_placed : Scope → Perhaps → ThreadPart
    perhaps_placed s absent = no_part
    perhaps_placed s (present a) = statement_part s a

    -- the arguments of a branch stand in the thread round it, and a block sees global names alone
    pub branches_placed : Scope → Branches → ThreadPart
    branches_placed s no_branches = no_part
    branches_placed s (by_call name args rest) = both_parts (naming_part (in_terms text s args)) (both_parts (as_instance (called name.id)) (branches_placed s rest))
    branches_placed s (by_group at body rest) = both_parts (as_instance (all_placed no_scope body)) (branches_placed s rest)

abbrev pub body_placed : Text → (ℕ → ThreadPart) → Option PlainFunction → ThreadPart
body_placed text called None = no_part
body_placed text called (Some f) = all_placed text called (with_params no_scope f.params) f.body

abbrev pub placed_step : Text → (ℕ → ThreadPart) → ℕ → ThreadPart
placed_step text called id = body_placed text called (find_function id text)

-- the tree of a program, where `first` is the name of `main`
abbrev pub thread_tree : Text → ℕ → InstanceTree
thread_tree text first = (as_instance (within no_part (placed_step text) (length text) first)).below

-- ---- what is read off a tree

-- how many instances there are
abbrev pub count_instances : InstanceTree → ℕ
count_instances no_threads = 0
count_instances (thread named below rest) = suc (count_instances below) + count_instances rest

-- how many of them name the global g
abbrev pub count_naming : ℕ → InstanceTree → ℕ
count_naming g no_threads = 0
count_naming g (thread named below rest) = cond (is_in g named) (suc (count_naming g below)) (count_naming g below) + count_naming g rest

-- the globals that some instances, or those below them, name
abbrev pub all_named : InstanceTree → List ℕ
all_named no_threads = []
all_named (thread named below rest) = (named ++ all_named below) ++ all_named rest

-- the same of each instance, by its number
abbrev pub in_preorder : InstanceTree → List (List ℕ)
in_preorder no_threads = []
in_preorder (thread named below rest) = (named ++ all_named below) ∷ in_preorder below ++ in_preorder rest

-- those whose names are among some; the name of an array stands for all its elements
abbrev pub those_in : List ℕ → List PlainVariable → List PlainVariable
those_in named [] = []
those_in named (v ∷ rest) = cond (is_in v.global.name.id named) (v ∷ those_in named rest) (those_in named rest)

-- The variables whose names occur in the text of thread t or of a thread below it, in order of declaration and within an array in order of
-- index; `main` has all of them.
abbrev pub uses : Text → ℕ → ℕ → List PlainVariable
uses text first zero = variables text
uses text first (suc t) = elim (slice_get (in_preorder (thread_tree text first)) (suc t)) [ None ↦ [] | Some named ↦ those_in named (variables text) ]
