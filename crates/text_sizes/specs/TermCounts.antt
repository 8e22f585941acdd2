-- How many terms the lowering of a text has, counted on the text: its own, and those of the threads below.
use Rattle.std.specs.Prelude.{ℕ, zero, suc, ◌+◌, ◌-◌, ◌^◌, ◌≡◌, min, Option, Some, None, List, [], ◌∷◌, length}
use Rattle.forec_tree.specs.declared.tree.Expr.{Expr}
use Rattle.forec_tree.specs.declared.tree.OpAt.{OpAt}
use Rattle.forec_tree.specs.Plain as plain
use Rattle.forec_tree.specs.Terms.{Term, Num, Read, Element, Un, Bin, And, Or, Choose, Call, Terms, no_terms, more_terms, count_terms, Declared, Statement, Declare, Nothing, Group, Assign, Invoke, If, While, For, Pause, Par, Abort, Return, Statements, no_statements, more_statements, Perhaps, absent, present, Branches, no_branches, by_call, by_group, Text, PlainFunction}
use Rattle.forec_tree.specs.Pauses.{find_function}
use Rattle.text_kernel.specs.Bindings.{slots_of}

abbrev mutual
  pub term_count : Term → ℕ
  term_count (Num at n) = 1
  term_count (Read at name) = 1
  term_count (Element at name i) = 1 + term_count i
  term_count (Un at op a) = 1 + term_count a
  term_count (Bin at op a b) = 1 + term_count a + term_count b
  term_count (And at a b) = 1 + term_count a + term_count b
  term_count (Or at a b) = 1 + term_count a + term_count b
  term_count (Choose at t a b) = 1 + term_count t + term_count a + term_count b
  term_count (Call at name args) = 1 + terms_count args

  pub terms_count : Terms → ℕ
  terms_count no_terms = 0
  terms_count (more_terms e rest) = term_count e + terms_count rest

-- a sequence of so many statements, of so many terms together
abbrev pub sequence_count : ℕ → ℕ → ℕ
sequence_count zero sum = 1
sequence_count (suc zero) sum = sum
sequence_count (suc (suc n)) sum = 1 + sum

-- each value is stored: the statement, its index and the value
abbrev pub values_count : Terms → ℕ
values_count no_terms = 0
values_count (more_terms e rest) = (1 + 1 + term_count e) + values_count rest

abbrev pub first_count : Terms → ℕ
first_count no_terms = 1
first_count (more_terms e rest) = 1 + term_count e

abbrev pub local_count : Declared → ℕ
local_count l = elim l.length [ None ↦ first_count l.values | Some n ↦ sequence_count (suc (count_terms l.values)) (1 + values_count l.values) ]

abbrev pub locals_count : List Declared → ℕ
locals_count [] = 0
locals_count (l ∷ rest) = local_count l + locals_count rest

abbrev pub operated_count : Option OpAt → ℕ → ℕ → ℕ
operated_count None old value = value
operated_count (Some o) old value = 1 + old + value

abbrev pub assign_count : Option Term → Option OpAt → ℕ → ℕ
assign_count None op value = 1 + operated_count op 1 value
assign_count (Some i) op value = 1 + term_count i + operated_count op (1 + term_count i) value

-- the arguments of a call that is inlined are set one by one
abbrev pub sets_count : Terms → ℕ
sets_count no_terms = 0
sets_count (more_terms e rest) = (1 + term_count e) + sets_count rest

-- the terms of a call that is inlined, whose body has so many, up to the greatest number of 64 bits
abbrev pub IsCallTerms : List Expr → ℕ → ℕ → Type 0
IsCallTerms args body n = n ≡ min (sequence_count (suc (count_terms (plain.terms args))) (sets_count (plain.terms args) + body)) (2 ^ 64 - 1)

abbrev pub optional_count : Option Term → ℕ
optional_count None = 1
optional_count (Some e) = term_count e

abbrev pub branches_count : Branches → ℕ
branches_count no_branches = 0
branches_count (by_call name args rest) = terms_count args + branches_count rest
branches_count (by_group at body rest) = branches_count rest

abbrev pub statement_count : Statements → ℕ
statement_count no_statements = 0
statement_count (more_statements a rest) = suc (statement_count rest)

module _ (called : ℕ → ℕ) where
  abbrev mutual
    pub own : Statement → ℕ
    own (Nothing at) = 1
    own (Group at body) = sequence_count (statement_count body) (own_all body)
    own (Declare at locals) = sequence_count (length locals) (locals_count locals)
    own (Assign at target op value) = assign_count target.index op (term_count value)
    own (Invoke at name args) = sequence_count (suc (count_terms args)) (sets_count args + called name.id)
    own (If at test a b) = 1 + term_count test + own a + own_perhaps b
    own (While at test bound body) = 1 + term_count test + own body
    own (For at start test step bound body) = own_start start (1 + optional_count test + own_step step (own body))
    own (Pause at) = 1
    own (Par at bs) = 1 + branches_count bs
    own (Abort at weak immediate test body) = 1 + term_count test + sequence_count (statement_count body) (own_all body)
    own (Return at value) = 1 + term_count value

    pub own_all : Statements → ℕ
    own_all no_statements = 0
    own_all (more_statements a rest) = own a + own_all rest

    -- a missing `else` is a `nop`
    pub own_perhaps : Perhaps → ℕ
    own_perhaps absent = 1
    own_perhaps (present a) = own a

    pub own_start : Perhaps → ℕ → ℕ
    own_start absent loop = loop
    own_start (present a) loop = 1 + own a + loop

    pub own_step : Perhaps → ℕ → ℕ
    own_step absent body = body
    own_step (present a) body = 1 + body + own a

-- ---- how many slots text takes, with what each function takes that is inlined, its parameters apart

abbrev pub locals_slots : List Declared → ℕ
locals_slots [] = 0
locals_slots (l ∷ rest) = slots_of l.length + locals_slots rest

module _ (called : ℕ → ℕ) where
  abbrev mutual
    pub slots : Statement → ℕ
    slots (Nothing at) = 0
    slots (Group at body) = slots_all body
    slots (Declare at locals) = locals_slots locals
    slots (Assign at target op value) = 0
    slots (Invoke at name args) = count_terms args + called name.id
    slots (If at test a b) = slots a + slots_perhaps b
    slots (While at test bound body) = slots body
    slots (For at start test step bound body) = slots_perhaps start + (slots_perhaps step + slots body)
    slots (Pause at) = 0
    slots (Par at bs) = 0
    slots (Abort at weak immediate test body) = slots_all body
    slots (Return at value) = 0

    pub slots_all : Statements → ℕ
    slots_all no_statements = 0
    slots_all (more_statements a rest) = slots a + slots_all rest

    pub slots_perhaps : Perhaps → ℕ
    slots_perhaps absent = 0
    slots_perhaps (present a) = slots a

-- ---- how many terms the threads below text have, with those of each function's own text and those below it

module _ (called below : ℕ → ℕ) where
  abbrev mutual
    pub under : Statement → ℕ
    under (Nothing at) = 0
    under (Group at body) = under_all body
    under (Declare at locals) = 0
    under (Assign at target op value) = 0
    under (Invoke at name args) = below name.id
    under (If at test a b) = under a + under_perhaps b
    under (While at test bound body) = under body
    under (For at start test step bound body) = under_perhaps start + (under_perhaps step + under body)
    under (Pause at) = 0
    under (Par at bs) = under_branches bs
    under (Abort at weak immediate test body) = under_all body
    under (Return at value) = 0

    pub under_all : Statements → ℕ
    under_all no_statements = 0
    under_all (more_statements a rest) = under a + under_all rest

    pub under_perhaps : Perhaps → ℕ
    under_perhaps absent = 0
    under_perhaps (present a) = under a

    pub under_branches : Branches → ℕ
    under_branches no_branches = 0
    under_branches (by_call name args rest) = (called name.id + below name.id) + under_branches rest
    under_branches (by_group at body rest) = (sequence_count (statement_count body) (own_all called body) + under_all body) + under_branches rest

-- what a function takes that is inlined, after its parameters
abbrev pub body_slots : (ℕ → ℕ) → Option PlainFunction → ℕ
body_slots called None = 0
body_slots called (Some f) = slots_all called f.body

abbrev pub slots_step : Text → (ℕ → ℕ) → ℕ → ℕ
slots_step text called id = body_slots called (find_function id text)
