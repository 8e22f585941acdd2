-- The kernel's terms of a tree. Void functions that are called as statements are inlined.
use Rattle.std.specs.Prelude.{ℕ, suc, ◌+◌, pos, cond, Option, Some, None, List, [], ◌∷◌, ◌++◌, length}
use Rattle.forec_base.specs.declared.Place.{Place}
use Rattle.forec_base.specs.declared.operators.Binary.{Binary}
use Rattle.forec_kernel.specs.declared.terms.Spot.{Spot}
use Rattle.forec_kernel.specs.declared.terms.Spot.TheVariants as spot
use Rattle.forec_kernel.specs.Terms as kernel
use Rattle.forec_kernel.specs.Terms.{Expr, Exprs, no_exprs, more_exprs, Stmt, Stmts, no_stmts, more_stmts, Branch}
use Rattle.forec_kernel.specs.WellFormed.{can_divide, count_up}
use Rattle.forec_tree.specs.declared.tree.Name.{Name}
use Rattle.forec_tree.specs.declared.tree.Number.{Number}
use Rattle.forec_tree.specs.declared.tree.OpAt.{OpAt}
use Rattle.forec_tree.specs.Terms.{Term, Num, Read, Element, Un, Bin, And, Or, Choose, Call, Terms, no_terms, more_terms, count_terms, Declared, PlainTarget, Statement, Declare, Nothing, Group, Assign, Invoke, If, While, For, Pause, Par, Abort, Return, Statements, no_statements, more_statements, Perhaps, absent, present, Branches, no_branches, by_call, by_group, Text, PlainFunction}
use Rattle.forec_tree.specs.Scopes.{find_item}
use Rattle.forec_tree.specs.Turns.{inferred}
use Rattle.forec_tree.specs.Pauses.{within, find_function}
use Rattle.text_kernel.specs.Bindings.{number_of, slots_of, find_slot, with_local_slots, params_at, is_int_function, number_among, slot_stands, item_stands}
use Rattle.text_kernel.specs.declared.names.Slot.{Slot}
use Rattle.text_kernel.specs.declared.names.Stands.{Stands}
use Rattle.text_kernel.specs.declared.names.Stands.TheVariants as st

-- ---- expressions

abbrev pub place_if : Binary → Place → Option Place
place_if op place = cond (can_divide op) (Some place) None

abbrev pub read_as : Stands → Expr
read_as (st.AtSlot slot) = kernel.Local slot
read_as (st.AsVariable v) = kernel.Var v
read_as (st.AsNumber n) = kernel.Num n
read_as _ = kernel.Num (pos 0)

abbrev pub element_as : Stands → Expr → Place → Expr
element_as (st.AtSlots slot size) i place = kernel.LocalAt slot size i place
element_as (st.AsVariables v n) i place = kernel.SharedAt v n i place
element_as (st.AsTable t) i place = kernel.TableAt t i place
-- never so in a program without faults; the term is of the same size
element_as _ i place = kernel.TableAt 0 i place

module _ (text : Text) where
  abbrev pub stands : List Slot → ℕ → Stands
  stands scope id = elim (find_slot id None scope) [ Some s ↦ slot_stands s | None ↦ item_stands text (find_item id text) ]

  abbrev mutual
    pub lower_term : List Slot → Term → Expr
    lower_term s (Num at n) = kernel.Num n
    lower_term s (Read at name) = read_as (stands s name.id)
    lower_term s (Element at name i) = element_as (stands s name.id) (lower_term s i) name.place
    lower_term s (Un at op a) = kernel.Un op (lower_term s a)
    lower_term s (Bin at op a b) = kernel.Bin op (lower_term s a) (lower_term s b) (place_if op at)
    lower_term s (And at a b) = kernel.And (lower_term s a) (lower_term s b)
    lower_term s (Or at a b) = kernel.Or (lower_term s a) (lower_term s b)
    lower_term s (Choose at t a b) = kernel.Choose (lower_term s t) (lower_term s a) (lower_term s b)
    lower_term s (Call at name args) = kernel.Call (number_among is_int_function name.id text) (lower_terms s args)

    pub lower_terms : List Slot → Terms → Exprs
    lower_terms s no_terms = no_exprs
    lower_terms s (more_terms e rest) = more_exprs (lower_term s e) (lower_terms s rest)

-- ---- sequences

-- the empty one is `nop`, that of one statement is this statement
abbrev pub sequence : Stmts → Stmt
sequence no_stmts = kernel.Nop
sequence (more_stmts a no_stmts) = a
sequence (more_stmts a (more_stmts b rest)) = kernel.Seq (more_stmts a (more_stmts b rest))

abbrev pub ends_with : Stmts → Stmt → Stmts
ends_with no_stmts a = more_stmts a no_stmts
ends_with (more_stmts b rest) a = more_stmts b (ends_with rest a)

-- one list after another
abbrev pub joined_stmts : Stmts → Stmts → Stmts
joined_stmts no_stmts b = b
joined_stmts (more_stmts a rest) b = more_stmts a (joined_stmts rest b)

-- ---- statements

-- the next free slot of the thread, the number of the next thread, and that of the next par
pub record NextNumbers : Type 0 where
  pub slot : ℕ
  pub thread : ℕ
  pub par : ℕ

-- a thread below: its parent, the par whose branch it is, the function that it is by name, its parameters, its words, the number of the thread after it and those below it, its body, and the variables that it or a thread below it names
pub record Made : Type 0 where
  pub parent : ℕ
  pub par : ℕ
  pub name : Option ℕ
  pub params : ℕ
  pub words : ℕ
  pub behind : ℕ
  pub body : Stmt
  pub named : List ℕ

pub record Lowered : Type 0 where
  pub stmt : Stmt
  pub next : NextNumbers
  -- the threads below that came in, in preorder
  pub made : List Made

pub record Listed : Type 0 where
  pub list : Stmts
  pub next : NextNumbers
  pub made : List Made

pub record Started : Type 0 where
  pub launches : List Branch
  pub next : NextNumbers
  pub made : List Made

-- a list as one statement
abbrev pub as_one : Listed → Lowered
as_one l = record { stmt = sequence l.list; next = l.next; made = l.made }

abbrev pub lowered : Stmt → NextNumbers → Lowered
lowered s n = record { stmt = s; next = n; made = [] }

abbrev pub from_slot : NextNumbers → ℕ → NextNumbers
from_slot n slot = record { slot = slot; thread = n.thread; par = n.par }

-- the variables that an expression or a statement names
abbrev mutual
  pub vars_in : Expr → List ℕ
  vars_in (kernel.Num n) = []
  vars_in (kernel.Local x) = []
  vars_in (kernel.LocalAt x n i place) = vars_in i
  vars_in (kernel.Var v) = v ∷ []
  vars_in (kernel.SharedAt v n i place) = count_up v n ++ vars_in i
  vars_in (kernel.TableAt t i place) = vars_in i
  vars_in (kernel.Un op a) = vars_in a
  vars_in (kernel.Bin op a b place) = vars_in a ++ vars_in b
  vars_in (kernel.And a b) = vars_in a ++ vars_in b
  vars_in (kernel.Or a b) = vars_in a ++ vars_in b
  vars_in (kernel.Choose t a b) = vars_in t ++ (vars_in a ++ vars_in b)
  vars_in (kernel.Call f args) = vars_all args

  pub vars_all : Exprs → List ℕ
  vars_all no_exprs = []
  vars_all (more_exprs e rest) = vars_in e ++ vars_all rest

abbrev pub vars_spot : Spot → List ℕ
vars_spot (spot.Local slot) = []
vars_spot (spot.Variable v) = v ∷ []

abbrev pub vars_launches : List Branch → List ℕ
vars_launches [] = []
vars_launches (b ∷ rest) = vars_all b.args ++ vars_launches rest

abbrev mutual
  pub vars_of : Stmt → List ℕ
  vars_of kernel.Nop = []
  vars_of (kernel.Set to e) = vars_spot to ++ vars_in e
  vars_of (kernel.SetAt x n i e place) = vars_in i ++ vars_in e
  vars_of (kernel.PutAt v n i e place) = count_up v n ++ (vars_in i ++ vars_in e)
  vars_of (kernel.Clear x n) = []
  vars_of (kernel.Seq list) = vars_list list
  vars_of (kernel.If e a b) = vars_in e ++ (vars_of a ++ vars_of b)
  vars_of (kernel.While e bound body place) = vars_in e ++ vars_of body
  vars_of kernel.Pause = []
  vars_of (kernel.Par bs) = vars_launches bs
  vars_of (kernel.Enter weak immediate e body) = vars_in e ++ vars_of body
  vars_of (kernel.Return e) = vars_in e

  pub vars_list : Stmts → List ℕ
  vars_list no_stmts = []
  vars_list (more_stmts a rest) = vars_of a ++ vars_list rest

abbrev pub vars_made : List Made → List ℕ
vars_made [] = []
vars_made (m ∷ rest) = vars_of m.body ++ vars_made rest

-- a thread, before those below it
abbrev pub made_thread : ℕ → ℕ → Option ℕ → ℕ → Lowered → List Made
made_thread parent par name params l =
    record { parent = parent; par = par; name = name; params = params; words = l.next.slot; behind = l.next.thread; body = l.stmt; named = vars_of l.stmt ++ vars_made l.made } ∷ l.made

abbrev pub operated_expr : Option OpAt → Expr → Expr → Expr
operated_expr None old value = value
operated_expr (Some o) old value = kernel.Bin o.op old value (place_if o.op o.place)

abbrev pub assign_to : Stands → Option OpAt → Expr → Stmt
assign_to (st.AtSlot slot) op value = kernel.Set (spot.Local slot) (operated_expr op (kernel.Local slot) value)
assign_to (st.AsVariable v) op value = kernel.Set (spot.Variable v) (operated_expr op (kernel.Var v) value)
assign_to _ op value = kernel.Set (spot.Local 0) (operated_expr op (kernel.Num (pos 0)) value)

abbrev pub assign_at : Stands → Option OpAt → Expr → Expr → Place → Stmt
assign_at (st.AtSlots slot size) op i value place =
    kernel.SetAt slot size i (operated_expr op (kernel.LocalAt slot size i place) value) place
assign_at (st.AsVariables v n) op i value place =
    kernel.PutAt v n i (operated_expr op (kernel.SharedAt v n i place) value) place
assign_at _ op i value place = kernel.SetAt 0 0 i (operated_expr op (kernel.LocalAt 0 0 i place) value) place

abbrev pub bound_of : Option Number → Option ℕ
bound_of None = None
bound_of (Some n) = Some (number_of n)

abbrev pub or_inferred : Option ℕ → Option ℕ → Option ℕ
or_inferred None n = n
or_inferred (Some b) n = Some b

-- one statement after another
abbrev pub pair : Stmt → Stmt → Stmt
pair a b = kernel.Seq (more_stmts a (more_stmts b no_stmts))

-- I; while(..), or the loop alone
abbrev pub after_start : Perhaps → Stmt → Stmt → Stmt
after_start absent start loop = loop
after_start (present a) start loop = pair start loop

-- B;S, or B alone
abbrev pub then_step : Perhaps → Stmt → Stmt → Stmt
then_step absent body step = body
then_step (present a) body step = pair body step

-- A tree can have a `par` without a branch, which no text spells: it is `nop`, and takes no number.
abbrev pub par_of : List Branch → Stmt
par_of [] = kernel.Nop
par_of (b ∷ rest) = kernel.Par (b ∷ rest)

abbrev pub par_after : Branches → ℕ → ℕ
par_after no_branches p = p
par_after (by_call name args rest) p = suc p
par_after (by_group at body rest) p = suc p

abbrev pub param_names : Option PlainFunction → List Name
param_names None = []
param_names (Some f) = f.params

module _ (text : Text) where
  abbrev pub array_values : List Slot → ℕ → ℕ → ℕ → Terms → Place → Stmts
  array_values s slot size k no_terms place = no_stmts
  array_values s slot size k (more_terms e rest) place =
      more_stmts (kernel.SetAt slot size (kernel.Num (pos k)) (lower_term text s e) place) (array_values s slot size (suc k) rest place)

  abbrev pub lower_local : List Slot → ℕ → Declared → Stmt
  lower_local s slot l = elim l.length [
    | Some n ↦ sequence (more_stmts (kernel.Clear slot (number_of n)) (array_values s slot (number_of n) 0 l.values l.name.place))
    | None ↦ elim l.values [ no_terms ↦ kernel.Clear slot 1 | more_terms e rest ↦ kernel.Set (spot.Local slot) (lower_term text s e) ]
  ]

  abbrev pub lower_locals : List Slot → ℕ → List Declared → Stmts
  lower_locals s slot [] = no_stmts
  lower_locals s slot (l ∷ rest) = more_stmts (lower_local s slot l) (lower_locals (with_local_slots s slot (l ∷ [])) (slot + slots_of l.length) rest)

  abbrev pub slots_after : ℕ → List Declared → ℕ
  slots_after slot [] = slot
  slots_after slot (l ∷ rest) = slots_after (slot + slots_of l.length) rest

  -- the scope after a statement
  abbrev pub scope_after : List Slot → ℕ → Statement → List Slot
  scope_after s slot (Declare at locals) = with_local_slots s slot locals
  scope_after s slot _ = s

  abbrev pub scope_after_perhaps : List Slot → ℕ → Perhaps → List Slot
  scope_after_perhaps s slot absent = s
  scope_after_perhaps s slot (present a) = scope_after s slot a

  -- the parameters of a function that is inlined are set from the arguments
  abbrev pub set_params : List Slot → ℕ → Terms → Stmts
  set_params s slot no_terms = no_stmts
  set_params s slot (more_terms e rest) = more_stmts (kernel.Set (spot.Local slot) (lower_term text s e)) (set_params s (suc slot) rest)

  abbrev pub optional_test : List Slot → Option Term → Expr
  optional_test s None = kernel.Num (pos 1)
  optional_test s (Some e) = lower_term text s e

  abbrev pub lower_target : List Slot → PlainTarget → Option OpAt → Expr → Stmt
  lower_target s t op value = elim t.index [
    | None ↦ assign_to (stands text s t.name.id) op value
    | Some i ↦ assign_at (stands text s t.name.id) op (lower_term text s i) value t.name.place
  ]

-- a call of a void function that is inlined, in a thread: the slots of its parameters, which the caller has taken, and what is free after them
abbrev pub Inlined : Type 0
Inlined = (first owner : ℕ) → NextNumbers → Lowered

module _ (text : Text) (called : ℕ → Inlined) where
  abbrev mutual
    pub lower_statement : ℕ → List Slot → NextNumbers → Statement → Lowered
    lower_statement t s n (Nothing at) = lowered kernel.Nop n
    lower_statement t s n (Group at body) =
        as_one (lower_list t s n body)
    lower_statement t s n (Declare at locals) = lowered (sequence (lower_locals text s n.slot locals)) (from_slot n (slots_after text n.slot locals))
    lower_statement t s n (Assign at target op value) = lowered (lower_target text s target op (lower_term text s value)) n
    lower_statement t s n (Invoke at name args) =
        let l = called name.id n.slot t (from_slot n (n.slot + count_terms args)) in
        record { stmt = sequence (ends_with (set_params text s n.slot args) l.stmt); next = l.next; made = l.made }
    lower_statement t s n (If at test a b) =
        let l = lower_statement t s n a in
        let m = lower_perhaps t s l.next b in
        record { stmt = kernel.If (lower_term text s test) l.stmt m.stmt; next = m.next; made = l.made ++ m.made }
    lower_statement t s n (While at test bound body) =
        let l = lower_statement t s n body in
        record { stmt = kernel.While (lower_term text s test) (bound_of bound) l.stmt at; next = l.next; made = l.made }
    lower_statement t s n (For at start test step bound body) =
        let inside = scope_after_perhaps text s n.slot start in
        let i = lower_perhaps t s n start in
        let j = lower_perhaps t inside i.next step in
        let l = lower_statement t (scope_after_perhaps text inside i.next.slot step) j.next body in
        record {
          stmt =
              after_start start i.stmt
              (kernel.While (optional_test text inside test) (or_inferred (bound_of bound) (inferred text (For at start test step bound body)))
              (then_step step l.stmt j.stmt) at);
          next = l.next;
          made = i.made ++ (j.made ++ l.made);
        }
    lower_statement t s n (Pause at) = lowered kernel.Pause n
    lower_statement t s n (Par at bs) =
        let l = lower_branches t s n.par (record { slot = n.slot; thread = n.thread; par = par_after bs n.par }) bs in
        record { stmt = par_of l.launches; next = l.next; made = l.made }
    lower_statement t s n (Abort at weak immediate test body) =
        let l = lower_list t s n body in
        record { stmt = kernel.Enter weak immediate (lower_term text s test) (sequence l.list); next = l.next; made = l.made }
    lower_statement t s n (Return at value) = lowered (kernel.Return (lower_term text s value)) n

    pub lower_list : ℕ → List Slot → NextNumbers → Statements → Listed
    lower_list t s n no_statements = record { list = no_stmts; next = n; made = [] }
    lower_list t s n (more_statements a rest) =
        let l = lower_statement t s n a in
        let m = lower_list t (scope_after text s n.slot a) l.next rest in
        record { list = more_stmts l.stmt m.list; next = m.next; made = l.made ++ m.made }

    pub lower_perhaps : ℕ → List Slot → NextNumbers → Perhaps → Lowered
    lower_perhaps t s n absent = lowered kernel.Nop n
    lower_perhaps t s n (present a) = lower_statement t s n a

    -- each branch is the next thread, and those below it follow it
    pub lower_branches : ℕ → List Slot → ℕ → NextNumbers → Branches → Started
    lower_branches t s p n no_branches = record { launches = []; next = n; made = [] }
    lower_branches t s p n (by_call name args rest) =
        let b = called name.id 0 n.thread (record { slot = count_terms args; thread = suc n.thread; par = n.par }) in
        let m = lower_branches t s p (record { slot = n.slot; thread = b.next.thread; par = b.next.par }) rest in
        record {
          launches = record { thread = n.thread; args = lower_terms text s args } ∷ m.launches;
          next = m.next;
          made = made_thread t p (Some name.id) (length (param_names (find_function name.id text))) b ++ m.made;
        }
    lower_branches t s p n (by_group at body rest) =
        let l = lower_list n.thread [] (record { slot = 0; thread = suc n.thread; par = n.par }) body in
        let m = lower_branches t s p (record { slot = n.slot; thread = l.next.thread; par = l.next.par }) rest in
        record {
          launches = record { thread = n.thread; args = no_exprs } ∷ m.launches;
          next = m.next;
          made = made_thread t p None 0 (as_one l) ++ m.made;
        }

abbrev pub inlined_body : Text → (ℕ → Inlined) → Option PlainFunction → Inlined
inlined_body text called None first t n = lowered kernel.Nop n
inlined_body text called (Some f) first t n =
    as_one (lower_list text called t (params_at first f.params) n f.body)

abbrev pub inlined_step : Text → (ℕ → Inlined) → ℕ → Inlined
inlined_step text called id = inlined_body text called (find_function id text)

abbrev pub nothing_inlined : Inlined
nothing_inlined first t n = lowered kernel.Nop n

-- a function by its name, inlined
abbrev pub inlined : Text → ℕ → Inlined
inlined text = within nothing_inlined (inlined_step text) (length text)
