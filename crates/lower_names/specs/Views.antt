-- What the types of the translation show.
use Rattle.std.specs.Prelude.{◌≡◌, ◌-◌, ℕ, Option, Some, List, [], ◌∷◌, ◌++◌, map, length, drop, take}
use Rattle.forec_base.specs.declared.Place.{Place}
use Rattle.forec_kernel.specs.Terms as kernel
use Rattle.forec_kernel.specs.Terms.{Stmt, Stmts, Exprs, Branch}
use Rattle.forec_kernel.specs.Plain.{stmt}
use Rattle.forec_tree.specs.declared.tree.Expr.{Expr}
use Rattle.forec_tree.specs.declared.tree.Stmt as rust
use Rattle.forec_tree.specs.Plain.{term, optional_term, statement, branch_with}
use Rattle.forec_tree.specs.Terms.{Text, Statement, If, Statements, Perhaps, Branches, no_branches, PlainFunction}
use Rattle.loop_check.specs.Views.{indexed_text}
use Rattle.loop_check.specs.Judges.{judge_text}
use Rattle.lower_names.specs.declared.source.Source.{Source}
use Rattle.lower_names.specs.declared.context.Context.{Context}
use Rattle.lower_names.specs.declared.heads.AbortHead.{AbortHead}
use Rattle.lower_names.specs.Additions.{AllAdd}
use Rattle.lower_names.specs.Heads.{abort_at}
use Rattle.lower_names.specs.Landings.{called_within, AllLand}
use Rattle.lower_names.specs.declared.state.Pending.{Pending}
use Rattle.lower_names.specs.declared.state.Thread.{Thread}
use Rattle.lower_names.specs.declared.state.State.{State}
use Rattle.text_kernel.specs.Lowering.{NextNumbers, Made, Lowered, Listed, Started, Inlined, as_one, scope_after, scope_after_perhaps, optional_test, lower_statement, lower_perhaps, lower_list, lower_branches, inlined_body}
use Rattle.text_kernel.specs.declared.names.Slot.{Slot}
use Rattle.lower_names.specs.declared.scope.Scope.{Scope}

-- the locals that are seen
abbrev pub seen : Scope → List Slot
seen s = drop s.base s.slots.items

-- the same locals as before, with others after them
pub record AppendsLocals (old new : Scope) : Type 0 where
  pub base : new.base ≡ old.base
  pub front : take (length old.slots.items) new.slots.items ≡ old.slots.items

-- the same locals as before
pub record Same (old new : Scope) : Type 0 where
  pub base : new.base ≡ old.base
  pub slots : new.slots.items ≡ old.slots.items

-- where a thread's translation stands
abbrev pub next_of : State → NextNumbers
next_of s = record { slot = s.slot; thread = s.thread; par = s.par }

-- a thread below, without the variables that it names
pub record Bare : Type 0 where
  pub parent : ℕ
  pub par : ℕ
  pub name : Option ℕ
  pub params : ℕ
  pub words : ℕ
  pub behind : ℕ
  pub body : Stmt

abbrev pub of_thread : Thread → Bare
of_thread t = record { parent = t.parent; par = t.par; name = t.name; params = t.params; words = t.words; behind = t.behind; body = stmt t.body }

abbrev pub bare : Made → Bare
bare m = record { parent = m.parent; par = m.par; name = m.name; params = m.params; words = m.words; behind = m.behind; body = m.body }

-- what a single branch of a `par` becomes, as the thread of a number: this thread, and those below it
abbrev pub made_by : Text → (deep parent par number first : ℕ) → Branches → List Made
made_by text deep parent par number first bs = (lower_branches text (called_within text deep) parent [] par (record { slot = 0; thread = number; par = first }) bs).made

-- what a branch becomes that is still to be translated
abbrev pub made_of : Text → Pending → List Made
made_of text p = made_by text p.deep p.parent p.par p.number p.first (branch_with p.branch.now no_branches)

abbrev pub pending_threads : Text → List Pending → List Bare
pending_threads text [] = []
pending_threads text (p ∷ rest) = map bare (made_of text p) ++ pending_threads text rest

abbrev pub threads_of : Text → State → List Bare
threads_of text s = pending_threads text s.pending.items

-- the same of a stack, of which the last one comes first
abbrev pub threads_on : Text → List Pending → List Bare
threads_on text [] = []
threads_on text (p ∷ rest) = threads_on text rest ++ map bare (made_of text p)

-- a statement, a list of statements and the branches of a `par` are translated, from one state to another
pub record Does (text : Text) (l : Lowered) (k : Stmt) (old new : State) : Type 0 where
  pub is : k ≡ l.stmt
  pub next : next_of new ≡ l.next
  pub threads : threads_of text new ≡ threads_of text old ++ map bare l.made

pub record DoesList (text : Text) (l : Listed) (k : Stmts) (old new : State) : Type 0 where
  pub is : k ≡ l.list
  pub next : next_of new ≡ l.next
  pub threads : threads_of text new ≡ threads_of text old ++ map bare l.made

pub record DoesBranches (text : Text) (l : Started) (k : List Branch) (old new : State) : Type 0 where
  pub is : k ≡ l.launches
  pub next : next_of new ≡ l.next
  pub threads : threads_of text new ≡ threads_of text old ++ map bare l.made

-- all parts of a source are of one text
pub record OneText (s : Source) : Type 0 where
  pub pauses : judge_text s.pauses ≡ indexed_text s.globals.index
  pub landings : AllLand (indexed_text s.globals.index) s.landings.items
  pub added : AllAdd (indexed_text s.globals.index) s.added.items

abbrev pub context_text : Context → Text
context_text c = indexed_text c.source.now.globals.index

-- the arguments of a single branch, from where it stands
abbrev pub Launches : Text → List Slot → Branches → Exprs → Type 0
Launches text s bs args = (called : ℕ → Inlined) (t p : ℕ) (n : NextNumbers) → (lower_branches text called t s p n bs).launches ≡ record { thread = n.thread; args = args } ∷ []

-- the same, in a context
abbrev pub Done : Context → Statement → Stmt → State → State → Type 0
Done c a k old new =
    let text = indexed_text c.source.now.globals.index in Does text (lower_statement text (called_within text c.deep) c.owner (seen old.scope) (next_of old) a) k old new

abbrev pub DonePerhaps : Context → Perhaps → Stmt → State → State → Type 0
DonePerhaps c a k old new =
    let text = indexed_text c.source.now.globals.index in Does text (lower_perhaps text (called_within text c.deep) c.owner (seen old.scope) (next_of old) a) k old new

abbrev pub DoneList : Context → List Slot → Statements → Stmts → State → State → Type 0
DoneList c s a k old new =
    let text = indexed_text c.source.now.globals.index in DoesList text (lower_list text (called_within text c.deep) c.owner s (next_of old) a) k old new

-- a list as one statement
abbrev pub DoneAsOne : Context → List Slot → Statements → Stmt → State → State → Type 0
DoneAsOne c s a k old new =
    let text = indexed_text c.source.now.globals.index in Does text (as_one (lower_list text (called_within text c.deep) c.owner s (next_of old) a)) k old new

abbrev pub DoneBranches : Context → (par : ℕ) → Branches → List Branch → State → State → Type 0
DoneBranches c par bs k old new =
    let text = indexed_text c.source.now.globals.index in DoesBranches text (lower_branches text (called_within text c.deep) c.owner (seen old.scope) par (next_of old) bs) k old new

-- an `if` without its place, which the kernel doesn't keep
abbrev pub DoneIf : Context → Expr → rust.Stmt → Perhaps → Stmt → State → State → Type 0
DoneIf c test a b k old new = (at : Place) → Done c (If at (term test) (statement a) b) k old new

-- an abort without its place
abbrev pub DoneAbort : Context → AbortHead → List rust.Stmt → Stmt → State → State → Type 0
DoneAbort c h body k old new = (at : Place) → Done c (abort_at at h body) k old new

-- a statement to which so many calls come, which sees global names alone
abbrev pub DoneLanded : Context → ℕ → Statement → Stmt → State → State → Type 0
DoneLanded c calls a k old new =
    let text = indexed_text c.source.now.globals.index in Does text (lower_statement text (called_within text (c.deep - calls)) c.owner [] (next_of old) a) k old new

-- a function by its name, inlined with its parameters from a slot on
abbrev pub DoneCall : Context → (id first : ℕ) → Stmt → State → State → Type 0
DoneCall c id first k old new =
    let text = indexed_text c.source.now.globals.index in Does text (called_within text c.deep id first c.owner (next_of old)) k old new

-- the body of a function, inlined with its parameters from a slot on
abbrev pub DoneFunction : Context → PlainFunction → (first : ℕ) → Stmt → State → State → Type 0
DoneFunction c f first k old new =
    let text = indexed_text c.source.now.globals.index in Does text (inlined_body text (called_within text c.deep) (Some f) first c.owner (next_of old)) k old new

-- the locals that are seen after a statement
abbrev pub SeenAfter : Context → Statement → State → State → Type 0
SeenAfter c a old new = seen new.scope ≡ scope_after (indexed_text c.source.now.globals.index) (seen old.scope) old.slot a

abbrev pub SeenAfterPerhaps : Context → Perhaps → State → State → Type 0
SeenAfterPerhaps c a old new = seen new.scope ≡ scope_after_perhaps (indexed_text c.source.now.globals.index) (seen old.scope) old.slot a

-- the test of a `for`; a missing one is the number 1
abbrev pub IsTest : Context → State → Option Expr → kernel.Expr → Type 0
IsTest c s test e = e ≡ optional_test (indexed_text c.source.now.globals.index) (seen s.scope) (optional_term test)

-- A thread and the branches that are pending after it are what a branch becomes.
abbrev pub IsMade : Text → Pending → Thread → State → Type 0
IsMade text one t new = of_thread t ∷ threads_of text new ≡ map bare (made_of text one)

-- the same by the numbers that a context and a state have
abbrev pub IsMadeBy : Context → Pending → Branches → Thread → State → State → Type 0
IsMadeBy c one bs t old new =
    let text = indexed_text c.source.now.globals.index in of_thread t ∷ threads_of text new ≡ map bare (made_by text c.deep one.parent one.par c.owner old.par bs)
