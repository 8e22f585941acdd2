-- What it means that tokens spell a statement.
use Rattle.std.specs.Prelude.{◌≡◌, ℕ, ℤ, pos, ◌+◌, Bool, true, false, List, [], ◌∷◌, ◌++◌, Option, Some, None}
use Rattle.forec_base.specs.declared.Place.{Place}
use Rattle.forec_base.specs.declared.operators.Binary.{Binary}
use Rattle.forec_tree.specs.declared.token.Token.{Token}
use Rattle.forec_tree.specs.declared.token.Mark.TheVariants as mark
use Rattle.forec_tree.specs.declared.token.Word.{Word}
use Rattle.forec_tree.specs.declared.token.Word.TheVariants as word
use Rattle.forec_tree.specs.declared.tree.Number.{Number}
use Rattle.forec_tree.specs.Terms as plain
use Rattle.forec_tree.specs.Terms.{Term, Declared, PlainTarget, Statement, Perhaps, absent, present}
use Rattle.forec_tree.specs.Parts.{number_at, op_at, updates_by, steps_by, written_at, declared_as, in_order, Launch, Calls, Blocks, launched, Head, head_of}
use Rattle.forec_tree.specs.Spelling.{Spelt, at, IsMark, IsWord, IsNameToken, IsNumberToken, name_at, listed, Whole, Brackets, SpellsIndex, SpellsArguments, SpellsExpressions}

abbrev pub IsUpdate : Binary → Token → Type 0
IsUpdate op t = updates_by t.kind ≡ Some op

abbrev pub IsStep : Binary → Token → Type 0
IsStep op t = steps_by t.kind ≡ Some op

-- One or more, with a comma between each two; `Part x v ls` says that the tokens of ls spell x at the level v.
pub data Separated {A : Type 0} (Part : A → ℕ → List Spelt → Type 0) : List A → ℕ → List Spelt → Type 0 where
  last_part : {v : ℕ} {x : A} {ls : List Spelt} → Part x v ls → Separated Part (x ∷ []) v ls
  next_part : {v : ℕ} {x : A} {xs : List A} (comma : Token) {ls rs : List Spelt}
      → Part x v ls → IsMark mark.Comma comma → Separated Part xs v rs → Separated Part (x ∷ xs) v (ls ++ (at comma v ∷ rs))

-- ---- simple statements

-- what is written to
pub data Targets : PlainTarget → ℕ → List Spelt → Type 0 where
  scalar : {v : ℕ} {t : Token} (id : ℕ) → IsNameToken id t → Targets (written_at (name_at id t.place) None) v (at t v ∷ [])
  indexed : {v : ℕ} {t : Token} {index : Term} {ls : List Spelt} (id : ℕ) → IsNameToken id t → SpellsIndex index v ls
      → Targets (written_at (name_at id t.place) (Some index)) v (at t v ∷ ls)

-- An assignment or a call, without what ends it. The place is that of its first token.
pub data Simple : Statement → ℕ → List Spelt → Type 0 where
  sets : {v : ℕ} {target : PlainTarget} (t : Token) {value : Term} {ts ls : List Spelt} → Targets target v ts → IsMark mark.Assign t → Whole value v ls
      → Simple (plain.Assign target.name.place target None value) v (ts ++ (at t v ∷ ls))
  updates : {v : ℕ} {target : PlainTarget} (t : Token) {value : Term} {ts ls : List Spelt} (op : Binary) → Targets target v ts → IsUpdate op t → Whole value v ls
      → Simple (plain.Assign target.name.place target (Some (op_at op t.place)) value) v (ts ++ (at t v ∷ ls))
  -- `x++` and `x--`; the number 1 stands at the mark
  steps_after : {v : ℕ} {target : PlainTarget} (t : Token) {ts : List Spelt} (op : Binary) → Targets target v ts → IsStep op t
      → Simple (plain.Assign target.name.place target (Some (op_at op t.place)) (plain.Num t.place (pos 1))) v (ts ++ (at t v ∷ []))
  -- `++x` and `--x`
  steps_ahead : {v : ℕ} {target : PlainTarget} {t : Token} {ts : List Spelt} (op : Binary) → IsStep op t → Targets target v ts
      → Simple (plain.Assign t.place target (Some (op_at op t.place)) (plain.Num t.place (pos 1))) v (at t v ∷ ts)
  invokes : {v : ℕ} {t : Token} {args : List Term} {ls : List Spelt} (id : ℕ) → IsNameToken id t → SpellsArguments args v ls
      → Simple (plain.Invoke t.place (name_at id t.place) (listed args)) v (at t v ∷ ls)

-- ---- declarations

-- an array's length, with its square brackets
pub data Lengths : Number → ℕ → List Spelt → Type 0 where
  lengths : {v : ℕ} {left t right : Token} (value : ℤ) → IsMark mark.LeftSquare left → IsNumberToken value t → IsMark mark.RightSquare right
      → Lengths (number_at value t.place) v (at left (v + 1) ∷ at t (v + 1) ∷ at right v ∷ [])

-- one declarator of a local
pub data Declares : Declared → ℕ → List Spelt → Type 0 where
  bare : {v : ℕ} {t : Token} (id : ℕ) → IsNameToken id t → Declares (declared_as (name_at id t.place) None []) v (at t v ∷ [])
  valued : {v : ℕ} {t equal : Token} {value : Term} {ls : List Spelt} (id : ℕ) → IsNameToken id t → IsMark mark.Assign equal → Whole value v ls
      → Declares (declared_as (name_at id t.place) None (value ∷ [])) v (at t v ∷ at equal v ∷ ls)
  array : {v : ℕ} {t : Token} {length : Number} {ls : List Spelt} (id : ℕ) → IsNameToken id t → Lengths length v ls
      → Declares (declared_as (name_at id t.place) (Some length) []) v (at t v ∷ ls)
  valued_array : {v : ℕ} {t : Token} (equal left right : Token) {length : Number} {values : List Term} {ls rs : List Spelt} (id : ℕ)
      → IsNameToken id t → Lengths length v ls → IsMark mark.Assign equal → IsMark mark.LeftCurly left → SpellsExpressions values (v + 1) rs → IsMark mark.RightCurly right
      → Declares (declared_as (name_at id t.place) (Some length) values) v (at t v ∷ (ls ++ (at equal v ∷ at left (v + 1) ∷ (rs ++ (at right v ∷ [])))))

-- ---- loops

-- the bound of a loop, if it has one
pub data SpellsBound : Option Number → ℕ → List Spelt → Type 0 where
  unbounded : {v : ℕ} → SpellsBound None v []
  bounded : {v : ℕ} {hash t : Token} (value : ℤ) → IsMark mark.Hash hash → IsNumberToken value t → SpellsBound (Some (number_at value t.place)) v (at hash v ∷ at t v ∷ [])

-- how a `for` starts
pub data ForStarts : Perhaps → ℕ → List Spelt → Type 0 where
  no_start : {v : ℕ} → ForStarts absent v []
  simple_start : {v : ℕ} {x : Statement} {ls : List Spelt} → Simple x v ls → ForStarts (present x) v ls
  declared_start : {v : ℕ} {int t equal : Token} {value : Term} {ls : List Spelt} (id : ℕ) → IsWord word.Int int → IsNameToken id t → IsMark mark.Assign equal → Whole value v ls
      → ForStarts (present (plain.Declare int.place (declared_as (name_at id t.place) None (value ∷ []) ∷ []))) v (at int v ∷ at t v ∷ at equal v ∷ ls)

-- the test of a `for`
pub data Tests : Option Term → ℕ → List Spelt → Type 0 where
  no_test : {v : ℕ} → Tests None v []
  some_test : {v : ℕ} {test : Term} {ls : List Spelt} → Whole test v ls → Tests (Some test) v ls

-- what a `for` does after its body
pub data ForSteps : Perhaps → ℕ → List Spelt → Type 0 where
  no_step : {v : ℕ} → ForSteps absent v []
  some_step : {v : ℕ} {x : Statement} {ls : List Spelt} → Simple x v ls → ForSteps (present x) v ls

-- what stands between the brackets of a `for`
pub data HeadParts : Head → ℕ → List Spelt → Type 0 where
  head_parts : {v : ℕ} (first second : Token) {start : Perhaps} {test : Option Term} {step : Perhaps} {ls ms rs : List Spelt}
      → ForStarts start v ls → IsMark mark.Semicolon first → Tests test v ms → IsMark mark.Semicolon second → ForSteps step v rs
      → HeadParts (head_of start test step) v (ls ++ (at first v ∷ (ms ++ (at second v ∷ rs))))

-- the head of a `for`, with its brackets
pub data Heads : Head → ℕ → List Spelt → Type 0 where
  heads : {v : ℕ} {left : Token} (right : Token) {head : Head} {ls : List Spelt} → IsMark mark.LeftRound left → HeadParts head (v + 1) ls → IsMark mark.RightRound right
      → Heads head v (at left (v + 1) ∷ (ls ++ (at right v ∷ [])))

-- ---- statements

-- a word that may stand here, and whether it does
pub data Optional (w : Word) : Bool → ℕ → List Spelt → Type 0 where
  there : {v : ℕ} {t : Token} → IsWord w t → Optional w true v (at t v ∷ [])
  missing : {v : ℕ} → Optional w false v []

-- `SpellsStatement x o v u ls`: the tokens of ls spell the statement x. The level is v before them, and u after the last one, which depends on
-- what the statement stands in. o tells whether it ends in an `if` without `else`, which an `else` after it would belong to.
-- `if`, `else`, `while`, `for` and `abort` raise the level up to the end of their statement.
mutual
  pub data SpellsStatement : Statement → Bool → ℕ → ℕ → List Spelt → Type 0 where
    nothing : {v u : ℕ} {t : Token} → IsMark mark.Semicolon t → SpellsStatement (plain.Nothing t.place) false v u (at t u ∷ [])
    acts : {v u : ℕ} (semicolon : Token) {x : Statement} {ls : List Spelt} → Simple x v ls → IsMark mark.Semicolon semicolon
        → SpellsStatement x false v u (ls ++ (at semicolon u ∷ []))
    group : {v u : ℕ} {place : Place} {body : List Statement} {ls : List Spelt} → Block place body v u ls → SpellsStatement (plain.Group place (in_order body)) false v u ls
    declares : {v u : ℕ} {t : Token} (semicolon : Token) {locals : List Declared} {ls : List Spelt} → IsWord word.Int t → Separated Declares locals v ls → IsMark mark.Semicolon semicolon
        → SpellsStatement (plain.Declare t.place locals) false v u (at t v ∷ (ls ++ (at semicolon u ∷ [])))
    if_alone : {v u : ℕ} {o : Bool} {t : Token} {test : Term} {first : Statement} {ls ms : List Spelt}
        → IsWord word.If t → Brackets test (v + 1) ls → SpellsStatement first o (v + 1) u ms
        → SpellsStatement (plain.If t.place test first absent) true v u (at t (v + 1) ∷ (ls ++ ms))
    -- what stands before `else` does not end in an `if` without `else`
    if_else : {v u : ℕ} {o : Bool} {t : Token} (other : Token) {test : Term} {first second : Statement} {ls ms rs : List Spelt}
        → IsWord word.If t → Brackets test (v + 1) ls → SpellsStatement first false (v + 1) (v + 1) ms → IsWord word.Else other → SpellsStatement second o (v + 1 + 1) u rs
        → SpellsStatement (plain.If t.place test first (present second)) o v u (at t (v + 1) ∷ (ls ++ (ms ++ (at other (v + 1 + 1) ∷ rs))))
    loops : {v u : ℕ} {o : Bool} {t : Token} {test : Term} {bound : Option Number} {body : Statement} {ls ms rs : List Spelt}
        → IsWord word.While t → Brackets test (v + 1) ls → SpellsBound bound (v + 1) ms → SpellsStatement body o (v + 1) u rs
        → SpellsStatement (plain.While t.place test bound body) o v u (at t (v + 1) ∷ (ls ++ (ms ++ rs)))
    counts : {v u : ℕ} {o : Bool} {t : Token} {head : Head} {bound : Option Number} {body : Statement} {ls ms rs : List Spelt}
        → IsWord word.For t → Heads head (v + 1) ls → SpellsBound bound (v + 1) ms → SpellsStatement body o (v + 1) u rs
        → SpellsStatement (plain.For t.place head.start head.test head.step bound body) o v u (at t (v + 1) ∷ (ls ++ (ms ++ rs)))
    pauses : {v u : ℕ} {t semicolon : Token} → IsWord word.Pause t → IsMark mark.Semicolon semicolon → SpellsStatement (plain.Pause t.place) false v u (at t v ∷ at semicolon u ∷ [])
    forks : {v u : ℕ} {t : Token} (semicolon : Token) {branches : List Launch} {ls : List Spelt} → IsWord word.Par t → SpellsBranches branches v ls → IsMark mark.Semicolon semicolon
        → SpellsStatement (plain.Par t.place (launched branches)) false v u (at t v ∷ (ls ++ (at semicolon u ∷ [])))
    -- the place is that of `abort`
    aborts : {v u : ℕ} {weak immediate : Bool} {place : Place} (t when semicolon : Token) {test : Term} {body : List Statement} {ws ls is ms : List Spelt}
        → Optional word.Weak weak v ws → IsWord word.Abort t → Block place body (v + 1) (v + 1) ls
        → IsWord word.When when → Optional word.Immediate immediate (v + 1) is → Brackets test (v + 1) ms → IsMark mark.Semicolon semicolon
        → SpellsStatement (plain.Abort t.place weak immediate test (in_order body)) false v u
        (ws ++ (at t (v + 1) ∷ (ls ++ (at when (v + 1) ∷ (is ++ (ms ++ (at semicolon u ∷ [])))))))
    gives_back : {v u : ℕ} {t : Token} (semicolon : Token) {value : Term} {ls : List Spelt} → IsWord word.Return t → Whole value v ls → IsMark mark.Semicolon semicolon
        → SpellsStatement (plain.Return t.place value) false v u (at t v ∷ (ls ++ (at semicolon u ∷ [])))

  -- `Block place body v u ls`: statements between curly brackets, the first of which is at the place; u is the level after the last
  pub data Block : Place → List Statement → ℕ → ℕ → List Spelt → Type 0 where
    block : {v u : ℕ} {left : Token} (right : Token) {body : List Statement} {ls : List Spelt}
        → IsMark mark.LeftCurly left → SpellsStatements body (v + 1) ls → IsMark mark.RightCurly right
        → Block left.place body v u (at left (v + 1) ∷ (ls ++ (at right u ∷ [])))

  pub data SpellsStatements : List Statement → ℕ → List Spelt → Type 0 where
    no_more : {v : ℕ} → SpellsStatements [] v []
    and_more : {v : ℕ} {o : Bool} {x : Statement} {xs : List Statement} {ls rs : List Spelt} → SpellsStatement x o v v ls → SpellsStatements xs v rs → SpellsStatements (x ∷ xs) v (ls ++ rs)

  -- branches, with their brackets
  pub data SpellsBranches : List Launch → ℕ → List Spelt → Type 0 where
    forked : {v : ℕ} {left : Token} (right : Token) {branches : List Launch} {ls : List Spelt} → IsMark mark.LeftRound left → SpellsLaunches branches (v + 1) ls → IsMark mark.RightRound right
        → SpellsBranches branches v (at left (v + 1) ∷ (ls ++ (at right v ∷ [])))

  pub data Starting : Launch → ℕ → List Spelt → Type 0 where
    bare_call : {v : ℕ} {t : Token} (id : ℕ) → IsNameToken id t → Starting (Calls (name_at id t.place) (listed [])) v (at t v ∷ [])
    call : {v : ℕ} {t : Token} {args : List Term} {ls : List Spelt} (id : ℕ) → IsNameToken id t → SpellsArguments args v ls
        → Starting (Calls (name_at id t.place) (listed args)) v (at t v ∷ ls)
    blocked : {v : ℕ} {place : Place} {body : List Statement} {ls : List Spelt} → Block place body v v ls → Starting (Blocks place (in_order body)) v ls

  -- one branch or more, with a comma between each two
  pub data SpellsLaunches : List Launch → ℕ → List Spelt → Type 0 where
    last_branch : {v : ℕ} {x : Launch} {ls : List Spelt} → Starting x v ls → SpellsLaunches (x ∷ []) v ls
    next_branch : {v : ℕ} {x : Launch} {xs : List Launch} (comma : Token) {ls rs : List Spelt}
        → Starting x v ls → IsMark mark.Comma comma → SpellsLaunches xs v rs → SpellsLaunches (x ∷ xs) v (ls ++ (at comma v ∷ rs))
