-- What it means that tokens spell a program.
use Rattle.std.specs.Prelude.{◌≡◌, ℕ, ℤ, ◌+◌, Bool, true, false, List, [], ◌∷◌, ◌++◌, map, Option, Some, None}
use Rattle.forec_base.specs.declared.Place.{Place}
use Rattle.forec_base.specs.declared.Policy.{Policy}
use Rattle.forec_base.specs.declared.Policy.TheVariants as policy
use Rattle.forec_base.specs.declared.operators.Unary.TheVariants as un
use Rattle.forec_base.specs.Numbers.{unary_of}
use Rattle.forec_tree.specs.declared.token.Token.{Token}
use Rattle.forec_tree.specs.declared.token.Mark.TheVariants as mark
use Rattle.forec_tree.specs.declared.token.Word.{Word}
use Rattle.forec_tree.specs.declared.token.Word.TheVariants as word
use Rattle.forec_tree.specs.declared.tree.Name.{Name}
use Rattle.forec_tree.specs.declared.tree.Number.{Number}
use Rattle.forec_tree.specs.declared.tree.Combine.{Combine}
use Rattle.forec_tree.specs.declared.tree.GlobalKind.{GlobalKind}
use Rattle.forec_tree.specs.declared.tree.GlobalKind.TheVariants as sort
use Rattle.forec_tree.specs.Terms.{Statement, PlainGlobal, PlainItem, IsGlobal, IsFunction, Text}
use Rattle.forec_tree.specs.Spelling.{Spelt, at, IsMark, IsWord, IsNameToken, IsNumberToken, name_at, tokens, IsWithin}
use Rattle.forec_tree.specs.Parts.{number_at, in_order, global_of}
use Rattle.forec_tree.specs.SpelledStatements.{Separated, Lengths, Block}

-- a number with or without a sign: its value, wrapped, at the place of the first token
pub data Signed : Number → ℕ → List Spelt → Type 0 where
  positive : {v : ℕ} {t : Token} (value : ℤ) → IsNumberToken value t → Signed (number_at value t.place) v (at t v ∷ [])
  negative : {v : ℕ} {minus t : Token} (value : ℤ) → IsMark mark.Minus minus → IsNumberToken value t
      → Signed (number_at (unary_of un.Minus value) minus.place) v (at minus v ∷ at t v ∷ [])

-- a name alone
pub data Named (kind : GlobalKind) : PlainGlobal → ℕ → List Spelt → Type 0 where
  named : {v : ℕ} {t : Token} (id : ℕ) → IsNameToken id t → Named kind (global_of kind None (name_at id t.place) None []) v (at t v ∷ [])

-- a name, and maybe a value
pub data Scalar (kind : GlobalKind) (combine : Option Combine) : PlainGlobal → ℕ → List Spelt → Type 0 where
  unset : {v : ℕ} {t : Token} (id : ℕ) → IsNameToken id t → Scalar kind combine (global_of kind combine (name_at id t.place) None []) v (at t v ∷ [])
  set : {v : ℕ} {t equal : Token} {value : Number} {ls : List Spelt} (id : ℕ) → IsNameToken id t → IsMark mark.Assign equal → Signed value v ls
      → Scalar kind combine (global_of kind combine (name_at id t.place) None (value ∷ [])) v (at t v ∷ at equal v ∷ ls)

-- a constant
pub data Table : PlainGlobal → ℕ → List Spelt → Type 0 where
  constant : {v : ℕ} {t equal : Token} {value : Number} {ls : List Spelt} (id : ℕ) → IsNameToken id t → IsMark mark.Assign equal → Signed value v ls
      → Table (global_of sort.Const None (name_at id t.place) None (value ∷ [])) v (at t v ∷ at equal v ∷ ls)
  table : {v : ℕ} {t : Token} (equal left right : Token) {length : Number} {values : List Number} {ls rs : List Spelt} (id : ℕ)
      → IsNameToken id t → Lengths length v ls → IsMark mark.Assign equal → IsMark mark.LeftCurly left → Separated Signed values (v + 1) rs → IsMark mark.RightCurly right
      → Table (global_of sort.Const None (name_at id t.place) (Some length) values) v (at t v ∷ (ls ++ (at equal v ∷ at left (v + 1) ∷ (rs ++ (at right v ∷ [])))))

-- a shared variable, with or without a value, or a shared array, with or without values
pub data SharedVariable (kind : GlobalKind) (combine : Option Combine) : PlainGlobal → ℕ → List Spelt → Type 0 where
  one : {v : ℕ} {global : PlainGlobal} {ls : List Spelt} → Scalar kind combine global v ls → SharedVariable kind combine global v ls
  array : {v : ℕ} {t : Token} {length : Number} {ls : List Spelt} (id : ℕ) → IsNameToken id t → Lengths length v ls
      → SharedVariable kind combine (global_of kind combine (name_at id t.place) (Some length) []) v (at t v ∷ ls)
  valued_array : {v : ℕ} {t : Token} (equal left right : Token) {length : Number} {values : List Number} {ls rs : List Spelt} (id : ℕ)
      → IsNameToken id t → Lengths length v ls → IsMark mark.Assign equal → IsMark mark.LeftCurly left → Separated Signed values (v + 1) rs → IsMark mark.RightCurly right
      → SharedVariable kind combine (global_of kind combine (name_at id t.place) (Some length) values) v
      (at t v ∷ (ls ++ (at equal v ∷ at left (v + 1) ∷ (rs ++ (at right v ∷ [])))))

-- how a shared variable is introduced
pub data Sharing : GlobalKind → ℕ → List Spelt → Type 0 where
  shared : {v : ℕ} {t : Token} → IsWord word.Shared t → Sharing sort.Shared v (at t v ∷ [])
  shared_output : {v : ℕ} {t s : Token} → IsWord word.Shared t → IsWord word.Output s → Sharing sort.SharedOutput v (at t v ∷ at s v ∷ [])
  output_shared : {v : ℕ} {t s : Token} → IsWord word.Output t → IsWord word.Shared s → Sharing sort.SharedOutput v (at t v ∷ at s v ∷ [])

abbrev pub policy_word : Policy → Word
policy_word policy.All = word.All
policy_word policy.New = word.New
policy_word policy.Mod = word.Mod

-- how the copies of a shared variable are combined
pub data SpellsCombine : Combine → ℕ → List Spelt → Type 0 where
  combines : {v : ℕ} {combine policy with name : Token} (p : Policy) (id : ℕ) → IsWord word.Combine combine → IsWord (policy_word p) policy → IsWord word.With with → IsNameToken id name
      → SpellsCombine (record { policy = p; with = name_at id name.place }) v (at combine v ∷ at policy v ∷ at with v ∷ at name v ∷ [])

pub data Param : Name → ℕ → List Spelt → Type 0 where
  param : {v : ℕ} {int t : Token} (id : ℕ) → IsWord word.Int int → IsNameToken id t → Param (name_at id t.place) v (at int v ∷ at t v ∷ [])

pub data Params : List Name → ℕ → List Spelt → Type 0 where
  no_params : {v : ℕ} → Params [] v []
  void_params : {v : ℕ} {t : Token} → IsWord word.Void t → Params [] v (at t v ∷ [])
  params : {v : ℕ} {names : List Name} {ls : List Spelt} → Separated Param names v ls → Params names v ls

-- parameters, with their brackets
pub data Parameters : List Name → ℕ → List Spelt → Type 0 where
  parameters : {v : ℕ} {left : Token} (right : Token) {names : List Name} {ls : List Spelt} → IsMark mark.LeftRound left → Params names (v + 1) ls → IsMark mark.RightRound right
      → Parameters names v (at left (v + 1) ∷ (ls ++ (at right v ∷ [])))

-- `int` where the function gives a number, `void` where it does not
abbrev pub gives_word : Bool → Word
gives_word true = word.Int
gives_word false = word.Void

-- The items of one declaration, at the level v: one for each declarator.
pub data Introduces : List PlainItem → ℕ → List Spelt → Type 0 where
  constants : {v : ℕ} {t int : Token} (semicolon : Token) {globals : List PlainGlobal} {ls : List Spelt}
      → IsWord word.Const t → IsWord word.Int int → Separated Table globals v ls → IsMark mark.Semicolon semicolon
      → Introduces (map IsGlobal globals) v (at t v ∷ at int v ∷ (ls ++ (at semicolon v ∷ [])))
  inputs : {v : ℕ} {t int : Token} (semicolon : Token) {globals : List PlainGlobal} {ls : List Spelt}
      → IsWord word.Input t → IsWord word.Int int → Separated (Named sort.Input) globals v ls → IsMark mark.Semicolon semicolon
      → Introduces (map IsGlobal globals) v (at t v ∷ at int v ∷ (ls ++ (at semicolon v ∷ [])))
  outputs : {v : ℕ} {t int : Token} (semicolon : Token) {globals : List PlainGlobal} {ls : List Spelt}
      → IsWord word.Output t → IsWord word.Int int → Separated (Scalar sort.Output None) globals v ls → IsMark mark.Semicolon semicolon
      → Introduces (map IsGlobal globals) v (at t v ∷ at int v ∷ (ls ++ (at semicolon v ∷ [])))
  globals : {v : ℕ} {int : Token} (semicolon : Token) {globals : List PlainGlobal} {ls : List Spelt}
      → IsWord word.Int int → Separated (Scalar sort.Plain None) globals v ls → IsMark mark.Semicolon semicolon
      → Introduces (map IsGlobal globals) v (at int v ∷ (ls ++ (at semicolon v ∷ [])))
  shared_globals : {v : ℕ} (int semicolon : Token) {kind : GlobalKind} {global : PlainGlobal} {combine : Combine} {ls ms rs : List Spelt}
      → Sharing kind v ls → IsWord word.Int int → SharedVariable kind (Some combine) global v ms → SpellsCombine combine v rs → IsMark mark.Semicolon semicolon
      → Introduces (IsGlobal global ∷ []) v (ls ++ (at int v ∷ (ms ++ (rs ++ (at semicolon v ∷ [])))))
  function : {v : ℕ} {t name : Token} {place : Place} {names : List Name} {body : List Statement} {ls ms : List Spelt} (gives : Bool) (id : ℕ)
      → IsWord (gives_word gives) t → IsNameToken id name → Parameters names v ls → Block place body v v ms
      → Introduces (IsFunction (record { name = name_at id name.place; gives = gives; params = names; body = in_order body }) ∷ []) v (at t v ∷ at name v ∷ (ls ++ ms))

pub data Programs : Text → ℕ → List Spelt → Type 0 where
  no_items : {v : ℕ} → Programs [] v []
  more_items : {v : ℕ} {xs rest : List PlainItem} {ls rs : List Spelt} → Introduces xs v ls → Programs rest v rs → Programs (xs ++ rest) v (ls ++ rs)

-- The tokens spell the program, and no level exceeds the limit.
pub record IsSpelled (limit : ℕ) (program : Text) (ts : List Token) : Type 0 where
  pub spelt : List Spelt
  pub spells : Programs program 0 spelt
  pub are : tokens spelt ≡ ts
  pub within : IsWithin limit spelt
