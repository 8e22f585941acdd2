-- What the checker's own types show.
use Rattle.std.specs.Prelude.{◌≡◌, ℕ, Bool, Option, Some, None, List, [], ◌∷◌, map, take, drop, ◌++◌}
use Rattle.forec_tree.specs.declared.uses.Seen.{Seen}
use Rattle.forec_tree.specs.Scopes as scopes
use Rattle.forec_tree.specs.Scopes.{find_last}
use Rattle.forec_tree.specs.Rules.{Judging}
use Rattle.forec_tree.specs.Terms.{Text}
use Rattle.loop_check.specs.Views.{indexed_text}
use Rattle.program_walk.specs.declared.walk.context.Context.{Context}
use Rattle.program_walk.specs.declared.symbols.Symbols.{Symbols}
use Rattle.program_walk.specs.declared.scopes.scope.Scope.{Scope}
use Rattle.program_walk.specs.Declarations.{seen_name}

abbrev pub judging : List (List ℕ) → Bool → Judging
judging names gives = record { names = names; gives = gives }

-- the rules as they judge a function, and the program that it is of
abbrev pub judging_in : Context → Judging
judging_in c = judging c.names.now c.gives

abbrev pub text_in : Context → Text
text_in c = indexed_text c.index.now

-- the program whose names these are, and their texts
abbrev pub program_text : Symbols → Text
program_text s = indexed_text s.index.now

abbrev pub program_names : Symbols → List (List ℕ)
program_names s = s.names.now

-- the entries from `base` to `start` are those of the scopes outside
abbrev pub scope_of : Scope → scopes.Scope
scope_of s = record { outer = map seen_name (drop s.base (take s.start s.declared.list.items)); here = map seen_name (drop s.start s.declared.list.items) }

abbrev pub array_of_seen : Option Seen → Option Bool
array_of_seen None = None
array_of_seen (Some v) = Some v.array

abbrev pub local_array : scopes.Scope → ℕ → Option Bool
local_array s id = array_of_seen (find_last id None (s.outer ++ s.here))

-- the same scope as before, with names added to its innermost part
pub record ExtendsScope (old new : Scope) : Type 0 where
  pub base : new.base ≡ old.base
  pub start : new.start ≡ old.start
  pub front : take old.start new.declared.list.items ≡ take old.start old.declared.list.items

-- the same scope as before
pub record SameScope (old new : Scope) : Type 0 where
  pub base : new.base ≡ old.base
  pub start : new.start ≡ old.start
  pub list : new.declared.list.items ≡ old.declared.list.items
