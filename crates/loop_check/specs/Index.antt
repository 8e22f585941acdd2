-- The first item of each name.
use Rattle.std.specs.Prelude.{ℕ, suc, ◌==◌, Bool, true, false, cond, ◌||◌, [], ◌∷◌}
use Rattle.forec_tree.specs.Terms.{Text, PlainItem, IsGlobal, IsFunction}
use Rattle.forec_tree.specs.Scopes.{name_of}
use Rattle.loop_check.specs.declared.entry.Entry.{Entry}

-- no item of a name
abbrev pub blank_entry : Entry
blank_entry = record { first = 0; global = false }

abbrev pub is_global_item : PlainItem → Bool
is_global_item (IsGlobal g) = true
is_global_item (IsFunction f) = false

-- the place of the first item, counted from 1, and whether a global is among the items
abbrev pub met : ℕ → PlainItem → Entry → Entry
met at x e = record { first = cond (e.first == 0) (suc at) e.first; global = e.global || is_global_item x }

-- what an item says of a name
abbrev pub noted_item : ℕ → ℕ → PlainItem → Entry → Entry
noted_item id at x e = cond ((name_of x).id == id) (met at x e) e

abbrev pub entry_from : ℕ → ℕ → Entry → Text → Entry
entry_from id at e [] = e
entry_from id at e (x ∷ rest) = entry_from id (suc at) (noted_item id at x e) rest
