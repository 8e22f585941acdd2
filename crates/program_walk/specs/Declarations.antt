-- Declared names, and the last one of each.
use Rattle.std.specs.Prelude.{ℕ, suc, ◌==◌, ◌<◌, ◌≡◌, Bool, false, cond, List, [], ◌∷◌, ◌++◌, length, take, slice_index_or}
use Rattle.forec_tree.specs.declared.uses.Seen.{Seen}
use Rattle.program_walk.specs.declared.scopes.declaration.Declaration.{Declaration}

abbrev pub blank_declaration : Declaration
blank_declaration = record { id = 0; array = false; before = 0 }

abbrev pub id_of : Declaration → ℕ
id_of e = e.id

abbrev pub seen_name : Declaration → Seen
seen_name e = record { id = e.id; array = e.array }

-- where the last entry of a name stands, counted from 1; `found` where there is none
abbrev pub last_from : ℕ → ℕ → ℕ → List Declaration → ℕ
last_from id at found [] = found
last_from id at found (e ∷ es) = last_from id (suc at) (cond (e.id == id) (suc at) found) es

abbrev pub last_of : ℕ → List Declaration → ℕ
last_of id es = last_from id 0 0 es

-- each entry knows the last one of its name before it
abbrev pub AreDeclarationsChained : List Declaration → Type 0
AreDeclarationsChained es = (k : ℕ) → k < length es → (slice_index_or es k blank_declaration).before ≡ last_of (slice_index_or es k blank_declaration).id (take k es)

abbrev pub pushed_declaration : List Declaration → ℕ → Bool → List Declaration
pushed_declaration es id array = es ++ record { id = id; array = array; before = last_of id es } ∷ []
