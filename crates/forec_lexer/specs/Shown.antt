use Rattle.std.specs.Prelude.{◌≡◌, map}
use Rattle.forec_lexer.specs.declared.names.Names.{Names}

-- the labels are the names in the set, in its order
abbrev pub IsSame : Names → Type 0
IsSame n = map (λ s. s.now) n.set.keys ≡ n.labels
