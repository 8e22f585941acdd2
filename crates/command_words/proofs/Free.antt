-- The command is one of which clap says all.
use Rattle.std.proofs.Common.{◌≡◌, ◌⊎◌, inl, inr, true, refl, [], ◌∷◌}
use Rattle.clap.specs.declared.error.ErrorKind.{ErrorKind}
use Rattle.clap.specs.declared.error.ErrorKind.TheVariants.{OutOfMemory}
use Rattle.clap.specs.Words.{Kinds, IsAmong, is_simple, is_simple_and_free}
use Rattle.clap.proofs.OnLiterals.{clap_on_literals}
use Rattle.command_words.specs.CommandLine.{command_line}

pub free : is_simple_and_free command_line ≡ true
unfolding command_line clap_on_literals
free = refl

pub simple : is_simple command_line ≡ true
unfolding command_line clap_on_literals
simple = refl

-- an error of no kind is out of memory
pub no_kind : (kinds : Kinds) (k : ErrorKind) → kinds ≡ [] → (k ≡ OutOfMemory) ⊎ IsAmong k kinds → (k ≡ OutOfMemory → ⊥) → ⊥
no_kind [] k e h f = elim h [ inl x ↦ f x | inr x ↦ x ]
no_kind (x ∷ xs) k e h f = cc
