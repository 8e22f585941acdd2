-- What was taken, over several calls.
use Rattle.std.proofs.Common.{◌≡◌, ℕ, List, [], ◌++◌, Option, Some, None, sym, ap, subst, ◌∙◌, append_assoc, append-nil}
use Rattle.std.specs.Option.{IfSome}
use Rattle.std.specs.Io.KnownBytes.{Keeps, Appends}
use Rattle.trace_rows.specs.Calls.{IfTold}
use Rattle.whole_writes.specs.Calls.{AppendsFront}

-- ---- words on what is told

pub told_both : (a b c : Option (List ℕ)) (P Q R : List ℕ → List ℕ → Type 0) → IfTold a b P → IfTold b c Q → ((x y z : List ℕ) → P x y → Q y z → R x z) → IfTold a c R
told_both None b c P Q R h k f = tt
told_both (Some x) None c P Q R h k f = absurd h
told_both (Some x) (Some y) None P Q R h k f = k
told_both (Some x) (Some y) (Some z) P Q R h k f = f x y z h k

pub told_map : (a b : Option (List ℕ)) (P Q : List ℕ → List ℕ → Type 0) → IfTold a b P → ((x y : List ℕ) → P x y → Q x y) → IfTold a b Q
told_map None b P Q h f = tt
told_map (Some x) None P Q h f = h
told_map (Some x) (Some y) P Q h f = f x y h

pub told_and : (a b : Option (List ℕ)) (P Q : List ℕ → List ℕ → Type 0) → IfTold a b P → IfTold a b Q → IfTold a b (λ x y. P x y × Q x y)
told_and None b P Q h k = tt
told_and (Some x) None P Q h k = h
told_and (Some x) (Some y) P Q h k = (h, k)

pub told_refl : (a : Option (List ℕ)) (P : List ℕ → List ℕ → Type 0) → ((x : List ℕ) → P x x) → IfTold a a P
told_refl None P f = tt
told_refl (Some x) P f = f x

pub told_some : (a b : Option (List ℕ)) (P : List ℕ → List ℕ → Type 0) (Q : List ℕ → Type 0) → IfTold a b P → ((x y : List ℕ) → P x y → Q x) → IfSome a Q
told_some None b P Q h f = tt
told_some (Some x) None P Q h f = absurd h
told_some (Some x) (Some y) P Q h f = f x y h

pub told_some_both : (a b : Option (List ℕ)) (P : List ℕ → List ℕ → Type 0) (Q R : List ℕ → Type 0) → IfTold a b P → IfSome b Q → ((x y : List ℕ) → P x y → Q y → R x) → IfSome a R
told_some_both None b P Q R h k f = tt
told_some_both (Some x) None P Q R h k f = absurd h
told_some_both (Some x) (Some y) P Q R h k f = f x y h k

pub some_map : (a : Option (List ℕ)) (P Q : List ℕ → Type 0) → IfSome a P → ((x : List ℕ) → P x → Q x) → IfSome a Q
some_map None P Q h f = tt
some_map (Some x) P Q h f = f x h

pub some_and : (a : Option (List ℕ)) (P Q : List ℕ → Type 0) → IfSome a P → IfSome a Q → IfSome a (λ x. P x × Q x)
some_and None P Q h k = tt
some_and (Some x) P Q h k = (h, k)
