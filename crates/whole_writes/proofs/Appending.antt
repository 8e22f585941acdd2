-- What was written, over several calls.
use Rattle.std.proofs.Common.{◌≡◌, ◌-◌, ℕ, List, [], ◌++◌, Option, Some, None, length, drop, sym, ap, subst, ◌∙◌, arith, append_assoc, append-nil, length-drop}
use Rattle.std.specs.List.{slice_range}
use Rattle.std.specs.Io.KnownBytes.{Keeps, Appends}
use Rattle.std.proofs.lemmas.List.{take_all}
use Rattle.whole_writes.specs.Calls.{AppendsFront}

pub appends_nothing : (a b : Option (List ℕ)) → Keeps a b → Appends a b []
appends_nothing None b h = tt
appends_nothing (Some x) None h = h
appends_nothing (Some x) (Some y) h = h ∙ sym (append-nil x)

pub appends_both : (a b c : Option (List ℕ)) (x y : List ℕ) → Appends a b x → Appends b c y → Appends a c (x ++ y)
appends_both None b c x y h k = tt
appends_both (Some s) None c x y h k = absurd h
appends_both (Some s) (Some t) None x y h k = k
appends_both (Some s) (Some t) (Some u) x y h k = k ∙ ap (λ r. r ++ y) h ∙ append_assoc s x y

-- after a fault what was added before it is a front
pub front_kept : (a b c : Option (List ℕ)) (x y all : List ℕ) → all ≡ x ++ y → Appends a b x → Keeps b c → AppendsFront a c all
front_kept a b c x y all e h k =
    (x, y, e, subst (Appends a c) (append-nil x) (appends_both a b c x [] h (appends_nothing b c k)))

pub front_longer : (a b : Option (List ℕ)) (x more : List ℕ) → AppendsFront a b x → AppendsFront a b (x ++ more)
front_longer a b x more f = (f.0, f.1 ++ more, ap (λ r. r ++ more) f.2 ∙ append_assoc f.0 f.1 more, f.3)

pub front_behind : (a b c : Option (List ℕ)) (x y : List ℕ) → Appends a b x → AppendsFront b c y → AppendsFront a c (x ++ y)
front_behind a b c x y h f = (x ++ f.0, f.1, ap (λ r. x ++ r) f.2 ∙ sym (append_assoc x f.0 f.1), appends_both a b c x f.0 h f.3)

pub appends_refl : (a : Option (List ℕ)) → Appends a a []
appends_refl None = tt
appends_refl (Some x) = sym (append-nil x)

-- ---- parts of a list

pub range_rest : (at : ℕ) (xs : List ℕ) → slice_range xs at (length xs) ≡ drop at xs
range_rest at xs = take_all (length xs - at) (drop at xs) (omega (arith, length-drop at xs))
