-- The names of a text.
use Rattle.std.proofs.Common.{ℕ, Bool, true, false, cond, List, [], ◌∷◌, take, drop}
use Rattle.std.specs.List.{AllByRecursion}
use Rattle.std.specs.Str.{bytes_eq}
use Rattle.forec_tree.specs.declared.token.Token.{Token}
use Rattle.forec_tree.specs.Lexis.{IsName, IsPiece, Piece, blank, name, number, word, mark}
use Rattle.forec_tree.specs.LexedText.{with_spelt_name, names_after, Cuts, begins, skips, takes}

abbrev pub AreNames : List (List ℕ) → Type 0
AreNames = AllByRecursion IsName

with_named : (ns : List (List ℕ)) (spelt : List ℕ) → AreNames ns → IsName spelt → AreNames (with_spelt_name ns spelt)
with_named [] spelt h g = (g, tt)
with_named (n ∷ ns) spelt h g = by (bytes_eq spelt n) (with_named ns spelt h.1 g)
  where
    by : (t : Bool) → AreNames (with_spelt_name ns spelt) → AreNames (cond t (n ∷ ns) (n ∷ with_spelt_name ns spelt))
    by true r = h
    by false r = (h.0, r)

after_named : (ns : List (List ℕ)) (p : Piece) (bytes after : List ℕ) → AreNames ns → IsPiece p bytes after → AreNames (names_after ns p bytes)
after_named ns blank bytes after h f = h
after_named ns name bytes after h f = with_named ns bytes h f.0
after_named ns (number int) bytes after h f = h
after_named ns (word w) bytes after h f = h
after_named ns (mark m) bytes after h f = h

pub cuts_named : {text : List ℕ} {ts : List Token} {names : List (List ℕ)} {at : ℕ} → Cuts text ts names at → AreNames names
cuts_named begins = tt
cuts_named (skips n c x) = cuts_named c
cuts_named {text} (takes {names = names} {at = at} p n k c x e) =
    after_named names p (take n (drop at text)) (drop n (drop at text)) (cuts_named c) x.fits.fits
