-- Sums of what texts bring.
use Rattle.std.proofs.Common.{ℕ, ◌+◌, ◌-◌, ◌^◌, ◌<◌, ◌≤◌, ◌≡◌, ◌∙◌, min, max, sym, ap, refl, Bool, true, false, cond, ◌||◌, List, [], ◌∷◌, length, get_or, drop, add-one, arith}
use Rattle.std.proofs.Math.Seq.{drop-cons}
use mir.Val.{bool_byte}
use Rattle.forec_tree.specs.Terms.{Terms, no_terms, more_terms, Declared, Statements, no_statements, more_statements, Branches, no_branches, by_call, by_group}
use Rattle.text_chains.specs.declared.tally.Tally.{Tally}
use Rattle.text_chains.specs.Tallies as of
use Rattle.text_chains.specs.Tallies.{tally_of, no_tally, both_tallies, plus}

pub by_fields : (a b : Bool) (c d e f g h : ℕ) → a ≡ b → c ≡ d → e ≡ f → g ≡ h → tally_of a c e g ≡ tally_of b d f h
by_fields a b c d e f g h p q r s = ap (λ x. tally_of x c e g) p ∙ (ap (λ x. tally_of b x e g) q ∙ (ap (λ x. tally_of b d x g) r ∙ ap (tally_of b d f) s))

or_assoc : (a b c : Bool) → ((a || b) || c) ≡ (a || (b || c))
or_assoc true b c = refl
or_assoc false b c = refl

or_none : (a : Bool) → (a || false) ≡ a
or_none true = refl
or_none false = refl

pub join_assoc : (a b c : Tally) → both_tallies (both_tallies a b) c ≡ both_tallies a (both_tallies b c)
join_assoc a b c = by_fields _ _ _ _ _ _ _ _ (or_assoc a.named b.named c.named) (omega arith) (omega arith) (omega arith)

pub join_first : (a : Tally) → a.words ≤ 2 ^ 64 - 1 → both_tallies no_tally a ≡ a
join_first a l = by_fields _ _ _ _ _ _ _ _ refl (omega arith) (omega (arith, l)) (omega arith)

pub join_last : (a : Tally) → a.words ≤ 2 ^ 64 - 1 → both_tallies a no_tally ≡ a
join_last a l = by_fields _ _ _ _ _ _ _ _ (or_none a.named) (omega arith) (omega (arith, l)) (omega arith)

pub named_byte : (b : Bool) → bool_byte b ≡ cond b 1 0
named_byte true = refl
named_byte false = refl

-- a walk begins with nothing
pub begin_low : (n : Tally) → n ≡ no_tally → n.words ≤ 2 ^ 64 - 1
begin_low n e = let d = ap (λ (x : Tally). x.words) e in omega (arith, d)

pub begin_told : (n t : Tally) → n ≡ no_tally → t.words ≤ 2 ^ 64 - 1 → both_tallies n t ≡ t
begin_told n t e l = ap (λ x. both_tallies x t) e ∙ join_first t l

pub next_low : (n a b : Tally) → n ≡ both_tallies a b → n.words ≤ 2 ^ 64 - 1
next_low n a b e = let d = ap (λ (x : Tally). x.words) e in omega (arith, d)

pub drop_item : {A : Type 0} (list : List A) (i : ℕ) (x : A) → i < length list → get_or list i x ≡ x → drop i list ≡ x ∷ drop (i + 1) list
drop_item list i x h e = drop-cons list i x h ∙ rw (e, add-one) refl

pub joined_low : (a b : Tally) → (both_tallies a b).words ≤ 2 ^ 64 - 1
joined_low a b = omega arith

pub both : (a b x y : Tally) → a ≡ x → b ≡ y → both_tallies a b ≡ both_tallies x y
both a b x y e d = ap (λ t. both_tallies t b) e ∙ ap (both_tallies x) d

-- one more, of those that are left
pub join_next : (so_far one rest all next : Tally) → next ≡ both_tallies so_far one → both_tallies so_far (both_tallies one rest) ≡ all → both_tallies next rest ≡ all
join_next so_far one rest all next e h = ap (λ t. both_tallies t rest) e ∙ (join_assoc so_far one rest ∙ h)

-- one more of which the greatest is sought
pub most_next : (most one peak rest all next : ℕ) → next ≡ max most one → one ≡ peak → max most (max peak rest) ≡ all → max next rest ≡ all
most_next most one peak rest all next e d h = omega (arith, e, d, h)

module _ (i : ℕ) (array : Bool) (value : ℕ → ℕ) where
  pub terms_low : (h : Bool) (es : Terms) → (of.of_terms i array value h es).words ≤ 2 ^ 64 - 1
  terms_low h no_terms = omega arith
  terms_low h (more_terms e rest) = omega arith

  pub locals_low : (h : Bool) (ls : List Declared) → (of.of_locals i array value h ls).words ≤ 2 ^ 64 - 1
  locals_low h [] = omega arith
  locals_low h (l ∷ rest) = omega arith

  module _ (worth : ℕ) (called : ℕ → Tally) where
    pub all_low : (h : Bool) (a : Statements) → (of.all_tally i array value worth called h a).words ≤ 2 ^ 64 - 1
    all_low h no_statements = omega arith
    all_low h (more_statements a rest) = omega arith

    pub branches_low : (h : Bool) (a : Branches) → (of.branches_tally i array value worth called h a).words ≤ 2 ^ 64 - 1
    branches_low h no_branches = omega arith
    branches_low h (by_call name args rest) = omega arith
    branches_low h (by_group at body rest) = omega arith
