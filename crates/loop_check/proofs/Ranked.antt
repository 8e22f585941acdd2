-- Ranks that no call leads above.
use Rattle.std.proofs.Common.{ℕ, suc, ◌+◌, ◌<◌, ◌≤◌, ◌≡◌, ◌∙◌, ◌==◌, sym, ap, subst, Bool, true, false, cond, ◌||◌, List, [], ◌∷◌, ◌++◌, length, take, get_or, arith}
use Rattle.std.proofs.Math.Bool.{or-false}
use Rattle.std.proofs.Math.Seq.{take-suc}
use Rattle.std.proofs.lemmas.Bool.{eqb-true}
use Rattle.forec_tree.specs.Faults.{is_in, Leads, at_once, through}
use Rattle.loop_check.specs.Graph.{rank_at, NeverUp, set_at}
use Rattle.loop_check.proofs.IndexLemmas.{split}
use Rattle.loop_check.proofs.Ordered.{is_in_snoc}

-- one more of a list
pub next_in : (P : ℕ → Type 0) (list : List ℕ) (i : ℕ) → i < length list → ((k : ℕ) → is_in k (take i list) ≡ true → P k) → P (get_or list i 0) →
    (k : ℕ) → is_in k (take (i + 1) list) ≡ true → P k
next_in P list i h all one k e =
    let x = get_or list i 0 in
    let t : take (i + 1) list ≡ take i list ++ x ∷ [] = let n : i + 1 ≡ suc i = omega arith in ap (λ m. take m list) n ∙ take-suc list i 0 h in
    split (x == k) (λ q. subst P (eqb-true x k q) one)
    (λ q. all k (sym (or-false (is_in k (take i list))) ∙ (sym (ap (λ b. is_in k (take i list) || b) q) ∙ sym (is_in_snoc k x (take i list)) ∙ ap (is_in k) (sym t) ∙ e)))

module _ (calls : ℕ → List ℕ) (ranks : List ℕ) (up : NeverUp calls ranks) where
  leads_down : {f g : ℕ} → Leads calls f g → rank_at ranks g ≤ rank_at ranks f
  leads_down {f} {g} (at_once e) = up f g e
  leads_down {f} {g} (through {g = m} e r) = let a = up f m e in let b = leads_down r in omega (arith, a, b)

  -- one that calls lower ones alone
  pub never_back : (f : ℕ) → ((g : ℕ) → is_in g (calls f) ≡ true → rank_at ranks g < rank_at ranks f) → Leads calls f f → ⊥
  never_back f low (at_once e) = let a = low f e in absurd (omega (arith, a))
  never_back f low (through {g = m} e r) = let a = low m e in let b = leads_down r in absurd (omega (arith, a, b))

-- a mark is set where it may be
pub marked_free : (P : ℕ → Type 0) (f : ℕ) (before after : List Bool) → P f → ((g : ℕ) → get_or after g false ≡ set_at f g (get_or before g false)) →
    ((g : ℕ) → get_or before g false ≡ true → P g) → (g : ℕ) → get_or after g false ≡ true → P g
marked_free P f before after p s all g h =
    split (f == g) (λ q. subst P (eqb-true f g q) p) (λ q. all g (sym (ap (λ b. cond b true (get_or before g false)) q) ∙ sym (s g) ∙ h))
