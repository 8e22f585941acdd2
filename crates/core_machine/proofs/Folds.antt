-- Loops over the copies of branches.
use Rattle.std.proofs.Common.{◌≡◌, ℕ, zero, suc, ◌+◌, ◌<◌, ◌≤◌, List, [], ◌∷◌, length, drop, get_or, Bool, false, not, refl, ap, ◌∙◌, arith, length-set}
use Rattle.std.specs.Prelude.{slice_set}
use Rattle.forec_kernel.specs.declared.shape.VarCopy.{VarCopy}
use Rattle.combine_tree.specs.declared.joining.Fold.{Fold}
use Rattle.combine_tree.specs.Joins.{begun, fold_at, result_of}
use Rattle.thread_code.specs.Plain.{PlainCode}
use Rattle.thread_code.specs.Machine.{code_uses}
use Rattle.thread_state.specs.Kept.{PlainOwn, place_in, no_copy, HavePlaces, with_copy_at, with_live_at}
use Rattle.thread_state.specs.Pars.{Links, HavePars, used_by}
use Rattle.core_machine.specs.Held.{copies_of}
use Rattle.core_machine.specs.Merging.{AreBelow, HaveUses, marked_live, begun_uses, begun_branches, combined_uses, combined_branches}
use Rattle.thread_state.proofs.Links.{used_count}
use Rattle.thread_state.proofs.Lists.{drop_next, drop_past}

-- ---- one more element

pub below_nth : (n : ℕ) (bs : List ℕ) (k : ℕ) → AreBelow n bs → k < length bs → get_or bs k 0 < n
below_nth n [] k h lt = absurd (omega arith)
below_nth n (b ∷ bs) zero h lt = h.0
below_nth n (b ∷ bs) (suc k) h lt = below_nth n bs k h.1 (omega arith)

pub live_next : (bs : List ℕ) (es : List Bool) (k : ℕ) (own : PlainOwn) → k < length bs → k < length es →
    marked_live (drop k bs) (drop k es) own ≡ marked_live (drop (k + 1) bs) (drop (k + 1) es) (with_live_at (get_or bs k 0) (not (get_or es k false)) own)
live_next bs es k own lt lt' = ap (λ l. marked_live l (drop k es) own) (drop_next bs k 0 lt) ∙ ap (λ l. marked_live (get_or bs k 0 ∷ drop (k + 1) bs) l own) (drop_next es k false lt')

pub live_end : (bs : List ℕ) (es : List Bool) (k : ℕ) (own : PlainOwn) → length bs ≤ k → marked_live (drop k bs) (drop k es) own ≡ own
live_end bs es k own le = ap (λ l. marked_live l (drop k es) own) (drop_past bs k le)

-- ---- how many copies there are

pub copies_next : (p : Links) (bs : List ℕ) (k : ℕ) → k < length bs → copies_of p (drop k bs) ≡ length (used_by p (get_or bs k 0)) + copies_of p (drop (k + 1) bs)
copies_next p bs k lt = ap (copies_of p) (drop_next bs k 0 lt)

pub copies_end : (p : Links) (bs : List ℕ) (k : ℕ) → length bs ≤ k → copies_of p (drop k bs) ≡ 0
copies_end p bs k le = ap (copies_of p) (drop_past bs k le)

-- ---- folds begin

pub begun_next : (k : PlainOwn) (vs : List ℕ) (i : ℕ) (folds : List Fold) → i < length vs →
    begun_uses k (drop i vs) folds ≡ begun_uses k (drop (i + 1) vs) (slice_set folds (place_in k (get_or vs i 0)) (begun (get_or k.copies (place_in k (get_or vs i 0)) no_copy)))
begun_next k vs i folds lt = ap (λ l. begun_uses k l folds) (drop_next vs i 0 lt)

pub begun_end : (k : PlainOwn) (vs : List ℕ) (i : ℕ) (folds : List Fold) → length vs ≤ i → begun_uses k (drop i vs) folds ≡ folds
begun_end k vs i folds le = ap (λ l. begun_uses k l folds) (drop_past vs i le)

pub length_begun : (k : PlainOwn) (vs : List ℕ) (folds : List Fold) → length (begun_uses k vs folds) ≡ length folds
length_begun k [] folds = refl
length_begun k (v ∷ vs) folds = length_begun k vs _ ∙ length-set folds (place_in k v) _

pub begun_branch : (c : PlainCode) (k : PlainOwn) (bs : List ℕ) (i : ℕ) (folds : List Fold) → i < length bs →
    begun_branches c k (drop i bs) folds ≡ begun_branches c k (drop (i + 1) bs) (begun_uses k (code_uses c (get_or bs i 0)) folds)
begun_branch c k bs i folds lt = ap (λ l. begun_branches c k l folds) (drop_next bs i 0 lt)

pub begun_last : (c : PlainCode) (k : PlainOwn) (bs : List ℕ) (i : ℕ) (folds : List Fold) → length bs ≤ i → begun_branches c k (drop i bs) folds ≡ folds
begun_last c k bs i folds le = ap (λ l. begun_branches c k l folds) (drop_past bs i le)

pub length_branches : (c : PlainCode) (k : PlainOwn) (bs : List ℕ) (folds : List Fold) → length (begun_branches c k bs folds) ≡ length folds
length_branches c k [] folds = refl
length_branches c k (b ∷ bs) folds = length_branches c k bs _ ∙ length_begun k (code_uses c b) folds

-- ---- copies are combined

pub combined_next : (folds : List Fold) (vs : List ℕ) (i : ℕ) (k : PlainOwn) → i < length vs →
    combined_uses folds (drop i vs) k ≡ combined_uses folds (drop (i + 1) vs) (with_copy_at (place_in k (get_or vs i 0)) (result_of (fold_at folds (place_in k (get_or vs i 0)))) k)
combined_next folds vs i k lt = ap (λ l. combined_uses folds l k) (drop_next vs i 0 lt)

pub combined_end : (folds : List Fold) (vs : List ℕ) (i : ℕ) (k : PlainOwn) → length vs ≤ i → combined_uses folds (drop i vs) k ≡ k
combined_end folds vs i k le = ap (λ l. combined_uses folds l k) (drop_past vs i le)

-- another list of copies, as long
pub record Alike (k k' : PlainOwn) : Type 0 where
  pub places : k'.places ≡ k.places
  pub copies : length k'.copies ≡ length k.copies
  pub pars : k'.pars ≡ k.pars

pub alike_same : (k : PlainOwn) → Alike k k
alike_same k = record { places = refl; copies = refl; pars = refl }

pub alike_then : (a b c : PlainOwn) → Alike a b → Alike b c → Alike a c
alike_then a b c x y = record { places = y.places ∙ x.places; copies = y.copies ∙ x.copies; pars = y.pars ∙ x.pars }

pub alike_set : (k : PlainOwn) (at : ℕ) (x : VarCopy) → Alike k (with_copy_at at x k)
alike_set k at x = record { places = refl; copies = length-set k.copies at x; pars = refl }

pub alike_uses : (folds : List Fold) (vs : List ℕ) (k : PlainOwn) → Alike k (combined_uses folds vs k)
alike_uses folds [] k = alike_same k
alike_uses folds (v ∷ vs) k =
    let k' = with_copy_at (place_in k v) (result_of (fold_at folds (place_in k v))) k in
    alike_then k k' (combined_uses folds vs k') (alike_set k _ _) (alike_uses folds vs k')

pub alike_places : (k k' : PlainOwn) → Alike k k' → (vs : List ℕ) → HavePlaces k vs → HavePlaces k' vs
alike_places k k' a [] h = tt
alike_places k k' a (v ∷ vs) h =
    let p : place_in k' v ≡ place_in k v = ap (λ l. get_or l v 0) a.places in
    let n = ap length a.places in
    (omega (arith, h.0, n), omega (arith, h.1, p, a.copies), alike_places k k' a vs h.2)

pub alike_all : (c : PlainCode) (k k' : PlainOwn) → Alike k k' → (bs : List ℕ) → HaveUses c k bs → HaveUses c k' bs
alike_all c k k' a [] h = tt
alike_all c k k' a (b ∷ bs) h = (h.0, alike_places k k' a (code_uses c b) h.1, alike_all c k k' a bs h.2)

pub combined_branch : (c : PlainCode) (folds : List Fold) (bs : List ℕ) (i : ℕ) (k : PlainOwn) → i < length bs →
    combined_branches c folds (drop i bs) k ≡ combined_branches c folds (drop (i + 1) bs) (combined_uses folds (code_uses c (get_or bs i 0)) k)
combined_branch c folds bs i k lt = ap (λ l. combined_branches c folds l k) (drop_next bs i 0 lt)

pub combined_last : (c : PlainCode) (folds : List Fold) (bs : List ℕ) (i : ℕ) (k : PlainOwn) → length bs ≤ i → combined_branches c folds (drop i bs) k ≡ k
combined_last c folds bs i k le = ap (λ l. combined_branches c folds l k) (drop_past bs i le)

-- ---- the uses of a branch

pub uses_nth : (c : PlainCode) (k : PlainOwn) (bs : List ℕ) (i : ℕ) → HaveUses c k bs → i < length bs → (get_or bs i 0 < length c.shape.threads) × HavePlaces k (code_uses c (get_or bs i 0))
uses_nth c k [] i h lt = absurd (omega arith)
uses_nth c k (b ∷ bs) zero h lt = (h.0, h.1)
uses_nth c k (b ∷ bs) (suc i) h lt = uses_nth c k bs i h.2 (omega arith)

pub uses_within : (c : PlainCode) (k : PlainOwn) (bs : List ℕ) (i : ℕ) → HavePars c.shape k.pars → HaveUses c k bs → i < length bs → get_or bs i 0 < length k.pars.uses
uses_within c k bs i pars h lt = omega (arith, (uses_nth c k bs i h lt).0, used_count c.shape k.pars pars)
