-- The tree of threads.
use Rattle.std.proofs.Common.{◌≡◌, ℕ, suc, ◌<◌, Some, length, sym, ◌∙◌, arith}
use Rattle.thread_code.specs.Plain.{PlainCode}
use Rattle.thread_code.specs.Valid.{IsValidCode}
use Rattle.tick_jobs.specs.Branches.{IsBranchOf}

pub branch_above : (c : PlainCode) → IsValidCode c → (p k : ℕ) → suc k < length c.threads → IsBranchOf c.shape p k → p < suc k
branch_above c valid p k lt mine =
    let child = valid.shape.each_child (suc k) (omega arith) (omega (arith, lt, valid.threads)) in
    let same : child.parent ≡ p = once child.parent p (sym child.is ∙ mine) in
    omega (arith, same, child.below)
  where
    once : (a b : ℕ) → Some a ≡ Some b → a ≡ b
    once a b e = cc

pub parent_once : (c : PlainCode) (p q k : ℕ) → IsBranchOf c.shape p k → IsBranchOf c.shape q k → p ≡ q
parent_once c p q k h g = once p q (sym h ∙ g)
  where
    once : (a b : ℕ) → Some a ≡ Some b → a ≡ b
    once a b e = cc

pub has_parent : (c : PlainCode) → IsValidCode c → (k : ℕ) → suc k < length c.threads → (p : ℕ) × IsBranchOf c.shape p k
has_parent c valid k lt =
    let child = valid.shape.each_child (suc k) (omega arith) (omega (arith, lt, valid.threads)) in (child.parent, child.is)
