-- The blocks of a kernel's code.
use Rattle.std.proofs.Common.{◌≡◌, ℕ, zero, suc, ◌+◌, ◌<◌, List, [], ◌∷◌, length, get_or, Some, refl, ap, ◌∙◌, arith}
use Rattle.std.specs.Prelude.{slice_get}
use Rattle.forec_kernel.specs.Terms.{Stmt, Nop}
use Rattle.thread_code.specs.Plain.{PlainBlock}
use Rattle.code_gen.specs.Blocks.{blocks_from}

pub blocks_length : (block : ℕ → Stmt → PlainBlock) (n : ℕ) (bodies : List Stmt) → length (blocks_from block n bodies) ≡ length bodies
blocks_length block n [] = refl
blocks_length block n (b ∷ bodies) = ap suc (blocks_length block (n + 1) bodies)

-- the block of a body
pub block_at : (block : ℕ → Stmt → PlainBlock) (n : ℕ) (bodies : List Stmt) (i : ℕ) → i < length bodies → slice_get (blocks_from block n bodies) i ≡ Some (block (n + i) (get_or bodies i Nop))
block_at block n [] i lt = absurd (omega (arith, lt))
block_at block n (b ∷ bodies) zero lt = let e : n ≡ n + 0 = omega arith in ap (λ j. Some (block j b)) e
block_at block n (b ∷ bodies) (suc i) lt =
    let e : n + 1 + i ≡ n + suc i = omega arith in
    let le : i < length bodies = omega (arith, lt) in
    block_at block (n + 1) bodies i le ∙ ap (λ j. Some (block j (get_or bodies i Nop))) e
