-- Which threads are branches, in a shape that a kernel can have; and what is the same for each way to run its threads.
use Rattle.std.proofs.Common.{ℕ, zero, suc, ◌<◌, ◌≡◌, Some, List, [], ◌∷◌, length, get_or, sym, subst, ◌∙◌, arith}
use Rattle.std.specs.Prelude.{IsNone}
use Rattle.forec_kernel.specs.Engine.{Exchange, Output}
use Rattle.forec_kernel.specs.Shapes.{PlainShape, PlainThread}
use Rattle.forec_kernel.specs.WellFormed.{blank_thread}
use Rattle.thread_code.specs.Valid.{FineShape}
use Rattle.exchange_meaning.specs.Logged.{ExchangeLog, HasBranch}
use Rattle.exchange_meaning.specs.Telling.{TellsBranches}
use Rattle.exchange_meaning.specs.Replays.{AgreesWholly}

pub inside : (ts : List PlainThread) (b t : ℕ) → (get_or ts b blank_thread).parent ≡ Some t → b < length ts
inside [] zero t e = cc
inside [] (suc b) t e = cc
inside (x ∷ ts) zero t e = omega arith
inside (x ∷ ts) (suc b) t e = let ih = inside ts b t e in omega (arith, ih)

pub some_number : (a b : ℕ) → Some a ≡ Some b → a ≡ b
some_number a b e = cc

pub below_of : (s : PlainShape) → FineShape s → (t b : ℕ) → HasBranch s t b → (t < b) × (b < length s.threads)
below_of s fine t zero m = let h = subst IsNone m fine.root.parent in cc
below_of s fine t (suc b) m =
    let lt = inside s.threads (suc b) t m in
    let child = fine.each_child (suc b) (omega arith) lt in
    let same = some_number child.parent t (sym child.is ∙ m) in (subst (λ p. p < suc b) same child.below, lt)

pub parents_of : (s : PlainShape) → FineShape s → (b : ℕ) → 0 < b → b < length s.threads → (t : ℕ) × HasBranch s t b
parents_of s fine b some lt = let child = fine.each_child b some lt in (child.parent, child.is)

-- ---- another way to run

abbrev pub tells_as : (run run' : ℕ → List Exchange → List Output → Type 0) (s : PlainShape) (log : ExchangeLog) (t : ℕ) → ((xs : List Exchange) (os : List Output) → run t xs os → run' t xs os) →
    TellsBranches run s log t → TellsBranches run' s log t
tells_as run run' s log t go h =
    record { exchanges = h.exchanges; outputs = h.outputs; runs = go h.exchanges h.outputs h.runs; complete = h.complete; mine = h.mine; told = h.told }

abbrev pub same_as : (run run' : ℕ → List Exchange → List Output → Type 0) (s : PlainShape) (log : ExchangeLog) (t : ℕ) → ((xs : List Exchange) (os : List Output) → run t xs os → run' t xs os) →
    AgreesWholly run s log t → AgreesWholly run' s log t
same_as run run' s log t go h = record { tells = tells_as run run' s log t go h.tells; jobs = h.jobs; replies = h.replies; all = h.all }
