-- A line more.
use Rattle.std.proofs.Common.{◌≡◌, ◌<◌, ◌∙◌, ◌+◌, ℕ, suc, arith, Option, List, ◌++◌, length, map, get_or, refl, sym, ap}
use Rattle.std.proofs.lemmas.List.{get_or-map}
use Rattle.forec_kernel.specs.declared.shape.ThreadShape.{ThreadShape}
use Rattle.forec_kernel.specs.Shapes.{PlainKernel, plain_thread}
use Rattle.forec_kernel.specs.Texts.{body_of}
use Rattle.forec_kernel.specs.WellFormed.{thread_of, blank_thread}
use Rattle.forec_kernel.specs.Weight.{stmt_weight}
use Rattle.thread_places.specs.Lines.{thread_line, lines_to}

pub one_more : (k : PlainKernel) (places : List ℕ) (n : ℕ) (text : List ℕ) (parent : Option ℕ) (name : Option (List ℕ)) (core weight : ℕ) →
    text ≡ lines_to k places n → parent ≡ (thread_of k n).parent → name ≡ (thread_of k n).name → core ≡ get_or places n 0 → weight ≡ stmt_weight (body_of k n) →
    text ++ thread_line n parent name core weight ≡ lines_to k places (n + 1)
one_more k places n text parent name core weight t p m c w =
    let next : n + 1 ≡ suc n = omega arith in
    rw (t, p, m, c, w, next) refl

-- the shape of a thread
pub shape_at : (k : PlainKernel) (shapes : List ThreadShape) (n : ℕ) (s : ThreadShape) → k.shape.threads ≡ map plain_thread shapes → n < length shapes → s ≡ get_or shapes n s →
    plain_thread s ≡ thread_of k n
shape_at k shapes n s is low at =
    ap plain_thread at ∙ sym (get_or-map plain_thread shapes n s blank_thread low) ∙ ap (λ (ts : List _). get_or ts n blank_thread) (sym is)
