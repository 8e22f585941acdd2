-- Where the numbers of the frame at work lie, and what is read of them.
use Rattle.std.proofs.Common.{◌≡◌, ℕ, ◌+◌, ◌-◌, ◌<◌, ◌≤◌, List, [], ◌∷◌, length, get_or, w32, to_z, of_z, refl, sym, ap, ◌∙◌, arith}
use Rattle.std.specs.Prelude.{ℤ, pos, slice_index_or}
use Rattle.std.proofs.lemmas.List.{get_or_read_under}
use Rattle.forec_kernel.specs.Values.{word}
use Rattle.thread_state.specs.Frames.{Frames, taken_of, top_of, mark_below}
use Rattle.thread_state.proofs.FrameLemmas.{length_words, length_counters, length_stack, word_at, counter_at, pop_top}
use Rattle.thread_state.proofs.Taken.{laid_taken}

module _ (xs : List ℤ) (b m l t : ℕ) (i : (b ≤ m) × (m ≤ l) × (l ≤ t) × (t ≤ length xs)) (f : Frames) (is : taken_of xs b m l t ≡ f) where
  pub word_within : (k : ℕ) → k < length f.words → (k < m - b) × (b + k < length xs)
  word_within k h =
      let n = sym (ap (λ (f : Frames). length f.words) is) ∙ length_words xs b (m - b) in
      (omega (arith, h, n), omega (arith, h, n, i.0, i.1, i.2, i.3))

  pub counter_within : (k : ℕ) → k < length f.counters → (k < l - m) × (m + k < length xs)
  counter_within k h =
      let n = sym (ap (λ (f : Frames). length f.counters) is) ∙ length_counters xs m (l - m) in
      (omega (arith, h, n), omega (arith, h, n, i.1, i.2, i.3))

  pub top_within : 0 < length f.stack → l < t
  top_within h =
      let n = sym (ap (λ (f : Frames). length f.stack) is) ∙ length_stack xs l (t - l) in omega (arith, h, n)

  module _ (x : ℤ) (fits : to_z w32 (of_z w32 x) ≡ x) where
    pub word_read : (k : ℕ) → k < length f.words → x ≡ get_or xs (b + k) x → to_z w32 (of_z w32 x) ≡ word f.words k
    word_read k h e =
        let lt = word_within k h in
        fits ∙ get_or_read_under xs (b + k) (length xs) x (pos 0) e lt.1 refl ∙ sym (word_at xs k b (m - b) lt.0) ∙ ap (λ (f : Frames). word f.words k) is

    pub counter_read : (k : ℕ) → k < length f.counters → x ≡ get_or xs (m + k) x → of_z w32 (to_z w32 (of_z w32 x)) ≡ slice_index_or f.counters k 0
    counter_read k h e =
        let lt = counter_within k h in
        ap (of_z w32) (fits ∙ get_or_read_under xs (m + k) (length xs) x (pos 0) e lt.1 refl) ∙ sym (counter_at xs k m (l - m) lt.0) ∙ ap (λ (f : Frames). slice_index_or f.counters k 0) is

    pub top_read : 0 < length f.stack → x ≡ get_or xs (t - 1) x → to_z w32 (of_z w32 x) ≡ top_of f.stack
    top_read h e =
        let lt = top_within h in
        fits ∙ get_or_read_under xs (t - 1) (length xs) x (pos 0) e (omega (arith, lt, i.3)) refl ∙ pop_top xs (mark_below b ∷ []) b m l t 1 i.0 i.1 i.2 i.3 (laid_taken b) lt ∙ ap (λ (f : Frames). top_of f.stack) is
