-- What a thread and those below it name stands in the part of the list of threads from it to the one after.
use Rattle.std.proofs.Common.{ℕ, zero, suc, ◌+◌, ◌-◌, ◌<◌, ◌≤◌, ◌≡◌, ◌∙◌, sym, ap, List, ◌∷◌, ◌++◌, length, length-append, length-drop, take, drop, arith}
use Rattle.std.proofs.lemmas.List.{take_all, take-append-le, drop-append-le}
use Rattle.std.proofs.Math.Seq.{drop-append-add}
use Rattle.text_kernel.specs.Lowering.{Made, vars_of, vars_made}
use Rattle.text_kernel.proofs.Grown.{Grown, nothing, both, fork, turned, Branching, branch, Row, no_row, more_row, Fork}
use Rattle.text_kernel.proofs.Forks.{threads_grow, branch_threads, at, SplitIndex, left, right, place_of}

abbrev pub part : ℕ → List Made → ℕ → List Made
part m a i = take ((at a i).behind - (m + i)) (drop i a)

pub record Segment (m : ℕ) (a : List Made) (i : ℕ) : Type 0 where
  pub above : m + i < (at a i).behind
  pub within : (at a i).behind ≤ m + length a
  pub named : (at a i).named ≡ vars_made (part m a i)

abbrev pub Segments : ℕ → List Made → Type 0
Segments m a = (i : ℕ) → i < length a → Segment m a i

segment_left : (m : ℕ) (a b : List Made) (i : ℕ) → i < length a → at (a ++ b) i ≡ at a i → Segment m a i → Segment m (a ++ b) i
segment_left m a b i l d s =
    let above = s.above in
    let inside = s.within in
    let same = ap (λ (x : Made). x.behind) d in
    let long = length-append a b in
    let left_over = length-drop i a in
    let few : (at a i).behind - (m + i) ≤ length (drop i a) = omega (arith, inside, left_over) in
    let cut : part m (a ++ b) i ≡ part m a i =
    ap (λ n. take (n - (m + i)) (drop i (a ++ b))) same
    ∙ (ap (take ((at a i).behind - (m + i))) (drop-append-le i a b (omega arith)) ∙ take-append-le ((at a i).behind - (m + i)) (drop i a) b few) in
    record {
      above = omega (arith, above, same);
      within = omega (arith, inside, same, long);
      named = ap (λ (x : Made). x.named) d ∙ (s.named ∙ ap vars_made (sym cut));
    }

segment_right : (m m1 : ℕ) (a b : List Made) (i j : ℕ) → m1 ≡ m + length a → i ≡ length a + j → at (a ++ b) i ≡ at b j → Segment m1 b j → Segment m (a ++ b) i
segment_right m m1 a b i j n w d s =
    let above = s.above in
    let inside = s.within in
    let same = ap (λ (x : Made). x.behind) d in
    let long = length-append a b in
    let first : m + i ≡ m1 + j = omega (arith, n, w) in
    let cut : part m (a ++ b) i ≡ part m1 b j =
    ap (λ k. take (k - (m + i)) (drop i (a ++ b))) same
    ∙ (ap (λ k. take ((at b j).behind - k) (drop i (a ++ b))) first
    ∙ ap (take ((at b j).behind - (m1 + j))) (ap (λ k. drop k (a ++ b)) w ∙ drop-append-add a b j)) in
    record {
      above = omega (arith, above, same, first);
      within = omega (arith, inside, same, long, n);
      named = ap (λ (x : Made). x.named) d ∙ (s.named ∙ ap vars_made (sym cut));
    }

segment_at : (m m1 : ℕ) (a b : List Made) (i : ℕ) → m1 ≡ m + length a → Segments m a → Segments m1 b → SplitIndex a b i → Segment m (a ++ b) i
segment_at m m1 a b i n h k (left l d) = segment_left m a b i l d (h i l)
segment_at m m1 a b i n h k (right j w l d) = segment_right m m1 a b i j n w d (k j l)

segments_append : (m m1 : ℕ) (a b : List Made) → m1 ≡ m + length a → Segments m a → Segments m1 b → Segments m (a ++ b)
segments_append m m1 a b n h k = λ i l. segment_at m m1 a b i n h k (place_of a b i l)

segments_first : (m m1 : ℕ) (made : Made) (a : List Made) → made.named ≡ vars_of made.body ++ vars_made a → made.behind ≡ m1 → m1 ≡ suc m + length a → Segments (suc m) a → Segments m (made ∷ a)
segments_first m m1 made a n e g h zero l =
    let all : part m (made ∷ a) 0 ≡ made ∷ a = take_all (made.behind - (m + 0)) (made ∷ a) (omega (arith, e, g)) in
    record { above = omega (arith, e, g); within = omega (arith, e, g); named = n ∙ ap vars_made (sym all) }
segments_first m m1 made a n e g h (suc i) l =
    let s = h i (omega arith) in
    let above = s.above in
    let inside = s.within in
    let first : m + suc i ≡ suc m + i = omega arith in
    record {
      above = omega (arith, above);
      within = omega (arith, inside);
      named = s.named ∙ ap (λ k. vars_made (take ((at a i).behind - k) (drop i a))) (sym first);
    }

mutual
  pub segments : {t m p m1 p1 : ℕ} {a : List Made} {x : List Fork} → Grown t m p a x m1 p1 → Segments m a
  segments nothing = λ i l. absurd (omega arith)
  segments {m = m} (both {m1 = m1} {a = a} {b = b} g k) = segments_append m m1 a b (threads_grow g) (segments g) (segments k)
  segments {m = m} (fork {m1 = m1} {a = a} {b = b} g r) = segments_append m m1 a b (branch_threads g) (branch_segments g) (row_segments r)
  segments (turned x y g) = segments g

  branch_segments : {t q m p m1 p1 : ℕ} {a : List Made} → Branching t q m p a m1 p1 → Segments m a
  branch_segments {m = m} {m1 = m1} (branch {a = a} made e d n f behind g) = segments_first m m1 made a n behind (threads_grow g) (segments g)

  row_segments : {t q m p m1 p1 : ℕ} {a : List Made} {us : List ℕ} → Row t q m p a us m1 p1 → Segments m a
  row_segments no_row = λ i l. absurd (omega arith)
  row_segments {m = m} (more_row {m1 = m1} {a = a} {b = b} g r) = segments_append m m1 a b (branch_threads g) (branch_segments g) (row_segments r)
