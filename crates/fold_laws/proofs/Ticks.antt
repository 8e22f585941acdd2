-- Ticks and runs of the folded kernel.
use Rattle.std.proofs.Common.{ℕ, zero, suc, ◌+◌, ◌≤◌, ◌≡◌, ◌≢◌, ◌⊎◌, inl, inr, ⊎_elim, ℤ, Bool, true, false, not, ◌||◌, nat_lt, List, [], ◌∷◌, refl, ap, sym, subst, ◌∙◌, arith}
use Rattle.std.proofs.lemmas.Bool.{or_parts, or_from, or_left}
use Rattle.std.proofs.lemmas.Bool.Decides.{nat_tests}
use Rattle.forec_kernel.specs.declared.shape.Outcome.TheVariants as outcome
use Rattle.forec_kernel.specs.Shapes.{PlainKernel}
use Rattle.forec_kernel.specs.Texts.{Status, Trapped, RunningText, Thread, is_running, text_of, uses_of, body_of}
use Rattle.forec_kernel.specs.Steps.{Move, Finished, Halts, Moves, Traps, thread_move, text_move, woken, text_if, waking_units}
use Rattle.forec_kernel.specs.Ticks.{Going, is_stopped, moved, TickState, Fresh, After_tick, unmarked, with_row, begin, Tick, values_of, outcome_of, concluded, finished, tick, goes_on, run_from, run_of}
use Rattle.forec_kernel.proofs.Ends.{leftmost, step_moves, step_stays, step_unless, Reaches, tick_in_time, ends}
use Rattle.fold_laws.specs.Laws.{tick_units, RunsAlike, UpToOver}
use Rattle.fold_laws.specs.Folding.{folded_kernel}
use Rattle.fold_laws.proofs.Texts.{Like, like_body}
use Rattle.fold_laws.proofs.Rests.{text_rest}
use Rattle.fold_laws.proofs.Moves.{StepLike}
use Rattle.fold_laws.proofs.Stepping.{step_like}
use Rattle.fold_laws.proofs.Waking.{AwakeLike, awake_like, woken_like}

-- ---- two ticks in progress

-- the same but for the text and the units, of which there are no more
pub record GoingLike (g g' : Going) : Type 0 where
  pub text : RunningText
  pub units : ℕ
  pub like : Like g.thread.text text
  pub fewer : units ≤ g.units
  pub is : g' ≡ record { thread = record g.thread { text = text }; units = units }

-- what was reached, whether the folded thread stepped or waited
abbrev Onward : PlainKernel → Going → Going → Move → Move → Type 0
Onward k g g' m m' = GoingLike (moved g m) g' ⊎ GoingLike (moved g m) (moved g' m')

module _ (k : PlainKernel) (g : Going) (S : RunningText) (v : ℕ) (l : Like g.thread.text S) (h : v ≤ g.units) where
  abbrev mine : Going
  mine = record { thread = record g.thread { text = S }; units = v }

  onward : (n : ℕ) (m m' : Move) → StepLike n g.thread.words g.thread.copies S m m' → Onward k g mine m m'
  onward n Finished m' (inl x) = absurd x
  onward n Halts m' (inl x) = absurd x
  onward n (Moves R w c u) m' (inl x) =
      inl (record {
        text = S;
        units = v;
        like = x.0;
        fewer = omega arith;
        is =
            ap (λ ws. record { thread = record g.thread { text = S; words = ws }; units = v }) (sym x.1)
            ∙ ap (λ cs. record { thread = record g.thread { text = S; words = w; copies = cs }; units = v }) (sym x.2);
      })
  onward n (Traps place trap u) m' (inl x) = absurd x
  onward n Finished Finished (inr x) = inr (record { text = S; units = v + 0; like = l; fewer = omega arith; is = refl })
  onward n Halts Halts (inr x) = inr (record { text = S; units = v + 0; like = l; fewer = omega arith; is = refl })
  onward n (Moves R w c u) (Moves R' w' c' u') (inr x) =
      let less = x.3 in
      inr (record {
        text = R';
        units = v + u';
        like = x.0;
        fewer = omega arith;
        is =
            ap (λ ws. record { thread = record g.thread { text = R'; words = ws; copies = c' }; units = v + u' }) x.1
            ∙ ap (λ cs. record { thread = record g.thread { text = R'; words = w; copies = cs }; units = v + u' }) x.2;
      })
  onward n (Traps place trap u) (Traps place' trap' u') (inr x) =
      let less = x.2 in
      inr (record {
        text = S;
        units = v + u';
        like = l;
        fewer = omega arith;
        is =
            ap (λ p. record { thread = record g.thread { text = S; status = Trapped p trap' }; units = v + u' }) x.0
            ∙ ap (λ t. record { thread = record g.thread { text = S; status = Trapped place t }; units = v + u' }) x.1;
      })
  onward n _ _ (inr x) = absurd x

going_on : (k : PlainKernel) (g g' : Going) → GoingLike g g' →
    Onward k g g' (thread_move k [] g.thread) (thread_move (folded_kernel k) [] g'.thread)
going_on k g g' l =
    subst (λ x. Onward k g x (thread_move k [] g.thread) (thread_move (folded_kernel k) [] x.thread)) (sym l.is)
    (onward k g l.text l.units l.like l.fewer (text_rest g.thread.text) (thread_move k [] g.thread)
    (text_move (folded_kernel k) [] (uses_of k g.thread.number) g.thread.words g.thread.copies l.text)
    (step_like k [] (uses_of k g.thread.number) g.thread.words g.thread.copies g.thread.text l.text l.like))

-- where a tick goes on, so does the one that goes with it
goes_like : (budget : ℕ) (g g' : Going) → GoingLike g g' → is_stopped budget g ≡ false → is_stopped budget g' ≡ false
goes_like budget g g' l h =
    let parts = or_parts (not (is_running g.thread.status)) (nat_lt budget g.units) h in
    let within : nat_lt budget g.units ≡ false = parts.1 in
    let less = l.fewer in
    let fine : nat_lt budget l.units ≡ false = grind (arith, nat_tests) in
    ap (is_stopped budget) l.is ∙ or_from (not (is_running g.thread.status)) (nat_lt budget l.units) parts.0 fine

-- the folded kernel's steps that go with so many
pub record Along (k : PlainKernel) (budget n : ℕ) (g g' : Going) : Type 0 where
  pub count : ℕ
  pub like : GoingLike (leftmost k (is_stopped budget) n g) (leftmost (folded_kernel k) (is_stopped budget) count g')

module _ (k : PlainKernel) (budget : ℕ) where
  abbrev stop : Going → Bool
  stop g = is_stopped budget g

  along_first : (n : ℕ) (g g' g1 : Going) → leftmost k stop n g1 ≡ leftmost k stop (suc n) g → Along k budget n g1 g' → Along k budget (suc n) g g'
  along_first n g g' g1 e a = record { count = a.count; like = subst (λ x. GoingLike x (leftmost (folded_kernel k) stop a.count g')) e a.like }

  along_second : (n : ℕ) (g g' g2 : Going) → step_unless (folded_kernel k) stop [] g' ≡ g2 → Along k budget n g g2 → Along k budget n g g'
  along_second n g g' g2 e a =
      record {
        count = suc a.count;
        like = subst (λ x. GoingLike (leftmost k stop n g) (leftmost (folded_kernel k) stop a.count x)) (sym e) a.like;
      }

  along : (n : ℕ) (g g' : Going) → GoingLike g g' → Along k budget n g g'
  along zero g g' l = record { count = 0; like = l }
  along (suc n) g g' l = pick (stop g) refl (λ x y h. along n x y h)
    where
      pick : (b : Bool) → stop g ≡ b → ((x y : Going) → GoingLike x y → Along k budget n x y) → Along k budget (suc n) g g'
      pick true e ih = along_first n g g' g (sym (ap (leftmost k stop n) (step_stays k stop [] g e))) (ih g g' l)
      pick false e ih =
          let next : leftmost k stop n (moved g (thread_move k [] g.thread)) ≡ leftmost k stop (suc n) g =
          sym (ap (leftmost k stop n) (step_moves k stop [] g e)) in
          along_first n g g' (moved g (thread_move k [] g.thread)) next
          (⊎_elim
          (λ x. ih (moved g (thread_move k [] g.thread)) g' x)
          (λ x. along_second n (moved g (thread_move k [] g.thread)) g' (moved g' (thread_move (folded_kernel k) [] g'.thread))
          (step_moves (folded_kernel k) stop [] g' (goes_like budget g g' l e))
          (ih (moved g (thread_move k [] g.thread)) (moved g' (thread_move (folded_kernel k) [] g'.thread)) x))
          (going_on k g g' l))

  -- ---- where steps stop is one place

  stays : (j : PlainKernel) (n : ℕ) (g : Going) → stop g ≡ true → leftmost j stop n g ≡ g
  stays j zero g e = refl
  stays j (suc n) g e = ap (leftmost j stop n) (step_stays j stop [] g e) ∙ stays j n g e

  one_stop : (j : PlainKernel) (n m : ℕ) (g : Going) → stop (leftmost j stop n g) ≡ true → stop (leftmost j stop m g) ≡ true →
      leftmost j stop n g ≡ leftmost j stop m g
  one_stop j zero m g a b = sym (stays j m g a)
  one_stop j (suc n) zero g a b = stays j (suc n) g b
  one_stop j (suc n) (suc m) g a b = one_stop j n m (step_unless j stop [] g) a b

  abbrev end_of : PlainKernel → TickState → List ℤ → Going
  end_of j old row = finished j stop (suc budget) (begin j old row)

  -- ---- between ticks

  module _ (old old' : TickState) (row : List ℤ) (start : GoingLike (begin k old row) (begin (folded_kernel k) old' row)) where
    reached : Reaches k stop (begin k old row) (end_of k old row)
    reached = ends k budget stop (tick_in_time budget) (suc budget) (begin k old row) (omega arith)

    reached' : Reaches (folded_kernel k) stop (begin (folded_kernel k) old' row) (end_of (folded_kernel k) old' row)
    reached' = ends (folded_kernel k) budget stop (tick_in_time budget) (suc budget) (begin (folded_kernel k) old' row) (omega arith)

    -- where the tick isn't over, the folded tick ends like it
    ended_like : nat_lt budget (end_of k old row).units ≡ false → GoingLike (end_of k old row) (end_of (folded_kernel k) old' row)
    ended_like h =
        let r = reached in
        let r' = reached' in
        let a = along r.count (begin k old row) (begin (folded_kernel k) old' row) start in
        let to = subst (λ x. GoingLike x (leftmost (folded_kernel k) stop a.count (begin (folded_kernel k) old' row))) (sym r.along) a.like in
        let still = stopped_like (end_of k old row) (leftmost (folded_kernel k) stop a.count (begin (folded_kernel k) old' row)) to r.stopped h in
        let same : leftmost (folded_kernel k) stop a.count (begin (folded_kernel k) old' row) ≡ end_of (folded_kernel k) old' row =
        one_stop (folded_kernel k) a.count r'.count (begin (folded_kernel k) old' row) still (ap stop (sym r'.along) ∙ r'.stopped) ∙ sym r'.along in
        subst (λ x. GoingLike (end_of k old row) x) same to
      where
        first_of : (a b : Bool) → (a || b) ≡ true → b ≡ false → a ≡ true
        first_of true b e f = refl
        first_of false b e f = cc

        stopped_like : (g g' : Going) → GoingLike g g' → stop g ≡ true → nat_lt budget g.units ≡ false → stop g' ≡ true
        stopped_like g g' l s h =
            ap stop l.is
            ∙ or_left (not (is_running g.thread.status)) (nat_lt budget l.units) (first_of (not (is_running g.thread.status)) (nat_lt budget g.units) s h)

-- states between ticks: the same but for the text
abbrev StateLike : TickState → TickState → Type 0
StateLike Fresh old' = old' ≡ Fresh
StateLike (After_tick t) old' = (S : RunningText) × Like t.text S × (old' ≡ After_tick (record t { text = S }))

woken_going : (k : PlainKernel) (t : Thread) (row : List ℤ) (S : RunningText) → Like t.text S →
    GoingLike (begin k (After_tick t) row) (begin (folded_kernel k) (After_tick (record t { text = S })) row)
woken_going k t row S l =
    let c = with_row (uses_of k 0) k.shape.inputs row (unmarked t.copies) in
    let x = woken k (uses_of k 0) t.words c t.text in
    let y = woken (folded_kernel k) (uses_of k 0) t.words c S in
    let a : AwakeLike t.text S x y = awake_like t.text S l x y (woken_like k (uses_of k 0) t.words c t.text S l) in
    record {
      text = text_if S y;
      units = waking_units y;
      like = a.text;
      fewer = a.units;
      is =
          ap (λ (st : Status). record {
            thread = record { number = t.number; text = text_if S y; words = t.words; copies = c; status = st };
            units = waking_units y;
          }) a.status;
    }

begin_like : (k : PlainKernel) (old old' : TickState) (row : List ℤ) → StateLike old old' → GoingLike (begin k old row) (begin (folded_kernel k) old' row)
begin_like k Fresh old' row l =
    subst (λ s. GoingLike (begin k Fresh row) (begin (folded_kernel k) s row)) (sym l)
    (record { text = text_of (body_of (folded_kernel k) 0); units = 0; like = like_body k 0; fewer = omega arith; is = refl })
begin_like k (After_tick t) old' row l =
    subst (λ s. GoingLike (begin k (After_tick t) row) (begin (folded_kernel k) s row)) (sym l.2) (woken_going k t row l.0 l.1)

-- a tick that isn't over, and the folded one
pub record TickLike (k : PlainKernel) (budget : ℕ) (old old' : TickState) (row : List ℤ) : Type 0 where
  pub outcome : (tick (folded_kernel k) budget old' row).outcome ≡ (tick k budget old row).outcome
  pub outputs : (tick (folded_kernel k) budget old' row).outputs ≡ (tick k budget old row).outputs
  pub state : StateLike (tick k budget old row).state (tick (folded_kernel k) budget old' row).state
  pub units : tick_units (folded_kernel k) budget old' row ≤ tick_units k budget old row

abbrev not_over : PlainKernel → Going → Tick
not_over k g =
    record { outcome = outcome_of g.thread.status; outputs = values_of (uses_of k 0) g.thread.copies k.shape.outputs; state = After_tick g.thread }

concluded_is : (k : PlainKernel) (budget : ℕ) (old : TickState) (g : Going) → nat_lt budget g.units ≡ false → concluded k budget old g ≡ not_over k g
concluded_is k budget old g e = rw (concluded, e)

abbrev over_tick : TickState → Tick
over_tick old = record { outcome = outcome.Over; outputs = []; state = old }

concluded_over : (k : PlainKernel) (budget : ℕ) (old : TickState) (g : Going) → nat_lt budget g.units ≡ true → concluded k budget old g ≡ over_tick old
concluded_over k budget old g e = rw (concluded, e)

tick_like : (k : PlainKernel) (budget : ℕ) (old old' : TickState) (row : List ℤ) → StateLike old old' →
    ((tick k budget old row).outcome ≢ outcome.Over) → TickLike k budget old old' row
tick_like k budget old old' row s n = pick (nat_lt budget (end_of k budget k old row).units) refl
  where
    by : (g g' : Going) → GoingLike g g' → (not_over (folded_kernel k) g').outcome ≡ (not_over k g).outcome
    by g g' l = ap (λ x. (not_over (folded_kernel k) x).outcome) l.is

    by_outputs : (g g' : Going) → GoingLike g g' → (not_over (folded_kernel k) g').outputs ≡ (not_over k g).outputs
    by_outputs g g' l = ap (λ x. (not_over (folded_kernel k) x).outputs) l.is

    by_state : (g g' : Going) → GoingLike g g' → StateLike (not_over k g).state (not_over (folded_kernel k) g').state
    by_state g g' l = (l.text, l.like, ap (λ x. (not_over (folded_kernel k) x).state) l.is)

    by_units : (g g' : Going) → GoingLike g g' → g'.units ≤ g.units
    by_units g g' l = subst (λ x. x.units ≤ g.units) (sym l.is) l.fewer

    within : (g g' : Going) → GoingLike g g' → nat_lt budget g.units ≡ false → nat_lt budget g'.units ≡ false
    within g g' l h = let less = by_units g g' l in grind (arith, nat_tests)

    pick : (b : Bool) → nat_lt budget (end_of k budget k old row).units ≡ b → TickLike k budget old old' row
    pick true e = absurd (n (ap (λ t. t.outcome) (concluded_over k budget old (end_of k budget k old row) e)))
    pick false e =
        let g = end_of k budget k old row in
        let g' = end_of k budget (folded_kernel k) old' row in
        let l : GoingLike g g' = ended_like k budget old old' row (begin_like k old old' row s) e in
        let is : tick k budget old row ≡ not_over k g = concluded_is k budget old g e in
        let is' : tick (folded_kernel k) budget old' row ≡ not_over (folded_kernel k) g' = concluded_is (folded_kernel k) budget old' g' (within g g' l e) in
        record {
          outcome = ap (λ t. t.outcome) is' ∙ by g g' l ∙ ap (λ t. t.outcome) (sym is);
          outputs = ap (λ t. t.outputs) is' ∙ by_outputs g g' l ∙ ap (λ t. t.outputs) (sym is);
          state =
              subst (λ t. StateLike t.state (tick (folded_kernel k) budget old' row).state) (sym is)
              (subst (λ t. StateLike (not_over k g).state t.state) (sym is') (by_state g g' l));
          units = by_units g g' l;
        }

-- ---- runs

pub runs_alike : (k : PlainKernel) (budget : ℕ) (old old' : TickState) (rows : List (List ℤ)) → StateLike old old' → RunsAlike k (folded_kernel k) budget old old' rows
runs_alike k budget old old' [] s = tt
runs_alike k budget old old' (row ∷ rows) s =
    λ n.
    let t = tick_like k budget old old' row s n in (
      record { outcome = t.outcome; outputs = t.outputs; units = t.units },
      λ h. runs_alike k budget (tick k budget old row).state (tick (folded_kernel k) budget old' row).state rows t.state,
    )

pub each_run : (k : PlainKernel) (budget : ℕ) (rows : List (List ℤ)) → RunsAlike k (folded_kernel k) budget Fresh Fresh rows
each_run k budget rows = runs_alike k budget Fresh Fresh rows refl

-- the lists of ticks that runs are
abbrev run_on : PlainKernel → ℕ → Tick → List (List ℤ) → Bool → List Tick
run_on k budget t rows b = elim b [ true ↦ t ∷ run_from k budget t.state rows | false ↦ t ∷ [] ]

unlike : (a b : Bool) → a ≡ b → a ≡ true → b ≡ false → ⊥
unlike true b e f g = cc
unlike false b e f g = cc

unlike' : (a b : Bool) → a ≡ b → a ≡ false → b ≡ true → ⊥
unlike' true b e f g = cc
unlike' false b e f g = cc

lists_alike : (k : PlainKernel) (budget : ℕ) (old old' : TickState) (rows : List (List ℤ)) → StateLike old old' →
    UpToOver (run_from k budget old rows) (run_from (folded_kernel k) budget old' rows)
lists_alike k budget old old' [] s = refl
lists_alike k budget old old' (row ∷ rows) s =
    pick (goes_on (tick k budget old row).outcome) (goes_on (tick (folded_kernel k) budget old' row).outcome) refl refl
    (λ x y h. lists_alike k budget x y rows h)
  where
    pick : (b b' : Bool) → goes_on (tick k budget old row).outcome ≡ b → goes_on (tick (folded_kernel k) budget old' row).outcome ≡ b' →
        ((x y : TickState) → StateLike x y → UpToOver (run_from k budget x rows) (run_from (folded_kernel k) budget y rows)) →
        UpToOver (run_on k budget (tick k budget old row) rows b) (run_on (folded_kernel k) budget (tick (folded_kernel k) budget old' row) rows b')
    pick true true e f ih =
        λ n.
        let t = tick_like k budget old old' row s n in
        (t.outcome, t.outputs, ih (tick k budget old row).state (tick (folded_kernel k) budget old' row).state t.state)
    pick false false e f ih = λ n. let t = tick_like k budget old old' row s n in (t.outcome, t.outputs, refl)
    pick true false e f ih =
        λ n. let t = tick_like k budget old old' row s n in absurd (unlike _ _ (ap goes_on (sym t.outcome)) e f)
    pick false true e f ih =
        λ n. let t = tick_like k budget old old' row s n in absurd (unlike' _ _ (ap goes_on (sym t.outcome)) e f)

pub each_list : (k : PlainKernel) (budget : ℕ) (rows : List (List ℤ)) → UpToOver (run_of k budget rows) (run_of (folded_kernel k) budget rows)
each_list k budget rows = lists_alike k budget Fresh Fresh rows refl
