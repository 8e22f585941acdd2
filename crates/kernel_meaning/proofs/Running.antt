-- The steps of a tick, under its budget.
use Rattle.std.proofs.Common.{◌≡◌, ◌∙◌, ℕ, ◌+◌, ◌*◌, ◌≤◌, ◌<◌, ◌||◌, ℤ, Bool, true, false, not, cond, nat_lt, inl, inr, Some, None, Result, Ok, Err, List, [], ◌∷◌, ◌++◌, refl, ap, sym, subst, arith}
use Rattle.std.proofs.lemmas.Bool.{lt-ltb, or_right}
use Rattle.std.proofs.lemmas.Bool.Decides.{nat_tests}
use Rattle.forec_kernel.specs.declared.shape.Outcome.TheVariants as outcome
use Rattle.forec_kernel.specs.Shapes.{PlainKernel}
use Rattle.forec_kernel.specs.Texts.{Thread, is_running, uses_of}
use Rattle.forec_kernel.specs.Size.{text_size}
use Rattle.forec_kernel.specs.Steps.{Path, Move, Finished, Halts, Moves, Traps, thread_after, move_units, thread_move}
use Rattle.forec_kernel.specs.Ticks as ticks
use Rattle.forec_kernel.specs.Ticks.{Going, is_stopped, moved, tick_step, steps_along, begin, concluded, tick, Ticks}
use Rattle.forec_kernel.proofs.Measure.{Falls, text_falls}
use Rattle.forec_kernel.proofs.AnyOrder.{any_order}
use Rattle.running_texts.specs.declared.meter.Halt.{Halt}
use Rattle.running_texts.specs.declared.meter.Halt.TheVariants.{Trapped, Over, OutOfMemory}
use Rattle.running_threads.specs.declared.threads.Thread as rust
use Rattle.running_threads.specs.Views.{plain_running_thread, plain_status}
use Rattle.running_steps.specs.Moving.{IsThread, after_move}
use Rattle.running_steps.specs.Waking.{WokenTo}
use Rattle.kernel_meaning.specs.States.{Along, PassesBudget, CameTo, CarriesOn, Advances, told_tick}

-- ---- one step more

steps_more : (k : PlainKernel) (budget : ℕ) (order : List Path) (path : Path) (g : Going) →
    steps_along k budget (order ++ path ∷ []) g ≡ tick_step k budget path (steps_along k budget order g)
steps_more k budget [] path g = refl
steps_more k budget (p ∷ order) path g = steps_more k budget order path (tick_step k budget p g)

within : (budget units left : ℕ) → left + units ≡ budget → nat_lt budget units ≡ false
within budget units left e = grind (arith, nat_tests)

going : (budget : ℕ) (t : Thread) (units left : ℕ) → is_running t.status ≡ true → left + units ≡ budget →
    is_stopped budget (record { thread = t; units = units }) ≡ false
going budget t units left r e =
    ap (λ b. not b || nat_lt budget units) r ∙ within budget units left e

one_step : (k : PlainKernel) (budget : ℕ) (path : Path) (t : Thread) (units left : ℕ) → is_running t.status ≡ true → left + units ≡ budget →
    tick_step k budget path (record { thread = t; units = units }) ≡ moved (record { thread = t; units = units }) (thread_move k path t)
one_step k budget path t units left r e =
    let branch : Bool → Going =
    λ b. elim b [
      | true ↦ record { thread = t; units = units }
      | false ↦ moved (record { thread = t; units = units }) (thread_move k path t)
    ] in
    ap branch (going budget t units left r e)

along_next : (k : PlainKernel) (budget : ℕ) (from : Going) (t : Thread) (old : ℕ) (path : Path) → is_running t.status ≡ true → (a : Along k budget from t old) →
    steps_along k budget (a.order ++ path ∷ []) from ≡ record { thread = thread_after t (thread_move k path t); units = a.units + move_units (thread_move k path t) }
along_next k budget from t old path r a =
    steps_more k budget a.order path from ∙ ap (tick_step k budget path) a.is ∙ one_step k budget path t a.units old r a.left

advanced : {A : Type 0} (k : PlainKernel) (t now : Thread) (path : Path) (old new : ℕ) (r : Result A Halt) → is_running t.status ≡ true →
    IsThread old new now r (after_move t (thread_move k path t)) → (budget : ℕ) (from : Going) →
    Along k budget from t old → CameTo k budget from now new r
advanced k t now path old new (Ok x) run h budget from a =
    let paid = h.by.1 in
    let left = a.left in
    record {
      order = a.order ++ path ∷ [];
      units = a.units + move_units (thread_move k path t);
      is = along_next k budget from t old path run a
          ∙ ap (λ u. record { thread = u; units = a.units + move_units (thread_move k path t) }) (sym h.by.0);
      left = omega arith;
    }
advanced k t now path old new (Err (Trapped place trap)) run h budget from a = h.by
advanced k t now path old new (Err Over) run h budget from a =
    let low = h.by in
    let left = a.left in
    let all = ap (λ g. g.units) (along_next k budget from t old path run a) in
    record { order = a.order ++ path ∷ []; over = omega arith }
advanced k t now path old new (Err OutOfMemory) run h budget from a = tt

pub advance_goes : {A : Type 0} (k : PlainKernel) (t now : Thread) (old new : ℕ) (r : Result A Halt) → is_running t.status ≡ true → Advances k t now old new r →
    CarriesOn k t now old new r
advance_goes k t now old new r run a = record { on = advanced k t now a.path old new r run a.is }

pub advance_pays : {A : Type 0} (k : PlainKernel) (t now : Thread) (old new : ℕ) (x : A) → Advances k t now old new (Ok x) → new ≤ old
advance_pays k t now old new x a = let paid = a.is.by.1 in omega arith

pub then_goes : {A : Type 0} (k : PlainKernel) (first t now : Thread) (start old new : ℕ) (r : Result A Halt) →
    ((budget : ℕ) (from : Going) → Along k budget from first start → Along k budget from t old) →
    CarriesOn k t now old new r → CarriesOn k first now start new r
then_goes k first t now start old new r before g = record { on = λ budget from a. g.on budget from (before budget from a) }

-- ---- a step that costs nothing

abbrev pub size_of : Thread → ℕ
size_of t = text_size t.text + cond (is_running t.status) 1 0

less : (a : ℕ) (running : Bool) → running ≡ true → a + 0 < a + cond running 1 0
less a true e = omega arith
less a false e = cc

pub outer_falls : (new old : ℕ) (before after : Bool) → before ≡ true → new ≤ old → (after ≡ true → new < old) →
    2 * new + cond after 1 0 < 2 * old + cond before 1 0
outer_falls new old true true e l h = let s = h refl in omega arith
outer_falls new old true false e l h = omega arith
outer_falls new old false after e l h = cc

falls_main : (t : Thread) (m : Move) → is_running t.status ≡ true → Falls (text_size t.text) m → move_units m ≡ 0 → size_of (thread_after t m) < size_of t
falls_main t Finished r f z = less (text_size t.text) (is_running t.status) r
falls_main t Halts r f z = less (text_size t.text) (is_running t.status) r
falls_main t (Moves R words copies u) r (inl h) z = absurd (omega arith)
falls_main t (Moves R words copies u) r (inr h) z = omega arith
falls_main t (Traps place trap u) r f z = less (text_size t.text) (is_running t.status) r

pub free_falls : {A : Type 0} (k : PlainKernel) (t now : Thread) (old new : ℕ) (x : A) → is_running t.status ≡ true → Advances k t now old new (Ok x) → new ≡ old →
    size_of now < size_of t
free_falls k t now old new x r a e =
    let paid = a.is.by.1 in
    let h : size_of (thread_after t (thread_move k a.path t)) < size_of t =
    falls_main t (thread_move k a.path t) r (text_falls k a.path (uses_of k t.number) t.words t.copies t.text) (omega arith) in
    subst (λ x. size_of x < size_of t) (sym a.is.by.0) h

-- ---- a whole tick

pub begun : (k : PlainKernel) (budget new : ℕ) (g : Going) (m : rust.Thread) → WokenTo budget new (Ok m) g → Along k budget g (plain_running_thread m) new
begun k budget new g m h = record { order = []; units = g.units; is = ap (λ t. record { thread = t; units = g.units }) (sym h.by.0); left = h.by.1 }

pub tick_told : (k : PlainKernel) (budget left : ℕ) (old : ticks.TickState) (row : List ℤ) (m : rust.Thread) → Along k budget (begin k old row) (plain_running_thread m) left →
    is_running (plain_status m.status) ≡ false → tick k budget old row ≡ told_tick k old (Some m)
tick_told k budget left old row m a r =
    let low : nat_lt budget a.units ≡ false = within budget a.units left a.left in
    let here : Going = record { thread = plain_running_thread m; units = a.units } in
    let done : is_stopped budget here ≡ true = ap (λ b. not b || nat_lt budget a.units) r in
    let branch : Bool → ticks.Tick =
    λ b. elim b [
      | true ↦ record { outcome = outcome.Over; outputs = []; state = old }
      | false ↦ told_tick k old (Some m)
    ] in
    sym (any_order k budget old row (told_tick k old (Some m))
    (record {
      order = a.order;
      stops = ap (is_stopped budget) a.is ∙ done;
      gives = sym (ap (concluded k budget old) a.is ∙ ap branch low);
    }))

pub tick_over : (k : PlainKernel) (budget : ℕ) (old : ticks.TickState) (row : List ℤ) → PassesBudget k budget (begin k old row) →
    tick k budget old row ≡ told_tick k old None
tick_over k budget old row p =
    let g = steps_along k budget p.order (begin k old row) in
    let high : nat_lt budget g.units ≡ true = lt-ltb budget g.units p.over in
    sym (any_order k budget old row (told_tick k old None)
    (record { order = p.order; stops = or_right (not (is_running g.thread.status)) (nat_lt budget g.units) high; gives = sym (concludes g high) }))
  where
    concludes : (g : Going) → nat_lt budget g.units ≡ true → concluded k budget old g ≡ told_tick k old None
    concludes g e = rw (concluded, e)

pub begin_over : (k : PlainKernel) (budget new : ℕ) (g : Going) → WokenTo budget new (Err Over) g → PassesBudget k budget g
begin_over k budget new g h = record { order = []; over = h.by }
