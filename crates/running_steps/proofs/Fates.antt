-- Waking a text inside frames, under one allowance.
use Rattle.std.proofs.Common.{◌≡◌, ◌≢◌, ◌∙◌, ℕ, ◌+◌, ◌-◌, ◌≤◌, ◌<◌, ℤ, pos, Bool, true, false, cond, Result, Ok, Err, List, [], ◌∷◌, ◌++◌, length, take, drop, get_or, append_assoc, refl, ap, sym, subst, arith}
use Rattle.std.proofs.lemmas.List.{take_all, length-drop}
use Rattle.forec_base.specs.Numbers.{is_zero}
use Rattle.forec_base.specs.declared.Place.{Place}
use Rattle.forec_base.specs.declared.Trap.{Trap}
use Rattle.forec_kernel.specs.declared.shape.VarCopy.{VarCopy}
use Rattle.forec_kernel.specs.Plain.{expr}
use Rattle.forec_kernel.specs.Shapes.{PlainKernel}
use Rattle.forec_kernel.specs.Terms.{Expr}
use Rattle.forec_kernel.specs.Values.{Value, Gives, Raises}
use Rattle.forec_kernel.specs.Texts as plain
use Rattle.forec_kernel.specs.Texts.{RunningText, Done, Watch, Last, Thread}
use Rattle.forec_kernel.specs.Steps.{Woken, Wakes, Stays, more_woken, woken_in, woken_with, watched_on, woken, waking_units, evaluated, text_if, status_of}
use Rattle.forec_kernel.specs.Ticks.{Going}
use Rattle.running_texts.specs.declared.meter.Halt.{Halt}
use Rattle.running_texts.specs.declared.meter.Halt.TheVariants.{Trapped, Over, OutOfMemory}
use Rattle.running_texts.specs.Metered.{IsMetered}
use Rattle.running_texts.proofs.MeteredLemmas.{is_zero_of, not_zero_of, tested_gives}
use Rattle.running_texts.proofs.Tests.{AfterTest}
use Rattle.running_threads.specs.declared.threads.Frame.{Frame}
use Rattle.running_threads.specs.declared.threads.Frame.TheVariants as frame
use Rattle.running_threads.specs.declared.threads.Focus.{Focus}
use Rattle.running_threads.specs.declared.threads.Focus as focus
use Rattle.running_threads.specs.declared.threads.Thread as rust
use Rattle.running_threads.specs.Views.{framed, plugged, focused, plain_running_thread}
use Rattle.running_steps.specs.declared.wakes.Reach.{Reach}
use Rattle.running_steps.specs.declared.wakes.Reach.TheVariants as reach
use Rattle.running_steps.specs.Waking.{Fate, Reaches, Sticks, fate_units, more_fate, fate_in, fate_with, fate_on, fate, IsReached, waking_kind, woken_going, WokenTo}

-- ---- what the whole text comes to

abbrev pub by_fate : RunningText → Fate → Woken → Woken
by_fate R (Reaches reach.Focus fs u) (Wakes R' v) = Wakes (plugged fs R') (u + v)
by_fate R (Reaches reach.Focus fs u) (Stays place trap v) = Stays place trap (u + v)
by_fate R (Reaches reach.Last fs u) inner = Wakes (plugged fs R) u
by_fate R (Reaches reach.Out fs u) inner = Wakes (plugged fs Done) u
by_fate R (Sticks place trap u) inner = Stays place trap u

in_is : (f : Frame) (R : RunningText) (x : Fate) (inner : Woken) → by_fate R (fate_in f x) inner ≡ woken_in (framed f) (by_fate R x inner)
in_is f R (Reaches reach.Focus fs u) (Wakes R' v) = refl
in_is f R (Reaches reach.Focus fs u) (Stays place trap v) = refl
in_is f R (Reaches reach.Last fs u) inner = refl
in_is f R (Reaches reach.Out fs u) inner = refl
in_is f R (Sticks place trap u) inner = refl

more_is : (u : ℕ) (R : RunningText) (x : Fate) (inner : Woken) → by_fate R (more_fate u x) inner ≡ more_woken u (by_fate R x inner)
more_is u R (Reaches reach.Focus fs v) (Wakes R' w) = ap (Wakes (plugged fs R')) (omega arith)
more_is u R (Reaches reach.Focus fs v) (Stays place trap w) = ap (Stays place trap) (omega arith)
more_is u R (Reaches reach.Last fs v) inner = refl
more_is u R (Reaches reach.Out fs v) inner = refl
more_is u R (Sticks place trap v) inner = refl

no_frames : (R : RunningText) (inner : Woken) → inner ≡ by_fate R (Reaches reach.Focus [] 0) inner
no_frames R (Wakes R' v) = ap (Wakes R') (omega arith)
no_frames R (Stays place trap v) = ap (Stays place trap) (omega arith)

with_is : (v : Value) (go : ℤ → Woken) (on : ℤ → Fate) (R : RunningText) (inner : Woken) → ((n : ℤ) → go n ≡ by_fate R (on n) inner) →
    woken_with v go ≡ by_fate R (fate_with v on) inner
with_is (Gives n u) go on R inner e = ap (more_woken u) (e n) ∙ sym (more_is u R (on n) inner)
with_is (Raises place trap u) go on R inner e = refl

watch_is : (k : PlainKernel) (weak : Bool) (e : _) (n : ℤ) (R : RunningText) (x : Fate) (whole inner : Woken) → whole ≡ by_fate R x inner →
    watched_on weak (expr e.now) n whole ≡ by_fate R (fate_on (frame.Watch weak e) weak n x) inner
watch_is k false e n R x whole inner h = pick (is_zero n)
  where
    pick : (z : Bool) → cond z (woken_in (Watch false (expr e.now)) whole) (Wakes Done 0) ≡ by_fate R (cond z (fate_in (frame.Watch false e) x) (Reaches reach.Out [] 0)) inner
    pick true = ap (woken_in (Watch false (expr e.now))) h ∙ sym (in_is (frame.Watch false e) R x inner)
    pick false = refl
watch_is k true e n R x whole inner h = pick (is_zero n)
  where
    pick : (z : Bool) → cond z (woken_in (Watch true (expr e.now)) whole) (woken_in Last whole)
        ≡ by_fate R (cond z (fate_in (frame.Watch true e) x) (fate_in frame.Last x)) inner
    pick true = ap (woken_in (Watch true (expr e.now))) h ∙ sym (in_is (frame.Watch true e) R x inner)
    pick false = ap (woken_in Last) h ∙ sym (in_is frame.Last R x inner)

pub woken_fate : (k : PlainKernel) (uses : List ℕ) (w : List ℤ) (c : List VarCopy) (fs : List Frame) (R : RunningText) →
    woken k uses w c (plugged fs R) ≡ by_fate R (fate k uses w c fs) (woken k uses w c R)
woken_fate k uses w c [] R = no_frames R (woken k uses w c R)
woken_fate k uses w c (frame.Rest list ∷ fs) R =
    ap (woken_in (framed (frame.Rest list))) (woken_fate k uses w c fs R) ∙ sym (in_is (frame.Rest list) R (fate k uses w c fs) (woken k uses w c R))
woken_fate k uses w c (frame.Again turn ∷ fs) R =
    ap (woken_in (framed (frame.Again (record turn { left = turn.bound })))) (woken_fate k uses w c fs R)
    ∙ sym (in_is (frame.Again (record turn { left = turn.bound })) R (fate k uses w c fs) (woken k uses w c R))
woken_fate k uses w c (frame.Watch weak e ∷ fs) R =
    with_is (evaluated (record { kernel = k; uses = uses }) w c (expr e.now)) (λ n. more_woken 1 (watched_on weak (expr e.now) n (woken k uses w c (plugged fs R))))
    (λ n. more_fate 1 (fate_on (frame.Watch weak e) weak n (fate k uses w c fs))) R (woken k uses w c R)
    (λ n. ap (more_woken 1) (watch_is k weak e n R (fate k uses w c fs) (woken k uses w c (plugged fs R)) (woken k uses w c R) (woken_fate k uses w c fs R))
    ∙ sym (more_is 1 R (fate_on (frame.Watch weak e) weak n (fate k uses w c fs)) (woken k uses w c R)))
woken_fate k uses w c (frame.Last ∷ fs) R = refl

-- ---- the frames so far

pub head_is : (fs : List Frame) (f r : Frame) → 1 ≤ length fs → r ≡ get_or fs 0 r → r ≡ f → fs ≡ f ∷ drop 1 fs
head_is [] f r l a b = absurd (omega arith)
head_is (x ∷ xs) f r l a b = ap (λ y. y ∷ xs) (sym a ∙ b)

pub tail_is : (fs : List Frame) → take (length fs - 1) (drop 1 fs) ≡ drop 1 fs
tail_is fs = take_all (length fs - 1) (drop 1 fs) (let e = length-drop 1 fs in omega arith)

append_nil : (l : List Frame) → l ≡ l ++ []
append_nil [] = refl
append_nil (x ∷ xs) = ap (λ l. x ∷ l) (append_nil xs)

pub reached_here : (before : List Frame) (left : ℕ) → IsReached (Reaches reach.Focus [] 0) before before left left (Ok reach.Focus)
reached_here before left = record { by = record { frames = []; units = 0; is = refl; grown = append_nil before; left = omega arith } }

pub reached_out : (before : List Frame) (left : ℕ) → IsReached (Reaches reach.Out [] 0) before before left left (Ok reach.Out)
reached_out before left = record { by = record { frames = []; units = 0; is = refl; grown = append_nil before; left = omega arith } }

pub reached_last : (before after fs : List Frame) (left : ℕ) → after ≡ before ++ fs → IsReached (Reaches reach.Last fs 0) before after left left (Ok reach.Last)
reached_last before after fs left e = record { by = record { frames = fs; units = 0; is = refl; grown = e; left = omega arith } }

in_units : (f : Frame) (x : Fate) → fate_units (fate_in f x) ≡ fate_units x
in_units f (Reaches to fs u) = refl
in_units f (Sticks place trap u) = refl

more_units_is : (u : ℕ) (x : Fate) → fate_units (more_fate u x) ≡ u + fate_units x
more_units_is u (Reaches to fs v) = refl
more_units_is u (Sticks place trap v) = refl

pub reached_in : (f : Frame) (x : Fate) (before mid after : List Frame) (old new : ℕ) (r : Result Reach Halt) → mid ≡ before ++ f ∷ [] →
    IsReached x mid after old new r → IsReached (fate_in f x) before after old new r
reached_in f x before mid after old new (Ok to) e h =
    record {
      by = record {
        frames = f ∷ h.by.frames;
        units = h.by.units;
        is = ap (fate_in f) h.by.is;
        grown = h.by.grown ∙ ap (λ l. l ++ h.by.frames) e ∙ append_assoc before (f ∷ []) h.by.frames;
        left = h.by.left;
      };
    }
reached_in f x before mid after old new (Err (Trapped place trap)) e h =
    record { by = record { units = h.by.units; is = ap (fate_in f) h.by.is; left = h.by.left } }
reached_in f x before mid after old new (Err Over) e h = let l = h.by in record { by = omega (arith, in_units f x) }
reached_in f x before mid after old new (Err OutOfMemory) e h = record { by = tt }

reached_more : (u : ℕ) (x : Fate) (before after : List Frame) (old mid new : ℕ) (r : Result Reach Halt) → mid + u ≡ old →
    IsReached x before after mid new r → IsReached (more_fate u x) before after old new r
reached_more u x before after old mid new (Ok to) e h =
    record {
      by = record { frames = h.by.frames; units = u + h.by.units; is = ap (more_fate u) h.by.is; grown = h.by.grown; left = let l = h.by.left in omega arith };
    }
reached_more u x before after old mid new (Err (Trapped place trap)) e h =
    record { by = record { units = u + h.by.units; is = ap (more_fate u) h.by.is; left = let l = h.by.left in omega arith } }
reached_more u x before after old mid new (Err Over) e h = let l = h.by in record { by = omega (arith, more_units_is u x) }
reached_more u x before after old mid new (Err OutOfMemory) e h = record { by = tt }

-- ---- after the test of an abort

module _ (weak : Bool) (f : Frame) (inner : Fate) (v : Value) (before after : List Frame) (old mid new : ℕ) where
  abbrev rest : ℤ → Fate
  rest n = more_fate 1 (fate_on f weak n inner)

  tested_on : (n : ℤ) (x : Fate) (r : Result Reach Halt) → AfterTest old mid (Ok n) v → fate_on f weak n inner ≡ x → IsReached x before after mid new r →
      IsReached (fate_with v rest) before after old new r
  tested_on n x r t e h =
      let given = tested_gives old mid n v t in
      let l = given.left in
      subst (λ y. IsReached y before after old new r) (sym (ap (λ y. fate_with y rest) given.is ∙ ap (λ y. more_fate given.units (more_fate 1 y)) e))
      (reached_more given.units (more_fate 1 x) before after old (mid + 1) new r (omega arith) (reached_more 1 x before after (mid + 1) mid new r refl h))

  pub watches_on : (n : ℤ) (r : Result Reach Halt) → AfterTest old mid (Ok n) v → n ≡ pos 0 → IsReached (fate_in f inner) before after mid new r →
      IsReached (fate_with v rest) before after old new r
  watches_on n r t z h = tested_on n (fate_in f inner) r t (pick weak) h
    where
      pick : (w : Bool) → fate_on f w n inner ≡ fate_in f inner
      pick true = ap (λ c. cond c (fate_in f inner) (fate_in frame.Last inner)) (is_zero_of n z)
      pick false = ap (λ c. cond c (fate_in f inner) (Reaches reach.Out [] 0)) (is_zero_of n z)

  pub lasts_on : (n : ℤ) (r : Result Reach Halt) → AfterTest old mid (Ok n) v → n ≢ pos 0 → weak ≡ true → IsReached (fate_in frame.Last inner) before after mid new r →
      IsReached (fate_with v rest) before after old new r
  lasts_on n r t z w h =
      tested_on n (fate_in frame.Last inner) r t
      (ap (λ x. fate_on f x n inner) w ∙ ap (λ c. cond c (fate_in f inner) (fate_in frame.Last inner)) (not_zero_of n z)) h

  pub goes_out : (n : ℤ) (r : Result Reach Halt) → AfterTest old mid (Ok n) v → n ≢ pos 0 → weak ≡ false → IsReached (Reaches reach.Out [] 0) before after mid new r →
      IsReached (fate_with v rest) before after old new r
  goes_out n r t z w h =
      tested_on n (Reaches reach.Out [] 0) r t
      (ap (λ x. fate_on f x n inner) w ∙ ap (λ c. cond c (fate_in f inner) (Reaches reach.Out [] 0)) (not_zero_of n z)) h

  rest_least : (n : ℤ) → 1 ≤ fate_units (rest n)
  rest_least n = let e = more_units_is 1 (fate_on f weak n inner) in omega arith

  pub test_fails : (h : Halt) → AfterTest old new (Err h) v → IsReached (fate_with v rest) before after old new (Err h)
  test_fails h t = by_value v h t
    where
      by_value : (v : Value) (h : Halt) → AfterTest old new (Err h) v → IsReached (fate_with v rest) before after old new (Err h)
      by_value (Gives n u) (Trapped place trap) t = let e : Gives n (u + 1) ≡ Raises place trap t.by.units = t.by.is in absurd (cc)
      by_value (Raises p q u) (Trapped place trap) t =
          let e : Raises p q u ≡ Raises place trap t.by.units = t.by.is in
          record { by = record { units = t.by.units; is = ap (λ x. fate_with x rest) e; left = t.by.left } }
      by_value (Gives n u) Over t = let l : old < u + 1 = t.by in record { by = omega (arith, more_units_is u (rest n), rest_least n) }
      by_value (Raises p q u) Over t = record { by = t.by }
      by_value v OutOfMemory t = record { by = tt }

-- ---- a thread that wakes

wakes_as : (k : PlainKernel) (uses : List ℕ) (t : Thread) (copies : List VarCopy) (old new u : ℕ) (R' : RunningText) (x : rust.Thread) →
    woken k uses t.words copies t.text ≡ Wakes R' u → plain_running_thread x ≡ record t { text = R'; copies = copies; status = plain.Running } → new + u ≡ old →
    WokenTo old new (Ok x) (woken_going k uses t copies)
wakes_as k uses t copies old new u R' x is same left =
    let whole : Woken → Going =
    λ r. record { thread = record { number = t.number; text = text_if t.text r; words = t.words; copies = copies; status = status_of r }; units = waking_units r } in
    subst (λ r. WokenTo old new (Ok x) (whole r)) (sym is) (record { by = (same, left) })

pub wakes_focus : (k : PlainKernel) (uses : List ℕ) (t : Thread) (copies : List VarCopy) (old mid new : ℕ) (fs gs : List Frame) (R : RunningText) (F : Focus) (x : rust.Thread) →
    t.text ≡ plugged fs R → IsReached (fate k uses t.words copies fs) [] gs old mid (Ok reach.Focus) →
    IsMetered waking_kind mid new (Ok F) (woken k uses t.words copies R) →
    plain_running_thread x ≡ record t { text = plugged gs (focused F); copies = copies; status = plain.Running } →
    WokenTo old new (Ok x) (woken_going k uses t copies)
wakes_focus k uses t copies old mid new fs gs R F x text h m same =
    let a = h.by.left in
    let b = m.by.left in
    wakes_as k uses t copies old new (h.by.units + m.by.units) (plugged gs (focused F)) x
    (ap (woken k uses t.words copies) text ∙ woken_fate k uses t.words copies fs R ∙ ap (λ y. by_fate R y (woken k uses t.words copies R)) h.by.is
    ∙ ap (by_fate R (Reaches reach.Focus h.by.frames h.by.units)) m.by.is
    ∙ ap (λ l. Wakes (plugged l (focused F)) (h.by.units + m.by.units)) (sym h.by.grown))
    same (omega arith)

focus_wakes : (k : PlainKernel) (uses : List ℕ) (w : List ℤ) (c : List VarCopy) (F : Focus) (place : Place) (trap : Trap) (u : ℕ) →
    woken k uses w c (focused F) ≡ Stays place trap u → ⊥
focus_wakes k uses w c focus.Done place trap u e = absurd (cc)
focus_wakes k uses w c (focus.Run s) place trap u e = absurd (cc)
focus_wakes k uses w c (focus.Turning turn) place trap u e = absurd (cc)
focus_wakes k uses w c focus.Resting place trap u e = absurd (cc)
focus_wakes k uses w c (focus.Fork' p cs) place trap u e = absurd (cc)
focus_wakes k uses w c (focus.Held' p cs) place trap u e = absurd (cc)

focus_units : (R : RunningText) (fs : List Frame) (u : ℕ) (inner : Woken) → waking_units (by_fate R (Reaches reach.Focus fs u) inner) ≡ u + waking_units inner
focus_units R fs u (Wakes R' v) = refl
focus_units R fs u (Stays place trap v) = refl

pub wakes_focus_err : (k : PlainKernel) (uses : List ℕ) (t : Thread) (copies : List VarCopy) (old mid new : ℕ) (fs gs : List Frame) (F : Focus) (h : Halt) →
    t.text ≡ plugged fs (focused F) → IsReached (fate k uses t.words copies fs) [] gs old mid (Ok reach.Focus) →
    IsMetered waking_kind mid new (Err h) (woken k uses t.words copies (focused F)) → WokenTo old new (Err h) (woken_going k uses t copies)
wakes_focus_err k uses t copies old mid new fs gs F (Trapped place trap) text r m = absurd (focus_wakes k uses t.words copies F place trap m.by.units m.by.is)
wakes_focus_err k uses t copies old mid new fs gs F Over text r m =
    let a = r.by.left in
    let b = m.by in
    let inner = woken k uses t.words copies (focused F) in
    let same = ap waking_units (ap (woken k uses t.words copies) text ∙ woken_fate k uses t.words copies fs (focused F) ∙ ap (λ y. by_fate (focused F) y inner) r.by.is)
    ∙ focus_units (focused F) r.by.frames r.by.units inner in
    record { by = omega arith }
wakes_focus_err k uses t copies old mid new fs gs F OutOfMemory text r m = record { by = tt }

pub wakes_last : (k : PlainKernel) (uses : List ℕ) (t : Thread) (copies : List VarCopy) (old new : ℕ) (fs gs : List Frame) (R : RunningText) (x : rust.Thread) →
    t.text ≡ plugged fs R → IsReached (fate k uses t.words copies fs) [] gs old new (Ok reach.Last) →
    plain_running_thread x ≡ record t { text = plugged gs R; copies = copies; status = plain.Running } →
    WokenTo old new (Ok x) (woken_going k uses t copies)
wakes_last k uses t copies old new fs gs R x text h same =
    wakes_as k uses t copies old new h.by.units (plugged gs R) x
    (ap (woken k uses t.words copies) text ∙ woken_fate k uses t.words copies fs R ∙ ap (λ y. by_fate R y (woken k uses t.words copies R)) h.by.is
    ∙ ap (λ l. Wakes (plugged l R) h.by.units) (sym h.by.grown))
    same h.by.left

pub wakes_out : (k : PlainKernel) (uses : List ℕ) (t : Thread) (copies : List VarCopy) (old new : ℕ) (fs gs : List Frame) (R : RunningText) (x : rust.Thread) →
    t.text ≡ plugged fs R → IsReached (fate k uses t.words copies fs) [] gs old new (Ok reach.Out) →
    plain_running_thread x ≡ record t { text = plugged gs Done; copies = copies; status = plain.Running } →
    WokenTo old new (Ok x) (woken_going k uses t copies)
wakes_out k uses t copies old new fs gs R x text h same =
    wakes_as k uses t copies old new h.by.units (plugged gs Done) x
    (ap (woken k uses t.words copies) text ∙ woken_fate k uses t.words copies fs R ∙ ap (λ y. by_fate R y (woken k uses t.words copies R)) h.by.is
    ∙ ap (λ l. Wakes (plugged l Done) h.by.units) (sym h.by.grown))
    same h.by.left

pub wakes_not : (k : PlainKernel) (uses : List ℕ) (t : Thread) (copies : List VarCopy) (old new : ℕ) (fs gs : List Frame) (R : RunningText) (place : Place) (trap : Trap) (x : rust.Thread) →
    t.text ≡ plugged fs R → IsReached (fate k uses t.words copies fs) [] gs old new (Err (Trapped place trap)) →
    plain_running_thread x ≡ record t { copies = copies; status = plain.Trapped place trap } →
    WokenTo old new (Ok x) (woken_going k uses t copies)
wakes_not k uses t copies old new fs gs R place trap x text h same =
    let whole : Woken → Going =
    λ r. record { thread = record { number = t.number; text = text_if t.text r; words = t.words; copies = copies; status = status_of r }; units = waking_units r } in
    let is : woken k uses t.words copies t.text ≡ Stays place trap h.by.units =
    ap (woken k uses t.words copies) text ∙ woken_fate k uses t.words copies fs R ∙ ap (λ y. by_fate R y (woken k uses t.words copies R)) h.by.is in
    subst (λ r. WokenTo old new (Ok x) (whole r)) (sym is) (record { by = (same, h.by.left) })

fate_least : (R : RunningText) (x : Fate) (inner : Woken) → fate_units x ≤ waking_units (by_fate R x inner)
fate_least R (Reaches reach.Focus fs u) (Wakes R' v) = omega arith
fate_least R (Reaches reach.Focus fs u) (Stays place trap v) = omega arith
fate_least R (Reaches reach.Last fs u) inner = omega arith
fate_least R (Reaches reach.Out fs u) inner = omega arith
fate_least R (Sticks place trap u) inner = omega arith

pub wakes_err : (k : PlainKernel) (uses : List ℕ) (t : Thread) (copies : List VarCopy) (old new : ℕ) (fs gs : List Frame) (R : RunningText) (h : Halt) →
    t.text ≡ plugged fs R → ((place : Place) (trap : Trap) → h ≡ Trapped place trap → ⊥) → IsReached (fate k uses t.words copies fs) [] gs old new (Err h) →
    WokenTo old new (Err h) (woken_going k uses t copies)
wakes_err k uses t copies old new fs gs R (Trapped place trap) text out h = absurd (out place trap refl)
wakes_err k uses t copies old new fs gs R Over text out h =
    let l = h.by in
    let least = fate_least R (fate k uses t.words copies fs) (woken k uses t.words copies R) in
    let same = ap waking_units (ap (woken k uses t.words copies) text ∙ woken_fate k uses t.words copies fs R) in
    record { by = omega arith }
wakes_err k uses t copies old new fs gs R OutOfMemory text out h = record { by = tt }
