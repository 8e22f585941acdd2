-- Waking a text inside frames.
use Rattle.std.specs.Prelude.{ℕ, ◌<◌, ◌≡◌, ◌+◌, ℤ, Bool, true, false, cond, List, [], ◌∷◌, ◌++◌}
use Rattle.std.specs.declared.result.Result.{Result}
use Rattle.std.specs.declared.result.Result.TheVariants.{Ok, Err}
use Rattle.forec_base.specs.Numbers.{is_zero}
use Rattle.forec_base.specs.declared.Place.{Place}
use Rattle.forec_base.specs.declared.Trap.{Trap}
use Rattle.forec_kernel.specs.declared.shape.VarCopy.{VarCopy}
use Rattle.forec_kernel.specs.Plain.{expr}
use Rattle.forec_kernel.specs.declared.shape.KernelParts.{KernelParts}
use Rattle.forec_kernel.specs.Shapes.{PlainKernel, plain_kernel}
use Rattle.forec_kernel.specs.Values.{Value, Gives, Raises}
use Rattle.forec_kernel.specs.Texts as plain
use Rattle.forec_kernel.specs.Steps.{Woken, Wakes, Stays, waking_units, woken, text_if, status_of, evaluated, SteppedChildren}
use Rattle.forec_kernel.specs.Ticks.{Going}
use Rattle.running_texts.specs.declared.meter.Halt.{Halt}
use Rattle.running_texts.specs.declared.meter.Halt.TheVariants.{Trapped, Over, OutOfMemory}
use Rattle.running_texts.specs.declared.evaluation.ThreadValues.{ThreadValues}
use Rattle.running_texts.specs.Metered.{Paid, ResultKind}
use Rattle.running_threads.specs.declared.threads.Frame.{Frame}
use Rattle.running_threads.specs.declared.threads.Frame.TheVariants as frame
use Rattle.running_threads.specs.declared.threads.Focus.{Focus}
use Rattle.running_threads.specs.declared.threads.Thread.{Thread}
use Rattle.running_threads.specs.declared.threads.Children.{Children}
use Rattle.running_threads.specs.Views.{plugged, focused, threads, plain_running_thread}
use Rattle.running_steps.specs.declared.wakes.Reach.{Reach}
use Rattle.running_steps.specs.declared.wakes.Reach.TheVariants as reach

-- what becomes of the frames of a text that wakes: these, to so far; or a test traps
pub data Fate : Type 0 where
  Reaches : (to : Reach) → (frames : List Frame) → (units : ℕ) → Fate
  Sticks : (place : Place) → (trap : Trap) → (units : ℕ) → Fate

abbrev pub fate_units : Fate → ℕ
fate_units (Reaches to fs u) = u
fate_units (Sticks place trap u) = u

abbrev pub more_fate : ℕ → Fate → Fate
more_fate u (Reaches to fs v) = Reaches to fs (u + v)
more_fate u (Sticks place trap v) = Sticks place trap (u + v)

abbrev pub fate_in : Frame → Fate → Fate
fate_in f (Reaches to fs u) = Reaches to (f ∷ fs) u
fate_in f (Sticks place trap u) = Sticks place trap u

abbrev pub fate_with : Value → (ℤ → Fate) → Fate
fate_with (Gives n u) go = more_fate u (go n)
fate_with (Raises place trap u) go = Sticks place trap u

-- an abort whose test has given a number
abbrev pub fate_on : Frame → Bool → ℤ → Fate → Fate
fate_on f false n inner = cond (is_zero n) (fate_in f inner) (Reaches reach.Out [] 0)
fate_on f true n inner = cond (is_zero n) (fate_in f inner) (fate_in frame.Last inner)

abbrev pub fate : PlainKernel → List ℕ → List ℤ → List VarCopy → List Frame → Fate
fate k uses w c [] = Reaches reach.Focus [] 0
fate k uses w c (frame.Rest list ∷ fs) = fate_in (frame.Rest list) (fate k uses w c fs)
fate k uses w c (frame.Again turn ∷ fs) = fate_in (frame.Again (record turn { left = turn.bound })) (fate k uses w c fs)
fate k uses w c (frame.Watch weak e ∷ fs) =
    fate_with (evaluated (record { kernel = k; uses = uses }) w c (expr e.now)) (λ n.
    more_fate 1 (fate_on (frame.Watch weak e) weak n (fate k uses w c fs)))
fate k uses w c (frame.Last ∷ fs) = Reaches reach.Last (frame.Last ∷ fs) 0

abbrev pub fate_in_thread : KernelParts → ThreadValues → List Frame → Fate
fate_in_thread k v fs = fate (plain_kernel k) v.uses.now v.words.now v.copies.now fs

pub record ReachedTo (f : Fate) (before after : List Frame) (old new : ℕ) (to : Reach) : Type 0 where
  pub frames : List Frame
  pub units : ℕ
  pub is : f ≡ Reaches to frames units
  pub grown : after ≡ before ++ frames
  pub left : new + units ≡ old

abbrev pub ReachedBy : Fate → List Frame → List Frame → ℕ → ℕ → Result Reach Halt → Type 0
ReachedBy f before after old new (Ok to) = ReachedTo f before after old new to
ReachedBy f before after old new (Err (Trapped place trap)) = Paid old new f (Sticks place trap)
ReachedBy f before after old new (Err Over) = old < fate_units f
ReachedBy f before after old new (Err OutOfMemory) = Unit {0}

pub record IsReached (f : Fate) (before after : List Frame) (old new : ℕ) (result : Result Reach Halt) : Type 0 where
  pub by : ReachedBy f before after old new result

-- ---- a focus, a thread, children

abbrev pub waking_kind : ResultKind Focus Woken
waking_kind = record { gives = λ F u. Wakes (focused F) u; stops = Stays; units = waking_units }

-- a thread that runs on, with another text and other copies
abbrev pub awake : plain.Thread → plain.RunningText → List VarCopy → plain.Thread
awake t R copies = record t { text = R; copies = copies; status = plain.Running }

-- a thread that wakes with these copies
abbrev pub woken_going : PlainKernel → List ℕ → plain.Thread → List VarCopy → Going
woken_going k uses t copies =
    let r = woken k uses t.words copies t.text in
    record {
      thread = record { number = t.number; text = text_if t.text r; words = t.words; copies = copies; status = status_of r };
      units = waking_units r;
    }

abbrev pub WokenBy : ℕ → ℕ → Result Thread Halt → Going → Type 0
WokenBy old new (Ok t) g = (plain_running_thread t ≡ g.thread) × (new + g.units ≡ old)
WokenBy old new (Err (Trapped place trap)) g = ⊥
WokenBy old new (Err Over) g = old < g.units
WokenBy old new (Err OutOfMemory) g = Unit {0}

pub record WokenTo (old new : ℕ) (result : Result Thread Halt) (g : Going) : Type 0 where
  pub by : WokenBy old new result g

abbrev pub AwokenBy : ℕ → ℕ → Result Children Halt → SteppedChildren → Type 0
AwokenBy old new (Ok cs) s = (threads cs ≡ s.children) × (new + s.units ≡ old)
AwokenBy old new (Err (Trapped place trap)) s = ⊥
AwokenBy old new (Err Over) s = old < s.units
AwokenBy old new (Err OutOfMemory) s = Unit {0}

pub record AreWoken (old new : ℕ) (result : Result Children Halt) (s : SteppedChildren) : Type 0 where
  pub by : AwokenBy old new result s
