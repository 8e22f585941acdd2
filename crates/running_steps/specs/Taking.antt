-- What a step of a thread's focus comes to.
use Rattle.std.specs.Prelude.{ℕ, List}
use Rattle.std.specs.declared.result.Result.{Result}
use Rattle.forec_kernel.specs.Texts as plain
use Rattle.forec_kernel.specs.Steps.{Move, thread_after}
use Rattle.running_texts.specs.declared.meter.Halt.{Halt}
use Rattle.running_threads.specs.declared.threads.Thread.{Thread}
use Rattle.running_threads.specs.Views.{plain_running_thread, focused}
use Rattle.running_threads.specs.Moves.{plugged_move}
use Rattle.running_steps.specs.declared.moving.Step.{Step}
use Rattle.running_steps.specs.Moving.{Origin, origin, IsMoved, IsThread, after_move}

-- what a step of a thread's focus sees
abbrev pub origin_of : List ℕ → Thread → Origin
origin_of uses t = origin uses t.words.items t.copies.items (focused t.focus)

-- a thread after a step of its focus
abbrev pub after_focus : Thread → Move → plain.Thread
after_focus t m = thread_after (plain_running_thread t) (plugged_move t.frames.items t.words.items t.copies.items m)

-- what a thread comes to, and what is answered, where a step of its focus has come to this
abbrev pub TakesStep : {A : Type 0} → List ℕ → Thread → Thread → Result Step Halt → Result A Halt → Type 0
TakesStep uses t now step result =
    (old new : ℕ) (m : Move) → IsMoved (origin_of uses t) old new step m →
    IsThread old new (plain_running_thread now) result (after_move (plain_running_thread t) (plugged_move t.frames.items t.words.items t.copies.items m))
