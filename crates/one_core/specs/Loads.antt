-- Threads as they are made.
use Rattle.std.specs.Prelude.{ℕ, ◌≡◌, Option, Some, List, [], slice_get}
use Rattle.thread_code.specs.Plain.{PlainCode}
use Rattle.core_machine.specs.declared.thread.Thread.{Thread}
use Rattle.core_machine.specs.Threads.{Loaded, IsResting, StandsFor}

-- thread t, which was never started
pub record IsNewThread (c : PlainCode) (t : ℕ) (h : Thread) : Type 0 where
  pub loaded : Loaded c h
  pub number : h.number ≡ t
  pub resting : IsResting h
  pub stands : StandsFor c h []

-- such a thread is in each seat
abbrev pub AreNew : PlainCode → List (Option Thread) → Type 0
AreNew c threads = (t : ℕ) (s : Option Thread) → slice_get threads t ≡ Some s → (h : Thread) × (s ≡ Some h) × IsNewThread c t h
