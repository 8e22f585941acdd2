-- The threads of a code in their seats.
use Rattle.std.specs.Prelude.{ℕ, ◌≡◌, ◌<◌, Option, Some, List, length, slice_get}
use Rattle.thread_code.specs.declared.instruction.CodeParts.{CodeParts}
use Rattle.thread_code.specs.Plain.{PlainCode, plain_code}
use Rattle.thread_code.specs.Valid.{IsValidCode}
use Rattle.core_machine.specs.declared.thread.Thread.{Thread}
use Rattle.core_machine.specs.Threads.{Loaded}

-- `threads`: at t, thread number t; None while it is at work
pub record Seated : Type 0 where
  pub code : CodeParts
  pub threads : List (Option Thread)

abbrev pub seated_code : Seated → PlainCode
seated_code s = plain_code s.code

-- each thread of the code has a seat
pub record HasAllSeats (s : Seated) : Type 0 where
  pub valid : IsValidCode (seated_code s)
  pub seats : length s.threads ≡ length (seated_code s).threads

-- the thread sits in its seat
pub record HoldsThread (s : Seated) (t : ℕ) (h : Thread) : Type 0 where
  pub at : slice_get s.threads t ≡ Some (Some h)
  pub loaded : Loaded (seated_code s) h
  pub number : h.number ≡ t

-- the code is the same, and so are the seats below that of thread t
pub record KeepsSeatsBelow (t : ℕ) (a b : Seated) : Type 0 where
  pub code : b.code ≡ a.code
  pub count : length b.threads ≡ length a.threads
  pub seats : (j : ℕ) → j < t → slice_get b.threads j ≡ slice_get a.threads j
