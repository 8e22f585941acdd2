-- Steps of a text inside frames.
use Rattle.std.specs.Prelude.{◌≡◌, ℤ, Option, Some, None, List, [], ◌∷◌}
use Rattle.forec_kernel.specs.declared.shape.VarCopy.{VarCopy}
use Rattle.forec_kernel.specs.Plain.{expr, stmt, stmts}
use Rattle.forec_kernel.specs.Texts as plain
use Rattle.forec_kernel.specs.Texts.{text_of, texts_of, Threads, no_threads, child, ended_is_gone}
use Rattle.forec_kernel.specs.Steps.{Move, Finished, Halts, Moves, move_before, move_watched, move_last}
use Rattle.running_threads.specs.declared.threads.Frame.{Frame}
use Rattle.running_threads.specs.declared.threads.Frame.TheVariants as frame
use Rattle.running_threads.specs.declared.threads.Focus.{Focus}
use Rattle.running_threads.specs.declared.frames.NextText.{NextText}
use Rattle.running_threads.specs.declared.frames.NextText.TheVariants as next
use Rattle.running_threads.specs.Views.{plain_loop, plugged, focused, threads}

-- a step of a text, seen from outside its frame
abbrev pub framed_move : Frame → List ℤ → List VarCopy → Move → Move
framed_move (frame.Rest list) w c m = move_before (plain.Go_on (stmts list.now)) w c m
framed_move (frame.Again turn) w c m = move_before (plain.Again (plain_loop turn)) w c m
framed_move (frame.Watch weak e) w c m = move_watched weak (expr e.now) w c m
framed_move frame.Last w c m = move_last w c m

-- a step of a text, seen from outside its frames, the outermost first
abbrev pub plugged_move : List Frame → List ℤ → List VarCopy → Move → Move
plugged_move [] w c m = m
plugged_move (f ∷ fs) w c m = framed_move f w c (plugged_move fs w c m)

-- a text that halts leaves the last piece of a weak abort: its frames, before and after
abbrev pub LeavesLast : List Frame → List Frame → Type 0
LeavesLast old new = (w : List ℤ) (c : List VarCopy) → plugged_move old w c Halts ≡ Moves (plugged new plain.Done) w c 0

-- a text that halts inside these frames is in no last piece
abbrev pub HasNoLast : List Frame → Type 0
HasNoLast frames = (w : List ℤ) (c : List VarCopy) → plugged_move frames w c Halts ≡ Halts

-- the text after a text that has nothing left to do: the innermost frame is left, if there is one
abbrev pub ResumesAs : List Frame → List Frame → Option Focus → Type 0
ResumesAs old new None = (old ≡ []) × (new ≡ [])
ResumesAs old new (Some F) =
    (w : List ℤ) (c : List VarCopy) → plugged_move old w c Finished ≡ Moves (plugged new (focused F)) w c 0

pub record Resumes (old new : List Frame) (result : Option Focus) : Type 0 where
  pub by : ResumesAs old new result

-- what takes the place of a focus
abbrev pub next_text : NextText → plain.RunningText
next_text next.Done = plain.Done
next_text next.Rests = plain.Resting
next_text (next.Does s) = text_of (stmt s.now)
next_text (next.DoesAll list) = texts_of (stmts list.now)
next_text (next.Turns turn) = plain.Turning (plain_loop turn)
next_text (next.Enters turn) = plain.Then (text_of (stmt turn.body.now)) (plain.Again (plain_loop turn))
next_text (next.Watches weak e body) = plain.Watch weak (expr e.now) (text_of (stmt body.now))
next_text (next.Lasts body) = plain.Last (text_of (stmt body.now))
next_text (next.Forks cs) = plain.Fork (threads cs)

-- the first child, if it ended, is gone
abbrev pub first_is_gone : Threads → Threads
first_is_gone no_threads = no_threads
first_is_gone (child t R w c st rest) = child t R w c (ended_is_gone st) rest
