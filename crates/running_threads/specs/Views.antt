-- Threads in Rust as plain ones.
use Rattle.std.specs.Prelude.{List, [], ◌∷◌}
use Rattle.forec_kernel.specs.Plain.{expr, stmt, stmts}
use Rattle.forec_kernel.specs.Texts as plain
use Rattle.forec_kernel.specs.Texts.{Threads, no_threads, child}
use Rattle.running_threads.specs.declared.threads.Turn.{Turn}
use Rattle.running_threads.specs.declared.threads.Frame.{Frame}
use Rattle.running_threads.specs.declared.threads.Frame.TheVariants as frame
use Rattle.running_threads.specs.declared.threads.Status.{Status}
use Rattle.running_threads.specs.declared.threads.Status.TheVariants as stands
use Rattle.running_threads.specs.declared.threads.Focus.{Focus, Done, Run, Turning, Resting, Fork', Held'}
use Rattle.running_threads.specs.declared.threads.Thread.{Thread}
use Rattle.running_threads.specs.declared.threads.Children.{Children, Nobody, Child'}

abbrev pub plain_loop : Turn → plain.Loop
plain_loop t = record { test = expr t.test.now; bound = t.bound; left = t.left; body = stmt t.body.now; place = t.place }

abbrev pub plain_status : Status → plain.Status
plain_status stands.Running = plain.Running
plain_status stands.Paused = plain.Paused
plain_status stands.Ended = plain.Ended
plain_status stands.Gone = plain.Gone
plain_status (stands.Trapped place trap) = plain.Trapped place trap

-- a text inside a frame
abbrev pub framed : Frame → plain.RunningText → plain.RunningText
framed (frame.Rest list) R = plain.Then R (plain.Go_on (stmts list.now))
framed (frame.Again turn) R = plain.Then R (plain.Again (plain_loop turn))
framed (frame.Watch weak e) R = plain.Watch weak (expr e.now) R
framed frame.Last R = plain.Last R

-- a text inside frames, the outermost first
abbrev pub plugged : List Frame → plain.RunningText → plain.RunningText
plugged [] R = R
plugged (f ∷ fs) R = framed f (plugged fs R)

abbrev mutual
  pub focused : Focus → plain.RunningText
  focused Done = plain.Done
  focused (Run s) = plain.Run (stmt s.now)
  focused (Turning turn) = plain.Turning (plain_loop turn)
  focused Resting = plain.Resting
  focused (Fork' p cs) = plain.Fork (threads cs)
  focused (Held' p cs) = plain.Held (threads cs)

  pub threads : Children → Threads
  threads Nobody = no_threads
  threads (Child' t fs F w c st q rest) = child t (plugged fs.items (focused F)) w.items c.items (plain_status st) (threads rest)

abbrev pub plain_running_thread : Thread → plain.Thread
plain_running_thread t =
    record { number = t.number; text = plugged t.frames.items (focused t.focus); words = t.words.items; copies = t.copies.items; status = plain_status t.status }
