-- Threads that were just made.
use Rattle.std.proofs.Common.{◌≡◌, ℕ, ◌<◌, true, Some, None, [], length, get_or, refl, sym, subst, arith}
use Rattle.std.specs.Prelude.{slice_get}
use Rattle.std.proofs.lemmas.Option.{slice_get-get_or}
use Rattle.forec_kernel.specs.Packed.{HasRoom}
use Rattle.thread_code.specs.Plain.{plain_code}
use Rattle.thread_code.specs.Valid.{of_shape, IsValidCode}
use Rattle.combine_tree.specs.declared.packet.Packet.{Packet}
use Rattle.combine_tree.specs.declared.packet.PacketKind.TheVariants as kind
use Rattle.combine_tree.specs.Plain.{plain_packet}
use Rattle.core_machine.specs.declared.thread.Thread.{Thread}
use Rattle.tick_jobs.specs.Ready.{IsReady}
use Rattle.tick_jobs.specs.Ticks.{HasRun, RanNone}
use Rattle.one_core.specs.Loads.{AreNew, IsNewThread}
use Rattle.one_core.specs.Seats.{Seated, HoldsThread}
use Rattle.tick_jobs.specs.Told.{Book}
use Rattle.one_core.specs.Told.{HasDoneByBook}
use Rattle.one_core.specs.Resting.{none, Rests, AllRestAfter}
use Rattle.one_core.specs.Single.{single, IsSingle, single_ticking}

module _ (v : Seated) (valid : IsValidCode (plain_code v.code)) (count : length v.threads ≡ length (plain_code v.code).threads) (each : AreNew (plain_code v.code) v.threads)
    (root : Packet) (room : HasRoom (of_shape (plain_code v.code).shape) 0 (plain_packet root)) (is_blank : root.kind ≡ kind.Blank) where
  record NewThread (t : ℕ) : Type 0 where
    thread : Thread
    sits : HoldsThread v t thread
    new : IsNewThread (plain_code v.code) t thread

  thread_at : (t : ℕ) → t < length (plain_code v.code).threads → NewThread t
  thread_at t lt =
      let s = get_or v.threads t None in
      let at : slice_get v.threads t ≡ Some s = slice_get-get_or v.threads t None (omega (arith, lt, count)) in
      let n = each t s at in
      record {
        thread = n.0;
        sits = record { at = subst (λ x. slice_get v.threads t ≡ Some x) n.1 at; loaded = n.2.loaded; number = n.2.number };
        new = n.2;
      }

  -- nothing was told to anyone
  abbrev no_book : Book
  no_book t = []

  new_done : (t : ℕ) (n : NewThread t) → HasDoneByBook (plain_code v.code) n.thread no_book []
  new_done t n = record {
    exchanges = [];
    outputs = [];
    stands = n.new.stands;
    jobs_are = refl;
    runs = tt;
    complete = tt;
    posts = record { above = tt; allowed = tt; jobs = λ k mine. refl };
  }

  new_rests : (t : ℕ) → t < length v.threads → Rests v no_book t
  new_rests t lt =
      let n = thread_at t (omega (arith, lt, count)) in record { thread = n.thread; sits = n.sits; resting = n.new.resting; done = new_done t n; last = none refl }

  new_worked : AllRestAfter v []
  new_worked =
      let r = new_rests 0 (omega (arith, count, valid.shape.some, valid.threads)) in
      record { book = no_book; above = λ j less lt. new_rests j lt; thread = r.thread; sits = r.sits; resting = r.resting; done = r.done }

  pub new_single : IsSingle (single v root true)
  new_single = record {
    fitted = record { valid = valid; seats = count };
    worked = ([], new_worked);
    room = room;
    ready = λ e t sits. subst (IsReady t) (sym is_blank) tt;
  }

  pub ran_none : RanNone (single_ticking (single v root true))
  unfolding HasRun
  ran_none = record {
    live = refl;
    blank = is_blank;
    turns = λ k fine stands. record { jobs = record { fit = tt; worked = new_worked }; keeps = λ e. is_blank };
    jobs = record { fit = tt; worked = new_worked };
  }
