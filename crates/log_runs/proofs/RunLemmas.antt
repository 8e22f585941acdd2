-- Runs whose log is told.
use Rattle.std.specs.Bool.{⊤}
use Rattle.std.specs.Option.{IfSome}
use Rattle.std.proofs.Common.{◌≡◌, ◌<◌, ℕ, Bool, false, List, [], Option, unwrap_or, length, refl, sym, ap, subst, ◌∙◌}
use Rattle.forec_kernel.specs.Composed.{tick_jobs}
use Rattle.forec_kernel.specs.Engine.{Job}
use Rattle.forec_kernel.specs.Shapes.{PlainShape, PlainKernel}
use Rattle.forec_kernel.specs.Ticks.{Fresh}
use Rattle.copy_slots.specs.Ports.{ChildIs}
use Rattle.tick_jobs.specs.Ticks.{HasRun as Ran}
use Rattle.core_seats.specs.Posts.{HasPosted, HasPostedTaken}
use Rattle.core_host.specs.Hosted.{Hosted, code_of, IsWhole}
use Rattle.core_host.specs.Owned.{HasOwnPort}
use Rattle.core_host.specs.Runs.{HasJobs, HostHasRun}
use Rattle.exchange_log.specs.Posted.{log_in, TicksAreLogged}
use Rattle.log_writing.specs.Logging.{LogsItsTicks}
use Rattle.log_runs.specs.RunLogs.{IsLogReport, IsTraceLog, LogsRows, run_status}
use Rattle.log_runs.proofs.Pausing.{trace_pauses}
use Rattle.trace_ticks.specs.Ends.{IsOwn, ReadFor}
use Rattle.trace_ticks.specs.Following.{CodeFollows}
use Rattle.trace_ticks.specs.KernelNames.{run_format}
use Rattle.trace_ticks.specs.Led.{IsTold, RunsRows}
use Rattle.trace_ticks.specs.Prints.{Prints}
use Rattle.trace_ticks.specs.Report.{Report, trace_turns}
use Rattle.trace_ticks.specs.declared.format.Format.{Format}
use Rattle.trace_ticks.specs.declared.format.Telling.TheVariants as telling
use Rattle.trace_ticks.specs.declared.status.Status.{Status}
use Rattle.trace_ticks.specs.declared.status.Status.TheVariants as status
use Rattle.trace_ticks.proofs.Printing.{prints_as, prints_nothing, prints_unread, told_is}
use Rattle.trace_rows.specs.SourceReads.{none}

-- a run that was not begun
pub log_unrun : {S K : Type 0} (left : S → Option (List ℕ)) (faults : S → ℕ) (down : S → Bool) (held : K → Option (List ℕ)) (lost : K → ℕ) (is_down : K → Bool) (limit : ℕ) (k : PlainKernel) (budget : ℕ)
    (old new : S) (out out' : K) → new ≡ old → out' ≡ out → LogsRows left faults down held lost is_down limit k budget old new out out' status.NoMemory
log_unrun {S} {K} left faults down held lost is_down limit k budget old new out out' same kept = record {
  prints = prints_nothing held lost is_down _ _ _ _ _ out out' (rw kept refl);
  trace = subst (λ (t : S). ReadFor left faults down limit (run_format telling.Report k) k budget old t) (sym same) ([], none);
}

-- what went through a host's mailboxes is the log of its ticks
pub its_ticks : (h : Hosted) → HasOwnPort h → IsWhole h → ((jobs : List Job) → HasJobs h jobs → HasPosted (code_of h) 0 h.mail jobs) →
    ((k : ℕ) → k < length h.mail.ends → ChildIs h.mail k false → HasPostedTaken (code_of h) h.mail k) → TicksAreLogged → LogsItsTicks h
unfolding Ran
its_ticks h own whole root taken law k formed stands turns pauses run =
    law h own whole k formed stands turns pauses (root (tick_jobs k Fresh turns) (run k formed stands).jobs, taken)

-- ---- runs of which nothing was told yet

module _ {S K Q : Type 0} (left : S → Option (List ℕ)) (faults : S → ℕ) (down : S → Bool) (held : K → Option (List ℕ)) (lost : K → ℕ) (is_down : K → Bool)
    (shown : Q → Option (List ℕ)) (failed : Q → ℕ) (has_failed : Q → Bool) (rows limit : ℕ) (how : Format) (k : PlainKernel) (budget units : ℕ) (Parted : Type 0) (old new : S) (q q' : Q) (end : Status)
    (few : limit ≡ rows) (told : how ≡ run_format telling.Report k) (same : units ≡ budget)
    (ran : RunsRows left faults down shown failed has_failed limit how k units Parted old new q q' end) where
  abbrev At : ℕ → Format → ℕ → Type 0
  At n f b = RunsRows left faults down shown failed has_failed n f k b Parted old new q q' end

  runs : At rows (run_format telling.Report k) budget
  runs = subst (λ (b : ℕ). At rows (run_format telling.Report k) b) same (subst (λ (f : Format). At rows f units) told (subst (λ (n : ℕ). At n how units) few ran))

  abbrev Logs : K → K → Status → Type 0
  Logs out out' result = LogsRows left faults down held lost is_down rows k budget old new out out' result

  -- the trace couldn't be read
  pub log_unread : (out : K) → end ≡ status.ReadFault → Logs out out status.ReadFault
  log_unread out is =
      let u = runs.prints.read is in
      record { prints = prints_unread held lost is_down _ _ _ _ _ out out (u.0, (refl, u.1.0, u.1.2)); trace = runs.trace }

  -- the lines of the run, or its jobs, had no memory
  pub log_unkept : (out : K) → Logs out out status.NoMemory
  log_unkept out = record { prints = prints_nothing held lost is_down _ _ _ _ _ out out refl; trace = runs.trace }

  module _ (h : Hosted) (own : IsOwn end) (logs : LogsItsTicks h) (follows : IfSome (left old) (λ x. CodeFollows (code_of h) (HostHasRun h) k (trace_turns limit k units x))) where
    followed : IfSome (left old) (λ x. CodeFollows (code_of h) (HostHasRun h) k (trace_turns rows k budget x))
    followed =
        subst (λ (n : ℕ). IfSome (left old) (λ x. CodeFollows (code_of h) (HostHasRun h) k (trace_turns n k budget x))) few
        (subst (λ (b : ℕ). IfSome (left old) (λ x. CodeFollows (code_of h) (HostHasRun h) k (trace_turns limit k b x))) same follows)

    is_log : (t : IsTold (left old)) (r : Report) → IsLogReport (code_of h).shape (log_in h.mail) end r → IsTraceLog rows k budget (left old) r
    is_log t r is =
        let f = told_is (left old) (λ x. CodeFollows (code_of h) (HostHasRun h) k (trace_turns rows k budget x)) t.0 followed t.1 in
        let g = runs.prints.own own t in
        let read : t.0 ≡ g.1.0 = ap (λ (o : Option (List ℕ)). unwrap_or o []) (sym t.1 ∙ g.1.1) in
        let ends : end ≡ run_status rows k budget t.0 =
        g.2.status ∙ ap (λ (x : Report). x.status) g.1.2 ∙ ap (λ (b : List ℕ). run_status rows k budget b) (sym read) in (
          t.0,
          t.1,
          record {
            log = log_in h.mail;
            is = logs k f.formed f.stands (trace_turns rows k budget t.0) (trace_pauses rows k budget t.0) f.ran;
            tells = subst (λ (e : Status). IsLogReport k.shape (log_in h.mail) e r) ends (subst (λ (s : PlainShape). IsLogReport s (log_in h.mail) end r) f.stands.shape is);
          },
        )

    -- what was kept was told
    pub log_told : (out out' : K) (result : Status) → Prints held lost is_down ⊤ (IsLogReport (code_of h).shape (log_in h.mail) end) (end ≡ status.Usage) ⊥ ⊥ out out' result → Logs out out' result
    log_told out out' result p = record {
      prints = prints_as held lost is_down _ _ _ _ _ out out' _ _ _ _ _ result (λ t. tt) (λ t r is. is_log t r is) (λ e. runs.prints.usage e) (λ n. absurd n) (λ n. absurd n) p;
      trace = runs.trace;
    }
