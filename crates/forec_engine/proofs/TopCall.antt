-- What words print.
use Rattle.std.proofs.Common.{◌≡◌, ◌⊎◌, inl, inr, ℕ, Bool, List, Option, Some, None}
use Rattle.forec_base.specs.Outside.{Fell}
use Rattle.command_words.specs.Requests.{PlainRunning, PlainCommand, OnText, OnWorkload, OnDump, OnLog, OnReplay, request_of, OnTraces}
use Rattle.workload.specs.Text.{workload_text}
use Rattle.forec_engine.specs.Answers.{AnswersNamed, AnswersWords}
use Rattle.forec_engine.specs.Commands.{IsReport, Of_usage, Of_text, Of_workload, Of_dump, WorkloadReport, IsKnown, usage, Of_farm, Of_log, Of_replay}
use Rattle.forec_engine.specs.Dumps.{DumpReport}
use Rattle.forec_engine.specs.Ends.{WantedByWords, Wanted_by_run, Wanted_by_log, Wanted_by_replay, ReadForWords, Read_for_run, Read_for_log, Read_for_replay, AcceptedSo, IsMisuse, Asks_nothing, Misuses, Misuses_workload, NameText, AskForRewriting, Misuses_farm, Misuses_log, Misuses_replay}
use Rattle.forec_engine.specs.Budgets.{IsBoundless}
use Rattle.forec_engine.specs.Farms.{TellsFarm}
use Rattle.forec_engine.specs.Farming.{IsNamedFarm}
use Rattle.forec_engine.specs.Logging.{LogsNamed}
use Rattle.forec_engine.specs.Placing.{IsRefusedRun}
use Rattle.forec_engine.specs.Replaying.{ReplaysNamed}
use Rattle.command_words.specs.declared.request.Budget.{Budget}
use Rattle.std.specs.Option.{IfSome}
use Rattle.trace_ticks.specs.Ends.{IsOwn}
use Rattle.trace_ticks.specs.Prints.{Prints, PrintsReport}
use Rattle.trace_ticks.specs.declared.status.Status.{Status}
use Rattle.trace_ticks.specs.declared.status.Status.TheVariants as status
use Rattle.trace_ticks.proofs.EndLemmas.{neither_fault}
use Rattle.trace_ticks.proofs.Printing.{prints_as}

module _ {S K : Type 0} (left : S → Option (List ℕ)) (faults : S → ℕ) (down : S → Bool) (held : K → Option (List ℕ)) (lost : K → ℕ) (is_down : K → Bool) (words : List (List ℕ)) (content : List ℕ → Option (List ℕ)) (Lost : Type 0)
    (old new : S) (out out' : K) where
  abbrev Unread : Type 0
  Unread = (Lost × (held out' ≡ held out)) ⊎ (Fell (faults old) (faults new) (down new) × WantedByWords words content (left old) (left new) (held out) (held out'))

  abbrev pub WordsPrint : Status → Type 0
  WordsPrint end = Prints held lost is_down (IsKnown words content (left old)) (IsReport words content (left old)) (IsMisuse words content) Unread (AskForRewriting words) out out' end

  pub words_text : (name : List ℕ) (command : PlainCommand) (fold : Bool) (end : Status) → request_of words ≡ Some (OnText name command fold) →
      AnswersNamed left faults down held lost is_down command fold content name Lost old new out out' end → WordsPrint end
  words_text name command fold end request p =
      prints_as held lost is_down _ _ _ _ _ out out' _ _ _ _ _ end (λ told. told.text name command fold request) (λ told r is. Of_text name command fold is.0 request is.1 is.2)
      (λ m. Misuses name command fold request m) (λ u. elim u [ inl store ↦ inl store | inr r ↦ inr (r.2.0, Wanted_by_run r.0 name command fold request r.1 r.2.1) ])
      (λ m. (name, command, fold, request, m)) p.prints

  pub words_trace : (name : List ℕ) (command : PlainCommand) (fold : Bool) (end : Status) → request_of words ≡ Some (OnText name command fold) →
      AnswersNamed left faults down held lost is_down command fold content name Lost old new out out' end → (new ≡ old) ⊎ ReadForWords left faults down words content old new
  words_trace name command fold end request p = elim p.trace [ inl same ↦ inl same | inr r ↦ inr (Read_for_run r.0 name command fold request r.1 r.2) ]

  pub words_workload : (threads : ℕ) (running : PlainRunning) (end : Status) → request_of words ≡ Some (OnWorkload threads running) →
      Prints held lost is_down Unit (WorkloadReport threads running) (AcceptedSo (λ k. IsRefusedRun k running) (workload_text threads)) ⊥ ⊥ out out' end → WordsPrint end
  words_workload threads running end request p =
      prints_as held lost is_down _ _ _ _ _ out out' _ _ _ _ _ end (λ told. tt) (λ told r is. Of_workload threads running request is) (λ m. Misuses_workload threads running request m) (λ n. absurd n) (λ n. absurd n) p

  pub words_farm : (name : List ℕ) (traces : List (List ℕ)) (b : Budget) (end : Status) → request_of words ≡ Some (OnTraces name traces b) →
      Prints held lost is_down (TellsFarm content name traces) (IsNamedFarm content name traces b) (IfSome (content name) (AcceptedSo (λ k. IsBoundless k b))) (Lost × (held out' ≡ held out)) ⊥ out out' end → WordsPrint end
  words_farm name traces b end request p =
      prints_as held lost is_down _ _ _ _ _ out out' _ _ _ _ _ end (λ told. told.farm name traces b request) (λ told r is. Of_farm name traces b is.0 request is.1 is.2)
      (λ m. Misuses_farm name traces b request m) (λ u. inl u) (λ n. absurd n) p

  pub words_log : (name : List ℕ) (running : PlainRunning) (end : Status) → request_of words ≡ Some (OnLog name running) →
      LogsNamed left faults down held lost is_down running content name Lost old new out out' end → WordsPrint end
  words_log name running end request p =
      prints_as held lost is_down _ _ _ _ _ out out' _ _ _ _ _ end (λ told. told.log name running request) (λ told r is. Of_log name running is.0 request is.1 is.2)
      (λ m. Misuses_log name running request m) (λ u. elim u [ inl store ↦ inl store | inr w ↦ inr (w.0, Wanted_by_log running name request w.1) ])
      (λ n. absurd n) p.prints

  pub words_log_trace : (name : List ℕ) (running : PlainRunning) (end : Status) → request_of words ≡ Some (OnLog name running) →
      LogsNamed left faults down held lost is_down running content name Lost old new out out' end → (new ≡ old) ⊎ ReadForWords left faults down words content old new
  words_log_trace name running end request p = elim p.trace [ inl same ↦ inl same | inr r ↦ inr (Read_for_log running name request r) ]

  pub words_replay : (name log : List ℕ) (b : Budget) (end : Status) → request_of words ≡ Some (OnReplay name log b) →
      ReplaysNamed left faults down held lost is_down content log b Lost name old new out out' end → WordsPrint end
  words_replay name log b end request p =
      prints_as held lost is_down _ _ _ _ _ out out' _ _ _ _ _ end (λ told. told.replay name log b request) (λ told r is. Of_replay name log b is.0 request is.1 is.2)
      (λ m. Misuses_replay name log b request m) (λ u. elim u [ inl store ↦ inl store | inr w ↦ inr (w.0, Wanted_by_replay name log b request w.1) ])
      (λ n. absurd n) p.prints

  pub words_replay_trace : (name log : List ℕ) (b : Budget) (end : Status) → request_of words ≡ Some (OnReplay name log b) →
      ReplaysNamed left faults down held lost is_down content log b Lost name old new out out' end → (new ≡ old) ⊎ ReadForWords left faults down words content old new
  words_replay_trace name log b end request p = elim p.trace [ inl same ↦ inl same | inr r ↦ inr (Read_for_replay name log b request r) ]

  pub words_dump : (name : List ℕ) (end : Status) → request_of words ≡ Some (OnDump name) →
      Prints held lost is_down ((text : List ℕ) × (content name ≡ Some text)) (DumpReport content name) ⊥ (Lost × (held out' ≡ held out)) ⊥ out out' end → WordsPrint end
  words_dump name end request p =
      prints_as held lost is_down _ _ _ _ _ out out' _ _ _ _ _ end (λ told. told.dump name request) (λ told r is. Of_dump name request is) (λ n. absurd n) (λ store. inl store) (λ n. absurd n) p

  pub words_nothing : (end : Status) (Misused : Type 0) → request_of words ≡ None → PrintsReport held lost is_down usage Misused out out' end → WordsPrint end
  words_nothing end Misused none p =
      prints_as held lost is_down _ _ _ _ _ out out' _ _ _ _ _ end (λ told. tt) (λ told r is. Of_usage none is) (λ m. Asks_nothing none) (λ n. absurd n) (λ n. absurd n) p

  -- where no count rises
  pub words_complete : (end : Status) → WordsPrint end → (Lost → ⊥) → (Fell (faults old) (faults new) (down new) → ⊥) → (Fell (lost out) (lost out') (is_down out') → ⊥) → IsOwn end ⊎ (end ≡ status.NoMemory)
  words_complete end p kept read written =
      neither_fault end (λ e. elim (p.read e) [ inl store ↦ kept store.0 | inr r ↦ read r.0 ]) (λ e. written (p.write e).0)

-- what the words ask was done, where it prints so
pub answers_words : {T S K : Type 0} (content : T → List ℕ → Option (List ℕ)) (missed : T → ℕ) (gone : T → Bool) (left : S → Option (List ℕ)) (faults : S → ℕ) (down : S → Bool) (held : K → Option (List ℕ)) (lost : K → ℕ) (is_down : K → Bool)
    (words : List (List ℕ)) (store store' : T) (old new : S) (out out' : K) (end : Status) →
    WordsPrint left faults down held lost is_down words (content store) (Fell (missed store) (missed store') (gone store')) old new out out' end →
    (store' ≡ store) ⊎ NameText words → (new ≡ old) ⊎ ReadForWords left faults down words (content store) old new →
    AnswersWords content missed gone left faults down held lost is_down words store store' old new out out' end
answers_words content missed gone left faults down held lost is_down words store store' old new out out' end p texts trace = record {
  own = p.own;
  read = p.read;
  write = p.write;
  trace = trace;
  texts = texts;
  memory = p.memory;
  usage = p.usage;
  complete = λ f g h. words_complete left faults down held lost is_down words (content store) (Fell (missed store) (missed store') (gone store')) old new out out' end p (λ x. f x.rose) (λ x. g x.rose) (λ x. h x.rose);
}
