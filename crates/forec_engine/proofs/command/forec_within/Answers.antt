use Rattle.std.proofs.Common.{[], ◌∷◌, arith, inl, inr, ℕ, get_or, List, [], Bor, All, map, string_bytes, refl, sym, subst}
use Rattle.forec_base.specs.Outside.{Fell}
use Rattle.command_words.specs.Requests.{OnText, OnWorkload, OnDump, OnLog, OnReplay, plain_command, plain_running, OnTraces}
use Rattle.forec_engine.proofs.Bounds.{ranges}
use Rattle.forec_engine.proofs.TopCall.{answers_words, words_text, words_trace, words_workload, words_dump, words_nothing, words_farm, words_log, words_log_trace, words_replay, words_replay_trace}
use Rattle.forec_engine.proofs.FarmPieces.{each_name, named_first, named_later}
use Rattle.forec_engine.proofs.command.forec_within.Goals as goal

-- ---- the text that the words name

pub returns-in-Ok-Text : goal.returns-in-Ok-Text
returns-in-Ok-Text g c =
    answers_words g.T.Texts.content g.T.Texts.faults g.T.Texts.down g.S.Source.left g.S.Source.faults g.S.Source.down g.K.Sink.held g.K.Sink.faults g.K.Sink.down (map string_bytes c.args.words.now) c.args.texts.now c.run_named.new.texts c.args.trace.now c.run_named.new.trace c.args.out.now c.run_named.new.out c.run_named.result
    (words_text g.S.Source.left g.S.Source.faults g.S.Source.down g.K.Sink.held g.K.Sink.faults g.K.Sink.down (map string_bytes c.args.words.now) (g.T.Texts.content c.args.texts.now) (Fell (g.T.Texts.faults c.args.texts.now) (g.T.Texts.faults c.run_named.new.texts) (g.T.Texts.down c.run_named.new.texts)) c.args.trace.now c.run_named.new.trace c.args.out.now c.run_named.new.out c.in-Ok-Text.program.now (plain_command c.in-Ok-Text.command) c.in-Ok-Text.fold c.run_named.result (rw c.in-Ok-Text.field-0-is at c.in-Ok-Text.ensures.request) c.run_named.ensures)
    (inr (c.in-Ok-Text.program.now, record { request = OnText c.in-Ok-Text.program.now (plain_command c.in-Ok-Text.command) c.in-Ok-Text.fold; asks = (rw c.in-Ok-Text.field-0-is at c.in-Ok-Text.ensures.request); names = named_first c.in-Ok-Text.program.now [] }))
    (words_trace g.S.Source.left g.S.Source.faults g.S.Source.down g.K.Sink.held g.K.Sink.faults g.K.Sink.down (map string_bytes c.args.words.now) (g.T.Texts.content c.args.texts.now) (Fell (g.T.Texts.faults c.args.texts.now) (g.T.Texts.faults c.run_named.new.texts) (g.T.Texts.down c.run_named.new.texts)) c.args.trace.now c.run_named.new.trace c.args.out.now c.run_named.new.out c.in-Ok-Text.program.now (plain_command c.in-Ok-Text.command) c.in-Ok-Text.fold c.run_named.result (rw c.in-Ok-Text.field-0-is at c.in-Ok-Text.ensures.request) c.run_named.ensures)

pub run_named-requires-clause-ranges : goal.run_named-requires-clause-ranges
run_named-requires-clause-ranges g c = λ κs within.
    ranges (map string_bytes c.args.words.now) (OnText c.in-Ok-Text.program.now (plain_command c.in-Ok-Text.command) c.in-Ok-Text.fold) (rw c.in-Ok-Text.field-0-is at c.in-Ok-Text.ensures.request)

pub run_named-requires-clause-may : goal.run_named-requires-clause-may
run_named-requires-clause-may g c = λ κs within.
    c.requires.may c.in-Ok-Text.program.now (record {
      request = OnText c.in-Ok-Text.program.now (plain_command c.in-Ok-Text.command) c.in-Ok-Text.fold;
      asks = (rw c.in-Ok-Text.field-0-is at c.in-Ok-Text.ensures.request);
      names = named_first c.in-Ok-Text.program.now [];
    })

-- ---- a dump

pub tell_named-requires : goal.tell_named-requires
tell_named-requires g c = record {
  may = c.requires.may c.in-Ok-Dump.dump.now (record { request = OnDump c.in-Ok-Dump.dump.now; asks = (rw c.in-Ok-Dump.field-0-is at c.in-Ok-Dump.ensures.request); names = named_first c.in-Ok-Dump.dump.now [] });
}

pub returns-in-Ok-Dump : goal.returns-in-Ok-Dump
returns-in-Ok-Dump g c =
    answers_words g.T.Texts.content g.T.Texts.faults g.T.Texts.down g.S.Source.left g.S.Source.faults g.S.Source.down g.K.Sink.held g.K.Sink.faults g.K.Sink.down (map string_bytes c.args.words.now) c.args.texts.now c.tell_named.new.texts c.args.trace.now c.args.trace.now c.args.out.now c.tell_named.new.out c.tell_named.result
    (words_dump g.S.Source.left g.S.Source.faults g.S.Source.down g.K.Sink.held g.K.Sink.faults g.K.Sink.down (map string_bytes c.args.words.now) (g.T.Texts.content c.args.texts.now) (Fell (g.T.Texts.faults c.args.texts.now) (g.T.Texts.faults c.tell_named.new.texts) (g.T.Texts.down c.tell_named.new.texts)) c.args.trace.now c.args.trace.now c.args.out.now c.tell_named.new.out c.in-Ok-Dump.dump.now c.tell_named.result (rw c.in-Ok-Dump.field-0-is at c.in-Ok-Dump.ensures.request) c.tell_named.ensures)
    (inr (c.in-Ok-Dump.dump.now, record { request = OnDump c.in-Ok-Dump.dump.now; asks = (rw c.in-Ok-Dump.field-0-is at c.in-Ok-Dump.ensures.request); names = named_first c.in-Ok-Dump.dump.now [] })) (inl refl)

-- ---- a log

pub log_named-requires-clause-may : goal.log_named-requires-clause-may
log_named-requires-clause-may g c = λ κs within.
    let name = c.in-Ok-Log.program.now in
    c.requires.may name (record { request = OnLog name (plain_running c.in-Ok-Log.running); asks = (rw c.in-Ok-Log.field-0-is at c.in-Ok-Log.ensures.request); names = named_first name [] })

pub log_named-requires-clause-ranges : goal.log_named-requires-clause-ranges
log_named-requires-clause-ranges g c = λ κs within.
    ranges (map string_bytes c.args.words.now) (OnLog c.in-Ok-Log.program.now (plain_running c.in-Ok-Log.running)) (rw c.in-Ok-Log.field-0-is at c.in-Ok-Log.ensures.request)

pub returns-in-Ok-Log : goal.returns-in-Ok-Log
returns-in-Ok-Log g c =
    let name = c.in-Ok-Log.program.now in
    let running = plain_running c.in-Ok-Log.running in
    let request = rw c.in-Ok-Log.field-0-is at c.in-Ok-Log.ensures.request in
    let lost = Fell (g.T.Texts.faults c.args.texts.now) (g.T.Texts.faults c.log_named.new.texts) (g.T.Texts.down c.log_named.new.texts) in
    answers_words g.T.Texts.content g.T.Texts.faults g.T.Texts.down g.S.Source.left g.S.Source.faults g.S.Source.down g.K.Sink.held g.K.Sink.faults g.K.Sink.down (map string_bytes c.args.words.now) c.args.texts.now c.log_named.new.texts c.args.trace.now c.log_named.new.trace c.args.out.now c.log_named.new.out c.log_named.result
    (words_log g.S.Source.left g.S.Source.faults g.S.Source.down g.K.Sink.held g.K.Sink.faults g.K.Sink.down (map string_bytes c.args.words.now) (g.T.Texts.content c.args.texts.now) lost c.args.trace.now c.log_named.new.trace c.args.out.now c.log_named.new.out name running c.log_named.result request c.log_named.ensures)
    (inr (name, record { request = OnLog name running; asks = request; names = named_first name [] }))
    (words_log_trace g.S.Source.left g.S.Source.faults g.S.Source.down g.K.Sink.held g.K.Sink.faults g.K.Sink.down (map string_bytes c.args.words.now) (g.T.Texts.content c.args.texts.now) lost c.args.trace.now c.log_named.new.trace c.args.out.now c.log_named.new.out name running c.log_named.result request c.log_named.ensures)

-- ---- a replay

pub replay_named-requires-clause-program : goal.replay_named-requires-clause-program
replay_named-requires-clause-program g c =
    let name = c.in-Ok-Replay.program.now in
    c.requires.may name (record { request = OnReplay name c.in-Ok-Replay.log.now c.in-Ok-Replay.budget; asks = (rw c.in-Ok-Replay.field-0-is at c.in-Ok-Replay.ensures.request); names = named_first name (c.in-Ok-Replay.log.now ∷ []) })

pub replay_named-requires-clause-may : goal.replay_named-requires-clause-may
replay_named-requires-clause-may g c =
    let name = c.in-Ok-Replay.program.now in
    let log = c.in-Ok-Replay.log.now in
    c.requires.may log (record { request = OnReplay name log c.in-Ok-Replay.budget; asks = (rw c.in-Ok-Replay.field-0-is at c.in-Ok-Replay.ensures.request); names = named_later name (log ∷ []) 0 log (omega arith) })

pub replay_named-requires-clause-small : goal.replay_named-requires-clause-small
replay_named-requires-clause-small g c =
    ranges (map string_bytes c.args.words.now) (OnReplay c.in-Ok-Replay.program.now c.in-Ok-Replay.log.now c.in-Ok-Replay.budget) (rw c.in-Ok-Replay.field-0-is at c.in-Ok-Replay.ensures.request)

pub returns-in-Ok-Replay : goal.returns-in-Ok-Replay
returns-in-Ok-Replay g c =
    let name = c.in-Ok-Replay.program.now in
    let log = c.in-Ok-Replay.log.now in
    let b = c.in-Ok-Replay.budget in
    let request = rw c.in-Ok-Replay.field-0-is at c.in-Ok-Replay.ensures.request in
    let lost = Fell (g.T.Texts.faults c.args.texts.now) (g.T.Texts.faults c.replay_named.new.texts) (g.T.Texts.down c.replay_named.new.texts) in
    answers_words g.T.Texts.content g.T.Texts.faults g.T.Texts.down g.S.Source.left g.S.Source.faults g.S.Source.down g.K.Sink.held g.K.Sink.faults g.K.Sink.down (map string_bytes c.args.words.now) c.args.texts.now c.replay_named.new.texts c.args.trace.now c.replay_named.new.trace c.args.out.now c.replay_named.new.out c.replay_named.result
    (words_replay g.S.Source.left g.S.Source.faults g.S.Source.down g.K.Sink.held g.K.Sink.faults g.K.Sink.down (map string_bytes c.args.words.now) (g.T.Texts.content c.args.texts.now) lost c.args.trace.now c.replay_named.new.trace c.args.out.now c.replay_named.new.out name log b c.replay_named.result request c.replay_named.ensures)
    (inr (name, record { request = OnReplay name log b; asks = request; names = named_first name (log ∷ []) }))
    (words_replay_trace g.S.Source.left g.S.Source.faults g.S.Source.down g.K.Sink.held g.K.Sink.faults g.K.Sink.down (map string_bytes c.args.words.now) (g.T.Texts.content c.args.texts.now) lost c.args.trace.now c.replay_named.new.trace c.args.out.now c.replay_named.new.out name log b c.replay_named.result request c.replay_named.ensures)

-- ---- a workload

pub run_workload_text-requires-clause-few : goal.run_workload_text-requires-clause-few
run_workload_text-requires-clause-few g c = λ κs within.
    (ranges (map string_bytes c.args.words.now) (OnWorkload c.in-Ok-Workload.threads (plain_running c.in-Ok-Workload.running)) (rw c.in-Ok-Workload.field-0-is at c.in-Ok-Workload.ensures.request)).0

pub run_workload_text-requires-clause-ranges : goal.run_workload_text-requires-clause-ranges
run_workload_text-requires-clause-ranges g c = λ κs within.
    (ranges (map string_bytes c.args.words.now) (OnWorkload c.in-Ok-Workload.threads (plain_running c.in-Ok-Workload.running)) (rw c.in-Ok-Workload.field-0-is at c.in-Ok-Workload.ensures.request)).1

pub returns-in-Ok-Workload : goal.returns-in-Ok-Workload
returns-in-Ok-Workload g c =
    answers_words g.T.Texts.content g.T.Texts.faults g.T.Texts.down g.S.Source.left g.S.Source.faults g.S.Source.down g.K.Sink.held g.K.Sink.faults g.K.Sink.down (map string_bytes c.args.words.now) c.args.texts.now c.args.texts.now c.args.trace.now c.args.trace.now c.args.out.now c.run_workload_text.new.out c.run_workload_text.result
    (words_workload g.S.Source.left g.S.Source.faults g.S.Source.down g.K.Sink.held g.K.Sink.faults g.K.Sink.down (map string_bytes c.args.words.now) (g.T.Texts.content c.args.texts.now) (Fell (g.T.Texts.faults c.args.texts.now) (g.T.Texts.faults c.args.texts.now) (g.T.Texts.down c.args.texts.now)) c.args.trace.now c.args.trace.now c.args.out.now c.run_workload_text.new.out c.in-Ok-Workload.threads (plain_running c.in-Ok-Workload.running) c.run_workload_text.result (rw c.in-Ok-Workload.field-0-is at c.in-Ok-Workload.ensures.request) c.run_workload_text.ensures)
    (inl refl) (inl refl)

-- ---- a program over traces

pub farm_named-requires-clause-program : goal.farm_named-requires-clause-program
farm_named-requires-clause-program g c = λ κs within.
    let name = c.in-Ok-Traces.program.now in
    let traces = map (λ s. s.now) c.in-Ok-Traces.traces.items in
    c.requires.may name (record { request = OnTraces name traces c.in-Ok-Traces.budget; asks = (rw c.in-Ok-Traces.field-0-is at c.in-Ok-Traces.ensures.request); names = named_first name traces })

pub farm_named-requires-clause-may : goal.farm_named-requires-clause-may
farm_named-requires-clause-may g c = λ κs within.
    let name = c.in-Ok-Traces.program.now in
    let traces = map (λ s. s.now) c.in-Ok-Traces.traces.items in
    let asks = (rw c.in-Ok-Traces.field-0-is at c.in-Ok-Traces.ensures.request) in
    subst (λ (names : List (Bor (List ℕ))). All (λ n. g.T.Texts.may c.args.texts.now n.now) names) (sym c.deref.ensures.value)
    (each_name (g.T.Texts.may c.args.texts.now) c.in-Ok-Traces.traces.items
    (λ k d lt. c.requires.may (get_or traces k d) (record { request = OnTraces name traces c.in-Ok-Traces.budget; asks = asks; names = named_later name traces k d lt })))

pub farm_named-requires-clause-small : goal.farm_named-requires-clause-small
farm_named-requires-clause-small g c = λ κs within.
    ranges (map string_bytes c.args.words.now) (OnTraces c.in-Ok-Traces.program.now (map (λ s. s.now) c.in-Ok-Traces.traces.items) c.in-Ok-Traces.budget) (rw c.in-Ok-Traces.field-0-is at c.in-Ok-Traces.ensures.request)

pub returns-in-Ok-Traces : goal.returns-in-Ok-Traces
returns-in-Ok-Traces g c =
    let name = c.in-Ok-Traces.program.now in
    let traces = map (λ s. s.now) c.in-Ok-Traces.traces.items in
    let request = rw c.in-Ok-Traces.field-0-is at c.in-Ok-Traces.ensures.request in
    answers_words g.T.Texts.content g.T.Texts.faults g.T.Texts.down g.S.Source.left g.S.Source.faults g.S.Source.down g.K.Sink.held g.K.Sink.faults g.K.Sink.down (map string_bytes c.args.words.now) c.args.texts.now c.farm_named.new.texts c.args.trace.now c.args.trace.now c.args.out.now c.farm_named.new.out c.farm_named.result
    (words_farm g.S.Source.left g.S.Source.faults g.S.Source.down g.K.Sink.held g.K.Sink.faults g.K.Sink.down (map string_bytes c.args.words.now) (g.T.Texts.content c.args.texts.now) (Fell (g.T.Texts.faults c.args.texts.now) (g.T.Texts.faults c.farm_named.new.texts) (g.T.Texts.down c.farm_named.new.texts)) c.args.trace.now c.args.trace.now c.args.out.now c.farm_named.new.out name traces c.in-Ok-Traces.budget c.farm_named.result request (rw c.deref.ensures.value at c.farm_named.ensures))
    (inr (name, record { request = OnTraces name traces c.in-Ok-Traces.budget; asks = request; names = named_first name traces })) (inl refl)

-- ---- words that ask for nothing

pub returns-in-Err-Usage : goal.returns-in-Err-Usage
returns-in-Err-Usage g c =
    answers_words g.T.Texts.content g.T.Texts.faults g.T.Texts.down g.S.Source.left g.S.Source.faults g.S.Source.down g.K.Sink.held g.K.Sink.faults g.K.Sink.down (map string_bytes c.args.words.now) c.args.texts.now c.args.texts.now c.args.trace.now c.args.trace.now c.args.out.now c.say.new.out c.say.result
    (words_nothing g.S.Source.left g.S.Source.faults g.S.Source.down g.K.Sink.held g.K.Sink.faults g.K.Sink.down (map string_bytes c.args.words.now) (g.T.Texts.content c.args.texts.now) (Fell (g.T.Texts.faults c.args.texts.now) (g.T.Texts.faults c.args.texts.now) (g.T.Texts.down c.args.texts.now)) c.args.trace.now c.args.trace.now c.args.out.now c.say.new.out c.say.result _ ((rw c.in-Err-Usage.field-0-is at c.in-Err-Usage.ensures.usage) refl) c.say.ensures)
    (inl refl) (inl refl)
