use Rattle.std.proofs.Common.{◌≡◌, ◌++◌, ◌+◌, List, ℕ, true, false, codes, arith, sym, ap, subst, refl, ◌∙◌}
use Rattle.forec_base.specs.declared.limits.TheConstants.{MAX_ROWS}
use Rattle.forec_kernel.specs.Shapes.{PlainShape, PlainKernel, plain_shape}
use Rattle.forec_kernel.specs.WellFormed.{WellFormed}
use Rattle.thread_code.specs.Alone.{Stands}
use Rattle.thread_code.specs.Plain.{PlainCode, plain_code}
use Rattle.exchange_replay.specs.Rooted.{HasReplayed}
use Rattle.log_text.specs.Fronts.{IsLogOf}
use Rattle.log_text.specs.ReadLogs.{IsReadFrom}
use Rattle.trace_ticks.specs.Formats.{format_for}
use Rattle.trace_ticks.specs.KernelNames.{outputs_of, run_format}
use Rattle.trace_ticks.specs.declared.format.Telling.TheVariants as telling
use Rattle.log_runs.specs.RootWalks.{IsHeldTo}
use Rattle.log_runs.specs.declared.replaying.Walked.{Walked}
use Rattle.log_runs.specs.declared.replaying.Walked.TheVariants as walked
use Rattle.log_runs.proofs.TraceSaid.{root_failed, root_differs, root_left, root_same}
use Rattle.log_runs.proofs.TraceWalks.{WalkSays, few_of, walk_at}
use Rattle.log_runs.proofs.replaying.replay_trace.Given.{Over}
use Rattle.log_runs.proofs.replaying.replay_trace.Goals.{After-replay_root-walked}
use Rattle.log_runs.proofs.replaying.replay_trace.Goals as goal

-- ---- thread 0 was replayed

module _ (g : Over) (c : After-replay_root-walked g) (text : List ℕ) (k : PlainKernel) (from : IsReadFrom (plain_code c.args.code.now).shape text c.args.log.now) (fine : WellFormed k) (stands : Stands (plain_code c.args.code.now) k) where
  held_to : IsHeldTo (plain_code c.args.code.now) c.args.log.now k from.log
  held_to = record { valid = c.shape.ensures.valid; formed = fine; stands = stands; pairs = from.pairs; each = c.requires.agree from.log from.pairs }

  log_of : IsLogOf k.shape from.log text
  log_of = subst (λ (s : PlainShape). IsLogOf s from.log text) stands.shape (subst (IsLogOf (plain_code c.args.code.now).shape from.log) from.same from.pairs.is)

  abbrev Says : Walked → Type 0
  Says w = WalkSays g.S.Source.left g.S.Source.faults g.S.Source.down g.K.Sink.held g.K.Sink.faults g.K.Sink.down (plain_code c.args.code.now) from.log k
      (HasReplayed (plain_code c.args.code.now) c.args.log.now from.log c.replay_root-walked.new.replayer) MAX_ROWS (run_format telling.Report k) c.args.budget c.args.trace.now c.replay_root-walked.new.trace c.args.out.now
      c.replay_root-walked.new.out c.replay_root-walked.new.session.waiting.bytes.items w

  says : (w : Walked) → c.replay_root-walked.result ≡ w → Says w
  says w is =
      let e = c.replay_root-walked.ensures in
      let how = c.in-Ok.ensures.format ∙ ap (λ (s : PlainShape). format_for telling.Report (outputs_of s)) (ap plain_shape c.shape.ensures.same ∙ stands.shape) in
      subst Says is
      (walk_at g.S.Source.left g.S.Source.faults g.S.Source.down g.K.Sink.held g.K.Sink.faults g.K.Sink.down (plain_code c.args.code.now) from.log k
      (HasReplayed (plain_code c.args.code.now) c.args.log.now from.log c.replay_root-walked.new.replayer) _ MAX_ROWS _ (run_format telling.Report k) _ c.args.budget c.args.trace.now c.replay_root-walked.new.trace c.args.out.now
      c.replay_root-walked.new.out c.replay_root-walked.new.session.waiting.bytes.items c.replay_root-walked.result c.in-Ok.ensures.limit how c.in-Ok.ensures.budget
      (record { went = e.went k from.log held_to; ends = e.ends; wanted = λ w. e.wanted w k from.log held_to; given = λ w. e.given w k from.log held_to; trace = e.trace k from.log held_to; later = e.later }))

pub returns-in-Failed : goal.returns-in-Failed
returns-in-Failed g c = λ text k from fine stands.
    let at = (goal.at.returns-in-Failed g c).After-replay_root-walked in
    root_failed g.S.Source.left g.S.Source.faults g.S.Source.down g.K.Sink.held g.K.Sink.faults g.K.Sink.down (plain_code c.args.code.now) c.args.log.now k from.log (held_to g at text k from fine stands) text
    (log_of g at text k from fine stands) MAX_ROWS c.args.budget c.replay_root-walked.new.replayer c.args.trace.now c.replay_root-walked.new.trace c.args.out.now c.replay_root-walked.new.out c.replay_root-walked.new.session.waiting.bytes.items
    c.in-Failed.end (says g at text k from fine stands (walked.Failed c.in-Failed.end) c.in-Failed.is)

pub returns-in-Differs : goal.returns-in-Differs
returns-in-Differs g c = λ text k from fine stands.
    let at = (goal.at.returns-in-Differs g c).After-replay_root-walked in
    root_differs g.S.Source.left g.S.Source.faults g.S.Source.down g.K.Sink.held g.K.Sink.faults g.K.Sink.down (plain_code c.args.code.now) c.args.log.now k from.log (held_to g at text k from fine stands) text
    (log_of g at text k from fine stands) MAX_ROWS c.args.budget c.replay_root-walked.new.replayer c.args.trace.now c.replay_root-walked.new.trace c.args.out.now c.replay_root-walked.new.out c.replay_root-walked.new.session.waiting.bytes.items
    c.say_difference.new.out c.say_difference.result c.say_difference.ensures.memory c.in-Differs.tick (says g at text k from fine stands (walked.Differs c.in-Differs.tick) c.in-Differs.is) c.say_difference.ensures.says

pub returns : goal.returns
returns g c = λ text k from fine stands.
    let at = (goal.at.returns g c).After-replay_root-walked in
    let said = c.say_difference-in-Whole in
    root_left g.S.Source.left g.S.Source.faults g.S.Source.down g.K.Sink.held g.K.Sink.faults g.K.Sink.down (plain_code c.args.code.now) c.args.log.now k from.log (held_to g at text k from fine stands) text
    (log_of g at text k from fine stands) MAX_ROWS c.args.budget c.replay_root-walked.new.replayer c.args.trace.now c.replay_root-walked.new.trace c.args.out.now c.replay_root-walked.new.out c.replay_root-walked.new.session.waiting.bytes.items
    said.new.out said.result said.ensures.memory c.used-all_used.result c.in-Whole.ticks (c.in-Whole.ticks + 1) c.in-Whole.end c.if-all_used.false refl (λ turns. c.used-all_used.ensures (plain_code c.args.code.now) from.log turns)
    (says g at text k from fine stands (walked.Whole c.in-Whole.ticks c.in-Whole.end) c.in-Whole.is) said.ensures.says

pub returns-then-all_used : goal.returns-then-all_used
returns-then-all_used g c = λ text k from fine stands.
    let at = (goal.at.returns-then-all_used g c).After-replay_root-walked in
    root_same g.S.Source.left g.S.Source.faults g.S.Source.down g.K.Sink.held g.K.Sink.faults g.K.Sink.down (plain_code c.args.code.now) c.args.log.now k from.log (held_to g at text k from fine stands) text
    (log_of g at text k from fine stands) MAX_ROWS c.args.budget c.replay_root-walked.new.replayer c.args.trace.now c.replay_root-walked.new.trace c.args.out.now c.replay_root-walked.new.out c.replay_root-walked.new.session.waiting.bytes.items
    c.say_same.new.out c.say_same.result c.say_same.ensures.memory c.used-all_used.result c.in-Whole.ticks c.in-Whole.end c.if-all_used.true (λ turns. c.used-all_used.ensures (plain_code c.args.code.now) from.log turns)
    (says g at text k from fine stands (walked.Whole c.in-Whole.ticks c.in-Whole.end) c.in-Whole.is) c.say_same.ensures.says

pub overflow_add-number : goal.overflow_add-number
overflow_add-number g c = let few = few_of _ _ _ c.replay_root-walked.result c.in-Whole.ticks c.in-Whole.end c.in-Whole.is c.replay_root-walked.ensures.ends in omega (arith, few)
