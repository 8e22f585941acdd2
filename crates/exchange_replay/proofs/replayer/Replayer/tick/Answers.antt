use Rattle.std.proofs.Common.{◌≡◌, List, ◌++◌, ◌∷◌, [], true, refl, sym, ap, ◌∙◌, subst}
use mathlib.Core.Bool.{true≢false}
use Rattle.forec_kernel.specs.declared.shape.Shape.{Shape}
use Rattle.forec_kernel.specs.Shapes.{plain_shape}
use Rattle.forec_kernel.specs.Packed.{HasRoom, IsJob}
use Rattle.forec_kernel.specs.Engine.{Exchange, Job}
use Rattle.forec_kernel.specs.Composed.{TickInput}
use Rattle.forec_kernel.specs.Ticks.{goes_on}
use Rattle.thread_code.specs.Plain.{PlainCode, plain_code}
use Rattle.thread_code.specs.Valid.{of_shape}
use Rattle.combine_tree.specs.Plain.{plain_packet}
use Rattle.combine_tree.specs.declared.packet.PacketKind.TheVariants as kind
use Rattle.core_machine.specs.Threads.{StandsFor}
use Rattle.tick_jobs.specs.Jobs.{job_of}
use Rattle.tick_jobs.specs.Outcomes.{HasOutputs, outputs_in}
use Rattle.tick_jobs.proofs.TickOutcome.{goes_on_paused}
use Rattle.exchange_replay.specs.declared.walk.Walk.{Walk}
use Rattle.exchange_replay.specs.declared.replayer.Replayer.{Replayer}
use Rattle.exchange_meaning.specs.Logged.{ExchangeLog}
use Rattle.exchange_replay.specs.Walks.{WalksJob, WalksOn, CannotTell}
use Rattle.exchange_replay.specs.Rooted.{HasReplayed}
use Rattle.exchange_replay.proofs.RootLemmas.{its_jobs, walks_tick, tick_begun, cannot_tick, has_ticked}
use Rattle.exchange_replay.proofs.replayer.Replayer.tick.Goals.{After-begin, in-Paused, in_default}
use Rattle.exchange_replay.proofs.replayer.Replayer.tick.Goals as goal

-- the job of the tick has begun
module _ (c : After-begin) where
  abbrev code : PlainCode
  code = plain_code c.args.code.now

  abbrev begun : Walk
  begun = record { thread = c.begin.new.self; branches = c.args.self.now.walk.branches }

  abbrev job : Job
  job = job_of code.shape c.args.self.now.root c.args.row.now c.args.budget

  stands : (xs : List Exchange) → StandsFor code c.args.self.now.walk.thread xs → StandsFor code c.begin.new.self (xs ++ record { job = job; replies = [] } ∷ [])
  stands xs st =
      let told = subst (λ (s : Shape). IsJob (plain_packet c.write_job.new.packet) (job_of (plain_shape s) c.args.self.now.root c.args.row.now c.args.budget)) c.shape-shape.ensures.same c.write_job.ensures.job in
      c.begin.ensures.stands xs job told st

  module _ (pairs : ExchangeLog) (turns : List TickInput) (h : HasReplayed code c.args.log.now pairs c.args.self.now turns) where
    abbrev jobs : List Job
    jobs = its_jobs code c.shape-shape.ensures.valid c.args.log.now pairs c.args.self.now turns h

    walks : WalksJob code c.args.log.now pairs begun jobs job
    walks = walks_tick code c.shape-shape.ensures.valid c.args.log.now pairs c.args.self.now turns h job begun refl c.begin.ensures.number stands

pub finish-requires-clause-begun : goal.finish-requires-clause-begun
finish-requires-clause-begun c =
    let b = (goal.at.finish-requires-clause-begun c).After-begin in
    let is = c.requires.can.is in
    tick_begun (code b) c.shape-shape.ensures.valid c.args.log.now is.log c.args.self.now is.turns is.has (job b) (begun b) refl c.begin.ensures.number (stands b)

pub returns-then-not-finish-clause-differs : goal.returns-then-not-finish-clause-differs
returns-then-not-finish-clause-differs c pairs turns e h =
    let b = (goal.at.returns-then-not-finish-clause-differs c).After-begin in
    let own = jobs b pairs turns h in
    let never = subst (λ r. WalksOn (code b) c.args.log.now pairs (begun b) c.finish.new.self own (job b) r) c.if-not-finish.true (c.finish.ensures.walks pairs own (job b) (walks b pairs turns h)) in
    cannot_tick (code b) c.shape-shape.ensures.valid c.args.log.now pairs c.args.self.now turns h c.requires.can.live c.args.row.now c.args.budget (subst (λ n. CannotTell (code b) pairs n (own ++ job b ∷ [])) (c.begin.ensures.number ∙ h.root) never)

pub returns-clause-done : goal.returns-clause-done
returns-clause-done c pairs turns o e h =
    let b = (goal.at.returns-clause-done c).After-begin in
    let k = code b in
    let own = jobs b pairs turns h in
    let on = subst (λ r. WalksOn k c.args.log.now pairs (begun b) c.finish.new.self own (job b) r) c.if-not-finish.false (c.finish.ensures.walks pairs own (job b) (walks b pairs turns h)) in
    let number = c.finish.ensures.number ∙ c.begin.ensures.number ∙ h.root in
    let same : c.write_outcome-outcome.result ≡ o = cc in
    let r2 : Replayer = record { walk = c.finish.new.self; root = c.reply.new.packet; live = c.match-matches.self } in
    let goes : c.match-matches.self ≡ true → c.reply.new.packet.kind ≡ kind.Paused = λ live.
    (elim c.match-matches.branch [
      | in-Paused w ↦ goes_on_paused c.reply.new.packet.kind (ap goes_on (sym c.write_outcome-outcome.ensures.outcome ∙ w.in-Paused.is))
      | in_default w ↦ absurd (true≢false (sym live ∙ w.self-is))
    ]) in
    has_ticked k c.shape-shape.ensures.valid c.args.log.now pairs c.args.self.now turns h c.requires.can.live c.args.row.now c.args.budget r2 number c.finish.ensures.loaded (c.finish.ensures.reply c.if-not-finish.false).resting on
    c.reply.ensures.gives c.reply.ensures.kind (subst (λ n. HasRoom (of_shape k.shape) n (plain_packet c.reply.new.packet)) number c.reply.ensures.room) goes o (sym same ∙ c.write_outcome-outcome.ensures.outcome) c.write_outcome-outcome.new.outputs
    (λ has. subst (λ (s : Shape). c.write_outcome-outcome.new.outputs ≡ outputs_in (plain_shape s) c.reply.new.packet.copies.items) c.shape-shape.ensures.same (c.write_outcome-outcome.ensures.outputs (subst HasOutputs (sym same) has)))
