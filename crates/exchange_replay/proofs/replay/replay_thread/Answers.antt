use Rattle.std.proofs.Common.{◌≡◌, true, ◌+◌, ◌<◌, ◌^◌, [], refl, sym, ap, ◌∙◌, subst, arith}
use Rattle.std.proofs.Math.Facts.{Fits-of_lt}
use Rattle.std.specs.Prelude.{Ok, ◌↔◌}
use mathlib.Core.Bool.{true≢false}
use Rattle.thread_code.specs.Plain.{PlainCode, plain_code}
use Rattle.forec_kernel.specs.declared.shape.Shape.{Shape}
use Rattle.forec_kernel.specs.Shapes.{plain_shape}
use Rattle.exchange_meaning.specs.Logged.{ExchangeLog}
use Rattle.exchange_meaning.specs.Telling.{IsAll}
use Rattle.log_text.specs.ReadLogs.{HasPairs}
use Rattle.exchange_replay.specs.Tracks.{IsBeforePairs}
use Rattle.exchange_replay.specs.Replaying.{DoesPair}
use Rattle.exchange_replay.proofs.ReplayLemmas.{Stage, at_first, reads, all_read, job_fails, so_told, so_passed, replays_same, pairs_left, next_stage, fewer_left, few_jobs, one_left}
use Rattle.exchange_replay.proofs.replay.replay_thread.Goals.{After-is_used, then-is_used, else-is_used}
use Rattle.exchange_replay.proofs.replay.replay_thread.Goals as goal

-- all jobs of the thread were read
module _ (c : After-is_used) (pairs : ExchangeLog) (has : HasPairs (plain_code c.args.code.now).shape c.args.log.now pairs) where
  abbrev code : PlainCode
  code = plain_code c.args.code.now

  abbrev stage : Stage code pairs c.args.log.now c.args.t c.loop-walk.walk c.loop-walk.own c.loop-walk.job
  stage = c.loop-walk.invariant pairs has

  all : pairs c.args.t ≡ stage.passed
  all =
      all_read code c.shape.ensures.valid c.args.log.now pairs c.args.t c.loop-walk.walk c.loop-walk.own c.reads_job.new.self stage.passed stage.is c.reads_job.result c.loop-walk-test.false
      (c.reads_job.ensures.next code.shape c.args.t stage.is.has.left stage.is.has.before)

  says : (c.is_used.result ≡ true) ↔ IsAll code.shape pairs c.args.t (so_told code c.shape.ensures.valid c.args.log.now pairs c.args.t c.loop-walk.walk c.loop-walk.own stage.passed all stage.is.rests)
  says = c.is_used.ensures code c.args.log.now pairs c.args.t _ (so_passed code c.shape.ensures.valid c.args.log.now pairs c.args.t c.loop-walk.walk c.loop-walk.own stage.passed all stage.is.rests)

pub loop-walk-init : goal.loop-walk-init
loop-walk-init c pairs has =
    let k = plain_code c.args.code.now in
    let w = c.in_ok-walk.ensures in
    record {
      passed = [];
      is = at_first k c.shape.ensures.valid c.args.log.now pairs c.args.t c.in_ok-walk.walk c.in_ok-own.own w.loaded w.number w.resting w.stands (w.passed pairs has) (subst (λ (s : Shape). HasPairs (plain_shape s) c.args.log.now pairs → IsBeforePairs (plain_shape s) c.args.t c.args.log.now c.in_ok-own.own (pairs c.args.t)) c.shape.ensures.same (c.in_ok-own.ensures.before pairs) has) c.in_ok-own.ensures.blank;
      number = refl;
    }

pub does_job-requires-clause-pair : goal.does_job-requires-clause-pair
does_job-requires-clause-pair c =
    let k = plain_code c.args.code.now in
    let pairs = c.requires.log.log in
    let s = c.loop-walk.invariant pairs c.requires.log.pairs in
    let r = reads k c.shape.ensures.valid c.args.log.now pairs c.args.t c.loop-walk.walk c.loop-walk.own c.reads_job.new.self s.passed s.is c.reads_job.result c.loop-walk-test.true (c.reads_job.ensures.next k.shape c.args.t s.is.has.left s.is.has.before) in
    record { log = pairs; passed = s.passed; one = r.one; left = r.left; at = r.at }

pub returns-then-not-does_job-clause-differs : goal.returns-then-not-does_job-clause-differs
returns-then-not-does_job-clause-differs c pairs job has e =
    let k = plain_code c.args.code.now in
    let s = c.loop-walk.invariant pairs has in
    let r = reads k c.shape.ensures.valid c.args.log.now pairs c.args.t c.loop-walk.walk c.loop-walk.own c.reads_job.new.self s.passed s.is c.reads_job.result c.loop-walk-test.true (c.reads_job.ensures.next k.shape c.args.t s.is.has.left s.is.has.before) in
    let fails = subst (λ b. DoesPair k pairs c.args.log.now c.args.t c.does_job.new.walk c.does_job.new.own s.passed r.one b) c.if-not-does_job.true (c.does_job.ensures pairs s.passed r.one r.left r.at) in
    job_fails k c.shape.ensures.valid c.args.log.now pairs c.args.t c.loop-walk.walk c.reads_job.new.self s.passed r.left r.one r.at fails job (let j : job ≡ c.loop-walk.job = cc in j ∙ s.number)

pub overflow_add-job : goal.overflow_add-job
overflow_add-job c =
    let k = plain_code c.args.code.now in
    let pairs = c.requires.log.log in
    let has = c.requires.log.pairs in
    let s = c.loop-walk.invariant pairs has in
    let r = reads k c.shape.ensures.valid c.args.log.now pairs c.args.t c.loop-walk.walk c.loop-walk.own c.reads_job.new.self s.passed s.is c.reads_job.result c.loop-walk-test.true (c.reads_job.ensures.next k.shape c.args.t s.is.has.left s.is.has.before) in
    let v = c.shape.ensures.valid in
    let lt = c.requires.thread in
    let few = few_jobs k pairs c.args.log.now c.args.t c.requires.some (omega (arith, lt, v.threads)) has in
    let one = one_left k pairs c.args.log.now c.args.t c.loop-walk.walk c.reads_job.new.self s.passed r.one r.left r.at in
    let number = s.number in
    let less : c.loop-walk.job + 1 < 2 ^ 64 = omega (arith, few, one, number, c.args.log.now.bytes.ok.0, c.args.log.now.bytes.ok.1, c.args.log.now.bytes.small) in
    Fits-of_lt less

pub loop-walk-smaller : goal.loop-walk-smaller
loop-walk-smaller c =
    let k = plain_code c.args.code.now in
    let pairs = c.requires.log.log in
    let s = c.loop-walk.invariant pairs c.requires.log.pairs in
    let r = reads k c.shape.ensures.valid c.args.log.now pairs c.args.t c.loop-walk.walk c.loop-walk.own c.reads_job.new.self s.passed s.is c.reads_job.result c.loop-walk-test.true (c.reads_job.ensures.next k.shape c.args.t s.is.has.left s.is.has.before) in
    let done = subst (λ b. DoesPair k pairs c.args.log.now c.args.t c.does_job.new.walk c.does_job.new.own s.passed r.one b) c.if-not-does_job.false (c.does_job.ensures pairs s.passed r.one r.left r.at) in
    fewer_left k pairs c.args.log.now c.args.t c.loop-walk.walk c.does_job.new.walk c.loop-walk.own c.does_job.new.own c.loop-walk.job s r.one done

pub loop-walk-preserved : goal.loop-walk-preserved
loop-walk-preserved c pairs has =
    let k = plain_code c.args.code.now in
    let s = c.loop-walk.invariant pairs has in
    let r = reads k c.shape.ensures.valid c.args.log.now pairs c.args.t c.loop-walk.walk c.loop-walk.own c.reads_job.new.self s.passed s.is c.reads_job.result c.loop-walk-test.true (c.reads_job.ensures.next k.shape c.args.t s.is.has.left s.is.has.before) in
    let done = subst (λ b. DoesPair k pairs c.args.log.now c.args.t c.does_job.new.walk c.does_job.new.own s.passed r.one b) c.if-not-does_job.false (c.does_job.ensures pairs s.passed r.one r.left r.at) in
    next_stage k pairs c.args.log.now c.args.t c.loop-walk.walk c.does_job.new.walk c.loop-walk.own c.does_job.new.own c.loop-walk.job s r.one done

pub returns-clause-same : goal.returns-clause-same
returns-clause-same c pairs has e =
    let at = (goal.at.returns-clause-same c).After-is_used in
    let s = stage at pairs has in
    elim c.if-is_used.branch [
      | then-is_used w ↦ replays_same (code at pairs has) c.shape.ensures.valid c.args.log.now pairs c.args.t c.loop-walk.walk c.loop-walk.own s.passed (all at pairs has) s.is.rests ((says at pairs has).0 w.if-is_used.true)
      | else-is_used w ↦ (let f = ap Ok (sym w.result-is) ∙ e in cc)
    ]

pub returns-clause-differs : goal.returns-clause-differs
returns-clause-differs c pairs job has e =
    let at = (goal.at.returns-clause-differs c).After-is_used in
    let s = stage at pairs has in
    elim c.if-is_used.branch [
      | then-is_used w ↦ (let f = ap Ok (sym w.result-is) ∙ e in cc)
      | else-is_used w ↦
          pairs_left (code at pairs has) c.shape.ensures.valid c.args.log.now pairs c.args.t c.loop-walk.walk c.loop-walk.own s.passed (all at pairs has) s.is.rests
          (λ used. true≢false (sym ((says at pairs has).1 used) ∙ w.if-is_used.false)) job (let f = ap Ok (sym w.result-is) ∙ e in let j : job ≡ c.loop-walk.job = cc in j ∙ s.number)
    ]
