use Rattle.std.proofs.Common.{◌≡◌, ◌+◌, ◌-◌, ℕ, Err, ap, subst, arith}
use Rattle.log_text.specs.Stages.{AtHead, HasCome}
use Rattle.log_text.proofs.SectionLemmas.{Going, head_stops, head_on, going_none, going_expects, going_more, going_all, few_jobs}
use Rattle.log_text.proofs.section.read_section.Goals as goal

pub returns-in_default-clause-bad : goal.returns-in_default-clause-bad
returns-in_default-clause-bad c = λ s line h low e.
    let same : c.args.from.line ≡ line = cc in
    head_stops s c.args.thread line c.args.from.at c.args.bytes.now low (subst (λ (k : ℕ). HasCome s c.args.bytes.now k c.args.from.at (AtHead c.args.thread)) same h.come)
    (λ jobs piece rest is f. c.in_default.ensures.only jobs piece rest is f)

pub loop-pair-init : goal.loop-pair-init
loop-pair-init c =
    let r = c.in-Some.ensures.stands in
    record {
      on = head_on c.args.thread c.args.from.at c.in-Some.start c.in-Some.jobs c.args.from.line c.args.bytes.now c.requires r;
      lines = omega arith;
      going = λ s h low. going_none s c.args.thread c.args.from.at c.in-Some.start c.in-Some.jobs c.args.from.line c.args.bytes.now c.args.packet.now low h r;
    }

pub loop-pair-preserved : goal.loop-pair-preserved
loop-pair-preserved c =
    let i = c.loop-pair._pair in
    record {
      on = c.in-Ok.ensures.on;
      lines = omega (arith, c.in-Ok.ensures.lines, c.loop-pair.invariant.lines);
      going = λ s h low.
          let g = c.loop-pair.invariant.going s h low in
          let x = going_expects s c.args.thread c.args.from.at c.in-Some.start c.in-Some.jobs i c.args.bytes.now c.loop-pair.spot c.loop-pair.packet g c.loop-pair-test.true in
          going_more s c.args.thread c.args.from.at c.in-Some.start c.in-Some.jobs i c.args.bytes.now c.loop-pair.spot c.in-Ok.next c.loop-pair.packet c.read_pair.new.packet g
          (c.in-Ok.ensures.pair s c.args.thread (g.jobs - (i + 1)) x);
    }

pub returns-in-Err-clause-bad : goal.returns-in-Err-clause-bad
returns-in-Err-clause-bad c = λ s line h low e.
    let i = c.loop-pair._pair in
    let g = c.loop-pair.invariant.going s h low in
    let x = going_expects s c.args.thread c.args.from.at c.in-Some.start c.in-Some.jobs i c.args.bytes.now c.loop-pair.spot c.loop-pair.packet g c.loop-pair-test.true in
    c.in-Err.ensures.bad s c.args.thread (g.jobs - (i + 1)) line x (ap Err (cc))

pub returns-clause-section : goal.returns-clause-section
returns-clause-section c = λ s h low.
    let inv = c.loop-pair.invariant in
    let all : c.loop-pair._pair ≡ c.in-Some.jobs = omega arith in
    let g = subst (λ (k : ℕ). Going s c.args.thread c.args.bytes.now c.args.from.at c.in-Some.start c.in-Some.jobs k c.loop-pair.spot c.loop-pair.packet) all (inv.going s h low) in
    going_all s c.args.thread c.in-Some.start c.in-Some.jobs c.args.bytes.now c.args.from c.loop-pair.spot c.loop-pair.packet g
    (few_jobs c.args.bytes.now c.args.from.line c.in-Some.jobs g.jobs c.loop-pair.spot h.size inv.on (omega (arith, inv.lines)) g.count_is)

pub returns-clause-on : goal.returns-clause-on
returns-clause-on c = c.loop-pair.invariant.on
