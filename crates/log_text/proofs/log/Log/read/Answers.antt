use Rattle.std.proofs.Common.{◌≡◌, ◌+◌, ◌<◌, ℕ, List, Err, length, subst, sym, ap, arith}
use Rattle.std.proofs.lemmas.List.{length-map}
use Rattle.forec_kernel.specs.Shapes.{plain_shape, plain_thread}
use Rattle.log_text.specs.declared.section.Section.{Section}
use Rattle.log_text.specs.Stages.{AtHead, Stops}
use Rattle.log_text.specs.Sections.{Expects, IsOn, ReadsSection}
use Rattle.log_text.proofs.ReadLemmas.{Done, done_none, done_more, all_read, more_bytes, expects_next, threads_few, low_thread}
use Rattle.log_text.proofs.StopLemmas.{stops_bad}
use Rattle.log_text.proofs.log.Log.read.Goals.{After-read_section}
use Rattle.log_text.proofs.log.Log.read.Goals as goal

pub loop-t-init : goal.loop-t-init
loop-t-init c = record {
  on = record { within = omega arith; few = omega arith };
  done = subst (λ (l : List Section). Done (plain_shape c.args.shape.now) c.args.bytes.items 1 l (record { at = 0; line = 1 })) (sym c.new-sections.ensures.items)
      (done_none (plain_shape c.args.shape.now) c.args.bytes.items);
  bound = omega arith;
}

-- a further section is expected
expected : (c : After-read_section) → (c.loop-t.t < length c.args.shape.now.threads.items) × Expects (plain_shape c.args.shape.now) c.loop-t.t c.deref.result.now c.loop-t.spot c.in_ok-packet.packet (AtHead c.loop-t.t)
expected c =
    let shape = c.args.shape.now in
    let t = c.loop-t.t in
    let low : t < length shape.threads.items = omega arith in
    let x = expects_next shape c.args.bytes.items t c.len.result c.loop-t.sections.items c.loop-t.spot c.index-thread.result.now c.in_ok-packet.packet c.loop-t.invariant.done (omega arith) (omega arith) low c.index-thread.ensures (omega arith) c.in_ok-packet.ensures in
    (low, subst (λ (b : List ℕ). Expects (plain_shape shape) t b c.loop-t.spot c.in_ok-packet.packet (AtHead t)) (sym c.deref.ensures.value) x)

pub loop-t-preserved : goal.loop-t-preserved
loop-t-preserved c =
    let shape = c.args.shape.now in
    let t = c.loop-t.t in
    let x = expected (goal.at.loop-t-preserved c).After-read_section in
    let same : c.deref.result.now ≡ c.args.bytes.items = c.deref.ensures.value in
    let r = subst (λ (b : List ℕ). ReadsSection (plain_shape shape) t b c.loop-t.spot c.in-Ok.section c.in-Ok.next) same (c.in-Ok.ensures.section (plain_shape shape) x.1 (low_thread shape t x.0)) in
    record {
      on = subst (λ (b : List ℕ). IsOn b c.in-Ok.next) same c.in-Ok.ensures.on;
      done = subst (λ (l : List Section). Done (plain_shape shape) c.args.bytes.items (t + 1) l c.in-Ok.next) (sym c.in_ok-push-in-Ok.ensures.items)
          (done_more (plain_shape shape) c.args.bytes.items t c.loop-t.sections.items c.loop-t.spot c.in-Ok.next c.in-Ok.section c.loop-t.invariant.done r);
      bound = omega arith;
    }

pub returns-in-Err-clause-bad : goal.returns-in-Err-clause-bad
returns-in-Err-clause-bad c = λ line e.
    let shape = c.args.shape.now in
    let x = expected (goal.at.returns-in-Err-clause-bad c).After-read_section in
    stops_bad (plain_shape shape) c.args.bytes.items line (threads_few shape (omega arith)) (omega arith)
    (subst (λ (b : List ℕ). Stops (plain_shape shape) b line) c.deref.ensures.value (c.in-Err.ensures.bad (plain_shape shape) line x.1 (low_thread shape c.loop-t.t x.0) (ap Err (cc))))

pub returns-then-spot-size-clause-bad : goal.returns-then-spot-size-clause-bad
returns-then-spot-size-clause-bad c = λ line e.
    let shape = c.args.shape.now in
    let h = c.loop-t.invariant.done in
    let same : c.loop-t.spot.line ≡ line = cc in
    stops_bad (plain_shape shape) c.args.bytes.items line (threads_few shape (omega arith)) (omega arith)
    (subst (Stops (plain_shape shape) c.args.bytes.items) same
    (more_bytes (plain_shape shape) c.args.bytes.items c.loop-t.t c.loop-t.sections.items c.loop-t.spot h (omega (arith, length-map shape.threads.items plain_thread)) (omega arith)))

pub returns-clause-log : goal.returns-clause-log
returns-clause-log c =
    let shape = c.args.shape.now in
    let h = c.loop-t.invariant.done in
    all_read (plain_shape shape) (record { bytes = c.args.bytes; sections = c.loop-t.sections }) c.loop-t.t c.loop-t.spot h (omega (arith, length-map shape.threads.items plain_thread))
    (omega (arith, c.loop-t.invariant.bound, length-map shape.threads.items plain_thread)) (omega arith)
