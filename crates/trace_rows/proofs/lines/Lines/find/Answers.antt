use Rattle.std.proofs.Common.{refl, arith}
use Rattle.trace_rows.specs.Held.{held}
use Rattle.trace_rows.proofs.Gathering.{gathers_none, gathers_more, came_by}
use Rattle.trace_rows.proofs.Refilling.{came_start, came_both, none_before}
use Rattle.trace_rows.proofs.lines.Lines.find.Goals as goal

pub returns-in-Err-clause-asks : goal.returns-in-Err-clause-asks
returns-in-Err-clause-asks g c = λ line.
    let l = c.pieces.self in
    absurd (none_before (held c.args.self.now) (held l) (g.S.Source.left c.args.source.now) (g.S.Source.left c.pieces.source) c.pieces.invariant.came c.in_default.ensures.none.0 line)

pub pieces-init : goal.pieces-init
pieces-init g c =
    record {
      reads = gathers_none g.S.Source.left g.S.Source.faults g.S.Source.down (held c.args.self.now) c.args.self.now.ended c.args.source.now;
      came = came_start (held c.args.self.now) (g.S.Source.left c.args.source.now);
      ended = c.requires;
      stays = λ e. e;
      asks = λ _. refl;
      closed = λ _. refl;
      faults = omega arith;
    }

pub pieces-preserved : goal.pieces-preserved
pieces-preserved g c =
    let l = c.pieces.self in
    let i = c.pieces.invariant in
    let seen = c.in_default.ensures.none in
    let r = c.refill.ensures.read in
    let left = g.S.Source.left in
    record {
      reads = gathers_more left g.S.Source.faults g.S.Source.down (held c.args.self.now) (held l) (held c.refill.new.self) c.args.self.now.ended c.args.source.now c.pieces.source c.refill.new.source i.reads seen.0 (i.stays seen.1) seen.2 r;
      came = came_both (held c.args.self.now) (held l) (held c.refill.new.self) (left c.args.source.now) (left c.pieces.source) (left c.refill.new.source) i.came
          (came_by (held l) (held c.refill.new.self) (left c.pieces.source) (left c.refill.new.source) r.0 r.1 r.2.came);
      ended = λ e. (c.refill.ensures.ended e).0;
      stays = λ _. i.stays seen.1;
      asks = λ line. absurd (none_before (held c.args.self.now) (held l) (g.S.Source.left c.args.source.now) (g.S.Source.left c.pieces.source) i.came seen.0 line);
      closed = λ e. absurd (let f = i.stays seen.1 in cc);
      faults = omega (arith, i.faults, c.refill.ensures.cause.later);
    }

pub returns-in-Err-clause-reads : goal.returns-in-Err-clause-reads
returns-in-Err-clause-reads g c =
    let l = c.pieces.self in
    let i = c.pieces.invariant in
    let seen = c.in_default.ensures.none in
    gathers_more g.S.Source.left g.S.Source.faults g.S.Source.down (held c.args.self.now) (held l) (held c.refill.new.self) c.args.self.now.ended c.args.source.now c.pieces.source c.refill.new.source i.reads seen.0 (i.stays seen.1) seen.2
    c.refill.ensures.read
