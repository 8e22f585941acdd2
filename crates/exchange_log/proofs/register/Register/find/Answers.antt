use Rattle.std.proofs.Common.{◌<◌, ◌≤◌, length, arith}
use Rattle.std.proofs.lemmas.Option.{slice_get_within}
use Rattle.exchange_log.proofs.RegisterLemmas.{is_there, never_both}
use Rattle.exchange_log.proofs.register.Register.find.Goals as goal

pub unreachable-requires : goal.unreachable-requires
unreachable-requires c =
    let items = c.args.self.now.entries.items in
    let t = is_there items c.args.k c.args.number c.requires.numbered c.requires.there in
    let lt : t.at < length items = slice_get_within items t.at t.found.entry t.found.here in
    let past : length items ≤ c.loop-at.at = omega (arith, c.loop-at-test.false, c.len-at-end.ensures) in
    never_both _ t.found.is (c.loop-at.invariant.absent t.at t.found.entry (omega (arith, lt, past)) t.found.here)
