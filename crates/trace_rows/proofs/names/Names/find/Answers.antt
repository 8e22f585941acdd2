use Rattle.std.proofs.Common.{refl, arith}
use Rattle.trace_rows.proofs.NamePlaces.{first_is, firsts_within}
use Rattle.trace_rows.proofs.names.Names.find.Goals as goal

pub returns-then-is_name : goal.returns-then-is_name
returns-then-is_name c =
    let names = c.args.self.now in
    first_is names.texts names.firsts.items c.args.next c.args.name.now c.index.result.now names.first (c.if-is_name.ensures refl) c.index.ensures

pub index-requires-in-Some : goal.index-requires-in-Some
index-requires-in-Some c =
    let names = c.args.self.now in
    omega (arith, names.firsts.ok.0, firsts_within names.texts names.firsts.items c.in-Some.i c.args.name.now names.first c.in-Some.ensures)

pub returns-in-Some : goal.returns-in-Some
returns-in-Some c =
    let names = c.args.self.now in
    first_is names.texts names.firsts.items c.in-Some.i c.args.name.now c.index-in-Some.result.now names.first c.in-Some.ensures c.index-in-Some.ensures
