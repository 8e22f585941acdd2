use Rattle.std.proofs.Common.{◌≤◌, ◌+◌, Some, length, sym, ap, subst, ◌∙◌}
use Rattle.std.proofs.lemmas.Option.{get_or_from_slice_get}
use Rattle.exchange_log.specs.declared.entry.Entry.{Entry}
use Rattle.exchange_log.specs.Registers.{cut, note_of, packet_of}
use Rattle.exchange_log.proofs.RegisterLemmas.{inside_at, packet_at}
use Rattle.exchange_log.proofs.register.Register.get.Goals as goal

pub part-requires : goal.part-requires
part-requires c =
    let r = c.args.self.now in
    let f = c.find-at.ensures in
    let is = c.index-entry.ensures ∙ get_or_from_slice_get r.entries.items c.find-at.result f.entry c.index-entry.result.now f.here in
    let inside = inside_at (length r.args.items) (length r.copies.items) r.entries.items c.find-at.result f.entry c.requires.inside f.here in
    subst (λ (e : Entry). e.args_from + e.args ≤ length c.deref.result.now) (sym is) (subst (λ l. f.entry.args_from + f.entry.args ≤ length l) (sym c.deref.ensures.value) inside.0)

pub part-requires-2 : goal.part-requires-2
part-requires-2 c =
    let r = c.args.self.now in
    let f = c.find-at.ensures in
    let is = c.index-entry.ensures ∙ get_or_from_slice_get r.entries.items c.find-at.result f.entry c.index-entry.result.now f.here in
    let inside = inside_at (length r.args.items) (length r.copies.items) r.entries.items c.find-at.result f.entry c.requires.inside f.here in
    subst (λ (e : Entry). e.copies_from + e.copies ≤ length c.deref-2.result.now) (sym is) (subst (λ l. f.entry.copies_from + f.entry.copies ≤ length l) (sym c.deref-2.ensures.value) inside.1)

pub returns : goal.returns
returns c =
    let r = c.args.self.now in
    let f = c.find-at.ensures in
    let e = c.index-entry.result.now in
    let is = c.index-entry.ensures ∙ get_or_from_slice_get r.entries.items c.find-at.result f.entry e f.here in
    let args = ap (λ l. cut l e.args_from e.args) (sym c.deref.ensures.value) ∙ sym c.part.ensures in
    let copies = ap (λ l. cut l e.copies_from e.copies) (sym c.deref-2.ensures.value) ∙ sym c.part-2.ensures in
    packet_at r.args.items r.copies.items r.entries.items c.args.k c.args.number c.find-at.result c.requires.numbered f
    ∙ ap (λ (y : Entry). Some (packet_of r.args.items r.copies.items y)) (sym is)
    ∙ ap (λ l. Some (note_of e.kind e.amount l (cut r.copies.items e.copies_from e.copies))) args
    ∙ ap (λ l. Some (note_of e.kind e.amount c.part.result.now l)) copies
