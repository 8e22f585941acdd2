use Rattle.std.proofs.Common.{◌≡◌, ◌-◌, ◌∙◌, refl, sym, ap, subst, length, get_or, false}
use Rattle.std.specs.Vec.{with_items}
use Rattle.std.proofs.lemmas.List.{length-map, with_items_is}
use Rattle.combine_tree.specs.Plain.{plain_packet}
use Rattle.thread_code.specs.Plain.{plain_code}
use Rattle.thread_state.specs.Kept.{handed_by, place_in, no_copy}
use Rattle.thread_state.specs.Pars.{used_by}
use Rattle.core_machine.specs.Forks.{HasKind}
use Rattle.core_machine.proofs.Seeds.{branch_within, branch_uses, branch_places, job_by}
use Rattle.core_machine.proofs.thread.Thread.job.Goals as goal

pub hand_down-requires-clause-branch : goal.hand_down-requires-clause-branch
hand_down-requires-clause-branch c = branch_within (plain_code c.args.code.now) c.args.self.now c.requires.loaded c.requires.fork c.args.k c.requires.branch c.at-branch.result c.at-branch.ensures

pub hand_down-requires-clause-places : goal.hand_down-requires-clause-places
hand_down-requires-clause-places c = branch_places (plain_code c.args.code.now) c.args.self.now c.requires.loaded c.requires.fork c.args.k c.requires.branch c.at-branch.result c.at-branch.ensures

pub hand_down-requires-clause-room : goal.hand_down-requires-clause-room
hand_down-requires-clause-room c =
    ap length c.deref_mut.ensures.value ∙ ap (λ (v : _). length v.items) c.write_kind.ensures.copies ∙ c.requires.room.copies ∙ sym (ap length (branch_uses (plain_code c.args.code.now) c.args.self.now c.requires.loaded c.requires.fork c.args.k c.requires.branch c.at-branch.result c.at-branch.ensures))

pub returns-clause-job : goal.returns-clause-job
returns-clause-job c = λ w e.
    let h = c.args.self.now in
    let code = plain_code c.args.code.now in
    let used = branch_uses code h c.requires.loaded c.requires.fork c.args.k c.requires.branch c.at-branch.result c.at-branch.ensures in
    let kinds = subst (λ k. HasKind (plain_code k) h c.args.k c.args.packet.now c.write_kind.new.packet) c.parts-code.ensures.same c.write_kind.ensures in
    let p = c.write_kind.new.packet in
    let q = plain_packet (record p { copies = with_items p.copies c.hand_down.new.copies; allowance = h.allowance - h.units }) in
    let m = length-map (used_by h.own.pars c.at-branch.result) (λ v. record { value = (get_or h.own.copies (place_in h.own v) no_copy).value; modified = false }) in
    let long : length c.hand_down.new.copies ≡ length p.copies.items = ap length c.hand_down.ensures ∙ m ∙ ap length used ∙ sym c.requires.room.copies ∙ sym (ap (λ (v : _). length v.items) c.write_kind.ensures.copies) in
    let copies = with_items_is p.copies c.hand_down.new.copies (long ∙ sym p.copies.ok.0) in
    job_by code h c.requires.loaded c.requires.fork c.args.k c.requires.branch c.args.packet.now p kinds q refl refl (copies ∙ c.hand_down.ensures ∙ ap (handed_by h.own) used) refl w e
