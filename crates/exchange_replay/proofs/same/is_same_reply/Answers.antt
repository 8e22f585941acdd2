use Rattle.std.proofs.Common.{rules, ◌≡◌, ap}
use Rattle.std.specs.Bool.{Decides}
use Rattle.std.proofs.lemmas.Slice.Eq.{slice_eq-Decides}
use Rattle.forec_base.specs.declared.Place.{Place}
use Rattle.forec_base.specs.declared.Trap.{Trap}
use Rattle.combine_tree.specs.declared.packet.PacketKind.TheVariants as kind
use Rattle.combine_tree.specs.Plain.{plain_packet, plain_kind}
use Rattle.exchange_replay.proofs.Sames.{HasCopies, replies_same, reply_copies, copy_decides, over_kind, trapped_kind}
use Rattle.exchange_replay.proofs.same.is_same_reply.Goals as goal

pub returns-then-a-b : goal.returns-then-a-b
returns-then-a-b c q r p s =
    let k : c.args.a.now.kind ≡ c.args.b.now.kind = search rules in
    let d : Decides c.eq.result (c.args.a.now.copies.items ≡ c.args.b.now.copies.items) = slice_eq-Decides copy_decides c.args.a.now.copies.items c.args.b.now.copies.items c.eq.result c.eq.ensures in
    let trapped : (place : Place) (trap : Trap) → c.args.a.now.kind ≡ kind.Trapped place trap → ⊥ = search rules in
    let has : HasCopies (plain_packet c.args.a.now) = ((λ e. c.in_default.not-Over (over_kind c.args.a.now.kind e)), (λ place trap e. trapped place trap (trapped_kind c.args.a.now.kind place trap e))) in
    ((λ t. replies_same (plain_packet c.args.a.now) (plain_packet c.args.b.now) q r p s has (ap plain_kind k) c.if-a-b.true (d.0 t)), (λ e. d.1 (reply_copies (plain_packet c.args.a.now) (plain_packet c.args.b.now) q r p s has e)))
