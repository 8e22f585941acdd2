use Rattle.std.proofs.Common.{refl, ◌∙◌, Some, None}
use Rattle.copy_slots.specs.declared.view.PacketAt.TheVariants.{Held, Out}
use Rattle.copy_slots.specs.Mail.{sender_sent}
use Rattle.copy_slots.specs.Ports.{on_parent, sender_seen}
use Rattle.core_rows.proofs.Asking.{one_board_then, root_kept, same_board, parent_after}
use Rattle.core_rows.proofs.summed.ask.Goals as goal

pub waiting-init : goal.waiting-init
waiting-init g c = let s = g.P.Port.state c.args.port.now in let t = g.P.Port.state c.offer.new.self in let e = c.offer.ensures in let es = on_parent s.ends 0 (sender_sent c.args.job) in
    (parent_after s t (sender_sent c.args.job) Held Out e c.requires (λ x h. refl), root_kept s t es e, same_board s t es e)

pub returns-in-Some-collect-clause-held : goal.returns-in-Some-collect-clause-held
returns-in-Some-collect-clause-held g c = let e = rw c.in-Some-collect.is at c.collect.ensures.state in
    parent_after (g.P.Port.state c.waiting.port) (g.P.Port.state c.collect.new.self) (sender_seen (Some c.in-Some-collect.reply)) Out Held e c.waiting.invariant.0 (λ x h. refl)

pub waiting-preserved : goal.waiting-preserved
waiting-preserved g c = let i = c.waiting.invariant in let e = rw c.in_default.is at c.collect.ensures.state in let s = g.P.Port.state c.waiting.port in let t = g.P.Port.state c.collect.new.self in let es = on_parent s.ends 0 (sender_seen None) in
    (parent_after s t (sender_seen None) Out Out e i.0 (λ x h. h), root_kept s t es e ∙ i.1, one_board_then (g.P.Port.state c.args.port.now) s t i.2 (same_board s t es e))
