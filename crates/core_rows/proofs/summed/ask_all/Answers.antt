use Rattle.std.proofs.Common.{refl, ◌∙◌}
use Rattle.copy_slots.specs.declared.view.PacketAt.TheVariants.{Fresh, Held}
use Rattle.copy_slots.specs.Mail.{sender_opened}
use Rattle.copy_slots.specs.Ports.{on_parent}
use Rattle.core_rows.proofs.Asking.{parent_after, root_kept, same_board}
use Rattle.core_rows.proofs.summed.ask_all.Goals as goal

pub loop-job-init : goal.loop-job-init
loop-job-init g c = let s = g.P.Port.state c.args.port in let t = g.P.Port.state c.first-reply.new.self in let e = c.first-reply.ensures.state in let es = on_parent s.ends 0 sender_opened in
    (parent_after s t sender_opened Fresh Held e c.requires.0 (λ x h. refl), same_board s t es e, root_kept s t es e ∙ c.requires.1)
