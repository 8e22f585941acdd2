use Rattle.std.proofs.Common.{◌≡◌, ◌∙◌, ◌+◌, sym, ap, subst, true, false, get_or}
use Rattle.program_walk.specs.declared.walk.effects.Effect.TheVariants.{Accesses}
use Rattle.forec_check.specs.CallSites.{site_maps, instances_around, sites_at, opened_sites, MovesNothing}
use Rattle.forec_check.proofs.Propagation.{same_known, same_next, settled_step}
use Rattle.forec_check.proofs.instances.propagate.propagate_effects.Goals as goal
use Rattle.forec_check.proofs.instances.propagate.propagate_effects.Goals.{then-branch, else-branch}

pub loop-number-preserved : goal.loop-number-preserved
loop-number-preserved c =
    elim c.if-branch.branch [
      | then-branch w ↦
          record {
            same = λ m. absurd (let q : true ≡ false = sym w.moved-is ∙ m in cc);
            settled = λ m rest. absurd (let q : true ≡ false = sym w.moved-is ∙ m in cc);
          }
      | else-branch w ↦
          let old = c.args.tables.now in
          let now = c.loop-number.tables in
          let inv = c.loop-number.invariant in
          let here = c.in_ok-propagate_effect.ensures in
          let site = c.opened-site.ensures ∙ ap (λ s. opened_sites s (record { function = c.args.f; effect = c.loop-number.number + 1 })) (c.at-calls.ensures ∙ ap (λ l. sites_at l c.args.f) c.deref.ensures.value) in
          record {
            same = λ m. same_next old now c.propagate_effect.new.tables (inv.same (sym w.moved-is ∙ m)) (here.same w.if-branch.false);
            settled = λ m rest.
                let still = sym w.moved-is ∙ m in
                inv.settled still
                (settled_step (site_maps old) c.args.f c.loop-number.number c.args.effects.now (Accesses 0) c.opened-site.result (instances_around c.loop-number.around) (instances_around c.propagate_effect.new.around)
                c.loop-number-test.true site
                (subst (λ k. MovesNothing k (get_or c.args.effects.now c.loop-number.number (Accesses 0)) c.opened-site.result (instances_around c.loop-number.around) (instances_around c.propagate_effect.new.around)) (same_known old now (inv.same still)) (here.rests w.if-branch.false)) rest);
          }
    ]
