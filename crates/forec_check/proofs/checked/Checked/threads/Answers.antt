use Rattle.std.proofs.Common.{◌∙◌, ap, subst, map, inl}
use Rattle.forec_tree.specs.Plain as plain
use Rattle.forec_tree.specs.Pauses.{callees_of}
use Rattle.forec_tree.specs.Faults.{Leads}
use Rattle.forec_check.proofs.Acyclic.{no_circle}
use Rattle.forec_check.proofs.checked.Checked.threads.Goals as goal

pub instances-requires : goal.instances-requires
instances-requires c =
    let kept = c.args.self.now in
    let same = ap (map plain.plain_item) c.as_slice-items.ensures ∙ ap plain.program c.program.ensures in
    λ f l. no_circle (plain.program kept.program) kept.names.now (λ fault e. kept.faultless fault (inl e)) f (subst (λ t. Leads (callees_of t) f f) same l)
