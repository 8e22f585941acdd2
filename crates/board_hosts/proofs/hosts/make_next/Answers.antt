use Rattle.std.proofs.Common.{rules, ◌≡◌, ◌+◌, true, false, sym, ap, ◌∙◌, subst}
use Rattle.std.proofs.lemmas.Option.{get_or_from_slice_get}
use Rattle.forec_kernel.specs.Combining.{contains}
use Rattle.core_host.specs.Hosted.{Hosted, is_here}
use Rattle.board_hosts.specs.CoreHosts.{AreMade, IsLoadedHost, root_core}
use Rattle.board_hosts.proofs.Made.{made_root, made_other, lacks}
use Rattle.board_hosts.proofs.hosts.make_next.Goals as goal

pub returns-then-core-root_core : goal.returns-then-core-root_core
returns-then-core-root_core c had =
    let places = c.args.placement.now.places in
    let here : c.args.parts.core ≡ root_core places = c.if-core-root_core.true ∙ sym (get_or_from_slice_get places 0 c.args.root_core 0 c.requires.root) in
    made_root c.args.code.now c.args.placement.now c.args.parts.core c.args.made.now.root c.args.made.now.others.items had c.in_ok-host.host here c.in_ok-host.ensures

pub returns : goal.returns
returns c had =
    let places = c.args.placement.now.places in
    let has : contains c.args.parts.core places ≡ true = search rules in
    subst (λ l. AreMade c.args.code.now c.args.placement.now (c.args.parts.core + 1) c.args.made.now.root l) (sym c.in_ok-push.ensures.items)
    (made_other c.args.code.now c.args.placement.now c.args.parts.core c.args.made.now.root c.args.made.now.others.items had c.in-Ok.worker
    (λ here. c.if-core-root_core.false (here ∙ get_or_from_slice_get places 0 c.args.root_core 0 c.requires.root)) has
    (subst (λ h. IsLoadedHost c.args.code.now c.args.placement.now c.args.parts.core h) (sym c.in-Ok.ensures.ok) c.in_ok-host.ensures))

pub unreachable-requires : goal.unreachable-requires
unreachable-requires c =
    let places = c.args.placement.now.places in
    let e = c.in_default.ensures.err in
    let none = lacks c.args.code.now c.args.placement.now c.args.parts.core c.in_ok-host.host (λ here. c.if-core-root_core.false (here ∙ get_or_from_slice_get places 0 c.args.root_core 0 c.requires.root)) c.in_ok-host.ensures in
    let both : true ≡ false = sym e.1 ∙ ap (λ (h : Hosted). is_here h 0) e.0 ∙ none in cc
