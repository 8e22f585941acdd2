use Rattle.std.proofs.Common.{rules, ◌≡◌, ◌-◌, length, true, sym, ap, ◌∙◌, subst, arith}
use Rattle.std.specs.Prelude.{None, slice_get}
use Rattle.std.proofs.lemmas.List.{length-map}
use Rattle.forec_kernel.specs.declared.shape.Shape.{Shape}
use Rattle.forec_kernel.specs.Packets.{PlainPacket}
use Rattle.thread_code.specs.declared.instruction.CodeParts.{CodeParts}
use Rattle.thread_code.specs.Plain.{plain_block, plain_code}
use Rattle.combine_tree.specs.Plain.{plain_packet}
use Rattle.core_seats.specs.Loads.{AreOwn}
use Rattle.core_host.specs.Hosted.{Hosted, hosted}
use Rattle.core_host.specs.Rests.{IsHosted}
use Rattle.core_host.specs.Runs.{IsNewHost}
use Rattle.tick_jobs.proofs.Rooms.{blank_room}
use Rattle.tick_jobs.proofs.TickOutcome.{blank_of}
use Rattle.core_host.proofs.Newly.{is_new}
use Rattle.core_host.proofs.host.Host.load_with.Given.{Over}
use Rattle.core_host.proofs.host.Host.load_with.Goals.{In_ok-cores}
use Rattle.core_host.proofs.host.Host.load_with.Goals as goal

pub invariant_of-result : goal.invariant_of-result
invariant_of-result g c =
    let cores : c.in_ok-cores.cores.items ≡ c.args.cores.now = search rules in (
      subst (λ l. AreOwn c.in_ok-places.places.items l c.in_ok-own.own.items) (sym cores)
          (subst (λ l. AreOwn l c.args.cores.now c.in_ok-own.own.items) c.deref-2.ensures.value c.in_ok-own.ensures),
      (omega arith, tt),
    )

-- the host that was made
abbrev host_of : (g : Over) → In_ok-cores g → Hosted
host_of g c = hosted (record { code = c.args.code.now; places = c.in_ok-places.places.items; mail = g.P.Port.state c.args.port; seats = c.in_ok-seats.seats.items; hands = c.in_ok-hands.hands.items }) c.in_ok-cores.cores.items c.in_ok-root.root true None

made : (g : Over) (c : In_ok-cores g) → IsHosted (host_of g c) × IsNewHost c.args.code.now c.args.placement.now c.args.cores.now (g.P.Port.state c.args.port) (host_of g c)
made g c =
    let s = (plain_code c.args.code.now).shape in
    let valid = c.parts.ensures.valid in
    let counted : c.len.result ≡ length s.variables = omega (arith, c.len.ensures, ap (λ (x : Shape). length x.variables.items) c.shape.ensures.same, c.shape.result.now.variables.ok.0) in
    let room = blank_room s valid.shape c.len.result (plain_packet c.in_ok-root.root) counted c.in_ok-root.ensures in
    let kind = blank_of c.in_ok-root.root.kind (ap (λ (p : PlainPacket). p.kind) c.in_ok-root.ensures) in
    let places = c.in_ok-places.ensures.same in
    let cores : c.in_ok-cores.cores.items ≡ c.args.cores.now = search rules in
    let read : c.deref.result.now ≡ c.args.placement.now.places = c.deref.ensures.value ∙ places in
    let count = c.in_ok-seats.ensures.count ∙ ap length read in
    let threads : c.len-threads.result ≡ length (plain_code c.args.code.now).threads =
    omega (arith, c.len-threads.ensures, ap (λ (x : CodeParts). length x.threads.items) c.parts.ensures.same, c.parts.result.now.threads.ok.0, length-map c.args.code.now.threads.items plain_block) in
    let hands = c.in_ok-hands.ensures.count ∙ ap (λ n. n - 1) threads in
    is_new c.args.code.now valid c.args.placement.now c.args.cores.now (g.P.Port.state c.args.port) c.requires.loads c.in_ok-places.ensures.placed c.in_ok-seats.seats.items count
    (λ t core z place at. c.in_ok-seats.ensures.each t core z (ap (λ l. slice_get l t) read ∙ place) at) c.in_ok-hands.hands.items hands c.in_ok-hands.ensures.each c.in_ok-root.root room kind
    c.in_ok-places.places.items c.in_ok-cores.cores.items (sym places) (sym cores)

pub invariant_of-result-2 : goal.invariant_of-result-2
invariant_of-result-2 g c = (made g (goal.at.invariant_of-result-2 g c).In_ok-cores).0

pub own_mailboxes-requires : goal.own_mailboxes-requires
own_mailboxes-requires g c =
    let valid = c.parts.ensures.valid in
    let some = valid.shape.some in
    let threads = valid.threads in
    let placed = c.requires.loads.placed in
    let same = c.in_ok-places.ensures.same in
    let read = c.deref-2.ensures.value in
    let few = valid.shape.few_threads in
    let count = ap length (read ∙ same) in record { some = omega (arith, some, threads, placed, count); few = omega (arith, few, threads, placed, count) }

pub returns : goal.returns
returns g c = (made g (goal.at.returns g c).In_ok-cores).1
