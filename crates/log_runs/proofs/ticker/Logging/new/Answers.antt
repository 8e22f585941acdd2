use Rattle.std.proofs.Common.{◌≡◌, ◌-◌, suc, ℕ, List, length, map, sym, ap, subst, ◌∙◌, arith}
use Rattle.std.proofs.lemmas.List.{length-map}
use Rattle.forec_kernel.specs.Shapes.{plain_thread}
use Rattle.forec_kernel.specs.declared.shape.Shape.{Shape}
use Rattle.thread_code.specs.Plain.{plain_code}
use Rattle.core_seats.specs.Loads.{AreAll, CanLoad}
use Rattle.core_seats.specs.Posts.{Mail}
use Rattle.log_writing.specs.Logging.{numbers_below}
use Rattle.log_runs.proofs.AllCores.{distinct_below, all_below, are_all}
use Rattle.log_runs.proofs.Unused.{unused_local}
use Rattle.log_runs.proofs.ticker.Logging.new.Goals as goal

pub new-requires : goal.new-requires
new-requires c =
    let code = plain_code c.args.code.now in
    let shape = ap (λ (s : Shape). length s.threads.items) c.shape.ensures.same in
    let mapped = length-map c.args.code.now.shape.threads.items plain_thread in
    let valid = c.shape.ensures.valid in
    let count : suc (c.len-mailboxes.result - 1) ≡ length code.threads =
    omega (arith, c.len-mailboxes.ensures, shape, mapped, valid.threads, valid.shape.some) in
    unused_local c.args.code.now _ (c.len-mailboxes.result - 1) c.in_ok-port.ensures.serves valid count

pub load-requires : goal.load-requires
load-requires c =
    let n = c.args.placement.now.cores in
    let cores : c.deref.result.now ≡ numbers_below n = c.deref.ensures.value ∙ c.in_ok-cores.ensures ∙ ap numbers_below c.cores.ensures.value in
    let all = c.in_ok-port.ensures.serves c.args.placement.now (numbers_below n) c.requires (distinct_below n) (all_below n n (omega arith)) (are_all n) in
    subst (λ (l : List ℕ). CanLoad c.args.code.now c.args.placement.now l c.in_ok-port-2.port.mail) (sym cores)
    (subst (λ (m : Mail). CanLoad c.args.code.now c.args.placement.now (numbers_below n) m) (sym c.in_ok-port-2.ensures.mail) all)

pub invariant_of-result : goal.invariant_of-result
invariant_of-result c =
    let n = c.args.placement.now.cores in
    let new = c.in_ok-host.ensures in
    let cores : c.deref.result.now ≡ numbers_below n = c.deref.ensures.value ∙ c.in_ok-cores.ensures ∙ ap numbers_below c.cores.ensures.value in
    let tells = ap (λ (m : Mail). m.tells) c.in_ok-port-2.ensures.mail ∙ c.in_ok-port.ensures.tells in
    let whole = new.whole tells (subst (AreAll n) (sym cores) (are_all n)) in
    record { same = new.code_is; whole = whole; given = _; jobs = (new.fresh whole).jobs }

pub returns : goal.returns
returns c =
    let n = c.args.placement.now.cores in
    let new = c.in_ok-host.ensures in
    let cores : c.deref.result.now ≡ numbers_below n = c.deref.ensures.value ∙ c.in_ok-cores.ensures ∙ ap numbers_below c.cores.ensures.value in
    let tells = ap (λ (m : Mail). m.tells) c.in_ok-port-2.ensures.mail ∙ c.in_ok-port.ensures.tells in
    let whole = new.whole tells (subst (AreAll n) (sym cores) (are_all n)) in
    record { code_is = new.code_is; live = new.live; none = (new.fresh whole).turns }
