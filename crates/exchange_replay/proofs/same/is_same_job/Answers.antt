use Rattle.std.proofs.Common.{rules, ◌≡◌, sym, ap, refl}
use Rattle.exchange_replay.proofs.Sames.{jobs_same, allowances_same, copies_same, args_same, job_kinds, start_kind, copies_are, copies_are_not}
use Rattle.std.specs.Bool.{Decides}
use mathlib.Core.Bool.{true≢false}
use Rattle.std.proofs.lemmas.Bool.Decides.{Decides-int_eq}
use Rattle.std.proofs.lemmas.Slice.Eq.{slice_eq-Decides}
use Rattle.combine_tree.specs.Plain.{plain_packet, plain_kind}
use Rattle.exchange_replay.proofs.same.is_same_job.Goals.{then-ne-via-then-ne, then-ne-via-else-ne+then-a-b, then-ne-via-else-ne+else-a-b+then-ne-2}
use Rattle.exchange_replay.proofs.same.is_same_job.Goals as goal

pub returns-then-ne : goal.returns-then-ne
returns-then-ne c i j p q = (
  (λ e. absurd (true≢false (sym e))),
  (λ e.
      absurd (elim c.then-ne.branch [
        | then-ne-via-then-ne w ↦ (let k : c.args.a.now.kind ≡ c.args.b.now.kind → ⊥ = search rules in k (job_kinds c.args.a.now c.args.b.now i j p q e))
        | then-ne-via-else-ne+then-a-b w ↦ (let x : c.args.a.now.allowance ≡ c.args.b.now.allowance → ⊥ = search rules in x (allowances_same (plain_packet c.args.a.now) (plain_packet c.args.b.now) i j p q e))
        | then-ne-via-else-ne+else-a-b+then-ne-2 w ↦ copies_are_not c.args.a.now.copies.items c.args.b.now.copies.items w.if-ne-2.ensures (copies_same (plain_packet c.args.a.now) (plain_packet c.args.b.now) i j p q e)
      ])),
)

pub returns-in-Start : goal.returns-in-Start
returns-in-Start c i j p q =
    let k : c.args.a.now.kind ≡ c.args.b.now.kind = search rules in
    let d : Decides c.eq.result (c.args.a.now.args.items ≡ c.args.b.now.args.items) = slice_eq-Decides Decides-int_eq c.args.a.now.args.items c.args.b.now.args.items c.eq.result c.eq.ensures in
    let co = copies_are c.args.a.now.copies.items c.args.b.now.copies.items c.if-ne-2.ensures in
    ((λ t. jobs_same (plain_packet c.args.a.now) (plain_packet c.args.b.now) i j p q (ap plain_kind k) c.if-a-b.false co (λ _. d.0 t)), (λ e. d.1 (args_same (plain_packet c.args.a.now) (plain_packet c.args.b.now) i j p q e (ap plain_kind c.in-Start.is))))

pub returns-in_default : goal.returns-in_default
returns-in_default c i j p q =
    let k : c.args.a.now.kind ≡ c.args.b.now.kind = search rules in
    let co = copies_are c.args.a.now.copies.items c.args.b.now.copies.items c.if-ne-2.ensures in
    ((λ t. jobs_same (plain_packet c.args.a.now) (plain_packet c.args.b.now) i j p q (ap plain_kind k) c.if-a-b.false co (λ f. absurd (c.in_default.not-Start (start_kind c.args.a.now.kind f)))), (λ e. refl))
