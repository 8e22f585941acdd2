use Rattle.std.proofs.Common.{◌≡◌, ◌+◌, ◌<◌, ◌++◌, ◌∷◌, [], ◌∙◌, ℕ, List, ap, sym, subst, refl, arith, length, take, length-set, true, false, append-nil}
use Rattle.forec_kernel.specs.Shapes.{plain_shape}
use Rattle.thread_code.specs.Valid.{branches_in}
use Rattle.thread_state.specs.Pars.{Links, Lead}
use Rattle.core_machine.specs.Branches.{chosen}
use Rattle.thread_state.proofs.Shapes.{few_branches}
use Rattle.core_machine.proofs.Gathering.{chosen_next, chosen_none, one_chosen}
use Rattle.thread_state.proofs.Links.{Ahead, first_leads, ahead, behind_last, next_falls}
use Rattle.core_machine.proofs.branches.fill.Goals as goal
use Rattle.core_machine.proofs.branches.fill.Goals.{In-Some, then-is_chosen, else-is_chosen}

take_none : (xs : List ℕ) → take 0 xs ≡ []
take_none [] = refl
take_none (x ∷ xs) = refl

pub loop-next-init : goal.loop-next-init
loop-next-init c =
    let bs = branches_in (plain_shape c.args.shape.now) c.args.par in
    record {
      rest = bs;
      lead = first_leads _ bs c.args.par c.first-next.ensures c.pars-pars.ensures (c.requires.pars.lead c.args.par);
      long = refl;
      count = omega (arith, few_branches (plain_shape c.args.shape.now).threads 0 c.args.par, c.requires.room);
      front = ap (λ l. l ++ chosen c.args.again c.args.own.now.live bs) (take_none c.args.numbers.now);
    }

-- the branch, and those after it
found : (c : In-Some) → Ahead (plain_shape c.args.shape.now) c.pars-pars.result.now.siblings c.in-Some.branch c.loop-next.invariant.rest
found c =
    let inv = c.loop-next.invariant in ahead (plain_shape c.args.shape.now) c.pars-pars.result.now.siblings c.loop-next.next inv.rest c.in-Some.branch inv.lead c.in-Some.is

pub is_chosen-requires : goal.is_chosen-requires
is_chosen-requires c =
    let a = found (goal.at.is_chosen-requires c).In-Some in
    let n = ap (λ (p : Links). length p.siblings) c.pars-pars.ensures in
    omega (arith, a.link.within, n, c.requires.pars.threads, c.requires.live)

pub next-next-requires : goal.next-next-requires
next-next-requires c = (found (goal.at.next-next-requires c).In-Some).link.within

pub loop-next-smaller : goal.loop-next-smaller
loop-next-smaller c = next_falls (plain_shape c.args.shape.now) _ (found (goal.at.loop-next-smaller c).In-Some).link c.in-Some.is c.next-next.ensures

pub loop-next-preserved : goal.loop-next-preserved
loop-next-preserved c =
    let s = plain_shape c.args.shape.now in
    let ss = c.pars-pars.result.now.siblings in
    let b = c.in-Some.branch in
    let again = c.args.again in
    let live = c.args.own.now.live in
    let inv = c.loop-next.invariant in
    let a = found (goal.at.loop-next-preserved c).In-Some in
    let lead = subst (λ o. Lead s ss o a.rest) (sym c.next-next.ensures) a.lead in
    let numbers = c.loop-next.numbers in
    let n = c.loop-next.count in
    let all = chosen again live (branches_in s c.args.par) in
    let more = ap (λ l. length l) a.is in
    elim c.if-is_chosen.branch [
      | then-is_chosen w ↦
          let yes = ap (chosen again live) a.is ∙ chosen_next again live b a.rest true (sym c.is_chosen.ensures ∙ w.if-is_chosen.true) in
          let room : n < length numbers = omega (arith, inv.count, inv.long, more) in
          let front = one_chosen numbers n b all (chosen again live a.rest) room (ap (λ l. take n numbers ++ l) (sym yes) ∙ inv.front) in
          record {
            rest = a.rest;
            lead = lead;
            long = ap length w.numbers-is ∙ length-set numbers n b ∙ inv.long;
            count = omega (arith, w.count-is, inv.count, more);
            front = ap (λ m. take m c.if-is_chosen.numbers ++ chosen again live a.rest) w.count-is ∙ ap (λ l. take (n + 1) l ++ chosen again live a.rest) w.numbers-is ∙ front;
          }
      | else-is_chosen w ↦
          let not = ap (chosen again live) a.is ∙ chosen_next again live b a.rest false (sym c.is_chosen.ensures ∙ w.if-is_chosen.false) in
          record {
            rest = a.rest;
            lead = lead;
            long = ap length w.numbers-is ∙ inv.long;
            count = omega (arith, w.count-is, inv.count, more);
            front = ap (λ m. take m c.if-is_chosen.numbers ++ chosen again live a.rest) w.count-is ∙ ap (λ l. take n l ++ chosen again live a.rest) w.numbers-is
                ∙ ap (λ l. take n numbers ++ l) (sym not) ∙ inv.front;
          }
    ]

pub returns-clause-front : goal.returns-clause-front
returns-clause-front c =
    let s = plain_shape c.args.shape.now in
    let ss = c.pars-pars.result.now.siblings in
    let again = c.args.again in
    let live = c.args.own.now.live in
    let inv = c.loop-next.invariant in
    let none = behind_last s ss inv.rest (subst (λ o. Lead s ss o inv.rest) c.in_default.is inv.lead) in
    let front = take c.loop-next.count c.loop-next.numbers in
    sym (append-nil front) ∙ ap (λ l. front ++ l) (sym (ap (chosen again live) none ∙ chosen_none again live)) ∙ inv.front
