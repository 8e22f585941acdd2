use Rattle.std.proofs.Common.{◌≡◌, sym, subst}
use Rattle.thread_code.specs.Plain.{plain_code}
use Rattle.thread_code.specs.Machine.{shares_of, code_uses}
use Rattle.core_machine.specs.declared.branches.Verdict.TheVariants as verdict
use Rattle.core_machine.specs.Forks.{branch_at}
use Rattle.core_machine.specs.Merging.{Prepared, Combined, StepsOn}
use Rattle.core_machine.proofs.Joined.{joined_stands, joined_loaded}
use Rattle.core_machine.proofs.thread.Thread.join.Goals.{After-prepare, After-end_join}
use Rattle.core_machine.proofs.thread.Thread.join.Goals as goal

-- of the same code
prepared : (c : After-prepare) → Prepared (plain_code c.args.code.now) c.args.self.now c.prepare.new.self c.args.k
prepared c = subst (λ k. Prepared (plain_code k) c.args.self.now c.prepare.new.self c.args.k) c.parts-parts.ensures.same c.prepare.ensures

steps_on : (c : After-end_join) → StepsOn (plain_code c.args.code.now) c.combine.new.self c.end_join.new.self
steps_on c = subst (λ k. StepsOn (plain_code k) c.combine.new.self c.end_join.new.self) c.parts-parts.ensures.same c.end_join.ensures

pub returns-clause-stands : goal.returns-clause-stands
returns-clause-stands c = λ p xs rs r copies n q is stands.
    let at = goal.at.returns-clause-stands c in
    let code = plain_code c.args.code.now in
    let h1 = c.prepare.new.self in
    let h2 = c.combine.new.self in
    let on = λ (e : h1.branches.verdict ≡ verdict.Combine).
    subst (λ cs. Combined code h1 h2 (shares_of (code_uses code (branch_at h1 c.args.k)) cs)) (sym copies) (c.combine.ensures.on e) in
    joined_stands code c.args.self.now h1 h2 c.end_join.new.self c.requires.loaded c.args.k c.requires.order (prepared at.After-prepare) p on c.combine.ensures.stays (steps_on at.After-end_join) xs rs r n q is stands

pub returns-clause-loaded : goal.returns-clause-loaded
returns-clause-loaded c =
    let at = goal.at.returns-clause-loaded c in
    let code = plain_code c.args.code.now in
    let h1 = c.prepare.new.self in
    joined_loaded code c.args.self.now h1 c.combine.new.self c.end_join.new.self c.requires.loaded c.args.k c.requires.order (prepared at.After-prepare) (shares_of (code_uses code (branch_at h1 c.args.k)) c.args.copies.now) c.combine.ensures.on c.combine.ensures.stays (steps_on at.After-end_join)
