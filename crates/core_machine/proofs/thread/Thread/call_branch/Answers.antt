use Rattle.std.proofs.Common.{◌∙◌, ◌-◌, Some, cond, refl, sym, ap, subst}
use Rattle.thread_code.specs.Plain.{plain_code}
use Rattle.thread_code.specs.declared.instruction.Instruction.TheVariants as instruction
use Rattle.core_machine.specs.Threads.{RunsInPhase}
use Rattle.core_machine.specs.RunParts.{Begun, started_by, woken_by}
use Rattle.core_machine.specs.Direct.{IsNewFork, IsHeldFork, start_packet, wake_packet}
use Rattle.core_machine.proofs.Direct.{start_is, wake_is, paused_there}
use Rattle.core_machine.proofs.Jobs.{start_stands, wake_stands}
use Rattle.core_machine.proofs.thread.Thread.call_branch.Goals as goal

pub wake_branch-requires-clause-paused : goal.wake_branch-requires-clause-paused
wake_branch-requires-clause-paused c =
    let h = c.args.self.now in
    let f = c.fork_here.result in
    let is = c.fork_here.ensures ∙ ap (λ b. Some (cond b (instruction.Again f.par f.to) (instruction.Fork f.par f.to))) c.if-fork_here.true in
    let held = subst (λ k. IsHeldFork (plain_code k) h) c.parts-parts.ensures.same (f.par, f.to, is) in
    paused_there (plain_code c.args.code.now) h c.requires.loaded c.requires.fork c.args.k c.requires.index held c.args.branch.now c.requires.job

pub start_branch-requires-clause-fresh : goal.start_branch-requires-clause-fresh
start_branch-requires-clause-fresh c =
    let f = c.fork_here.result in
    let is = c.fork_here.ensures ∙ ap (λ b. Some (cond b (instruction.Again f.par f.to) (instruction.Fork f.par f.to))) c.if-fork_here.false in
    (f.par, f.to, is)

pub returns-then-fork_here : goal.returns-then-fork_here
returns-then-fork_here c =
    let h = c.args.self.now in
    let b = c.args.branch.now in
    let b' = c.wake_branch.new.branch in
    let code = plain_code c.args.code.now in
    let same = c.parts-parts.ensures.same in
    let f = c.fork_here.result in
    let is = c.fork_here.ensures ∙ ap (λ b. Some (cond b (instruction.Again f.par f.to) (instruction.Fork f.par f.to))) c.if-fork_here.true in
    let held = subst (λ k. IsHeldFork (plain_code k) h) same (f.par, f.to, is) in
    let k = c.args.k in
    let p = wake_packet code h k in
    let g = subst (λ k. Begun (plain_code k) b b' (woken_by (plain_code k) b (wake_packet (plain_code k) h c.args.k)) (h.allowance - h.units)) same c.wake_branch.ensures in
    let asleep = paused_there code h c.requires.loaded c.requires.fork k c.requires.index held b c.requires.job in
    record {
      loaded = g.loaded;
      running = subst (RunsInPhase b') (sym g.running) refl;
      number = g.number;
      stands = λ w xs e st. wake_stands code c.parts-parts.ensures.valid b c.requires.branch c.requires.resting p b' g asleep refl xs w.job (wake_is code h c.requires.loaded c.requires.fork k c.requires.index held w e) st;
    }

pub returns-else-fork_here : goal.returns-else-fork_here
returns-else-fork_here c =
    let h = c.args.self.now in
    let b = c.args.branch.now in
    let b' = c.start_branch.new.branch in
    let code = plain_code c.args.code.now in
    let same = c.parts-parts.ensures.same in
    let f = c.fork_here.result in
    let is = c.fork_here.ensures ∙ ap (λ b. Some (cond b (instruction.Again f.par f.to) (instruction.Fork f.par f.to))) c.if-fork_here.false in
    let fresh = subst (λ k. IsNewFork (plain_code k) h) same (f.par, f.to, is) in
    let k = c.args.k in
    let p = start_packet code h k in
    let g = subst (λ k. Begun (plain_code k) b b' (started_by (plain_code k) b (start_packet (plain_code k) h c.args.k)) (h.allowance - h.units)) same c.start_branch.ensures in
    record {
      loaded = g.loaded;
      running = subst (RunsInPhase b') (sym g.running) refl;
      number = g.number;
      stands = λ w xs e st. start_stands code c.parts-parts.ensures.valid b c.requires.branch c.requires.resting p b' g refl xs w.job (start_is code h c.requires.loaded c.requires.fork k c.requires.index fresh w e) st;
    }
