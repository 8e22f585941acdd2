use Rattle.std.proofs.Common.{rules, ◌≡◌, ◌∙◌, sym, ap, subst, arith, length, w32, to_z, of_z}
use Rattle.thread_code.specs.Plain.{plain_code}
use Rattle.thread_state.specs.Frames.{Frames, top_of, pushed, popped, left, resume_in}
use Rattle.thread_state.specs.declared.stack.Resume.{Resume}
use Rattle.core_machine.specs.declared.thread.Thread.{Thread}
use Rattle.core_machine.specs.declared.thread.Phase.TheVariants as phase
use Rattle.core_machine.specs.RunParts.{Returns}
use Rattle.core_machine.proofs.CallRuns.{return_top, return_below, return_room, return_same_room, return_goes}
use Rattle.core_machine.proofs.thread.Thread.return_to_caller.Goals as goal

pub pop-value-requires : goal.pop-value-requires
pop-value-requires c = return_top c.requires.running.0 (plain_code c.args.code.now) c.requires.valid c.args.self.now c.requires.loaded c.requires.running.1 c.requires.before (λ e. c.requires.deep (c.requires.running.1 ∙ ap phase.Running e))

pub leave-resume-requires : goal.leave-resume-requires
leave-resume-requires c =
    let n = return_below c.requires.running.0 (plain_code c.args.code.now) c.requires.valid c.args.self.now c.requires.loaded c.requires.running.1 c.requires.before (λ e. c.requires.deep (c.requires.running.1 ∙ ap phase.Running e)) in
    let e = ap (λ (f : Frames). length f.below) c.pop-value.ensures.rest in
    omega (arith, n, e)

pub push-requires : goal.push-requires
push-requires c =
    let h = c.args.self.now in
    let n = return_room c.requires.running.0 (plain_code c.args.code.now) c.requires.valid h c.requires.loaded c.requires.running.1 c.requires.before (λ e. c.requires.deep (c.requires.running.1 ∙ ap phase.Running e)) in
    let r = return_same_room c.requires.running.0 (plain_code c.args.code.now) c.requires.valid h c.requires.loaded c.requires.running.1 c.requires.before (λ e. c.requires.deep (c.requires.running.1 ∙ ap phase.Running e)) in
    let e = c.leave-resume.ensures.frames ∙ ap left c.pop-value.ensures.rest in
    let u = ap (λ (f : Frames). f.used) e in
    let m = ap (λ (f : Frames). f.room) e in
    omega (arith, n, r, u, m)

pub returns : goal.returns
returns c =
    let h = c.args.self.now in
    let v : to_z w32 (of_z w32 c.pop-value.result) ≡ c.pop-value.result = search rules in
    let f = c.leave-resume.ensures.frames ∙ ap left c.pop-value.ensures.rest in
    let e = c.push.ensures ∙ ap (λ n. pushed n c.leave-resume.new.self) (v ∙ c.pop-value.ensures.top) ∙ ap (pushed (top_of h.stack.stack)) f in
    let r = c.leave-resume.ensures.resume ∙ ap (λ (f : Frames). resume_in f.below) c.pop-value.ensures.rest in
    let make : Resume → Frames → Thread = λ r s. record { number = h.number; phase = h.phase; function = r.block; at = r.at; stack = s; own = h.own; units = h.units; allowance = h.allowance; branches = h.branches; joining = h.joining } in
    subst (λ s. Returns (plain_code c.args.code.now) h (make c.leave-resume.result s)) (sym e)
    (subst (λ r. Returns (plain_code c.args.code.now) h (make r (pushed (top_of h.stack.stack) (left (popped h.stack))))) (sym r)
    (return_goes c.requires.running.0 (plain_code c.args.code.now) c.requires.valid h c.requires.loaded c.requires.running.1 c.requires.before (λ e. c.requires.deep (c.requires.running.1 ∙ ap phase.Running e))))
