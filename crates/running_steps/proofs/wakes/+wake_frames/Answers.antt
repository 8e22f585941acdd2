use Rattle.std.proofs.Common.{◌≡◌, ◌∙◌, ◌∷◌, [], ◌++◌, drop, SFits, w32, rules, refl, ap, sym, subst, Ok, Err}
use Rattle.forec_kernel.specs.Plain.{expr}
use Rattle.running_texts.proofs.Tests.{zero_of, nonzero_of}
use Rattle.running_threads.specs.declared.threads.Frame.TheVariants as frame
use Rattle.running_steps.specs.declared.wakes.Reach.TheVariants as reach
use Rattle.running_steps.specs.Waking.{IsReached, fate_in_thread}
use Rattle.running_steps.specs.Moving.{value_in}
use Rattle.running_steps.proofs.Fates.{head_is, tail_is, reached_in, reached_out, watches_on, lasts_on, goes_out, test_fails}
use Rattle.running_steps.proofs.wakes.+wake_frames.Goals as goal

pub returns-then-n-eq0 : goal.returns-then-n-eq0
returns-then-n-eq0 d c =
    let fits : SFits w32 c.in-Ok.n = search rules in
    let fs = c.args.frames.now in
    let f = frame.Watch c.in-Watch.weak c.in-Watch.test in
    let inner = fate_in_thread c.args.kernel.now c.args.values.now (drop 1 fs) in
    let parts : fs ≡ f ∷ drop 1 fs = head_is fs f c.first-item.result c.in-len1-up.len_at_least c.first-item.is c.in-Watch.is in
    subst (λ l. IsReached (fate_in_thread c.args.kernel.now c.args.values.now l) c.args.after.now.items c.wake_frames.new.after.items c.args.left.now c.wake_frames.new.left c.wake_frames.result) (sym parts)
    (watches_on c.in-Watch.weak f inner (value_in c.args.kernel.now c.args.values.now (expr c.in-Watch.test.now)) c.args.after.now.items c.wake_frames.new.after.items c.args.left.now c.tested.new.left c.wake_frames.new.left c.in-Ok.n c.wake_frames.result
    (c.in-Ok.ensures _ _ c.number_of-part.ensures) (zero_of _ fits c.if-n-eq0.true)
    (reached_in f inner c.args.after.now.items c.push.new.self.items c.wake_frames.new.after.items c.tested.new.left c.wake_frames.new.left c.wake_frames.result
    (c.in_ok-push-in-Ok.ensures.items ∙ ap (λ x. c.args.after.now.items ++ x ∷ []) c.in-Watch.is) (subst (λ l. IsReached (fate_in_thread c.args.kernel.now c.args.values.now l) c.push.new.self.items c.wake_frames.new.after.items c.tested.new.left c.wake_frames.new.left c.wake_frames.result)
    (tail_is fs) c.wake_frames.ensures)))

pub returns-then-weak : goal.returns-then-weak
returns-then-weak d c =
    let fs = c.args.frames.now in
    let f = frame.Watch c.in-Watch.weak c.in-Watch.test in
    let inner = fate_in_thread c.args.kernel.now c.args.values.now (drop 1 fs) in
    let parts : fs ≡ f ∷ drop 1 fs = head_is fs f c.first-item.result c.in-len1-up.len_at_least c.first-item.is c.in-Watch.is in
    subst (λ l. IsReached (fate_in_thread c.args.kernel.now c.args.values.now l) c.args.after.now.items c.wake_frames-then-weak.new.after.items c.args.left.now c.wake_frames-then-weak.new.left c.wake_frames-then-weak.result) (sym parts)
    (lasts_on c.in-Watch.weak f inner (value_in c.args.kernel.now c.args.values.now (expr c.in-Watch.test.now)) c.args.after.now.items c.wake_frames-then-weak.new.after.items c.args.left.now c.tested.new.left c.wake_frames-then-weak.new.left c.in-Ok.n c.wake_frames-then-weak.result
    (c.in-Ok.ensures _ _ c.number_of-part.ensures) (nonzero_of _ c.if-n-eq0.false) c.if-weak.true
    (reached_in frame.Last inner c.args.after.now.items c.push-then-weak.new.self.items c.wake_frames-then-weak.new.after.items c.tested.new.left c.wake_frames-then-weak.new.left c.wake_frames-then-weak.result
    c.in_ok-push-in-Ok-2.ensures.items (subst (λ l. IsReached (fate_in_thread c.args.kernel.now c.args.values.now l) c.push-then-weak.new.self.items c.wake_frames-then-weak.new.after.items c.tested.new.left c.wake_frames-then-weak.new.left c.wake_frames-then-weak.result)
    (tail_is fs) c.wake_frames-then-weak.ensures)))

pub returns-else-weak : goal.returns-else-weak
returns-else-weak d c =
    let fs = c.args.frames.now in
    let f = frame.Watch c.in-Watch.weak c.in-Watch.test in
    let inner = fate_in_thread c.args.kernel.now c.args.values.now (drop 1 fs) in
    let parts : fs ≡ f ∷ drop 1 fs = head_is fs f c.first-item.result c.in-len1-up.len_at_least c.first-item.is c.in-Watch.is in
    subst (λ l. IsReached (fate_in_thread c.args.kernel.now c.args.values.now l) c.args.after.now.items c.args.after.now.items c.args.left.now c.tested.new.left (Ok reach.Out)) (sym parts)
    (goes_out c.in-Watch.weak f inner (value_in c.args.kernel.now c.args.values.now (expr c.in-Watch.test.now)) c.args.after.now.items c.args.after.now.items c.args.left.now c.tested.new.left c.tested.new.left c.in-Ok.n (Ok reach.Out)
    (c.in-Ok.ensures _ _ c.number_of-part.ensures) (nonzero_of _ c.if-n-eq0.false) c.if-weak.false (reached_out c.args.after.now.items c.tested.new.left))

pub returns-in-Err : goal.returns-in-Err
returns-in-Err d c =
    let fs = c.args.frames.now in
    let f = frame.Watch c.in-Watch.weak c.in-Watch.test in
    let inner = fate_in_thread c.args.kernel.now c.args.values.now (drop 1 fs) in
    let parts : fs ≡ f ∷ drop 1 fs = head_is fs f c.first-item.result c.in-len1-up.len_at_least c.first-item.is c.in-Watch.is in
    subst (λ l. IsReached (fate_in_thread c.args.kernel.now c.args.values.now l) c.args.after.now.items c.args.after.now.items c.args.left.now c.tested.new.left (Err c.in-Err.halt)) (sym parts)
    (test_fails c.in-Watch.weak f inner (value_in c.args.kernel.now c.args.values.now (expr c.in-Watch.test.now)) c.args.after.now.items c.args.after.now.items c.args.left.now c.tested.new.left c.tested.new.left c.in-Err.halt
    (c.in-Err.ensures _ _ c.number_of-part.ensures))
