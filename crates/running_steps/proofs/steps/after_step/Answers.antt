use Rattle.std.proofs.Common.{◌≡◌, ◌∙◌, ℕ, ℤ, SFits, w32, rules, refl, ap, slice_set}
use Rattle.std.proofs.lemmas.Int.{to_z-of_z}
use Rattle.forec_kernel.specs.Steps.{thread_after}
use Rattle.forec_kernel.specs.Texts as plain
use Rattle.forec_kernel.specs.Values.{cleared}
use Rattle.running_threads.specs.Views.{plugged, focused, plain_running_thread}
use Rattle.running_threads.specs.Moves.{next_text, plugged_move}
use Rattle.running_steps.specs.Moving.{rested, leads}
use Rattle.running_steps.specs.Taking.{origin_of}
use Rattle.running_steps.specs.declared.moving.Step.TheVariants as step
use Rattle.running_steps.proofs.Threads.{after_ok, after_write}
use Rattle.running_steps.proofs.steps.after_step.Goals as goal

pub returns-in_ok-finish-in-Ok-Finishes : goal.returns-in_ok-finish-in-Ok-Finishes
returns-in_ok-finish-in-Ok-Finishes c = λ old new m h.
    let t = c.args.t.now in
    after_ok (origin_of c.args.uses.now t) step.Finishes old new m (plain_running_thread t) _ t.frames.items _
    (rw (c.in-Ok-Finishes.is, c.in-Ok-Finishes.field-0-is) at h) (λ u. c.in_ok-finish-in-Ok-Finishes.ensures)

pub returns-in-Ok-Halts : goal.returns-in-Ok-Halts
returns-in-Ok-Halts c = λ old new m h.
    let t = c.args.t.now in
    after_ok (origin_of c.args.uses.now t) step.Halts old new m (plain_running_thread t) _ t.frames.items _
    (rw (c.in-Ok-Halts.is, c.in-Ok-Halts.field-0-is) at h) (λ u. c.halt.ensures)

pub returns-in-Ok-Sets : goal.returns-in-Ok-Sets
returns-in-Ok-Sets c = λ old new m h.
    let t = c.args.t.now in
    let s = origin_of c.args.uses.now t in
    let fits : SFits w32 c.in-Ok-Sets.value = search rules in
    let set : ℤ → ℕ → plain.Thread = λ n u. thread_after (plain_running_thread t) (plugged_move t.frames.items t.words.items t.copies.items (leads s (step.Sets c.in-Ok-Sets.to n) u)) in
    after_ok s (step.Sets c.in-Ok-Sets.to c.in-Ok-Sets.value) old new m (plain_running_thread t) _ t.frames.items _
    (rw (c.in-Ok-Sets.is, c.in-Ok-Sets.field-0-is) at h) (λ u. c.set.ensures u ∙ ap (λ n. set n u) (to_z-of_z w32 c.in-Ok-Sets.value fits))

pub returns-in-Ok-SetsAt : goal.returns-in-Ok-SetsAt
returns-in-Ok-SetsAt c = λ old new m h.
    let t = c.args.t.now in
    let a = step.SetsAt c.in-Ok-SetsAt.slot c.in-Ok-SetsAt.value in
    let fits : SFits w32 c.in-Ok-SetsAt.value = search rules in
    let set = slice_set t.words.items c.in-Ok-SetsAt.slot in
    after_write (origin_of c.args.uses.now t) a old new m (plain_running_thread t) _ t.frames.items (set c.in-Ok-SetsAt.value)
    t.copies.items plain.Done _ (rw (c.in-Ok-SetsAt.is, c.in-Ok-SetsAt.field-0-is) at h) (λ u. refl)
    (ap (λ l. record (plain_running_thread t) { text = plugged t.frames.items plain.Done; words = l })
    (c.set_word.ensures ∙ ap set (to_z-of_z w32 c.in-Ok-SetsAt.value fits)))

pub returns-in-Ok-Puts : goal.returns-in-Ok-Puts
returns-in-Ok-Puts c = λ old new m h.
    let t = c.args.t.now in
    let s = origin_of c.args.uses.now t in
    let fits : SFits w32 c.in-Ok-Puts.value = search rules in
    let put : ℤ → ℕ → plain.Thread = λ n u. thread_after (plain_running_thread t) (plugged_move t.frames.items t.words.items t.copies.items (leads s (step.Puts c.in-Ok-Puts.variable n) u)) in
    after_ok s (step.Puts c.in-Ok-Puts.variable c.in-Ok-Puts.value) old new m (plain_running_thread t) _ t.frames.items _
    (rw (c.in-Ok-Puts.is, c.in-Ok-Puts.field-0-is) at h) (λ u. c.put.ensures u ∙ ap (λ n. put n u) (to_z-of_z w32 c.in-Ok-Puts.value fits))

pub returns-in-Ok-Clears : goal.returns-in-Ok-Clears
returns-in-Ok-Clears c = λ old new m h.
    let t = c.args.t.now in
    let a = step.Clears c.in-Ok-Clears.slot c.in-Ok-Clears.length in
    after_write (origin_of c.args.uses.now t) a old new m (plain_running_thread t) _ t.frames.items (cleared t.words.items c.in-Ok-Clears.slot c.in-Ok-Clears.length)
    t.copies.items plain.Done _ (rw (c.in-Ok-Clears.is, c.in-Ok-Clears.field-0-is) at h) (λ u. refl)
    (ap (λ l. record (plain_running_thread t) { text = plugged t.frames.items plain.Done; words = l }) c.clear_words.ensures)

pub returns-in-Ok-Joins : goal.returns-in-Ok-Joins
returns-in-Ok-Joins c = λ old new m h.
    let t = c.args.t.now in
    let copies = c.in-Ok-Joins.copies in
    after_write (origin_of c.args.uses.now t) (step.Joins copies) old new m (plain_running_thread t) _ t.frames.items t.words.items
    copies.items (rested (focused t.focus)) _ (rw (c.in-Ok-Joins.is, c.in-Ok-Joins.field-0-is) at h) (λ u. refl)
    (ap (λ R. record (plain_running_thread t) { text = plugged t.frames.items R; copies = copies.items }) c.rest.ensures)

pub returns-in_ok-t-in-Ok-Becomes : goal.returns-in_ok-t-in-Ok-Becomes
returns-in_ok-t-in-Ok-Becomes c = λ old new m h.
    let t = c.args.t.now in
    let next = c.in-Ok-Becomes.next in
    after_write (origin_of c.args.uses.now t) (step.Becomes next) old new m (plain_running_thread t) _ t.frames.items t.words.items
    t.copies.items (next_text next) _ (rw (c.in-Ok-Becomes.is, c.in-Ok-Becomes.field-0-is) at h) (λ u. refl)
    (ap (λ R. record (plain_running_thread t) { text = R }) c.in_ok-t-in-Ok-Becomes.ensures)

pub returns-in-Err : goal.returns-in-Err
returns-in-Err c = λ old new m h. c.stop.ensures c.args.uses.now old new m (rw c.in-Err.is at h)
