use Rattle.std.proofs.Common.{ap, SFits, w32, rules}
use Rattle.std.proofs.lemmas.Int.{to_z-of_z}
use Rattle.forec_kernel.specs.Texts as plain
use Rattle.running_threads.specs.Views.{plugged, plain_running_thread}
use Rattle.running_steps.proofs.Threads.{after_goes}
use Rattle.running_steps.proofs.steps.set.Goals as goal

pub returns-in-Local : goal.returns-in-Local
returns-in-Local c = λ u.
    let t = c.args.t.now in
    let fits : SFits w32 c.args.value = search rules in
    rw c.in-Local.is
    (after_goes (plain_running_thread t) _ t.frames.items t.words.items _ t.copies.items _ plain.Done u
    (ap (λ l. record (plain_running_thread t) { text = plugged t.frames.items plain.Done; words = l }) (simp to_z-of_z at c.set_word.ensures)))

pub returns-in-Variable : goal.returns-in-Variable
returns-in-Variable c = λ u.
    let fits : SFits w32 c.args.value = search rules in
    rw c.in-Variable.is (simp to_z-of_z at (c.put.ensures u))
