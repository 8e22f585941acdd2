use Rattle.std.proofs.Common.{◌∙◌, ◌∷◌, sym, ap, map, rules}
use Rattle.std.proofs.lemmas.List.{map-id}
use Rattle.std.proofs.lemmas.Iterator.Adapters.{YieldsList-from_vec}
use Rattle.std.proofs.lemmas.Iterator.Consumers.{YieldsList-end}
use Rattle.forec_kernel.specs.Plain.{stmt}
use Rattle.kernel_drafts.specs.Drafts.{thread_body}
use Rattle.kernel_drafts.proofs.drafts.texts_of.Goals as goal

pub returns : goal.returns
returns c =
    let end = YieldsList-end (YieldsList-from_vec {s = c.into_iter-thread-iterator.result} c.args.bodies.threads.items (search rules) (search rules))
    c.loop-thread.yielded c.loop-thread.thread-iterator c.loop-thread.yielded_by c.next.result c.next.new.self c.in-None.is c.next.ensures.steps in
    c.loop-thread.invariant ∙ ap (λ l. stmt c.args.bodies.main ∷ map thread_body l) (sym (map-id c.loop-thread.yielded) ∙ end.0)
