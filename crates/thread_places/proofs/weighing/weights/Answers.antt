use Rattle.std.proofs.Common.{◌≡◌, ◌≤◌, ◌∙◌, ◌++◌, append-nil, ap, sym, length, sum, drop, map, arith, List, ℕ}
use Rattle.std.proofs.lemmas.List.{drop_all, length-map}
use Rattle.forec_kernel.specs.Shapes.{plain_kernel, plain_thread}
use Rattle.forec_kernel.specs.declared.shape.Shape.{Shape}
use Rattle.forec_kernel.specs.Weight.{stmt_weight}
use Rattle.thread_places.specs.Placed.{weights_of}
use Rattle.thread_places.proofs.Few.{all_weights, weights_low}
use Rattle.thread_places.proofs.weighing.weights.Goals as goal

pub returns-clause-few : goal.returns-clause-few
returns-clause-few c =
    let k = plain_kernel c.args.kernel.now in
    let is : c.loop-thread.list.items ≡ weights_of k = all_weights k.threads c.loop-thread.thread c.loop-thread.list.items (omega (arith, c.loop-thread-test.false, c.len-threads.ensures, c.shape.ensures.well_formed.bodies, length-map c.args.kernel.now.shape.threads.items plain_thread, ap (λ (s : Shape). length s.threads.items) c.shape.ensures.same)) c.loop-thread.invariant in
    rw is (omega (arith, weights_low k.threads, c.shape.ensures.well_formed.few_terms))

pub returns-clause-count : goal.returns-clause-count
returns-clause-count c =
    let k = plain_kernel c.args.kernel.now in
    let is : c.loop-thread.list.items ≡ weights_of k = all_weights k.threads c.loop-thread.thread c.loop-thread.list.items (omega (arith, c.loop-thread-test.false, c.len-threads.ensures, c.shape.ensures.well_formed.bodies, length-map c.args.kernel.now.shape.threads.items plain_thread, ap (λ (s : Shape). length s.threads.items) c.shape.ensures.same)) c.loop-thread.invariant in
    omega (arith, ap (λ (l : List ℕ). length l) is, length-map k.threads stmt_weight, c.shape.ensures.well_formed.few_threads)
