use Rattle.std.proofs.Common.{rules, ◌≡◌, ◌+◌, ◌-◌, ◌<◌, ◌∙◌, ℕ, List, None, length, map, drop, replicate, subst, sym, ap, arith}
use Rattle.std.proofs.lemmas.List.{length-map, length-drop}
use Rattle.forec_kernel.specs.declared.shape.ThreadShape.{ThreadShape}
use Rattle.forec_kernel.specs.Shapes.{PlainThread, plain_shape, plain_thread}
use Rattle.forec_kernel.specs.Texts.{params_in}
use Rattle.forec_kernel.specs.WellFormed.{blank_thread, branches_of}
use Rattle.thread_state.specs.declared.pars.Sibling.{Sibling}
use Rattle.thread_state.specs.Pars.{Links, links_of, first_of, with_first}
use Rattle.thread_state.proofs.Shapes.{read_params, few_branches, all_uses}
use Rattle.thread_state.proofs.Links.{LinkedFrom, linked_none, linked_root, linked_branch, par_below, lead_small, lead_within, lead_arguments}
use Rattle.thread_state.proofs.Living.{read_plain}
use Rattle.thread_state.proofs.pars.Table.new.Goals as goal

pub put_first-requires-clause-par : goal.put_first-requires-clause-par
put_first-requires-clause-par c =
    let s = plain_shape c.args.shape.now in
    let threads = c.args.shape.now.threads.items in
    let i = c.loop-thread.thread - 1 in
    let n = length-map threads plain_thread in
    let lt : i < length threads = omega (arith, c.loop-thread.invariant.within) in
    let par = ap (λ (t : PlainThread). t.par) (read_plain plain_thread threads i c.index-found.result.now blank_thread lt c.index-found.ensures) ∙ c.in-Some.is in
    omega (arith, par_below s c.requires i (omega (arith, lt, n)) c.in-Some.par par, c.loop-thread.invariant.linked.firsts)

pub put_first-requires-clause-behind : goal.put_first-requires-clause-behind
put_first-requires-clause-behind c =
    let s = plain_shape c.args.shape.now in
    let p = c.loop-thread.pars in
    let j = c.in-Some.par in
    let i = c.loop-thread.thread in
    lead_within s p.siblings (first_of p j) (branches_of (drop i s.threads) i j) (c.loop-thread.invariant.linked.lead j)

pub put_first-requires-clause-few : goal.put_first-requires-clause-few
put_first-requires-clause-few c =
    let s = plain_shape c.args.shape.now in
    let threads = c.args.shape.now.threads.items in
    let p = c.loop-thread.pars in
    let j = c.in-Some.par in
    let i = c.loop-thread.thread in
    let lt : i - 1 < length threads = omega (arith, c.loop-thread.invariant.within) in
    let n : length s.threads ≡ length threads = length-map threads plain_thread in
    let t = c.requires.each_thread (i - 1) (omega (arith, lt, n)) in
    let lead = c.loop-thread.invariant.linked.lead j in
    let bs = branches_of (drop i s.threads) i j in
    omega (
      arith,
      t.params,
      t.words,
      read_params threads (i - 1) c.index-found.result.now lt c.index-found.ensures,
      lead_arguments s p.siblings (first_of p j) bs lead,
      lead_small s c.requires p.siblings c.loop-thread.invariant.linked.siblings (first_of p j) bs lead,
      few_branches (drop i s.threads) i j,
      length-drop i s.threads,
      c.requires.few_threads,
    )

pub loop-thread-preserved-in-Some : goal.loop-thread-preserved-in-Some
loop-thread-preserved-in-Some c =
    let s = plain_shape c.args.shape.now in
    let threads = c.args.shape.now.threads.items in
    let p = c.loop-thread.pars in
    let j = c.in-Some.par in
    let i = c.loop-thread.thread - 1 in
    let lt : i < length threads = omega (arith, c.loop-thread.invariant.within) in
    let n : length s.threads ≡ length threads = length-map threads plain_thread in
    let within : i < length s.threads = omega (arith, lt, n) in
    let e : c.loop-thread.thread ≡ i + 1 = omega arith in
    let par = ap (λ (t : PlainThread). t.par) (read_plain plain_thread threads i c.index-found.result.now blank_thread lt c.index-found.ensures) ∙ c.in-Some.is in
    let linked = subst (LinkedFrom s p) e c.loop-thread.invariant.linked in
    let one = linked_branch s p i within linked j par (par_below s c.requires i within j par) in
    let params : params_in s.threads i ≡ c.index-found.result.now.params = read_params threads i c.index-found.result.now lt c.index-found.ensures in
    record {
      within = omega (arith, lt);
      linked = subst (λ p. LinkedFrom s p i) (ap (λ n. with_first j i n p) params ∙ sym c.put_first.ensures) one;
      uses = ap (λ (p : Links). p.uses) c.put_first.ensures ∙ c.loop-thread.invariant.uses;
    }

pub loop-thread-preserved : goal.loop-thread-preserved
loop-thread-preserved c =
    let s = plain_shape c.args.shape.now in
    let threads = c.args.shape.now.threads.items in
    let p = c.loop-thread.pars in
    let i = c.loop-thread.thread - 1 in
    let lt : i < length threads = omega (arith, c.loop-thread.invariant.within) in
    let n : length s.threads ≡ length threads = length-map threads plain_thread in
    let e : c.loop-thread.thread ≡ i + 1 = omega arith in
    let par = ap (λ (t : PlainThread). t.par) (read_plain plain_thread threads i c.index-found.result.now blank_thread lt c.index-found.ensures) ∙ c.in_default.is in
    record {
      within = omega (arith, lt);
      linked = linked_root s p i (omega (arith, lt, n)) (subst (LinkedFrom s p) e c.loop-thread.invariant.linked) par;
      uses = c.loop-thread.invariant.uses;
    }

pub loop-thread-init : goal.loop-thread-init
loop-thread-init c =
    let s = plain_shape c.args.shape.now in
    let threads = c.args.shape.now.threads.items in
    let n = c.len-count.result in
    let uses = c.in_ok-new.field-0 in
    let used : ThreadShape → List ℕ = λ t. t.uses.items in
    let none : Sibling = record { next = None; arguments = 0 } in
    let long : n ≡ length threads = search rules in
    let firsts : c.in_ok-vec.field-0.items ≡ replicate n None = search rules in
    let siblings = c.in_ok-vec-2.ensures.items_if_clones_equal (λ y e. e) in
    let linked = linked_none s n none uses (long ∙ sym (length-map threads plain_thread)) in
    record {
      within = omega (arith, long);
      linked = subst (λ fs. LinkedFrom s (links_of fs c.in_ok-vec-2.field-0.items uses) n) (sym firsts)
          (subst (λ ss. LinkedFrom s (links_of (replicate n None) ss uses) n) (sym siblings) linked);
      uses = c.in_ok-new.ensures ∙ ap (map used) c.deref.ensures.value ∙ all_uses threads;
    }
