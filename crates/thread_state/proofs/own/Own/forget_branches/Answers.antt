use Rattle.std.proofs.Common.{◌≡◌, ◌+◌, ◌∙◌, List, Bool, false, length, replicate, sym, ap, subst, arith}
use Rattle.thread_state.specs.Kept.{PlainOwn, kept_of, AreUpTo, lives_in, without_branches}
use Rattle.thread_state.proofs.Starts.{none_lives, lives_count, lives_zeros, up_to_more, up_to_zeros}
use Rattle.thread_state.proofs.own.Own.forget_branches.Goals as goal

pub invariant_of-self : goal.invariant_of-self
invariant_of-self c =
    let k = c.self.inside in
    (omega arith, up_to_more k.start (k.start + 1) k.live.items (omega arith) c.self.invariant.1)

pub returns-then-self-lt4294967295 : goal.returns-then-self-lt4294967295
returns-then-self-lt4294967295 c =
    let k = c.self.inside in
    let make : List Bool → PlainOwn = λ l. kept_of k.copies.items k.places.items k.flags.items l k.pars in
    ap make (none_lives k.start k.live.items c.self.invariant.1 ∙ ap (λ n. replicate n false) (sym (lives_count k.start k.live.items))) ∙ ap without_branches c.self.view_is

pub invariant_of-self-2 : goal.invariant_of-self-2
invariant_of-self-2 c = (omega arith, subst (AreUpTo 1) (sym (c.fill.ensures.items (λ y e. e))) (up_to_zeros 1 _))

pub returns : goal.returns
returns c =
    let k = c.self.inside in
    let make : List Bool → PlainOwn = λ l. kept_of k.copies.items k.places.items k.flags.items l k.pars in
    let n : length k.live.items ≡ length (lives_in k.start k.live.items) = sym (lives_count k.start k.live.items) in
    ap make (ap (lives_in 1) (c.fill.ensures.items (λ y e. e)) ∙ lives_zeros _ ∙ ap (λ n. replicate n false) (k.live.ok.0 ∙ n)) ∙ ap without_branches c.self.view_is
