use Rattle.std.proofs.Common.{◌≡◌, ◌<◌, refl, sym, ap, ◌∙◌, subst}
use Rattle.exchange_replay.proofs.ForkLemmas.{its_job, is_own, number_at, track_within, track_there, track_has, track_before, branch_passed}
use Rattle.std.specs.Prelude.{slice_set, slice_index_or, Some}
use Rattle.tick_jobs.proofs.Lists.{get_set_else, some_once}
use Rattle.std.proofs.lemmas.Option.{slice_get_within}
use Rattle.forec_kernel.specs.Engine.{Written}
use Rattle.exchange_replay.specs.Tracks.{IsBeforePairs}
use Rattle.thread_code.specs.Plain.{plain_code}
use Rattle.exchange_replay.proofs.walk.Walk.passes_branch.Goals as goal

pub index_mut-requires : goal.index_mut-requires
index_mut-requires c =
    let k = plain_code c.args.code.now in
    let p = c.requires.passed in
    let lt = track_within k.shape c.args.log.now p.log c.args.self.now.thread.number c.args.self.now.branches.items p.told p.passed c.args.branch (is_own k c.args.self.now.thread c.requires.fork c.args.k c.args.branch c.requires.branch) in
    subst (λ n. c.args.branch < n) (sym c.args.self.now.branches.ok.0) lt

pub unreachable-requires : goal.unreachable-requires
unreachable-requires c =
    let k = plain_code c.args.code.now in
    let p = c.requires.passed in
    track_there k.shape c.args.log.now p.log c.args.self.now.thread.number c.args.self.now.branches.items p.told p.passed c.args.branch (is_own k c.args.self.now.thread c.requires.fork c.args.k c.args.branch c.requires.branch)
    c.index_mut.result.now c.index_mut.ensures.value c.in_default.is

pub passes_branch-requires-clause-branch : goal.passes_branch-requires-clause-branch
passes_branch-requires-clause-branch c = slice_get_within c.args.self.now.thread.branches.numbers c.args.k c.args.branch c.requires.branch

pub passes_branch-requires-clause-before : goal.passes_branch-requires-clause-before
passes_branch-requires-clause-before c =
    let k = plain_code c.args.code.now in
    let p = c.requires.passed in
    let h = c.args.self.now.thread in
    let has = track_has k.shape c.args.log.now p.log h.number c.args.self.now.branches.items p.told p.passed c.args.branch (is_own k h c.requires.fork c.args.k c.args.branch c.requires.branch)
    c.index_mut.result.now c.index_mut.ensures.value c.in-Some.track c.in-Some.is in
    (has.left, subst (λ n. IsBeforePairs k.shape n c.args.log.now c.in-Some.track has.left) (sym (number_at k h c.requires.fork c.args.k c.args.branch c.requires.branch)) has.before)

pub returns-clause-others : goal.returns-clause-others
returns-clause-others c n other = get_set_else c.args.self.now.branches.items c.args.branch n (Some c.passes_branch.new.self) other

pub returns-clause-passes : goal.returns-clause-passes
returns-clause-passes c pairs told w at p =
    let k = plain_code c.args.code.now in
    let h = c.args.self.now.thread in
    let mine = (c.requires.fork.mine c.args.k w at).0 in
    let job = its_job k h c.requires.fork c.args.k c.args.branch c.requires.branch in
    let branch : w.branch ≡ c.args.branch = ap (λ (v : Written). v.branch) (some_once w job.0 (sym at ∙ job.1)) ∙ job.2 in
    let read : c.index_mut.result.now ≡ slice_index_or c.args.self.now.branches.items w.branch c.index_mut.result.now = c.index_mut.ensures.value ∙ ap (λ n. slice_index_or c.args.self.now.branches.items n c.index_mut.result.now) (sym branch) in
    let before = track_before k.shape c.args.log.now pairs h.number c.args.self.now.branches.items told p w.branch mine c.index_mut.result.now read c.in-Some.track c.in-Some.is in
    let left = (p.each w.branch mine).has.left in
    branch_passed k c.args.log.now pairs h c.args.self.now.branches.items told p w mine c.passes_branch.new.self c.passes_branch.result (c.passes_branch.ensures w left at before) _ refl
    (ap (λ n. slice_set c.args.self.now.branches.items n (Some c.passes_branch.new.self)) (sym branch))
