use Rattle.std.proofs.Common.{◌≡◌, ℕ, ◌+◌, ◌-◌, ◌<◌, ◌≤◌, ◌∙◌, List, [], refl, sym, ap, arith, length, take, drop, get_or}
use Rattle.std.proofs.lemmas.List.{get_or_read_under}
use Rattle.thread_state.proofs.PartLemmas.{rise_at, count_parts, part_at}
use Rattle.thread_state.proofs.uses.Uses.of.Goals.{After-index-2}
use Rattle.thread_state.proofs.uses.Uses.of.Goals as goal

pub index-requires : goal.index-requires
index-requires c = let s = c.self.inside in omega (arith, c.requires, ap length c.self.view_is, count_parts (length s.variables.items) s.starts.items s.variables.items c.self.invariant, s.starts.ok.0)

pub index-requires-2 : goal.index-requires-2
index-requires-2 c = let s = c.self.inside in omega (arith, c.requires, ap length c.self.view_is, count_parts (length s.variables.items) s.starts.items s.variables.items c.self.invariant, s.starts.ok.0)

-- the bounds of this thread's part
module _ (c : After-index-2) where
  abbrev starts : List ℕ
  starts = c.self.inside.starts.items

  abbrev xs : List ℕ
  xs = c.self.inside.variables.items

  lt : c.args.thread + 1 < length starts
  lt = omega (arith, c.requires, ap length c.self.view_is, count_parts (length xs) starts xs c.self.invariant)

  from : c.index.result.now ≡ get_or starts c.args.thread 0
  from = get_or_read_under starts c.args.thread (length starts) _ 0 c.index.ensures (omega (arith, lt)) refl

  to : c.index-2.result.now ≡ get_or starts (c.args.thread + 1) 0
  to = get_or_read_under starts (c.args.thread + 1) (length starts) _ 0 c.index-2.ensures lt refl

  rises : (c.index.result.now ≤ c.index-2.result.now) × (c.index-2.result.now ≤ length xs)
  rises = let rise = rise_at (length xs) starts c.args.thread c.self.invariant lt in (omega (arith, rise.0, from, to), omega (arith, rise.1, to))

pub slice_bounds-result-count : goal.slice_bounds-result-count
slice_bounds-result-count c = omega (arith, (rises (goal.at.slice_bounds-result-count c).After-index-2).0)

pub slice_bounds-result-start : goal.slice_bounds-result-start
slice_bounds-result-start c =
    let rise = rises (goal.at.slice_bounds-result-start c).After-index-2 in
    omega (arith, rise.0, rise.1, ap length c.deref.ensures.value)

pub slice_bounds-result-end : goal.slice_bounds-result-end
slice_bounds-result-end c = omega (arith, (rises (goal.at.slice_bounds-result-end c).After-index-2).1, ap length c.deref.ensures.value)

pub returns : goal.returns
returns c =
    let at = (goal.at.returns c).After-index-2 in
    let t = c.args.thread in
    ap (take (c.index-2.result.now - c.index.result.now)) (ap (drop c.index.result.now) c.deref.ensures.value)
    ∙ ap (λ b. take (b - c.index.result.now) (drop c.index.result.now (xs at))) (to at)
    ∙ ap (λ a. take (get_or (starts at) (t + 1) 0 - a) (drop a (xs at))) (from at)
    ∙ sym (part_at (starts at) (xs at) t (lt at))
    ∙ ap (λ ls. get_or ls t []) c.self.view_is
