use Rattle.std.proofs.Common.{◌≡◌, ◌+◌, ◌-◌, ◌<◌, ◌∙◌, ℕ, List, [], refl, sym, ap, subst, arith, length, get_or}
use Rattle.std.proofs.lemmas.List.{get_or_read_under}
use Rattle.thread_state.specs.Parts.{parts, RiseTo}
use Rattle.thread_state.proofs.PartLemmas.{count_parts, some_there, part_at, in_part}
use Rattle.thread_state.proofs.uses.Uses.at.Goals as goal

-- where the variable at a place of a thread lies in the list
record Lies (starts xs : List ℕ) (t p : ℕ) : Type 0 where
  start : t < length starts
  within : get_or starts t 0 + p < length xs
  is : get_or (get_or (parts starts xs) t []) p 0 ≡ get_or xs (get_or starts t 0 + p) 0

lies : (starts xs : List ℕ) (t p : ℕ) (all : List (List ℕ)) → RiseTo (length xs) starts → parts starts xs ≡ all → p < length (get_or all t []) → Lies starts xs t p
lies starts xs t p all rise view lt =
    let inside = subst (λ ls. p < length (get_or ls t [])) (sym view) lt in
    let next : t + 1 < length starts = omega (arith, some_there (parts starts xs) t p inside, count_parts (length xs) starts xs rise) in
    let from = get_or starts t 0 in
    let part = part_at starts xs t next in
    let at = in_part xs from (get_or starts (t + 1) 0 - from) p (subst (λ l. p < length l) part inside) in
    record { start = omega (arith, next); within = at.0; is = ap (λ l. get_or l p 0) part ∙ at.1 }

pub index-requires : goal.index-requires
index-requires c =
    let at = lies c.self.inside.starts.items c.self.inside.variables.items c.args.thread c.args.place c.args.self.now c.self.invariant c.self.view_is c.requires in
    omega (arith, at.start, c.self.inside.starts.ok.0)

pub overflow_add-index : goal.overflow_add-index
overflow_add-index c =
    let starts = c.self.inside.starts.items in
    let at = lies starts c.self.inside.variables.items c.args.thread c.args.place c.args.self.now c.self.invariant c.self.view_is c.requires in
    let from = get_or_read_under starts c.args.thread (length starts) _ 0 c.index.ensures at.start refl in
    omega (arith, at.within, from, c.self.inside.variables.ok)

pub index-requires-2 : goal.index-requires-2
index-requires-2 c =
    let starts = c.self.inside.starts.items in
    let at = lies starts c.self.inside.variables.items c.args.thread c.args.place c.args.self.now c.self.invariant c.self.view_is c.requires in
    let from = get_or_read_under starts c.args.thread (length starts) _ 0 c.index.ensures at.start refl in
    omega (arith, at.within, from, c.self.inside.variables.ok.0)

pub returns : goal.returns
returns c =
    let starts = c.self.inside.starts.items in
    let xs = c.self.inside.variables.items in
    let at = lies starts xs c.args.thread c.args.place c.args.self.now c.self.invariant c.self.view_is c.requires in
    let from = get_or_read_under starts c.args.thread (length starts) _ 0 c.index.ensures at.start refl in
    let i = c.index.result.now + c.args.place in
    get_or_read_under xs i (length xs) _ 0 c.index-2.ensures (omega (arith, at.within, from)) refl
    ∙ ap (λ a. get_or xs (a + c.args.place) 0) from
    ∙ sym at.is
    ∙ ap (λ ls. get_or (get_or ls c.args.thread []) c.args.place 0) c.self.view_is
