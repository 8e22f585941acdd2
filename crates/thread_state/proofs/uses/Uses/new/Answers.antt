use Rattle.std.proofs.Common.{rules, ◌≡◌, ◌+◌, ◌<◌, ◌∙◌, ◌++◌, ◌∷◌, List, ℕ, [], sym, ap, subst, arith, length, map, drop, get_or}
use Rattle.std.proofs.lemmas.List.{length-append, append_assoc}
use Rattle.forec_kernel.specs.declared.shape.ThreadShape.{ThreadShape}
use Rattle.thread_state.specs.Parts.{parts, RiseTo}
use Rattle.thread_state.proofs.Lists.{drop_next}
use Rattle.thread_state.proofs.PartLemmas.{rise_more, parts_more}
use Rattle.thread_state.proofs.uses.Uses.new.Goals as goal

pub loop-thread-preserved : goal.loop-thread-preserved
loop-thread-preserved c =
    let starts = c.loop-thread.starts.items in
    let xs = c.loop-thread.variables.items in
    let threads = c.args.threads.now in
    let i = c.loop-thread.thread-index in
    let ys = c.deref.result.now in
    let end = c.in_ok-end.end in
    let used : ThreadShape → List ℕ = λ t. t.uses.items in
    let lt : i < length threads = search rules in
    let one : ys ≡ used (get_or threads i c.thread-item.result) = c.deref.ensures.value ∙ ap used c.thread-item.is in
    let more = c.in_ok-extend_from_slice.ensures.items in
    let count : length c.extend_from_slice.new.self.items ≡ length xs + length ys = ap length more ∙ length-append xs ys in
    let long : end ≡ length xs + length ys = search rules in
    let put = c.in_ok-push.ensures.items in
    let rise = c.loop-thread.invariant.rise in
    let rest = map used (drop (i + 1) threads) in
    record {
      rise = subst (λ n. RiseTo n c.push.new.self.items) (long ∙ sym count) (subst (RiseTo end) (sym put) (rise_more (length xs) end starts (omega (arith, long)) rise));
      parts = ap (λ ss. parts ss c.extend_from_slice.new.self.items ++ rest) put
          ∙ ap (λ vs. parts (starts ++ end ∷ []) vs ++ rest) more
          ∙ ap (λ ls. ls ++ rest) (parts_more starts xs ys end rise long)
          ∙ append_assoc (parts starts xs) (ys ∷ []) rest
          ∙ ap (λ l. parts starts xs ++ l ∷ rest) one
          ∙ ap (λ l. parts starts xs ++ l) (sym (ap (map used) (drop_next threads i c.thread-item.result lt)))
          ∙ c.loop-thread.invariant.parts;
    }
