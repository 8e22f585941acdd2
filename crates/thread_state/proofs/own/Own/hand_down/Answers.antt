use Rattle.std.proofs.Common.{rules, ◌≡◌, ◌∙◌, sym, ap, subst, arith, get_or, length, take, length-set, false, ℕ, w32, to_z, of_z}
use Rattle.std.proofs.lemmas.List.{length-map}
use Rattle.forec_kernel.specs.declared.shape.VarCopy.{VarCopy}
use Rattle.thread_state.specs.Kept.{PlainOwn, HavePlaces, place_in, no_copy, handed_by}
use Rattle.thread_state.specs.Pars.{used_by}
use Rattle.thread_state.proofs.Indexed.{places_at}
use Rattle.thread_state.proofs.Lists.{front_next, read_map, take_past}
use Rattle.thread_state.proofs.own.Own.hand_down.Goals as goal

pub copy-requires-clause-known : goal.copy-requires-clause-known
copy-requires-clause-known c =
    let k = c.args.self.now in
    let uses = take (length c.args.copies.now) c.uses.result.now in
    let all = c.uses.ensures ∙ ap (λ (k : PlainOwn). used_by k.pars c.args.branch) c.self.view_is in
    let is : uses ≡ used_by k.pars c.args.branch = take_past c.uses.result.now (length c.args.copies.now) (omega (arith, ap length all, c.requires.room)) ∙ all in
    (places_at k uses c.loop-i.i (subst (HavePlaces k) (sym is) c.requires.places) (omega (arith, ap length is, c.requires.room, c.loop-i.invariant.long))).0

pub copy-requires-clause-inside : goal.copy-requires-clause-inside
copy-requires-clause-inside c =
    let k = c.args.self.now in
    let uses = take (length c.args.copies.now) c.uses.result.now in
    let all = c.uses.ensures ∙ ap (λ (k : PlainOwn). used_by k.pars c.args.branch) c.self.view_is in
    let is : uses ≡ used_by k.pars c.args.branch = take_past c.uses.result.now (length c.args.copies.now) (omega (arith, ap length all, c.requires.room)) ∙ all in
    (places_at k uses c.loop-i.i (subst (HavePlaces k) (sym is) c.requires.places) (omega (arith, ap length is, c.requires.room, c.loop-i.invariant.long))).1

pub loop-i-preserved : goal.loop-i-preserved
loop-i-preserved c =
    let k = c.args.self.now in
    let uses = take (length c.args.copies.now) c.uses.result.now in
    let i = c.loop-i.i in
    let all = c.uses.ensures ∙ ap (λ (k : PlainOwn). used_by k.pars c.args.branch) c.self.view_is in
    let is : uses ≡ used_by k.pars c.args.branch = take_past c.uses.result.now (length c.args.copies.now) (omega (arith, ap length all, c.requires.room)) ∙ all in
    let long : length uses ≡ length c.loop-i.copies = sym c.loop-i.invariant.long in
    let f : ℕ → VarCopy = λ v. record { value = (get_or k.copies (place_in k v) no_copy).value; modified = false } in
    let value : to_z w32 (of_z w32 c.copy.result) ≡ c.copy.result = search rules in
    let n = length-map uses f in
    let same = ap (λ x. record { value = x; modified = false }) (value ∙ c.copy.ensures) ∙ sym (read_map f uses i 0 no_copy (omega (arith, long, ap length is, c.requires.room))) in
    record {
      long = length-set _ _ _ ∙ c.loop-i.invariant.long;
      front = front_next c.loop-i.copies (handed_by k uses) i _ no_copy (omega (arith, long, ap length is, c.requires.room)) (omega (arith, n, long, ap length is, c.requires.room)) same c.loop-i.invariant.front;
    }
