use Rattle.std.proofs.Common.{◌≡◌, ◌==◌, ◌∙◌, List, Bool, cond, sym, ap, subst}
use Rattle.std.specs.Prelude.{slice_set}
use Rattle.thread_state.specs.Kept.{PlainOwn, kept_of, AreUpTo, with_live_at}
use Rattle.thread_state.proofs.Starts.{lives_set, up_to_set, note_of, note_small}
use Rattle.thread_state.proofs.own.Own.set_live.Goals as goal

pub invariant_of-self : goal.invariant_of-self
invariant_of-self c =
    let k = c.self.inside in
    let t = c.args.thread in (
      c.self.invariant.0,
      subst (λ n. AreUpTo k.start (slice_set k.live.items t n)) (sym c.note-note.ensures) (up_to_set k.start k.live.items t (cond c.args.live k.start 0) (note_small k.start c.args.live) c.self.invariant.1),
    )

pub returns : goal.returns
returns c =
    let k = c.self.inside in
    let t = c.args.thread in
    let make : List Bool → PlainOwn = λ l. kept_of k.copies.items k.places.items k.flags.items l k.pars in
    let note : (c.note-note.result == k.start) ≡ c.args.live = ap (λ n. n == k.start) c.note-note.ensures ∙ note_of k.start c.args.live c.self.invariant.0 in
    ap make (lives_set k.start k.live.items t c.note-note.result c.args.live note) ∙ ap (with_live_at t c.args.live) c.self.view_is
