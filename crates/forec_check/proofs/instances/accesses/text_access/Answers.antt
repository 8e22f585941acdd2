use Rattle.std.proofs.Common.{◌≡◌, ◌∙◌, ◌+◌, ◌<◌, ℕ, sym, ap, refl, List, ◌∷◌, length, get_or, drop, add-one}
use Rattle.std.specs.Prelude.{reverse}
use Rattle.std.proofs.Math.Seq.{drop-cons}
use Rattle.forec_check.specs.AccessScan.{scan_start}
use Rattle.program_walk.specs.declared.walk.effects.Effect.{Effect}
use Rattle.forec_check.specs.AccessCounts.{called_access, scan_effect, scan_effects}
use Rattle.forec_check.proofs.instances.accesses.text_access.Goals as goal

next_effect : (es : List Effect) (i : ℕ) (d : Effect) → i < length es → drop i es ≡ get_or es i d ∷ drop (i + 1) es
next_effect es i d h = drop-cons es i d h ∙ rw add-one refl

pub loop-effect-init : goal.loop-effect-init
loop-effect-init c = (scan_start, record { own = refl; below = refl; round = ap reverse c.new.ensures.items }, refl)

pub loop-effect-preserved : goal.loop-effect-preserved
loop-effect-preserved c =
    let inv = c.loop-effect.invariant in
    let called = called_access c.args.table.now in (
      scan_effect c.args.g called inv.0 _,
      c.in_ok-count_effect.ensures inv.0 inv.1,
      sym (ap (scan_effects c.args.g called inv.0) (next_effect c.args.effects.now c.loop-effect.effect-index _ c.loop-effect-test.true)) ∙ inv.2,
    )
