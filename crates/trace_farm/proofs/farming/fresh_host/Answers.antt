use Rattle.std.proofs.Common.{◌≡◌, ◌<◌, [], ◌∷◌, ℕ, zero, suc, Result, Ok, Err, IfOk, refl, arith}
use Rattle.std.specs.List.{All}
use Rattle.core_seats.specs.Loads.{AreAll}
use Rattle.trace_farm.proofs.farming.fresh_host.Goals as goal

ok_then : {A E : Type 0} {P Q : A → Type 0} (r : Result A E) → IfOk r P → ((x : A) → P x → Q x) → IfOk r Q
ok_then (Ok x) had then = then x had
ok_then (Err e) had then = had

all_below : (cores : ℕ) → cores ≡ 1 → All (λ core. core < cores) (0 ∷ [])
all_below cores e = grind (arith, e)

no_others : (cores : ℕ) → cores ≡ 1 → AreAll cores (0 ∷ [])
no_others cores e zero h = refl
no_others cores e (suc core) h = absurd (omega (arith, e, h))

pub load-requires : goal.load-requires
load-requires c =
    let cores = c.args.placement.now.cores in
    c.in_ok-port.ensures.serves c.args.placement.now (0 ∷ []) c.requires.placed refl (all_below cores c.requires.one) (no_others cores c.requires.one)

pub returns : goal.returns
returns c =
    ok_then c.load.result c.load.ensures (λ h new.
    let whole = new.whole c.in_ok-port.ensures.tells (no_others c.args.placement.now.cores c.requires.one) in
    record { code_is = new.code_is; whole = whole; live = new.live; none = (new.fresh whole).turns })
