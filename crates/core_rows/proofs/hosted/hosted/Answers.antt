use Rattle.std.proofs.Common.{◌≡◌, ◌<◌, [], ◌∷◌, ℕ, zero, suc, length, vec_len, refl, sym, ap, ◌∙◌, arith, rules, Result, Ok, Err, IfOk}
use Rattle.std.proofs.lemmas.List.{length-map}
use Rattle.std.specs.List.{All}
use Rattle.core_seats.specs.Loads.{AreAll}
use Rattle.tick_jobs.proofs.Lists.{ok_then}
use Rattle.thread_code.specs.Plain.{plain_code, plain_block}
use Rattle.core_rows.proofs.hosted.hosted.Goals as goal

all_below : (cores : ℕ) → cores ≡ 3 → All (λ core. core < cores) (0 ∷ 1 ∷ 2 ∷ [])
all_below cores e = grind (arith, e)

no_others : (cores : ℕ) → cores ≡ 3 → AreAll cores (0 ∷ 1 ∷ 2 ∷ [])
no_others cores e zero h = refl
no_others cores e (suc zero) h = refl
no_others cores e (suc (suc zero)) h = refl
no_others cores e (suc (suc (suc core))) h = absurd (omega (arith, e, h))

pub load-requires : goal.load-requires
load-requires c =
    let same = ap (λ parts. vec_len parts.threads) c.parts.ensures.same in
    let placed : length c.args.placement.now.places ≡ length (plain_code c.args.code.now).threads =
    omega (arith, c.threads.ensures, c.if-threads-count.false, c.len-count.ensures, same, length-map c.args.code.now.threads.items plain_block) in
    c.in_ok-port.ensures.serves c.args.placement.now (0 ∷ 1 ∷ 2 ∷ []) placed refl (all_below c.args.placement.now.cores c.requires.cores) (no_others c.args.placement.now.cores c.requires.cores)

pub returns-clause-whole : goal.returns-clause-whole
returns-clause-whole c = ok_then c.load.result c.load.ensures (λ h new. new.whole c.in_ok-port.ensures.tells (no_others c.args.placement.now.cores c.requires.cores))

pub returns-clause-code : goal.returns-clause-code
returns-clause-code c = ok_then c.load.result c.load.ensures (λ h new. new.code_is)
