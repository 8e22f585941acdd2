-- The text of a log, pair by pair.
use Rattle.std.proofs.Common.{◌≡◌, ℕ, zero, suc, ◌+◌, ◌<◌, List, [], ◌∷◌, ◌++◌, length, drop, refl, ap, ◌∙◌, arith}
use Rattle.forec_kernel.specs.Packets.{PlainPacket}
use Rattle.copy_slots.specs.Ports.{sent, got}
use Rattle.core_seats.specs.Posts.{Mail}
use Rattle.exchange_meaning.specs.Logged.{Logged}
use Rattle.exchange_meaning.specs.LogLines.{exchange_lines}
use Rattle.exchange_log.specs.Posted.{both, log_in}
use Rattle.exchange_log.specs.Lines.{pair_lines}

-- one pair more
pub exchange_step : (ls : List Logged) (j : ℕ) → j < length ls → exchange_lines (drop j ls) ≡ pair_lines j ls ++ exchange_lines (drop (j + 1) ls)
exchange_step [] j lt = absurd (omega (arith, lt))
exchange_step (l ∷ ls) zero lt = refl
exchange_step (l ∷ ls) (suc j) lt =
    let e : suc (j + 1) ≡ suc j + 1 = omega arith in exchange_step ls j (omega (arith, lt)) ∙ ap (λ m. pair_lines j ls ++ exchange_lines (drop m (l ∷ ls))) e

both_length : (ps qs : List PlainPacket) → length qs ≡ length ps → length (both ps qs) ≡ length ps
both_length [] qs e = refl
both_length (p ∷ ps) [] e = cc
both_length (p ∷ ps) (q ∷ qs) e = let e' : length qs ≡ length ps = cc in ap suc (both_length ps qs e')

-- as many pairs as jobs, where all are answered
pub log_length : (mail : Mail) (k : ℕ) → length (got mail k) ≡ length (sent mail k) → length (log_in mail (suc k)) ≡ length (sent mail k)
log_length mail k e = both_length (sent mail k) (got mail k) e
