-- A text is that of one log.
use Rattle.std.specs.Prelude.{ℕ, ◌^◌, ◌<◌, ◌≡◌, List, length}
use Rattle.forec_kernel.specs.Shapes.{PlainShape}
use Rattle.exchange_meaning.specs.Logged.{ExchangeLog}
use Rattle.log_text.specs.Fronts.{IsLogOf}

abbrev pub TextHasOneLog : Type 0
TextHasOneLog =
    (s : PlainShape) (log other : ExchangeLog) (bytes : List ℕ) → length bytes < 2 ^ 64 → IsLogOf s log bytes → IsLogOf s other bytes →
    (t : ℕ) → 0 < t → t < length s.threads → log t ≡ other t
