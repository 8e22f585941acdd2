-- How far lines are those of a log of a shape.
use Rattle.std.specs.Prelude.{ℕ, zero, suc, ◌-◌, ◌<◌, ◌≤◌, ◌≡◌, ◌==◌, cond, List, [], ◌∷◌, ◌++◌, length, take, codes, decimal}
use Rattle.forec_kernel.specs.Shapes.{PlainShape}
use Rattle.exchange_meaning.specs.Logged.{Logged, ExchangeLog}
use Rattle.exchange_meaning.specs.LogLines.{job_line, reply_line, log_text}
use Rattle.exchange_meaning.specs.OfShape.{IsOfShape}
use Rattle.log_text.specs.Pieces.{IsDecimal}

-- the bytes are the text of this log, which is one of the shape
pub record IsLogOf (s : PlainShape) (log : ExchangeLog) (bytes : List ℕ) : Type 0 where
  pub fits : IsOfShape s log
  pub text : bytes ≡ log_text (length s.threads) log

-- ---- lines

abbrev pub onto_first : ℕ → List (List ℕ) → List (List ℕ)
onto_first b [] = (b ∷ []) ∷ []
onto_first b (line ∷ lines) = (b ∷ line) ∷ lines

-- the lines of a text: each goes up to its byte 10, and the last one may lack it
abbrev pub lines_in : List ℕ → List (List ℕ)
lines_in [] = []
lines_in (b ∷ bs) = cond (b == 10) ((b ∷ []) ∷ lines_in bs) (onto_first b (lines_in bs))

-- the line before the pairs of thread t, which are so many
pub record IsHeadLine (t jobs : ℕ) (line : List ℕ) : Type 0 where
  pub digits : List ℕ
  pub number : IsDecimal digits jobs
  pub is : line ≡ codes "thread " ++ (decimal t ++ (codes " jobs " ++ (digits ++ codes "\n")))

abbrev pub lines_of_pairs : List Logged → List (List ℕ)
lines_of_pairs [] = []
lines_of_pairs (l ∷ ls) = job_line l.job ∷ reply_line l.reply ∷ lines_of_pairs ls

-- the lines of so many threads of a log, from thread t on
abbrev pub AreLogLines : ExchangeLog → ℕ → ℕ → List (List ℕ) → Type 0
AreLogLines log t zero lines = lines ≡ []
AreLogLines log t (suc n) lines =
    (head : List ℕ) × (rest : List (List ℕ)) × IsHeadLine t (length (log t)) head × (lines ≡ head ∷ (lines_of_pairs (log t) ++ rest)) × AreLogLines log (suc t) n rest

-- some log of the shape begins with these lines
pub record BeginsLog (s : PlainShape) (lines : List (List ℕ)) : Type 0 where
  pub log : ExchangeLog
  pub fits : IsOfShape s log
  pub more : List (List ℕ)
  pub are : AreLogLines log 1 (length s.threads - 1) (lines ++ more)

-- Line number n, from 1, is the first that with those before it begins no log of the shape; or n is the number of lines plus 1, and lines are missing.
pub record IsFirstBad (s : PlainShape) (bytes : List ℕ) (n : ℕ) : Type 0 where
  pub some : 0 < n
  pub within : n ≤ suc (length (lines_in bytes))
  pub before : BeginsLog s (take (n - 1) (lines_in bytes))
  pub bad : n ≤ length (lines_in bytes) → BeginsLog s (take n (lines_in bytes)) → ⊥
  pub none : (log : ExchangeLog) → IsLogOf s log bytes → ⊥
