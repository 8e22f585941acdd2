use Rattle.std.proofs.Common.{◌≡◌, ◌++◌, ℕ, List, drop, codes, decimal, subst, ◌∙◌, refl, arith}
use Rattle.log_text.specs.Fronts.{IsHeadLine}
use Rattle.log_text.specs.Pieces.{StandsTo}
use Rattle.log_text.proofs.PieceLemmas.{stands_more}
use Rattle.log_text.proofs.ValueLemmas.{ends_line}
use Rattle.log_text.proofs.LineReads.{head_read, value_is}
use Rattle.log_text.proofs.lines.read_head.Goals.{In_ok-at-2}
use Rattle.log_text.proofs.lines.read_head.Goals as goal

-- the digits of the count stand behind what was read
at_digits : (c : In_ok-at-2) (jobs : ℕ) (line rest : List ℕ) (h : IsHeadLine c.args.thread jobs line) → drop c.args.at c.args.bytes.now ≡ line ++ rest → drop c.in_ok-at-2.at c.args.bytes.now ≡ h.digits ++ (codes "\n" ++ rest)
at_digits c jobs line rest h e =
    let tail = codes " jobs " ++ (h.digits ++ (codes "\n" ++ rest)) in
    let a = c.in_ok-at.ensures.only (decimal c.args.thread ++ tail) (head_read c.args.bytes.now c.args.at c.args.thread jobs line rest h e) in
    let b = c.in_ok-number.ensures.only c.args.thread tail (omega arith) (omega arith) a in
    c.in_ok-at-2.ensures.only (h.digits ++ (codes "\n" ++ rest)) b.1

pub returns-in_err-digits-clause-only : goal.returns-in_err-digits-clause-only
returns-in_err-digits-clause-only c = λ jobs line rest h e.
    absurd (c.in_err-digits.ensures.only h.digits (codes "\n" ++ rest) jobs h.number (ends_line rest) (at_digits (goal.at.returns-in_err-digits-clause-only c).In_ok-at-2 jobs line rest h e))

pub returns-in_err-end-clause-only : goal.returns-in_err-end-clause-only
returns-in_err-end-clause-only c = λ jobs line rest h e.
    let f = c.in_ok-digits.ensures.only h.digits (codes "\n" ++ rest) jobs h.number (ends_line rest) (at_digits (goal.at.returns-in_err-end-clause-only c).In_ok-at-2 jobs line rest h e) in
    absurd (c.in_err-end.ensures.only rest f.0)

pub returns-clause-only : goal.returns-clause-only
returns-clause-only c = λ jobs line rest h e.
    let f = c.in_ok-digits.ensures.only h.digits (codes "\n" ++ rest) jobs h.number (ends_line rest) (at_digits (goal.at.returns-clause-only c).In_ok-at-2 jobs line rest h e) in
    (c.unwrap_or.ensures ∙ value_is c.in_ok-digits.digits.value jobs f.1, c.in_ok-end.ensures.only rest f.0)

pub returns-clause-stands : goal.returns-clause-stands
returns-clause-stands c =
    let bytes = c.args.bytes.now in
    let n = c.in_ok-number.ensures.stands in
    let h = c.in_ok-digits.ensures.stands in
    let same : c.in_ok-number.number ≡ c.args.thread = c.if-number-thread.false in
    let line = codes "thread " ++ (decimal c.args.thread ++ (codes " jobs " ++ (h.digits ++ codes "\n"))) in
    record {
      jobs = h.number;
      line = line;
      is = record { digits = h.digits; number = h.decimal; is = refl };
      count_is = c.unwrap_or.ensures ∙ value_is c.in_ok-digits.digits.value h.number h.value;
      stands = stands_more bytes c.args.at c.in_ok-at.at c.in_ok-end.end (codes "thread ") (decimal c.args.thread ++ (codes " jobs " ++ (h.digits ++ codes "\n"))) c.in_ok-at.ensures.stands
          (stands_more bytes c.in_ok-at.at c.in_ok-number.at c.in_ok-end.end (decimal c.args.thread) (codes " jobs " ++ (h.digits ++ codes "\n"))
          (subst (λ (k : ℕ). StandsTo bytes c.in_ok-at.at (decimal k) c.in_ok-number.at) same n.1.stands)
          (stands_more bytes c.in_ok-number.at c.in_ok-at-2.at c.in_ok-end.end (codes " jobs ") (h.digits ++ codes "\n") c.in_ok-at-2.ensures.stands
          (stands_more bytes c.in_ok-at-2.at c.in_ok-digits.digits.end c.in_ok-end.end h.digits (codes "\n") h.is.stands c.in_ok-end.ensures.stands)));
    }
