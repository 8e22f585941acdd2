-- Stages of a log: a list of lines leads to one stage at most.
use Rattle.std.proofs.Common.{◌≡◌, ℕ, suc, ◌+◌, ◌<◌, ◌^◌, List, [], ◌∷◌, ◌++◌, length, drop, codes, refl, sym, ap, subst, ◌∙◌, arith}
use Rattle.std.specs.Fmt.{decimal}
use Rattle.std.proofs.lemmas.List.{append_cancel_left, length_push, append_assoc}
use Rattle.forec_kernel.specs.Shapes.{PlainShape}
use Rattle.log_text.specs.Pieces.{StandsTo}
use Rattle.log_text.specs.Fronts.{lines_in, IsHeadLine}
use Rattle.log_text.specs.Stages.{LogStage, AtHead, AtJob, AtReply, at_pairs, IsNext, LinesLead, HasCome}
use Rattle.log_text.proofs.DigitLemmas.{number_once}
use Rattle.log_text.proofs.LineLemmas.{IsLine, lines_step, job_is_line, reply_is_line, head_is_line}

pub leads_append : (s : PlainShape) (from mid to : LogStage) (xs ys : List (List ℕ)) → LinesLead s from xs mid → LinesLead s mid ys to → LinesLead s from (xs ++ ys) to
leads_append s from mid to [] ys p q = subst (λ (a : LogStage). LinesLead s a ys to) (sym p) q
leads_append s from mid to (x ∷ xs) ys p q = (p.0, p.1, leads_append s p.0 mid to xs ys p.2 q)

pub leads_split : (s : PlainShape) (from to : LogStage) (xs ys : List (List ℕ)) → LinesLead s from (xs ++ ys) to → (mid : LogStage) × LinesLead s from xs mid × LinesLead s mid ys to
leads_split s from to [] ys p = (from, refl, p)
leads_split s from to (x ∷ xs) ys p = let r = leads_split s p.0 to xs ys p.2 in (r.0, (p.0, p.1, r.1), r.2)

pub head_once : (t m n : ℕ) (line : List ℕ) → IsHeadLine t m line → IsHeadLine t n line → m ≡ n
head_once t m n line p q =
    let a = append_cancel_left (codes "thread ") (decimal t ++ (codes " jobs " ++ (p.digits ++ codes "\n"))) (decimal t ++ (codes " jobs " ++ (q.digits ++ codes "\n"))) (sym p.is ∙ q.is) in
    let b = append_cancel_left (decimal t) (codes " jobs " ++ (p.digits ++ codes "\n")) (codes " jobs " ++ (q.digits ++ codes "\n")) a in
    let d = append_cancel_left (codes " jobs ") (p.digits ++ codes "\n") (q.digits ++ codes "\n") b in
    (number_once p.digits q.digits (codes "\n") (codes "\n") m n p.number q.number (omega arith) (omega arith) d).0

next_once : (s : PlainShape) (from a b : LogStage) (line : List ℕ) → IsNext s from line a → IsNext s from line b → a ≡ b
next_once s (AtHead t) a b line p q = p.3 ∙ (ap (at_pairs t) (head_once t p.1 q.1 line p.2 q.2) ∙ sym q.3)
next_once s (AtJob t left) a b line p q = p.3 ∙ sym q.3
next_once s (AtReply t left) a b line p q = p.3 ∙ sym q.3

pub leads_once : (s : PlainShape) (from a b : LogStage) (lines : List (List ℕ)) → LinesLead s from lines a → LinesLead s from lines b → a ≡ b
leads_once s from a b [] p q = sym p ∙ q
leads_once s from a b (l ∷ ls) p q =
    let same : p.0 ≡ q.0 = next_once s from p.0 q.0 l p.1 q.1 in
    leads_once s q.0 a b ls (subst (λ (x : LogStage). LinesLead s x ls a) same p.2) q.2

-- a thread's number fits 64 bits
next_is_line : (s : PlainShape) (from to : LogStage) (line : List ℕ) → length s.threads < 2 ^ 64 → IsNext s from line to → IsLine line
next_is_line s (AtHead t) to line small p = head_is_line t p.1 line (omega (arith, p.0)) p.2
next_is_line s (AtJob t left) to line small p = subst IsLine (sym p.2) (job_is_line p.0 p.1.numbers)
next_is_line s (AtReply t left) to line small p = subst IsLine (sym p.2) (reply_is_line p.0 p.1.numbers)

-- one line more
pub come_more : (s : PlainShape) (bytes : List ℕ) (line at end : ℕ) (stage next : LogStage) (piece : List ℕ) → length s.threads < 2 ^ 64 → HasCome s bytes line at stage →
    IsNext s stage piece next → StandsTo bytes at piece end → HasCome s bytes (suc line) end next
come_more s bytes line at end stage next piece small h n p =
    let l : IsLine piece = next_is_line s stage next piece small n in
    let size : length piece ≡ length l.inner + 1 = ap (λ (x : List ℕ). length x) l.is ∙ length_push l.inner 10 in
    let one : lines_in (drop at bytes) ≡ piece ∷ lines_in (drop end bytes) = ap lines_in p.text ∙ lines_step piece (drop end bytes) l in
    let count : length (h.passed ++ piece ∷ []) ≡ length h.passed + 1 = length_push h.passed piece in
    record {
      within = p.within;
      passed = h.passed ++ piece ∷ [];
      lines = h.lines ∙ (ap (λ (x : List (List ℕ)). h.passed ++ x) one ∙ sym (append_assoc h.passed (piece ∷ []) (lines_in (drop end bytes))));
      number = omega (arith, h.number);
      few = omega (arith, h.few, p.place, l.some);
      leads = leads_append s (AtHead 1) stage next h.passed (piece ∷ []) h.leads (next, n, refl);
    }
