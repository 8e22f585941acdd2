-- Where a reader stops: the first bad line.
use Rattle.std.proofs.Common.{◌≡◌, ℕ, suc, ◌+◌, ◌-◌, ◌<◌, ◌≤◌, ◌^◌, Bool, true, false, cond, eqb, List, [], ◌∷◌, ◌++◌, length, drop, take, refl, sym, ap, subst, ◌∙◌, arith, append_assoc, length-append}
use Rattle.std.proofs.lemmas.List.{take_at, length_push, length-drop}
use Rattle.forec_kernel.specs.Shapes.{PlainShape}
use Rattle.exchange_meaning.specs.Logged.{ExchangeLog}
use Rattle.exchange_meaning.specs.LogLines.{log_text}
use Rattle.log_text.specs.Fronts.{lines_in, onto_first, IsLogOf, BeginsLog, IsFirstBad}
use Rattle.log_text.specs.Stages.{LogStage, AtHead, IsNext, LinesLead, IsLast, Stops}
use Rattle.log_text.proofs.LineLemmas.{first_line}
use Rattle.log_text.proofs.StageLemmas.{leads_split, leads_once}
use Rattle.log_text.proofs.FrontLemmas.{begins, begins_leads, log_leads, text_lines}

take_front : (xs : List (List ℕ)) (y : List ℕ) (ys : List (List ℕ)) → take (suc (length xs)) (xs ++ y ∷ ys) ≡ xs ++ y ∷ []
take_front xs y ys =
    ap (λ (l : List (List ℕ)). take (suc (length xs)) l) (sym (append_assoc xs (y ∷ []) ys)) ∙ take_at (xs ++ y ∷ []) ys (suc (length xs)) (omega (arith, length_push xs y))

-- no line may come where the reader stops
stuck : (s : PlainShape) (bytes : List ℕ) (at : ℕ) (stage to : LogStage) (l : List ℕ) (ls : List (List ℕ)) →
    ((next : LogStage) (piece rest : List ℕ) → IsNext s stage piece next → drop at bytes ≡ piece ++ rest → ⊥) → lines_in (drop at bytes) ≡ l ∷ ls → IsNext s stage l to → ⊥
stuck s bytes at stage to l ls other e n = let f = first_line (drop at bytes) l ls e in other to l f.0 n f.1

no_lines : (bytes : List ℕ) → 0 < length bytes → lines_in bytes ≡ [] → ⊥
no_lines [] some e = omega arith
no_lines (b ∷ bs) some e = by_test (eqb b 10) e
  where
    onto : (ls : List (List ℕ)) → onto_first b ls ≡ [] → ⊥
    onto [] h = cc
    onto (m ∷ ms) h = cc

    by_test : (test : Bool) → cond test ((b ∷ []) ∷ lines_in bs) (onto_first b (lines_in bs)) ≡ [] → ⊥
    by_test true h = cc
    by_test false h = onto (lines_in bs) h

-- behind a stage come no lines, or one that may come
first_lead : (s : PlainShape) (stage to : LogStage) (ls : List (List ℕ)) → LinesLead s stage ls to → (P : Type 0) → (ls ≡ [] → stage ≡ to → P) → ((l : List ℕ) (more : List (List ℕ)) (next : LogStage) → ls ≡ l ∷ more → IsNext s stage l next → P) → P
first_lead s stage to [] h P none some = none refl h
first_lead s stage to (l ∷ ls) h P none some = some l ls h.0 refl h.1

pub log_lines_lead : (s : PlainShape) (log : ExchangeLog) (bytes : List ℕ) → length s.threads < 2 ^ 64 → length bytes < 2 ^ 64 → IsLogOf s log bytes → (to : LogStage) × IsLast s to × LinesLead s (AtHead 1) (lines_in bytes) to
log_lines_lead s log bytes few small is =
    let size : length (log_text (length s.threads) log) < 2 ^ 64 = subst (λ (b : List ℕ). length b < 2 ^ 64) is.text small in
    let are = text_lines s log (length s.threads - 1) 1 is.fits (omega arith) refl few size in
    let l = log_leads s log (length s.threads - 1) 1 (lines_in (log_text (length s.threads) log)) is.fits (omega arith) refl are in
    (l.0, l.1, subst (λ (b : List ℕ). LinesLead s (AtHead 1) (lines_in b) l.0) (sym is.text) l.2)

-- the line where it stops begins no log with those before it
bad_line : (s : PlainShape) (bytes : List ℕ) (line : ℕ) (h : Stops s bytes line) → line ≤ length (lines_in bytes) → length (lines_in bytes) ≡ length h.come.passed + length (lines_in (drop h.at bytes)) →
    BeginsLog s (take line (lines_in bytes)) → ⊥
bad_line s bytes line h low size b = by_lines (lines_in (drop h.at bytes)) refl
  where
    by_lines : (r : List (List ℕ)) → lines_in (drop h.at bytes) ≡ r → ⊥
    by_lines [] e = let none : length (lines_in (drop h.at bytes)) ≡ 0 = ap (λ (x : List (List ℕ)). length x) e in omega (arith, h.come.number)
    by_lines (l ∷ ls) e =
        let p = h.come.passed in
        let front : take line (lines_in bytes) ≡ p ++ l ∷ [] =
        ap (λ (x : List (List ℕ)). take line x) (h.come.lines ∙ ap (λ (x : List (List ℕ)). p ++ x) e) ∙ (ap (λ (k : ℕ). take k (p ++ l ∷ ls)) h.come.number ∙ take_front p l ls) in
        let b = begins_leads s (p ++ l ∷ []) (subst (BeginsLog s) front b) in
        let parts = leads_split s (AtHead 1) b.0 p (l ∷ []) b.1 in
        let same : parts.0 ≡ h.stage = leads_once s (AtHead 1) parts.0 h.stage p parts.1 h.come.leads in
        let one = subst (λ (x : LogStage). LinesLead s x (l ∷ []) b.0) same parts.2 in
        stuck s bytes h.at h.stage one.0 l ls h.other e one.1

pub stops_bad : (s : PlainShape) (bytes : List ℕ) (line : ℕ) → length s.threads < 2 ^ 64 → length bytes < 2 ^ 64 → Stops s bytes line → IsFirstBad s bytes line
stops_bad s bytes line few small h =
    let c = h.come in
    let p = c.passed in
    let r = lines_in (drop h.at bytes) in
    let all : lines_in bytes ≡ p ++ r = c.lines in
    let size : length (lines_in bytes) ≡ length p + length r = ap (λ (x : List (List ℕ)). length x) all ∙ length-append p r in
    let front : take (line - 1) (lines_in bytes) ≡ p = ap (λ (x : List (List ℕ)). take (line - 1) x) all ∙ take_at p r (line - 1) (omega (arith, c.number)) in
    record {
      some = omega (arith, c.number);
      within = omega (arith, c.number);
      before = subst (BeginsLog s) (sym front) (begins s p h.stage c.leads);
      bad = λ low b. bad_line s bytes line h low size b;
      none = λ log is.
          let l = log_lines_lead s log bytes few small is in
          let parts = leads_split s (AtHead 1) l.0 p r (subst (λ (x : List (List ℕ)). LinesLead s (AtHead 1) x l.0) all l.2) in
          let same : parts.0 ≡ h.stage = leads_once s (AtHead 1) parts.0 h.stage p parts.1 c.leads in
          let rest = subst (λ (x : LogStage). LinesLead s x r l.0) same parts.2 in
          first_lead s h.stage l.0 r rest ⊥
          (λ empty last. no_lines (drop h.at bytes) (let low = h.unfinished (subst (IsLast s) (sym last) l.1) in omega (arith, length-drop h.at bytes)) empty)
          (λ first more next e n. stuck s bytes h.at h.stage next first more h.other e n);
    }
