-- A text is that of one log.
use Rattle.std.proofs.Common.{◌≡◌, ℕ, zero, suc, ◌+◌, ◌-◌, ◌<◌, ◌≤◌, ◌^◌, Bool, true, false, cond, List, [], ◌∷◌, ◌++◌, ℤ, length, get_or, drop, codes, refl, sym, ap, subst, ◌∙◌, arith, inl, inr, append_assoc, length-append}
use Rattle.std.specs.Fmt.{decimal, signed_decimal}
use Rattle.std.proofs.lemmas.Bool.{cases_eq}
use Rattle.std.proofs.lemmas.List.{append_cancel_left}
use Rattle.forec_base.specs.declared.Place.{Place}
use Rattle.forec_base.specs.declared.Trap.{Trap}
use Rattle.forec_base.specs.declared.Trap.TheVariants as trap
use Rattle.forec_kernel.specs.declared.shape.VarCopy.{VarCopy}
use Rattle.forec_kernel.specs.Engine.{Job, Start, Wake, Reply, WasPaused, WasEnded, WasTrapped, WasOver}
use Rattle.forec_kernel.specs.Shapes.{PlainShape}
use Rattle.exchange_meaning.specs.Logged.{Logged, ExchangeLog}
use Rattle.exchange_meaning.specs.LogLines.{job_line, reply_line, spaced_numbers, marked_numbers, logged_trap, exchange_lines, thread_log_lines, log_lines_from}
use Rattle.exchange_meaning.specs.OfShape.{AreInts, HaveInts, AreOfThread, IsOfShape}
use Rattle.log_text.specs.Pieces.{EndsDigits, EndsCopy}
use Rattle.log_text.specs.Stages.{IsJobOf, IsReplyOf}
use Rattle.log_text.specs.Readings.{behind_start, behind_wake, behind_copies, behind_trapped}
use Rattle.log_text.specs.Laws.{TextHasOneLog}
use Rattle.log_text.proofs.DigitLemmas.{decimal_once}
use Rattle.log_text.proofs.SignedLemmas.{signed_once}
use Rattle.log_text.proofs.ValueLemmas.{ends_spaced, ends_marked, ends_behind, ends_line, ends_copy_line, ends_values, ends_args, ends_copies}
use Rattle.log_text.proofs.LineReads.{start_text, wake_text, paused_text, ended_text, trapped_text}
use Rattle.log_text.proofs.FrontLemmas.{job_of, reply_of, pairs_short, pairs_text, thread_text, head_text}

spaced_one : (n : ℤ) (ns : List ℤ) (x : List ℕ) → spaced_numbers (n ∷ ns) ++ x ≡ codes " " ++ (signed_decimal n ++ (spaced_numbers ns ++ x))
spaced_one n ns x = simp append_assoc

spaced_once : (ms ns : List ℤ) (x y : List ℕ) → length ms ≡ length ns → AreInts ms → AreInts ns → EndsDigits x → EndsDigits y → spaced_numbers ms ++ x ≡ spaced_numbers ns ++ y → (ms ≡ ns) × (x ≡ y)
spaced_once [] [] x y size p q h k e = (refl, e)
spaced_once [] (n ∷ ns) x y size p q h k e = absurd (omega arith)
spaced_once (m ∷ ms) [] x y size p q h k e = absurd (omega arith)
spaced_once (m ∷ ms) (n ∷ ns) x y size p q h k e =
    let one = append_cancel_left (codes " ") (signed_decimal m ++ (spaced_numbers ms ++ x)) (signed_decimal n ++ (spaced_numbers ns ++ y)) (sym (spaced_one m ms x) ∙ (e ∙ spaced_one n ns y)) in
    let r = signed_once m n (spaced_numbers ms ++ x) (spaced_numbers ns ++ y) p.0 q.0 (ends_spaced ms x h) (ends_spaced ns y k) one in
    let more = spaced_once ms ns x y (omega arith) p.1 q.1 h k r.1 in
    (ap (λ (z : ℤ). z ∷ ms) r.0 ∙ ap (λ (l : List ℤ). n ∷ l) more.0, more.1)

marked_one : (c : VarCopy) (cs : List VarCopy) (x : List ℕ) → marked_numbers (c ∷ cs) ++ x ≡ codes " " ++ (signed_decimal c.value ++ (cond c.modified (codes "*") [] ++ (marked_numbers cs ++ x)))
marked_one c cs x = simp append_assoc

star_once : (a b : Bool) (x y : List ℕ) → EndsCopy x → EndsCopy y → cond a (codes "*") [] ++ x ≡ cond b (codes "*") [] ++ y → (a ≡ b) × (x ≡ y)
star_once true true x y h k e = (refl, ap (λ (l : List ℕ). drop 1 l) e)
star_once true false x y h k e = absurd (k.1 (sym (ap (λ (l : List ℕ). get_or l 0 0) e)))
star_once false true x y h k e = absurd (h.1 (ap (λ (l : List ℕ). get_or l 0 0) e))
star_once false false x y h k e = (refl, e)

same_copy : (a b : VarCopy) → a.value ≡ b.value → a.modified ≡ b.modified → a ≡ b
same_copy a b v m = ap (λ (z : ℤ). record { value = z; modified = a.modified }) v ∙ ap (λ (t : Bool). record { value = b.value; modified = t }) m

marked_once : (cs bs : List VarCopy) (x y : List ℕ) → length cs ≡ length bs → HaveInts cs → HaveInts bs → EndsCopy x → EndsCopy y → marked_numbers cs ++ x ≡ marked_numbers bs ++ y → (cs ≡ bs) × (x ≡ y)
marked_once [] [] x y size p q h k e = (refl, e)
marked_once [] (b ∷ bs) x y size p q h k e = absurd (omega arith)
marked_once (a ∷ cs) [] x y size p q h k e = absurd (omega arith)
marked_once (a ∷ cs) (b ∷ bs) x y size p q h k e =
    let x' = marked_numbers cs ++ x in
    let y' = marked_numbers bs ++ y in
    let one = append_cancel_left (codes " ") (signed_decimal a.value ++ (cond a.modified (codes "*") [] ++ x')) (signed_decimal b.value ++ (cond b.modified (codes "*") [] ++ y')) (sym (marked_one a cs x) ∙ (e ∙ marked_one b bs y)) in
    let r = signed_once a.value b.value (cond a.modified (codes "*") [] ++ x') (cond b.modified (codes "*") [] ++ y') p.0 q.0 (ends_behind a x' (ends_marked cs x h)) (ends_behind b y' (ends_marked bs y k)) one in
    let s = star_once a.modified b.modified x' y' (ends_marked cs x h) (ends_marked bs y k) r.1 in
    let more = marked_once cs bs x y (omega arith) p.1 q.1 h k s.1 in
    (ap (λ (c : VarCopy). c ∷ cs) (same_copy a b r.0 s.0) ∙ ap (λ (l : List VarCopy). b ∷ l) more.0, more.1)

-- ---- jobs

job_once : (s : PlainShape) (t : ℕ) (i j : Job) (x y : List ℕ) → IsJobOf s t i → IsJobOf s t j → job_line i ++ x ≡ job_line j ++ y → (i ≡ j) × (x ≡ y)
job_once s t (Start args values a) (Start args' values' a') x y p q e =
    let one = append_cancel_left (codes "start ") (behind_start a args values x) (behind_start a' args' values' y) (sym (start_text a args values x) ∙ (e ∙ start_text a' args' values' y)) in
    let r = decimal_once a a' (spaced_numbers args ++ (spaced_numbers values ++ (codes "\n" ++ x))) (spaced_numbers args' ++ (spaced_numbers values' ++ (codes "\n" ++ y))) (omega (arith, p.numbers.2)) (omega (arith, q.numbers.2)) (ends_args args values x) (ends_args args' values' y) one in
    let u = spaced_once args args' (spaced_numbers values ++ (codes "\n" ++ x)) (spaced_numbers values' ++ (codes "\n" ++ y)) (p.fits.0 ∙ sym q.fits.0) p.numbers.0 q.numbers.0 (ends_values values x) (ends_values values' y) r.1 in
    let v = spaced_once values values' (codes "\n" ++ x) (codes "\n" ++ y) (p.fits.1 ∙ sym q.fits.1) p.numbers.1 q.numbers.1 (ends_line x) (ends_line y) u.1 in
    (ap (λ (k : ℕ). Start args values k) r.0 ∙ (ap (λ (l : List ℤ). Start l values a') u.0 ∙ ap (λ (l : List ℤ). Start args' l a') v.0), append_cancel_left (codes "\n") x y v.1)
job_once s t (Wake values a) (Wake values' a') x y p q e =
    let one = append_cancel_left (codes "wake ") (behind_wake a values x) (behind_wake a' values' y) (sym (wake_text a values x) ∙ (e ∙ wake_text a' values' y)) in
    let r = decimal_once a a' (spaced_numbers values ++ (codes "\n" ++ x)) (spaced_numbers values' ++ (codes "\n" ++ y)) (omega (arith, p.numbers.1)) (omega (arith, q.numbers.1)) (ends_values values x) (ends_values values' y) one in
    let v = spaced_once values values' (codes "\n" ++ x) (codes "\n" ++ y) (p.fits ∙ sym q.fits) p.numbers.0 q.numbers.0 (ends_line x) (ends_line y) r.1 in
    (ap (λ (k : ℕ). Wake values k) r.0 ∙ ap (λ (l : List ℤ). Wake l a') v.0, append_cancel_left (codes "\n") x y v.1)
job_once s t (Start args values a) (Wake values' a') x y p q e = absurd (let bad : 115 ≡ 119 = ap (λ (l : List ℕ). get_or l 0 0) e in omega arith)
job_once s t (Wake values a) (Start args' values' a') x y p q e = absurd (let bad : 119 ≡ 115 = ap (λ (l : List ℕ). get_or l 0 0) e in omega arith)

-- ---- replies

copies_once : (u v : ℕ) (cs bs : List VarCopy) (x y : List ℕ) → u < 2 ^ 64 → v < 2 ^ 64 → length cs ≡ length bs → HaveInts cs → HaveInts bs → behind_copies u cs x ≡ behind_copies v bs y → (u ≡ v) × (cs ≡ bs) × (x ≡ y)
copies_once u v cs bs x y p q size h k e =
    let r = decimal_once u v (marked_numbers cs ++ (codes "\n" ++ x)) (marked_numbers bs ++ (codes "\n" ++ y)) p q (ends_copies cs x) (ends_copies bs y) e in
    let w = marked_once cs bs (codes "\n" ++ x) (codes "\n" ++ y) size h k (ends_copy_line x) (ends_copy_line y) r.1 in
    (r.0, w.0, append_cancel_left (codes "\n") x y w.1)

trap_once : (a b : Trap) (x y : List ℕ) → logged_trap a ++ x ≡ logged_trap b ++ y → (a ≡ b) × (x ≡ y)
trap_once trap.Divide trap.Divide x y e = (refl, append_cancel_left (codes "divide") x y e)
trap_once trap.Index trap.Index x y e = (refl, append_cancel_left (codes "index") x y e)
trap_once trap.Turns trap.Turns x y e = (refl, append_cancel_left (codes "turns") x y e)
trap_once trap.Divide trap.Index x y e = absurd (let bad : 100 ≡ 105 = ap (λ (l : List ℕ). get_or l 0 0) e in omega arith)
trap_once trap.Divide trap.Turns x y e = absurd (let bad : 100 ≡ 116 = ap (λ (l : List ℕ). get_or l 0 0) e in omega arith)
trap_once trap.Index trap.Divide x y e = absurd (let bad : 105 ≡ 100 = ap (λ (l : List ℕ). get_or l 0 0) e in omega arith)
trap_once trap.Index trap.Turns x y e = absurd (let bad : 105 ≡ 116 = ap (λ (l : List ℕ). get_or l 0 0) e in omega arith)
trap_once trap.Turns trap.Divide x y e = absurd (let bad : 116 ≡ 100 = ap (λ (l : List ℕ). get_or l 0 0) e in omega arith)
trap_once trap.Turns trap.Index x y e = absurd (let bad : 116 ≡ 105 = ap (λ (l : List ℕ). get_or l 0 0) e in omega arith)

same_place : (a b : Place) → a.line ≡ b.line → a.column ≡ b.column → a ≡ b
same_place a b l c = ap (λ (k : ℕ). record { line = k; column = a.column }) l ∙ ap (λ (k : ℕ). record { line = b.line; column = k }) c

trapped_once : (s : PlainShape) (t u v : ℕ) (a b : Place) (k m : Trap) (x y : List ℕ) → IsReplyOf s t (WasTrapped a k u) → IsReplyOf s t (WasTrapped b m v) → behind_trapped u a k x ≡ behind_trapped v b m y →
    (u ≡ v) × (a ≡ b) × (k ≡ m) × (x ≡ y)
trapped_once s t u v a b k m x y p q e =
    let x1 = codes " " ++ (logged_trap k ++ (codes "\n" ++ x)) in
    let y1 = codes " " ++ (logged_trap m ++ (codes "\n" ++ y)) in
    let x2 = codes ":" ++ (decimal a.column ++ x1) in
    let y2 = codes ":" ++ (decimal b.column ++ y1) in
    let r = decimal_once u v (codes " " ++ (decimal a.line ++ x2)) (codes " " ++ (decimal b.line ++ y2)) p.numbers.0 q.numbers.0 (omega arith) (omega arith) e in
    let l = decimal_once a.line b.line x2 y2 (omega (arith, p.numbers.1)) (omega (arith, q.numbers.1)) (omega arith) (omega arith) (append_cancel_left (codes " ") (decimal a.line ++ x2) (decimal b.line ++ y2) r.1) in
    let c = decimal_once a.column b.column x1 y1 (omega (arith, p.numbers.2)) (omega (arith, q.numbers.2)) (omega arith) (omega arith) (append_cancel_left (codes ":") (decimal a.column ++ x1) (decimal b.column ++ y1) l.1) in
    let w = trap_once k m (codes "\n" ++ x) (codes "\n" ++ y) (append_cancel_left (codes " ") (logged_trap k ++ (codes "\n" ++ x)) (logged_trap m ++ (codes "\n" ++ y)) c.1) in
    (r.0, same_place a b l.0 c.0, w.0, append_cancel_left (codes "\n") x y w.1)

reply_once : (s : PlainShape) (t : ℕ) (i j : Reply) (x y : List ℕ) → IsReplyOf s t i → IsReplyOf s t j → reply_line i ++ x ≡ reply_line j ++ y → (i ≡ j) × (x ≡ y)
reply_once s t (WasPaused cs u) (WasPaused bs v) x y p q e =
    let one = append_cancel_left (codes "paused ") (behind_copies u cs x) (behind_copies v bs y) (sym (paused_text u cs x) ∙ (e ∙ paused_text v bs y)) in
    let r = copies_once u v cs bs x y p.numbers.1 q.numbers.1 (p.fits ∙ sym q.fits) p.numbers.0 q.numbers.0 one in
    (ap (λ (k : ℕ). WasPaused cs k) r.0 ∙ ap (λ (l : List VarCopy). WasPaused l v) r.1, r.2)
reply_once s t (WasEnded cs u) (WasEnded bs v) x y p q e =
    let one = append_cancel_left (codes "ended ") (behind_copies u cs x) (behind_copies v bs y) (sym (ended_text u cs x) ∙ (e ∙ ended_text v bs y)) in
    let r = copies_once u v cs bs x y p.numbers.1 q.numbers.1 (p.fits ∙ sym q.fits) p.numbers.0 q.numbers.0 one in
    (ap (λ (k : ℕ). WasEnded cs k) r.0 ∙ ap (λ (l : List VarCopy). WasEnded l v) r.1, r.2)
reply_once s t (WasTrapped a k u) (WasTrapped b m v) x y p q e =
    let one = append_cancel_left (codes "trapped ") (behind_trapped u a k x) (behind_trapped v b m y) (sym (trapped_text u a k x) ∙ (e ∙ trapped_text v b m y)) in
    let r = trapped_once s t u v a b k m x y p q one in
    (ap (λ (n : ℕ). WasTrapped a k n) r.0 ∙ (ap (λ (z : Place). WasTrapped z k v) r.1 ∙ ap (λ (z : Trap). WasTrapped b z v) r.2), r.3)
reply_once s t WasOver WasOver x y p q e = (refl, append_cancel_left (codes "over\n") x y e)
reply_once s t i j x y p q e = absurd (omega (arith, ap (λ (l : List ℕ). get_or l 0 0) e))

-- ---- logs

pairs_once : (s : PlainShape) (t : ℕ) (ls ms : List Logged) (x y : List ℕ) → length ls ≡ length ms → AreOfThread s t ls → AreOfThread s t ms → exchange_lines ls ++ x ≡ exchange_lines ms ++ y → (ls ≡ ms) × (x ≡ y)
pairs_once s t [] [] x y size p q e = (refl, e)
pairs_once s t [] (m ∷ ms) x y size p q e = absurd (omega arith)
pairs_once s t (l ∷ ls) [] x y size p q e = absurd (omega arith)
pairs_once s t (l ∷ ls) (m ∷ ms) x y size p q e =
    let j = job_once s t l.job m.job (reply_line l.reply ++ (exchange_lines ls ++ x)) (reply_line m.reply ++ (exchange_lines ms ++ y)) (job_of s t l p.0) (job_of s t m q.0) (sym (pairs_text l ls x) ∙ (e ∙ pairs_text m ms y)) in
    let r = reply_once s t l.reply m.reply (exchange_lines ls ++ x) (exchange_lines ms ++ y) (reply_of s t l p.0) (reply_of s t m q.0) j.1 in
    let more = pairs_once s t ls ms x y (omega arith) p.1 q.1 r.1 in
    let same : l ≡ m = ap (λ (z : Job). record { job = z; reply = l.reply }) j.0 ∙ ap (λ (z : Reply). record { job = m.job; reply = z }) r.0 in
    (ap (λ (z : Logged). z ∷ ls) same ∙ ap (λ (z : List Logged). m ∷ z) more.0, more.1)

thread_once : (s : PlainShape) (t : ℕ) (ls ms : List Logged) (x y : List ℕ) → length ls < 2 ^ 64 → length ms < 2 ^ 64 → AreOfThread s t ls → AreOfThread s t ms → thread_log_lines t ls ++ x ≡ thread_log_lines t ms ++ y → (ls ≡ ms) × (x ≡ y)
thread_once s t ls ms x y few few' p q e =
    let x1 = exchange_lines ls ++ x in
    let y1 = exchange_lines ms ++ y in
    let whole = sym (thread_text t ls x) ∙ (e ∙ thread_text t ms y) in
    let text = sym (head_split t (decimal (length ls)) x1) ∙ (whole ∙ head_split t (decimal (length ms)) y1) in
    let a = append_cancel_left (codes "thread ") (decimal t ++ (codes " jobs " ++ (decimal (length ls) ++ (codes "\n" ++ x1)))) (decimal t ++ (codes " jobs " ++ (decimal (length ms) ++ (codes "\n" ++ y1)))) text in
    let b = append_cancel_left (decimal t) (codes " jobs " ++ (decimal (length ls) ++ (codes "\n" ++ x1))) (codes " jobs " ++ (decimal (length ms) ++ (codes "\n" ++ y1))) a in
    let c = append_cancel_left (codes " jobs ") (decimal (length ls) ++ (codes "\n" ++ x1)) (decimal (length ms) ++ (codes "\n" ++ y1)) b in
    let r = decimal_once (length ls) (length ms) (codes "\n" ++ x1) (codes "\n" ++ y1) few few' (ends_line x1) (ends_line y1) c in
    pairs_once s t ls ms x y r.0 p q (append_cancel_left (codes "\n") x1 y1 r.1)
  where
    head_split : (t : ℕ) (digits rest : List ℕ) → head_text t digits ++ rest ≡ codes "thread " ++ (decimal t ++ (codes " jobs " ++ (digits ++ (codes "\n" ++ rest))))
    head_split t digits rest = simp append_assoc

short : (t n : ℕ) (log : ExchangeLog) → length (thread_log_lines t (log t) ++ log_lines_from (suc t) n log) < 2 ^ 64 → (length (log t) < 2 ^ 64) × (length (log_lines_from (suc t) n log) < 2 ^ 64)
short t n log small =
    let more = log_lines_from (suc t) n log in
    let size : length (head_text t (decimal (length (log t))) ++ (exchange_lines (log t) ++ more)) < 2 ^ 64 = subst (λ (x : List ℕ). length x < 2 ^ 64) (thread_text t (log t) more) small in
    let whole : length (log t) + length more < 2 ^ 64 = omega (arith, pairs_short (log t), length-append (head_text t (decimal (length (log t)))) (exchange_lines (log t) ++ more), length-append (exchange_lines (log t)) more) in
    (omega arith, omega arith)

logs_once : (s : PlainShape) (n t : ℕ) (log other : ExchangeLog) → 0 < t → n ≡ length s.threads - t → IsOfShape s log → IsOfShape s other → length (log_lines_from t n log) < 2 ^ 64 →
    log_lines_from t n log ≡ log_lines_from t n other → (u : ℕ) → t ≤ u → u < length s.threads → log u ≡ other u
logs_once s zero t log other some left p q small e u low high = absurd (omega arith)
logs_once s (suc n) t log other some left p q small e u low high =
    let here : t < length s.threads = omega arith in
    let a = short t n log small in
    let b = short t n other (subst (λ (x : List ℕ). length x < 2 ^ 64) e small) in
    let r = thread_once s t (log t) (other t) (log_lines_from (suc t) n log) (log_lines_from (suc t) n other) a.0 b.0 (p t some here) (q t some here) e in
    elim (cases_eq u t) [
      | inl same ↦ ap log same ∙ (r.0 ∙ ap other (sym same))
      | inr ne ↦ logs_once s n (suc t) log other (omega arith) (omega arith) p q a.1 r.1 u (omega arith) high
    ]

pub one_log : TextHasOneLog
one_log s log other bytes small p q t some low =
    logs_once s (length s.threads - 1) 1 log other (omega arith) refl p.fits q.fits (subst (λ (x : List ℕ). length x < 2 ^ 64) p.text small) (sym p.text ∙ q.text) t some low
