-- Stages of a log, and logs: the lines of a log lead to the last stage, and lines that lead anywhere begin a log.
use Rattle.std.proofs.Common.{◌≡◌, ◌≢◌, ℕ, zero, suc, ◌+◌, ◌-◌, ◌<◌, ◌≤◌, ◌^◌, true, cond, eqb, List, [], ◌∷◌, ◌++◌, pos, length, replicate, codes, refl, sym, ap, subst, ◌∙◌, arith, inl, inr, eq-eqb, append_assoc, length-append}
use Rattle.std.specs.Fmt.{decimal}
use Rattle.std.proofs.lemmas.Bool.{cases_eq, ne_eqb}
use Rattle.std.proofs.lemmas.List.{length-replicate}
use Rattle.forec_kernel.specs.Engine.{Job, Start, Wake, WasOver}
use Rattle.forec_kernel.specs.Shapes.{PlainShape}
use Rattle.forec_kernel.specs.Texts.{uses_in}
use Rattle.exchange_meaning.specs.Logged.{Logged, ExchangeLog}
use Rattle.exchange_meaning.specs.LogLines.{job_line, reply_line, exchange_lines, thread_log_lines, log_lines_from}
use Rattle.exchange_meaning.specs.OfShape.{AreInts, IsOfThread, AreOfThread, IsOfShape}
use Rattle.log_text.specs.Fronts.{lines_in, IsHeadLine, lines_of_pairs, AreLogLines, BeginsLog}
use Rattle.log_text.specs.Stages.{LogStage, AtHead, AtJob, AtReply, at_pairs, IsNext, IsJobOf, IsReplyOf, LinesLead, IsLast}
use Rattle.log_text.proofs.DigitLemmas.{decimal_is}
use Rattle.log_text.proofs.LineLemmas.{lines_step, job_is_line, reply_is_line, head_is_line}
use Rattle.log_text.proofs.StageLemmas.{leads_append, leads_split}

pub job_of : (s : PlainShape) (t : ℕ) (l : Logged) → IsOfThread s t l → IsJobOf s t l.job
job_of s t l h = record { fits = h.job; numbers = h.job_numbers }

pub reply_of : (s : PlainShape) (t : ℕ) (l : Logged) → IsOfThread s t l → IsReplyOf s t l.reply
reply_of s t l h = record { fits = h.reply; numbers = h.reply_numbers }

-- ---- from a log to stages

pub pairs_lead : (s : PlainShape) (t : ℕ) (ls : List Logged) → AreOfThread s t ls → LinesLead s (at_pairs t (length ls)) (lines_of_pairs ls) (AtHead (suc t))
pairs_lead s t [] h = refl
pairs_lead s t (l ∷ ls) h =
    (AtReply t (length ls), (l.job, job_of s t l h.0, refl, refl), (at_pairs t (length ls), (l.reply, reply_of s t l h.0, refl, refl), pairs_lead s t ls h.1))

pub log_leads : (s : PlainShape) (log : ExchangeLog) (n t : ℕ) (lines : List (List ℕ)) → IsOfShape s log → 0 < t → n ≡ length s.threads - t → AreLogLines log t n lines →
    (to : LogStage) × IsLast s to × LinesLead s (AtHead t) lines to
log_leads s log zero t lines fit some left h = (AtHead t, omega arith, subst (λ (x : List (List ℕ)). LinesLead s (AtHead t) x (AtHead t)) (sym h) refl)
log_leads s log (suc n) t lines fit some left h =
    let low : t < length s.threads = omega arith in
    let rest = log_leads s log n (suc t) h.1 fit (omega arith) (omega arith) h.4 in
    let mine = leads_append s (at_pairs t (length (log t))) (AtHead (suc t)) rest.0 (lines_of_pairs (log t)) h.1 (pairs_lead s t (log t) (fit t some low)) rest.2 in
    (rest.0, rest.1, subst (λ (x : List (List ℕ)). LinesLead s (AtHead t) x rest.0) (sym h.3) (at_pairs t (length (log t)), (low, length (log t), h.2, refl), mine))

-- ---- from stages to a log

pub pairs_back : (s : PlainShape) (t k : ℕ) (lines : List (List ℕ)) (to : LogStage) → t < length s.threads → IsLast s to → LinesLead s (at_pairs t k) lines to →
    (ls : List Logged) × (rest : List (List ℕ)) × (length ls ≡ k) × AreOfThread s t ls × (lines ≡ lines_of_pairs ls ++ rest) × LinesLead s (AtHead (suc t)) rest to
pairs_back s t zero lines to low last h = ([], lines, refl, tt, refl, h)
pairs_back s t (suc k) [] to low last h = absurd (subst (IsLast s) (sym h) last)
pairs_back s t (suc k) (a ∷ []) to low last h = absurd (subst (IsLast s) (sym h.2 ∙ h.1.3) last)
pairs_back s t (suc k) (a ∷ b ∷ lines) to low last h =
    let j = h.1 in
    let r = subst (λ (x : LogStage). IsNext s x b h.2.0) j.3 h.2.1 in
    let more = subst (λ (x : LogStage). LinesLead s x lines to) r.3 h.2.2 in
    let rest = pairs_back s t k lines to low last more in
    let l : Logged = record { job = j.0; reply = r.0 } in (
      l ∷ rest.0,
      rest.1,
      omega (arith, rest.2),
      (record { job = j.1.fits; reply = r.1.fits; job_numbers = j.1.numbers; reply_numbers = r.1.numbers }, rest.3),
      ap (λ (x : List ℕ). x ∷ b ∷ lines) j.2 ∙ (ap (λ (x : List ℕ). job_line j.0 ∷ x ∷ lines) r.2 ∙ ap (λ (x : List (List ℕ)). job_line j.0 ∷ reply_line r.0 ∷ x) rest.4),
      rest.5,
    )

pub lines_same : (log other : ExchangeLog) (t n : ℕ) (lines : List (List ℕ)) → ((u : ℕ) → t ≤ u → log u ≡ other u) → AreLogLines log t n lines → AreLogLines other t n lines
lines_same log other t zero lines same h = h
lines_same log other t (suc n) lines same h =
    let here : log t ≡ other t = same t (omega arith) in
    (h.0, h.1, subst (λ (ls : List Logged). IsHeadLine t (length ls) h.0) here h.2, h.3 ∙ ap (λ (ls : List Logged). h.0 ∷ (lines_of_pairs ls ++ h.1)) here, lines_same log other (suc t) n h.1 (λ u low. same u (omega arith)) h.4)

-- a log with this list for thread t
abbrev pub with_list : ℕ → List Logged → ExchangeLog → ExchangeLog
with_list t ls log u = cond (eqb u t) ls (log u)

pub list_other : (t u : ℕ) (ls : List Logged) (log : ExchangeLog) → u ≢ t → with_list t ls log u ≡ log u
list_other t u ls log ne = rw (ne_eqb u t ne) refl

eqb_same : (t : ℕ) → eqb t t ≡ true
eqb_same t = eq-eqb t t refl

pub list_here : (t : ℕ) (ls : List Logged) (log : ExchangeLog) → with_list t ls log t ≡ ls
list_here t ls log = rw (eqb_same t) refl

pub leads_log : (s : PlainShape) (n t : ℕ) (lines : List (List ℕ)) (to : LogStage) → 0 < t → n ≡ length s.threads - t → IsLast s to → LinesLead s (AtHead t) lines to →
    (log : ExchangeLog) × ((u : ℕ) → t ≤ u → u < length s.threads → AreOfThread s u (log u)) × AreLogLines log t n lines
leads_log s zero t [] to some left last h = (λ u. [], λ u low high. tt, refl)
leads_log s zero t (l ∷ lines) to some left last h = absurd (let low : t < length s.threads = h.1.0 in omega arith)
leads_log s (suc n) t [] to some left last h = absurd (let past : length s.threads ≤ t = subst (IsLast s) (sym h) last in omega arith)
leads_log s (suc n) t (head ∷ lines) to some left last h =
    let is = h.1 in
    let mine = pairs_back s t is.1 lines to is.0 last (subst (λ (x : LogStage). LinesLead s x lines to) is.3 h.2) in
    let rest = leads_log s n (suc t) mine.1 to (omega arith) (omega arith) last mine.5 in
    let log : ExchangeLog = with_list t mine.0 rest.0 in
    let here : log t ≡ mine.0 = list_here t mine.0 rest.0 in
    let size : is.1 ≡ length (log t) = sym mine.2 ∙ ap (λ (ls : List Logged). length ls) (sym here) in (
      log,
      λ u low high. elim (cases_eq u t) [
        | inl same ↦ (let e : log u ≡ mine.0 = ap log same ∙ here in subst (λ (ls : List Logged). AreOfThread s u ls) (sym e) (subst (λ (x : ℕ). AreOfThread s x mine.0) (sym same) mine.3))
        | inr ne ↦ subst (λ (ls : List Logged). AreOfThread s u ls) (sym (list_other t u mine.0 rest.0 ne)) (rest.1 u (omega arith) high)
      ],
      (
        head,
        mine.1,
        subst (λ (k : ℕ). IsHeadLine t k head) size is.2,
        ap (λ (x : List (List ℕ)). head ∷ x) (mine.4 ∙ ap (λ (ls : List Logged). lines_of_pairs ls ++ mine.1) (sym here)),
        lines_same rest.0 log (suc t) n mine.1 (λ u low. sym (list_other t u mine.0 rest.0 (λ e. omega arith))) rest.2,
      ),
    )

-- ---- each stage goes on to the last

abbrev pub IsGood : PlainShape → LogStage → Type 0
IsGood s (AtHead t) = Unit {0}
IsGood s (AtJob t k) = t < length s.threads
IsGood s (AtReply t k) = t < length s.threads

pairs_good : (s : PlainShape) (t k : ℕ) → t < length s.threads → IsGood s (at_pairs t k)
pairs_good s t zero low = tt
pairs_good s t (suc k) low = low

next_good : (s : PlainShape) (from to : LogStage) (line : List ℕ) → IsGood s from → IsNext s from line to → IsGood s to
next_good s (AtHead t) to line g n = subst (IsGood s) (sym n.3) (pairs_good s t n.1 n.0)
next_good s (AtJob t k) to line g n = subst (IsGood s) (sym n.3) g
next_good s (AtReply t k) to line g n = subst (IsGood s) (sym n.3) (pairs_good s t k g)

pub leads_good : (s : PlainShape) (from to : LogStage) (lines : List (List ℕ)) → IsGood s from → LinesLead s from lines to → IsGood s to
leads_good s from to [] g h = subst (IsGood s) h g
leads_good s from to (l ∷ ls) g h = leads_good s h.0 to ls (next_good s from h.0 l g h.1) h.2

zeros_fit : (n : ℕ) → AreInts (replicate n (pos 0))
zeros_fit zero = tt
zeros_fit (suc n) = (record { sfits = omega arith }, zeros_fit n)

blank_job : (s : PlainShape) (t : ℕ) → (j : Job) × IsJobOf s t j
blank_job s t = (
  Wake (replicate (length (uses_in s.threads t)) (pos 0)) 0,
  record { fits = length-replicate (length (uses_in s.threads t)) (pos 0); numbers = (zeros_fit (length (uses_in s.threads t)), omega arith) },
)

-- further lines lead to the last stage
pub record GoesOn (s : PlainShape) (from : LogStage) : Type 0 where
  pub more : List (List ℕ)
  pub to : LogStage
  pub last : IsLast s to
  pub leads : LinesLead s from more to

more_heads : (s : PlainShape) (n t : ℕ) → n ≡ length s.threads - t → GoesOn s (AtHead t)
more_heads s zero t left = record { more = []; to = AtHead t; last = omega arith; leads = refl }
more_heads s (suc n) t left =
    let rest = more_heads s n (suc t) (omega arith) in
    let head = codes "thread " ++ (decimal t ++ (codes " jobs " ++ (decimal 0 ++ codes "\n"))) in
    record {
      more = head ∷ rest.more;
      to = rest.to;
      last = rest.last;
      leads = (AtHead (suc t), (omega arith, 0, record { digits = decimal 0; number = decimal_is 0 (omega arith); is = refl }, refl), rest.leads);
    }

more_reply : (s : PlainShape) (t k : ℕ) → GoesOn s (at_pairs t k) → GoesOn s (AtReply t k)
more_reply s t k g = record {
  more = reply_line WasOver ∷ g.more;
  to = g.to;
  last = g.last;
  leads = (at_pairs t k, (WasOver, record { fits = tt; numbers = tt }, refl, refl), g.leads);
}

more_job : (s : PlainShape) (t k : ℕ) → GoesOn s (AtReply t k) → GoesOn s (AtJob t k)
more_job s t k g =
    let j = blank_job s t in
    record { more = job_line j.0 ∷ g.more; to = g.to; last = g.last; leads = (AtReply t k, (j.0, j.1, refl, refl), g.leads) }

more_pairs : (s : PlainShape) (t k : ℕ) → GoesOn s (at_pairs t k)
more_pairs s t zero = more_heads s (length s.threads - suc t) (suc t) refl
more_pairs s t (suc k) = more_job s t k (more_reply s t k (more_pairs s t k))

pub goes_on : (s : PlainShape) (stage : LogStage) → GoesOn s stage
goes_on s (AtHead t) = more_heads s (length s.threads - t) t refl
goes_on s (AtJob t k) = more_job s t k (more_reply s t k (more_pairs s t k))
goes_on s (AtReply t k) = more_reply s t k (more_pairs s t k)

-- ---- fronts

pub begins : (s : PlainShape) (lines : List (List ℕ)) (stage : LogStage) → LinesLead s (AtHead 1) lines stage → BeginsLog s lines
begins s lines stage h =
    let g = goes_on s stage in
    let all = leads_append s (AtHead 1) stage g.to lines g.more h g.leads in
    let l = leads_log s (length s.threads - 1) 1 (lines ++ g.more) g.to (omega arith) refl g.last all in
    record { log = l.0; fits = λ u some low. l.1 u some low; more = g.more; are = l.2 }

pub begins_leads : (s : PlainShape) (lines : List (List ℕ)) → BeginsLog s lines → (stage : LogStage) × LinesLead s (AtHead 1) lines stage
begins_leads s lines b =
    let all = log_leads s b.log (length s.threads - 1) 1 (lines ++ b.more) b.fits (omega arith) refl b.are in
    let parts = leads_split s (AtHead 1) all.0 lines b.more all.2 in
    (parts.0, parts.1)

-- ---- the lines of a log's text

job_some : (j : Job) → 0 < length (job_line j)
job_some (Start args values a) = omega arith
job_some (Wake values a) = omega arith

pub pairs_short : (ls : List Logged) → length ls ≤ length (exchange_lines ls)
pairs_short [] = omega arith
pairs_short (l ∷ ls) = omega (arith, pairs_short ls, job_some l.job, length-append (job_line l.job ++ reply_line l.reply) (exchange_lines ls), length-append (job_line l.job) (reply_line l.reply))

pub pairs_text : (l : Logged) (ls : List Logged) (rest : List ℕ) → exchange_lines (l ∷ ls) ++ rest ≡ job_line l.job ++ (reply_line l.reply ++ (exchange_lines ls ++ rest))
pairs_text l ls rest = append_assoc (job_line l.job ++ reply_line l.reply) (exchange_lines ls) rest ∙ append_assoc (job_line l.job) (reply_line l.reply) (exchange_lines ls ++ rest)

pub pairs_in : (s : PlainShape) (t : ℕ) (ls : List Logged) (rest : List ℕ) → AreOfThread s t ls → lines_in (exchange_lines ls ++ rest) ≡ lines_of_pairs ls ++ lines_in rest
pairs_in s t [] rest h = refl
pairs_in s t (l ∷ ls) rest h =
    let more = exchange_lines ls ++ rest in
    ap lines_in (pairs_text l ls rest)
    ∙ (lines_step (job_line l.job) (reply_line l.reply ++ more) (job_is_line l.job h.0.job_numbers)
    ∙ (ap (λ (x : List (List ℕ)). job_line l.job ∷ x) (lines_step (reply_line l.reply) more (reply_is_line l.reply h.0.reply_numbers))
    ∙ ap (λ (x : List (List ℕ)). job_line l.job ∷ reply_line l.reply ∷ x) (pairs_in s t ls rest h.1)))

abbrev pub head_text : ℕ → List ℕ → List ℕ
head_text t digits = codes "thread " ++ (decimal t ++ (codes " jobs " ++ (digits ++ codes "\n")))

pub thread_text : (t : ℕ) (ls : List Logged) (rest : List ℕ) → thread_log_lines t ls ++ rest ≡ head_text t (decimal (length ls)) ++ (exchange_lines ls ++ rest)
thread_text t ls rest = simp append_assoc

pub text_lines : (s : PlainShape) (log : ExchangeLog) (n t : ℕ) → IsOfShape s log → 0 < t → n ≡ length s.threads - t → length s.threads < 2 ^ 64 → length (log_lines_from t n log) < 2 ^ 64 →
    AreLogLines log t n (lines_in (log_lines_from t n log))
text_lines s log zero t fit some left few small = refl
text_lines s log (suc n) t fit some left few small =
    let ls = log t in
    let more = log_lines_from (suc t) n log in
    let text = thread_text t ls more in
    let size : length (head_text t (decimal (length ls)) ++ (exchange_lines ls ++ more)) < 2 ^ 64 = subst (λ (x : List ℕ). length x < 2 ^ 64) text small in
    let short : length ls + length more < 2 ^ 64 = omega (arith, pairs_short ls, length-append (head_text t (decimal (length ls))) (exchange_lines ls ++ more), length-append (exchange_lines ls) more) in
    let low : t < length s.threads = omega arith in
    let head : IsHeadLine t (length ls) (head_text t (decimal (length ls))) = record { digits = decimal (length ls); number = decimal_is (length ls) (omega arith); is = refl } in
    let lines = ap lines_in text
    ∙ (lines_step (head_text t (decimal (length ls))) (exchange_lines ls ++ more) (head_is_line t (length ls) (head_text t (decimal (length ls))) (omega arith) head)
    ∙ ap (λ (x : List (List ℕ)). head_text t (decimal (length ls)) ∷ x) (pairs_in s t ls more (fit t some low))) in
    (head_text t (decimal (length ls)), lines_in more, head, lines, text_lines s log n (suc t) fit (omega arith) (omega arith) few (omega arith))
