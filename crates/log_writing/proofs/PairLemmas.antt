-- The lines of a log, pair by pair and thread by thread.
use Rattle.std.proofs.Common.{◌≡◌, ◌+◌, ◌-◌, ◌*◌, ◌^◌, ◌<◌, ◌≤◌, ℕ, zero, suc, Some, List, [], ◌∷◌, ◌++◌, length, take, drop, min, refl, sym, ap, subst, ◌∙◌, arith, append_assoc, append-nil}
use Rattle.forec_kernel.specs.Packets.{PlainPacket}
use Rattle.copy_slots.specs.declared.view.Sender.{Sender}
use Rattle.copy_slots.specs.Ports.{MailboxEnds, parent_at, sent_by, sent, got}
use Rattle.core_seats.specs.Posts.{Mail}
use Rattle.exchange_meaning.specs.Logged.{Logged, ExchangeLog}
use Rattle.exchange_meaning.specs.LogLines.{job_line, reply_line, exchange_lines, thread_log_lines, log_lines_from, log_text}
use Rattle.exchange_log.specs.Kept.{HasParent, mail_words, words_of_end, words_of_jobs}
use Rattle.exchange_log.specs.Lines.{pair_lines}
use Rattle.exchange_log.specs.Posted.{log_in}
use Rattle.exchange_log.proofs.TextLemmas.{log_length}
use Rattle.log_writing.specs.Sending.{head_line}

-- one pair more
pub pairs_more : (ls : List Logged) (j : ℕ) → j < length ls → exchange_lines (take (suc j) ls) ≡ exchange_lines (take j ls) ++ pair_lines j ls
pairs_more [] j lt = absurd (omega (arith, lt))
pairs_more (l ∷ ls) zero lt = append-nil (job_line l.job ++ reply_line l.reply)
pairs_more (l ∷ ls) (suc j) lt =
    ap (λ rest. (job_line l.job ++ reply_line l.reply) ++ rest) (pairs_more ls j (omega (arith, lt)))
    ∙ sym (append_assoc (job_line l.job ++ reply_line l.reply) (exchange_lines (take j ls)) (pair_lines j ls))

pub all_pairs : (ls : List Logged) (j : ℕ) → length ls ≤ j → take j ls ≡ ls
all_pairs [] zero h = refl
all_pairs [] (suc j) h = refl
all_pairs (l ∷ ls) zero h = absurd (omega (arith, h))
all_pairs (l ∷ ls) (suc j) h = ap (λ rest. l ∷ rest) (all_pairs ls j (omega (arith, h)))

-- one thread more
pub threads_more : (from n : ℕ) (log : ExchangeLog) → log_lines_from from (suc n) log ≡ log_lines_from from n log ++ thread_log_lines (from + n) (log (from + n))
threads_more from zero log = let same : from ≡ from + 0 = omega arith in append-nil (thread_log_lines from (log from)) ∙ ap (λ t. thread_log_lines t (log t)) same
threads_more from (suc n) log =
    let same : suc from + n ≡ from + suc n = omega arith in
    ap (λ rest. thread_log_lines from (log from) ++ rest) (threads_more (suc from) n log ∙ ap (λ t. log_lines_from (suc from) n log ++ thread_log_lines t (log t)) same)
    ∙ sym (append_assoc (thread_log_lines from (log from)) (log_lines_from (suc from) n log) (thread_log_lines (from + suc n) (log (from + suc n))))

-- ---- how many pairs there are

few_jobs : (ps : List PlainPacket) → length ps ≤ words_of_jobs ps
few_jobs [] = omega arith
few_jobs (p ∷ ps) = let ih = few_jobs ps in omega (arith, ih)

pub few_sent : (ends : List (MailboxEnds PlainPacket)) (k : ℕ) (x : Sender PlainPacket) → parent_at ends k ≡ Some x → length x.sent ≤ mail_words ends
few_sent [] k x e = cc
few_sent (e ∷ es) zero x is =
    let few = few_jobs x.sent in
    let words : words_of_jobs x.sent ≤ words_of_end e.parent = subst (λ o. words_of_jobs x.sent ≤ words_of_end o) (sym is) (omega arith) in
    omega (arith, few, words)
few_sent (e ∷ es) (suc k) x is = let ih = few_sent es k x is in omega (arith, ih)

-- ---- of a thread but thread 0

pub same_thread : (mail : Mail) (t : ℕ) → 1 ≤ t → log_in mail (suc (t - 1)) ≡ log_in mail t
same_thread mail t some = let e : suc (t - 1) ≡ t = omega (arith, some) in ap (log_in mail) e

-- as many jobs as pairs
pub jobs_are : (mail : Mail) (words t jobs : ℕ) → mail_words mail.ends ≤ words → words < 2 ^ 64 → 1 ≤ t → HasParent mail (t - 1) → length (got mail (t - 1)) ≡ length (sent mail (t - 1)) →
    jobs ≡ min (length (sent mail (t - 1))) (2 ^ 64 - 1) → jobs ≡ length (log_in mail t)
jobs_are mail words t jobs kept small some parent replied is =
    let few : length (sent mail (t - 1)) ≤ mail_words mail.ends = subst (λ o. length (sent_by o) ≤ mail_words mail.ends) (sym parent.1) (few_sent mail.ends (t - 1) parent.0 parent.1) in
    let count = log_length mail (t - 1) replied in
    let same = ap (λ (ls : List Logged). length ls) (same_thread mail t some) in
    omega (arith, is, few, kept, small, count, same)

split_pairs : (ls : List Logged) (j : ℕ) → exchange_lines ls ≡ exchange_lines (take j ls) ++ exchange_lines (drop j ls)
split_pairs [] zero = refl
split_pairs [] (suc j) = refl
split_pairs (l ∷ ls) zero = refl
split_pairs (l ∷ ls) (suc j) =
    ap (λ rest. (job_line l.job ++ reply_line l.reply) ++ rest) (split_pairs ls j)
    ∙ sym (append_assoc (job_line l.job ++ reply_line l.reply) (exchange_lines (take j ls)) (exchange_lines (drop j ls)))

module _ (mail : Mail) (t jobs : ℕ) (some : 1 ≤ t) (count : jobs ≡ length (log_in mail t)) where
  abbrev so_far : ℕ → List ℕ
  so_far j = head_line t jobs ++ exchange_lines (take j (log_in mail t))

  pub pair_added : (j : ℕ) → j < jobs → so_far j ++ pair_lines j (log_in mail (suc (t - 1))) ≡ so_far (j + 1)
  pair_added j lt =
      let one : suc j ≡ j + 1 = omega arith in
      ap (λ (ls : List Logged). so_far j ++ pair_lines j ls) (same_thread mail t some)
      ∙ append_assoc (head_line t jobs) (exchange_lines (take j (log_in mail t))) (pair_lines j (log_in mail t))
      ∙ ap (λ rest. head_line t jobs ++ rest) (sym (pairs_more (log_in mail t) j (omega (arith, lt, count))) ∙ ap (λ n. exchange_lines (take n (log_in mail t))) one)

  -- all of them
  pub thread_done : (j : ℕ) → jobs ≤ j → so_far j ≡ thread_log_lines t (log_in mail t)
  thread_done j le =
      ap (λ (ls : List Logged). head_line t jobs ++ exchange_lines ls) (all_pairs (log_in mail t) j (omega (arith, le, count)))
      ∙ ap (λ n. head_line t n ++ exchange_lines (log_in mail t)) count

  pub thread_split : (j : ℕ) → thread_log_lines t (log_in mail t) ≡ so_far j ++ exchange_lines (drop j (log_in mail t))
  thread_split j =
      ap (λ n. head_line t n ++ exchange_lines (log_in mail t)) (sym count)
      ∙ ap (λ rest. head_line t jobs ++ rest) (split_pairs (log_in mail t) j)
      ∙ sym (append_assoc (head_line t jobs) (exchange_lines (take j (log_in mail t))) (exchange_lines (drop j (log_in mail t))))

-- ---- of all threads

pub thread_added : (log : ExchangeLog) (t : ℕ) → 1 ≤ t → log_lines_from 1 (t - 1) log ++ thread_log_lines t (log t) ≡ log_lines_from 1 (t + 1 - 1) log
thread_added log t some =
    let same : 1 + (t - 1) ≡ t = omega (arith, some) in
    let next : suc (t - 1) ≡ t + 1 - 1 = omega (arith, some) in
    ap (λ n. log_lines_from 1 (t - 1) log ++ thread_log_lines n (log n)) (sym same) ∙ sym (threads_more 1 (t - 1) log) ∙ ap (λ n. log_lines_from 1 n log) next

split_threads : (from n m : ℕ) (log : ExchangeLog) → log_lines_from from (n + m) log ≡ log_lines_from from n log ++ log_lines_from (from + n) m log
split_threads from zero m log =
    let none : 0 + m ≡ m = omega arith in
    let same : from ≡ from + 0 = omega arith in
    ap (λ n. log_lines_from from n log) none ∙ ap (λ f. log_lines_from f m log) same
split_threads from (suc n) m log =
    let same : suc from + n ≡ from + suc n = omega arith in
    let more : suc n + m ≡ suc (n + m) = omega arith in
    ap (λ l. log_lines_from from l log) more
    ∙ ap (λ rest. thread_log_lines from (log from) ++ rest) (split_threads (suc from) n m log ∙ ap (λ f. log_lines_from (suc from) n log ++ log_lines_from f m log) same)
    ∙ sym (append_assoc (thread_log_lines from (log from)) (log_lines_from (suc from) n log) (log_lines_from (from + suc n) m log))

-- what stands behind the lines of thread t
pub log_split : (log : ExchangeLog) (threads t : ℕ) → 1 ≤ t → t < threads →
    log_text threads log ≡ (log_lines_from 1 (t - 1) log ++ thread_log_lines t (log t)) ++ log_lines_from (1 + (t + 1 - 1)) (threads - 1 - t) log
log_split log threads t some lt =
    let all : threads - 1 ≡ t + 1 - 1 + (threads - 1 - t) = omega (arith, some, lt) in
    ap (λ n. log_lines_from 1 n log) all ∙ split_threads 1 (t + 1 - 1) (threads - 1 - t) log
    ∙ ap (λ lines. lines ++ log_lines_from (1 + (t + 1 - 1)) (threads - 1 - t) log) (sym (thread_added log t some))

pub log_done : (log : ExchangeLog) (threads t : ℕ) → t ≤ threads → threads ≤ t → log_text threads log ≡ log_lines_from 1 (t - 1) log ++ []
log_done log threads t le ge = let same : threads - 1 ≡ t - 1 = omega (arith, le, ge) in ap (λ n. log_lines_from 1 n log) same ∙ sym (append-nil (log_lines_from 1 (t - 1) log))
