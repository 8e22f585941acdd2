-- The words that a log needs.
use Rattle.std.proofs.Common.{◌≡◌, ℕ, suc, ◌+◌, ◌-◌, ◌*◌, ◌<◌, Some, List, [], ◌∷◌, length, refl, sym, ap, subst, ◌∙◌, arith}
use Rattle.forec_kernel.specs.Packets.{PlainPacket}
use Rattle.thread_code.specs.Plain.{PlainCode}
use Rattle.copy_slots.specs.declared.view.Sender.{Sender}
use Rattle.copy_slots.specs.Ports.{MailboxEnds, parent_at, sent_by, got_by}
use Rattle.core_seats.specs.Posts.{Mail}
use Rattle.exchange_meaning.specs.Logged.{ExchangeLog}
use Rattle.exchange_log.specs.declared.book.Book.{Book}
use Rattle.exchange_log.specs.Kept.{words_of_jobs, words_of_replies, words_of_end, mail_words, HaveRoom, code_in_mail, KeepsMail}
use Rattle.exchange_log.specs.Posted.{both, log_in, pair_words, log_words_from, log_words, IsAnswered}

-- the words of one mailbox
pairs_total : (c : PlainCode) (k W : ℕ) (ps qs : List PlainPacket) → W ≡ pair_words c.shape (suc k) → HaveRoom c k ps → HaveRoom c k qs → length qs ≡ length ps → words_of_jobs ps + words_of_replies qs ≡ length (both ps qs) * W
pairs_total c k W [] [] w h g e = omega arith
pairs_total c k W [] (q ∷ qs) w h g e = cc
pairs_total c k W (p ∷ ps) [] w h g e = cc
pairs_total c k W (p ∷ ps) (q ∷ qs) w h g e =
    let e' : length qs ≡ length ps = cc in
    let ih = pairs_total c k W ps qs w h.1 g.1 e' in omega (arith, ih, w, h.0.args, h.0.copies, g.0.copies)

-- what is known of mailbox k of these, which is number i + k
record IsAt (c : PlainCode) (log : ExchangeLog) (es : List (MailboxEnds PlainPacket)) (i k : ℕ) : Type 0 where
  pub x : Sender PlainPacket
  pub there : parent_at es k ≡ Some x
  pub even : length x.got ≡ length x.sent
  pub jobs : HaveRoom c (i + k) x.sent
  pub replies : HaveRoom c (i + k) x.got
  pub logged : log (suc (i + k)) ≡ both x.sent x.got

sums : (c : PlainCode) (log : ExchangeLog) (es : List (MailboxEnds PlainPacket)) (i : ℕ) → ((k : ℕ) → k < length es → IsAt c log es i k) → mail_words es ≡ log_words_from c.shape log (suc i) (length es)
sums c log [] i h = refl
sums c log (e ∷ es) i h =
    let a = h 0 (omega arith) in
    let z : i + 0 ≡ i = omega arith in
    let one = ap words_of_end a.there ∙ pairs_total c (i + 0) (pair_words c.shape (suc (i + 0))) a.x.sent a.x.got refl a.jobs a.replies a.even ∙ ap (λ l. length l * pair_words c.shape (suc (i + 0))) (sym a.logged)
    ∙ ap (λ n. length (log (suc n)) * pair_words c.shape (suc n)) z in
    ap (λ n. n + mail_words es) one ∙ ap (λ n. length (log (suc i)) * pair_words c.shape (suc i) + n) (sums c log es (suc i) (λ k lt. next k (h (suc k) (omega (arith, lt)))))
  where
    next : (k : ℕ) → IsAt c log (e ∷ es) i (suc k) → IsAt c log es (suc i) k
    next k a =
        let s : i + suc k ≡ suc i + k = omega arith in
        record {
          x = a.x;
          there = a.there;
          even = a.even;
          jobs = subst (λ n. HaveRoom c n a.x.sent) s a.jobs;
          replies = subst (λ n. HaveRoom c n a.x.got) s a.replies;
          logged = ap (λ n. log (suc n)) (sym s) ∙ a.logged;
        }

pub words_are : (mail : Mail) (b : Book) → KeepsMail mail b → IsAnswered mail → mail_words mail.ends ≡ log_words (code_in_mail mail).shape (log_in mail)
words_are mail b kept answered =
    let c = code_in_mail mail in
    let n : length mail.ends ≡ length c.shape.threads - 1 = omega (arith, answered.mailboxes) in
    sums c (log_in mail) mail.ends 0 (λ k lt. at k lt) ∙ ap (log_words_from c.shape (log_in mail) 1) n
  where
    at : (k : ℕ) → k < length mail.ends → IsAt (code_in_mail mail) (log_in mail) mail.ends 0 k
    at k lt =
        let p = answered.parents k lt in
        let z : k ≡ 0 + k = omega arith in
        record {
          x = p.0;
          there = p.1;
          even = sym (ap (λ o. length (got_by o)) p.1) ∙ answered.replied k lt ∙ ap (λ o. length (sent_by o)) p.1;
          jobs = subst (λ n. HaveRoom (code_in_mail mail) n p.0.sent) z (kept.jobs_fit k p.0 p.1);
          replies = subst (λ n. HaveRoom (code_in_mail mail) n p.0.got) z (kept.replies_fit k p.0 p.1);
          logged = ap (λ n. log_in mail (suc n)) (sym z) ∙ ap (λ o. both (sent_by o) (got_by o)) p.1;
        }
