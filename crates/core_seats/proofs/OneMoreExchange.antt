-- The branches of a thread are told one job more, and tell one reply more.
use Rattle.std.proofs.Common.{◌≡◌, ◌≢◌, ℕ, suc, ◌<◌, ◌==◌, Bool, true, false, cond, Option, List, [], ◌∷◌, ◌++◌, length, refl, sym, ap, ◌∙◌, subst, append_assoc, append-nil, inl, inr, ⊎_elim, arith}
use Rattle.std.specs.Prelude.{slice_get, ◌⊎◌}
use Rattle.forec_kernel.specs.Packets.{PlainPacket}
use Rattle.forec_kernel.specs.Packed.{AreJobs, PacketAnswers}
use Rattle.forec_kernel.specs.Engine.{Job, Written, Answers, Answered, jobs_to}
use Rattle.thread_code.specs.Plain.{PlainCode}
use Rattle.thread_code.specs.Alone.{CodeAlone}
use Rattle.combine_tree.specs.declared.packet.Packet.{Packet}
use Rattle.combine_tree.specs.Plain.{plain_packet}
use Rattle.copy_slots.specs.declared.view.PacketAt.TheVariants.{Out}
use Rattle.copy_slots.specs.declared.view.Sender.{Sender}
use Rattle.copy_slots.specs.Ports.{parent_at, sent_by, got_by, IsParent, sent, got}
use Rattle.core_seats.specs.declared.seat.Seat.{Seat}
use Rattle.core_seats.specs.Posts.{Mail, AreReplies}
use Rattle.tick_jobs.specs.Branches.{IsBranchOf, replies_to, AreAbove}
use Rattle.core_seats.specs.Done.{Posts}
use Rattle.core_seats.specs.Keeping.{SchedulerState, code_in, HasPacket, LacksPacket}
use Rattle.core_seats.specs.Moving.{ChangesPacket, HasSent, HasGot, HasLooked}
use Rattle.core_seats.specs.Waiting.{jobs_out, IsOut, HasTold}
use Rattle.tick_jobs.proofs.Lists.{by_equal}
use Rattle.core_seats.proofs.KeepingLemmas.{packet_keeps}
use Rattle.core_seats.proofs.Send.{got_packet}
use Rattle.core_seats.proofs.RunChildren.{jobs_once, jobs_more, replies_more}
use Rattle.tick_jobs.proofs.Pairs.{jobs_first, jobs_then, replies_then, same_test, other_test, allowed_more}

-- ---- the same code and places

-- a state with the code and the places of another
abbrev pub changed : SchedulerState → Mail → List Seat → List (Option Packet) → SchedulerState
changed s mail seats hands = record s { mail = mail; seats = seats; hands = hands }

pub changed_is : (a b : SchedulerState) → b.code ≡ a.code → b.places ≡ a.places → changed a b.mail b.seats b.hands ≡ b
changed_is a b code places = ap (λ x. record b { code = x; places = a.places }) (sym code) ∙ ap (λ x. record b { places = x }) (sym places)

-- ---- jobs that are out

jobs_out_last : (b : ℕ) (ws : List Written) (w : Written) → jobs_out b (ws ++ w ∷ []) ≡ jobs_out b ws ++ cond (w.branch == b) (w.job ∷ []) []
jobs_out_last b [] w = refl
jobs_out_last b (v ∷ ws) w = jobs_first (v.branch == b) v.job _ _ _ (jobs_out_last b ws w)

jobs_out_none : (b : ℕ) (ws : List Written) → (IsOut b ws → ⊥) → jobs_out b ws ≡ []
jobs_out_none b [] n = refl
jobs_out_none b (w ∷ ws) n = ap (λ t. cond t (w.job ∷ jobs_out b ws) (jobs_out b ws)) (other_test w.branch b (λ e. n (inl e))) ∙ jobs_out_none b ws (λ o. n (inr o))

pub out_last : (b : ℕ) (ws : List Written) (w : Written) → IsOut b (ws ++ w ∷ []) → IsOut b ws ⊎ (w.branch ≡ b)
out_last b [] w h = ⊎_elim (λ e. inr e) (λ n. absurd n) h
out_last b (v ∷ ws) w h = ⊎_elim (λ e. inl (inl e)) (λ r. ⊎_elim (λ o. inl (inr o)) (λ e. inr e) (out_last b ws w r)) h

pub out_before : (b : ℕ) (ws : List Written) (w : Written) → IsOut b ws → IsOut b (ws ++ w ∷ [])
out_before b [] w h = absurd h
out_before b (v ∷ ws) w h = ⊎_elim (λ e. inl e) (λ r. inr (out_before b ws w r)) h

pub out_here : (b : ℕ) (ws : List Written) (w : Written) → w.branch ≡ b → IsOut b (ws ++ w ∷ [])
out_here b [] w e = inl e
out_here b (v ∷ ws) w e = inr (out_here b ws w e)

-- ---- nothing is out

pub told_posts : (s : SchedulerState) (t : ℕ) (pairs : List Answered) → HasTold s t pairs [] → Posts (code_in s) t s.mail pairs
told_posts s t pairs h = record {
  above = h.above;
  allowed = h.allowed;
  sent = λ k mine. subst (AreJobs (sent s.mail k)) (append-nil (jobs_to (suc k) pairs)) (h.sent k mine);
  got = h.got;
}

pub posts_told : (s : SchedulerState) (t : ℕ) (pairs : List Answered) → Posts (code_in s) t s.mail pairs → ((k : ℕ) → k < length s.mail.ends → IsBranchOf (code_in s).shape t k → HasPacket s k) → HasTold s t pairs []
posts_told s t pairs h has = record {
  above = h.above;
  allowed = h.allowed;
  sent = λ k mine. subst (AreJobs (sent s.mail k)) (sym (append-nil (jobs_to (suc k) pairs))) (h.sent k mine);
  got = h.got;
  lacks = λ k mine o. absurd o;
  has = λ k lt mine n. has k lt mine;
}

pub lacks_keeps : (k : ℕ) (a b : SchedulerState) → parent_at b.mail.ends k ≡ parent_at a.mail.ends k → slice_get b.hands k ≡ slice_get a.hands k → LacksPacket a k → LacksPacket b k
lacks_keeps k a b parent hand l = record { out = subst (λ (o : Option (Sender PlainPacket)). IsParent o Out) (sym parent) l.out; empty = hand ∙ l.empty }

-- ---- one job more, or one reply more

module _ (s : SchedulerState) (mail : Mail) (seats : List Seat) (hands : List (Option Packet)) (t m : ℕ) (mine : IsBranchOf (code_in s).shape t m) (moves : ChangesPacket m s (changed s mail seats hands)) where
  abbrev c : PlainCode
  c = code_in s

  abbrev s' : SchedulerState
  s' = changed s mail seats hands

  apart : (k : ℕ) → k ≢ m → suc m ≢ suc k
  apart k n e = n (omega (arith, e))

  kept_sent : (k : ℕ) → k ≢ m → sent mail k ≡ sent s.mail k
  kept_sent k n = ap sent_by (moves.parents k n)

  kept_got : (k : ℕ) → k ≢ m → got mail k ≡ got s.mail k
  kept_got k n = ap got_by (moves.parents k n)

  kept_has : (k : ℕ) → k ≢ m → HasPacket s k → HasPacket s' k
  kept_has k n h = packet_keeps k s s' refl (record { parent = moves.parents k n; hand = moves.hands k n; blanks = moves.alike.blanks }) h

  within : (k : ℕ) → k < length mail.ends → k < length s.mail.ends
  within k lt = let count = moves.alike.count in omega (arith, lt, count)

  module _ (pairs : List Answered) where
    module _ (out : List Written) (h : HasTold s t pairs out) (job : Job) (sent_now : HasSent s s' m job) (lacks_now : LacksPacket s' m) where
      abbrev w : Written
      w = record { branch = suc m; job = job }

      sent_here : AreJobs (sent mail m) (jobs_to (suc m) pairs ++ jobs_out (suc m) (out ++ w ∷ []))
      sent_here =
          let jobs : (jobs_to (suc m) pairs ++ jobs_out (suc m) out) ++ job ∷ [] ≡ jobs_to (suc m) pairs ++ jobs_out (suc m) (out ++ w ∷ []) =
          append_assoc (jobs_to (suc m) pairs) (jobs_out (suc m) out) (job ∷ [])
          ∙ ap (λ l. jobs_to (suc m) pairs ++ l) (sym (jobs_out_last (suc m) out w ∙ ap (λ b. jobs_out (suc m) out ++ cond b (job ∷ []) []) (same_test (suc m) (suc m) refl))) in
          subst (AreJobs (sent mail m)) jobs
          (subst (λ l. AreJobs l ((jobs_to (suc m) pairs ++ jobs_out (suc m) out) ++ job ∷ [])) (sym sent_now.sent)
          (jobs_more (sent s.mail m) (jobs_to (suc m) pairs ++ jobs_out (suc m) out) sent_now.packet job (h.sent m mine) sent_now.is))

      sent_else : (k : ℕ) → IsBranchOf c.shape t k → k ≢ m → AreJobs (sent mail k) (jobs_to (suc k) pairs ++ jobs_out (suc k) (out ++ w ∷ []))
      sent_else k is n =
          let jobs : jobs_out (suc k) out ≡ jobs_out (suc k) (out ++ w ∷ []) =
          sym (jobs_out_last (suc k) out w ∙ ap (λ b. jobs_out (suc k) out ++ cond b (job ∷ []) []) (other_test (suc m) (suc k) (apart k n)) ∙ append-nil (jobs_out (suc k) out)) in
          subst (λ l. AreJobs (sent mail k) (jobs_to (suc k) pairs ++ l)) jobs (subst (λ l. AreJobs l (jobs_to (suc k) pairs ++ jobs_out (suc k) out)) (sym (kept_sent k n)) (h.sent k is))

      pub told_one : HasTold s' t pairs (out ++ w ∷ [])
      told_one = record {
        above = h.above;
        allowed = h.allowed;
        sent = λ k is. by_equal k m (sent_else k is) (λ e. subst (λ i. AreJobs (sent mail i) (jobs_to (suc i) pairs ++ jobs_out (suc i) (out ++ w ∷ []))) (sym e) sent_here);
        got = λ k is.
            by_equal k m (λ n. subst (λ l. AreReplies l (replies_to (suc k) pairs)) (sym (kept_got k n)) (h.got k is))
            (λ e. subst (λ i. AreReplies (got mail i) (replies_to (suc i) pairs)) (sym e) (subst (λ l. AreReplies l (replies_to (suc m) pairs)) (sym sent_now.got) (h.got m mine)));
        lacks = λ k is o.
            by_equal k m
            (λ n. lacks_keeps k s s' (moves.parents k n) (moves.hands k n) (h.lacks k is (⊎_elim (λ old. old) (λ e. absurd (apart k n e)) (out_last (suc k) out w o))))
            (λ e. subst (LacksPacket s') (sym e) lacks_now);
        has = λ k lt is n.
            let other = λ (e : k ≡ m). n (out_here (suc k) out w (ap suc (sym e))) in
            kept_has k other (h.has k (within k lt) is (λ o. n (out_before (suc k) out w o)));
      }

    -- its reply was looked for, and is not there
    module _ (out : List Written) (h : HasTold s t pairs out) (is_out : IsOut (suc m) out) (missed : HasLooked s s' m) where
      still_sent : (k : ℕ) → sent mail k ≡ sent s.mail k
      still_sent k = by_equal k m (kept_sent k) (λ e. subst (λ i. sent mail i ≡ sent s.mail i) (sym e) missed.sent)

      still_got : (k : ℕ) → got mail k ≡ got s.mail k
      still_got k = by_equal k m (kept_got k) (λ e. subst (λ i. got mail i ≡ got s.mail i) (sym e) missed.got)

      pub told_still : HasTold s' t pairs out
      told_still = record {
        above = h.above;
        allowed = h.allowed;
        sent = λ k is. subst (λ l. AreJobs l (jobs_to (suc k) pairs ++ jobs_out (suc k) out)) (sym (still_sent k)) (h.sent k is);
        got = λ k is. subst (λ l. AreReplies l (replies_to (suc k) pairs)) (sym (still_got k)) (h.got k is);
        lacks = λ k is o. by_equal k m (λ n. lacks_keeps k s s' (moves.parents k n) (moves.hands k n) (h.lacks k is o)) (λ e. subst (LacksPacket s') (sym e) missed.lacks);
        has = λ k lt is n. kept_has k (λ e. n (subst (λ i. IsOut (suc i) out) (sym e) is_out)) (h.has k (within k lt) is n);
      }

    module _ (w : Written) (is_m : w.branch ≡ suc m) (out : List Written) (h : HasTold s t pairs (w ∷ out)) (above : t < suc m) (alone : IsOut (suc m) out → ⊥) (got_now : HasGot s s' m) where
      abbrev pub answers : PacketAnswers (CodeAlone c) (length c.threads) (suc m) (sent s.mail m) (plain_packet got_now.packet)
      answers = got_now.replies.answers

      abbrev x : Answered
      x = record { branch = w.branch; job = w.job; reply = answers.plain_reply }

      split : (b : Bool) (l : List Job) → cond b (w.job ∷ []) [] ++ l ≡ cond b (w.job ∷ l) l
      split true l = refl
      split false l = refl

      same_jobs : (k : ℕ) → jobs_to (suc k) (pairs ++ x ∷ []) ++ jobs_out (suc k) out ≡ jobs_to (suc k) pairs ++ jobs_out (suc k) (w ∷ out)
      same_jobs k =
          ap (λ l. l ++ jobs_out (suc k) out) (jobs_then (suc k) pairs (x ∷ []))
          ∙ append_assoc (jobs_to (suc k) pairs) (jobs_to (suc k) (x ∷ [])) (jobs_out (suc k) out)
          ∙ ap (λ l. jobs_to (suc k) pairs ++ l) (split (w.branch == suc k) (jobs_out (suc k) out))

      same_sent : (k : ℕ) → sent mail k ≡ sent s.mail k
      same_sent k = by_equal k m (kept_sent k) (λ e. subst (λ i. sent mail i ≡ sent s.mail i) (sym e) got_now.sent)

      now_sent : (k : ℕ) → IsBranchOf c.shape t k → AreJobs (sent mail k) (jobs_to (suc k) (pairs ++ x ∷ []) ++ jobs_out (suc k) out)
      now_sent k is =
          subst (AreJobs (sent mail k)) (sym (same_jobs k)) (subst (λ l. AreJobs l (jobs_to (suc k) pairs ++ jobs_out (suc k) (w ∷ out))) (sym (same_sent k)) (h.sent k is))

      all_sent : AreJobs (sent s.mail m) (jobs_to (suc m) (pairs ++ x ∷ []))
      all_sent =
          subst (λ l. AreJobs l (jobs_to (suc m) (pairs ++ x ∷ []))) (same_sent m)
          (subst (AreJobs (sent mail m)) (ap (λ l. jobs_to (suc m) (pairs ++ x ∷ []) ++ l) (jobs_out_none (suc m) out alone) ∙ append-nil (jobs_to (suc m) (pairs ++ x ∷ []))) (now_sent m mine))

      its_answers : Answers (CodeAlone c) (length c.threads) w.branch (jobs_to w.branch (pairs ++ x ∷ [])) answers.plain_reply
      its_answers =
          subst (λ b. Answers (CodeAlone c) (length c.threads) b (jobs_to b (pairs ++ x ∷ [])) answers.plain_reply) (sym is_m)
          (subst (λ js. Answers (CodeAlone c) (length c.threads) (suc m) js answers.plain_reply) (jobs_once (sent s.mail m) answers.plain_jobs (jobs_to (suc m) (pairs ++ x ∷ [])) answers.jobs_are all_sent) answers.answers)

      above_last : (xs : List Answered) → AreAbove t xs → AreAbove t (xs ++ x ∷ [])
      above_last [] a = (subst (λ b. t < b) (sym is_m) above, tt)
      above_last (y ∷ xs) a = (a.0, above_last xs a.1)

      got_else : (k : ℕ) → IsBranchOf c.shape t k → k ≢ m → AreReplies (got mail k) (replies_to (suc k) (pairs ++ x ∷ []))
      got_else k is n =
          let replies : replies_to (suc k) pairs ≡ replies_to (suc k) (pairs ++ x ∷ []) =
          sym (replies_then (suc k) pairs (x ∷ []) ∙ ap (λ b. replies_to (suc k) pairs ++ cond b (x.reply ∷ []) []) (other_test w.branch (suc k) (λ e. apart k n (sym is_m ∙ e))) ∙ append-nil (replies_to (suc k) pairs)) in
          subst (AreReplies (got mail k)) replies (subst (λ l. AreReplies l (replies_to (suc k) pairs)) (sym (kept_got k n)) (h.got k is))

      got_here : AreReplies (got mail m) (replies_to (suc m) (pairs ++ x ∷ []))
      got_here =
          let replies : replies_to (suc m) pairs ++ x.reply ∷ [] ≡ replies_to (suc m) (pairs ++ x ∷ []) =
          sym (replies_then (suc m) pairs (x ∷ []) ∙ ap (λ b. replies_to (suc m) pairs ++ cond b (x.reply ∷ []) []) (same_test w.branch (suc m) is_m)) in
          subst (AreReplies (got mail m)) replies
          (subst (λ l. AreReplies l (replies_to (suc m) pairs ++ x.reply ∷ [])) (sym got_now.got)
          (replies_more (got s.mail m) (replies_to (suc m) pairs) (plain_packet got_now.packet) x.reply (h.got m mine) answers.reply_is))

      pub told_back : HasTold s' t (pairs ++ x ∷ []) out
      told_back = record {
        above = above_last pairs h.above;
        allowed = allowed_more (Answers (CodeAlone c) (length c.threads)) [] pairs x h.allowed its_answers;
        sent = now_sent;
        got = λ k is. by_equal k m (got_else k is) (λ e. subst (λ i. AreReplies (got mail i) (replies_to (suc i) (pairs ++ x ∷ []))) (sym e) got_here);
        lacks = λ k is o.
            let n = λ (e : k ≡ m). alone (subst (λ i. IsOut (suc i) out) e o) in
            lacks_keeps k s s' (moves.parents k n) (moves.hands k n) (h.lacks k is (inr o));
        has = λ k lt is n.
            by_equal k m (λ other. kept_has k other (h.has k (within k lt) is (⊎_elim (λ e. absurd (apart k other (sym is_m ∙ e))) n)))
            (λ e. subst (HasPacket s') (sym e) (got_packet s s' m moves got_now));
      }
