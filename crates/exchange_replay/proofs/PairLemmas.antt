-- A pair of a thread's own list: its job is done as the log has it, or it fails.
use Rattle.std.proofs.Common.{◌≡◌, ℕ, suc, ◌<◌, Bool, true, false, List, [], ◌∷◌, ◌++◌, map, take, length, refl, sym, ap, ◌∙◌, subst, append_assoc}
use Rattle.std.specs.Prelude.{Some, ℤ}
use Rattle.forec_kernel.specs.Packets as packet
use Rattle.forec_kernel.specs.Packets.{PlainPacket}
use Rattle.forec_kernel.specs.Packed.{HasRoom, IsJob, IsReply}
use Rattle.forec_kernel.specs.Engine.{Job, Start, Wake, Reply, WasPaused, WasEnded, WasTrapped, WasOver, Exchange, Output, Nothing, Alone, pair_all, last_reply}
use Rattle.thread_code.specs.Plain.{PlainCode}
use Rattle.thread_code.specs.Valid.{IsValidCode, of_shape}
use Rattle.thread_code.specs.Machine.{Machine}
use Rattle.thread_code.specs.Alone.{code_engine, CodeAlone}
use Rattle.thread_code.proofs.Steady.{code_steady}
use Rattle.combine_tree.specs.declared.packet.Packet.{Packet}
use Rattle.combine_tree.specs.declared.packet.PacketKind.{PacketKind}
use Rattle.combine_tree.specs.declared.packet.PacketKind.TheVariants as kind
use Rattle.combine_tree.specs.Plain.{plain_packet, plain_kind}
use Rattle.core_machine.specs.declared.thread.Thread.{Thread}
use Rattle.core_machine.specs.Threads.{Loaded, StandsFor, IsResting, HasPaused, CanBegin, RepliesToLast}
use Rattle.core_machine.specs.Replies.{RepliesByKind}
use Rattle.tick_jobs.specs.Told.{DidJobs}
use Rattle.tick_jobs.proofs.Logs.{job_begins, Does, job_does}
use Rattle.exchange_meaning.specs.Logged.{Logged, ExchangeLog, jobs_in, RepliesAre}
use Rattle.exchange_meaning.specs.Telling.{TellsBranches}
use Rattle.exchange_meaning.specs.Replays.{AgreesUpTo}
use Rattle.exchange_meaning.proofs.Shaped.{below_of}
use Rattle.exchange_meaning.proofs.OwnBranches.{all_mine}
use Rattle.exchange_meaning.proofs.TellingLemmas.{jobs_take, jobs_append}
use Rattle.exchange_meaning.proofs.Failing.{tells_first}
use Rattle.exchange_meaning.proofs.Differing.{tells_same}
use Rattle.exchange_meaning.proofs.Deciding.{IsPausedReply, wake_first, wake_fails, reply_fails}
use Rattle.log_text.specs.declared.log.Log.{Log}
use Rattle.log_text.specs.ReadLogs.{AtReplyOf}
use Rattle.exchange_replay.specs.declared.track.Track.{Track}
use Rattle.exchange_replay.specs.declared.walk.Walk.{Walk}
use Rattle.exchange_replay.specs.Tracks.{HavePassed, IsBeforeReply, PassesReply}
use Rattle.exchange_replay.specs.Walks.{PassedBy, WalkedJobs, WalksJob, HasBegunWalk, CannotTell}
use Rattle.exchange_replay.specs.Replaying.{IsBetweenJobs, IsAtPair, DoesPair}
use Rattle.exchange_replay.proofs.Sames.{paused_kind}

-- ---- lists

pub jobs_taken : (A B : List Logged) (l : Logged) → jobs_in (take (suc (length A)) (A ++ l ∷ B)) ≡ jobs_in A ++ l.job ∷ []
jobs_taken [] B l = refl
jobs_taken (a ∷ A) B l = ap (λ js. a.job ∷ js) (jobs_taken A B l)

pub pairs_taken : (A B : List Logged) (l : Logged) → take (suc (length A)) (A ++ l ∷ B) ≡ A ++ l ∷ []
pairs_taken [] B l = refl
pairs_taken (a ∷ A) B l = ap (λ ls. a ∷ ls) (pairs_taken A B l)

take_front : (A : List Logged) (j : Job) → take (length A) (jobs_in A ++ j ∷ []) ≡ jobs_in A
take_front [] j = refl
take_front (a ∷ A) j = ap (λ js. a.job ∷ js) (take_front A j)

count_jobs : (A : List Logged) (j : Job) → length (jobs_in A ++ j ∷ []) ≡ suc (length A)
count_jobs [] j = refl
count_jobs (a ∷ A) j = ap suc (count_jobs A j)

length_map : {A B : Type 0} (f : A → B) (xs : List A) → length (map f xs) ≡ length xs
length_map f [] = refl
length_map f (x ∷ xs) = ap suc (length_map f xs)

replies_last : (os : List Output) (A : List Logged) (l : Logged) → length os ≡ suc (length A) → RepliesAre (take (length A) os) A → last_reply os ≡ Some l.reply → RepliesAre os (A ++ l ∷ [])
replies_last [] A l n h e = cc
replies_last (o ∷ []) [] l n h e = (e, tt)
replies_last (o ∷ p ∷ os) [] l n h e = cc
replies_last (o ∷ []) (a ∷ A) l n h e = cc
replies_last (o ∷ p ∷ os) (a ∷ A) l n h e = let m : length (p ∷ os) ≡ suc (length A) = cc in (h.0, replies_last (p ∷ os) A l m h.1 e)

pub last_of_replies : (os : List Output) (A : List Logged) (l : Logged) → RepliesAre os (A ++ l ∷ []) → last_reply os ≡ Some l.reply
last_of_replies [] [] l h = absurd h
last_of_replies [] (a ∷ A) l h = absurd h
last_of_replies (o ∷ []) [] l h = h.0
last_of_replies (o ∷ p ∷ os) [] l h = absurd h.1
last_of_replies (o ∷ []) (a ∷ []) l h = absurd h.1
last_of_replies (o ∷ []) (a ∷ b ∷ A) l h = absurd h.1
last_of_replies (o ∷ p ∷ os) (a ∷ A) l h = last_of_replies (p ∷ os) A l h.1

outputs_count : (c : PlainCode) (t : ℕ) (xs : List Exchange) (r : _) (os : List Output) → Alone (code_engine c t) xs r os → length os ≡ length xs
outputs_count c t [] r [] h = refl
outputs_count c t [] r (o ∷ os) h = absurd h
outputs_count c t (x ∷ xs) r [] h = absurd h
outputs_count c t (x ∷ xs) r (o ∷ os) h = ap suc (outputs_count c t xs h.1 os h.4)

-- ---- what a thread did, by itself

module _ (c : PlainCode) (valid : IsValidCode c) (l : Log) (log : ExchangeLog) (t : ℕ) (lt : t < length c.threads) where
  -- what it told its branches is what the log has
  pub tells_of : (w : Walk) (jobs : List Job) → w.thread.number ≡ t → (d : WalkedJobs c l log w jobs) →
      (T : TellsBranches (CodeAlone c) c.shape log t) × (map (λ x. x.job) T.exchanges ≡ jobs) × (T.outputs ≡ d.outputs) × (T.exchanges ≡ d.exchanges)
  tells_of w jobs number d =
      let runs = subst (λ n. CodeAlone c n d.exchanges d.outputs) number d.runs in
      let posts = subst (λ n. HavePassed c.shape l log n w.branches.items (pair_all d.exchanges d.outputs)) number d.posts in (
        record {
          exchanges = d.exchanges;
          outputs = d.outputs;
          runs = runs;
          complete = d.complete;
          mine = all_mine c t valid lt d.exchanges d.outputs runs;
          told = λ b is. record { rest = (posts.each b is).has.left; is = (posts.each b is).has.is };
        },
        d.jobs_are,
        refl,
        refl,
      )

  -- where it has done one job more, the first outputs are those that it had
  pub first_outputs : (T U : TellsBranches (CodeAlone c) c.shape log t) → (A : List Logged) (j : Job) → map (λ x. x.job) T.exchanges ≡ jobs_in A → map (λ x. x.job) U.exchanges ≡ jobs_in A ++ j ∷ [] → take (length A) U.outputs ≡ T.outputs
  first_outputs T U A j old new =
      let F = tells_first Machine (code_engine c) c.shape log t (length A) U in
      let jobs : map (λ x. x.job) F.exchanges ≡ map (λ x. x.job) T.exchanges = jobs_take (length A) U.exchanges ∙ ap (take (length A)) new ∙ take_front A j ∙ sym old in
      (tells_same Machine (code_engine c) c.shape log (below_of c.shape valid.shape) t (code_steady c t) F T jobs).outputs

  pub one_more_output : (U : TellsBranches (CodeAlone c) c.shape log t) → (A : List Logged) (j : Job) → map (λ x. x.job) U.exchanges ≡ jobs_in A ++ j ∷ [] → length U.outputs ≡ suc (length A)
  one_more_output U A j new = outputs_count c t U.exchanges Nothing U.outputs U.runs ∙ sym (length_map (λ x. x.job) U.exchanges) ∙ ap length new ∙ count_jobs A j

-- ---- the first and the last

pub data IsSnoc : List Logged → Type 0 where
  none : (ls : List Logged) → ls ≡ [] → IsSnoc ls
  more : (ls A : List Logged) (l : Logged) → ls ≡ A ++ l ∷ [] → IsSnoc ls

is_snoc : (ls : List Logged) → IsSnoc ls
is_snoc [] = none [] refl
is_snoc (x ∷ ls) = by_rest (is_snoc ls)
  where
    by_rest : IsSnoc ls → IsSnoc (x ∷ ls)
    by_rest (none ls e) = more (x ∷ ls) [] x (ap (λ z. x ∷ z) e)
    by_rest (more ls A l e) = more (x ∷ ls) (x ∷ A) l (ap (λ z. x ∷ z) e)

paused_reply : (p : PlainPacket) (r : Reply) → IsReply p r → IsPausedReply r → p.kind ≡ packet.IsPaused
paused_reply p (WasPaused copies u) h n = h.0
paused_reply p (WasEnded copies u) h n = absurd n
paused_reply p (WasTrapped place trap u) h n = absurd n
paused_reply p WasOver h n = absurd n

wake_of : (p : PlainPacket) (j : Job) → IsJob p j → p.kind ≡ packet.Wake → (values : List ℤ) × (a : ℕ) × (j ≡ Wake values a)
wake_of p (Start args values a) h e = let f = sym h.0 ∙ e in cc
wake_of p (Wake values a) h e = (values, a, refl)

pub begin_kind : (w : Thread) (k : PacketKind) (p : PlainPacket) (j : Job) → p.kind ≡ plain_kind k → IsJob p j → (k ≡ kind.Wake → HasPaused w) → CanBegin w k
begin_kind w kind.Start p j e h paused = tt
begin_kind w kind.Wake p j e h paused = paused refl
begin_kind w kind.Blank p (Start args values a) e h paused = let f = sym h.0 ∙ e in cc
begin_kind w kind.Blank p (Wake values a) e h paused = let f = sym h.0 ∙ e in cc
begin_kind w kind.Paused p (Start args values a) e h paused = let f = sym h.0 ∙ e in cc
begin_kind w kind.Paused p (Wake values a) e h paused = let f = sym h.0 ∙ e in cc
begin_kind w kind.Ended p (Start args values a) e h paused = let f = sym h.0 ∙ e in cc
begin_kind w kind.Ended p (Wake values a) e h paused = let f = sym h.0 ∙ e in cc
begin_kind w kind.Over p (Start args values a) e h paused = let f = sym h.0 ∙ e in cc
begin_kind w kind.Over p (Wake values a) e h paused = let f = sym h.0 ∙ e in cc
begin_kind w (kind.Trapped place trap) p (Start args values a) e h paused = let f = sym h.0 ∙ e in cc
begin_kind w (kind.Trapped place trap) p (Wake values a) e h paused = let f = sym h.0 ∙ e in cc

module _ (c : PlainCode) (valid : IsValidCode c) (l : Log) (log : ExchangeLog) (t : ℕ) (w : Walk) (own : Track) (passed : List Logged) (one : Logged) (left : List Logged) (at : IsAtPair c log l t w own passed one left) where
  abbrev Holds : ℕ → Type 0
  Holds m = AgreesUpTo (CodeAlone c) c.shape log t m

  pub inside_code : t < length c.threads
  inside_code = subst (λ n. n < length c.threads) at.rests.number at.rests.loaded.thread

  jobs_then : jobs_in (take (suc (length passed)) (log t)) ≡ jobs_in passed ++ one.job ∷ []
  jobs_then = ap (λ ls. jobs_in (take (suc (length passed)) ls)) at.is ∙ jobs_taken passed left one

  -- a Wake that doesn't come after a reply Paused
  pub wakes_early : own.logged.kind ≡ kind.Wake → (own.written.kind ≡ kind.Paused → ⊥) → Holds (suc (length passed)) → ⊥
  wakes_early wakes never H = by_passed (is_snoc passed)
    where
      wake : (values : List ℤ) × (a : ℕ) × (one.job ≡ Wake values a)
      wake = wake_of (plain_packet own.logged) one.job at.job (ap plain_kind wakes)

      first : (xs : List Exchange) (os : List Output) → map (λ x. x.job) xs ≡ one.job ∷ [] → CodeAlone c t xs os → ⊥
      first [] os e runs = cc
      first (x ∷ xs) os e runs = let j : x.job ≡ one.job = head x.job one.job (map (λ x. x.job) xs) [] e in wake_first Machine (code_engine c t) x xs os wake.0 wake.1 (j ∙ wake.2) runs
        where
          head : (i j : Job) (l m : List Job) → i ∷ l ≡ j ∷ m → i ≡ j
          head i j l m e = cc

      by_passed : IsSnoc passed → ⊥
      by_passed (none ls e) = first H.tells.exchanges H.tells.outputs (H.jobs ∙ jobs_then ∙ ap (λ ls. jobs_in ls ++ one.job ∷ []) e) H.tells.runs
      by_passed (more ls A last e) =
          let count : length passed ≡ suc (length A) = ap length e ∙ length_snoc A last in
          let is : log t ≡ A ++ last ∷ one ∷ left = at.is ∙ ap (λ ls. ls ++ one ∷ left) e ∙ append_assoc A (last ∷ []) (one ∷ left) in
          wake_fails Machine (code_engine c) c.shape log (below_of c.shape valid.shape) t (code_steady c t) A left last one wake.0 wake.1 is wake.2
          (λ p. never (paused_kind own.written.kind (paused_reply (plain_packet own.written) last.reply (at.rests.last A last e) p)))
          (subst (λ n. Holds (suc n)) count H)
        where
          length_snoc : (A : List Logged) (l : Logged) → length (A ++ l ∷ []) ≡ suc (length A)
          length_snoc [] l = refl
          length_snoc (a ∷ A) l = ap suc (length_snoc A l)

  -- a fork at which it writes what the log hasn't
  pub tells_other : CannotTell c log t (jobs_in passed ++ one.job ∷ []) → Holds (suc (length passed)) → ⊥
  tells_other never H = never H.tells (H.jobs ∙ jobs_then)

  -- it begins
  module _ (w1 : Walk) (tracks : w1.branches ≡ w.branches) (number : w1.thread.number ≡ w.thread.number) (stands : (xs : List Exchange) → StandsFor c w.thread xs → StandsFor c w1.thread (xs ++ record { job = one.job; replies = [] } ∷ [])) where
    begun_job : (i : WalksJob c l log w1 (jobs_in passed) one.job) × (i.log.before ≡ [])
    begun_job =
        let d = at.rests.walked in
        let posts = subst (λ v. HavePassed c.shape l log w.thread.number v.items (pair_all d.exchanges d.outputs)) (sym tracks) d.posts in
        let d1 : DidJobs c w.thread (PassedBy c l log w1) (jobs_in passed) = record { exchanges = d.exchanges; outputs = d.outputs; stands = d.stands; jobs_are = d.jobs_are; runs = d.runs; complete = d.complete; posts = posts } in
        job_begins c valid w.thread w1.thread (PassedBy c l log w1) (jobs_in passed) one.job number (subst (λ n. n < length c.threads) (sym number) at.rests.loaded.thread) d1 (stands d.exchanges d.stands)

    pub walks : WalksJob c l log w1 (jobs_in passed) one.job
    walks = begun_job.0

    pub has_begun : HasBegunWalk c l w1
    has_begun = record { log = log; jobs = jobs_in passed; job = one.job; at = begun_job.0; first = begun_job.1 }

  -- it has replied
  module _ (w2 : Walk) (number : w2.thread.number ≡ t) (loaded : Loaded c w2.thread) (resting : IsResting w2.thread) (i : WalksJob c l log w2 (jobs_in passed) one.job) (own2 own3 : Track)
      (gives : (xs : List Exchange) → StandsFor c w2.thread xs → RepliesToLast c w2.thread.number xs (plain_packet own2.written)) (by : RepliesByKind w2.thread own2.written.kind)
      (same : Bool) (passes : (q : Reply) → IsReply (plain_packet own2.written) q → PassesReply c.shape t l own2 own3 same one.reply q left) where
    does : Does c w2.thread (PassedBy c l log w2) (jobs_in passed ++ one.job ∷ []) (plain_packet own2.written)
    does = job_does c w2.thread (PassedBy c l log w2) (jobs_in passed) one.job (plain_packet own2.written) i gives

    p : PassesReply c.shape t l own2 own3 same one.reply does.reply left
    p = passes does.reply does.is

    old_tells : (T : TellsBranches (CodeAlone c) c.shape log t) × (map (λ x. x.job) T.exchanges ≡ jobs_in passed) × (T.outputs ≡ at.rests.walked.outputs) × (T.exchanges ≡ at.rests.walked.exchanges)
    old_tells = tells_of c valid l log t inside_code w (jobs_in passed) at.rests.number at.rests.walked

    new_tells : (T : TellsBranches (CodeAlone c) c.shape log t) × (map (λ x. x.job) T.exchanges ≡ jobs_in passed ++ one.job ∷ []) × (T.outputs ≡ does.done.outputs) × (T.exchanges ≡ does.done.exchanges)
    new_tells = tells_of c valid l log t inside_code w2 (jobs_in passed ++ one.job ∷ []) number does.done

    pub other_reply : same ≡ false → Holds (suc (length passed)) → ⊥
    other_reply no_same H =
        let U = new_tells.0 in
        reply_fails Machine (code_engine c) c.shape log (below_of c.shape valid.shape) t (code_steady c t) (length passed) U (new_tells.1 ∙ sym jobs_then)
        (λ replies. p.no no_same (let e : Some does.reply ≡ Some one.reply = sym does.last ∙ ap last_reply (sym new_tells.2) ∙ last_of_replies U.outputs passed one (subst (RepliesAre U.outputs) (ap (λ ls. take (suc (length passed)) ls) at.is ∙ pairs_taken passed left one) replies) in cc)) H

    pub same_reply : same ≡ true → IsBetweenJobs c log l t w2 own3 (passed ++ one ∷ [])
    same_reply is_same =
        let r = p.yes is_same in
        let jobs : jobs_in passed ++ one.job ∷ [] ≡ jobs_in (passed ++ one ∷ []) = sym (jobs_append passed (one ∷ [])) in
        let d = does.done in
        let walked : WalkedJobs c l log w2 (jobs_in (passed ++ one ∷ [])) = record { exchanges = d.exchanges; outputs = d.outputs; stands = d.stands; jobs_are = d.jobs_are ∙ jobs; runs = d.runs; complete = d.complete; posts = d.posts } in
        let first = first_outputs c valid l log t inside_code old_tells.0 new_tells.0 passed one.job old_tells.1 new_tells.1 in
        let many = one_more_output c valid l log t inside_code new_tells.0 passed one.job new_tells.1 in
        let outputs = new_tells.2 in
        let replies = subst (λ os. RepliesAre os (passed ++ one ∷ [])) new_tells.2
        (replies_last new_tells.0.outputs passed one many (subst (λ os. RepliesAre os passed) (sym (first ∙ old_tells.2)) at.rests.replies) (ap last_reply new_tells.2 ∙ does.last ∙ ap Some r)) in
        record {
          rests = record {
            loaded = loaded;
            number = number;
            resting = resting;
            walked = walked;
            replies = replies;
            paused = λ e. subst (RepliesByKind w2.thread) (sym (ap (λ (q : Packet). q.kind) p.kept) ∙ e) by;
            last = λ A z e. subst (λ q. IsReply (plain_packet own3.written) q) (r ∙ ap (λ (y : Logged). y.reply) (last_one passed A one z e)) (subst (λ q. IsReply (plain_packet q) does.reply) (sym p.kept) does.is);
            first = λ e. absurd (not_empty passed one e);
          };
          has = record { left = left; before = p.before; is = at.is ∙ sym (append_assoc passed (one ∷ []) left) };
        }
      where
        last_one : (A B : List Logged) (y z : Logged) → A ++ y ∷ [] ≡ B ++ z ∷ [] → y ≡ z
        last_one [] [] y z e = cc
        last_one [] (b ∷ []) y z e = cc
        last_one [] (b ∷ b' ∷ B) y z e = cc
        last_one (a ∷ []) [] y z e = cc
        last_one (a ∷ a' ∷ A) [] y z e = cc
        last_one (a ∷ A) (b ∷ B) y z e = last_one A B y z (tail a b (A ++ y ∷ []) (B ++ z ∷ []) e)
          where
            tail : (a b : Logged) (l m : List Logged) → a ∷ l ≡ b ∷ m → l ≡ m
            tail a b l m e = cc

        not_empty : (A : List Logged) (y : Logged) → A ++ y ∷ [] ≡ [] → ⊥
        not_empty [] y e = cc
        not_empty (a ∷ A) y e = cc

pub does_pair : (c : PlainCode) (log : ExchangeLog) (l : Log) (t : ℕ) (w : Walk) (own : Track) (passed : List Logged) (one : Logged) (b : Bool) → (b ≡ true → IsBetweenJobs c log l t w own (passed ++ one ∷ [])) → (b ≡ false → AgreesUpTo (CodeAlone c) c.shape log t (suc (length passed)) → ⊥) → DoesPair c log l t w own passed one b
does_pair c log l t w own passed one true h g = h refl
does_pair c log l t w own passed one false h g = g refl

pub with_reply : (c : PlainCode) (t : ℕ) (l : Log) (x y : Track) (r : Reply) (left : List Logged) → IsBeforeReply c.shape t l x r left → y.cursor ≡ x.cursor → y.logged ≡ x.logged → HasRoom (of_shape c.shape) t (plain_packet y.written) → IsBeforeReply c.shape t l y r left
with_reply c t l x y r left h cursor same room = record {
  fits = record { logged = subst (λ p. HasRoom (of_shape c.shape) t (plain_packet p)) (sym same) h.fits.logged; written = room };
  at = subst (λ z. AtReplyOf c.shape t l z r left) (sym cursor) h.at;
}
