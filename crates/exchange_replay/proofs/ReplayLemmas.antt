-- The pairs of a thread, one after the other.
use Rattle.std.proofs.Common.{◌≡◌, ℕ, zero, suc, ◌+◌, ◌<◌, ◌≤◌, Bool, true, false, List, [], ◌∷◌, ◌++◌, length, map, take, drop, refl, sym, ap, ◌∙◌, subst, append-nil, arith}
use Rattle.std.specs.Prelude.{codes, decimal, slice_index_or}
use mathlib.Core.Bool.{true≢false}
use Rattle.forec_kernel.specs.Engine.{Job, Start, Wake, Answered, Reply, WasPaused, WasEnded, WasTrapped, WasOver, pair_all}
use Rattle.forec_kernel.specs.Packed.{IsReply}
use Rattle.thread_code.specs.Plain.{PlainCode}
use Rattle.thread_code.specs.Valid.{IsValidCode}
use Rattle.thread_code.specs.Machine.{Machine}
use Rattle.thread_code.specs.Alone.{code_engine, CodeAlone}
use Rattle.thread_code.proofs.Steady.{code_steady}
use Rattle.combine_tree.specs.declared.packet.Packet.{Packet}
use Rattle.combine_tree.specs.declared.packet.PacketKind.TheVariants as kind
use Rattle.combine_tree.specs.Plain.{plain_packet}
use Rattle.core_machine.specs.Threads.{Loaded, StandsFor, IsResting}
use Rattle.exchange_meaning.specs.Logged.{Logged, ExchangeLog, jobs_in, RepliesAre, told_to}
use Rattle.exchange_meaning.specs.Telling.{IsAll, TellsBranches}
use Rattle.exchange_meaning.specs.Replays.{AgreesUpTo}
use Rattle.exchange_meaning.specs.LogLines.{job_line, reply_line, exchange_lines, spaced_numbers, marked_numbers, logged_trap}
use Rattle.exchange_meaning.proofs.Shaped.{below_of}
use Rattle.exchange_meaning.proofs.Deciding.{fails_at_job, same_at_end}
use Rattle.exchange_meaning.proofs.Differing.{tells_same}
use Rattle.exchange_meaning.proofs.Failing.{take_whole}
use Rattle.log_text.specs.declared.log.Log.{Log}
use Rattle.log_text.specs.declared.section.Section.{Section}
use Rattle.log_text.specs.ReadLogs.{HasPairs}
use Rattle.exchange_replay.specs.declared.track.Track.{Track}
use Rattle.exchange_replay.specs.declared.walk.Walk.{Walk}
use Rattle.exchange_replay.specs.Tracks.{IsBeforePairs, ReadsNext, HavePassed}
use Rattle.exchange_replay.specs.Replaying.{RestsAfter, IsBetweenJobs, IsAtPair, ReplaysSame, ReplaysUpTo}
use Rattle.exchange_replay.proofs.PairLemmas.{tells_of}

-- ---- how many there can be

length_append : (a b : List ℕ) → length (a ++ b) ≡ length a + length b
length_append [] b = omega arith
length_append (x ∷ a) b = let ih = length_append a b in omega (arith, ih)

front_long : (a b : List ℕ) → 0 < length a → 0 < length (a ++ b)
front_long a b h = let n = length_append a b in omega (arith, h, n)

job_long : (j : Job) → 0 < length (job_line j)
job_long (Start args values a) = let n : 0 < length (codes "start ") = omega arith in front_long (codes "start ") (decimal a ++ spaced_numbers args ++ spaced_numbers values ++ codes "\n") n
job_long (Wake values a) = let n : 0 < length (codes "wake ") = omega arith in front_long (codes "wake ") (decimal a ++ spaced_numbers values ++ codes "\n") n

reply_long : (r : Reply) → 0 < length (reply_line r)
reply_long (WasPaused copies u) = let n : 0 < length (codes "paused ") = omega arith in front_long (codes "paused ") (decimal u ++ marked_numbers copies ++ codes "\n") n
reply_long (WasEnded copies u) = let n : 0 < length (codes "ended ") = omega arith in front_long (codes "ended ") (decimal u ++ marked_numbers copies ++ codes "\n") n
reply_long (WasTrapped place trap u) = let n : 0 < length (codes "trapped ") = omega arith in front_long (codes "trapped ") (decimal u ++ codes " " ++ decimal place.line ++ codes ":" ++ decimal place.column ++ codes " " ++ logged_trap trap ++ codes "\n") n
reply_long WasOver = let n : 0 < length (codes "over\n") = omega arith in n

lines_long : (ls : List Logged) → length ls + length ls ≤ length (exchange_lines ls)
lines_long [] = omega arith
lines_long (l ∷ ls) =
    let ih = lines_long ls in
    let a = length_append (job_line l.job ++ reply_line l.reply) (exchange_lines ls) in
    let b = length_append (job_line l.job) (reply_line l.reply) in
    let x = job_long l.job in
    let y = reply_long l.reply in omega (arith, ih, a, b, x, y)

length_drop : (n : ℕ) (ls : List ℕ) → length (drop n ls) ≤ length ls
length_drop zero ls = omega arith
length_drop (suc n) [] = omega arith
length_drop (suc n) (x ∷ ls) = let ih = length_drop n ls in omega (arith, ih)

-- ---- between two of them

module _ (c : PlainCode) (valid : IsValidCode c) (l : Log) (log : ExchangeLog) (t : ℕ) where
  -- before the first
  pub at_first : (w : Walk) (own : Track) → Loaded c w.thread → w.thread.number ≡ t → IsResting w.thread → StandsFor c w.thread [] → HavePassed c.shape l log t w.branches.items [] → IsBeforePairs c.shape t l own (log t) → own.written.kind ≡ kind.Blank →
      IsBetweenJobs c log l t w own []
  at_first w own loaded number resting stands passed before blank = record {
    rests = record {
      loaded = loaded;
      number = number;
      resting = resting;
      walked = record { exchanges = []; outputs = []; stands = stands; jobs_are = refl; runs = tt; complete = tt; posts = subst (λ n. HavePassed c.shape l log n w.branches.items []) (sym number) passed };
      replies = tt;
      paused = λ e. let f = sym blank ∙ e in cc;
      last = λ A z e. absurd (none_there A z e);
      first = λ e. blank;
    };
    has = record { left = log t; before = before; is = refl };
  }
    where
      none_there : (A : List Logged) (z : Logged) → [] ≡ A ++ z ∷ [] → ⊥
      none_there [] z e = cc
      none_there (a ∷ A) z e = cc

  -- the next job was read
  pub record Reads (w : Walk) (own : Track) (passed : List Logged) : Type 0 where
    pub one : Logged
    pub left : List Logged
    pub at : IsAtPair c log l t w own passed one left

  pub reads : (w : Walk) (old new : Track) (passed : List Logged) (b : IsBetweenJobs c log l t w old passed) (given : Bool) → given ≡ true → ReadsNext c.shape t l old new given b.has.left → Reads w new passed
  reads w old new passed b given yes_given h = by_left b.has.left refl h
    where
      by_left : (left : List Logged) → b.has.left ≡ left → ReadsNext c.shape t l old new given left → Reads w new passed
      by_left [] e h = absurd (true≢false (sym yes_given ∙ h))
      by_left (pair ∷ left) e h =
          let r = b.rests in
          let kept = sym h.3 in
          record {
            one = pair;
            left = left;
            at = record {
              rests = record {
                loaded = r.loaded;
                number = r.number;
                resting = r.resting;
                walked = r.walked;
                replies = r.replies;
                paused = λ p. r.paused (ap (λ (q : Packet). q.kind) kept ∙ p);
                last = λ A z f. subst (λ q. IsReply (plain_packet q) z.reply) kept (r.last A z f);
                first = λ f. ap (λ (q : Packet). q.kind) h.3 ∙ r.first f;
              };
              job = h.1;
              before = h.2;
              is = b.has.is ∙ ap (λ ls. passed ++ ls) e;
            };
          }

  pub all_read : (w : Walk) (old new : Track) (passed : List Logged) (b : IsBetweenJobs c log l t w old passed) (given : Bool) → given ≡ false → ReadsNext c.shape t l old new given b.has.left → log t ≡ passed
  all_read w old new passed b given not_given h = by_left b.has.left refl h
    where
      by_left : (left : List Logged) → b.has.left ≡ left → ReadsNext c.shape t l old new given left → log t ≡ passed
      by_left [] e h = b.has.is ∙ ap (λ ls. passed ++ ls) e ∙ append-nil passed
      by_left (pair ∷ left) e h = absurd (true≢false (sym h.0 ∙ not_given))

  -- ---- the verdict

  agrees : (w : Walk) (own : Track) (passed rest : List Logged) → log t ≡ passed ++ rest → RestsAfter c log l t w own passed → AgreesUpTo (CodeAlone c) c.shape log t (length passed)
  agrees w own passed rest is r =
      let lt = subst (λ n. n < length c.threads) r.number r.loaded.thread in
      let T = tells_of c valid l log t lt w (jobs_in passed) r.number r.walked in
      let front : take (length passed) (log t) ≡ passed = ap (take (length passed)) is ∙ taken passed rest in
      record {
        tells = T.0;
        jobs = T.1 ∙ ap jobs_in (sym front);
        replies = subst (RepliesAre T.0.outputs) (sym front) (subst (λ os. RepliesAre os passed) (sym T.2) r.replies);
      }
    where
      taken : (A B : List Logged) → take (length A) (A ++ B) ≡ A
      taken [] B = refl
      taken (a ∷ A) B = ap (λ ls. a ∷ ls) (taken A B)

  pub job_fails : (w : Walk) (own : Track) (passed left : List Logged) (one : Logged) (at : IsAtPair c log l t w own passed one left) → (AgreesUpTo (CodeAlone c) c.shape log t (suc (length passed)) → ⊥) → (job : ℕ) → job ≡ suc (length passed) → ReplaysUpTo c log t job
  job_fails w own passed left one at fails job number =
      let count = ap length at.is ∙ length_mid passed one left in
      record {
        before = length passed;
        number = number;
        fails = fails_at_job Machine (code_engine c) c.shape log (below_of c.shape valid.shape) t (code_steady c t) (length passed) (omega (arith, count)) (agrees w own passed (one ∷ left) at.is at.rests) fails;
      }
    where
      length_mid : (A : List Logged) (x : Logged) (B : List Logged) → length (A ++ x ∷ B) ≡ length A + suc (length B)
      length_mid [] x B = omega arith
      length_mid (a ∷ A) x B = let ih = length_mid A x B in omega (arith, ih)

  -- after the last
  module _ (w : Walk) (own : Track) (passed : List Logged) (is : log t ≡ passed) (r : RestsAfter c log l t w own passed) where
    pub so_told : List Answered
    so_told = pair_all r.walked.exchanges r.walked.outputs

    pub so_passed : HavePassed c.shape l log t w.branches.items so_told
    unfolding so_told
    so_passed = subst (λ n. HavePassed c.shape l log n w.branches.items (pair_all r.walked.exchanges r.walked.outputs)) r.number r.walked.posts

    lt : t < length c.threads
    lt = subst (λ n. n < length c.threads) r.number r.loaded.thread

    all : (T : TellsBranches (CodeAlone c) c.shape log t) × (map (λ x. x.job) T.exchanges ≡ jobs_in passed) × (T.outputs ≡ r.walked.outputs) × (T.exchanges ≡ r.walked.exchanges)
    all = tells_of c valid l log t lt w (jobs_in passed) r.number r.walked

    pairs_are : pair_all all.0.exchanges all.0.outputs ≡ so_told
    unfolding so_told
    pairs_are = ap (λ xs. pair_all xs all.0.outputs) all.3 ∙ ap (pair_all r.walked.exchanges) all.2

    abbrev whole : AgreesUpTo (CodeAlone c) c.shape log t (length (log t))
    whole =
        let front : passed ≡ take (length (log t)) (log t) = sym is ∙ sym (take_whole (log t)) in
        record {
          tells = all.0;
          jobs = all.1 ∙ ap jobs_in front;
          replies = subst (RepliesAre all.0.outputs) front (subst (λ os. RepliesAre os passed) (sym all.2) r.replies);
        }

    pub replays_same : IsAll c.shape log t so_told → ReplaysSame c log t
    replays_same used = same_at_end Machine (code_engine c) c.shape log (below_of c.shape valid.shape) t (code_steady c t) whole (λ b m. ap (told_to b) pairs_are ∙ used b m)

    pub pairs_left : (IsAll c.shape log t so_told → ⊥) → (job : ℕ) → job ≡ suc (length passed) → ReplaysUpTo c log t job
    pairs_left never job number = record {
      before = length (log t);
      number = number ∙ ap (λ ls. suc (length ls)) (sym is);
      fails = record {
        within = omega arith;
        before = whole;
        job = λ less. absurd (omega (arith, less));
        left = λ same.
            let one = tells_same Machine (code_engine c) c.shape log (below_of c.shape valid.shape) t (code_steady c t) all.0 same.tells (all.1 ∙ ap jobs_in (sym is) ∙ sym same.jobs) in
            never (λ b m. ap (told_to b) (sym pairs_are ∙ one.pairs) ∙ same.all b m);
      };
    }

-- ---- where a replay is

-- it stands behind these pairs, before job number `job`
pub record Stage (c : PlainCode) (log : ExchangeLog) (l : Log) (t : ℕ) (w : Walk) (own : Track) (job : ℕ) : Type 0 where
  pub passed : List Logged
  pub is : IsBetweenJobs c log l t w own passed
  pub number : job ≡ suc (length passed)

length_snoc : (A : List Logged) (x : Logged) → length (A ++ x ∷ []) ≡ suc (length A)
length_snoc [] x = refl
length_snoc (a ∷ A) x = ap suc (length_snoc A x)

length_both : (A B : List Logged) → length (A ++ B) ≡ length A + length B
length_both [] B = omega arith
length_both (a ∷ A) B = let ih = length_both A B in omega (arith, ih)

pub next_stage : (c : PlainCode) (log : ExchangeLog) (l : Log) (t : ℕ) (w w' : Walk) (own own' : Track) (job : ℕ) (s : Stage c log l t w own job) (one : Logged) → IsBetweenJobs c log l t w' own' (s.passed ++ one ∷ []) → Stage c log l t w' own' (job + 1)
next_stage c log l t w w' own own' job s one b = record {
  passed = s.passed ++ one ∷ [];
  is = b;
  number = let n = s.number in let m = length_snoc s.passed one in omega (arith, n, m);
}

-- fewer are left
pub fewer_left : (c : PlainCode) (log : ExchangeLog) (l : Log) (t : ℕ) (w w' : Walk) (own own' : Track) (job : ℕ) (s : Stage c log l t w own job) (one : Logged) → IsBetweenJobs c log l t w' own' (s.passed ++ one ∷ []) → own'.cursor.left < own.cursor.left
fewer_left c log l t w w' own own' job s one b =
    let a = ap length s.is.has.is ∙ length_both s.passed s.is.has.left in
    let d = ap length b.has.is ∙ length_both (s.passed ++ one ∷ []) b.has.left in
    let m = length_snoc s.passed one in
    let x = s.is.has.before.at.count in
    let y = b.has.before.at.count in omega (arith, a, d, m, x, y)

-- they are at most half as many as the bytes
pub few_jobs : (c : PlainCode) (log : ExchangeLog) (l : Log) (t : ℕ) → 0 < t → t < length c.shape.threads → HasPairs c.shape l log → length (log t) + length (log t) ≤ length l.bytes.items
few_jobs c log l zero some lt pairs = absurd (omega (arith, some))
few_jobs c log l (suc t) some lt pairs =
    let section = pairs.each t lt (record { start = 0; jobs = 0 }) in
    let long = lines_long (log (suc t)) in
    let both = ap length section.text ∙ length_append (exchange_lines (log (suc t))) section.rest in
    let d : Section = record { start = 0; jobs = 0 } in
    let cut = length_drop (slice_index_or l.sections.items t d).start l.bytes.items in omega (arith, long, both, cut)

pub one_left : (c : PlainCode) (log : ExchangeLog) (l : Log) (t : ℕ) (w : Walk) (own : Track) (passed : List Logged) (one : Logged) (left : List Logged) → IsAtPair c log l t w own passed one left → length passed < length (log t)
one_left c log l t w own passed one left at = let n = ap length at.is ∙ length_both passed (one ∷ left) in omega (arith, n)
