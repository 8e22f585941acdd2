-- Where each thread at rest has done the jobs of a log, one more of them can be given one job more.
use Rattle.std.proofs.Common.{ℕ, zero, suc, ◌+◌, ◌-◌, ◌<◌, ◌≤◌, ◌≡◌, ◌==◌, ◌⊎◌, inl, inr, Bool, true, false, cond, None, Some, List, [], ◌∷◌, ◌++◌, map, length, take, refl, sym, ap, subst, ◌∙◌, arith, append_assoc, append-nil}
use Rattle.std.proofs.lemmas.List.{length-map}
use Rattle.std.proofs.lemmas.Bool.{cases_lt}
use Rattle.forec_kernel.specs.Engine.{Job, Start, Wake, Reply, WasPaused, WasEnded, WasTrapped, WasOver, Seed, Written, written, View, Going, AtFork, Pausing, Ending, Trapping, Exceeding, Engine, Rest, Asleep, Nothing, Exchange, Output, Alone, allowance_of, Answered, pair_up, pair_forks, pair_all, AllReply, last_reply, AtEvent, IsStopped, Reaches, over, event, first_jobs, ends_at, answers_with, Serves, Begins}
use Rattle.forec_kernel.specs.Shapes.{PlainShape}
use Rattle.forec_kernel.proofs.Apart.{Apart, EachApart, AllApart}
use Rattle.forec_kernel.proofs.Same.{IsTotal, serves_total}
use Rattle.exchange_meaning.specs.Logged.{Logged, ExchangeLog, jobs_in, RepliesAre, told_to, HasBranch, AreTold}
use Rattle.exchange_meaning.proofs.TellingLemmas.{equal_number, told_then, last_at}
use Rattle.exchange_meaning.proofs.Complete.{alone_length}
use Rattle.log_laws.proofs.EveryFork.{AllWokenPaused, ForkKnown}
use Rattle.exchange_meaning.proofs.OneMore.{LastFork, all_reply, jobs_snoc, overs, overs_count, pairs_snoc, told_back, told_front, left_by, served_on, ws_at}
use Rattle.log_laws.proofs.LogLists.{unequal, in_snoc, replies_snoc, last_apart, MayBegin, may_begin, woken_later, put_log, put_here, put_else}

module _ (S : Type 0) (es : ℕ → Engine S) (s : PlainShape) (below : (t b : ℕ) → HasBranch s t b → (t < b) × (b < length s.threads)) (total : (t : ℕ) → IsTotal (es t)) where
  abbrev pub threads : ℕ
  threads = length s.threads

  abbrev pub OwnAlone : Type 0
  OwnAlone = (t : ℕ) → t < threads → (xs : List Exchange) (os : List Output) → Alone (es t) xs Nothing os → AreTold s t (pair_all xs os)

  abbrev pub ApartAlone : Type 0
  ApartAlone = (t : ℕ) → t < threads → (xs : List Exchange) (os : List Output) → Alone (es t) xs Nothing os → AllApart os

  abbrev pub KnownAlone : (ℕ → ℕ → ℕ) → Type 0
  KnownAlone most = (t : ℕ) → t < threads → (xs : List Exchange) (os : List Output) (x : Exchange) (o : Output) → length os ≡ length xs → Alone (es t) (xs ++ x ∷ []) Nothing (os ++ o ∷ []) →
      (js : List (List Written)) (ws : List Written) → o ≡ record { jobs = js ++ ws ∷ []; reply = None } → length js ≡ length x.replies →
      ForkKnown (most t (allowance_of x.job)) (length x.replies) (pair_all xs os ++ pair_forks js x.replies) ws

  -- the thread has done the jobs that the log has for it, and told its branches what the log has for them
  pub record Rested (L : ExchangeLog) (t : ℕ) : Type 0 where
    pub exchanges : List Exchange
    pub outputs : List Output
    pub runs : Alone (es t) exchanges Nothing outputs
    pub complete : AllReply outputs
    pub jobs : map (λ x. x.job) exchanges ≡ jobs_in (L t)
    pub replies : RepliesAre outputs (L t)
    pub used : (b : ℕ) → HasBranch s t b → told_to b (pair_all exchanges outputs) ≡ L b

  rested_as : (L M : ExchangeLog) (t : ℕ) → L t ≡ M t → ((b : ℕ) → HasBranch s t b → L b ≡ M b) → Rested L t → Rested M t
  rested_as L M t same all h = record {
    exchanges = h.exchanges;
    outputs = h.outputs;
    runs = h.runs;
    complete = h.complete;
    jobs = h.jobs ∙ ap jobs_in same;
    replies = subst (RepliesAre h.outputs) same h.replies;
    used = λ b m. h.used b m ∙ all b m;
  }

  one_parent : (t u b : ℕ) → HasBranch s t b → HasBranch s u b → t ≡ u
  one_parent t u b h g = let e : Some t ≡ Some u = sym h ∙ g in cc

  -- ---- one job more for a thread

  pub record Given (L : ExchangeLog) (p : ℕ) (job : Job) : Type 0 where
    pub log : ExchangeLog
    pub reply : Reply
    pub low : (t : ℕ) → t < p → log t ≡ L t
    pub far : (t b : ℕ) → HasBranch s t b → t < p → (b ≡ p → ⊥) → log b ≡ L b
    pub at : log p ≡ L p ++ record { job = job; reply = reply } ∷ []
    pub rested : (t : ℕ) → p ≤ t → t < threads → Rested log t

  abbrev pub Gives : ℕ → Type 0
  Gives p = (L : ExchangeLog) → ((t : ℕ) → p ≤ t → t < threads → Rested L t) → (job : Job) → MayBegin (L p) job → Given L p job

  -- ---- a fork's jobs, one after the other

  module _ (p : ℕ) (gives : (b : ℕ) → p < b → b < threads → Gives b) where
    abbrev Above : ExchangeLog → Type 0
    Above L = (t : ℕ) → p < t → t < threads → Rested L t

    abbrev Used : List Answered → ExchangeLog → Type 0
    Used past L = (b : ℕ) → HasBranch s p b → told_to b past ≡ L b

    abbrev AreMine : List Written → Type 0
    AreMine [] = Unit {0}
    AreMine (w ∷ ws) = HasBranch s p w.branch × AreMine ws

    -- threads up to p, and the branches of those below it, are left as they are
    record Kept (L M : ExchangeLog) : Type 0 where
      pub low : (t : ℕ) → t ≤ p → M t ≡ L t
      pub far : (t b : ℕ) → HasBranch s t b → t < p → M b ≡ L b

    kept_none : (L : ExchangeLog) → Kept L L
    kept_none L = record { low = λ t le. refl; far = λ t b m lt. refl }

    kept_then : (L M N : ExchangeLog) → Kept L M → Kept M N → Kept L N
    kept_then L M N h g = record { low = λ t le. g.low t le ∙ h.low t le; far = λ t b m lt. g.far t b m lt ∙ h.far t b m lt }

    record Told (past : List Answered) (L : ExchangeLog) (ws : List Written) : Type 0 where
      pub log : ExchangeLog
      pub replies : List Reply
      pub count : length replies ≡ length ws
      pub used : Used (past ++ pair_up ws replies) log
      pub above : Above log
      pub kept : Kept L log

    abbrev one_of : Written → Reply → Answered
    one_of w r = record { branch = w.branch; job = w.job; reply = r }

    used_one : (past : List Answered) (L : ExchangeLog) (w : Written) → HasBranch s p w.branch → (g : Given L w.branch w.job) → Used past L → Used (past ++ one_of w g.reply ∷ []) g.log
    used_one past L w m g used b is = by (w.branch == b) refl
      where
        by : (test : Bool) → (w.branch == b) ≡ test → told_to b (past ++ one_of w g.reply ∷ []) ≡ g.log b
        by true e =
            let same = equal_number w.branch b e in
            told_then b past (one_of w g.reply ∷ [])
            ∙ ap (λ q. told_to b past ++ cond q (record { job = w.job; reply = g.reply } ∷ []) []) e
            ∙ ap (λ l. l ++ record { job = w.job; reply = g.reply } ∷ []) (used b is)
            ∙ subst (λ n. L n ++ record { job = w.job; reply = g.reply } ∷ [] ≡ g.log n) same (sym g.at)
        by false e =
            told_then b past (one_of w g.reply ∷ [])
            ∙ ap (λ q. told_to b past ++ cond q (record { job = w.job; reply = g.reply } ∷ []) []) e
            ∙ append-nil (told_to b past)
            ∙ used b is
            ∙ sym (g.far p b is (below p w.branch m).0 (λ h. unequal w.branch b e (sym h)))

    above_one : (L : ExchangeLog) (w : Written) → HasBranch s p w.branch → (g : Given L w.branch w.job) → Above L → Above g.log
    above_one L w m g above t lt in_it = by (cases_lt t w.branch)
      where
        by : (t < w.branch) ⊎ (w.branch ≤ t) → Rested g.log t
        by (inl less) = rested_as L g.log t (sym (g.low t less)) (λ b is. sym (g.far t b is less (λ h. let q = one_parent t p w.branch (subst (HasBranch s t) h is) m in omega (arith, q, lt)))) (above t lt in_it)
        by (inr more) = g.rested t more in_it

    kept_one : (L : ExchangeLog) (w : Written) → HasBranch s p w.branch → (g : Given L w.branch w.job) → Kept L g.log
    kept_one L w m g =
        let more = (below p w.branch m).0 in
        record {
          low = λ t le. g.low t (omega (arith, more, le));
          far = λ t b is lt. g.far t b is (omega (arith, more, lt)) (λ h. let q = one_parent t p w.branch (subst (HasBranch s t) h is) m in omega (arith, q, lt));
        }

    tell_all : (ws : List Written) (past : List Answered) (L : ExchangeLog) → AreMine ws → Apart ws → AllWokenPaused past ws → Used past L → Above L → Told past L ws
    tell_all [] past L mine apart woken used above = record {
      log = L;
      replies = [];
      count = refl;
      used = subst (λ ps. Used ps L) (sym (append-nil past)) used;
      above = above;
      kept = kept_none L;
    }
    tell_all (w ∷ ws) past L mine apart woken used above =
        let lt = below p w.branch mine.0 in
        let g = gives w.branch lt.0 lt.1 L (λ t le less. above t (omega (arith, lt.0, le)) less) w.job (may_begin past w.branch w.job (L w.branch) (used w.branch mine.0) woken.0) in
        let x = one_of w g.reply in
        let rest = tell_all ws (past ++ x ∷ []) g.log mine.1 apart.1 (woken_later past x ws apart.0 woken.1) (used_one past L w mine.0 g used) (above_one L w mine.0 g above) in
        record {
          log = rest.log;
          replies = g.reply ∷ rest.replies;
          count = ap suc rest.count;
          used = subst (λ ps. Used ps rest.log) (append_assoc past (x ∷ []) (pair_up ws rest.replies)) rest.used;
          above = rest.above;
          kept = kept_then L g.log rest.log (kept_one L w mine.0 g) rest.kept;
        }

    mine_of : (ws : List Written) (rs : List Reply) → length rs ≡ length ws → AreTold s p (pair_up ws rs) → AreMine ws
    mine_of [] rs e h = tt
    mine_of (w ∷ ws) [] e h = cc
    mine_of (w ∷ ws) (r ∷ rs) e h = let f : length rs ≡ length ws = cc in (h.0, mine_of ws rs f h.1)

    -- ---- a job

    module _ (a bound : ℕ) where
      abbrev e : Engine S
      e = es p

      -- what is known of the thread from here on, after n forks
      record Knows (n : ℕ) (past : List Answered) (st : S) : Type 0 where
        pub own : (rss : List (List Reply)) (o : Output) (r : Rest S) → Serves e a rss st o r → AreTold s p (pair_forks o.jobs rss) × EachApart o.jobs
        pub fork : (rss : List (List Reply)) (o : Output) (r : Rest S) → Serves e a rss st o r → (js : List (List Written)) (ws : List Written) →
            o ≡ record { jobs = js ++ ws ∷ []; reply = None } → length js ≡ length rss → ForkKnown bound (n + length rss) (past ++ pair_forks js rss) ws

      record Done (past : List Answered) (st : S) (L : ExchangeLog) : Type 0 where
        pub log : ExchangeLog
        pub rss : List (List Reply)
        pub o : Output
        pub rest : Rest S
        pub serves : Serves e a rss st o rest
        pub reply : Reply
        pub is : o.reply ≡ Some reply
        pub used : Used (past ++ pair_forks o.jobs rss) log
        pub above : Above log
        pub kept : Kept L log

      replied : (past : List Answered) (st : S) (L : ExchangeLog) (r : Rest S) (q : Reply) → Serves e a [] st (answers_with q) r → Used past L → Above L → Done past st L
      replied past st L r q serves used above = record {
        log = L;
        rss = [];
        o = answers_with q;
        rest = r;
        serves = serves;
        reply = q;
        is = refl;
        used = subst (λ ps. Used ps L) (sym (append-nil past)) used;
        above = above;
        kept = kept_none L;
      }

      module _ (n : ℕ) (past : List Answered) (st : S) (L : ExchangeLog) (knows : Knows n past st) (used : Used past L) (above : Above L) (s' : S) (seeds : List Seed) (reach : Reaches e a st s') (is : e.view s' ≡ AtFork seeds) where
        abbrev ws : List Written
        ws = ws_at e a s' seeds

        ws_count : length ws ≡ length seeds
        ws_count = length-map seeds (written (a - e.units s'))

        here : ForkKnown bound n past ws
        here =
            let k = knows.fork [] (ends_at ws) Nothing (event s' reach (subst (λ v. AtEvent e s' v (LastFork e a s') (ends_at ws) Nothing) (sym is) (refl, refl))) [] ws refl refl in
            let q : n + 0 ≡ n = omega arith in
            subst (λ i. ForkKnown bound i past ws) q (subst (λ ps. ForkKnown bound (n + 0) ps ws) (append-nil past) k)

        own_here : AreMine ws × Apart ws
        own_here =
            let rs = overs ws in
            let first = serves_total S e (total p) a [] (e.join rs s') in
            let k = knows.own (rs ∷ []) (first_jobs ws first.0) first.1 (served_on e a st s' seeds rs [] first.0 first.1 reach is (overs_count ws ∙ ws_count) first.2) in
            (mine_of ws rs (overs_count ws) (told_front s p (pair_up ws rs) (pair_forks first.0.jobs []) k.0), k.1.0)

        told : Told past L ws
        told = tell_all ws past L own_here.0 own_here.1 here.woken used above

        knows_on : (rs : List Reply) → length rs ≡ length ws → Knows (n + 1) (past ++ pair_up ws rs) (e.join rs s')
        knows_on rs count = record {
          own = λ rss o r h. let k = knows.own (rs ∷ rss) (first_jobs ws o) r (served_on e a st s' seeds rs rss o r reach is (count ∙ ws_count) h) in
              (told_back s p (pair_up ws rs) (pair_forks o.jobs rss) k.0, k.1.1);
          fork = λ rss o r h js vs same c.
              let k = knows.fork (rs ∷ rss) (first_jobs ws o) r (served_on e a st s' seeds rs rss o r reach is (count ∙ ws_count) h) (ws ∷ js) vs (ap (first_jobs ws) same) (ap suc c) in
              let q : n + suc (length rss) ≡ (n + 1) + length rss = omega arith in
              subst (λ i. ForkKnown bound i ((past ++ pair_up ws rs) ++ pair_forks js rss) vs) q
              (subst (λ ps. ForkKnown bound (n + suc (length rss)) ps vs) (sym (append_assoc past (pair_up ws rs) (pair_forks js rss))) k);
        }

        went_on : (t : Told past L ws) → Done (past ++ pair_up ws t.replies) (e.join t.replies s') t.log → Done past st L
        went_on t d = record {
          log = d.log;
          rss = t.replies ∷ d.rss;
          o = first_jobs ws d.o;
          rest = d.rest;
          serves = served_on e a st s' seeds t.replies d.rss d.o d.rest reach is (t.count ∙ ws_count) d.serves;
          reply = d.reply;
          is = d.is;
          used = subst (λ ps. Used ps d.log) (append_assoc past (pair_up ws t.replies) (pair_forks d.o.jobs d.rss)) d.used;
          above = d.above;
          kept = kept_then L t.log d.log t.kept d.kept;
        }

      abbrev Next : ℕ → Type 0
      Next n = (past : List Answered) (st : S) (L : ExchangeLog) → Knows (n + 1) past st → Used past L → Above L → suc n ≤ bound → Done past st L

      step_from : (n : ℕ) (past : List Answered) (st : S) (L : ExchangeLog) → Knows n past st → Used past L → Above L → Next n → Done past st L
      step_from n past st L knows used above next = elim ((total p).ends a st) [
        | inl x ↦ replied past st L Nothing WasOver (over x refl refl) used above
        | inr h ↦ by_view h.0 h.1 (e.view h.0) refl
      ]
        where
          plain : (s' : S) → Reaches e a st s' → (v : View) → e.view s' ≡ v → (q : Reply) (r : Rest S) → AtEvent e s' v (LastFork e a s') (answers_with q) r → Done past st L
          plain s' reach v is q r at = replied past st L r q (event s' reach (subst (λ w. AtEvent e s' w (LastFork e a s') (answers_with q) r) (sym is) at)) used above

          by_view : (s' : S) → Reaches e a st s' → (v : View) → e.view s' ≡ v → Done past st L
          by_view s' reach Going is = absurd (subst IsStopped is reach.stops)
          by_view s' reach (AtFork seeds) is =
              let t = told n past st L knows used above s' seeds reach is in
              let k = knows_on n past st L knows used above s' seeds reach is t.replies t.count in
              went_on n past st L knows used above s' seeds reach is t (next _ _ t.log k t.used t.above (here n past st L knows used above s' seeds reach is).few)
          by_view s' reach (Pausing c) is = plain s' reach (Pausing c) is (WasPaused c (e.units s')) (Asleep s') (refl, refl)
          by_view s' reach (Ending c) is = plain s' reach (Ending c) is (WasEnded c (e.units s')) Nothing (refl, refl)
          by_view s' reach (Trapping place trap) is = plain s' reach (Trapping place trap) is (WasTrapped place trap (e.units s')) Nothing (refl, refl)
          by_view s' reach Exceeding is = plain s' reach Exceeding is WasOver Nothing (refl, refl)

      do_job : (fuel n : ℕ) (past : List Answered) (st : S) (L : ExchangeLog) → bound ≤ n + fuel → Knows n past st → Used past L → Above L → Done past st L
      do_job zero n past st L enough knows used above = step_from n past st L knows used above (λ ps s1 M k u b few. absurd (omega (arith, few, enough)))
      do_job (suc fuel) n past st L enough knows used above = step_from n past st L knows used above (λ ps s1 M k u b few. do_job fuel (n + 1) ps s1 M (omega (arith, enough)) k u b)

  -- ---- the thread that is given the job

  module _ (own : OwnAlone) (apart : ApartAlone) (most : ℕ → ℕ → ℕ) (known : KnownAlone most) (p : ℕ) (inside : p < threads) (gives : (b : ℕ) → p < b → b < threads → Gives b)
      (L : ExchangeLog) (rested : (t : ℕ) → p ≤ t → t < threads → Rested L t) (job : Job) (may : MayBegin (L p) job) where
    abbrev mine : Rested L p
    mine = rested p (omega arith) inside

    abbrev left : Rest S
    left = (left_by (es p) mine.exchanges Nothing mine.outputs mine.runs).rest

    begun : (j : Job) → MayBegin (L p) j → (st : S) × Begins (es p) j left st
    begun (Start args values a) h = ((es p).start args values, refl)
    begun (Wake values a) h =
        let last : last_reply mine.outputs ≡ Some (WasPaused h.copies h.units) =
        sym (ap last_reply (take_all mine.outputs (suc (length h.front)) (replies_count mine.outputs (L p) h.front h.last h.is mine.replies)))
        ∙ last_at mine.outputs h.front [] h.last (subst (RepliesAre mine.outputs) h.is mine.replies) ∙ ap Some h.paused in
        let slept = (left_by (es p) mine.exchanges Nothing mine.outputs mine.runs).slept h.copies h.units last in
        ((es p).wake values slept.0, subst (λ q. Begins (es p) (Wake values a) q ((es p).wake values slept.0)) (sym slept.1) refl)
      where
        take_all : {A : Type 0} → (ls : List A) (n : ℕ) → length ls ≡ n → take n ls ≡ ls
        take_all [] zero e = refl
        take_all [] (suc n) e = refl
        take_all (l ∷ ls) zero e = cc
        take_all (l ∷ ls) (suc n) e = let f : length ls ≡ n = cc in ap (λ x. l ∷ x) (take_all ls n f)

        snoc_count : (ls : List Logged) (l : Logged) → length (ls ++ l ∷ []) ≡ suc (length ls)
        snoc_count [] l = refl
        snoc_count (m ∷ ls) l = ap suc (snoc_count ls l)

        same_count : (os : List Output) (ls : List Logged) → RepliesAre os ls → length os ≡ length ls
        same_count [] [] h = refl
        same_count [] (l ∷ ls) h = absurd h
        same_count (o ∷ os) [] h = absurd h
        same_count (o ∷ os) (l ∷ ls) h = ap suc (same_count os ls h.1)

        replies_count : (os : List Output) (ls front : List Logged) (l : Logged) → ls ≡ front ++ l ∷ [] → RepliesAre os ls → length os ≡ suc (length front)
        replies_count os ls front l is h = same_count os ls h ∙ ap length is ∙ snoc_count front l

    abbrev st : S
    st = (begun job may).0

    count : length mine.outputs ≡ length mine.exchanges
    count = alone_length (es p) mine.exchanges Nothing mine.outputs mine.runs

    abbrev past : List Answered
    past = pair_all mine.exchanges mine.outputs

    abbrev with : List (List Reply) → Exchange
    with rss = record { job = job; replies = rss }

    runs_more : (rss : List (List Reply)) (o : Output) (r : Rest S) → Serves (es p) (allowance_of job) rss st o r → Alone (es p) (mine.exchanges ++ with rss ∷ []) Nothing (mine.outputs ++ o ∷ [])
    runs_more rss o r serves = (left_by (es p) mine.exchanges Nothing mine.outputs mine.runs).then (with rss) o st r (begun job may).1 serves

    knows : Knows p gives (allowance_of job) (most p (allowance_of job)) 0 past st
    knows = record {
      own = λ rss o r h.
          let al = runs_more rss o r h in (
            told_back s p past (pair_forks o.jobs rss) (subst (AreTold s p) (pairs_snoc mine.exchanges mine.outputs (with rss) o count) (own p inside _ _ al)),
            last_apart mine.outputs o (apart p inside _ _ al),
          );
      fork = λ rss o r h js ws same c.
          let q : length rss ≡ 0 + length rss = omega arith in
          subst (λ i. ForkKnown (most p (allowance_of job)) i (past ++ pair_forks js rss) ws) q
          (known p inside mine.exchanges mine.outputs (with rss) o count (runs_more rss o r h) js ws same c);
    }

    done : Done p gives (allowance_of job) (most p (allowance_of job)) past st L
    done = do_job p gives (allowance_of job) (most p (allowance_of job)) (most p (allowance_of job)) 0 past st L (omega arith) knows mine.used (λ t lt less. rested t (omega (arith, lt)) less)

    abbrev one : Logged
    one = record { job = job; reply = done.reply }

    abbrev after : ExchangeLog
    after = put_log done.log p (L p ++ one ∷ [])

    after_else : (t : ℕ) → (t ≡ p → ⊥) → after t ≡ done.log t
    after_else t h = put_else done.log p (L p ++ one ∷ []) t h

    not_own : (t b : ℕ) → HasBranch s t b → p ≤ t → b ≡ p → ⊥
    not_own t b m le e = let lt = (below t b m).0 in omega (arith, lt, le, e)

    mine_after : Rested after p
    mine_after = record {
      exchanges = mine.exchanges ++ with done.rss ∷ [];
      outputs = mine.outputs ++ done.o ∷ [];
      runs = runs_more done.rss done.o done.rest done.serves;
      complete = all_reply mine.outputs done.o done.reply mine.complete done.is;
      jobs = jobs_snoc mine.exchanges (with done.rss) ∙ ap (λ l. l ++ job ∷ []) mine.jobs ∙ sym (in_snoc (L p) one) ∙ ap jobs_in (sym (put_here done.log p (L p ++ one ∷ [])));
      replies = subst (RepliesAre (mine.outputs ++ done.o ∷ [])) (sym (put_here done.log p (L p ++ one ∷ []))) (replies_snoc mine.outputs (L p) done.o one mine.replies done.is);
      used = λ b m. ap (told_to b) (pairs_snoc mine.exchanges mine.outputs (with done.rss) done.o count) ∙ done.used b m ∙ sym (after_else b (not_own p b m (omega arith)));
    }

    rested_after : (t : ℕ) → p ≤ t → t < threads → Rested after t
    rested_after t le less = by (cases_lt p t)
      where
        by : (p < t) ⊎ (t ≤ p) → Rested after t
        by (inl more) =
            rested_as done.log after t (sym (after_else t (λ e. omega (arith, e, more)))) (λ b m. sym (after_else b (not_own t b m le))) (done.above t more less)
        by (inr least) = let e : p ≡ t = omega (arith, le, least) in subst (Rested after) e mine_after

    pub given : Given L p job
    given = record {
      log = after;
      reply = done.reply;
      low = λ t lt. after_else t (λ e. omega (arith, e, lt)) ∙ done.kept.low t (omega (arith, lt));
      far = λ t b m lt nay. after_else b nay ∙ done.kept.far t b m lt;
      at = put_here done.log p (L p ++ one ∷ []);
      rested = rested_after;
    }

  pub gives_below : (own : OwnAlone) → (apart : ApartAlone) → (most : ℕ → ℕ → ℕ) → (known : KnownAlone most) → (n p : ℕ) → threads ≤ p + n → p < threads → Gives p
  gives_below own apart most known zero p enough lt = absurd (omega (arith, enough, lt))
  gives_below own apart most known (suc n) p enough lt =
      given own apart most known p lt (λ b more less. gives_below own apart most known n b (omega (arith, enough, more)) less)
