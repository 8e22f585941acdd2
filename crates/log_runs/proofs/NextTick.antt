-- Whether a thread tells its branches what is logged in one job more can be found.
use Rattle.std.proofs.Common.{ℕ, zero, suc, ◌+◌, ◌-◌, ◌<◌, ◌≤◌, ◌≡◌, ◌==◌, ◌⊎◌, inl, inr, Bool, true, false, cond, ℤ, Option, None, Some, List, [], ◌∷◌, ◌++◌, map, length, length-append, refl, sym, ap, subst, ◌∙◌, arith, append_assoc, append-nil}
use Rattle.std.specs.Ordering.{int_eq}
use Rattle.std.proofs.lemmas.Bool.Decides.{Decides-int_eq, nat_tests}
use Rattle.std.proofs.lemmas.List.{length-map}
use Rattle.std.proofs.lemmas.Bool.{cases_lt}
use Rattle.forec_kernel.specs.declared.shape.VarCopy.{VarCopy}
use Rattle.forec_kernel.specs.Engine.{Job, Start, Wake, Reply, WasPaused, WasEnded, WasTrapped, WasOver, Seed, Written, written, View, Going, AtFork, Pausing, Ending, Trapping, Exceeding, Engine, Rest, Asleep, Nothing, Exchange, Output, Alone, allowance_of, Answered, pair_up, pair_forks, pair_all, jobs_to, AllReply, last_reply, AtEvent, RunsOn, IsStopped, Reaches, over, event, first_jobs, ends_at, answers_with, IfElse, Serves, Begins}
use Rattle.forec_kernel.specs.Shapes.{PlainShape}
use Rattle.forec_kernel.proofs.Same.{IsSteady, IsTotal, serves_total}
use Rattle.exchange_meaning.specs.Logged.{Logged, ExchangeLog, jobs_in, logged, told_to, HasBranch, AreTold, StartsWith}
use Rattle.exchange_meaning.specs.Telling.{TellsBranches}
use Rattle.exchange_meaning.proofs.Complete.{alone_length}
use Rattle.exchange_meaning.proofs.Deciding.{AtFork_of, jobs_for, jobs_then, pairs_at, fork_refutes}
use Rattle.exchange_meaning.proofs.OneMore.{LastFork, all_reply, jobs_snoc, left_by, overs, overs_count, pairs_snoc, same_self, served_on, told_back, told_front, ws_at}
use Rattle.exchange_meaning.proofs.TellingLemmas.{equal_number, told_then, jobs_told, jobs_append}

-- ---- jobs are the same, or not

abbrev pub Found : Type 0 → Type 0
Found P = P ⊎ (P → ⊥)

int_found : (a b : ℤ) → Found (a ≡ b)
int_found a b = by (int_eq a b) refl
  where
    by : (t : Bool) → int_eq a b ≡ t → Found (a ≡ b)
    by true e = inl ((Decides-int_eq a b).0 e)
    by false e = inr (λ h. let f = sym ((Decides-int_eq a b).1 h) ∙ e in cc)

pub nat_found : (a b : ℕ) → Found (a ≡ b)
nat_found a b = by (a == b) refl
  where
    by : (t : Bool) → (a == b) ≡ t → Found (a ≡ b)
    by true e = inl (equal_number a b e)
    by false e = inr (λ h. grind (arith, nat_tests))

ints_found : (a b : List ℤ) → Found (a ≡ b)
ints_found [] [] = inl refl
ints_found [] (y ∷ b) = inr (λ e. cc)
ints_found (x ∷ a) [] = inr (λ e. cc)
ints_found (x ∷ a) (y ∷ b) = by (int_found x y) (ints_found a b)
  where
    by : Found (x ≡ y) → Found (a ≡ b) → Found (x ∷ a ≡ y ∷ b)
    by (inl e) (inl f) = inl (ap (λ z. z ∷ a) e ∙ ap (λ l. y ∷ l) f)
    by (inl e) (inr f) = inr (λ h. f (tail h))
      where
        tail : x ∷ a ≡ y ∷ b → a ≡ b
        tail h = cc
    by (inr e) f = inr (λ h. e (head h))
      where
        head : x ∷ a ≡ y ∷ b → x ≡ y
        head h = cc

job_found : (i j : Job) → Found (i ≡ j)
job_found (Start args values n) (Wake values' n') = inr (λ e. cc)
job_found (Wake values n) (Start args' values' n') = inr (λ e. cc)
job_found (Start args values n) (Start args' values' n') = by (ints_found args args') (ints_found values values') (nat_found n n')
  where
    by : Found (args ≡ args') → Found (values ≡ values') → Found (n ≡ n') → Found (Start args values n ≡ Start args' values' n')
    by (inl e) (inl f) (inl g) = inl (ap (λ x. Start x values n) e ∙ ap (λ x. Start args' x n) f ∙ ap (λ x. Start args' values' x) g)
    by (inr e) f g = inr (λ h. e (one h))
      where
        one : Start args values n ≡ Start args' values' n' → args ≡ args'
        one h = cc
    by (inl e) (inr f) g = inr (λ h. f (one h))
      where
        one : Start args values n ≡ Start args' values' n' → values ≡ values'
        one h = cc
    by (inl e) (inl f) (inr g) = inr (λ h. g (one h))
      where
        one : Start args values n ≡ Start args' values' n' → n ≡ n'
        one h = cc
job_found (Wake values n) (Wake values' n') = by (ints_found values values') (nat_found n n')
  where
    by : Found (values ≡ values') → Found (n ≡ n') → Found (Wake values n ≡ Wake values' n')
    by (inl f) (inl g) = inl (ap (λ x. Wake x n) f ∙ ap (λ x. Wake values' x) g)
    by (inr f) g = inr (λ h. f (one h))
      where
        one : Wake values n ≡ Wake values' n' → values ≡ values'
        one h = cc
    by (inl f) (inr g) = inr (λ h. g (one h))
      where
        one : Wake values n ≡ Wake values' n' → n ≡ n'
        one h = cc

-- ---- lists

same_next : (xs : List Job) (a b : Job) (us vs : List Job) → xs ++ a ∷ us ≡ xs ++ b ∷ vs → a ≡ b
same_next [] a b us vs e = cc
same_next (x ∷ xs) a b us vs e = let f : xs ++ a ∷ us ≡ xs ++ b ∷ vs = cc in same_next xs a b us vs f

too_short : (xs : List Job) (a : Job) (us : List Job) → xs ≡ xs ++ a ∷ us → ⊥
too_short [] a us e = cc
too_short (x ∷ xs) a us e = let f : xs ≡ xs ++ a ∷ us = cc in too_short xs a us f

-- ---- what a log has for the jobs of a fork

module _ (s : PlainShape) (log : ExchangeLog) (t : ℕ) where
  abbrev Told : List Answered → Type 0
  Told past = (b : ℕ) → HasBranch s t b → StartsWith (log b) (told_to b past)

  abbrev AreMine : List Written → Type 0
  AreMine [] = Unit {0}
  AreMine (w ∷ ws) = HasBranch s t w.branch × AreMine ws

  -- a job that isn't the branch's next one
  pub record Differs (past : List Answered) (ws : List Written) : Type 0 where
    pub u : List Written
    pub w : Written
    pub v : List Written
    pub split : ws ≡ u ++ w ∷ v
    pub mine : HasBranch s t w.branch
    pub not : StartsWith (jobs_in (log w.branch)) ((jobs_to w.branch past ++ jobs_for w.branch u) ++ w.job ∷ []) → ⊥

  pub record Matches (past : List Answered) (ws : List Written) : Type 0 where
    pub replies : List Reply
    pub count : length replies ≡ length ws
    pub told : Told (past ++ pair_up ws replies)

  abbrev one_of : Written → Reply → Answered
  one_of w r = record { branch = w.branch; job = w.job; reply = r }

  -- the next one was told too
  told_one : (past : List Answered) (w : Written) (l : Logged) (ls : List Logged) → Told past → log w.branch ≡ told_to w.branch past ++ l ∷ ls → l.job ≡ w.job → Told (past ++ one_of w l.reply ∷ [])
  told_one past w l ls told at same b mine = by_test (w.branch == b) refl
    where
      by_test : (test : Bool) → (w.branch == b) ≡ test → StartsWith (log b) (told_to b (past ++ one_of w l.reply ∷ []))
      by_test true e =
          let is = equal_number w.branch b e in
          let here : log b ≡ told_to b past ++ l ∷ ls = subst (λ n. log n ≡ told_to n past ++ l ∷ ls) is at in
          let mine : told_to b (past ++ one_of w l.reply ∷ []) ≡ told_to b past ++ l ∷ [] =
          told_then b past (one_of w l.reply ∷ []) ∙ ap (λ q. told_to b past ++ cond q (record { job = w.job; reply = l.reply } ∷ []) []) e ∙ ap (λ j. told_to b past ++ record { job = j; reply = l.reply } ∷ []) (sym same) in
          record { rest = ls; is = here ∙ sym (append_assoc (told_to b past) (l ∷ []) ls) ∙ ap (λ x. x ++ ls) (sym mine) }
      by_test false e =
          let w0 = told b mine in
          let none : told_to b (past ++ one_of w l.reply ∷ []) ≡ told_to b past =
          told_then b past (one_of w l.reply ∷ []) ∙ ap (λ q. told_to b past ++ cond q (record { job = w.job; reply = l.reply } ∷ []) []) e ∙ append-nil (told_to b past) in
          record { rest = w0.rest; is = w0.is ∙ ap (λ x. x ++ w0.rest) (sym none) }

  -- so the jobs after it
  later_jobs : (b : ℕ) (past : List Answered) (w : Written) (r : Reply) (u : List Written) → jobs_to b (past ++ one_of w r ∷ []) ++ jobs_for b u ≡ jobs_to b past ++ jobs_for b (w ∷ u)
  later_jobs b past w r u = ap (λ js. js ++ jobs_for b u) (jobs_then b past (one_of w r ∷ [])) ∙ append_assoc (jobs_to b past) (jobs_to b (one_of w r ∷ [])) (jobs_for b u) ∙ by_test (w.branch == b)
    where
      by_test : (test : Bool) → jobs_to b past ++ (cond test (w.job ∷ []) [] ++ jobs_for b u) ≡ jobs_to b past ++ cond test (w.job ∷ jobs_for b u) (jobs_for b u)
      by_test true = refl
      by_test false = refl

  -- the first job of a fork isn't the next one
  none_left : (past : List Answered) (w : Written) → log w.branch ≡ told_to w.branch past ++ [] → StartsWith (jobs_in (log w.branch)) ((jobs_to w.branch past ++ []) ++ w.job ∷ []) → ⊥
  none_left past w at h =
      let js = jobs_to w.branch past in
      let have : jobs_in (log w.branch) ≡ js = ap jobs_in (at ∙ append-nil (told_to w.branch past)) ∙ jobs_told w.branch past in
      too_short js w.job h.rest (sym have ∙ h.is ∙ ap (λ x. (x ++ w.job ∷ []) ++ h.rest) (append-nil js) ∙ append_assoc js (w.job ∷ []) h.rest)

  other_next : (past : List Answered) (w : Written) (l : Logged) (ls : List Logged) → log w.branch ≡ told_to w.branch past ++ l ∷ ls → (l.job ≡ w.job → ⊥) →
      StartsWith (jobs_in (log w.branch)) ((jobs_to w.branch past ++ []) ++ w.job ∷ []) → ⊥
  other_next past w l ls at nay h =
      let js = jobs_to w.branch past in
      let have : jobs_in (log w.branch) ≡ js ++ l.job ∷ jobs_in ls = ap jobs_in at ∙ jobs_append (told_to w.branch past) (l ∷ ls) ∙ ap (λ x. x ++ l.job ∷ jobs_in ls) (jobs_told w.branch past) in
      nay (same_next js l.job w.job (jobs_in ls) h.rest (sym have ∙ h.is ∙ ap (λ x. (x ++ w.job ∷ []) ++ h.rest) (append-nil js) ∙ append_assoc js (w.job ∷ []) h.rest))

  matched : (past : List Answered) (w : Written) (r : Reply) (ws : List Written) → Matches (past ++ one_of w r ∷ []) ws ⊎ Differs (past ++ one_of w r ∷ []) ws → Matches past (w ∷ ws) ⊎ Differs past (w ∷ ws)
  matched past w r ws (inl m) = inl (record {
    replies = r ∷ m.replies;
    count = ap suc m.count;
    told = subst Told (append_assoc past (one_of w r ∷ []) (pair_up ws m.replies)) m.told;
  })
  matched past w r ws (inr d) = inr (record {
    u = w ∷ d.u;
    w = d.w;
    v = d.v;
    split = ap (λ x. w ∷ x) d.split;
    mine = d.mine;
    not = λ h. d.not (subst (λ js. StartsWith (jobs_in (log d.w.branch)) (js ++ d.w.job ∷ [])) (sym (later_jobs d.w.branch past w r d.u)) h);
  })

  pub match_fork : (past : List Answered) (ws : List Written) → Told past → AreMine ws → Matches past ws ⊎ Differs past ws
  match_fork past [] told mine = inl (record { replies = []; count = refl; told = subst Told (sym (append-nil past)) told })
  match_fork past (w ∷ ws) told mine = by (told w.branch mine.0).rest (told w.branch mine.0).is (λ r h. match_fork (past ++ one_of w r ∷ []) ws h mine.1)
    where
      first : (StartsWith (jobs_in (log w.branch)) ((jobs_to w.branch past ++ []) ++ w.job ∷ []) → ⊥) → Differs past (w ∷ ws)
      first nay = record { u = []; w = w; v = ws; split = refl; mine = mine.0; not = nay }

      by : (rest : List Logged) → log w.branch ≡ told_to w.branch past ++ rest → ((r : Reply) → Told (past ++ one_of w r ∷ []) → Matches (past ++ one_of w r ∷ []) ws ⊎ Differs (past ++ one_of w r ∷ []) ws) → Matches past (w ∷ ws) ⊎ Differs past (w ∷ ws)
      by [] at go = inr (first (none_left past w at))
      by (l ∷ ls) at go = by_job (job_found l.job w.job)
        where
          by_job : Found (l.job ≡ w.job) → Matches past (w ∷ ws) ⊎ Differs past (w ∷ ws)
          by_job (inl same) = matched past w l.reply ws (go l.reply (told_one past w l ls told at same))
          by_job (inr nay) = inr (first (other_next past w l ls at nay))

-- ---- how much a log can have been told

abbrev sum_below : (ℕ → ℕ) → ℕ → ℕ
sum_below f zero = 0
sum_below f (suc n) = f n + sum_below f n

sums_grow : (f g : ℕ → ℕ) (n : ℕ) → ((b : ℕ) → f b ≤ g b) → sum_below f n ≤ sum_below g n
sums_grow f g zero h = omega arith
sums_grow f g (suc n) h = let ih = sums_grow f g n h in let here = h n in omega (arith, ih, here)

sums_more : (f g : ℕ → ℕ) (n i : ℕ) → ((b : ℕ) → f b ≤ g b) → suc (f i) ≤ g i → i < n → suc (sum_below f n) ≤ sum_below g n
sums_more f g zero i h more lt = absurd (omega (arith, lt))
sums_more f g (suc n) i h more lt = by (nat_found i n) (λ less. sums_more f g n i h more less)
  where
    by : Found (i ≡ n) → (i < n → suc (sum_below f n) ≤ sum_below g n) → suc (f n + sum_below f n) ≤ g n + sum_below g n
    by (inl e) rec = let rest = sums_grow f g n h in let here = subst (λ m. suc (f m) ≤ g m) e more in omega (arith, rest, here)
    by (inr nay) rec =
        let less : i < n = elim (cases_lt i n) [ inl less ↦ less | inr le ↦ absurd (nay (omega (arith, le, lt))) ] in
        let rest = rec less in
        let here = h n in omega (arith, rest, here)

module _ (s : PlainShape) (log : ExchangeLog) (t : ℕ) (within : (b : ℕ) → HasBranch s t b → b < length s.threads) where
  told_sum : (xs : List Answered) → AreTold s t xs → length xs ≤ sum_below (λ b. length (told_to b xs)) (length s.threads)
  told_sum [] h = omega arith
  told_sum (x ∷ xs) h =
      let ih = told_sum xs h.1 in
      let more = sums_more (λ b. length (told_to b xs)) (λ b. length (told_to b (x ∷ xs))) (length s.threads) x.branch (λ b. grows b (x.branch == b)) (own (x.branch == x.branch) (same_self x.branch)) (within x.branch h.0) in
      omega (arith, ih, more)
    where
      grows : (b : ℕ) (test : Bool) → length (told_to b xs) ≤ length (cond test (logged x ∷ told_to b xs) (told_to b xs))
      grows b true = omega arith
      grows b false = omega arith

      own : (test : Bool) → test ≡ true → suc (length (told_to x.branch xs)) ≤ length (cond test (logged x ∷ told_to x.branch xs) (told_to x.branch xs))
      own true e = omega arith
      own false e = cc

  none_or_mine : (b : ℕ) (xs : List Answered) → AreTold s t xs → (told_to b xs ≡ []) ⊎ HasBranch s t b
  none_or_mine b [] h = inl refl
  none_or_mine b (x ∷ xs) h = by (x.branch == b) refl (none_or_mine b xs h.1)
    where
      by : (test : Bool) → (x.branch == b) ≡ test → (told_to b xs ≡ []) ⊎ HasBranch s t b → (cond test (logged x ∷ told_to b xs) (told_to b xs) ≡ []) ⊎ HasBranch s t b
      by true e r = inr (subst (HasBranch s t) (equal_number x.branch b e) h.0)
      by false e r = r

  abbrev all_logged : ℕ
  all_logged = sum_below (λ b. length (log b)) (length s.threads)

  pub told_within : (xs : List Answered) → AreTold s t xs → Told s log t xs → length xs ≤ all_logged
  told_within xs mine told = let a = told_sum xs mine in let b = sums_grow (λ b. length (told_to b xs)) (λ b. length (log b)) (length s.threads) each in omega (arith, a, b)
    where
      each : (b : ℕ) → length (told_to b xs) ≤ length (log b)
      each b = by (none_or_mine b xs mine)
        where
          by : (told_to b xs ≡ []) ⊎ HasBranch s t b → length (told_to b xs) ≤ length (log b)
          by (inl none) = let z = ap length none in omega (arith, z)
          by (inr m) = let w = told b m in let n = ap length w.is in let l = length-append (told_to b xs) w.rest in omega (arith, n, l)

-- ---- one job

pairs_up : (ws : List Written) (rs : List Reply) → length rs ≡ length ws → length (pair_up ws rs) ≡ length ws
pairs_up [] rs e = refl
pairs_up (w ∷ ws) [] e = cc
pairs_up (w ∷ ws) (r ∷ rs) e = let f : length rs ≡ length ws = cc in ap suc (pairs_up ws rs f)

told_append : (s : PlainShape) (t : ℕ) (xs ys : List Answered) → AreTold s t xs → AreTold s t ys → AreTold s t (xs ++ ys)
told_append s t [] ys h g = g
told_append s t (x ∷ xs) ys h g = (h.0, told_append s t xs ys h.1 g)

module _ (s : PlainShape) (log : ExchangeLog) (t : ℕ) where
  mine_of : (ws : List Written) (rs : List Reply) → length rs ≡ length ws → AreTold s t (pair_up ws rs) → AreMine s log t ws
  mine_of [] rs e h = tt
  mine_of (w ∷ ws) [] e h = cc
  mine_of (w ∷ ws) (r ∷ rs) e h = let f : length rs ≡ length ws = cc in (h.0, mine_of ws rs f h.1)

  mine_up : (ws : List Written) (rs : List Reply) → AreMine s log t ws → AreTold s t (pair_up ws rs)
  mine_up [] rs h = tt
  mine_up (w ∷ ws) [] h = tt
  mine_up (w ∷ ws) (r ∷ rs) h = (h.0, mine_up ws rs h.1)

module _ (S : Type 0) (e : Engine S) (total : IsTotal e) (never : (s' : S) → e.view s' ≡ AtFork [] → ⊥) (s : PlainShape) (log : ExchangeLog) (t : ℕ) (within : (b : ℕ) → HasBranch s t b → b < length s.threads) (a : ℕ) where
  -- whatever is replied, the thread tells its own branches
  abbrev pub Own : S → Type 0
  Own st = (rss : List (List Reply)) (o : Output) (r : Rest S) → Serves e a rss st o r → AreTold s t (pair_forks o.jobs rss)

  -- it replies, and what it told was logged
  pub record Answers_so (past : List Answered) (st : S) : Type 0 where
    pub rss : List (List Reply)
    pub o : Output
    pub rest : Rest S
    pub serves : Serves e a rss st o rest
    pub reply : Reply
    pub is : o.reply ≡ Some reply
    pub told : Told s log t (past ++ pair_forks o.jobs rss)

  -- it comes to a fork at which it differs
  pub record Strays (past : List Answered) (st : S) : Type 0 where
    pub rss : List (List Reply)
    pub forks : List (List Written)
    pub ws : List Written
    pub rest : Rest S
    pub serves : Serves e a rss st (record { jobs = forks ++ ws ∷ []; reply = None }) rest
    pub short : length (forks ++ ws ∷ []) ≡ suc (length rss)
    pub told : Told s log t (past ++ pair_forks (forks ++ ws ∷ []) rss)
    pub differs : Differs s log t (past ++ pair_forks (forks ++ ws ∷ []) rss) ws

  abbrev pub Either : List Answered → S → Type 0
  Either past st = Answers_so past st ⊎ Strays past st

  -- a thread that comes to an event other than a fork
  replied : (past : List Answered) (st : S) (o : Output) (r : Rest S) (q : Reply) → o ≡ answers_with q → Serves e a [] st o r → Told s log t past → Either past st
  replied past st o r q is serves told = inl (record {
    rss = [];
    o = o;
    rest = r;
    serves = serves;
    reply = q;
    is = ap (λ (x : Output). x.reply) is;
    told = subst (λ (x : Output). Told s log t (past ++ pair_forks x.jobs [])) (sym is) (subst (Told s log t) (sym (append-nil past)) told);
  })

  abbrev Next : List Answered → S → Type 0
  Next past st = (past' : List Answered) (st' : S) → AreTold s t past' → Told s log t past' → Own st' → length past < length past' → Either past' st'

  module _ (past : List Answered) (st : S) (mine : AreTold s t past) (told : Told s log t past) (own : Own st) (s' : S) (seeds : List Seed) (reach : Reaches e a st s') (is : e.view s' ≡ AtFork seeds) where
    abbrev ws : List Written
    ws = ws_at e a s' seeds

    ws_count : length ws ≡ length seeds
    ws_count = length-map seeds (written (a - e.units s'))

    ws_some : 0 < length ws
    ws_some = by seeds is (ws_count)
      where
        by : (sds : List Seed) → e.view s' ≡ AtFork sds → length ws ≡ length sds → 0 < length ws
        by [] h n = absurd (never s' h)
        by (x ∷ xs) h n = omega (arith, n)

    ws_mine : AreMine s log t ws
    ws_mine =
        let rs = overs ws in
        let first = serves_total S e total a [] (e.join rs s') in
        let served = served_on e a st s' seeds rs [] first.0 first.1 reach is (overs_count ws ∙ ws_count) first.2 in
        mine_of s log t ws rs (overs_count ws) (told_front s t (pair_up ws rs) (pair_forks first.0.jobs []) (own (rs ∷ []) (first_jobs ws first.0) first.1 served))

    strayed : Differs s log t past ws → Either past st
    strayed d = inr (record {
      rss = [];
      forks = [];
      ws = ws;
      rest = Nothing;
      serves = event s' reach (subst (λ v. AtEvent e s' v (LastFork e a s') (ends_at ws) Nothing) (sym is) (refl, refl));
      short = refl;
      told = subst (Told s log t) (sym (append-nil past)) told;
      differs = subst (λ ps. Differs s log t ps ws) (sym (append-nil past)) d;
    })

    went_on : (rs : List Reply) → length rs ≡ length ws → Either (past ++ pair_up ws rs) (e.join rs s') → Either past st
    went_on rs count (inl x) = inl (record {
      rss = rs ∷ x.rss;
      o = first_jobs ws x.o;
      rest = x.rest;
      serves = served_on e a st s' seeds rs x.rss x.o x.rest reach is (count ∙ ws_count) x.serves;
      reply = x.reply;
      is = x.is;
      told = subst (Told s log t) (append_assoc past (pair_up ws rs) (pair_forks x.o.jobs x.rss)) x.told;
    })
    went_on rs count (inr x) =
        let o : Output = record { jobs = x.forks ++ x.ws ∷ []; reply = None } in
        let more = append_assoc past (pair_up ws rs) (pair_forks (x.forks ++ x.ws ∷ []) x.rss) in
        inr (record {
          rss = rs ∷ x.rss;
          forks = ws ∷ x.forks;
          ws = x.ws;
          rest = x.rest;
          serves = served_on e a st s' seeds rs x.rss o x.rest reach is (count ∙ ws_count) x.serves;
          short = ap suc x.short;
          told = subst (Told s log t) more x.told;
          differs = subst (λ ps. Differs s log t ps x.ws) more x.differs;
        })

    at_fork : Next past st → Either past st
    at_fork next = by (match_fork s log t past ws told ws_mine)
      where
        by : Matches s log t past ws ⊎ Differs s log t past ws → Either past st
        by (inr d) = strayed d
        by (inl m) =
            let rs = m.replies in
            let longer = length-append past (pair_up ws rs) in
            let more = pairs_up ws rs m.count in
            let some = ws_some in
            went_on rs m.count
            (next (past ++ pair_up ws rs) (e.join rs s') (told_append s t past (pair_up ws rs) mine (mine_up s log t ws rs ws_mine)) m.told
            (λ rss o r h. told_back s t (pair_up ws rs) (pair_forks o.jobs rss) (own (rs ∷ rss) (first_jobs ws o) r (served_on e a st s' seeds rs rss o r reach is (m.count ∙ ws_count) h)))
            (omega (arith, longer, more, some)))

  step_from : (past : List Answered) (st : S) → AreTold s t past → Told s log t past → Own st → Next past st → Either past st
  step_from past st mine told own next = elim (total.ends a st) [
    | inl p ↦ replied past st (answers_with WasOver) Nothing WasOver refl (over p refl refl) told
    | inr h ↦ by_view h.0 h.1 (e.view h.0) refl
  ]
    where
      plain : (s' : S) → Reaches e a st s' → (v : View) → e.view s' ≡ v → (q : Reply) (r : Rest S) → AtEvent e s' v (LastFork e a s') (answers_with q) r → Either past st
      plain s' reach v is q r at = replied past st (answers_with q) r q refl (event s' reach (subst (λ w. AtEvent e s' w (LastFork e a s') (answers_with q) r) (sym is) at)) told

      by_view : (s' : S) → Reaches e a st s' → (v : View) → e.view s' ≡ v → Either past st
      by_view s' reach Going is = absurd (subst IsStopped is reach.stops)
      by_view s' reach (AtFork seeds) is = at_fork past st mine told own s' seeds reach is next
      by_view s' reach (Pausing c) is = plain s' reach (Pausing c) is (WasPaused c (e.units s')) (Asleep s') (refl, refl)
      by_view s' reach (Ending c) is = plain s' reach (Ending c) is (WasEnded c (e.units s')) Nothing (refl, refl)
      by_view s' reach (Trapping place trap) is = plain s' reach (Trapping place trap) is (WasTrapped place trap (e.units s')) Nothing (refl, refl)
      by_view s' reach Exceeding is = plain s' reach Exceeding is WasOver Nothing (refl, refl)

  pub walk_from : (fuel : ℕ) (past : List Answered) (st : S) → AreTold s t past → Told s log t past → Own st → all_logged s log t within ≤ length past + fuel → Either past st
  walk_from zero past st mine told own bound =
      step_from past st mine told own (λ past' st' m h o lt. absurd (let w = told_within s log t within past' m h in omega (arith, w, lt, bound)))
  walk_from (suc n) past st mine told own bound =
      step_from past st mine told own (λ past' st' m h o lt. walk_from n past' st' m h o (omega (arith, lt, bound)))

-- ---- one job more

module _ (S : Type 0) (es : ℕ → Engine S) (s : PlainShape) (log : ExchangeLog) (below : (t b : ℕ) → HasBranch s t b → (t < b) × (b < length s.threads)) (t : ℕ) (steady : IsSteady (es t)) (total : IsTotal (es t))
    (never : (s' : S) → (es t).view s' ≡ AtFork [] → ⊥) (own : (xs : List Exchange) (os : List Output) → Alone (es t) xs Nothing os → AreTold s t (pair_all xs os)) where
  abbrev run : ℕ → List Exchange → List Output → Type 0
  run n xs os = Alone (es n) xs Nothing os

  -- one job more was done, as is logged
  pub record OneMore (T : TellsBranches run s log t) (job : Job) : Type 0 where
    pub tells : TellsBranches run s log t
    pub x : Exchange
    pub o : Output
    pub exchanges : tells.exchanges ≡ T.exchanges ++ x ∷ []
    pub outputs : tells.outputs ≡ T.outputs ++ o ∷ []
    pub job_is : x.job ≡ job

  -- no run that does one more is as is logged
  abbrev pub NoMore : TellsBranches run s log t → Job → Type 0
  NoMore T job = (U : TellsBranches run s log t) → map (λ y. y.job) U.exchanges ≡ map (λ y. y.job) T.exchanges ++ job ∷ [] → ⊥

  module _ (T : TellsBranches run s log t) (job : Job) (st : S) (begins : Begins (es t) job (left_by (es t) T.exchanges Nothing T.outputs T.runs).rest st) where
    abbrev past : List Answered
    past = pair_all T.exchanges T.outputs

    count : length T.outputs ≡ length T.exchanges
    count = alone_length (es t) T.exchanges Nothing T.outputs T.runs

    runs_more : (rss : List (List Reply)) (o : Output) (r : Rest S) → Serves (es t) (allowance_of job) rss st o r → Alone (es t) (T.exchanges ++ record { job = job; replies = rss } ∷ []) Nothing (T.outputs ++ o ∷ [])
    runs_more rss o r serves = (left_by (es t) T.exchanges Nothing T.outputs T.runs).then (record { job = job; replies = rss }) o st r begins serves

    own_from : (rss : List (List Reply)) (o : Output) (r : Rest S) → Serves (es t) (allowance_of job) rss st o r → AreTold s t (pair_forks o.jobs rss)
    own_from rss o r serves =
        let x : Exchange = record { job = job; replies = rss } in
        told_back s t past (pair_forks o.jobs rss) (subst (AreTold s t) (pairs_snoc T.exchanges T.outputs x o count) (own (T.exchanges ++ x ∷ []) (T.outputs ++ o ∷ []) (runs_more rss o r serves)))

    abbrev W : Type 0
    W = Either S (es t) total never s log t (λ b m. (below t b m).1) (allowance_of job) past st

    found_walk : W
    found_walk =
        walk_from S (es t) total never s log t (λ b m. (below t b m).1) (allowance_of job) (all_logged s log t (λ b m. (below t b m).1)) past st T.mine T.told own_from (omega arith)

    pub next_job : OneMore T job ⊎ NoMore T job
    next_job = by found_walk
      where
        by : W → OneMore T job ⊎ NoMore T job
        by (inl w) =
            let x : Exchange = record { job = job; replies = w.rss } in
            let runs = runs_more w.rss w.o w.rest w.serves in
            let pairs = pairs_snoc T.exchanges T.outputs x w.o count in
            inl (record {
              tells = record {
                exchanges = T.exchanges ++ x ∷ [];
                outputs = T.outputs ++ w.o ∷ [];
                runs = runs;
                complete = all_reply T.outputs w.o w.reply T.complete w.is;
                mine = own (T.exchanges ++ x ∷ []) (T.outputs ++ w.o ∷ []) runs;
                told = subst (λ ps. (b : ℕ) → HasBranch s t b → StartsWith (log b) (told_to b ps)) (sym pairs) w.told;
              };
              x = x;
              o = w.o;
              exchanges = refl;
              outputs = refl;
              job_is = refl;
            })
        by (inr w) = inr (λ U jobs.
            let x : Exchange = record { job = job; replies = w.rss } in
            let o : Output = record { jobs = w.forks ++ w.ws ∷ []; reply = None } in
            let runs = runs_more w.rss o w.rest w.serves in
            let pairs = pairs_snoc T.exchanges T.outputs x o count in
            let fork : AtFork_of S es s log below t steady w.ws = record {
              xs = T.exchanges;
              x = x;
              os = T.outputs;
              forks = w.forks;
              runs = runs;
              count = count;
              complete = T.complete;
              short = w.short;
              mine = own (T.exchanges ++ x ∷ []) (T.outputs ++ o ∷ []) runs;
              told = subst (λ ps. (b : ℕ) → HasBranch s t b → StartsWith (log b) (told_to b ps)) (sym pairs) w.told;
            } in
            let d = subst (λ ps. Differs s log t ps w.ws) (sym pairs) w.differs in
            refuted w.ws d.u d.v d.w d.split fork d.mine d.not U (jobs_snoc T.exchanges x ∙ sym jobs))
          where
            refuted : (all u v : List Written) (w : Written) → all ≡ u ++ w ∷ v → (f : AtFork_of S es s log below t steady all) → HasBranch s t w.branch →
                (StartsWith (jobs_in (log w.branch)) ((jobs_to w.branch (pairs_at S es s log below t steady all f) ++ jobs_for w.branch u) ++ w.job ∷ []) → ⊥) →
                (U : TellsBranches run s log t) → map (λ y. y.job) (f.xs ++ f.x ∷ []) ≡ map (λ y. y.job) U.exchanges → ⊥
            refuted all u v w split f mine nay U jobs =
                (subst (λ x. (f : AtFork_of S es s log below t steady x) → (StartsWith (jobs_in (log w.branch)) ((jobs_to w.branch (pairs_at S es s log below t steady x f) ++ jobs_for w.branch u) ++ w.job ∷ []) → ⊥) →
                map (λ y. y.job) (f.xs ++ f.x ∷ []) ≡ map (λ y. y.job) U.exchanges → ⊥) (sym split)
                (λ g n given. fork_refutes S es s log below t steady u v w g mine n U given)) f nay jobs
