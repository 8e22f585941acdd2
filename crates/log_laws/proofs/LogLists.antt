-- What was told, logged and put into a log.
use Rattle.std.proofs.Common.{ℕ, ◌≡◌, ◌==◌, Bool, true, false, cond, Some, List, [], ◌∷◌, ◌++◌, refl, sym, ap, subst, ◌∙◌, arith}
use Rattle.std.proofs.lemmas.Bool.Decides.{nat_tests}
use Rattle.forec_kernel.specs.declared.shape.VarCopy.{VarCopy}
use Rattle.forec_kernel.specs.Engine.{Job, Start, Wake, Reply, WasPaused, Written, Output, Answered}
use Rattle.forec_kernel.proofs.Apart.{NotIn, EachApart, AllApart}
use Rattle.exchange_meaning.specs.Logged.{Logged, ExchangeLog, jobs_in, RepliesAre, logged, told_to}
use Rattle.exchange_meaning.proofs.OneMore.{same_self}
use Rattle.exchange_meaning.proofs.TellingLemmas.{equal_number}
use Rattle.tick_jobs.specs.Branches.{replies_to}
use Rattle.log_laws.proofs.EveryFork.{WokenPaused, AllWokenPaused}
use Rattle.tick_jobs.proofs.AtEachFork.{EndsPaused}

pub other_number : (a b : ℕ) → (a ≡ b → ⊥) → (a == b) ≡ false
other_number a b h = by (a == b) refl
  where
    by : (t : Bool) → (a == b) ≡ t → (a == b) ≡ false
    by true e = absurd (h (equal_number a b e))
    by false e = e

pub unequal : (a b : ℕ) → (a == b) ≡ false → a ≡ b → ⊥
unequal a b e h = grind (arith, nat_tests)

pub in_snoc : (ls : List Logged) (l : Logged) → jobs_in (ls ++ l ∷ []) ≡ jobs_in ls ++ l.job ∷ []
in_snoc [] l = refl
in_snoc (m ∷ ls) l = ap (λ x. m.job ∷ x) (in_snoc ls l)

pub replies_snoc : (os : List Output) (ls : List Logged) (o : Output) (l : Logged) → RepliesAre os ls → o.reply ≡ Some l.reply → RepliesAre (os ++ o ∷ []) (ls ++ l ∷ [])
replies_snoc [] [] o l h e = (e, tt)
replies_snoc [] (m ∷ ls) o l h e = absurd h
replies_snoc (p ∷ os) [] o l h e = absurd h
replies_snoc (p ∷ os) (m ∷ ls) o l h e = (h.0, replies_snoc os ls o l h.1 e)

pub last_apart : (os : List Output) (o : Output) → AllApart (os ++ o ∷ []) → EachApart o.jobs
last_apart [] o h = h.0
last_apart (p ∷ os) o h = last_apart os o h.1

-- the last reply of a list of what was logged
pub record LoggedPaused (ls : List Logged) : Type 0 where
  pub front : List Logged
  pub last : Logged
  pub copies : List VarCopy
  pub units : ℕ
  pub is : ls ≡ front ++ last ∷ []
  pub paused : last.reply ≡ WasPaused copies units

abbrev pub replies_in : List Logged → List Reply
replies_in [] = []
replies_in (l ∷ ls) = l.reply ∷ replies_in ls

pub told_replies : (b : ℕ) (xs : List Answered) → replies_in (told_to b xs) ≡ replies_to b xs
told_replies b [] = refl
told_replies b (x ∷ xs) = by (x.branch == b) (told_replies b xs)
  where
    by : (t : Bool) → replies_in (told_to b xs) ≡ replies_to b xs → replies_in (cond t (logged x ∷ told_to b xs) (told_to b xs)) ≡ cond t (x.reply ∷ replies_to b xs) (replies_to b xs)
    by true h = ap (λ l. x.reply ∷ l) h
    by false h = h

pub paused_logged : (ls : List Logged) (front : List Reply) (copies : List VarCopy) (u : ℕ) → replies_in ls ≡ front ++ WasPaused copies u ∷ [] → LoggedPaused ls
paused_logged [] [] copies u e = cc
paused_logged [] (f ∷ front) copies u e = cc
paused_logged (l ∷ []) [] copies u e = let is : l.reply ≡ WasPaused copies u = cc in record { front = []; last = l; copies = copies; units = u; is = refl; paused = is }
paused_logged (l ∷ m ∷ ls) [] copies u e = cc
paused_logged (l ∷ ls) (f ∷ front) copies u e =
    let tail : replies_in ls ≡ front ++ WasPaused copies u ∷ [] = cc in
    let p = paused_logged ls front copies u tail in
    record { front = l ∷ p.front; last = p.last; copies = p.copies; units = p.units; is = ap (λ x. l ∷ x) p.is; paused = p.paused }

-- a thread may be given this job after these
abbrev pub MayBegin : List Logged → Job → Type 0
MayBegin ls (Start args values a) = Unit {0}
MayBegin ls (Wake values a) = LoggedPaused ls

pub may_begin : (past : List Answered) (b : ℕ) (job : Job) (ls : List Logged) → told_to b past ≡ ls → WokenPaused past b job → MayBegin ls job
may_begin past b (Start args values a) ls e h = tt
may_begin past b (Wake values a) ls e h =
    subst LoggedPaused e (paused_logged (told_to b past) h.front h.copies h.units (told_replies b past ∙ h.is))

pub replies_other : (b : ℕ) (past : List Answered) (x : Answered) → (x.branch == b) ≡ false → replies_to b (past ++ x ∷ []) ≡ replies_to b past
replies_other b [] x h = ap (λ c. cond c (x.reply ∷ []) []) h
replies_other b (p ∷ past) x h = ap (λ js. cond (p.branch == b) (p.reply ∷ js) js) (replies_other b past x h)

pub woken_other : (past : List Answered) (x : Answered) (b : ℕ) (job : Job) → (x.branch == b) ≡ false → WokenPaused past b job → WokenPaused (past ++ x ∷ []) b job
woken_other past x b (Start args values a) e h = tt
woken_other past x b (Wake values a) e h = subst EndsPaused (sym (replies_other b past x e)) h

pub woken_later : (past : List Answered) (x : Answered) (ws : List Written) → NotIn x.branch ws → AllWokenPaused past ws → AllWokenPaused (past ++ x ∷ []) ws
woken_later past x [] n h = tt
woken_later past x (w ∷ ws) n h = (woken_other past x w.branch w.job n.0 h.0, woken_later past x ws n.2 h.1)

abbrev pub put_log : ExchangeLog → ℕ → List Logged → ExchangeLog
put_log L p ls = λ t. cond (t == p) ls (L t)

pub put_here : (L : ExchangeLog) (p : ℕ) (ls : List Logged) → put_log L p ls p ≡ ls
put_here L p ls = ap (λ t. cond t ls (L p)) (same_self p)

pub put_else : (L : ExchangeLog) (p : ℕ) (ls : List Logged) (t : ℕ) → (t ≡ p → ⊥) → put_log L p ls t ≡ L t
put_else L p ls t h = ap (λ x. cond x ls (L t)) (other_number t p h)
