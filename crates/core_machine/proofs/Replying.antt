-- The replies of a fork's branches as they come in.
use Rattle.std.proofs.Common.{◌≡◌, ◌≢◌, ℕ, ◌<◌, List, [], ◌∷◌, ◌++◌, length, refl, sym, ap, ◌∙◌, subst, arith}
use Rattle.std.proofs.lemmas.List.{length-map}
use Rattle.forec_kernel.specs.Engine.{Job, allowance_of, Reply, Exchange}
use Rattle.forec_kernel.specs.Reached.{Reached, Inside}
use Rattle.thread_code.specs.Plain.{PlainCode}
use Rattle.thread_code.specs.Machine.{is_ended}
use Rattle.thread_code.specs.Alone.{code_engine}
use Rattle.core_machine.specs.declared.thread.Thread.{Thread}
use Rattle.core_machine.specs.Branches.{Gathered, HoldsReplies}
use Rattle.core_machine.specs.Held.{machine_in, machine_of}
use Rattle.core_machine.specs.Threads.{StandsInPhase, WaitsForReplies, StandsFor, never, since, settling, joining, HasSettled}
use Rattle.core_machine.specs.Forks.{next_replies, with_replies}

-- ---- the last of a list

data Snoc {A : Type 0} : List A → Type 0 where
  nothing : Snoc []
  behind : (zs : List A) (x : A) → Snoc (zs ++ x ∷ [])

one_more : {A : Type 0} → (x : A) (xs : List A) → Snoc xs → Snoc (x ∷ xs)
one_more x [] nothing = behind [] x
one_more x xs (behind zs y) = behind (x ∷ zs) y

snoc : {A : Type 0} → (xs : List A) → Snoc xs
snoc [] = nothing
snoc (x ∷ xs) = one_more x xs (snoc xs)

no_snoc : {A : Type 0} → (ys : List A) (a : A) → ys ++ a ∷ [] ≡ [] → ⊥
no_snoc [] a e = cc
no_snoc (y ∷ ys) a e = cc

same_front : {A : Type 0} → (ys zs : List A) (a b : A) → ys ++ a ∷ [] ≡ zs ++ b ∷ [] → (ys ≡ zs) × (a ≡ b)
same_front [] [] a b e = (refl, cc)
same_front [] (z ∷ zs) a b e = let k : [] ≡ zs ++ b ∷ [] = cc in absurd (no_snoc zs b (sym k))
same_front (y ∷ ys) [] a b e = let k : ys ++ a ∷ [] ≡ [] = cc in absurd (no_snoc ys a k)
same_front (y ∷ ys) (z ∷ zs) a b e =
    let k : ys ++ a ∷ [] ≡ zs ++ b ∷ [] = cc in
    let h : y ≡ z = cc in
    let r = same_front ys zs a b k in
    (ap (λ l. y ∷ l) r.0 ∙ ap (λ x. x ∷ zs) h, r.1)

abbrev with_next : Exchange → List Reply → Exchange
with_next x rs = record { job = x.job; replies = next_replies x.replies rs }

at_last : (zs : List Exchange) (x : Exchange) (rs : List Reply) → with_replies (zs ++ x ∷ []) rs ≡ zs ++ with_next x rs ∷ []
at_last [] x rs = refl
at_last (z ∷ []) x rs = refl
at_last (z ∷ y ∷ zs) x rs = ap (λ l. z ∷ l) (at_last (y ∷ zs) x rs)

next_some : (rss : List (List Reply)) (rs : List Reply) → rs ≢ [] → next_replies rss rs ≡ rss ++ rs ∷ []
next_some rss [] some = absurd (some refl)
next_some rss (r ∷ rs) some = refl

abbrev pub at_fork : List Exchange → Job → List (List Reply) → List Exchange
at_fork ys job replies = ys ++ record { job = job; replies = replies } ∷ []

-- none has come in
pub from_none : (xs ys : List Exchange) (job : Job) (before : List (List Reply)) → at_fork ys job before ≡ with_replies xs [] → (qs : List Reply) → qs ≢ [] → at_fork ys job (before ++ qs ∷ []) ≡ with_replies xs qs
from_none xs ys job before e qs some = by (snoc xs) e
  where
    by : {xs : List Exchange} → Snoc xs → at_fork ys job before ≡ with_replies xs [] → at_fork ys job (before ++ qs ∷ []) ≡ with_replies xs qs
    by nothing e = absurd (no_snoc ys _ e)
    by (behind zs x) e =
        let k = same_front ys zs (record { job = job; replies = before }) (with_next x []) (e ∙ at_last zs x []) in
        let j : job ≡ x.job = ap (λ (x : Exchange). x.job) k.1 in
        let b : before ≡ x.replies = ap (λ (x : Exchange). x.replies) k.1 in
        ap (λ y. at_fork y job (before ++ qs ∷ [])) k.0 ∙ ap (λ x. at_fork zs x (before ++ qs ∷ [])) j ∙ ap (λ r. at_fork zs x.job (r ++ qs ∷ [])) b
        ∙ ap (λ r. at_fork zs x.job r) (sym (next_some x.replies qs some)) ∙ sym (at_last zs x qs)

-- these have come in
pub from_some : (xs ys : List Exchange) (job : Job) (before : List (List Reply)) (rs rs' : List Reply) → rs ≢ [] → at_fork ys job (before ++ rs' ∷ []) ≡ with_replies xs rs →
    (rs' ≡ rs) × ((qs : List Reply) → qs ≢ [] → at_fork ys job (before ++ qs ∷ []) ≡ with_replies xs qs)
from_some xs ys job before rs rs' some e = by (snoc xs) e
  where
    by : {xs : List Exchange} → Snoc xs → at_fork ys job (before ++ rs' ∷ []) ≡ with_replies xs rs → (rs' ≡ rs) × ((qs : List Reply) → qs ≢ [] → at_fork ys job (before ++ qs ∷ []) ≡ with_replies xs qs)
    by nothing e = absurd (no_snoc ys _ e)
    by (behind zs x) e =
        let k = same_front ys zs (record { job = job; replies = before ++ rs' ∷ [] }) (with_next x rs) (e ∙ at_last zs x rs) in
        let j : job ≡ x.job = ap (λ (x : Exchange). x.job) k.1 in
        let b : before ++ rs' ∷ [] ≡ x.replies ++ rs ∷ [] = ap (λ (x : Exchange). x.replies) k.1 ∙ next_some x.replies rs some in
        let f = same_front before x.replies rs' rs b in (
          f.1,
          λ qs more.
              ap (λ y. at_fork y job (before ++ qs ∷ [])) k.0 ∙ ap (λ x. at_fork zs x (before ++ qs ∷ [])) j ∙ ap (λ r. at_fork zs x.job (r ++ qs ∷ [])) f.0
              ∙ ap (λ r. at_fork zs x.job r) (sym (next_some x.replies qs more)) ∙ sym (at_last zs x qs),
        )

some_of : (rs : List Reply) (r : Reply) → rs ++ r ∷ [] ≢ []
some_of [] r e = cc
some_of (x ∷ rs) r e = cc

pub long_some : (rs : List Reply) → 0 < length rs → rs ≢ []
long_some [] lt e = omega (arith, lt)
long_some (r ∷ rs) lt e = cc

no_length : (rs : List Reply) → length rs ≡ 0 → rs ≡ []
no_length [] e = refl
no_length (r ∷ rs) e = absurd (omega (arith, e))

pub some_long : (rs : List Reply) → rs ≢ [] → 0 < length rs
some_long [] some = absurd (some refl)
some_long (r ∷ rs) some = omega arith

pub says_count : (g : Gathered) (rs : List Reply) → HoldsReplies g rs → length g.ended ≡ length rs
says_count g rs s = ap length s.ended ∙ length-map rs is_ended

-- ---- a reply is settled

module _ (c : PlainCode) (h h' : Thread) (k : ℕ) (at : HasSettled h k) (number : h'.number ≡ h.number) (allowance : h'.allowance ≡ h.allowance) (same : machine_of c h' ≡ machine_of c h) (still : h'.phase ≡ h.phase) (units : h'.units ≡ h.units) where
  waits_still : WaitsForReplies h'
  waits_still = record { before = at.before; phase = still ∙ at.phase; within = omega (arith, at.within, units, allowance) }

  settled_in : (ys : List Exchange) (job : Job) (before : List (List Reply)) (qs : List Reply) → h.allowance ≡ allowance_of job → Reached (code_engine c h.number) ys (Inside job before (machine_of c h)) → qs ≢ [] → HoldsReplies h'.branches qs → StandsFor c h' (at_fork ys job (before ++ qs ∷ []))
  settled_in ys job before qs al reached some says =
      settling ys job before qs (allowance ∙ al)
      (subst (λ m. Reached (code_engine c h'.number) ys (Inside job before m)) (sym same) (subst (λ t. Reached (code_engine c t) ys (Inside job before (machine_of c h))) (sym number) reached))
      waits_still some says

  pub settle_stands : (xs : List Exchange) (rs : List Reply) (r : Reply) → length rs ≡ k → (HoldsReplies h.branches rs → HoldsReplies h'.branches (rs ++ r ∷ [])) → (zs : List Exchange) → zs ≡ with_replies xs rs → StandsFor c h zs → StandsFor c h' (with_replies xs (rs ++ r ∷ []))
  settle_stands xs rs r n more zs e (never fresh) = let w = sym fresh ∙ at.phase in cc
  settle_stands xs rs r n more zs e (since ys job before m al reached st) =
      let s = subst (λ p. StandsInPhase c h p m) at.phase st in
      let z : length rs ≡ 0 = let u = ap length s.1.ended in omega (arith, n, u, at.count) in
      let none : rs ≡ [] = no_length rs z in
      let is : m ≡ machine_of c h = s.0 ∙ sym (ap (machine_in c h) at.phase) in
      let says = more (subst (HoldsReplies h.branches) (sym none) s.1) in
      let to = from_none xs ys job before (e ∙ ap (with_replies xs) none) (rs ++ r ∷ []) (some_of rs r) in
      subst (StandsFor c h') to (settled_in ys job before (rs ++ r ∷ []) al (subst (λ m. Reached (code_engine c h.number) ys (Inside job before m)) is reached) (some_of rs r) says)
  settle_stands xs rs r n more zs e (settling ys job before rs' al reached w some says) =
      let count : length rs' ≡ length rs = omega (arith, says_count h.branches rs' says, at.count, n) in
      let some' : rs ≢ [] = long_some rs (omega (arith, count, some_long rs' some)) in
      let f = from_some xs ys job before rs rs' some' e in
      subst (StandsFor c h') (f.1 (rs ++ r ∷ []) (some_of rs r)) (settled_in ys job before (rs ++ r ∷ []) al reached (some_of rs r) (more (subst (HoldsReplies h.branches) f.0 says)))
  settle_stands xs rs r n more zs e (joining ys job before rs' m al reached p q st) = let w = sym p ∙ at.phase in cc
