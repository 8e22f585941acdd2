-- Jobs with their replies.
use Rattle.std.proofs.Common.{◌≡◌, ◌≢◌, ℕ, ◌==◌, Bool, true, false, cond, Some, List, [], ◌∷◌, ◌++◌, length, refl, sym, ap, ◌∙◌, subst, append_assoc, append-nil, arith}
use Rattle.std.specs.Prelude.{slice_get}
use Rattle.std.proofs.lemmas.Bool.Decides.{nat_tests}
use Rattle.forec_kernel.specs.Engine.{Job, Reply, Written, Answered, pair_up, jobs_to, Allowed}
use Rattle.tick_jobs.specs.Branches.{replies_to}

pub no_pairs : (ws : List Written) → pair_up ws [] ≡ []
no_pairs [] = refl
no_pairs (w ∷ ws) = refl

pub jobs_first : {A : Type 0} → (test : Bool) (x : A) (l m k : List A) → l ≡ m ++ k → cond test (x ∷ l) l ≡ cond test (x ∷ m) m ++ k
jobs_first true x l m k e = ap (λ l. x ∷ l) e
jobs_first false x l m k e = e

pub jobs_then : (b : ℕ) (xs ys : List Answered) → jobs_to b (xs ++ ys) ≡ jobs_to b xs ++ jobs_to b ys
jobs_then b [] ys = refl
jobs_then b (x ∷ xs) ys = jobs_first (x.branch == b) x.job _ _ _ (jobs_then b xs ys)

pub replies_then : (b : ℕ) (xs ys : List Answered) → replies_to b (xs ++ ys) ≡ replies_to b xs ++ replies_to b ys
replies_then b [] ys = refl
replies_then b (x ∷ xs) ys = jobs_first (x.branch == b) x.reply _ _ _ (replies_then b xs ys)

pub same_test : (a b : ℕ) → a ≡ b → (a == b) ≡ true
same_test a b h = grind (arith, nat_tests)

pub other_test : (a b : ℕ) → a ≢ b → (a == b) ≡ false
other_test a b h = by_test (a == b) refl
  where
    is_it : (a b : ℕ) → (a == b) ≡ true → a ≡ b
    is_it a b e = grind (arith, nat_tests)

    by_test : (t : Bool) → (a == b) ≡ t → t ≡ false
    by_test true e = absurd (h (is_it a b e))
    by_test false e = refl

pub allowed_more : (Sub : ℕ → List Job → Reply → Type 0) (past xs : List Answered) (x : Answered) → Allowed Sub past xs → Sub x.branch (jobs_to x.branch ((past ++ xs) ++ x ∷ [])) x.reply → Allowed Sub past (xs ++ x ∷ [])
allowed_more Sub past [] x h g = (subst (λ l. Sub x.branch (jobs_to x.branch (l ++ x ∷ [])) x.reply) (append-nil past) g, tt)
allowed_more Sub past (y ∷ xs) x h g =
    (h.0, allowed_more Sub (past ++ y ∷ []) xs x h.1 (subst (λ l. Sub x.branch (jobs_to x.branch (l ++ x ∷ [])) x.reply) (sym (append_assoc past (y ∷ []) xs)) g))

pub pairs_more : (ws : List Written) (rs : List Reply) (w : Written) (r : Reply) → slice_get ws (length rs) ≡ Some w → pair_up ws (rs ++ r ∷ []) ≡ pair_up ws rs ++ record { branch = w.branch; job = w.job; reply = r } ∷ []
pairs_more [] rs w r e = cc
pairs_more (v ∷ ws) [] w r e = let same : v ≡ w = some_one v w e in ap (λ (x : Written). record { branch = x.branch; job = x.job; reply = r } ∷ pair_up ws []) same ∙ ap (λ l. record { branch = w.branch; job = w.job; reply = r } ∷ l) (no_more ws)
  where
    some_one : (x y : Written) → Some x ≡ Some y → x ≡ y
    some_one x y e = cc

    no_more : (ws : List Written) → pair_up ws [] ≡ []
    no_more [] = refl
    no_more (x ∷ xs) = refl
pairs_more (v ∷ ws) (q ∷ rs) w r e = ap (λ l. record { branch = v.branch; job = v.job; reply = q } ∷ l) (pairs_more ws rs w r e)
