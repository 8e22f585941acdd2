-- A thread is told one job more.
use Rattle.std.proofs.Common.{◌≡◌, ◌≢◌, ℕ, suc, ◌<◌, cond, List, [], ◌∷◌, ◌++◌, length, refl, sym, ap, ◌∙◌, subst, append-nil, arith}
use Rattle.std.specs.Prelude.{slice_get}
use Rattle.forec_kernel.specs.Engine.{Job, Reply, Answered, Answers, jobs_to}
use Rattle.thread_code.specs.Plain.{PlainCode, plain_code}
use Rattle.thread_code.specs.Valid.{IsValidCode}
use Rattle.thread_code.specs.Alone.{CodeAlone}
use Rattle.core_machine.specs.declared.thread.Thread.{Thread}
use Rattle.core_machine.specs.Threads.{Loaded}
use Rattle.tick_jobs.specs.Branches.{IsBranchOf, AreAbove}
use Rattle.tick_jobs.proofs.Lists.{by_equal}
use Rattle.tick_jobs.proofs.DidLemmas.{did_for}
use Rattle.tick_jobs.proofs.Pairs.{jobs_then, same_test, other_test, allowed_more}
use Rattle.one_core.specs.Seats.{Seated, seated_code, HasAllSeats, KeepsSeatsBelow}
use Rattle.tick_jobs.specs.Told.{Book}
use Rattle.one_core.specs.Told.{tell, HasToldBranches, HasDoneByBook, KeepsBook}
use Rattle.one_core.specs.Resting.{LastJobReply, Rests}

pub tell_here : (book : Book) (t : ℕ) (job : Job) → tell book t job t ≡ book t ++ job ∷ []
tell_here book t job = ap (λ b. cond b (book t ++ job ∷ []) (book t)) (same_test t t refl)

pub tell_else : (book : Book) (t : ℕ) (job : Job) (j : ℕ) → j ≢ t → tell book t job j ≡ book j
tell_else book t job j n = ap (λ b. cond b (book j ++ job ∷ []) (book j)) (other_test t j (λ e. n (sym e)))

-- ---- what stays

pub keeps_same : (c : PlainCode) (t : ℕ) (a : Book) → KeepsBook c t a a
keeps_same c t a p k mine lt = refl

pub keeps_then : (c : PlainCode) (t : ℕ) (a b d : Book) → KeepsBook c t a b → KeepsBook c t b d → KeepsBook c t a d
keeps_then c t a b d h g p k mine lt = g p k mine lt ∙ h p k mine lt

pub told_keeps : (c : PlainCode) (t : ℕ) (a b : Book) (pairs : List Answered) → ((k : ℕ) → IsBranchOf c.shape t k → b (suc k) ≡ a (suc k)) → HasToldBranches c t a pairs → HasToldBranches c t b pairs
told_keeps c t a b pairs same h = record { above = h.above; allowed = h.allowed; jobs = λ k mine. h.jobs k mine ∙ sym (same k mine) }

pub done_keeps : (c : PlainCode) (h : Thread) (a b : Book) (jobs : List Job) → ((k : ℕ) → IsBranchOf c.shape h.number k → b (suc k) ≡ a (suc k)) → HasDoneByBook c h a jobs → HasDoneByBook c h b jobs
done_keeps c h a b jobs same d = did_for c h jobs d (λ pairs told. told_keeps c h.number a b pairs same told)

pub rests_keeps : (s s' : Seated) (a b : Book) (j : ℕ) → s'.code ≡ s.code → slice_get s'.threads j ≡ slice_get s.threads j → b j ≡ a j → ((k : ℕ) → IsBranchOf (seated_code s).shape j k → b (suc k) ≡ a (suc k)) →
    Rests s a j → Rests s' b j
rests_keeps s s' a b j code seat same branches r =
    let number = r.sits.number in
    record {
      thread = r.thread;
      sits = record { at = seat ∙ r.sits.at; loaded = subst (λ x. Loaded (plain_code x) r.thread) (sym code) r.sits.loaded; number = number };
      resting = r.resting;
      done = subst (λ x. HasDoneByBook (plain_code x) r.thread b (b j)) (sym code)
          (subst (λ js. HasDoneByBook (seated_code s) r.thread b js) (sym same)
          (done_keeps (seated_code s) r.thread a b (a j) (λ k mine. branches k (subst (λ n. IsBranchOf (seated_code s).shape n k) number mine)) r.done));
      last = subst (λ x. LastJobReply (plain_code x) j (b j) r.thread) (sym code) (subst (λ js. LastJobReply (seated_code s) j js r.thread) (sym same) r.last);
    }

pub fitted_keeps : (t : ℕ) (a b : Seated) → KeepsSeatsBelow t a b → HasAllSeats a → HasAllSeats b
fitted_keeps t a b h f = record {
  valid = subst (λ x. IsValidCode (plain_code x)) (sym h.code) f.valid;
  seats = h.count ∙ f.seats ∙ sym (ap (λ x. length (plain_code x).threads) h.code);
}

pub leaves_same : (t : ℕ) (a : Seated) → KeepsSeatsBelow t a a
leaves_same t a = record { code = refl; count = refl; seats = λ j lt. refl }

pub leaves_then : (t u : ℕ) (a b d : Seated) → t < suc u → KeepsSeatsBelow t a b → KeepsSeatsBelow u b d → KeepsSeatsBelow t a d
leaves_then t u a b d le h g = record { code = g.code ∙ h.code; count = g.count ∙ h.count; seats = λ j lt. g.seats j (omega (arith, lt, le)) ∙ h.seats j lt }

-- ---- a thread told a branch one job more

module _ (c : PlainCode) (t : ℕ) (a b : Book) (k : ℕ) (lt : t < suc k) (job : Job) (r : Reply) (told : b (suc k) ≡ a (suc k) ++ job ∷ [])
    (others : (j : ℕ) → IsBranchOf c.shape t j → (suc j ≡ suc k → ⊥) → b (suc j) ≡ a (suc j)) (pairs : List Answered) where
  abbrev x : Answered
  x = record { branch = suc k; job = job; reply = r }

  here_jobs : jobs_to (suc k) (pairs ++ x ∷ []) ≡ jobs_to (suc k) pairs ++ job ∷ []
  here_jobs = jobs_then (suc k) pairs (x ∷ []) ∙ ap (λ z. jobs_to (suc k) pairs ++ cond z (job ∷ []) []) (same_test (suc k) (suc k) refl)

  else_jobs : (j : ℕ) → (suc j ≡ suc k → ⊥) → jobs_to (suc j) (pairs ++ x ∷ []) ≡ jobs_to (suc j) pairs
  else_jobs j n = jobs_then (suc j) pairs (x ∷ []) ∙ ap (λ z. jobs_to (suc j) pairs ++ cond z (job ∷ []) []) (other_test (suc k) (suc j) (λ e. n (sym e))) ∙ append-nil (jobs_to (suc j) pairs)

  above_more : (xs : List Answered) → AreAbove t xs → AreAbove t (xs ++ x ∷ [])
  above_more [] h = (lt, tt)
  above_more (y ∷ xs) h = (h.0, above_more xs h.1)

  pub told_more : IsBranchOf c.shape t k → Answers (CodeAlone c) (length c.threads) (suc k) (b (suc k)) r → HasToldBranches c t a pairs → HasToldBranches c t b (pairs ++ x ∷ [])
  told_more mine answers h =
      let here : jobs_to (suc k) (pairs ++ x ∷ []) ≡ b (suc k) = here_jobs ∙ ap (λ l. l ++ job ∷ []) (h.jobs k mine) ∙ sym told in
      record {
        above = above_more pairs h.above;
        allowed = allowed_more (Answers (CodeAlone c) (length c.threads)) [] pairs x h.allowed (subst (λ js. Answers (CodeAlone c) (length c.threads) (suc k) js r) (sym here) answers);
        jobs = λ j is.
            by_equal (suc j) (suc k) (λ n. else_jobs j n ∙ h.jobs j is ∙ sym (others j is n)) (λ e. subst (λ z. jobs_to z (pairs ++ x ∷ []) ≡ b z) (sym e) here);
      }
