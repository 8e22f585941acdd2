-- The first job that fails is one.
use Rattle.std.proofs.Common.{ℕ, zero, suc, ◌+◌, ◌-◌, ◌<◌, ◌≤◌, ◌≡◌, List, [], ◌∷◌, ◌++◌, take, length, refl, sym, ap, subst, ◌∙◌, ⊎_elim, arith, append_assoc}
use Rattle.std.proofs.lemmas.Bool.{cases_lt}
use Rattle.std.specs.Prelude.{Option, None}
use Rattle.forec_kernel.specs.Composed.{TickInput}
use Rattle.forec_kernel.specs.Engine.{Reply, Engine, Nothing, Exchange, Output, Alone, Answered, pair_all}
use Rattle.forec_kernel.specs.Shapes.{PlainShape}
use Rattle.forec_kernel.proofs.TogetherLemmas.{alone_take, reply_take, pairs_take}
use Rattle.exchange_meaning.specs.Logged.{Logged, ExchangeLog, jobs_in, RepliesAre, told_to, AreTold}
use Rattle.exchange_meaning.specs.Telling.{TellsBranches}
use Rattle.exchange_meaning.specs.Replays.{AgreesUpTo, AgreesWholly, FailsAt, AreTicks, RunsTicks}
use Rattle.exchange_meaning.proofs.TellingLemmas.{told_then, jobs_take}

take_twice : {A : Type 0} → (m : ℕ) (ls : List A) → take m (take (suc m) ls) ≡ take m ls
take_twice zero ls = refl
take_twice (suc m) [] = refl
take_twice (suc m) (l ∷ ls) = ap (λ x. l ∷ x) (take_twice m ls)

pub take_whole : {A : Type 0} → (ls : List A) → take (length ls) ls ≡ ls
take_whole [] = refl
take_whole (l ∷ ls) = ap (λ x. l ∷ x) (take_whole ls)

jobs_first : (m : ℕ) (ls : List Logged) → take m (jobs_in ls) ≡ jobs_in (take m ls)
jobs_first zero ls = refl
jobs_first (suc m) [] = refl
jobs_first (suc m) (l ∷ ls) = ap (λ js. l.job ∷ js) (jobs_first m ls)

replies_first : (m : ℕ) (os : List Output) (ls : List Logged) → RepliesAre os ls → RepliesAre (take m os) (take m ls)
replies_first zero os ls h = tt
replies_first (suc m) [] [] h = tt
replies_first (suc m) [] (l ∷ ls) h = absurd h
replies_first (suc m) (o ∷ os) [] h = absurd h
replies_first (suc m) (o ∷ os) (l ∷ ls) h = (h.0, replies_first m os ls h.1)

pub mine_first : (s : PlainShape) (t : ℕ) (xs ys : List Answered) → AreTold s t (xs ++ ys) → AreTold s t xs
mine_first s t [] ys h = tt
mine_first s t (x ∷ xs) ys h = (h.0, mine_first s t xs ys h.1)

module _ (S : Type 0) (e : ℕ → Engine S) (s : PlainShape) (log : ExchangeLog) where
  abbrev run : ℕ → List Exchange → List Output → Type 0
  run t xs os = Alone (e t) xs Nothing os

  abbrev pub tells_first : (t m : ℕ) → TellsBranches run s log t → TellsBranches run s log t
  tells_first t m T =
      let parts = pairs_take m T.exchanges T.outputs in
      record {
        exchanges = take m T.exchanges;
        outputs = take m T.outputs;
        runs = alone_take (e t) m T.exchanges Nothing T.outputs T.runs;
        complete = reply_take m T.outputs T.complete;
        mine = mine_first s t (pair_all (take m T.exchanges) (take m T.outputs)) parts.more (subst (AreTold s t) parts.is T.mine);
        told = λ b is.
            let w = T.told b is in
            let front = pair_all (take m T.exchanges) (take m T.outputs) in
            record { rest = told_to b parts.more ++ w.rest; is = w.is ∙ ap (λ ps. told_to b ps ++ w.rest) parts.is ∙ ap (λ l. l ++ w.rest) (told_then b front parts.more) ∙ append_assoc (told_to b front) (told_to b parts.more) w.rest };
      }

  pub holds_less : (t m : ℕ) → AgreesUpTo run s log t (suc m) → AgreesUpTo run s log t m
  holds_less t m h =
      record {
        tells = tells_first t m h.tells;
        jobs = jobs_take m h.tells.exchanges ∙ ap (take m) h.jobs ∙ jobs_first m (take (suc m) (log t)) ∙ ap jobs_in (take_twice m (log t));
        replies = subst (RepliesAre (take m h.tells.outputs)) (take_twice m (log t)) (replies_first m h.tells.outputs (take (suc m) (log t)) h.replies);
      }

  holds_down : (t m n : ℕ) → AgreesUpTo run s log t (n + m) → AgreesUpTo run s log t m
  holds_down t m zero h = let e : zero + m ≡ m = omega arith in subst (AgreesUpTo run s log t) e h
  holds_down t m (suc n) h = let e : suc n + m ≡ suc (n + m) = omega arith in holds_down t m n (holds_less t (n + m) (subst (AgreesUpTo run s log t) e h))

  pub holds_before : (t m n : ℕ) → m ≤ n → AgreesUpTo run s log t n → AgreesUpTo run s log t m
  holds_before t m n le h = let e : n ≡ (n - m) + m = omega arith in holds_down t m (n - m) (subst (AgreesUpTo run s log t) e h)

  pub same_holds : (t : ℕ) → AgreesWholly run s log t → AgreesUpTo run s log t (length (log t))
  same_holds t h =
      let whole = take_whole (log t) in
      record { tells = h.tells; jobs = h.jobs ∙ ap jobs_in (sym whole); replies = subst (RepliesAre h.tells.outputs) (sym whole) h.replies }

  not_less : (t m n : ℕ) → FailsAt run s log t m → FailsAt run s log t n → m < n → ⊥
  not_less t m n a b lt = let w = b.within in a.job (omega (arith, lt, w)) (holds_before t (suc m) n (omega (arith, lt)) b.before)

  pub fails_once : (t m n : ℕ) → FailsAt run s log t m → FailsAt run s log t n → m ≡ n
  fails_once t m n a b =
      ⊎_elim (λ lt. absurd (not_less t m n a b lt)) (λ le. ⊎_elim (λ lt. absurd (not_less t n m b a lt)) (λ ge. omega (arith, le, ge)) (cases_lt n m)) (cases_lt m n)

  -- ---- the first ticks of thread 0

  pub ticks_first : (turns more : List TickInput) → RunsTicks run s log (turns ++ more) → RunsTicks run s log turns
  ticks_first turns more h = record { tells = tells_first 0 (length turns) h.tells; ticks = first_ticks turns more None h.tells.exchanges h.tells.outputs h.ticks }
    where
      first_ticks : (turns more : List TickInput) (last : Option Reply) (xs : List Exchange) (os : List Output) → AreTicks s last (turns ++ more) xs os → AreTicks s last turns (take (length turns) xs) (take (length turns) os)
      first_ticks [] more last xs os h = tt
      first_ticks (turn ∷ turns) more last [] os h = absurd h
      first_ticks (turn ∷ turns) more last (x ∷ xs) [] h = absurd h
      first_ticks (turn ∷ turns) more last (x ∷ xs) (o ∷ os) h = (h.0, first_ticks turns more o.reply xs os h.1)
