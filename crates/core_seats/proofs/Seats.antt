-- Empty seats, and that each thread is another host's, or at work, or rests, or waits at a fork.
use Rattle.std.proofs.Common.{◌≡◌, ℕ, suc, ◌<◌, ◌≤◌, true, Option, Some, None, length, sym, ap, ◌∙◌, inl, inr, ⊎_elim, arith}
use Rattle.std.specs.Prelude.{slice_get, slice_index_or}
use Rattle.std.specs.Option.{is_some}
use Rattle.std.proofs.lemmas.Option.{get_or_from_slice_get}
use Rattle.core_machine.specs.declared.thread.Thread.{Thread}
use Rattle.core_seats.specs.declared.seat.Seat.{Seat}
use Rattle.core_seats.specs.Keeping.{SchedulerState, Sits}
use Rattle.core_seats.specs.Waiting.{RestsOrWaits, IsVacant, CanDescend, rests, waits}
use Rattle.tick_jobs.proofs.Lists.{some_once}

pub vacant_by : (a b : SchedulerState) (t : ℕ) → slice_get b.seats t ≡ slice_get a.seats t → IsVacant a t → IsVacant b t
vacant_by a b t same v = record { seat = v.seat; at = same ∙ v.at; none = v.none }

-- a thread that sits leaves no empty seat
occupied : (s : SchedulerState) (t : ℕ) (h : Thread) → Sits s t h → IsVacant s t → ⊥
occupied s t h sits v = none_some (sym v.none ∙ ap (λ (z : Seat). z.thread) (some_once v.seat sits.seat (sym v.at ∙ sits.at)) ∙ sits.is)
  where
    none_some : None ≡ Some h → ⊥
    none_some e = cc

pub not_vacant : (s : SchedulerState) (k : ℕ) → RestsOrWaits s k → IsVacant s (suc k) → ⊥
not_vacant s k (rests r) v = occupied s (suc k) r.idle.thread r.idle.sits v
not_vacant s k (waits w) v = occupied s (suc k) w.thread w.sits v

-- ---- each thread above another

pub can_keep : (a b : SchedulerState) (t : ℕ) → length b.mail.ends ≡ length a.mail.ends → ((j : ℕ) → t ≤ j → RestsOrWaits a j → RestsOrWaits b j) → ((j : ℕ) → t ≤ j → IsVacant a (suc j) → IsVacant b (suc j)) → CanDescend a t → CanDescend b t
can_keep a b t count between vacant can k le lt = ⊎_elim (λ v. inl (vacant k le v)) (λ w. inr (between k le w)) (can k le (omega (arith, lt, count)))

pub can_above : (s : SchedulerState) (t u : ℕ) → t ≤ u → CanDescend s t → CanDescend s u
can_above s t u up can k le lt = can k (omega (arith, le, up)) lt

-- one that sits in its seat
pub it_sits : (s : SchedulerState) (t m n : ℕ) (x : Seat) → CanDescend s t → t ≤ m → m < length s.mail.ends → n ≡ suc m → x ≡ slice_index_or s.seats n x → is_some x.thread ≡ true → RestsOrWaits s m
it_sits s t m n x can le lt number read some =
    ⊎_elim
    (λ v. absurd (nothing x.thread (ap (λ (z : Seat). z.thread) (read ∙ get_or_from_slice_get s.seats n v.seat x (ap (λ i. slice_get s.seats i) number ∙ v.at)) ∙ v.none) some))
    (λ w. w) (can m le lt)
  where
    nothing : (o : Option Thread) → o ≡ None → is_some o ≡ true → ⊥
    nothing None e t = cc
    nothing (Some h) e t = cc
