-- What was sent and what waits, over several calls.
use Rattle.std.proofs.Common.{◌≡◌, ◌+◌, ◌-◌, ◌<◌, ◌≤◌, ℕ, List, [], ◌++◌, Option, Result, Ok, Err, refl, sym, ap, subst, ◌∙◌, append_assoc, append-nil}
use Rattle.std.specs.Result.{OnErr}
use Rattle.std.specs.Io.KnownBytes.{Appends}
use Rattle.exchange_meaning.specs.Logged.{ExchangeLog}
use Rattle.exchange_meaning.specs.LogLines.{thread_log_lines, log_lines_from, log_text}
use Rattle.whole_writes.specs.Calls.{AppendsFront}
use Rattle.whole_writes.proofs.Appending.{appends_both, appends_refl, front_behind, front_longer}
use Rattle.log_writing.specs.Sending.{SendsBehind}
use Rattle.log_writing.proofs.PairLemmas.{log_done, log_split}

-- nothing was sent
pub sends_none : (held : Option (List ℕ)) (waited : List ℕ) → SendsBehind held held waited waited []
sends_none held waited = ([], appends_refl held, append-nil waited)

-- all of it was
pub sends_all : (old new : Option (List ℕ)) (waited : List ℕ) → Appends old new waited → SendsBehind old new waited [] []
sends_all old new waited all = (waited, all, refl)

-- these bytes were put behind
pub sends_piece : (old new : Option (List ℕ)) (waited middle waits piece : List ℕ) → SendsBehind old new waited middle [] → waits ≡ middle ++ piece → SendsBehind old new waited waits piece
sends_piece old new waited middle waits piece s is =
    (s.0, s.1, ap (λ w. w ++ piece) (sym (append-nil waited) ∙ s.2) ∙ append_assoc s.0 middle piece ∙ ap (λ w. s.0 ++ w) (sym is))

-- one after the other
pub sends_both : (a b c : Option (List ℕ)) (first middle last x y : List ℕ) → SendsBehind a b first middle x → SendsBehind b c middle last y → SendsBehind a c first last (x ++ y)
sends_both a b c first middle last x y s t = (
  s.0 ++ t.0,
  appends_both a b c s.0 t.0 s.1 t.1,
  sym (append_assoc first x y) ∙ ap (λ w. w ++ y) s.2 ∙ append_assoc s.0 middle y ∙ ap (λ w. s.0 ++ w) t.2 ∙ sym (append_assoc s.0 t.0 last),
)

-- a fault behind what was sent
pub sends_front : (a b c : Option (List ℕ)) (first middle x all rest : List ℕ) → SendsBehind a b first middle x → all ≡ x ++ rest → AppendsFront b c middle → AppendsFront a c (first ++ all)
sends_front a b c first middle x all rest s is f =
    let whole = (ap (λ w. w ++ rest) (sym s.2)) ∙ append_assoc first x rest ∙ ap (λ w. first ++ w) (sym is) in
    subst (AppendsFront a c) whole (front_longer a c (s.0 ++ middle) rest (front_behind a b c s.0 middle s.1 f))

-- the same, of all that waits
pub sends_last : (a b c : Option (List ℕ)) (first middle x : List ℕ) → SendsBehind a b first middle x → Appends b c middle → Appends a c (first ++ x)
sends_last a b c first middle x s h = subst (Appends a c) (sym s.2) (appends_both a b c s.0 middle s.1 h)

-- a fault in a piece behind what was sent
pub sends_part : (a b c : Option (List ℕ)) (first middle x y all rest : List ℕ) → SendsBehind a b first middle x → all ≡ (x ++ y) ++ rest → AppendsFront b c (middle ++ y) → AppendsFront a c (first ++ all)
sends_part a b c first middle x y all rest s is f =
    let here = front_behind a b c s.0 (middle ++ y) s.1 f in
    let so : s.0 ++ (middle ++ y) ≡ first ++ (x ++ y) = sym (append_assoc s.0 middle y) ∙ ap (λ w. w ++ y) (sym s.2) ∙ append_assoc first x y in
    let whole = ap (λ w. w ++ rest) so ∙ append_assoc first (x ++ y) rest ∙ ap (λ w. first ++ w) (sym is) in
    subst (AppendsFront a c) whole (front_longer a c (s.0 ++ (middle ++ y)) rest here)

pub err_map : {T E : Type 0} (r : Result T E) (P Q : Type 0) → OnErr r P → (P → Q) → OnErr r Q
err_map (Ok x) P Q h f = tt
err_map (Err e) P Q h f = f h

-- ---- a log whose threads before thread t were sent, or wait where nothing waited before

module _ (log : ExchangeLog) (threads t : ℕ) (a b c : Option (List ℕ)) (first middle : List ℕ) (empty : first ≡ []) (s : SendsBehind a b first middle (log_lines_from 1 (t - 1) log)) where
  whole : AppendsFront a c (first ++ log_text threads log) → AppendsFront a c (log_text threads log)
  whole f = subst (AppendsFront a c) (ap (λ (w : List ℕ). w ++ log_text threads log) empty) f

  -- a fault in the lines of thread t
  pub log_cut : 1 ≤ t → t < threads → AppendsFront b c (middle ++ thread_log_lines t (log t)) → AppendsFront a c (log_text threads log)
  log_cut some lt f =
      whole (sends_part a b c first middle (log_lines_from 1 (t - 1) log) (thread_log_lines t (log t)) (log_text threads log) (log_lines_from (1 + (t + 1 - 1)) (threads - 1 - t) log) s (log_split log threads t some lt) f)

  -- a fault behind the last thread
  pub log_held : t ≤ threads → threads ≤ t → AppendsFront b c middle → AppendsFront a c (log_text threads log)
  log_held le ge f = whole (sends_front a b c first middle (log_lines_from 1 (t - 1) log) (log_text threads log) [] s (log_done log threads t le ge) f)
