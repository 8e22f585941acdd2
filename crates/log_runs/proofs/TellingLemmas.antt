-- What a port has kept, as the log of a host.
use Rattle.std.specs.Bool.{⊤}
use Rattle.std.specs.Io.KnownBytes.{Appends}
use Rattle.std.proofs.Common.{Bool, List, Option, ◌≡◌, ◌<◌, ◌≤◌, ◌^◌, ◌-◌, min, ℕ, suc, length, refl, sym, ap, subst, ◌∙◌, arith}
use Rattle.forec_base.specs.Outside.{Fell}
use Rattle.forec_kernel.specs.Shapes.{PlainShape}
use Rattle.thread_code.specs.Plain.{plain_code}
use Rattle.thread_code.specs.declared.instruction.CodeParts.{CodeParts}
use Rattle.core_host.specs.Hosted.{Hosted, code_of, IsWhole}
use Rattle.core_host.specs.Owned.{HasOwnPort}
use Rattle.core_seats.specs.Posts.{Mail}
use Rattle.exchange_meaning.specs.LogLines.{log_text}
use Rattle.exchange_log.specs.Kept.{Logging, code_in_mail, mail_words}
use Rattle.exchange_log.specs.Lines.{lines_room}
use Rattle.exchange_log.specs.Posted.{IsAnswered, log_in, log_words}
use Rattle.log_writing.specs.Logging.{CanTellLog}
use Rattle.log_runs.specs.RunLogs.{IsLogReport, Of_kept, Of_full, log_full, logged_report}
use Rattle.log_runs.specs.declared.logging.TheConstants.{LOG_WORDS}
use Rattle.whole_writes.specs.Calls.{AppendsFront}
use Rattle.trace_ticks.specs.Ends.{IsOwn}
use Rattle.trace_ticks.specs.Prints.{Prints, PrintsReport}
use Rattle.trace_ticks.specs.declared.status.Status.{Status}
use Rattle.trace_ticks.specs.declared.status.Status.TheVariants as status
use Rattle.trace_ticks.proofs.Printing.{prints_as, prints_all, prints_front}

module _ (h : Hosted) (own : HasOwnPort h) (answered : IsAnswered h.mail) (p : Logging) (same : p.mail ≡ h.mail) where
  shape_is : (code_in_mail p.mail).shape ≡ (code_of h).shape
  shape_is = ap (λ (m : Mail). (code_in_mail m).shape) same ∙ ap (λ (c : CodeParts). (plain_code c).shape) own.work

  here : IsAnswered p.mail
  here = subst IsAnswered (sym same) answered

  pub words_are : (needed : ℕ) → (IsAnswered p.mail → needed ≡ min (log_words (code_in_mail p.mail).shape (log_in p.mail)) (2 ^ 64 - 1)) →
      needed ≡ min (log_words (code_of h).shape (log_in h.mail)) (2 ^ 64 - 1)
  words_are needed is =
      is here ∙ ap (λ (s : PlainShape). min (log_words s (log_in p.mail)) (2 ^ 64 - 1)) shape_is ∙ ap (λ (m : Mail). min (log_words (code_of h).shape (log_in m)) (2 ^ 64 - 1)) same

  -- where more is needed than is kept
  pub full : (needed : ℕ) (end : Status) → needed ≡ min (log_words (code_of h).shape (log_in h.mail)) (2 ^ 64 - 1) → LOG_WORDS < needed → IsLogReport (code_of h).shape (log_in h.mail) end log_full
  full needed end is more = Of_full (omega (arith, is, more)) refl

  -- and where it isn't
  pub kept : (needed : ℕ) (end : Status) → needed ≡ min (log_words (code_of h).shape (log_in h.mail)) (2 ^ 64 - 1) → needed ≤ LOG_WORDS →
      IsLogReport (code_of h).shape (log_in h.mail) end (logged_report (code_of h).shape (log_in h.mail) end)
  kept needed end is few = Of_kept (omega (arith, is, few)) refl

  pub can_tell : (needed threads room line : ℕ) → needed ≡ min (mail_words p.mail.ends) (2 ^ 64 - 1) → needed ≤ LOG_WORDS → needed ≤ p.words → p.words < 2 ^ 64 →
      threads ≡ length (code_of h).shape.threads → room ≡ min (lines_room (code_of h).shape) (2 ^ 64 - 1) → line ≡ room → line < 2 ^ 64 - 1 → CanTellLog p threads line
  can_tell needed threads room line is few within small count rooms same_line short =
      let fits : lines_room (code_of h).shape ≤ line = omega (arith, rooms, same_line, short) in
      record {
        mailboxes = here.mailboxes ∙ ap (λ (s : PlainShape). length s.threads) shape_is ∙ sym count;
        parents = here.parents;
        replied = here.replied;
        kept = omega (arith, is, few, within);
        small = small;
        room = subst (λ (s : PlainShape). lines_room s ≤ line) (sym shape_is) fits;
      }

-- ---- what is printed

module _ {K : Type 0} (held : K → Option (List ℕ)) (lost : K → ℕ) (is_down : K → Bool) (h : Hosted) (end : Status) (out out' : K) where
  abbrev pub Told : Status → Type 0
  Told result = Prints held lost is_down ⊤ (IsLogReport (code_of h).shape (log_in h.mail) end) (end ≡ status.Usage) ⊥ ⊥ out out' result

  pub told_full : (result : Status) → IsLogReport (code_of h).shape (log_in h.mail) end log_full → PrintsReport held lost is_down log_full (status.Full ≡ status.Usage) out out' result → Told result
  told_full result is p =
      prints_as held lost is_down _ _ _ _ _ out out' ⊤ (IsLogReport (code_of h).shape (log_in h.mail) end) (end ≡ status.Usage) ⊥ ⊥ result (λ t. t)
      (λ t r e. subst (IsLogReport (code_of h).shape (log_in h.mail) end) (sym e) is) (λ m. absurd (let bad : status.Full ≡ status.Usage = m in cc)) (λ n. n) (λ n. n) p

  module _ (is : IsLogReport (code_of h).shape (log_in h.mail) end (logged_report (code_of h).shape (log_in h.mail) end)) (mail : Mail) (same : mail ≡ h.mail)
      (threads : ℕ) (count : threads ≡ length (code_of h).shape.threads) where
    text_is : log_text threads (log_in mail) ≡ log_text (length (code_of h).shape.threads) (log_in h.mail)
    text_is = ap (λ n. log_text n (log_in mail)) count ∙ ap (λ (m : Mail). log_text (length (code_of h).shape.threads) (log_in m)) same

    pub told_kept : IsOwn end → Appends (held out) (held out') (log_text threads (log_in mail)) → Told end
    told_kept own all =
        prints_all held lost is_down ⊤ (IsLogReport (code_of h).shape (log_in h.mail) end) (end ≡ status.Usage) ⊥ ⊥ out out' end own (λ e. e)
        (λ _. (logged_report (code_of h).shape (log_in h.mail) end, is, record { status = refl; bytes = subst (Appends (held out) (held out')) text_is all }))

    pub told_front : Fell (lost out) (lost out') (is_down out') → AppendsFront (held out) (held out') (log_text threads (log_in mail)) → Told status.WriteFault
    told_front fell front =
        prints_front held lost is_down ⊤ (IsLogReport (code_of h).shape (log_in h.mail) end) (end ≡ status.Usage) ⊥ ⊥ out out' fell
        (λ _. (logged_report (code_of h).shape (log_in h.mail) end, is, subst (AppendsFront (held out) (held out')) text_is front))
