-- What calls print, from what they write.
use Rattle.std.proofs.Common.{◌≡◌, ◌≢◌, inl, inr, ℕ, Bool, List, Option, Some, refl, sym, subst}
use Rattle.std.specs.Option.{IfSome}
use Rattle.std.specs.Io.KnownBytes.{Appends}
use Rattle.forec_base.specs.Outside.{Fell}
use Rattle.whole_writes.specs.Calls.{AppendsFront}
use Rattle.trace_ticks.specs.Ends.{IsOwn, Given}
use Rattle.trace_ticks.specs.Prints.{Prints, PrintsReport}
use Rattle.trace_ticks.specs.Report.{Report}
use Rattle.trace_ticks.specs.declared.status.Status.{Status}
use Rattle.trace_ticks.specs.declared.status.Status.TheVariants as status

-- a status of a report's own is none of these
pub own_not_read : (s : Status) → IsOwn s → s ≢ status.ReadFault
own_not_read s own e = subst IsOwn e own

pub own_not_memory : (s : Status) → IsOwn s → s ≢ status.NoMemory
own_not_memory s own e = subst IsOwn e own

pub own_not_write : (s : Status) → IsOwn s → s ≢ status.WriteFault
own_not_write s own e = subst IsOwn e own

-- and any other is
pub own_else : (s : Status) → s ≢ status.ReadFault → s ≢ status.WriteFault → s ≢ status.NoMemory → IsOwn s
own_else status.Done r w m = tt
own_else status.Usage r w m = tt
own_else status.Refused r w m = tt
own_else status.Trace r w m = tt
own_else status.Trapped r w m = tt
own_else status.Over r w m = tt
own_else status.ReadFault r w m = absurd (r refl)
own_else status.WriteFault r w m = absurd (w refl)
own_else status.NoMemory r w m = absurd (m refl)
own_else status.Full r w m = tt

module _ {K : Type 0} (held : K → Option (List ℕ)) (faults : K → ℕ) (down : K → Bool) (Told : Type 0) (Is : Report → Type 0) (Misused Unread Parted : Type 0) (old new : K) where
  abbrev P : Status → Type 0
  P end = Prints held faults down Told Is Misused Unread Parted old new end

  -- all of a report
  pub prints_all : (end : Status) → IsOwn end → (end ≡ status.Usage → Misused) → (Told → (r : Report) × Is r × Given r end (held old) (held new)) → P end
  prints_all end own usage all = record {
    own = λ _. all;
    write = λ e. absurd (own_not_write end own e);
    memory = λ e. absurd (own_not_memory end own e);
    read = λ e. absurd (own_not_read end own e);
    usage = usage;
  }

  -- a front of it
  pub prints_front : Fell (faults old) (faults new) (down new) → (Told → (r : Report) × Is r × AppendsFront (held old) (held new) r.bytes) → P status.WriteFault
  prints_front fell front = record {
    own = λ o. absurd o;
    write = λ _. (fell, front);
    memory = λ e. cc;
    read = λ e. cc;
    usage = λ e. cc;
  }

  -- a front of it, where memory ran out
  pub prints_part : Parted → (Told → (r : Report) × Is r × AppendsFront (held old) (held new) r.bytes) → P status.NoMemory
  prints_part parted front = record {
    own = λ o. absurd o;
    write = λ e. cc;
    memory = λ _. inr (parted, front);
    read = λ e. cc;
    usage = λ e. cc;
  }

  -- nothing, where memory ran out
  pub prints_nothing : held new ≡ held old → P status.NoMemory
  prints_nothing same = record {
    own = λ o. absurd o;
    write = λ e. cc;
    memory = λ _. inl same;
    read = λ e. cc;
    usage = λ e. cc;
  }

  -- something was not read
  pub prints_unread : Unread → P status.ReadFault
  prints_unread unread = record {
    own = λ o. absurd o;
    write = λ e. cc;
    memory = λ e. cc;
    read = λ _. unread;
    usage = λ e. cc;
  }

  -- what a call prints, said with other words
  pub prints_as : (Told' : Type 0) (Is' : Report → Type 0) (Misused' Unread' Parted' : Type 0) (end : Status) → (Told' → Told) → (Told' → (r : Report) → Is r → Is' r) → (Misused → Misused') → (Unread → Unread') →
      (Parted → Parted') → P end → Prints held faults down Told' Is' Misused' Unread' Parted' old new end
  prints_as Told' Is' Misused' Unread' Parted' end told is misused unread parted p = record {
    own = λ own now. let r = p.own own (told now) in (r.0, is now r.0 r.1, r.2);
    write = λ e. let w = p.write e in (w.0, λ now. let r = w.1 (told now) in (r.0, is now r.0 r.1, r.2));
    memory = λ e. elim (p.memory e) [
      | inl same ↦ inl same
      | inr part ↦ inr (parted part.0, λ now. let r = part.1 (told now) in (r.0, is now r.0 r.1, r.2))
    ];
    read = λ e. unread (p.read e);
    usage = λ e. misused (p.usage e);
  }

-- ---- a line

module _ {K : Type 0} (held : K → Option (List ℕ)) (faults : K → ℕ) (down : K → Bool) (r : Report) (old new : K) where
  pub says_all : IsOwn r.status → Appends (held old) (held new) r.bytes → PrintsReport held faults down r (r.status ≡ status.Usage) old new r.status
  says_all own all =
      prints_all held faults down Unit (λ q. q ≡ r) (r.status ≡ status.Usage) ⊥ ⊥ old new r.status own (λ e. e) (λ _. (r, refl, record { status = refl; bytes = all }))

  pub says_front : Fell (faults old) (faults new) (down new) → AppendsFront (held old) (held new) r.bytes → PrintsReport held faults down r (r.status ≡ status.Usage) old new status.WriteFault
  says_front fell front = prints_front held faults down Unit (λ q. q ≡ r) (r.status ≡ status.Usage) ⊥ ⊥ old new fell (λ _. (r, refl, front))

  -- what a line makes of another report with the same bytes and status
  pub said_as : (Misused : Type 0) (Told : Type 0) (Is : Report → Type 0) (Misused' Unread Parted : Type 0) (end : Status) → (Told → Is r) → (Misused → Misused') → PrintsReport held faults down r Misused old new end →
      Prints held faults down Told Is Misused' Unread Parted old new end
  said_as Misused Told Is Misused' Unread Parted end is misused p =
      prints_as held faults down Unit (λ q. q ≡ r) Misused ⊥ ⊥ old new Told Is Misused' Unread Parted end (λ _. tt) (λ told q e. subst Is (sym e) (is told)) misused (λ n. absurd n) (λ n. absurd n) p

-- what holds of the bytes that are told
pub told_is : (o : Option (List ℕ)) (P : List ℕ → Type 0) (x : List ℕ) → IfSome o P → o ≡ Some x → P x
told_is o P x p e = subst (λ (q : Option (List ℕ)). IfSome q P) e p
