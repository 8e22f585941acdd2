-- A line behind bytes that were written.
use Rattle.std.proofs.Common.{◌≡◌, ◌≢◌, ◌≤◌, ℕ, Bool, List, ◌++◌, Option, refl, sym, ap, subst, ◌∙◌}
use Rattle.std.specs.Io.KnownBytes.{Appends}
use Rattle.forec_base.specs.Outside.{Fell}
use Rattle.whole_writes.specs.Calls.{AppendsFront}
use Rattle.trace_ticks.specs.Ends.{IsOwn}
use Rattle.trace_ticks.specs.Prints.{PrintsReport}
use Rattle.trace_ticks.specs.Report.{Report}
use Rattle.trace_ticks.specs.declared.status.Status.{Status}
use Rattle.trace_ticks.specs.declared.status.Status.TheVariants as status
use Rattle.whole_writes.proofs.Appending.{appends_both, front_behind, front_longer}
use Rattle.trace_ticks.proofs.Printing.{prints_front}
use Rattle.trace_ticks.proofs.Running.{fell_since}

module _ {K : Type 0} (held : K → Option (List ℕ)) (lost : K → ℕ) (is_down : K → Bool) (before line : List ℕ) (end : Status) (out mid out' : K) where
  abbrev whole : Report
  whole = record { bytes = before ++ line; status = end }

  -- the bytes before it weren't written
  pub said_front : Fell (lost out) (lost out') (is_down out') → AppendsFront (held out) (held out') before → PrintsReport held lost is_down whole (end ≡ status.Usage) out out' status.WriteFault
  said_front fell front =
      prints_front held lost is_down Unit (λ q. q ≡ whole) (end ≡ status.Usage) ⊥ ⊥ out out' fell (λ _. (whole, refl, front_longer (held out) (held out') before line front))

  -- they were
  pub said_behind : (waiting : List ℕ) (result : Status) → waiting ≡ line → Appends (held out) (held mid) before → lost out ≤ lost mid →
      PrintsReport held lost is_down (record { bytes = waiting; status = end }) (end ≡ status.Usage) mid out' result → result ≢ status.NoMemory → PrintsReport held lost is_down whole (end ≡ status.Usage) out out' result
  said_behind waiting result is sent later p some = record {
    own = λ mine _.
        let r = p.own mine tt in
        let bytes : r.0.bytes ≡ line = ap (λ (q : Report). q.bytes) r.1 ∙ is in (
          whole,
          refl,
          record {
            status = r.2.status ∙ ap (λ (q : Report). q.status) r.1;
            bytes = appends_both (held out) (held mid) (held out') before line sent (subst (λ (b : List ℕ). Appends (held mid) (held out') b) bytes r.2.bytes);
          },
        );
    write = λ e.
        let w = p.write e in (
          fell_since (lost out) (lost mid) (lost out') (is_down out') later w.0,
          λ _.
              let r = w.1 tt in
              let bytes : r.0.bytes ≡ line = ap (λ (q : Report). q.bytes) r.1 ∙ is in
              (whole, refl, front_behind (held out) (held mid) (held out') before line sent (subst (λ (b : List ℕ). AppendsFront (held mid) (held out') b) bytes r.2)),
        );
    memory = λ e. absurd (some e);
    read = λ e. p.read e;
    usage = λ e. p.usage e;
  }
