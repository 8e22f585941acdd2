-- What is told once thread 0 was replayed.
use Rattle.std.proofs.Common.{◌≡◌, ◌≢◌, ◌≤◌, ℕ, suc, Bool, List, [], ◌∷◌, ◌++◌, Option, refl, sym, ap, subst, ◌∙◌, append_assoc, length}
use Rattle.std.specs.Io.KnownBytes.{Appends}
use Rattle.forec_base.specs.Outside.{Fell}
use Rattle.whole_writes.specs.Calls.{AppendsFront}
use Rattle.trace_ticks.specs.Ends.{IsOwn, Given}
use Rattle.trace_ticks.specs.Prints.{Prints, PrintsReport}
use Rattle.trace_ticks.specs.Report.{Report}
use Rattle.trace_ticks.specs.declared.status.Status.{Status}
use Rattle.trace_ticks.specs.declared.status.Status.TheVariants as status
use Rattle.trace_ticks.proofs.Running.{fell_since}
use Rattle.whole_writes.proofs.Appending.{appends_both, front_behind}

-- a line is said behind what was sent before, which is told by what is known
pub said_after : {K : Type 0} (held : K → Option (List ℕ)) (lost : K → ℕ) (is_down : K → Bool) (Told : Type 0) (Is : Report → Type 0) (Unread : Type 0) (line : Report) (Misused : Type 0) (out mid out' : K) (result : Status) →
    lost out ≤ lost mid → (Misused → ⊥) → result ≢ status.NoMemory → PrintsReport held lost is_down line Misused mid out' result →
    (Told → (sent : List ℕ) × Appends (held out) (held mid) sent × Is (record { bytes = sent ++ line.bytes; status = line.status })) → Prints held lost is_down Told Is ⊥ Unread ⊥ out out' result
said_after held lost is_down Told Is Unread line Misused out mid out' result later other some p told = record {
  own = λ mine now.
      let t = told now in
      let r = p.own mine tt in
      let all = subst (λ (q : Report). Given q result (held mid) (held out')) r.1 r.2 in (
        record { bytes = t.0 ++ line.bytes; status = line.status },
        t.2,
        record { status = all.status; bytes = appends_both (held out) (held mid) (held out') t.0 line.bytes t.1 all.bytes },
      );
  write = λ e.
      let w = p.write e in (
        fell_since (lost out) (lost mid) (lost out') (is_down out') later w.0,
        λ now.
            let t = told now in
            let r = w.1 tt in
            let part = subst (λ (q : Report). AppendsFront (held mid) (held out') q.bytes) r.1 r.2 in (
              record { bytes = t.0 ++ line.bytes; status = line.status },
              t.2,
              front_behind (held out) (held mid) (held out') t.0 line.bytes t.1 part,
            ),
      );
  memory = λ e. absurd (some e);
  read = λ e. absurd (p.read e);
  usage = λ e. other (p.usage e);
}
