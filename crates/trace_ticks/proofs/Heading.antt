-- The header of a trace, and what follows.
use Rattle.std.proofs.Common.{◌≡◌, ◌≢◌, ℕ, false, List, [], ◌∷◌, ◌++◌, Option, Some, Ok, Err, refl, append_assoc, sym, ap, subst, ◌∙◌}
use Rattle.std.specs.Option.{IfSome}
use Rattle.std.specs.Io.KnownBytes.{Appends}
use Rattle.forec_kernel.specs.Composed.{TickInput}
use Rattle.forec_kernel.specs.Shapes.{PlainKernel}
use Rattle.forec_kernel.specs.Ticks.{Fresh}
use Rattle.trace_rows.specs.Calls.{IfTold}
use Rattle.trace_rows.specs.Lines.{whole_lines}
use Rattle.trace_rows.specs.Reader.{Reader, StartTakes, StartSays, Takes, LacksLine, trace_ahead}
use Rattle.trace_rows.specs.Trace.{Form, Trace, header_at, stop, trace_of}
use Rattle.trace_rows.specs.declared.fault.RowFault.{RowFault}
use Rattle.trace_ticks.specs.Ends.{PrintedFor, Wanted}
use Rattle.trace_ticks.specs.KernelNames.{input_names}
use Rattle.trace_rows.specs.Report.{row_words}
use Rattle.trace_ticks.specs.Formats.{opening, last_written}
use Rattle.trace_ticks.specs.declared.format.Format.{Format}
use Rattle.trace_ticks.specs.Report.{Report, Pace, behind_bytes, turns_from, advance, report_from, trace_report, trace_turns, printed_for}
use Rattle.trace_ticks.specs.Progress.{Led, report_rest, turns_rest}
use Rattle.trace_rows.specs.declared.fault.RowFault.TheVariants as fault
use Rattle.trace_ticks.specs.declared.status.Status.TheVariants as status
use Rattle.whole_writes.proofs.Appending.{appends_refl}
use Rattle.trace_ticks.proofs.Told.{told_both, told_map, told_some, told_some_both}
use Rattle.trace_ticks.proofs.Splitting.{no_line, whole_lines-line, came_told, takes_told}

-- the header is read
pub record Started (limit : ℕ) (inputs : List (List ℕ)) (left_old left_new : Option (List ℕ)) (r : Reader) : Type 0 where
  pub header : List ℕ
  pub is : header_at inputs header ≡ Ok r.form
  pub takes : Takes header [] r.held r.ended left_old left_new
  pub trace : IfTold left_old left_new (λ x y. trace_of inputs limit x ≡ trace_ahead r y)

-- what was read is a header
pub started : (limit : ℕ) (inputs : List (List ℕ)) (l l' : Option (List ℕ)) (r : Reader) → IfTold l l' (StartSays inputs limit (Ok r)) → StartTakes inputs l l' (Ok r) → Started limit inputs l l' r
started limit inputs l l' r says takes = record { header = takes.0; is = takes.1; takes = takes.2; trace = says }

-- what stands there is no header
pub no_header_there : (limit : ℕ) (inputs : List (List ℕ)) (l l' : Option (List ℕ)) (f : RowFault) → f ≢ fault.ReadFault → f ≢ fault.OutOfMemory → IfTold l l' (StartSays inputs limit (Err f)) →
    IfTold l l' (λ x y. trace_of inputs limit x ≡ stop (Some f) 0)
no_header_there limit inputs l l' fault.Bad read memory n = n
no_header_there limit inputs l l' fault.Long read memory n = n
no_header_there limit inputs l l' fault.Many read memory n = told_map l l' _ (λ x y. trace_of inputs limit x ≡ stop (Some fault.Many) 0) n (λ x y none. absurd none)
no_header_there limit inputs l l' fault.ReadFault read memory n = absurd (read refl)
no_header_there limit inputs l l' fault.OutOfMemory read memory n = absurd (memory refl)

pub printed_none : (limit : ℕ) (how : Format) (k : PlainKernel) (b : ℕ) → printed_for limit how k b [] ≡ Some []
unfolding printed_for
printed_none limit how k b = refl

pub printed_rows : (limit : ℕ) (how : Format) (k : PlainKernel) (b : ℕ) (line : List ℕ) (form : Form) (lines : List (List ℕ)) (p : Pace) → header_at (input_names k) line ≡ Ok form → advance limit how k b form Fresh 1 lines ≡ Some p →
    printed_for limit how k b (line ∷ lines) ≡ Some (opening how ++ p.bytes)
unfolding printed_for
printed_rows limit how k b line form lines p h e = rw (h, e) refl

module _ (limit : ℕ) (how : Format) (k : PlainKernel) (b : ℕ) (inputs : List (List ℕ)) (same : inputs ≡ input_names k) where
  pub trace_reads : (x : List ℕ) (t : Trace) → trace_of inputs limit x ≡ t → trace_report limit how k b x ≡ behind_bytes (opening how) (report_from how k b Fresh 1 t)
  unfolding trace_report
  trace_reads x t h =
      ap (λ ns. behind_bytes (opening how) (report_from how k b Fresh 1 (trace_of ns limit x))) (sym same) ∙ ap (λ (u : Trace). behind_bytes (opening how) (report_from how k b Fresh 1 u)) h

  pub turns_read : (x : List ℕ) (t : Trace) → trace_of inputs limit x ≡ t → trace_turns limit k b x ≡ turns_from k b Fresh t.rows
  unfolding trace_turns
  turns_read x t h = ap (λ ns. turns_from k b Fresh (trace_of ns limit x).rows) (sym same) ∙ ap (λ (u : Trace). turns_from k b Fresh u.rows) h

  pub header_row : (r : Reader) (x y : List ℕ) → trace_of inputs limit x ≡ trace_ahead r y → trace_report limit how k b x ≡ report_rest how k b r y
  unfolding report_rest
  header_row r x y h = trace_reads x (trace_ahead r y) h

  pub header_turns : (r : Reader) (x y : List ℕ) → trace_of inputs limit x ≡ trace_ahead r y → trace_turns limit k b x ≡ turns_rest k b r y
  unfolding turns_rest
  header_turns r x y h = turns_read x (trace_ahead r y) h

  -- ---- no header

  pub head_fault : (l l' : Option (List ℕ)) (f : RowFault) → IfTold l l' (λ x y. trace_of inputs limit x ≡ stop (Some f) 0) →
      IfSome l (λ x. trace_report limit how k b x ≡ record { bytes = opening how ++ last_written how (row_words 0 f); status = status.Trace })
  head_fault l l' f n = told_some l l' (λ x y. trace_of inputs limit x ≡ stop (Some f) 0) _ n (λ x y h. trace_reads x (stop (Some f) 0) h)

  pub head_ran : (F : List TickInput → Type 0) (l l' : Option (List ℕ)) (f : RowFault) → IfTold l l' (λ x y. trace_of inputs limit x ≡ stop (Some f) 0) → F [] → IfSome l (λ x. F (trace_turns limit k b x))
  head_ran F l l' f n none = told_some l l' (λ x y. trace_of inputs limit x ≡ stop (Some f) 0) _ n (λ x y h. subst F (sym (turns_read x (stop (Some f) 0) h)) none)

  pub head_failed : (l l' h0 h2 : Option (List ℕ)) → h2 ≡ h0 → (held : List ℕ) × LacksLine [] held false false l l' → Wanted limit how k b l l' h0 h2
  head_failed l l' h0 h2 e n = (
    [],
    subst (λ h. Appends h0 h []) (sym e) (appends_refl h0),
    told_map l l' _ (PrintedFor limit how k b []) (came_told [] n.0 l l' n.1.came) (λ x y e. (n.0, e, rw (no_line n.0 n.1.none) (printed_none limit how k b))),
  )

  -- ---- after a header

  module _ (r : Reader) (l l' : Option (List ℕ)) (n : Started limit inputs l l' r) where
    -- what holds of the report of the rows holds of the whole one
    pub head_report : (P : Report → Type 0) → IfSome l' (λ y. P (report_rest how k b r y)) → IfSome l (λ x. P (trace_report limit how k b x))
    head_report P g = told_some_both l l' _ _ _ n.trace g (λ x y is p. subst P (sym (header_row r x y is)) p)

    pub head_turns : (F : List TickInput → Type 0) → IfSome l' (λ y. F (turns_rest k b r y)) → IfSome l (λ x. F (trace_turns limit k b x))
    head_turns F g = told_some_both l l' _ _ _ n.trace g (λ x y is p. subst F (sym (header_turns r x y is)) p)

    pub head_wanted : r.limit ≡ limit → (l2 h0 h2 : Option (List ℕ)) → (bytes : List ℕ) × Appends h0 h2 bytes × IfTold l' l2 (Led how k b r bytes) → Wanted limit how k b l l2 h0 h2
    head_wanted most l2 h0 h2 led =
        let is = ap (λ ns. header_at ns n.header) (sym same) ∙ n.is in (
          led.0,
          led.1,
          told_both l l' l2 _ (Led how k b r led.0) (PrintedFor limit how k b led.0) (takes_told n.header [] r.held r.ended l l' n.takes) led.2 (λ x y u cut m.
              let c = cut m.0 in
              let on = subst (λ (q : ℕ). advance q how k b r.form Fresh 1 (whole_lines m.1) ≡ Some m.3) most m.4 in (
                n.header ++ 10 ∷ m.1,
                c.bytes ∙ ap (λ w. n.header ++ 10 ∷ w) m.2 ∙ sym (append_assoc n.header (10 ∷ m.1) u),
                ap (printed_for limit how k b) (whole_lines-line n.header m.1 c.none) ∙ printed_rows limit how k b n.header r.form (whole_lines m.1) m.3 is on ∙ ap Some m.5,
              )),
        )
