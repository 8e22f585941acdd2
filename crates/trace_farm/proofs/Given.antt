-- The report of one run, and of two parts.
use Rattle.std.proofs.Common.{◌≡◌, ℕ, List, [], ◌∷◌, ◌++◌, map, length, Option, Some, unwrap_or, Result, Ok, Err, IfOk, IsOkAnd, ◌+◌, refl, sym, ap, ap₂, subst, ◌∙◌}
use Rattle.std.specs.declared.vec.Vec.{Vec}
use Rattle.std.specs.declared.alloc.Global.{Global}
use Rattle.std.proofs.lemmas.List.{map-append, length-append}
use Rattle.forec_base.specs.declared.labels.OutOfMemory.{OutOfMemory}
use Rattle.forec_kernel.specs.Shapes.{PlainKernel}
use Rattle.forec_kernel.specs.WellFormed.{WellFormed}
use Rattle.forec_kernel.specs.Composed.{TickInput}
use Rattle.thread_code.specs.Alone.{Stands}
use Rattle.thread_code.specs.Plain.{PlainCode}
use Rattle.trace_ticks.specs.Ends.{IsOwn, Given}
use Rattle.trace_ticks.specs.Following.{CodeFollows}
use Rattle.trace_ticks.specs.KernelNames.{run_format}
use Rattle.trace_ticks.specs.Led.{IsTold, IsTraceReport}
use Rattle.trace_ticks.specs.declared.format.Format.{Format}
use Rattle.trace_ticks.specs.declared.format.Telling.TheVariants as telling
use Rattle.trace_ticks.specs.Report.{Report, trace_report}
use Rattle.trace_ticks.specs.StatusNumbers.{status_number}
use Rattle.trace_ticks.specs.Ticking.{Starts}
use Rattle.trace_ticks.specs.declared.status.Status.{Status}
use Rattle.trace_farm.specs.declared.farm_report.FarmReport.{FarmReport}
use Rattle.trace_farm.specs.Farm.{NumberedReport, with_number, plain_report, KeepsReport, report_of, IsReportOf, AreReportsOf, AreReportsFor}

-- a code is followed from its start
pub code_starts : (c now : PlainCode) (Ran : List TickInput → Type 0) (k : PlainKernel) → now ≡ c → WellFormed k → Stands c k → Ran [] → Starts now.shape (CodeFollows now Ran) k
code_starts c now Ran k is formed stands none = record {
  shaped = sym stands.shape ∙ ap (λ (p : PlainCode). p.shape) (sym is);
  fresh = record { formed = formed; stands = subst (λ (p : PlainCode). Stands p k) (sym is) stands; ran = none };
}

abbrev numbers : List ℕ → ℕ → NumberedReport
numbers b n = record { bytes = b; status = n }

-- what a run over a trace in memory gave
pub reported : (rows limit budget units : ℕ) (how : Format) (k : PlainKernel) (trace rest held bytes kept : List ℕ) (end : Status) (r : Result FarmReport OutOfMemory) →
    limit ≡ rows → units ≡ budget → how ≡ run_format telling.Report k → rest ≡ trace → held ≡ [] → kept ≡ bytes →
    (IsOwn end → IsTold (Some rest) → (q : Report) × IsTraceReport limit how k units (Some rest) q × Given q end (Some held) (Some bytes)) →
    IfOk r (λ _. IsOwn end) → IfOk r (KeepsReport kept end) → IfOk r (IsReportOf rows k budget trace)
reported rows limit budget units how k trace rest held bytes kept end (Err e) few small told same none stays runs own is = tt
reported rows limit budget units how k trace rest held bytes kept end (Ok r) few small told same none stays runs own is =
    let g = runs own (rest, refl) in
    let read : rest ≡ g.1.0 = ap (λ (o : Option (List ℕ)). unwrap_or o []) g.1.1 in
    let format = run_format telling.Report k in
    let whole : g.0 ≡ trace_report rows format k budget trace =
    g.1.2 ∙ ap₂ (λ (n b : ℕ). trace_report n how k b g.1.0) few small ∙ ap (λ (f : Format). trace_report rows f k budget g.1.0) told ∙ ap (trace_report rows format k budget) (sym read ∙ same) in
    let given : bytes ≡ g.0.bytes = g.2.bytes ∙ ap (λ (h : List ℕ). h ++ g.0.bytes) none in
    is ∙ ap₂ (λ (b : List ℕ) (n : ℕ). numbers b n) (stays ∙ given) (ap status_number g.2.status) ∙ ap with_number whole

module _ (rows : ℕ) (k : PlainKernel) (budget : ℕ) where
  abbrev of : Vec ℕ Global → NumberedReport
  of t = report_of rows k budget t.items

  -- the reports of two parts
  pub two_parts : (traces front back : List (Vec ℕ Global)) (all fs bs : List FarmReport) → traces ≡ front ++ back → all ≡ fs ++ bs →
      AreReportsOf rows k budget front fs → AreReportsOf rows k budget back bs → AreReportsOf rows k budget traces all
  two_parts traces front back all fs bs split is f g =
      ap (map plain_report) is ∙ map-append plain_report fs bs ∙ ap₂ ◌++◌ f g ∙ sym (map-append of front back) ∙ ap (map of) (sym split)

  -- one report more
  pub one_more : (before after : List (Vec ℕ Global)) (t : Vec ℕ Global) (done new : List FarmReport) (r : FarmReport) → after ≡ before ++ t ∷ [] → new ≡ done ++ r ∷ [] →
      AreReportsOf rows k budget before done → IsReportOf rows k budget t.items r → AreReportsOf rows k budget after new
  one_more before after t done new r longer pushed are is =
      ap (map plain_report) pushed ∙ map-append plain_report done (r ∷ [])
      ∙ ap₂ ◌++◌ are (ap (λ (x : NumberedReport). x ∷ []) is) ∙ sym (map-append of before (t ∷ [])) ∙ ap (map of) (sym longer)

-- so it is for each kernel that a code stands for
pub joined : (code : PlainCode) (rows budget : ℕ) (traces front back : List (Vec ℕ Global)) (a b r : Result (Vec FarmReport Global) OutOfMemory) →
    traces ≡ front ++ back →
    IfOk a (λ rs. AreReportsFor code rows budget front rs.items) → IfOk b (λ rs. AreReportsFor code rows budget back rs.items) →
    IfOk r (λ rs. IsOkAnd a (λ fs. IsOkAnd b (λ bs. rs.items ≡ fs.items ++ bs.items))) → IfOk r (λ rs. AreReportsFor code rows budget traces rs.items)
joined code rows budget traces front back a b (Err e) split f g h = tt
joined code rows budget traces front back (Err e) b (Ok rs) split f g h = absurd h
joined code rows budget traces front back (Ok fs) (Err e) (Ok rs) split f g h = absurd h
joined code rows budget traces front back (Ok fs) (Ok bs) (Ok rs) split f g h = record {
  count = ap length h ∙ length-append fs.items bs.items ∙ ap₂ ◌+◌ f.count g.count ∙ sym (length-append front back) ∙ ap length (sym split);
  each = λ k formed stands. two_parts rows k budget traces front back rs.items fs.items bs.items split h (f.each k formed stands) (g.each k formed stands);
}
