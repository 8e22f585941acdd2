-- The lines of ticks, and the answer on a text.
use Rattle.std.proofs.Common.{◌≡◌, ℕ, suc, zero, ◌+◌, ◌<◌, ◌≤◌, true, false, cond, nat_lt, List, [], ◌∷◌, ◌++◌, length, drop, get_or, ℤ, Some, Result, Ok, Err, sym, ap, subst, ◌∙◌, arith}
use Rattle.std.specs.declared.vec.Vec.{Vec}
use Rattle.std.specs.declared.alloc.Global.{Global}
use Rattle.std.specs.List.{AllByRecursion}
use Rattle.std.proofs.lemmas.Bool.{lt-ltb, le-ltb}
use Rattle.std.proofs.lemmas.List.{drop_more, drop_all}
use Rattle.forec_base.specs.Outside.{Fell}
use Rattle.forec_base.specs.declared.limits.TheConstants.{MAX_TEXT_BYTES}
use Rattle.trace_rows.specs.Report.{tick_line}
use Rattle.wave_dump.specs.Dumps.{plain_ticks}
use Rattle.wave_dump.specs.Fronts.{IsAnswer, IsLongest}
use Rattle.wave_dump.specs.Machine.{first_stage, dump_in}
use Rattle.wave_dump.specs.Wave.{PlainDump, AreValues, IsDump, wave_text}
use Rattle.wave_dump.proofs.Exact.{exact, read_again}
use Rattle.dump_report.specs.Told.{ToldReport, told_report, told_ticks, refused_from, refused_long, dump_told, dump_report}

-- ---- ticks

pub ticks_step : (ticks : List (Vec ℤ Global)) (i : ℕ) (names : List (List ℕ)) (d : Vec ℤ Global) → i < length ticks →
    told_ticks (i + 1) names (plain_ticks (drop i ticks)) ≡ tick_line (i + 1) names (get_or ticks i d).items ++ told_ticks (i + 1 + 1) names (plain_ticks (drop (i + 1) ticks))
ticks_step ticks i names d l = ap (λ ts. told_ticks (i + 1) names (plain_ticks ts)) (drop_more ticks i d l)

pub ticks_end : (ticks : List (Vec ℤ Global)) (i : ℕ) (names : List (List ℕ)) → length ticks ≤ i → told_ticks (i + 1) names (plain_ticks (drop i ticks)) ≡ []
ticks_end ticks i names h = ap (λ ts. told_ticks (i + 1) names (plain_ticks ts)) (drop_all i ticks h)

pub values_of_tick : (n : ℕ) (ticks : List (Vec ℤ Global)) (i : ℕ) (d : Vec ℤ Global) → AllByRecursion (AreValues n) (plain_ticks ticks) → i < length ticks → length (get_or ticks i d).items ≡ n
values_of_tick n [] i d h l = absurd (omega arith)
values_of_tick n (t ∷ ticks) zero d h l = h.0.count
values_of_tick n (t ∷ ticks) (suc i) d h l = values_of_tick n ticks i d h.1 (omega arith)

-- ---- the answer on a text

-- of a dump's text
pub answer_of_dump : (text : List ℕ) (d : PlainDump) → IsDump d → text ≡ wave_text d → dump_in 0 (Some first_stage) text ≡ Ok d
answer_of_dump text d h e = ap (dump_in 0 (Some first_stage)) e ∙ read_again d h

one_longest : (text : List ℕ) (m n : ℕ) → IsLongest text m → IsLongest text n → m ≡ n
one_longest text m n h k =
    let low : m ≤ n = k.most m h.within h.front in
    let high : n ≤ m = h.most n k.within k.front in
    omega arith

fault_is : (text : List ℕ) (front : ℕ) (r : Result PlainDump ℕ) → IsAnswer text r → ((d : PlainDump) → IsDump d → text ≡ wave_text d → ⊥) → IsLongest text front → r ≡ Err front
fault_is text front (Ok d) a none l = absurd (none d a.1 a.0)
fault_is text front (Err m) a none l = ap Err (one_longest text m front a l)

-- of any other text
pub answer_of_none : (text : List ℕ) (front : ℕ) → ((d : PlainDump) → IsDump d → text ≡ wave_text d → ⊥) → IsLongest text front → dump_in 0 (Some first_stage) text ≡ Err front
answer_of_none text front none l = fault_is text front (dump_in 0 (Some first_stage) text) (exact text) none l

-- ---- the report of a text

pub report_of_long : (text : List ℕ) → MAX_TEXT_BYTES < length text → dump_report text ≡ refused_long
unfolding dump_report
report_of_long text h =
    ap (λ b. cond b refused_long (dump_told (dump_in 0 (Some first_stage) text))) (lt-ltb MAX_TEXT_BYTES (length text) h)

report_by : (text : List ℕ) (answer : Result PlainDump ℕ) → length text ≤ MAX_TEXT_BYTES → dump_in 0 (Some first_stage) text ≡ answer → dump_report text ≡ dump_told answer
unfolding dump_report
report_by text answer h e =
    ap (λ b. cond b refused_long (dump_told (dump_in 0 (Some first_stage) text))) (le-ltb MAX_TEXT_BYTES (length text) h) ∙ ap dump_told e

pub report_of_dump : (text : List ℕ) (d : PlainDump) → length text ≤ MAX_TEXT_BYTES → IsDump d → text ≡ wave_text d → dump_report text ≡ told_report d
report_of_dump text d s h e = report_by text (Ok d) s (answer_of_dump text d h e)

pub report_of_none : (text : List ℕ) (front : ℕ) → length text ≤ MAX_TEXT_BYTES → ((d : PlainDump) → IsDump d → text ≡ wave_text d → ⊥) → IsLongest text front → dump_report text ≡ refused_from front
report_of_none text front s none l = report_by text (Err front) s (answer_of_none text front none l)
