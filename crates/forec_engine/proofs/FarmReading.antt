-- What the traces of a farm are told as.
use Rattle.std.proofs.Common.{◌≡◌, ◌<◌, ◌≤◌, ◌+◌, ℕ, Bool, true, false, List, [], ◌∷◌, ◌++◌, Option, Some, None, Vec, Global, Bor, map, length, get_or, take, refl, sym, ap, ap₂, subst, ◌∙◌, if◌then◌else◌}
use Rattle.std.proofs.lemmas.Bool.{lt-ltb, le-ltb}
use Rattle.std.proofs.lemmas.List.{take_more, map-append}
use Rattle.std.specs.Option.{IfSome}
use Rattle.std.specs.Simd.Lanes.{zip2}
use Rattle.forec_base.specs.declared.limits.TheConstants.{MAX_TEXT_BYTES}
use Rattle.forec_kernel.specs.Shapes.{PlainKernel}
use Rattle.trace_farm.specs.Farm.{NumberedReport, with_number}
use Rattle.trace_ticks.specs.KernelNames.{run_format}
use Rattle.trace_ticks.specs.Report.{Report, trace_report}
use Rattle.trace_ticks.specs.declared.format.Telling.TheVariants as telling
use Rattle.trace_ticks.proofs.Printing.{told_is}
use Rattle.forec_engine.specs.Farms.{too_long, farmed, AreTextsOf}
use Rattle.forec_engine.specs.Farming.{IsReadOf, AreRead, told_as, picked, reports_of}
use Rattle.forec_engine.specs.declared.farm_traces.TheConstants.{FARM_ROWS}
use Rattle.forec_engine.proofs.FarmPieces.{within_map, piece_at}

-- one trace more was read
pub read_more : (content : List ℕ → Option (List ℕ)) (names : List (List ℕ)) (longs : List Bool) (bytes : List (List ℕ)) (name : List ℕ) (long : Bool) (more : List ℕ) →
    AreRead content names longs bytes → IfSome (content name) (λ text. IsReadOf text long more) →
    AreRead content (names ++ name ∷ []) (longs ++ long ∷ []) (bytes ++ more ∷ [])
read_more content [] [] [] name long more h r = (r, tt)
read_more content [] [] (b ∷ bs) name long more h r = absurd h
read_more content [] (l ∷ ls) bs name long more h r = absurd h
read_more content (n ∷ ns) [] bs name long more h r = absurd h
read_more content (n ∷ ns) (l ∷ ls) [] name long more h r = absurd h
read_more content (n ∷ ns) (l ∷ ls) (b ∷ bs) name long more h r = (h.0, read_more content ns ls bs name long more h.1 r)

-- the same where the lists of a loop grow
pub read_named : (content : List ℕ → Option (List ℕ)) (names : List (Bor (List ℕ))) (i : ℕ) (d : Bor (List ℕ)) → i < length names →
    (longs longer : List Bool) (long : Bool) (bytes more : List (Vec ℕ Global)) (one : Vec ℕ Global) →
    longer ≡ longs ++ long ∷ [] → more ≡ bytes ++ one ∷ [] → AreRead content (take i (map (λ n. n.now) names)) longs (map (λ v. v.items) bytes) →
    IfSome (content (get_or names i d).now) (λ text. IsReadOf text long one.items) →
    AreRead content (take (i + 1) (map (λ n. n.now) names)) longer (map (λ v. v.items) more)
read_named content names i d lt longs longer long bytes more one l m h r =
    let names' : take (i + 1) (map (λ n. n.now) names) ≡ take i (map (λ n. n.now) names) ++ (get_or names i d).now ∷ [] =
    take_more (map (λ n. n.now) names) i [] (within_map (λ n. n.now) names i lt) ∙ ap (λ x. take i (map (λ n. n.now) names) ++ x ∷ []) (piece_at names i d lt) in
    let bytes' : map (λ v. v.items) more ≡ map (λ v. v.items) bytes ++ one.items ∷ [] = ap (map (λ v. v.items)) m ∙ map-append (λ v. v.items) bytes (one ∷ []) in
    subst (λ ns. AreRead content ns longer (map (λ v. v.items) more)) (sym names')
    (subst (λ ls. AreRead content (take i (map (λ n. n.now) names) ++ (get_or names i d).now ∷ []) ls (map (λ v. v.items) more)) (sym l)
    (subst (λ bs. AreRead content (take i (map (λ n. n.now) names) ++ (get_or names i d).now ∷ []) (longs ++ long ∷ []) bs) (sym bytes')
    (read_more content (take i (map (λ n. n.now) names)) longs (map (λ v. v.items) bytes) (get_or names i d).now long one.items h r)))

-- a trace that is short enough
pub read_short : (o : Option (List ℕ)) (bytes kept : List ℕ) → kept ≡ bytes → length bytes ≤ MAX_TEXT_BYTES → IfSome o (λ c. bytes ≡ c) → IfSome o (λ text. IsReadOf text false kept)
read_short None bytes kept same few h = tt
read_short (Some text) bytes kept same few h =
    record { long_is = sym (le-ltb MAX_TEXT_BYTES (length text) (subst (λ (x : List ℕ). length x ≤ MAX_TEXT_BYTES) h few)); bytes_are = same ∙ h }

-- and one that isn't
pub read_long : (o : Option (List ℕ)) (kept : List ℕ) → kept ≡ [] → IfSome o (λ c. MAX_TEXT_BYTES < length c) → IfSome o (λ text. IsReadOf text true kept)
read_long None kept none h = tt
read_long (Some text) kept none h = record { long_is = sym (lt-ltb MAX_TEXT_BYTES (length text) h); bytes_are = none }

-- ---- reports

module _ (k : PlainKernel) (units : ℕ) where
  abbrev run_of : List ℕ → Report
  run_of text = trace_report FARM_ROWS (run_format telling.Report k) k units text

  picked_is : (text : List ℕ) (long : Bool) (bytes : List ℕ) → IsReadOf text long bytes → picked k units long bytes ≡ farmed k units text
  picked_is text true bytes h = ap (λ (x : Bool). if x then too_long else run_of text) h.long_is
  picked_is text false bytes h = ap run_of h.bytes_are ∙ ap (λ (x : Bool). if x then too_long else run_of text) h.long_is

  -- each trace is told as its text says
  pub reports_are : (content : List ℕ → Option (List ℕ)) (names : List (List ℕ)) (longs : List Bool) (bytes texts : List (List ℕ)) → AreRead content names longs bytes → AreTextsOf content names texts →
      reports_of k units longs bytes ≡ map (farmed k units) texts
  reports_are content [] [] [] [] h e = refl
  reports_are content [] [] [] (t ∷ ts) h e = absurd (let bad : [] ≡ Some t ∷ map Some ts = e in cc)
  reports_are content [] [] (b ∷ bs) texts h e = absurd h
  reports_are content [] (l ∷ ls) bs texts h e = absurd h
  reports_are content (n ∷ ns) [] bs texts h e = absurd h
  reports_are content (n ∷ ns) (l ∷ ls) [] texts h e = absurd h
  reports_are content (n ∷ ns) (l ∷ ls) (b ∷ bs) [] h e = absurd (let bad : content n ∷ map content ns ≡ [] = e in cc)
  reports_are content (n ∷ ns) (l ∷ ls) (b ∷ bs) (t ∷ ts) h e =
      let both : content n ∷ map content ns ≡ Some t ∷ map Some ts = e in
      let first : content n ≡ Some t = cc in
      let rest : map content ns ≡ map Some ts = cc in
      ap₂ ◌∷◌ (picked_is t l b (told_is (content n) (λ text. IsReadOf text l b) t h.0 first)) (reports_are content ns ls bs ts h.1 rest)

  -- what is told of the reports of a farm
  pub told_are : (longs : List Bool) (bytes : List (List ℕ)) → zip2 told_as longs (map (λ text. with_number (run_of text)) bytes) ≡ map with_number (reports_of k units longs bytes)
  told_are [] bytes = refl
  told_are (l ∷ ls) [] = refl
  told_are (true ∷ ls) (b ∷ bs) = ap (λ (rest : List NumberedReport). with_number too_long ∷ rest) (told_are ls bs)
  told_are (false ∷ ls) (b ∷ bs) = ap (λ (rest : List NumberedReport). with_number (run_of b) ∷ rest) (told_are ls bs)
