-- Bytes that are written piece by piece.
use Rattle.std.proofs.Common.{◌≡◌, ◌<◌, ◌≤◌, ◌+◌, ℕ, zero, suc, Bool, false, List, [], ◌∷◌, ◌++◌, Option, map, length, get_or, take, drop, sym, ap, ap₂, subst, ◌∙◌, arith, append-nil, take-append-drop, Bor, All, Contains}
use Rattle.std.specs.List.{concat}
use Rattle.std.specs.Simd.Lanes.{zip2}
use Rattle.std.specs.Io.KnownBytes.{Appends}
use Rattle.std.proofs.lemmas.List.{take_more, get_or-map, length-map, length-append}
use Rattle.std.proofs.lemmas.List.Folds.{concat-append}
use Rattle.std.proofs.lemmas.List.Elements.{Contains-get_or}
use Rattle.std.proofs.lemmas.Simd.{get_or-zip2, length-zip2}
use Rattle.forec_base.specs.Outside.{Fell}
use Rattle.trace_farm.specs.Farm.{NumberedReport, plain_report}
use Rattle.trace_farm.specs.declared.farm_report.FarmReport.{FarmReport}
use Rattle.whole_writes.specs.Calls.{AppendsFront}
use Rattle.whole_writes.proofs.Appending.{appends_both, front_longer, front_behind}
use Rattle.forec_engine.specs.Farms.{trace_group}
use Rattle.forec_engine.specs.Farming.{told_as, told_all}

-- a fault of a later call is one of all calls
pub fell_later : (before now then : ℕ) (is_down : Bool) → before ≤ now → Fell now then is_down → Fell before then is_down
fell_later before now then is_down later f = record { rose = omega (arith, later, f.rose); down = f.down }

-- ---- one piece more

module _ (a b c : Option (List ℕ)) (xs : List (List ℕ)) (i : ℕ) (x : List ℕ) (within : i < length xs) (is : get_or xs i [] ≡ x) where
  up_to_here : concat (take (i + 1) xs) ≡ concat (take i xs) ++ x
  up_to_here =
      ap concat (take_more xs i [] within) ∙ concat-append (take i xs) (get_or xs i [] ∷ [])
      ∙ ap (λ w. concat (take i xs) ++ w) (append-nil (get_or xs i []) ∙ is)

  pub piece_more : Appends a b (concat (take i xs)) → Appends b c x → Appends a c (concat (take (i + 1) xs))
  piece_more done more = subst (Appends a c) (sym up_to_here) (appends_both a b c (concat (take i xs)) x done more)

  -- a front of it was written
  pub piece_front : Appends a b (concat (take i xs)) → AppendsFront b c x → AppendsFront a c (concat xs)
  piece_front done front =
      let here = subst (AppendsFront a c) (sym up_to_here) (front_behind a b c (concat (take i xs)) x done front) in
      let whole = sym (concat-append (take (i + 1) xs) (drop (i + 1) xs)) ∙ ap concat (take-append-drop (i + 1) xs) in
      subst (AppendsFront a c) whole (front_longer a c (concat (take (i + 1) xs)) (concat (drop (i + 1) xs)) here)

-- ---- items

pub within_map : {A B : Type 0} (f : A → B) (xs : List A) (i : ℕ) → i < length xs → i < length (map f xs)
within_map f xs i lt = omega (arith, lt, length-map xs f)

pub piece_at : (pieces : List (Bor (List ℕ))) (i : ℕ) (d : Bor (List ℕ)) → i < length pieces → get_or (map (λ p. p.now) pieces) i [] ≡ (get_or pieces i d).now
piece_at pieces i d lt = get_or-map (λ p. p.now) pieces i d [] lt

-- ---- as many are told as were run

module _ (reports : List FarmReport) (long : List Bool) (same : length long ≡ length reports) where
  told_length : length (told_all long (map plain_report reports)) ≡ length reports
  told_length = length-zip2 told_as long (map plain_report reports) (same ∙ sym (length-map reports plain_report)) ∙ same

  pub numbers_length : length (map (λ (t : NumberedReport). t.status) (told_all long (map plain_report reports))) ≡ length reports
  numbers_length = length-map (told_all long (map plain_report reports)) (λ (t : NumberedReport). t.status) ∙ told_length

  pub groups_length : (names : List (Bor (List ℕ))) → length reports ≡ length names →
      length (zip2 trace_group (map (λ n. n.now) names) (told_all long (map plain_report reports))) ≡ length names
  groups_length names many =
      length-zip2 trace_group (map (λ n. n.now) names) (told_all long (map plain_report reports)) (length-map names (λ n. n.now) ∙ sym many ∙ sym told_length) ∙ length-map names (λ n. n.now)

-- ---- what is told of one trace

module _ (reports : List FarmReport) (long : List Bool) (same : length long ≡ length reports) (i : ℕ) (within : i < length reports) (r : FarmReport) (told : NumberedReport)
    (report_is : r ≡ get_or reports i r) (told_is : told ≡ told_as (get_or long i false) (plain_report r)) where
  told_within : i < length (told_all long (map plain_report reports))
  told_within = omega (arith, within, told_length reports long same)

  told_at : (d : NumberedReport) → get_or (told_all long (map plain_report reports)) i d ≡ told
  told_at d =
      get_or-zip2 told_as long (map plain_report reports) i false (plain_report r) d (omega (arith, within, same)) (within_map plain_report reports i within)
      ∙ ap (told_as (get_or long i false)) (get_or-map plain_report reports i r (plain_report r) within ∙ ap plain_report (sym report_is)) ∙ sym told_is

  -- the number of its status
  number_at : get_or (map (λ (t : NumberedReport). t.status) (told_all long (map plain_report reports))) i 0 ≡ told.status
  number_at = get_or-map (λ (t : NumberedReport). t.status) (told_all long (map plain_report reports)) i told 0 told_within ∙ ap (λ (t : NumberedReport). t.status) (told_at told)

  pub number_more : take (i + 1) (map (λ (t : NumberedReport). t.status) (told_all long (map plain_report reports)))
      ≡ take i (map (λ (t : NumberedReport). t.status) (told_all long (map plain_report reports))) ++ told.status ∷ []
  number_more =
      let ns = map (λ (t : NumberedReport). t.status) (told_all long (map plain_report reports)) in
      take_more ns i 0 (within_map (λ (t : NumberedReport). t.status) (told_all long (map plain_report reports)) i told_within) ∙ ap (λ n. take i ns ++ n ∷ []) number_at

  -- its lines
  module _ (names : List (Bor (List ℕ))) (d : Bor (List ℕ)) (many : length reports ≡ length names) where
    abbrev Groups : List (List ℕ)
    Groups = zip2 trace_group (map (λ n. n.now) names) (told_all long (map plain_report reports))

    group_within : i < length Groups
    group_within = omega (arith, within, many, groups_length reports long same names many)

    group_at : get_or Groups i [] ≡ trace_group (get_or names i d).now told
    group_at =
        get_or-zip2 trace_group (map (λ n. n.now) names) (told_all long (map plain_report reports)) i [] told [] (within_map (λ n. n.now) names i (omega (arith, within, many))) told_within
        ∙ ap₂ trace_group (piece_at names i d (omega (arith, within, many))) (told_at told)

    module _ (a b c : Option (List ℕ)) where
      pub group_more : Appends a b (concat (take i Groups)) → Appends b c (trace_group (get_or names i d).now told) → Appends a c (concat (take (i + 1) Groups))
      group_more = piece_more a b c Groups i (trace_group (get_or names i d).now told) group_within group_at

      pub group_front : Appends a b (concat (take i Groups)) → AppendsFront b c (trace_group (get_or names i d).now told) → AppendsFront a c (concat Groups)
      group_front = piece_front a b c Groups i (trace_group (get_or names i d).now told) group_within group_at

-- ---- names

-- what holds of each name
pub each_name : (P : List ℕ → Type 0) (names : List (Bor (List ℕ))) → All P (map (λ n. n.now) names) → All (λ n. P n.now) names
each_name P names h = λ k d lt. subst P (get_or-map (λ n. n.now) names k d d.now lt) (h k d.now (within_map (λ n. n.now) names k lt))

-- the first of some names is one of them, and so is each later one
pub named_first : (name : List ℕ) (names : List (List ℕ)) → Contains (name ∷ names) name
named_first name names = Contains-get_or (name ∷ names) zero name (omega arith)

pub named_later : (name : List ℕ) (names : List (List ℕ)) (k : ℕ) (d : List ℕ) → k < length names → Contains (name ∷ names) (get_or names k d)
named_later name names k d lt = Contains-get_or (name ∷ names) (suc k) d (omega (arith, lt))

-- a list with one item more
pub pushed : {A : Type 0} (xs ys : List A) (x : A) (n : ℕ) → ys ≡ xs ++ x ∷ [] → length xs ≡ n → length ys ≡ n + 1
pushed xs ys x n e h = ap length e ∙ length-append xs (x ∷ []) ∙ ap (λ m. m + 1) h
