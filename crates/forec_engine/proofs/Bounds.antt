-- What words ask for is within its ranges.
use Rattle.std.proofs.Common.{◌≡◌, ◌≤◌, ℕ, nat_le, cond, if◌then◌else◌, ◌&&◌, ◌||◌, is_some, Bool, true, false, Option, None, Some, option_map, option_and_then, List, [], ◌∷◌, length, nat_eq, refl, subst, arith}
use Rattle.std.specs.Prelude.{codes}
use Rattle.std.proofs.lemmas.Bool.{leb-true}
use Rattle.forec_base.specs.declared.limits.TheConstants.{MAX_CORES, MAX_BUDGET}
use Rattle.command_words.specs.CommandLine.{PlainValues, is_word, kinds_of, command_values}
use Rattle.command_words.specs.Numbers.{between, written_number, number_in, number_or}
use Rattle.command_words.specs.Requests.{PlainPlacing, PlainRunning, PlainCommand, Run, Wave, Check, Threads, Code, Explain, PlainRequest, OnText, OnWorkload, OnDump, OnLog, OnReplay, placing_of, budget_of, budget_or, order_number, running_of, explaining_of, placing_alone_of, has_no_options, is_bare, waving_of, logging_of, replaying_of, command_of, workload_of, dump_of, text_request_of, has_budget_alone, has_traces, traces_of, request_alone, request_named, request_by, unless_refused, request_of, OnTraces}
use Rattle.command_words.specs.declared.request.Budget.{Budget}
use Rattle.command_words.specs.declared.request.Budget.TheVariants as budget
use Rattle.command_words.specs.declared.request.TheConstants.{DEFAULT_BUDGET, MAX_WORKLOAD}
use Rattle.forec_engine.specs.Budgets.{IsSmallBudget}
use Rattle.forec_engine.specs.Commands.{IsPlaceable, IsRunnable, IsInRange, HasRanges}

map_some : {A B : Type 0} (f : A → B) (o : Option A) (b : B) → option_map f o ≡ Some b → (x : A) × (o ≡ Some x) × (f x ≡ b)
map_some f None b e = absurd (let h : None ≡ Some b = e in cc)
map_some f (Some x) b e = (x, refl, (let h : Some (f x) ≡ Some b = e in cc))

then_some : {A B : Type 0} (f : A → Option B) (o : Option A) (b : B) → option_and_then f o ≡ Some b → (x : A) × (o ≡ Some x) × (f x ≡ Some b)
then_some f None b e = absurd (let h : None ≡ Some b = e in cc)
then_some f (Some x) b e = (x, refl, e)

unless : {A : Type 0} (b : Bool) (o : Option A) (x : A) → cond b None o ≡ Some x → o ≡ Some x
unless true o x e = absurd (let h : None ≡ Some x = e in cc)
unless false o x e = e

-- ---- numbers

within : (least most n m : ℕ) (a b : Bool) → nat_le least n ≡ a → nat_le n most ≡ b → cond (a && b) (Some n) None ≡ Some m → (least ≤ m) × (m ≤ most)
within least most n m true true e f h =
    let is : n ≡ m = (let g : Some n ≡ Some m = h in cc) in
    (subst (λ x. least ≤ x) is (leb-true _ _ e), subst (λ x. x ≤ most) is (leb-true _ _ f))
within least most n m true false e f h = absurd (let g : None ≡ Some m = h in cc)
within least most n m false b e f h = absurd (let g : None ≡ Some m = h in cc)

in_range : (least most m : ℕ) (o : Option ℕ) → between least most o ≡ Some m → (least ≤ m) × (m ≤ most)
in_range least most m None e = absurd (let h : None ≡ Some m = e in cc)
in_range least most m (Some n) e = within least most n m (nat_le least n) (nat_le n most) refl refl e

or_usual : (usual most m : ℕ) (word : Option (List ℕ)) → 1 ≤ usual → usual ≤ most → number_or usual 1 most word ≡ Some m → (1 ≤ m) × (m ≤ most)
or_usual usual most m None some few e = let is : usual ≡ m = (let h : Some usual ≡ Some m = e in cc) in (subst (λ x. 1 ≤ x) is some, subst (λ x. x ≤ most) is few)
or_usual usual most m (Some word) some few e = in_range 1 most m (written_number word) e

-- ---- budgets

small_units : (o : Option ℕ) (b : Budget) → option_map budget.Units o ≡ Some b → ((m : ℕ) → o ≡ Some m → m ≤ MAX_BUDGET) → IsSmallBudget b
small_units o b e few = let m = map_some budget.Units o b e in subst IsSmallBudget m.2 (few m.0 m.1)

small_word : (word : List ℕ) (b : Budget) (bound : Bool) → (if bound then Some budget.Bound else option_map budget.Units (number_in 1 MAX_BUDGET word)) ≡ Some b → IsSmallBudget b
small_word word b true e = let is : budget.Bound ≡ b = (let g : Some budget.Bound ≡ Some b = e in cc) in subst IsSmallBudget is tt
small_word word b false e = small_units (number_in 1 MAX_BUDGET word) b e (λ m f. (in_range 1 MAX_BUDGET m (written_number word) f).1)

small : (word : Option (List ℕ)) (b : Budget) → budget_or word ≡ Some b → IsSmallBudget b
small None b e = let is : budget.Units DEFAULT_BUDGET ≡ b = (let g : Some (budget.Units DEFAULT_BUDGET) ≡ Some b = e in cc) in subst IsSmallBudget is (let few : DEFAULT_BUDGET ≤ MAX_BUDGET = omega arith in few)
small (Some word) b e = small_word word b (is_word word (codes "bound")) e

-- ---- commands

placeable : (v : PlainValues) (p : PlainPlacing) → placing_of v ≡ Some p → IsPlaceable p
placeable v p e =
    let m = map_some _ (number_or 1 1 MAX_CORES v.cores) p e in
    let n = or_usual 1 MAX_CORES m.0 v.cores (omega arith) (omega arith) m.1 in
    subst IsPlaceable m.2 (record { some = n.0; few = n.1 })

runnable : (v : PlainValues) (r : PlainRunning) → running_of v ≡ Some r → IsRunnable r
runnable v r e =
    let t = then_some _ (placing_of v) r (unless (is_some v.order) _ r e) in
    let m = map_some _ (budget_of v) r t.2 in
    subst IsRunnable m.2 (record { placeable = placeable v t.0 t.1; small = small v.budget m.0 m.1 })

module _ (v : PlainValues) (c : PlainCommand) where
  runs : option_map Run (running_of v) ≡ Some c → IsInRange c
  runs e = let m = map_some Run (running_of v) c e in subst IsInRange m.2 (runnable v m.0 m.1)

  explains : explaining_of v ≡ Some c → IsInRange c
  explains e =
      let t = then_some _ (budget_of v) c (unless (is_some v.cores || is_some v.place) _ c e) in
      let m = map_some (Explain t.0) (order_number v) c t.2 in
      subst IsInRange m.2 (small v.budget t.0 t.1)

  lists : option_map Threads (placing_alone_of v) ≡ Some c → IsInRange c
  lists e =
      let m = map_some Threads (placing_alone_of v) c e in
      subst IsInRange m.2 (placeable v m.0 (unless (is_some v.budget || is_some v.order) (placing_of v) m.0 m.1))

  waves : waving_of v ≡ Some c → IsInRange c
  waves e = let m = map_some Wave (running_of v) c (unless v.fold (option_map Wave (running_of v)) c e) in subst IsInRange m.2 (runnable v m.0 m.1)

  alone : (b : Bool) (d : PlainCommand) → IsInRange d → cond b (Some d) None ≡ Some c → IsInRange c
  alone true d h e = subst IsInRange (let g : Some d ≡ Some c = e in cc) h
  alone false d h e = absurd (let g : None ≡ Some c = e in cc)

  by_words : (run threads explain wave check code : Bool) →
      (if run then option_map Run (running_of v)
      else (if threads then option_map Threads (placing_alone_of v)
      else (if explain then explaining_of v
      else (if wave then waving_of v
      else (if check then cond (is_bare v) (Some Check) None
      else (if code then cond (has_no_options v) (Some Code) None
      else None)))))) ≡ Some c → IsInRange c
  by_words true threads explain wave check code e = runs e
  by_words false true explain wave check code e = lists e
  by_words false false true wave check code e = explains e
  by_words false false false true check code e = waves e
  by_words false false false false true code e = alone (is_bare v) Check tt e
  by_words false false false false false true e = alone (has_no_options v) Code tt e
  by_words false false false false false false e = absurd (let g : None ≡ Some c = e in cc)

module _ (v : PlainValues) (r : PlainRequest) where
  workload : (number : List ℕ) → workload_of number v ≡ Some r → HasRanges r
  workload number e =
      let t = then_some _ (number_in 1 MAX_WORKLOAD number) r (unless v.fold _ r e) in
      let m = map_some (OnWorkload t.0) (running_of v) r t.2 in
      subst HasRanges m.2 ((in_range 1 MAX_WORKLOAD t.0 (written_number number) t.1).1, runnable v m.0 m.1)

  text : (name program : List ℕ) → text_request_of name program v ≡ Some r → HasRanges r
  text name program e =
      let m = map_some (λ c. OnText program c v.fold) (command_of name v) r e in
      subst HasRanges m.2 (by_words v m.0 (is_word name (codes "run")) (is_word name (codes "threads")) (is_word name (codes "explain")) (is_word name (codes "wave")) (is_word name (codes "check")) (is_word name (codes "code")) m.1)

  dump : (name : List ℕ) (bare : Bool) → cond bare (Some (OnDump name)) None ≡ Some r → HasRanges r
  dump name true e =
      let is : OnDump name ≡ r = (let g : Some (OnDump name) ≡ Some r = e in cc) in
      let in_range : HasRanges (OnDump name) = tt in
      subst HasRanges is in_range
  dump name false e = absurd (let g : None ≡ Some r = e in cc)

  logging : (program : List ℕ) → logging_of program v ≡ Some r → HasRanges r
  logging program e = let m = map_some (OnLog program) (running_of v) r (unless v.fold (option_map (OnLog program) (running_of v)) r e) in subst HasRanges m.2 (runnable v m.0 m.1)

  alone_by : (name program : List ℕ) (gen unwave log : Bool) →
      (if gen then workload_of program v else (if unwave then dump_of program v else (if log then logging_of program v else text_request_of name program v))) ≡ Some r → HasRanges r
  alone_by name program true unwave log e = workload program e
  alone_by name program false true log e = dump program (is_bare v) e
  alone_by name program false false true e = logging program e
  alone_by name program false false false e = text name program e

  farmed : (program : List ℕ) (fits : Bool) → cond fits (option_map (OnTraces program v.more) (budget_of v)) None ≡ Some r → HasRanges r
  farmed program true e = let m = map_some (OnTraces program v.more) (budget_of v) r e in subst HasRanges m.2 (small v.budget m.0 m.1)
  farmed program false e = absurd (let g : None ≡ Some r = e in cc)

  replayed : (program log : List ℕ) (fits : Bool) → cond fits (option_map (OnReplay program log) (budget_of v)) None ≡ Some r → HasRanges r
  replayed program log true e = let m = map_some (OnReplay program log) (budget_of v) r e in subst HasRanges m.2 (small v.budget m.0 m.1)
  replayed program log false e = absurd (let g : None ≡ Some r = e in cc)

  replaying : (program : List ℕ) (more : List (List ℕ)) → replaying_of program more v ≡ Some r → HasRanges r
  replaying program [] e = absurd (let g : None ≡ Some r = e in cc)
  replaying program (log ∷ []) e = replayed program log (has_budget_alone v) e
  replaying program (log ∷ other ∷ more) e = absurd (let g : None ≡ Some r = e in cc)

  by_name : (name program : List ℕ) (farm replay none : Bool) →
      (if farm then traces_of program v else (if replay then replaying_of program v.more v else (if none then request_alone name program v else None))) ≡ Some r → HasRanges r
  by_name name program true replay none e = farmed program (has_budget_alone v && has_traces v) e
  by_name name program false true none e = replaying program v.more e
  by_name name program false false true e = alone_by name program (is_word name (codes "gen")) (is_word name (codes "unwave")) (is_word name (codes "log")) e
  by_name name program false false false e = absurd (let g : None ≡ Some r = e in cc)

  by_values : request_by v ≡ Some r → HasRanges r
  by_values e =
      let n = then_some _ v.command r e in
      let p = then_some (λ program. request_named n.0 program v) v.program r n.2 in
      by_name n.0 p.0 (is_word n.0 (codes "farm")) (is_word n.0 (codes "replay")) (nat_eq (length v.more) 0) p.2

  by_kinds : (kinds : List _) → unless_refused kinds (request_by v) ≡ Some r → HasRanges r
  by_kinds [] e = by_values e
  by_kinds (kind ∷ kinds) e = absurd (let g : None ≡ Some r = e in cc)

-- what the words ask for
pub ranges : (words : List (List ℕ)) (r : PlainRequest) → request_of words ≡ Some r → HasRanges r
unfolding request_of
ranges words r e = by_kinds (command_values words) r (kinds_of words) e
