-- One copy of a branch is combined with those before it.
use Rattle.std.proofs.Common.{◌≡◌, ◌≢◌, ℕ, zero, suc, ◌+◌, ◌<◌, ◌≤◌, ◌==◌, List, [], ◌∷◌, length, get_or, Option, Some, None, Bool, true, false, cond, refl, sym, ap, ◌∙◌, subst, ⊎_elim, inl, inr, arith, length-set, get_or-set_same, get_or-set_other}
use Rattle.std.specs.Prelude.{ℤ, slice_set, slice_get, IsTrue, ◌||◌, ◌⊎◌, option_map}
use Rattle.std.proofs.lemmas.List.{set-get_or}
use Rattle.forec_base.specs.declared.Policy.TheVariants as policy
use Rattle.forec_kernel.specs.declared.shape.VarCopy.{VarCopy}
use Rattle.forec_kernel.specs.declared.shape.Variable.{Variable}
use Rattle.forec_kernel.specs.Engine.{run_for}
use Rattle.forec_kernel.specs.Values.{copy_of}
use Rattle.forec_kernel.specs.Combining.{contains, takes_part, variable_of}
use Rattle.thread_code.specs.Plain.{PlainCode}
use Rattle.thread_code.specs.Valid.{of_shape}
use Rattle.thread_code.specs.Machine.{Point, Frame, Folding as Folds_to, BranchCopy, Total, Merge, Merges, no_total, total_of, put_total, totalled, noted, folded as folded_in, offered as offered_in, entered, returned, step, code_uses}
use Rattle.thread_code.specs.Alone.{block_of}
use Rattle.combine_tree.specs.declared.joining.Fold.{Fold}
use Rattle.combine_tree.specs.Joins.{begun, fold_at, pair_of, with_value, with_mark, offered_copy, fold_value}
use Rattle.thread_state.specs.Kept.{own_of, place_of, place_in, no_copy}
use Rattle.thread_steps.specs.BlockRun.{point_of}
use Rattle.core_machine.specs.declared.branches.Verdict.{Verdict}
use Rattle.core_machine.specs.declared.branches.Verdict.TheVariants as verdict
use Rattle.core_machine.specs.declared.thread.Thread.{Thread}
use Rattle.core_machine.specs.declared.thread.Phase.TheVariants as phase
use Rattle.core_machine.specs.Held.{work_of, IsNarrow, HoldsInPhase, Joins, JoinsByVerdict, Combines, FoldsFit, some_use, total_in, totals_in}
use Rattle.core_machine.specs.Threads.{Loaded, Exceeds}
use Rattle.core_machine.specs.Merging.{merging_with, calling_machine, with_units, GoesOnJoining, FoldFailsByVerdict, FoldFails, Valued, ComesByVerdict, Combined}
use Rattle.thread_steps.proofs.Advance.{run_add}
use Rattle.thread_state.proofs.Indexed.{equal_of, differs_of, place_within, found_at}
use Rattle.core_machine.proofs.Seeds.{place_is}
use Rattle.thread_steps.proofs.Steps.{copy_at}
use Rattle.core_machine.proofs.Reloading.{loaded_as, works_as}

pub same_or_not : (a b : ℕ) → (a ≡ b) ⊎ (b ≢ a)
same_or_not a b = by (a == b) refl
  where
    by : (t : Bool) → (a == b) ≡ t → (a ≡ b) ⊎ (b ≢ a)
    by true e = inl (equal_of a b e)
    by false e = inr (differs_of a b e)

some_same : {A : Type 0} → (x y : A) → Some x ≡ Some y → x ≡ y
some_same x y e = cc

-- ---- totals and folds

module _ (c : PlainCode) (bs : List ℕ) (v : ℕ) (some : some_use c bs v ≡ true) where
  pub total_at : (uses : List ℕ) (folds : List Fold) → IsTrue (contains v uses) → length folds ≡ length uses → total_of uses (totals_in c bs uses folds) v ≡ total_in (fold_at folds (place_of uses v))
  total_at [] folds h e = cc
  total_at (u ∷ uses) [] h e = absurd (omega (arith, e))
  total_at (u ∷ uses) (f ∷ folds) h e = by_test (u == v) refl h (λ h. total_at uses folds h (omega (arith, e)))
    where
      by_test : (t : Bool) → (u == v) ≡ t → IsTrue (cond t true (contains v uses)) → (IsTrue (contains v uses) → total_of uses (totals_in c bs uses folds) v ≡ total_in (fold_at folds (place_of uses v))) →
          cond t (cond (some_use c bs u) (total_in f) no_total) (total_of uses (totals_in c bs uses folds) v) ≡ total_in (fold_at (f ∷ folds) (cond t 0 (suc (place_of uses v))))
      by_test true k h more = let q : some_use c bs u ≡ true = ap (some_use c bs) (equal_of u v k) ∙ some in ap (λ b. cond b (total_in f) no_total) q
      by_test false k h more = more h

  pub put_total_at : (uses : List ℕ) (folds : List Fold) (f' : Fold) → IsTrue (contains v uses) → length folds ≡ length uses → put_total uses (totals_in c bs uses folds) v (total_in f') ≡ totals_in c bs uses (slice_set folds (place_of uses v) f')
  put_total_at [] folds f' h e = cc
  put_total_at (u ∷ uses) [] f' h e = absurd (omega (arith, e))
  put_total_at (u ∷ uses) (f ∷ folds) f' h e = by_test (u == v) refl h (λ h. put_total_at uses folds f' h (omega (arith, e)))
    where
      by_test : (t : Bool) → (u == v) ≡ t → IsTrue (cond t true (contains v uses)) → (IsTrue (contains v uses) → put_total uses (totals_in c bs uses folds) v (total_in f') ≡ totals_in c bs uses (slice_set folds (place_of uses v) f')) →
          cond t (total_in f' ∷ totals_in c bs uses folds) (cond (some_use c bs u) (total_in f) no_total ∷ put_total uses (totals_in c bs uses folds) v (total_in f')) ≡ totals_in c bs (u ∷ uses) (slice_set (f ∷ folds) (cond t 0 (suc (place_of uses v))) f')
      by_test true k h more = let q : true ≡ some_use c bs u = sym (ap (some_use c bs) (equal_of u v k) ∙ some) in ap (λ b. cond b (total_in f') no_total ∷ totals_in c bs uses folds) q
      by_test false k h more = ap (λ l. cond (some_use c bs u) (total_in f) no_total ∷ l) (more h)

set_twice : {A : Type 0} → (xs : List A) (i : ℕ) (a b : A) → slice_set (slice_set xs i a) i b ≡ slice_set xs i b
set_twice [] i a b = refl
set_twice (x ∷ xs) zero a b = refl
set_twice (x ∷ xs) (suc i) a b = ap (λ l. x ∷ l) (set_twice xs i a b)

-- ---- an offer

module _ (c : PlainCode) (h : Thread) (l : Loaded c h) (joining : h.phase ≡ phase.Joining) (going : h.branches.verdict ≡ verdict.Combine) (v : ℕ) (copy : VarCopy) (used : IsTrue (contains v (code_uses c h.number))) (some : some_use c h.branches.numbers v ≡ true) where
  abbrev uses : List ℕ
  uses = code_uses c h.number

  abbrev p : ℕ
  p = place_of uses v

  abbrev F : Fold
  F = fold_at h.joining p

  abbrev x : Variable
  x = variable_of (of_shape c.shape) v

  pub joins : Joins c l.needs h
  joins = subst (HoldsInPhase c l.needs h) joining l.placed

  pub state : Combines c l.needs h
  state = subst (JoinsByVerdict c l.needs h) going joins.state

  fit : FoldsFit c h v
  fit = state.folds v some

  pub within : p < length h.joining
  within = omega (arith, place_within uses v used, l.folds)

  pub at_place : place_in h.own v ≡ p
  at_place = place_is c h.number h.own l.serves v used

  pub free : F.waits ≡ false
  free = fit.free

  base_is : F.base.value ≡ (copy_of uses h.own.copies v).value
  base_is = ap (λ (x : VarCopy). x.value) (fit.base ∙ sym (copy_at uses h.own.copies v used l.serves.copies))

  -- ---- the thread, with another fold there

  abbrev after : ℕ → Fold → Thread
  after u f = record { number = h.number; phase = h.phase; function = h.function; at = h.at; stack = h.stack; own = h.own; units = u; allowance = h.allowance; branches = h.branches; joining = slice_set h.joining p f }

  fit_after : (u : ℕ) (f : Fold) → f.base ≡ F.base → f.waits ≡ false → (w : ℕ) → some_use c h.branches.numbers w ≡ true → FoldsFit c (after u f) w
  fit_after u f b q w s =
      let old = state.folds w s in
      ⊎_elim
      (λ same.
      let e : fold_at (slice_set h.joining p f) (place_of uses w) ≡ f = ap (fold_at (slice_set h.joining p f)) (sym same) ∙ get_or-set_same h.joining p f _ within in
      let k : F.base ≡ get_or h.own.copies (place_of uses w) no_copy = fit.base ∙ ap (λ i. get_or h.own.copies i no_copy) same in
      record { base = ap (λ (f : Fold). f.base) e ∙ b ∙ k; free = ap (λ (f : Fold). f.waits) e ∙ q })
      (λ other.
      let e : fold_at (slice_set h.joining p f) (place_of uses w) ≡ fold_at h.joining (place_of uses w) = get_or-set_other h.joining p (place_of uses w) f _ other in
      record { base = ap (λ (f : Fold). f.base) e ∙ old.base; free = ap (λ (f : Fold). f.waits) e ∙ old.free })
      (same_or_not p (place_of uses w))

  rest_after : (u : ℕ) (f : Fold) → IsNarrow h.own h.branches.numbers → (i : ℕ) → i < length (slice_set h.joining p f) → some_use c h.branches.numbers (get_or uses i 0) ≡ false →
      fold_at (slice_set h.joining p f) i ≡ begun (get_or h.own.copies i no_copy)
  rest_after u f narrow i lt none =
      get_or-set_other h.joining p i f _ (λ e.
      let q = ap (λ j. some_use c h.branches.numbers (get_or uses j 0)) e ∙ ap (some_use c h.branches.numbers) (found_at uses v used) ∙ some in
      let y = sym none ∙ q in cc)
      ∙ state.rest narrow i (omega (arith, lt, length-set h.joining p f)) none

  pub on_after : (u : ℕ) (f : Fold) → u ≤ h.allowance → f.base ≡ F.base → f.waits ≡ false → GoesOnJoining c h (after u f)
  on_after u f le b q = record {
    loaded = loaded_as c h l (after u f) refl refl refl (length-set h.joining p f) refl l.small l.serves (omega (arith, le))
        (subst (HoldsInPhase c l.needs (after u f)) (sym joining)
        (record {
          branches = joins.branches;
          some = joins.some;
          state = subst (JoinsByVerdict c l.needs (after u f)) (sym going)
              (record {
                works = works_as false c h.number l.needs None (work_of h) state.works h.at state.works.at.here h.own state.works.at.serves u;
                own = state.own;
                within = le;
                folds = fit_after u f b q;
                rest = rest_after u f;
              });
        }));
    phase = joining;
    number = refl;
    allowance = refl;
    numbers = refl;
    joined = refl;
  }

  -- ---- the machine

  abbrev share : BranchCopy
  share = record { variable = v; copy = copy }

  abbrev back : Point
  back = point_of (block_of c h.number) h.at h.stack

  abbrev merge : List BranchCopy → List Total → Merge
  merge rest ts = record { left = rest; totals = ts; back = back }

  abbrev M : Fold
  M = with_mark copy.modified F

  abbrev totals : Fold → List Total
  totals f = totals_in c h.branches.numbers uses (slice_set h.joining p f)

  total_here : (folds : List Fold) → length folds ≡ length uses → total_of uses (totals_in c h.branches.numbers uses folds) v ≡ total_in (fold_at folds p)
  total_here folds e = total_at c h.branches.numbers v some uses folds used e

  put_here : (folds : List Fold) (f : Fold) → length folds ≡ length uses → put_total uses (totals_in c h.branches.numbers uses folds) v (total_in f) ≡ totals_in c h.branches.numbers uses (slice_set folds p f)
  put_here folds f e = put_total_at c h.branches.numbers v some uses folds f used e

  long : (f : Fold) → length (slice_set h.joining p f) ≡ length uses
  long f = length-set h.joining p f ∙ l.folds

  -- the mark is noted
  marked : (rest : List BranchCopy) → noted uses share (merge rest (totals_in c h.branches.numbers uses h.joining)) ≡ merge rest (totals M)
  marked rest =
      let note : Total → Merge = λ (q : Total). merge rest (put_total uses (totals_in c h.branches.numbers uses h.joining) v (record q { marked = q.marked || copy.modified })) in
      ap note (total_here h.joining l.folds) ∙ ap (merge rest) (put_here h.joining M l.folds)

  one_step : (rest : List BranchCopy) → step c h.number (merging_with c h (share ∷ rest)) ≡ offered_in c h.number share (merge rest (totals M)) (own_of h.own) h.units
  one_step rest = ap (λ m. offered_in c h.number share m (own_of h.own) h.units) (marked rest)

  -- what a value that takes part does to the totals
  total_marked : total_of uses (totals M) v ≡ total_in M
  total_marked = total_here (slice_set h.joining p M) (long M) ∙ ap total_in (get_or-set_same h.joining p M _ within)

  totalled_is : (rest : List BranchCopy) (n : ℤ) (f : Fold) → total_in f ≡ record { value = Some n; marked = M.marked } → totalled uses v n (merge rest (totals M)) ≡ merge rest (totals f)
  totalled_is rest n f e =
      let put : Total → Merge = λ q. merge rest (put_total uses (totals M) v q) in
      ap (λ (q : Total). put (record q { value = Some n })) total_marked ∙ ap put (sym e) ∙ ap (merge rest) (put_here (slice_set h.joining p M) f (long M) ∙ ap (totals_in c h.branches.numbers uses) (set_twice h.joining p M f))

  same_totals : (f g : Fold) → total_in f ≡ total_in g → totals f ≡ totals g
  same_totals f g e = sym (put_here h.joining f l.folds) ∙ ap (put_total uses (totals_in c h.branches.numbers uses h.joining) v) e ∙ put_here h.joining g l.folds

  by_part : (rest : List BranchCopy) (t : Bool) → takes_part x.policy F.base.value copy ≡ t →
      offered_in c h.number share (merge rest (totals M)) (own_of h.own) h.units ≡ cond t (folded_in c h.number share (merge rest (totals M)) (own_of h.own) h.units x.combine F.total) (Merges (merge rest (totals M)) (own_of h.own) h.units)
  by_part rest t e = by (takes_part x.policy (copy_of uses h.own.copies v).value copy) (ap (λ b. takes_part x.policy b copy) (sym base_is) ∙ e)
    where
      by : (q : Bool) → q ≡ t →
          elim q [ true ↦ folded_in c h.number share (merge rest (totals M)) (own_of h.own) h.units x.combine (total_of uses (totals M) v).value | false ↦ Merges (merge rest (totals M)) (own_of h.own) h.units ]
          ≡ cond t (folded_in c h.number share (merge rest (totals M)) (own_of h.own) h.units x.combine F.total) (Merges (merge rest (totals M)) (own_of h.own) h.units)
      by true k = ap (λ o. folded_in c h.number share (merge rest (totals M)) (own_of h.own) h.units x.combine o) (ap (λ (q : Total). q.value) total_marked) ∙ ap (λ t. cond t (folded_in c h.number share (merge rest (totals M)) (own_of h.own) h.units x.combine F.total) (Merges (merge rest (totals M)) (own_of h.own) h.units)) k
      by false k = ap (λ t. cond t (folded_in c h.number share (merge rest (totals M)) (own_of h.own) h.units x.combine F.total) (Merges (merge rest (totals M)) (own_of h.own) h.units)) k

  comes_one : (f : Fold) → f.base ≡ F.base → f.waits ≡ false → ((rest : List BranchCopy) → step c h.number (merging_with c h (share ∷ rest)) ≡ Merges (merge rest (totals f)) (own_of h.own) h.units) → Combined c h (after h.units f) (share ∷ [])
  comes_one f b q s = record {
    on = on_after h.units f state.within b q;
    runs = λ rest. subst (ComesByVerdict c (after h.units f) (merging_with c h (share ∷ rest)) rest) (sym going) (1, s rest);
  }

  -- ---- no pair

  no_pair_in : (t : Bool) (o : Option ℤ) → takes_part x.policy F.base.value copy ≡ t → F.total ≡ o → cond t (option_map {U = ℤ × ℤ} (λ total. (total, copy.value)) o) None ≡ None →
      Combined c h (after h.units (cond t (with_value copy.value M o) M)) (share ∷ [])
  no_pair_in false o e k none = comes_one M refl free (λ rest. one_step rest ∙ by_part rest false e)
  no_pair_in true (Some n) e k none = cc
  no_pair_in true None e k none =
      let f : Fold = record M { total = Some copy.value } in
      comes_one f refl free (λ rest. one_step rest ∙ by_part rest true e ∙ ap (folded_in c h.number share (merge rest (totals M)) (own_of h.own) h.units x.combine) k ∙ first_in x.combine rest f)
    where
      first_in : (combine : Option ℕ) (rest : List BranchCopy) (f : Fold) → folded_in c h.number share (merge rest (totals M)) (own_of h.own) h.units combine None ≡ Merges (merge rest (totals (record M { total = Some copy.value }))) (own_of h.own) h.units
      first_in None rest f = ap (λ m. Merges m (own_of h.own) h.units) (totalled_is rest copy.value (record M { total = Some copy.value }) refl)
      first_in (Some g) rest f = ap (λ m. Merges m (own_of h.own) h.units) (totalled_is rest copy.value (record M { total = Some copy.value }) refl)

  pub no_pair : pair_of x.policy copy F ≡ None → Combined c h (after h.units (offered_copy x.policy copy F)) (share ∷ [])
  no_pair e =
      let f = no_pair_in (takes_part x.policy F.base.value copy) F.total refl refl e in f

  -- nothing is to be done for a copy that isn't marked, where the marked ones take part
  pub passes : x.policy ≡ policy.Mod → copy.modified ≡ false → Combined c h h (share ∷ [])
  passes marks unmarked =
      let none : takes_part x.policy F.base.value copy ≡ false = ap (λ q. takes_part q F.base.value copy) marks ∙ unmarked in
      let mark : M ≡ F = ap (λ b. record F { marked = F.marked || b }) unmarked ∙ ap (λ b. record F { marked = b }) (or_none F.marked) in
      let same : slice_set h.joining p M ≡ h.joining = ap (slice_set h.joining p) mark ∙ set-get_or h.joining p _ in
      let with_folds : List Fold → Thread = λ js. record { number = h.number; phase = h.phase; function = h.function; at = h.at; stack = h.stack; own = h.own; units = h.units; allowance = h.allowance; branches = h.branches; joining = js } in
      subst (λ js. Combined c h (with_folds js) (share ∷ [])) same (comes_one M refl free (λ rest. one_step rest ∙ by_part rest false none))
    where
      or_none : (b : Bool) → (b || false) ≡ b
      or_none true = refl
      or_none false = refl

  -- ---- a pair

  record Paired (n : ℤ) (right : ℤ) : Type 0 where
    part : takes_part x.policy F.base.value copy ≡ true
    total : F.total ≡ Some n
    value : right ≡ copy.value

  paired_in : (t : Bool) (o : Option ℤ) (n right : ℤ) → takes_part x.policy F.base.value copy ≡ t → F.total ≡ o → cond t (option_map {U = ℤ × ℤ} (λ total. (total, copy.value)) o) None ≡ Some (n, right) → Paired n right
  paired_in false o n right e k s = cc
  paired_in true None n right e k s = cc
  paired_in true (Some m) n right e k s =
      let q = some_same (m, copy.value) (n, right) s in
      record { part = e; total = k ∙ ap Some (ap (λ (q : ℤ × ℤ). q.0) q); value = sym (ap (λ (q : ℤ × ℤ). q.1) q) }

  module _ (n right : ℤ) (is : pair_of x.policy copy F ≡ Some (n, right)) where
    paired : Paired n right
    paired = paired_in (takes_part x.policy F.base.value copy) F.total n right refl refl is

    abbrev W : Fold
    W = record M { waits = true }

    pub offered_waits : offered_copy x.policy copy F ≡ W
    offered_waits = ap (λ t. cond t (with_value copy.value M F.total) M) paired.part ∙ ap (with_value copy.value M) paired.total

    to_fold : (rest : List BranchCopy) → step c h.number (merging_with c h (share ∷ rest)) ≡ folded_in c h.number share (merge rest (totals M)) (own_of h.own) h.units x.combine (Some n)
    to_fold rest = one_step rest ∙ by_part rest true paired.part ∙ ap (folded_in c h.number share (merge rest (totals M)) (own_of h.own) h.units x.combine) paired.total

    -- the state in which the combine function is called
    abbrev called : Thread
    called = after h.units W

    calls : (f : ℕ) → x.combine ≡ Some f → (rest : List BranchCopy) → step c h.number (merging_with c h (share ∷ rest)) ≡ calling_machine c called f n right (Folds_to v (merge rest (totals M)))
    calls f e rest =
        to_fold rest ∙ ap (λ o. folded_in c h.number share (merge rest (totals M)) (own_of h.own) h.units o (Some n)) e
        ∙ ap (λ r. entered (slice_get c.functions f) (n ∷ r ∷ []) (Folds_to v (merge rest (totals M)) ∷ []) (own_of h.own) h.units) (sym paired.value)

    ends_with : ℕ → ℤ → Thread
    ends_with u m = after u (fold_value m W)

    -- the first value stays
    pub stays : x.combine ≡ None → Combined c h (after h.units (fold_value n W)) (share ∷ [])
    stays e = comes_one (fold_value n W) refl refl (λ rest.
        to_fold rest ∙ ap (λ o. folded_in c h.number share (merge rest (totals M)) (own_of h.own) h.units o (Some n)) e
        ∙ ap (λ ts. Merges (merge rest ts) (own_of h.own) h.units) (same_totals M (fold_value n W) (ap (λ o. record { value = o; marked = M.marked }) paired.total)))

    -- the function's number is folded in
    pub folds_number : (f : ℕ) → x.combine ≡ Some f → (u : ℕ) (m : ℤ) → u ≤ h.allowance →
        ((G : Frame) → (k : ℕ) × (run_for (step c h.number) k (calling_machine c called f n right G) ≡ returned c h.number m (G ∷ []) (own_of h.own) u)) →
        Combined c h (after u (fold_value m W)) (share ∷ [])
    folds_number f e u m le over = record {
      on = on_after u (fold_value m W) le refl refl;
      runs = λ rest.
          let G : Frame = Folds_to v (merge rest (totals M)) in
          let o = over G in
          let ends : run_for (step c h.number) (1 + o.0) (merging_with c h (share ∷ rest)) ≡ merging_with c (after u (fold_value m W)) rest =
          run_add (step c h.number) 1 o.0 (merging_with c h (share ∷ rest)) ∙ ap (run_for (step c h.number) o.0) (calls f e rest) ∙ o.1
          ∙ ap (λ q. Merges q (own_of h.own) u) (totalled_is rest m (fold_value m W) refl) in
          subst (ComesByVerdict c (after u (fold_value m W)) (merging_with c h (share ∷ rest)) rest) (sym going) (1 + o.0, ends);
    }

    -- or it fails
    fails_one : (h' : Thread) → h'.number ≡ h.number → (f : ℕ) → x.combine ≡ Some f → (rest : List BranchCopy) (w : Verdict) → FoldFailsByVerdict c h' (calling_machine c called f n right (Folds_to v (merge rest (totals M)))) w → ComesByVerdict c h' (merging_with c h (share ∷ rest)) rest w
    fails_one h' t f e rest verdict.Combine k = absurd k
    fails_one h' t f e rest (verdict.Trap place trap) k =
        let s = subst (λ t. step c t (merging_with c h (share ∷ rest)) ≡ calling_machine c called f n right (Folds_to v (merge rest (totals M)))) (sym t) (calls f e rest) in
        (1 + k.0, run_add (step c h'.number) 1 k.0 (merging_with c h (share ∷ rest)) ∙ ap (run_for (step c h'.number) k.0) s ∙ k.1)
    fails_one h' t f e rest verdict.Over k =
        let s = subst (λ t. step c t (merging_with c h (share ∷ rest)) ≡ calling_machine c called f n right (Folds_to v (merge rest (totals M)))) (sym t) (calls f e rest) in
        (1 + k.0, subst (Exceeds h'.allowance) (sym (run_add (step c h'.number) 1 k.0 (merging_with c h (share ∷ rest)) ∙ ap (run_for (step c h'.number) k.0) s)) k.1)

    pub fails_offer : (h' : Thread) (f : ℕ) → x.combine ≡ Some f → FoldFails c called h' (calling_machine c called f n right) → Combined c h h' (share ∷ [])
    fails_offer h' f e k = record {
      on = record { loaded = k.on.loaded; phase = k.on.phase; number = k.on.number; allowance = k.on.allowance; numbers = k.on.numbers; joined = k.on.joined };
      runs = λ rest. fails_one h' k.on.number f e rest h'.branches.verdict (k.runs (Folds_to v (merge rest (totals M))));
    }

    -- ---- after the function, or without one

    abbrev with_joining : Thread → List Fold → Thread
    with_joining t js = record { number = t.number; phase = t.phase; function = t.function; at = t.at; stack = t.stack; own = t.own; units = t.units; allowance = t.allowance; branches = t.branches; joining = js }

    pub valued : (js : List Fold) → js ≡ slice_set h.joining p (offered_copy x.policy copy F) → (h' : Thread) (combine : Option ℕ) (r : Option ℤ) → Valued c (with_joining h js) h' combine n right r → Valued c called h' combine n right r
    valued js e h' combine r v = subst (λ js. Valued c (with_joining h js) h' combine n right r) (e ∙ ap (slice_set h.joining p) offered_waits) v

    W_at : fold_at (slice_set h.joining p W) p ≡ W
    W_at = get_or-set_same h.joining p W _ within

    pub same_joining : (h' : Thread) (combine : Option ℕ) (m : ℤ) → Valued c called h' combine n right (Some m) → h'.joining ≡ slice_set h.joining p W
    same_joining h' None m k = ap (λ (t : Thread). t.joining) k.0
    same_joining h' (Some f) m k = ap (λ (t : Thread). t.joining) k.thread

    pub waits_there : (h' : Thread) (combine : Option ℕ) (m : ℤ) → Valued c called h' combine n right (Some m) → (fold_at h'.joining p).waits ≡ true
    waits_there h' combine m k = ap (λ js. (fold_at js p).waits) (same_joining h' combine m k) ∙ ap (λ (f : Fold). f.waits) W_at

    pub long_there : (h' : Thread) (combine : Option ℕ) (m : ℤ) → Valued c called h' combine n right (Some m) → p < length h'.joining
    long_there h' combine m k = let e = ap length (same_joining h' combine m k) in omega (arith, e, length-set h.joining p W, within)

    joining_is : (h' : Thread) (combine : Option ℕ) (m : ℤ) → Valued c called h' combine n right (Some m) → (js : List Fold) → js ≡ slice_set h'.joining p (fold_value m (fold_at h'.joining p)) → js ≡ slice_set h.joining p (fold_value m W)
    joining_is h' combine m k js e =
        e ∙ ap (λ js. slice_set js p (fold_value m (fold_at js p))) (same_joining h' combine m k) ∙ ap (λ f. slice_set (slice_set h.joining p W) p (fold_value m f)) W_at ∙ set_twice h.joining p W (fold_value m W)

    pub pair_ends : (h' : Thread) (combine : Option ℕ) (m : ℤ) → x.combine ≡ combine → Valued c called h' combine n right (Some m) → (js : List Fold) → js ≡ slice_set h'.joining p (fold_value m (fold_at h'.joining p)) → Combined c h (with_joining h' js) (share ∷ [])
    pair_ends h' None m e k js is =
        let q = some_same m n k.1 in
        let j = joining_is h' None m k js is ∙ ap (λ m. slice_set h.joining p (fold_value m W)) q in
        subst (λ t. Combined c h (with_joining t js) (share ∷ [])) (sym k.0) (subst (λ js. Combined c h (with_joining called js) (share ∷ [])) (sym j) (stays e))
    pair_ends h' (Some f) m e k js is =
        let j = joining_is h' (Some f) m k js is in
        let al : h'.allowance ≡ h.allowance = ap (λ (t : Thread). t.allowance) k.thread in
        subst (λ t. Combined c h (with_joining t js) (share ∷ [])) (sym k.thread)
        (subst (λ js. Combined c h (with_joining (with_units h'.units called) js) (share ∷ [])) (sym j) (folds_number f e h'.units m (omega (arith, k.within, al)) k.over))

    pub pair_fails : (h' : Thread) (combine : Option ℕ) → x.combine ≡ combine → Valued c called h' combine n right None → Combined c h h' (share ∷ [])
    pair_fails h' None e k = let q = k.1 in cc
    pair_fails h' (Some f) e k = fails_offer h' f e k
