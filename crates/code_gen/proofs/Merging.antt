-- The machine combines the branches' copies as the kernel does.
use Rattle.std.proofs.Common.{◌≡◌, ℕ, suc, ◌+◌, ◌<◌, ◌==◌, List, [], ◌∷◌, ◌++◌, map, Option, Some, None, Bool, true, false, cond, ◌||◌, refl, sym, ap, ◌∙◌, subst, arith}
use Rattle.std.specs.Prelude.{ℤ, slice_get, replicate}
use Rattle.std.proofs.Math.Bool.{or_assoc, or-false}
use Rattle.std.proofs.lemmas.Bool.Decides.{nat_tests}
use Rattle.forec_kernel.specs.declared.shape.VarCopy.{VarCopy}
use Rattle.forec_kernel.specs.Shapes.{PlainKernel}
use Rattle.forec_kernel.specs.Values.{Value, Gives, Raises, more_units, copy_of, call, fresh_words}
use Rattle.forec_kernel.specs.Texts.{Status, RunningText, Threads, no_threads, child, uses_of}
use Rattle.forec_kernel.specs.Combining as combining
use Rattle.forec_kernel.specs.Combining.{contains, shares, takes_part, taking_part, some_marked, Joint, variable_of, combine_of, joined_copies, joint_calls, calls_from, calls_at, count_threads, calls_in_order, Cost, Costs, Fails, more_cost, cost_of, join_cost}
use Rattle.thread_code.specs.Machine.{Point, BranchCopy, Total, Folding, Own, Machine, On, Merges, Trapped, total_of, put_total, no_totals, folded, entered, step}
use Rattle.code_gen.specs.Blocks.{kernel_code}
use Rattle.code_gen.proofs.Each.{Each, each_front, each_back, each_in}
use Rattle.code_gen.proofs.Fits.{FitsCall, CallsRun}
use Rattle.code_gen.proofs.Stretch.{point, Comes, stays, comes_on, comes_at, Yields}
use Rattle.code_gen.proofs.MachinePoints.{ok}
use Rattle.code_gen.proofs.Columns.{Ascends, not_above, kept, kept_ascends, Sized, none_sized, none_total, put_sized, total_same, total_other, total_outside, called, total_after, given_or, cost_then, cost_append, Given, all_given, rest_calls, total_in, shares_later, with_share, share_calls, share_total, calls_now, calls_later, total_now}
use Rattle.code_gen.proofs.Branchwise.{flat, flat_at, flat_same, in_order_same, variables_of, share_in, from_share, list_calls, Silent, cross, branch_shares, child_shares, branch_ascends, first_share, bases, placed, joins, policy, calls_are, final_total, settled_is}

module _ (k : PlainKernel) (t : ℕ) (run : CallsRun (kernel_code k) t (ok k) (call k)) (combines : (v f : ℕ) → (variable_of k v).combine ≡ Some f → FitsCall (kernel_code k) (ok k) f 2) (asc : (n : ℕ) → Ascends (uses_of k n)) (o : Own) (back : Point) where
  abbrev U : List ℕ
  U = uses_of k t

  abbrev K : List ℕ
  K = kept (uses_of k t) o.copies

  abbrev base : ℕ → ℤ
  base v = (copy_of (uses_of k t) o.copies v).value

  abbrev at : List BranchCopy → List Total → ℕ → Machine
  at left totals u = Merges (record { left = left; totals = totals; back = back }) o u

  -- the machine comes to these shares with totals of which something holds, or traps
  abbrev pub Merged : Machine → ℕ → List BranchCopy → (List Total → Type 0) → Cost → Type 0
  Merged m u more Facts (Costs a) = (totals : List Total) × Comes (kernel_code k) t m (at more totals (u + a)) × Facts totals
  Merged m u more Facts (Fails place trap a) = Comes (kernel_code k) t m (Trapped place trap (u + a))

  merged_then : (m : Machine) (u : ℕ) (mid more : List BranchCopy) (Facts Facts' : List Total → Type 0) (x y : Cost) → Merged m u mid Facts x → ((a : ℕ) → x ≡ Costs a → (totals : List Total) → Facts totals → Merged (at mid totals (u + a)) (u + a) more Facts' y) → Merged m u more Facts' (cost_then x y)
  merged_then m u mid more Facts Facts' (Fails place trap a) y g h = g
  merged_then m u mid more Facts Facts' (Costs a) y g h = later y (h a refl g.0 g.2)
    where
      later : (y : Cost) → Merged (at mid g.0 (u + a)) (u + a) more Facts' y → Merged m u more Facts' (more_cost a y)
      later (Costs b) r =
          let e : u + a + b ≡ u + (a + b) = omega arith in
          (r.0, comes_at (kernel_code k) t (ap (at more r.0) e) (comes_on (kernel_code k) t g.1 r.1), r.2)
      later (Fails place trap b) r =
          let e : u + a + b ≡ u + (a + b) = omega arith in
          comes_at (kernel_code k) t (ap (Trapped place trap) e) (comes_on (kernel_code k) t g.1 r)

  -- ---- one share

  abbrev share_now : ℕ → VarCopy → List Total → List Value
  share_now v d totals = called (joins k v) (takes_part (policy k v) (base v) d) (total_of (uses_of k t) totals v).value d.value

  -- what one share does to the totals
  pub record Shared (s : BranchCopy) (totals totals' : List Total) : Type 0 where
    pub sized : Sized (uses_of k t) o.copies totals'
    pub others : (w : ℕ) → (s.variable ≡ w → ⊥) → total_of (uses_of k t) totals' w ≡ total_of (uses_of k t) totals w
    pub own : contains s.variable K ≡ true → total_of (uses_of k t) totals' s.variable ≡ record { value = total_after (joins k s.variable) (takes_part (policy k s.variable) (base s.variable) s.copy) (total_of (uses_of k t) totals s.variable).value s.copy.value; marked = (total_of (uses_of k t) totals s.variable).marked || s.copy.modified }

  module _ (s : BranchCopy) (rest : List BranchCopy) (totals : List Total) (sized : Sized (uses_of k t) o.copies totals) where
    abbrev v : ℕ
    v = s.variable

    abbrev x : Total
    x = total_of (uses_of k t) totals s.variable

    -- the totals with the mark noted
    abbrev marked : List Total
    marked = put_total (uses_of k t) totals s.variable (record { value = (total_of (uses_of k t) totals s.variable).value; marked = (total_of (uses_of k t) totals s.variable).marked || s.copy.modified })

    marked_sized : Sized (uses_of k t) o.copies marked
    marked_sized = put_sized (uses_of k t) o.copies totals v _ sized

    marked_value : (total_of (uses_of k t) marked v).value ≡ x.value
    marked_value = pick (contains v K) refl
      where
        pick : (b : Bool) → contains s.variable (kept (uses_of k t) o.copies) ≡ b → (total_of (uses_of k t) marked s.variable).value ≡ (total_of (uses_of k t) totals s.variable).value
        pick true e = ap (λ (y : Total). y.value) (total_same (uses_of k t) o.copies totals s.variable _ sized e)
        pick false e = ap (λ (y : Total). y.value) (total_outside (uses_of k t) o.copies marked s.variable marked_sized e ∙ sym (total_outside (uses_of k t) o.copies totals s.variable sized e))

    -- the totals with a value of this variable
    abbrev valued : ℤ → List Total
    valued n = put_total (uses_of k t) marked s.variable (record (total_of (uses_of k t) marked s.variable) { value = Some n })

    -- the mark alone is new
    only_marked : (total : Option ℤ) → x.value ≡ total → (own_total : Option ℤ) → own_total ≡ total → (f : Option (ℤ → ℤ → Value)) (tk : Bool) → total_after f tk total s.copy.value ≡ total →
        joins k v ≡ f → takes_part (policy k v) (base v) s.copy ≡ tk → Shared s totals marked
    only_marked total e own_total e' f tk stays ef et = record {
      sized = marked_sized;
      others = λ w h. total_other (uses_of k t) totals v _ w h;
      own = λ m. total_same (uses_of k t) o.copies totals v _ sized m ∙ ap (λ (z : Option ℤ). record { value = z; marked = x.marked || s.copy.modified }) (same);
    }
      where
        same : (total_of (uses_of k t) totals s.variable).value ≡ total_after (joins k s.variable) (takes_part (policy k s.variable) (base s.variable) s.copy) (total_of (uses_of k t) totals s.variable).value s.copy.value
        same = e ∙ sym stays ∙ ap (λ z. total_after f tk z s.copy.value) (sym e) ∙ ap (λ g. total_after g tk (total_of (uses_of k t) totals s.variable).value s.copy.value) (sym ef) ∙ ap (λ b. total_after (joins k s.variable) b (total_of (uses_of k t) totals s.variable).value s.copy.value) (sym et)

    newly_valued : (n : ℤ) → Some n ≡ total_after (joins k v) (takes_part (policy k v) (base v) s.copy) x.value s.copy.value → Shared s totals (valued n)
    newly_valued n e = record {
      sized = put_sized (uses_of k t) o.copies marked v _ marked_sized;
      others = λ w h. total_other (uses_of k t) marked v _ w h ∙ total_other (uses_of k t) totals v _ w h;
      own = λ m. total_same (uses_of k t) o.copies marked v _ marked_sized m ∙ ap (λ (y : Total). record y { value = Some n }) (total_same (uses_of k t) o.copies totals v _ sized m) ∙ ap (λ (z : Option ℤ). record { value = z; marked = x.marked || s.copy.modified }) e;
    }

    -- the call of a combine function
    combine_runs : (f : ℕ) (n : ℤ) (u : ℕ) → FitsCall (kernel_code k) (ok k) f 2 → (r : Value) → r ≡ call k f (n ∷ s.copy.value ∷ []) → ((y : ℤ) (w : ℕ) → r ≡ Gives y w → Shared s totals (valued y)) →
        Merged (entered (slice_get (kernel_code k).functions f) (n ∷ s.copy.value ∷ []) (Folding v (record { left = rest; totals = marked; back = back }) ∷ []) o u) u rest (Shared s totals) (cost_of (more_units 1 r ∷ []))
    combine_runs f n u fit r e shared =
        let fs = Folding v (record { left = rest; totals = marked; back = back }) ∷ [] in
        let args = n ∷ s.copy.value ∷ [] in
        let b = fit.block in
        let m = entered (slice_get (kernel_code k).functions f) args fs o u in
        let enter : m ≡ On (point b.steps 0 [] (fresh_words args b.words) (replicate b.counters 0)) fs o (u + 1) = ap (λ z. entered z args fs o u) fit.is in
        let g : Yields (kernel_code k) t m (u + 1) (λ y w. at rest (valued y) w) r =
        subst (λ z. Yields (kernel_code k) t z (u + 1) (λ y w. at rest (valued y) w) r) (sym enter)
        (subst (λ z. Yields (kernel_code k) t (On (point b.steps 0 [] (fresh_words args b.words) (replicate b.counters 0)) fs o (u + 1)) (u + 1) (λ y w. at rest (valued y) w) z) (sym e) (run f fit.allowed b fit.is args fs o (u + 1))) in
        by_value r g shared
      where
        by_value : (r : Value) → Yields (kernel_code k) t (entered (slice_get (kernel_code k).functions f) (n ∷ s.copy.value ∷ []) (Folding s.variable (record { left = rest; totals = marked; back = back }) ∷ []) o u) (u + 1) (λ y w. at rest (valued y) w) r → ((y : ℤ) (w : ℕ) → r ≡ Gives y w → Shared s totals (valued y)) →
            Merged (entered (slice_get (kernel_code k).functions f) (n ∷ s.copy.value ∷ []) (Folding s.variable (record { left = rest; totals = marked; back = back }) ∷ []) o u) u rest (Shared s totals) (cost_of (more_units 1 r ∷ []))
        by_value (Gives y w) g h = let e : u + 1 + w ≡ u + (1 + w + 0) = omega arith in (valued y, comes_at (kernel_code k) t (ap (at rest (valued y)) e) g, h y w refl)
        by_value (Raises place trap w) g h = let e : u + 1 + w ≡ u + (1 + w) = omega arith in comes_at (kernel_code k) t (ap (Trapped place trap) e) g

    nothing_more : (u : ℕ) (m : Machine) (totals' : List Total) → m ≡ at rest totals' u → Shared s totals totals' → Merged m u rest (Shared s totals) (Costs 0)
    nothing_more u m totals' e h = let z : u ≡ u + 0 = omega arith in (totals', comes_at (kernel_code k) t (e ∙ ap (at rest totals') z) (stays (kernel_code k) t m), h)

    fold_runs : (tk : Bool) (combine : Option ℕ) (total : Option ℤ) (u : ℕ) → takes_part (policy k v) (base v) s.copy ≡ tk → (variable_of k v).combine ≡ combine → x.value ≡ total →
        Merged (elim tk as (λ b. Machine) [ true ↦ folded (kernel_code k) t s (record { left = rest; totals = marked; back = back }) o u combine total | false ↦ at rest marked u ]) u rest (Shared s totals) (cost_of (called (combine_of k combine) tk total s.copy.value))
    fold_runs false combine total u et ec ex = nothing_more u _ marked refl (only_marked total ex total refl (combine_of k combine) false refl (ap (combine_of k) ec) et)
    fold_runs true combine None u et ec ex =
        nothing_more u _ (valued s.copy.value) refl
        (newly_valued s.copy.value (sym (ap (λ b. total_after (joins k v) b x.value s.copy.value) et ∙ ap (λ z. total_after (joins k v) true z s.copy.value) ex)))
    fold_runs true None (Some n) u et ec ex = nothing_more u _ marked refl (only_marked (Some n) ex (Some n) refl None true refl (ap (combine_of k) ec) et)
    fold_runs true (Some f) (Some n) u et ec ex =
        combine_runs f n u (combines v f ec) (call k f (n ∷ s.copy.value ∷ [])) refl
        (λ y w e. newly_valued y (sym (ap (λ g. total_after g (takes_part (policy k v) (base v) s.copy) x.value s.copy.value) (ap (combine_of k) ec)
        ∙ ap (λ b. total_after (combine_of k (Some f)) b x.value s.copy.value) et
        ∙ ap (λ z. total_after (combine_of k (Some f)) true z s.copy.value) ex
        ∙ ap (λ r. Some (given_or n (more_units 1 r))) e)))

    pub share_runs : (u : ℕ) → Merged (at (s ∷ rest) totals u) u rest (Shared s totals) (cost_of (share_now v s.copy totals))
    share_runs u =
        from_step (cost_of (share_now v s.copy totals))
        (subst (λ z. Merged (elim (takes_part (policy k v) (base v) s.copy) as (λ b. Machine) [ true ↦ folded (kernel_code k) t s (record { left = rest; totals = marked; back = back }) o u (variable_of k v).combine z | false ↦ at rest marked u ]) u rest (Shared s totals) (cost_of (share_now v s.copy totals))) (sym marked_value)
        (fold_runs (takes_part (policy k v) (base v) s.copy) (variable_of k v).combine x.value u refl refl refl))
      where
        next : Machine
        next = step (kernel_code k) t (at (s ∷ rest) totals u)

        one_step : Comes (kernel_code k) t (at (s ∷ rest) totals u) (step (kernel_code k) t (at (s ∷ rest) totals u))
        one_step = record { count = 1; lands = refl }

        from_step : (c : Cost) → Merged (step (kernel_code k) t (at (s ∷ rest) totals u)) u rest (Shared s totals) c → Merged (at (s ∷ rest) totals u) u rest (Shared s totals) c
        from_step (Costs a) g = (g.0, comes_on (kernel_code k) t one_step g.1, g.2)
        from_step (Fails place trap a) g = comes_on (kernel_code k) t one_step g

  -- ---- one branch

  abbrev now : List Total → ℕ → VarCopy → List Value
  now totals v d = share_now v d totals

  abbrev share_done : ℕ → Option VarCopy → Total → Total
  share_done v None x = x
  share_done v (Some d) x = record { value = total_after (joins k v) (takes_part (policy k v) (base v) d) x.value d.value; marked = x.marked || d.modified }

  -- what a branch's shares do to the totals
  pub record Branched (left : List BranchCopy) (totals totals' : List Total) : Type 0 where
    pub sized : Sized (uses_of k t) o.copies totals'
    pub others : (w : ℕ) → contains w (variables_of left) ≡ false → total_of (uses_of k t) totals' w ≡ total_of (uses_of k t) totals w
    pub each : (w : ℕ) → contains w K ≡ true → total_of (uses_of k t) totals' w ≡ share_done w (share_in left w) (total_of (uses_of k t) totals w)

  differ : (a b : ℕ) → (a == b) ≡ false → a ≡ b → ⊥
  differ a b h e = let t : (a == b) ≡ true = grind (arith, nat_tests, e) in let f : true ≡ false = sym t ∙ h in cc

  later_same : (totals totals' : List Total) (x : ℕ) (left : List BranchCopy) → Each (λ w. x < w) (variables_of left) → ((w : ℕ) → (x ≡ w → ⊥) → total_of (uses_of k t) totals' w ≡ total_of (uses_of k t) totals w) → list_calls (now totals') left ≡ list_calls (now totals) left
  later_same totals totals' x [] a h = refl
  later_same totals totals' x (s ∷ left) a h =
      let lt : x < s.variable = a.0 in
      ap (λ (y : Total). called (joins k s.variable) (takes_part (policy k s.variable) (base s.variable) s.copy) y.value s.copy.value ++ list_calls (now totals') left) (h s.variable (λ e. omega (arith, e, lt)))
      ∙ ap (λ l. share_now s.variable s.copy totals ++ l) (later_same totals totals' x left a.1 h)

  first_then_rest : (s : BranchCopy) (left : List BranchCopy) (totals totals1 totals' : List Total) → Each (λ w. s.variable < w) (variables_of left) → Shared s totals totals1 → Branched left totals1 totals' → Branched (s ∷ left) totals totals'
  first_then_rest s left totals totals1 totals' above h g = record { sized = g.sized; others = others; each = each }
    where
      others : (w : ℕ) → cond (s.variable == w) true (contains w (variables_of left)) ≡ false → total_of (uses_of k t) totals' w ≡ total_of (uses_of k t) totals w
      others w e = by_test (s.variable == w) refl e
        where
          by_test : (b : Bool) → (s.variable == w) ≡ b → cond b true (contains w (variables_of left)) ≡ false → total_of (uses_of k t) totals' w ≡ total_of (uses_of k t) totals w
          by_test true is e = cc
          by_test false is e = g.others w e ∙ h.others w (differ s.variable w is)

      each : (w : ℕ) → contains w K ≡ true → total_of (uses_of k t) totals' w ≡ share_done w (cond (s.variable == w) (Some s.copy) (share_in left w)) (total_of (uses_of k t) totals w)
      each w m = by_test (s.variable == w) refl
        where
          by_test : (b : Bool) → (s.variable == w) ≡ b → total_of (uses_of k t) totals' w ≡ share_done w (cond b (Some s.copy) (share_in left w)) (total_of (uses_of k t) totals w)
          by_test true is =
              let same : s.variable ≡ w = grind (arith, nat_tests, is) in
              let fresh : contains w (variables_of left) ≡ false = not_above w (variables_of left) (subst (λ x. Each (λ y. x < y) (variables_of left)) same above) in
              g.others w fresh ∙ subst (λ x. total_of (uses_of k t) totals1 x ≡ share_done x (Some s.copy) (total_of (uses_of k t) totals x)) same (h.own (subst (λ x. contains x K ≡ true) (sym same) m))
          by_test false is = g.each w m ∙ ap (share_done w (share_in left w)) (h.others w (differ s.variable w is))

  branch_runs : (left more : List BranchCopy) (totals : List Total) (u : ℕ) → Ascends (variables_of left) → Sized (uses_of k t) o.copies totals → Merged (at (left ++ more) totals u) u more (Branched left totals) (cost_of (list_calls (now totals) left))
  branch_runs [] more totals u a h = let z : u ≡ u + 0 = omega arith in (totals, comes_at (kernel_code k) t (ap (at more totals) z) (stays (kernel_code k) t _), record { sized = h; others = λ w e. refl; each = λ w m. refl })
  branch_runs (s ∷ left) more totals u a h =
      subst (Merged (at (s ∷ (left ++ more)) totals u) u more (Branched (s ∷ left) totals)) (sym (cost_append (share_now s.variable s.copy totals) (list_calls (now totals) left)))
      (merged_then (at (s ∷ (left ++ more)) totals u) u (left ++ more) more (Shared s totals) (Branched (s ∷ left) totals) (cost_of (share_now s.variable s.copy totals)) (cost_of (list_calls (now totals) left))
      (share_runs s (left ++ more) totals h u)
      (λ x e totals1 g.
      also (at (left ++ more) totals1 (u + x)) (u + x) totals1 g (cost_of (list_calls (now totals) left))
      (subst (λ l. Merged (at (left ++ more) totals1 (u + x)) (u + x) more (Branched left totals1) (cost_of l)) (later_same totals totals1 s.variable left a.0 g.others)
      (branch_runs left more totals1 (u + x) a.1 g.sized))))
    where
      also : (m : Machine) (u : ℕ) (totals1 : List Total) → Shared s totals totals1 → (c : Cost) → Merged m u more (Branched left totals1) c → Merged m u more (Branched (s ∷ left) totals) c
      also m u totals1 g (Costs x) r = (r.0, r.1, first_then_rest s left totals totals1 r.0 a.0 g r.2)
      also m u totals1 g (Fails place trap x) r = r

  -- ---- all branches

  abbrev columns : ℕ → Threads → List Total → ℕ → List Joint
  columns j cs totals v = rest_calls (joins k v) (total_of (uses_of k t) totals v).value (taking_part (policy k v) (base v) (shares k v j cs))

  abbrev all_calls : ℕ → Threads → List Total → List Value
  all_calls j cs totals = calls_in_order j (count_threads cs) (map (columns j cs totals) K)

  pub record Combined (j : ℕ) (cs : Threads) (totals totals' : List Total) : Type 0 where
    pub sized : Sized (uses_of k t) o.copies totals'
    pub each : (w : ℕ) → contains w K ≡ true → total_of (uses_of k t) totals' w ≡ record { value = total_in (joins k w) (total_of (uses_of k t) totals w).value (taking_part (policy k w) (base w) (shares k w j cs)); marked = (total_of (uses_of k t) totals w).marked || some_marked (shares k w j cs) }

  per_variable : (v : ℕ) (sh : Option VarCopy) (x : Total) (j : ℕ) (ss : List combining.Share) → Each Given (share_calls (joins k v) (policy k v) (base v) x.value sh) →
      ◌≡◌ {A = Total} (record { value = total_in (joins k v) (share_done v sh x).value (taking_part (policy k v) (base v) ss); marked = (share_done v sh x).marked || some_marked ss })
      (record { value = total_in (joins k v) x.value (taking_part (policy k v) (base v) (with_share sh j ss)); marked = x.marked || some_marked (with_share sh j ss) })
  per_variable v None x j ss g = refl
  per_variable v (Some d) x j ss g =
      ap (λ (z : Option ℤ). record { value = z; marked = (x.marked || d.modified) || some_marked ss }) (sym (total_now (joins k v) (policy k v) (base v) x.value (Some d) j ss g))
      ∙ ap (λ b. record { value = total_in (joins k v) x.value (taking_part (policy k v) (base v) (with_share (Some d) j ss)); marked = b }) (or_assoc x.marked d.modified (some_marked ss))

  share_calls_are : (v : ℕ) (totals : List Total) (sh : Option VarCopy) → share_calls (joins k v) (policy k v) (base v) (total_of (uses_of k t) totals v).value sh ≡ from_share (now totals) v sh
  share_calls_are v totals None = refl
  share_calls_are v totals (Some d) = refl

  no_call : (f : Option (ℤ → ℤ → Value)) (tk : Bool) (total : Option ℤ) (n : ℤ) → total ≡ None → called f tk total n ≡ []
  no_call f tk total n e = ap (λ z. called f tk z n) e ∙ pick tk
    where
      pick : (tk : Bool) → called f tk None n ≡ []
      pick true = refl
      pick false = refl

  silent : (totals : List Total) → Sized (uses_of k t) o.copies totals → (left : List BranchCopy) → Silent (now totals) K left
  silent totals h [] = tt
  silent totals h (s ∷ left) = (
    (λ e. no_call (joins k s.variable) (takes_part (policy k s.variable) (base s.variable) s.copy) (total_of (uses_of k t) totals s.variable).value s.copy.value (ap (λ (y : Total). y.value) (total_outside (uses_of k t) o.copies totals s.variable h e))),
    silent totals h left,
  )

  flat_each : (g : ℕ → List Value) (vs : List ℕ) → Each Given (flat g vs) → Each (λ v. Each Given (g v)) vs
  flat_each g [] h = tt
  flat_each g (v ∷ vs) h = (each_front Given (g v) (flat g vs) h, flat_each g vs (each_back Given (g v) (flat g vs) h))

  -- the calls of the first branch, in either order
  branch_calls_are : (n : ℕ) (R : RunningText) (w : List ℤ) (c : List VarCopy) (st : Status) (rest : Threads) (j : ℕ) (totals : List Total) → Sized (uses_of k t) o.copies totals →
      calls_at j (map (columns j (child n R w c st rest) totals) K) ≡ list_calls (now totals) (branch_shares k n st c)
  branch_calls_are n R w c st rest j totals h =
      let left = branch_shares k n st c in
      flat_at j (columns j (child n R w c st rest) totals) K
      ∙ flat_same (λ v. calls_from j (columns j (child n R w c st rest) totals v)) (λ v. from_share (now totals) v (share_in left v)) K
      (each_in (λ v. calls_from j (columns j (child n R w c st rest) totals v) ≡ from_share (now totals) v (share_in left v)) K
      (λ v m. ap (λ ss. calls_from j (rest_calls (joins k v) (total_of (uses_of k t) totals v).value (taking_part (policy k v) (base v) ss))) (first_share k v j n R w c st rest)
      ∙ calls_now (joins k v) (policy k v) (base v) (total_of (uses_of k t) totals v).value (share_in left v) j (shares k v (suc j) rest) (shares_later k v j (suc j) rest (omega arith))
      ∙ share_calls_are v totals (share_in left v)))
      ∙ cross (now totals) K left (kept_ascends (uses_of k t) o.copies (asc t)) (branch_ascends k n st c (asc n)) (silent totals h left)

  module _ (n : ℕ) (R : RunningText) (w : List ℤ) (c : List VarCopy) (st : Status) (rest : Threads) (j : ℕ) (totals totals1 : List Total) (sized : Sized (uses_of k t) o.copies totals) (done : Branched (branch_shares k n st c) totals totals1) (a : ℕ) (costs : cost_of (list_calls (now totals) (branch_shares k n st c)) ≡ Costs a) where
    abbrev left : List BranchCopy
    left = branch_shares k n st c

    given : Each (λ v. Each Given (from_share (now totals) v (share_in left v))) K
    given =
        flat_each (λ v. from_share (now totals) v (share_in left v)) K
        (subst (Each Given) (sym (cross (now totals) K left (kept_ascends (uses_of k t) o.copies (asc t)) (branch_ascends k n st c (asc n)) (silent totals sized left)))
        (all_given (list_calls (now totals) left) a costs))

    given_at : (v : ℕ) → contains v K ≡ true → Each Given (share_calls (joins k v) (policy k v) (base v) (total_of (uses_of k t) totals v).value (share_in left v))
    given_at v m = subst (Each Given) (sym (share_calls_are v totals (share_in left v))) (find K given m)
      where
        find : (vs : List ℕ) → Each (λ v. Each Given (from_share (now totals) v (share_in left v))) vs → contains v vs ≡ true → Each Given (from_share (now totals) v (share_in left v))
        find [] h m = cc
        find (u ∷ vs) h m = by_test (u == v) refl m (λ m. find vs h.1 m)
          where
            by_test : (b : Bool) → (u == v) ≡ b → cond b true (contains v vs) ≡ true → (contains v vs ≡ true → Each Given (from_share (now totals) v (share_in left v))) → Each Given (from_share (now totals) v (share_in left v))
            by_test true e m ih = let same : u ≡ v = grind (arith, nat_tests, e) in subst (λ z. Each Given (from_share (now totals) z (share_in left z))) same h.0
            by_test false e m ih = ih m

    total_done : (sh : Option VarCopy) (v : ℕ) (x : Total) → share_total (joins k v) (policy k v) (base v) x.value sh ≡ (share_done v sh x).value
    total_done None v x = refl
    total_done (Some d) v x = refl

    -- the calls of the other branches
    rest_are : (count : ℕ) → calls_in_order (suc j) count (map (columns j (child n R w c st rest) totals) K) ≡ calls_in_order (suc j) count (map (columns (suc j) rest totals1) K)
    rest_are count =
        in_order_same (columns j (child n R w c st rest) totals) (columns (suc j) rest totals1) K count (suc j)
        (λ i le. each_in (λ v. calls_from i (columns j (child n R w c st rest) totals v) ≡ calls_from i (columns (suc j) rest totals1 v)) K
        (λ v m. let x = total_of (uses_of k t) totals v in
        ap (λ ss. calls_from i (rest_calls (joins k v) x.value (taking_part (policy k v) (base v) ss))) (first_share k v j n R w c st rest)
        ∙ calls_later (joins k v) (policy k v) (base v) x.value (share_in left v) i j (shares k v (suc j) rest) (omega (arith, le)) (given_at v m)
        ∙ ap (λ z. calls_from i (rest_calls (joins k v) z (taking_part (policy k v) (base v) (shares k v (suc j) rest)))) (total_done (share_in left v) v x ∙ ap (λ (y : Total). y.value) (sym (done.each v m)))))

    combined_too : (totals' : List Total) → Combined (suc j) rest totals1 totals' → Combined j (child n R w c st rest) totals totals'
    combined_too totals' g = record {
      sized = g.sized;
      each = λ v m. g.each v m
          ∙ ap (λ (y : Total). record { value = total_in (joins k v) y.value (taking_part (policy k v) (base v) (shares k v (suc j) rest)); marked = y.marked || some_marked (shares k v (suc j) rest) }) (done.each v m)
          ∙ per_variable v (share_in left v) (total_of (uses_of k t) totals v) j (shares k v (suc j) rest) (given_at v m)
          ∙ ap (λ ss. record { value = total_in (joins k v) (total_of (uses_of k t) totals v).value (taking_part (policy k v) (base v) ss); marked = (total_of (uses_of k t) totals v).marked || some_marked ss }) (sym (first_share k v j n R w c st rest));
    }

  pub threads_run : (cs : Threads) (j : ℕ) (totals : List Total) (u : ℕ) → Sized (uses_of k t) o.copies totals → Merged (at (child_shares k cs) totals u) u [] (Combined j cs totals) (cost_of (all_calls j cs totals))
  threads_run no_threads j totals u h =
      let z : u ≡ u + 0 = omega arith in
      (totals, comes_at (kernel_code k) t (ap (at [] totals) z) (stays (kernel_code k) t _), record { sized = h; each = λ w m. ap (λ b. record { value = (total_of (uses_of k t) totals w).value; marked = b }) (sym (or-false (total_of (uses_of k t) totals w).marked)) })
  threads_run (child n R w c st rest) j totals u h =
      let left = branch_shares k n st c in
      let more = child_shares k rest in
      let css = map (columns j (child n R w c st rest) totals) K in
      let others = calls_in_order (suc j) (count_threads rest) css in
      let first = branch_calls_are n R w c st rest j totals h in
      let cost : cost_of (all_calls j (child n R w c st rest) totals) ≡ cost_then (cost_of (list_calls (now totals) left)) (cost_of others) =
      cost_append (calls_at j css) others ∙ ap (λ l. cost_then (cost_of l) (cost_of others)) first in
      subst (Merged (at (left ++ more) totals u) u [] (Combined j (child n R w c st rest) totals)) (sym cost)
      (merged_then (at (left ++ more) totals u) u more [] (Branched left totals) (Combined j (child n R w c st rest) totals) (cost_of (list_calls (now totals) left)) (cost_of others)
      (branch_runs left more totals u (branch_ascends k n st c (asc n)) h)
      (λ a e totals1 g.
      also (at more totals1 (u + a)) (u + a) totals1 (combined_too n R w c st rest j totals totals1 h g a e) (cost_of others)
      (subst (λ l. Merged (at more totals1 (u + a)) (u + a) [] (Combined (suc j) rest totals1) (cost_of l)) (sym (rest_are n R w c st rest j totals totals1 h g a e (count_threads rest)))
      (threads_run rest (suc j) totals1 (u + a) g.sized))))
    where
      also : (m : Machine) (u : ℕ) (totals1 : List Total) → ((totals' : List Total) → Combined (suc j) rest totals1 totals' → Combined j (child n R w c st rest) totals totals') → (x : Cost) → Merged m u [] (Combined (suc j) rest totals1) x → Merged m u [] (Combined j (child n R w c st rest) totals) x
      also m u totals1 f (Costs x) r = (r.0, r.1, f r.0 r.2)
      also m u totals1 f (Fails place trap x) r = r

  -- ---- the join

  abbrev pub Joined : ℕ → Machine → Threads → Cost → Type 0
  Joined u m cs (Costs a) = Comes (kernel_code k) t m (On back [] (record o { copies = joined_copies k cs (uses_of k t) o.copies }) (u + a))
  Joined u m cs (Fails place trap a) = Comes (kernel_code k) t m (Trapped place trap (u + a))

  pub join_runs : (cs : Threads) (u : ℕ) → Joined u (at (child_shares k cs) (no_totals (uses_of k t) o.copies) u) cs (join_cost k cs (uses_of k t) o.copies)
  join_runs cs u = settle (join_cost k cs (uses_of k t) o.copies) (subst (λ c. Merged (at (child_shares k cs) none u) u [] (Combined 0 cs none) c) cost (threads_run cs 0 none u (none_sized (uses_of k t) o.copies)))
    where
      none : List Total
      none = no_totals (uses_of k t) o.copies

      same_calls : (v : ℕ) → columns 0 cs (no_totals (uses_of k t) o.copies) v ≡ rest_calls (joins k v) None (taking_part (policy k v) (base v) (shares k v 0 cs))
      same_calls v = ap (λ (x : Total). rest_calls (joins k v) x.value (taking_part (policy k v) (base v) (shares k v 0 cs))) (none_total (uses_of k t) o.copies v)

      map_same : (g h : ℕ → List Joint) → ((v : ℕ) → g v ≡ h v) → (vs : List ℕ) → map g vs ≡ map h vs
      map_same g h e [] = refl
      map_same g h e (v ∷ vs) = ap (λ x. x ∷ map g vs) (e v) ∙ ap (λ l. h v ∷ l) (map_same g h e vs)

      cost : cost_of (all_calls 0 cs (no_totals (uses_of k t) o.copies)) ≡ join_cost k cs (uses_of k t) o.copies
      cost =
          ap (λ css. cost_of (calls_in_order 0 (count_threads cs) css))
          (map_same (columns 0 cs (no_totals (uses_of k t) o.copies)) (λ v. rest_calls (joins k v) None (taking_part (policy k v) (base v) (shares k v 0 cs))) same_calls K
          ∙ sym (calls_are k cs base (uses_of k t) o.copies (bases (uses_of k t) o.copies (asc t))))

      finally : (totals : List Total) → Combined 0 cs (no_totals (uses_of k t) o.copies) totals → (v : ℕ) → contains v K ≡ true → total_of (uses_of k t) totals v ≡ final_total k cs base v
      finally totals g v m = g.each v m ∙ ap (λ (x : Total). record { value = total_in (joins k v) x.value (taking_part (policy k v) (base v) (shares k v 0 cs)); marked = x.marked || some_marked (shares k v 0 cs) }) (none_total (uses_of k t) o.copies v)

      last : (totals : List Total) (u : ℕ) → Combined 0 cs (no_totals (uses_of k t) o.copies) totals → Comes (kernel_code k) t (at [] totals u) (On back [] (record o { copies = joined_copies k cs (uses_of k t) o.copies }) u)
      last totals u g =
          comes_at (kernel_code k) t
          (ap (λ l. On back [] (record o { copies = l }) u)
          (settled_is k cs base (λ v. total_of (uses_of k t) totals v) (uses_of k t) o.copies totals (bases (uses_of k t) o.copies (asc t)) g.sized (placed (uses_of k t) o.copies totals (asc t))
          (each_in (λ v. total_of (uses_of k t) totals v ≡ final_total k cs base v) K (finally totals g))))
          (record { count = 1; lands = refl })

      settle : (c : Cost) → Merged (at (child_shares k cs) (no_totals (uses_of k t) o.copies) u) u [] (Combined 0 cs (no_totals (uses_of k t) o.copies)) c → Joined u (at (child_shares k cs) (no_totals (uses_of k t) o.copies) u) cs c
      settle (Costs a) r = comes_on (kernel_code k) t r.1 (last r.0 (u + a) r.2)
      settle (Fails place trap a) r = r
