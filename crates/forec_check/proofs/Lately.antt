-- The late faults of a text, and the least of all.
use Rattle.std.proofs.Common.{ℕ, ◌+◌, ◌≡◌, ◌∙◌, sym, ap, refl, subst, ◌⊎◌, inl, inr, ⊎_elim, Bool, true, false, ◌&&◌, nat_lt, Option, Some, None, List, [], ◌∷◌, ◌++◌}
use Rattle.std.specs.Option.{is_some}
use Rattle.forec_tree.specs.declared.fault.Fault.{Fault}
use Rattle.forec_tree.specs.Terms.{Text, Statement, PlainItem, PlainGlobal, IsGlobal, IsFunction}
use Rattle.forec_tree.specs.Findings.{in_function}
use Rattle.forec_tree.specs.Faults.{Member, here, later, IsLeast, IsEarly, IsFault, text_faults, start_name, late_faults, late_item_faults}
use Rattle.forec_tree.specs.Faults as of_tree
use Rattle.forec_tree.specs.Rules.{fault_if, is_plain}
use Rattle.forec_tree.specs.ThreadTree.{thread_tree, count_naming}
use Rattle.fault_order.specs.Least.{least_from}
use Rattle.fault_order.proofs.LeastLaws.{least-append}
use Rattle.forec_check.specs.Loops.{item_loops, all_loops, loops_faults}
use Rattle.forec_check.specs.Early.{IsLeastOrNone}
use Rattle.forec_check.specs.AccessScan.{instances_of, program_namings}
use Rattle.forec_check.proofs.AccessLaws.{tree_namings}
use Rattle.forec_check.specs.AccessCounts.{access_fault, access_faults}
use Rattle.forec_check.proofs.LoopLemmas.{loops_append}
use Rattle.forec_check.proofs.LoopFaults.{either_of, on_left, on_right, function_loops}
use Rattle.forec_check.proofs.Recursion.{kept_list, same_kept}

along : (x : Fault) (xs ys : List Fault) → xs ≡ ys → Member x xs → Member x ys
along x xs ys e p = subst (λ l. Member x l) e p

no_member : (xs : List Fault) → ((f : Fault) → Member f xs → ⊥) → xs ≡ []
no_member [] h = refl
no_member (x ∷ xs) h = absurd (h x here)

module _ (text : Text) (names : List (List ℕ)) where
  abbrev loops : List PlainItem → List Fault
  loops xs = loops_faults text (all_loops xs)

  item_split : (i : PlainItem) (rest : List PlainItem) → loops (i ∷ rest) ≡ loops_faults text (item_loops i) ++ loops rest
  item_split i rest = loops_append text (item_loops i) (all_loops rest)

  -- where no early rule is broken the walk tells what the tree of threads has
  same_namings : text_faults text names ≡ [] → (id : ℕ) → program_namings text names id ≡ of_tree.namings text names id
  same_namings h id = pick (start_name names text)
    where
      pick : (o : Option ℕ) → ◌≡◌ {A = ℕ} (elim o [ None ↦ 0 | Some first ↦ instances_of text id first ]) (elim o [ None ↦ 0 | Some start ↦ count_naming id (thread_tree text start) ])
      pick None = refl
      pick (Some first) = sym (tree_namings text names id first h)

  abbrev AreSame : Type 0
  AreSame = (g : PlainGlobal) → access_fault text names (IsGlobal g) ≡ late_item_faults text names (IsGlobal g)

  are_same : IsLeastOrNone None (IsEarly text names) → AreSame
  are_same none g = ap (λ n. fault_if (is_plain g.kind && nat_lt 1 n) g.name.place 10) (same_namings (no_member (text_faults text names) (λ f p. none f (inl p))) g.name.id)

  -- the faults of one item, by its sort
  to_late : AreSame → (xs : List PlainItem) (f : Fault) → Member f (access_faults text names xs) ⊎ Member f (loops xs) → Member f (late_faults text names xs)
  to_late same [] f p = ⊎_elim (λ a. elim a [ ]) (λ b. elim b [ ]) p
  to_late same (IsGlobal g ∷ rest) f p =
      let more = to_late same rest f in
      let walk = access_fault text names (IsGlobal g) in
      let item = late_item_faults text names (IsGlobal g) in
      ⊎_elim
      (λ a.
      ⊎_elim (λ q. on_left f item (late_faults text names rest) (along f walk item (same g) q)) (λ q. on_right f item (late_faults text names rest) (more (inl q)))
      (either_of f walk (access_faults text names rest) a))
      (λ b. on_right f item (late_faults text names rest) (more (inr b))) p
  to_late same (IsFunction h ∷ rest) f p =
      let more = to_late same rest f in
      let item = late_item_faults text names (IsFunction h) in
      ⊎_elim (λ a. on_right f item (late_faults text names rest) (more (inl a)))
      (λ b.
      ⊎_elim (λ q. on_left f item (late_faults text names rest) ((function_loops text h).back f q))
      (λ q. on_right f item (late_faults text names rest) (more (inr q)))
      (either_of f (loops_faults text (item_loops (IsFunction h))) (loops rest) (along f _ _ (item_split (IsFunction h) rest) b))) p

  from_late : AreSame → (xs : List PlainItem) (f : Fault) → Member f (late_faults text names xs) → Member f (access_faults text names xs) ⊎ Member f (loops xs)
  from_late same [] f p = elim p [ ]
  from_late same (IsGlobal g ∷ rest) f p =
      let walk = access_fault text names (IsGlobal g) in
      let item = late_item_faults text names (IsGlobal g) in
      let more = from_late same rest f in
      ⊎_elim (λ q. inl (on_left f walk (access_faults text names rest) (along f item walk (sym (same g)) q)))
      (λ q. ⊎_elim (λ a. inl (on_right f walk (access_faults text names rest) a)) (λ b. inr b) (more q))
      (either_of f item (late_faults text names rest) p)
  from_late same (IsFunction h ∷ rest) f p =
      let item = late_item_faults text names (IsFunction h) in
      let own = loops_faults text (item_loops (IsFunction h)) in
      let more = from_late same rest f in
      ⊎_elim (λ q. inr (along f _ _ (sym (item_split (IsFunction h) rest)) (on_left f own (loops rest) ((function_loops text h).to f q))))
      (λ q. ⊎_elim (λ a. inl a) (λ b. inr (along f _ _ (sym (item_split (IsFunction h) rest)) (on_right f own (loops rest) b))) (more q))
      (either_of f item (late_faults text names rest) p)

  pub late_kept : (k : Option Fault) → IsLeastOrNone None (IsEarly text names) → k ≡ least_from None (access_faults text names text ++ loops text) → IsLeastOrNone k (IsFault text names)
  late_kept k none e =
      same_kept k (λ f. Member f (access_faults text names text ++ loops text)) (IsFault text names)
      (λ f p. inr (none, to_late (are_same none) text f (either_of f (access_faults text names text) (loops text) p)))
      (λ f p.
      ⊎_elim (λ a. absurd (none f a))
      (λ b.
      ⊎_elim (λ q. on_left f (access_faults text names text) (loops text) q) (λ q. on_right f (access_faults text names text) (loops text) q) (from_late (are_same none) text f b.1)) p)
      (kept_list (access_faults text names text ++ loops text) k e)

  -- a broken early rule hides the late ones
  pub early_kept : (k : Option Fault) → is_some k ≡ true → IsLeastOrNone k (IsEarly text names) → IsLeastOrNone k (IsFault text names)
  early_kept None s h = absurd (let q : false ≡ true = s in cc)
  early_kept (Some m) s h =
      record {
        among = inl h.among;
        least = λ f p. ⊎_elim (λ a. h.least f a) (λ b. absurd (b.0 m h.among)) p;
      }

  pub none_early : (k : Option Fault) → is_some k ≡ false → IsLeastOrNone k (IsEarly text names) → IsLeastOrNone None (IsEarly text names)
  none_early None s h = h
  none_early (Some m) s h = absurd (let q : true ≡ false = s in cc)

  pub both_late : (loops_text : Text) (all : List Statement) (k1 k2 : Option Fault) → k1 ≡ least_from None (access_faults text names text) → loops_text ≡ text → all ≡ all_loops text →
      k2 ≡ least_from k1 (loops_faults loops_text all) → k2 ≡ least_from None (access_faults text names text ++ loops text)
  both_late loops_text all k1 k2 a t l b =
      b ∙ ap (λ x. least_from k1 (loops_faults x all)) t ∙ ap (λ x. least_from k1 (loops_faults text x)) l ∙ ap (λ k. least_from k (loops text)) a
      ∙ sym (least-append None (access_faults text names text) (loops text))
