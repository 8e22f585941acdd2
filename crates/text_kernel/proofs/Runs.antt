-- A void function that is put in place, in a thread of a text without faults, is in range: by induction on the number of calls that are left.
use Rattle.std.proofs.Common.{ℕ, zero, suc, ◌+◌, ◌≤◌, ◌≡◌, sym, refl, Bool, false, not, ◌==◌, Option, Some, None, List, [], ◌∷◌, ◌++◌, append-nil, append_assoc, length, subst, arith}
use Rattle.std.proofs.lemmas.Bool.{not-true}
use Rattle.std.proofs.lemmas.Bool.Decides.{nat_tests}
use Rattle.forec_tree.specs.declared.tree.Name.{Name}
use Rattle.forec_tree.specs.declared.uses.Seen.{Seen}
use Rattle.forec_tree.specs.declared.uses.How.TheVariants.{Runs, Starts}
use Rattle.forec_tree.specs.Terms.{Statements, Text, PlainItem, PlainFunction, IsGlobal, IsFunction}
use Rattle.forec_tree.specs.Scopes.{Scope, no_scope, with_name, with_params, is_among, find_item, find_last, local_meaning, item_meaning, meaning}
use Rattle.forec_tree.specs.Findings.{Finding, in_bound, in_params, in_statements}
use Rattle.forec_tree.specs.Faults.{in_function}
use Rattle.forec_tree.specs.Rules.{Judging, fault_if, declared_faults, findings_faults}
use Rattle.forec_tree.specs.Pauses.{within, find_function}
use Rattle.forec_kernel.specs.Shapes.{PlainKernel}
use Rattle.forec_kernel.specs.WellFormed as wf
use Rattle.forec_kernel.specs.WellFormed.{FineStmt, FineStmts}
use Rattle.text_kernel.specs.declared.names.Slot.{Slot}
use Rattle.text_kernel.specs.Bindings.{params_at}
use Rattle.text_kernel.specs.Lowering.{NextNumbers, Inlined, lower_list, inlined_body, inlined_step, nothing_inlined}
use Rattle.text_kernel.proofs.Fine.{none_left, none_right, not_broken, parts_left, parts_right, GoodUse, good_use, GoodSlot, Matches, Knows}
use Rattle.text_kernel.proofs.FineStatements.{sequence_fine}
use Rattle.text_kernel.proofs.Locals.{matches_more, locals_fine}
use Rattle.text_kernel.proofs.Bounds.{while_bound, for_bound}
use Rattle.text_kernel.proofs.Grown.{inlined_grows}
use Rattle.text_kernel.proofs.Rises.{place_rises, list_rises}
use Rattle.text_kernel.proofs.Unbroken.{Unbroken}
use Rattle.text_kernel.proofs.FineBodies.{Sits, list_fine}

pub params_match : (text : Text) (j : Judging) (words : ℕ) (sc : Scope) (s : List Slot) (slot : ℕ) (ps : List Name) → Matches words sc s → findings_faults j (in_params text sc ps) ≡ [] →
    slot + length ps ≤ words → Matches words (with_params sc ps) (s ++ params_at slot ps)
params_match text j words sc s slot [] m h l = subst (Matches words sc) (sym (append-nil s)) m
params_match text j words sc s slot (p ∷ rest) m h l =
    let x : Slot = record { id = p.id; slot = slot; size = None } in
    let own = declared_faults j.names p (is_among p.id sc.here) None 0 in
    let again = not_broken (is_among p.id sc.here) p.place 2 (none_left (fault_if (is_among p.id sc.here) p.place 2) _ (none_left own (findings_faults j (in_params text (with_name sc p.id false) rest)) h)) in
    let good : GoodSlot words x = record { within = omega arith; some = omega arith; most = omega arith } in
    let next = matches_more words sc s x false refl m good again in
    subst (Matches words (with_params (with_name sc p.id false) rest)) (append_assoc s (x ∷ []) (params_at (suc slot) rest))
    (params_match text j words (with_name sc p.id false) (s ++ x ∷ []) (suc slot) rest next (none_right own (findings_faults j (in_params text (with_name sc p.id false) rest)) h) (omega arith))

-- a function that may be put in place with so many arguments
pub record Runnable (n : ℕ) (f : PlainFunction) : Type 0 where
  pub void : f.gives ≡ false
  pub params : length f.params ≡ n

right_count : (n m : ℕ) → not (n == m) ≡ false → m ≡ n
right_count n m h = grind (arith, nat_tests)

pub runnable : (gives : Bool) (n : ℕ) (o : Option Seen) (i : Option PlainItem) → GoodUse gives (Runs n) (local_meaning o (item_meaning i)) →
    (f : PlainFunction) → elim i [ None ↦ None | Some (IsGlobal g) ↦ None | Some (IsFunction f) ↦ Some f ] ≡ Some f → Runnable n f
runnable gives n (Some x) i u f e = let bad = u.fits in cc
runnable gives n None None u f e = cc
runnable gives n None (Some (IsGlobal g)) u f e = cc
runnable gives n None (Some (IsFunction h)) u f e =
    let same : h ≡ f = cc in subst (Runnable n) same (record { void = not-true h.gives u.fits; params = right_count n (length h.params) u.counts })

-- the same of a branch
pub startable : (gives : Bool) (n : ℕ) (o : Option Seen) (i : Option PlainItem) → GoodUse gives (Starts n) (local_meaning o (item_meaning i)) →
    (f : PlainFunction) → elim i [ None ↦ None | Some (IsGlobal g) ↦ None | Some (IsFunction f) ↦ Some f ] ≡ Some f → Runnable n f
startable gives n (Some x) i u f e = let bad = u.fits in cc
startable gives n None None u f e = cc
startable gives n None (Some (IsGlobal g)) u f e = cc
startable gives n None (Some (IsFunction h)) u f e =
    let same : h ≡ f = cc in subst (Runnable n) same (record { void = not-true h.gives u.fits; params = right_count n (length h.params) u.counts })

module _ (text : Text) (k : PlainKernel) (words : ℕ) (uses : List ℕ) (names : List (List ℕ)) (knows : Knows text k uses false)
    (faultless : (id : ℕ) (f : PlainFunction) → find_function id text ≡ Some f → f.gives ≡ false → findings_faults (record { names = names; gives = false }) (in_function text f) ≡ []) where
  abbrev pub judging : Judging
  judging = record { names = names; gives = false }

  abbrev scope : wf.TermScope
  scope = record { kernel = k; words = words; uses = uses }

  pub in_thread : {fs : List Finding} → findings_faults judging fs ≡ [] → Unbroken text judging fs
  in_thread h = record { rules = h; loops = λ e. cc }

  pub no_names : Matches words no_scope []
  no_names = record { same = refl; good = λ x h. elim h [ ] }

  abbrev pub Run : (deep : ℕ) → Type 0
  Run deep = (t n first id : ℕ) (from : NextNumbers) → ((f : PlainFunction) → find_function id text ≡ Some f → Runnable n f) → first + n ≤ from.slot →
      (within nothing_inlined (inlined_step text) deep id first t from).next.slot ≤ words → Sits k from.thread (within nothing_inlined (inlined_step text) deep id first t from).made →
      FineStmt false scope (within nothing_inlined (inlined_step text) deep id first t from).stmt

  -- a list of statements, where what is called is put in place up to so many calls deep
  pub list_runs : (deep : ℕ) → Run deep → (t : ℕ) (s : List Slot) (n : NextNumbers) (sc : Scope) (a : Statements) → Matches words sc s → findings_faults judging (in_statements text sc a) ≡ [] →
      (lower_list text (within nothing_inlined (inlined_step text) deep) t s n a).next.slot ≤ words →
      Sits k n.thread (lower_list text (within nothing_inlined (inlined_step text) deep) t s n a).made →
      FineStmts false scope (lower_list text (within nothing_inlined (inlined_step text) deep) t s n a).list
  list_runs deep run t s n sc a m h l z =
      list_fine text k words uses judging knows (within nothing_inlined (inlined_step text) deep) (inlined_grows text deep) (place_rises text deep)
      (λ t n first sc name from broken taken low sits. run t n first name.id from
      (runnable false n (find_last name.id None (sc.outer ++ sc.here)) (find_item name.id text) (good_use judging (Runs n) name (meaning text sc name.id) broken)) taken low (sits refl))
      (λ sc at test bound body broken. while_bound judging bound (parts_left judging (in_bound bound) _ broken.rules))
      (λ sc at start test step bound body broken. for_bound text judging at start test step bound body (parts_left judging (in_bound bound) _ broken.rules))
      (locals_fine text k words uses judging knows (within nothing_inlined (inlined_step text) deep))
      t s n sc a m (in_thread h) l (λ e. z)

  body_runs : (deep : ℕ) → Run deep → (t n first : ℕ) (from : NextNumbers) (o : Option PlainFunction) → ((f : PlainFunction) → o ≡ Some f → Runnable n f) →
      ((f : PlainFunction) → o ≡ Some f → findings_faults judging (in_function text f) ≡ []) → first + n ≤ from.slot →
      let l = inlined_body text (within nothing_inlined (inlined_step text) deep) o first t from in l.next.slot ≤ words → Sits k from.thread l.made → FineStmt false scope l.stmt
  body_runs deep run t n first from None u c h l z = tt
  body_runs deep run t n first from (Some f) u c h l z =
      let called : ℕ → Inlined = within nothing_inlined (inlined_step text) deep in
      let r = u f refl in
      let clean = c f refl in
      let inside = with_params no_scope f.params in
      let grows_up = list_rises text called (place_rises text deep) t (params_at first f.params) from f.body in
      let m = params_match text judging words no_scope [] first f.params no_names (parts_left judging (in_params text no_scope f.params) (in_statements text inside f.body) clean) (omega (arith, r.params, h, l, grows_up)) in
      sequence_fine false scope (lower_list text called t (params_at first f.params) from f.body).list
      (list_runs deep run t (params_at first f.params) from inside f.body m (parts_right judging (in_params text no_scope f.params) (in_statements text inside f.body) clean) l z)

  pub runs : (deep : ℕ) → Run deep
  unfolding within
  runs zero = λ t n first id from u h l z. tt
  runs (suc deep) = λ t n first id from u h l z.
      body_runs deep (runs deep) t n first from (find_function id text) u (λ f e. faultless id f e (u f e).void) h l z
