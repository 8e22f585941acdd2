-- In an int function that breaks no rule nothing is certain to pause, so each of its loops has a bound.
use Rattle.std.proofs.Common.{ℕ, ◌≡◌, ◌∙◌, sym, ap, refl, IsTrue, Bool, true, false, cond, not, ◌&&◌, ◌||◌, Option, Some, None, List, [], ◌∷◌, ◌++◌}
use Rattle.std.proofs.lemmas.Bool.{and_right, or_from}
use Rattle.forec_base.specs.declared.Place.{Place}
use Rattle.forec_tree.specs.declared.tree.Name.{Name}
use Rattle.forec_tree.specs.declared.tree.Number.{Number}
use Rattle.forec_tree.specs.declared.uses.Meaning.{Meaning}
use Rattle.forec_tree.specs.declared.uses.Meaning.TheVariants as means
use Rattle.forec_tree.specs.declared.uses.How.TheVariants.{Runs}
use Rattle.forec_tree.specs.Terms.{Term, count_terms, Statement, Declare, Nothing, Group, Assign, Invoke, If, While, For, Pause, Par, Abort, Return, Statements, no_statements, more_statements, Perhaps, Text}
use Rattle.forec_tree.specs.Scopes.{Scope, inner_scope, after, after_perhaps, meaning}
use Rattle.forec_tree.specs.Findings.{Finding, Loop, Synchronous, in_bound, in_term, in_terms, in_optional, in_statement, in_statements, in_perhaps, in_branches}
use Rattle.forec_tree.specs.Turns.{inferred}
use Rattle.forec_tree.specs.Pauses.{is_nonzero, always, at_least_one, certain, certain_function, certain_by, some_certain, certain_perhaps}
use Rattle.forec_tree.specs.Rules.{Judging, fault_if, is_constant, is_changing, is_input, is_unknown, means_kind, writes, enters_main, fits_use, argument_count, miscounts, runs_void, use_faults, findings_faults, endless, loop_place, loop_faults}
use Rattle.forec_kernel.specs.WellFormed.{FineBound}
use Rattle.text_kernel.specs.Bindings.{number_of}
use Rattle.text_kernel.specs.Lowering.{bound_of, or_inferred}
use Rattle.text_kernel.proofs.Fine.{none_left, none_right, not_broken, not_not, right_false, parts_left, parts_right, good_use}
use Rattle.text_kernel.proofs.Unbroken.{Unbroken}
use Rattle.text_kernel.proofs.Bounds.{AtMost, written_short, inferred_short}

clash : {P : Type 0} (b : Bool) → b ≡ true → b ≡ false → P
clash true h g = cc
clash false h g = cc

-- a void function isn't called as a statement: rule 13
no_void : (j : Judging) (n : ℕ) (name : Name) (m : Meaning) → j.gives ≡ true → use_faults j (Runs n) name m ≡ [] → runs_void (Runs n) m ≡ false
no_void j n name m g h =
    let h1 = none_right (fault_if (is_unknown m) name.place 1) _ h in
    let h4 = none_right (fault_if (not (fits_use (Runs n) m)) name.place 4) _ h1 in
    let h5 = none_right (fault_if (miscounts (argument_count (Runs n)) m) name.place 5) _ h4 in
    let h7 = none_right (fault_if (enters_main j.names (argument_count (Runs n)) m name) name.place 7) _ h5 in
    let h8 = none_right (fault_if (writes (Runs n) && means_kind is_input m) name.place 8) _ h7 in
    let h9 = none_right (fault_if (writes (Runs n) && means_kind is_constant m) name.place 9) _ h8 in
    let h11 = none_right (fault_if (j.gives && means_kind is_changing m) name.place 11) _ h9 in
    right_false j.gives (runs_void (Runs n) m) g (not_broken (j.gives && runs_void (Runs n) m) name.place 13 h11)

no_run : {P : Type 0} (j : Judging) (n : ℕ) (name : Name) (m : Meaning) → j.gives ≡ true → use_faults j (Runs n) name m ≡ [] → P
no_run {P} j n name m g h = pick m (good_use j (Runs n) name m h).known (good_use j (Runs n) name m h).fits (no_void j n name m g h)
  where
    pick : (m : Meaning) → is_unknown m ≡ false → fits_use (Runs n) m ≡ true → runs_void (Runs n) m ≡ false → P
    pick means.Unknown k f v = cc
    pick (means.Local array) k f v = cc
    pick (means.Global kind array) k f v = cc
    pick (means.Function gives params) k f v = clash (not gives) f v

module _ (text : Text) (j : Judging) (gives : j.gives ≡ true) (called : ℕ → Bool) where
  no_pause : {P : Type 0} (place : Place) (fs : List Finding) → findings_faults j (Synchronous place ∷ fs) ≡ [] → P
  no_pause place fs h = clash j.gives gives (not_broken j.gives place 12 (none_left (fault_if j.gives place 12) (findings_faults j fs) h))

  mutual
    pub certain_no : (sc : Scope) (a : Statement) → findings_faults j (in_statement text sc a) ≡ [] → certain_by text called a ≡ false
    certain_no sc (Nothing at) h = refl
    certain_no sc (Group at body) h = some_no (inner_scope sc) body h
    certain_no sc (Declare at locals) h = refl
    certain_no sc (Assign at target op value) h = refl
    certain_no sc (Invoke at name args) h =
        no_run j (count_terms args) name (meaning text sc name.id) gives (none_left (use_faults j (Runs (count_terms args)) name (meaning text sc name.id)) (findings_faults j (in_terms text sc args)) h)
    certain_no sc (If at test a b) h =
        let r = parts_right j (in_term text sc test) (in_statement text (inner_scope sc) a ++ in_perhaps text (inner_scope sc) b) h in
        ap (λ x. x && certain_perhaps text called b) (certain_no (inner_scope sc) a (parts_left j (in_statement text (inner_scope sc) a) (in_perhaps text (inner_scope sc) b) r))
    certain_no sc (While at test bound body) h =
        let r = parts_right j (in_bound bound) (in_term text sc test ++ in_statement text (inner_scope sc) body) h in
        and_right (is_nonzero test) (certain_by text called body) (certain_no (inner_scope sc) body (parts_right j (in_term text sc test) (in_statement text (inner_scope sc) body) r))
    certain_no sc (For at start test step bound body) h =
        let sc2 = after_perhaps (inner_scope sc) start in
        let sc3 = after_perhaps sc2 step in
        let r4 = in_perhaps text sc2 step ++ in_statement text (inner_scope sc3) body in
        let r3 = in_optional text sc2 test ++ r4 in
        let h2 = parts_right j (in_bound bound) (in_perhaps text (inner_scope sc) start ++ r3) h in
        let h4 = parts_right j (in_optional text sc2 test) r4 (parts_right j (in_perhaps text (inner_scope sc) start) r3 h2) in
        and_right (always test || at_least_one (inferred text (For at start test step bound body))) (certain_by text called body)
        (certain_no (inner_scope sc3) body (parts_right j (in_perhaps text sc2 step) (in_statement text (inner_scope sc3) body) h4))
    certain_no sc (Pause at) h = no_pause at [] h
    certain_no sc (Par at bs) h = no_pause at (in_branches text sc bs) h
    certain_no sc (Abort at weak immediate test body) h = no_pause at (in_term text sc test ++ in_statements text (inner_scope sc) body) h
    certain_no sc (Return at value) h = refl

    some_no : (sc : Scope) (a : Statements) → findings_faults j (in_statements text sc a) ≡ [] → some_certain text called a ≡ false
    some_no sc no_statements h = refl
    some_no sc (more_statements a rest) h =
        or_from (certain_by text called a) (some_certain text called rest)
        (certain_no sc a (parts_left j (in_statement text sc a) (in_statements text (after sc a) rest) h))
        (some_no (after sc a) rest (parts_right j (in_statement text sc a) (in_statements text (after sc a) rest) h))

-- ---- bounds

pub thread_only : (b : Bool) → b ≡ false → IsTrue (cond b false true)
thread_only true e = cc
thread_only false e = refl

-- a loop has a bound, or stands in a thread
pub bounded : (b : Bool) (o : Option ℕ) → AtMost 1000000 o → (o ≡ None → b ≡ false) → FineBound b o
bounded b None h g = thread_only b (g refl)
bounded b (Some n) h g = h n refl

not_endless : (text : Text) (j : Judging) (loop : Statement) (fs : List Finding) → j.gives ≡ true → Unbroken text j (Loop loop ∷ fs) → endless text loop ≡ false
not_endless text j loop fs g h =
    not_broken (endless text loop) (loop_place loop) 20 (none_left (fault_if (endless text loop) (loop_place loop) 20) (loop_faults text fs) (h.loops g))

module _ (text : Text) (j : Judging) (gives : j.gives ≡ true) where
  pub while_bounded : (sc : Scope) (at : Place) (test : Term) (bound : Option Number) (body : Statement) → Unbroken text j (in_statement text sc (While at test bound body)) → FineBound j.gives (bound_of bound)
  while_bounded sc at test (Some n) body h =
      bounded j.gives (Some (number_of n)) (written_short j (Some n) (parts_left j (in_bound (Some n)) (in_term text sc test ++ in_statement text (inner_scope sc) body) h.rules)) (λ e. cc)
  while_bounded sc at test None body h =
      let r = parts_right j (in_term text sc test) (in_statement text (inner_scope sc) body) h.rules in
      let sure = not_not (certain text body) (not_endless text j (While at test None body) (in_term text sc test ++ in_statement text (inner_scope sc) body) gives h) in
      clash (certain text body) sure (certain_no text j gives (certain_function text) (inner_scope sc) body r)

  for_with : (sc : Scope) (at : Place) (start : Perhaps) (test : Option Term) (step : Perhaps) (bound : Option Number) (body : Statement) (o : Option ℕ) →
      inferred text (For at start test step bound body) ≡ o → Unbroken text j (in_statement text sc (For at start test step bound body)) → FineBound j.gives (or_inferred (bound_of bound) o)
  for_with sc at start test step (Some n) body o e h =
      let sc2 = after_perhaps (inner_scope sc) start in
      let sc3 = after_perhaps sc2 step in
      let r4 = in_perhaps text sc2 step ++ in_statement text (inner_scope sc3) body in
      let r2 = in_perhaps text (inner_scope sc) start ++ (in_optional text sc2 test ++ r4) in
      bounded j.gives (Some (number_of n)) (written_short j (Some n) (parts_left j (in_bound (Some n)) r2 h.rules)) (λ d. cc)
  for_with sc at start test step None body (Some m) e h =
      bounded j.gives (Some m) (λ n d. inferred_short text at start test step None body n (e ∙ d)) (λ d. cc)
  for_with sc at start test step None body None e h =
      let sc2 = after_perhaps (inner_scope sc) start in
      let sc3 = after_perhaps sc2 step in
      let r4 = in_perhaps text sc2 step ++ in_statement text (inner_scope sc3) body in
      let r3 = in_optional text sc2 test ++ r4 in
      let h4 = parts_right j (in_optional text sc2 test) r4 (parts_right j (in_perhaps text (inner_scope sc) start) r3 h.rules) in
      let loop = For at start test step None body in
      let ends = not_endless text j loop (in_perhaps text (inner_scope sc) start ++ r3) gives h in
      let sure = not_not (certain text body) (sym (ap (λ x. Rattle.forec_tree.specs.Rules.is_none x && not (certain text body)) e) ∙ ends) in
      clash (certain text body) sure (certain_no text j gives (certain_function text) (inner_scope sc3) body (parts_right j (in_perhaps text sc2 step) (in_statement text (inner_scope sc3) body) h4))

  pub for_bounded : (sc : Scope) (at : Place) (start : Perhaps) (test : Option Term) (step : Perhaps) (bound : Option Number) (body : Statement) →
      Unbroken text j (in_statement text sc (For at start test step bound body)) → FineBound j.gives (or_inferred (bound_of bound) (inferred text (For at start test step bound body)))
  for_bounded sc at start test step bound body h = for_with sc at start test step bound body (inferred text (For at start test step bound body)) refl h
