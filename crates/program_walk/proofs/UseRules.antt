-- One use, judged rule by rule.
use Rattle.std.proofs.Common.{ℕ, pos, ◌≡◌, ◌∙◌, sym, ap, refl, Bool, not, ◌&&◌, Option, Some, None, List, [], ◌∷◌, append-nil}
use Rattle.forec_tree.specs.declared.tree.Name.{Name}
use Rattle.forec_tree.specs.declared.fault.Fault.{Fault}
use Rattle.forec_tree.specs.declared.uses.Meaning.{Meaning}
use Rattle.forec_tree.specs.declared.uses.How.{How}
use Rattle.forec_tree.specs.Findings.{Finding, Use, Declares, Bound, Loop, in_bound}
use Rattle.forec_tree.specs.Terms.{Statement}
use Rattle.forec_tree.specs.Rules.{Judging, fault_if, is_unknown, fits_use, miscounts, argument_count, enters_main, writes, means_kind, is_input, is_constant, is_changing, runs_void, use_faults, finding_faults, length_faults, too_many, is_long, outside}
use Rattle.forec_tree.specs.declared.tree.Number.{Number}
use Rattle.fault_order.specs.Least.{least_from, judged}
use Rattle.fault_order.proofs.LeastLaws.{least-append}

pub judged_use : (j : Judging) (how : How) (name : Name) (m : Meaning) (kept : Option Fault) →
    judged j (Use how name m ∷ []) kept ≡ least_from kept (use_faults j how name m)
unfolding judged
judged_use j how name m kept = ap (least_from kept) (append-nil (use_faults j how name m))

-- eight rules, one after the other
pub use_is : (j : Judging) (how : How) (name : Name) (m : Meaning) (k0 k1 k2 k3 k4 k5 k6 k7 k8 : Option Fault) →
    k1 ≡ least_from k0 (fault_if (is_unknown m) name.place 1) →
    k2 ≡ least_from k1 (fault_if (not (fits_use how m)) name.place 4) →
    k3 ≡ least_from k2 (fault_if (miscounts (argument_count how) m) name.place 5) →
    k4 ≡ least_from k3 (fault_if (enters_main j.names (argument_count how) m name) name.place 7) →
    k5 ≡ least_from k4 (fault_if (writes how && means_kind is_input m) name.place 8) →
    k6 ≡ least_from k5 (fault_if (writes how && means_kind is_constant m) name.place 9) →
    k7 ≡ least_from k6 (fault_if (j.gives && means_kind is_changing m) name.place 11) →
    k8 ≡ least_from k7 (fault_if (j.gives && runs_void how m) name.place 13) →
    k8 ≡ judged j (Use how name m ∷ []) k0
use_is j how name m k0 k1 k2 k3 k4 k5 k6 k7 k8 e1 e2 e3 e4 e5 e6 e7 e8 =
    rw (judged_use, least-append, least-append, least-append, least-append, least-append, least-append, least-append) (cc)

pub judged_single : (j : Judging) (x : Finding) (kept : Option Fault) → judged j (x ∷ []) kept ≡ least_from kept (finding_faults j x)
unfolding judged
judged_single j x kept = ap (least_from kept) (append-nil (finding_faults j x))

pub single : (j : Judging) (x : Finding) (kept new : Option Fault) → new ≡ least_from kept (finding_faults j x) → new ≡ judged j (x ∷ []) kept
single j x kept new h = h ∙ sym (judged_single j x kept)

-- no length, no bound
pub length_none : (size : Option Number) (kept : Option Fault) → size ≡ None → kept ≡ least_from kept (length_faults size)
unfolding least_from
length_none size kept h = rw h refl

pub bound_none : (j : Judging) (bound : Option Number) (kept : Option Fault) → bound ≡ None → kept ≡ judged j (in_bound bound) kept
unfolding judged least_from
bound_none j bound kept h = rw h refl

pub bound_some : (j : Judging) (bound : Option Number) (n : Number) (kept new : Option Fault) → bound ≡ Some n →
    new ≡ least_from kept (fault_if (outside (pos 1000000) n.value) n.place 19) → new ≡ judged j (in_bound bound) kept
bound_some j bound n kept new h g = single j (Bound n) kept new g ∙ ap (λ b. judged j (in_bound b) kept) (sym h)

pub declared_is : (j : Judging) (name : Name) (again : Bool) (size : Option Number) (values : ℕ) (k0 k1 k2 k3 k4 : Option Fault) →
    k1 ≡ least_from k0 (fault_if again name.place 2) →
    k2 ≡ least_from k1 (length_faults size) →
    k3 ≡ least_from k2 (fault_if (too_many size values) name.place 18) →
    k4 ≡ least_from k3 (fault_if (is_long j.names name.id) name.place 21) →
    k4 ≡ judged j (Declares name again size values ∷ []) k0
declared_is j name again size values k0 k1 k2 k3 k4 e1 e2 e3 e4 =
    rw (judged_single, least-append, least-append, least-append) (cc)

-- a loop by itself breaks no early rule
pub judged_loop : (j : Judging) (loop : Statement) (rest : List Finding) (kept : Option Fault) → judged j (Loop loop ∷ rest) kept ≡ judged j rest kept
unfolding judged
judged_loop j loop rest kept = refl
