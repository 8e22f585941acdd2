-- The kernel's body of an int function returns where its text does (rule 15).
use Rattle.std.proofs.Common.{ℕ, ◌≡◌, ◌∙◌, sym, refl, List, Bool, true, false, ◌||◌}
use Rattle.std.proofs.Math.Bool.{or-false}
use Rattle.std.proofs.lemmas.Bool.{and_from, and_parts, or_left, or_right}
use Rattle.forec_tree.specs.Terms.{Statement, Declare, Nothing, Group, Assign, Invoke, If, While, For, Pause, Par, Abort, Return, Statements, no_statements, more_statements, Perhaps, absent, present, Text}
use Rattle.forec_tree.specs.Rules as rule
use Rattle.forec_kernel.specs.Terms.{Stmts, no_stmts, more_stmts}
use Rattle.forec_kernel.specs.WellFormed.{returns, some_returns}
use Rattle.text_kernel.specs.declared.names.Slot.{Slot}
use Rattle.text_kernel.specs.Lowering.{sequence, lower_statement, lower_list, lower_perhaps, scope_after, NextNumbers, Inlined}

pub sequence_returns : (list : Stmts) → returns (sequence list) ≡ some_returns list
sequence_returns no_stmts = refl
sequence_returns (more_stmts a no_stmts) = sym (or-false (returns a))
sequence_returns (more_stmts a (more_stmts b rest)) = refl

either : (x y u v : Bool) → (x || y) ≡ true → (x ≡ true → u ≡ true) → (y ≡ true → v ≡ true) → (u || v) ≡ true
either true y u v h f g = or_left u v (f refl)
either false y u v h f g = or_right u v (g h)

module _ (text : Text) (called : ℕ → Inlined) where
  mutual
    pub returns_too : (t : ℕ) (s : List Slot) (n : NextNumbers) (a : Statement) → rule.always_returns a ≡ true → returns (lower_statement text called t s n a).stmt ≡ true
    returns_too t s n (Nothing at) h = cc
    returns_too t s n (Group at body) h = sequence_returns (lower_list text called t s n body).list ∙ list_returns t s n body h
    returns_too t s n (Declare at locals) h = cc
    returns_too t s n (Assign at target op value) h = cc
    returns_too t s n (Invoke at name args) h = cc
    returns_too t s n (If at test a b) h =
        let l = lower_statement text called t s n a in
        let parts = and_parts (rule.always_returns a) (rule.perhaps_returns b) h in
        and_from (returns l.stmt) (returns (lower_perhaps text called t s l.next b).stmt) (returns_too t s n a parts.0) (perhaps_return t s l.next b parts.1)
    returns_too t s n (While at test bound body) h = cc
    returns_too t s n (For at start test step bound body) h = cc
    returns_too t s n (Pause at) h = cc
    returns_too t s n (Par at bs) h = cc
    returns_too t s n (Abort at weak immediate test body) h = cc
    returns_too t s n (Return at value) h = refl

    pub list_returns : (t : ℕ) (s : List Slot) (n : NextNumbers) (a : Statements) → rule.some_always_returns a ≡ true → some_returns (lower_list text called t s n a).list ≡ true
    list_returns t s n no_statements h = cc
    list_returns t s n (more_statements a rest) h =
        let l = lower_statement text called t s n a in
        let inner = scope_after text s n.slot a in
        either (rule.always_returns a) (rule.some_always_returns rest) (returns l.stmt) (some_returns (lower_list text called t inner l.next rest).list) h
        (λ k. returns_too t s n a k) (λ k. list_returns t inner l.next rest k)

    perhaps_return : (t : ℕ) (s : List Slot) (n : NextNumbers) (a : Perhaps) → rule.perhaps_returns a ≡ true → returns (lower_perhaps text called t s n a).stmt ≡ true
    perhaps_return t s n absent h = cc
    perhaps_return t s n (present a) h = returns_too t s n a h
