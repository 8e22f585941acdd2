-- The next free slot never falls.
use Rattle.std.proofs.Common.{ℕ, zero, suc, ◌+◌, ◌≤◌, ◌≡◌, refl, Option, Some, None, List, [], ◌∷◌, arith}
use Rattle.forec_tree.specs.Terms.{count_terms, Declared, Statement, Declare, Nothing, Group, Assign, Invoke, If, While, For, Pause, Par, Abort, Return, Statements, no_statements, more_statements, Perhaps, absent, present, Branches, no_branches, by_call, by_group, Text, PlainFunction}
use Rattle.forec_tree.specs.Pauses.{within, find_function}
use Rattle.text_kernel.specs.declared.names.Slot.{Slot}
use Rattle.text_kernel.specs.Bindings.{slots_of, params_at}
use Rattle.text_kernel.specs.Lowering.{slots_after, lower_statement, lower_list, lower_perhaps, lower_branches, scope_after, scope_after_perhaps, par_after, NextNumbers, Inlined, inlined_body, inlined_step, nothing_inlined}

pub behind_rises : (text : Text) (called : ℕ → Inlined) (slot : ℕ) (ls : List Declared) → slot ≤ slots_after text slot ls
behind_rises text called slot [] = omega arith
behind_rises text called slot (l ∷ rest) = let g = behind_rises text called (slot + slots_of l.length) rest in omega arith

module _ (text : Text) (called : ℕ → Inlined) (right : (id first t : ℕ) (n : NextNumbers) → n.slot ≤ (called id first t n).next.slot) where
  mutual
    pub rises : (t : ℕ) (s : List Slot) (n : NextNumbers) (a : Statement) → n.slot ≤ (lower_statement text called t s n a).next.slot
    rises t s n (Nothing at) = omega arith
    rises t s n (Group at body) = list_rises t s n body
    rises t s n (Declare at locals) = behind_rises text called n.slot locals
    rises t s n (Assign at target op value) = omega arith
    rises t s n (Invoke at name args) =
        let g = right name.id n.slot t (record { slot = n.slot + count_terms args; thread = n.thread; par = n.par }) in omega (arith, g)
    rises t s n (If at test a b) = let l = lower_statement text called t s n a in omega (arith, rises t s n a, perhaps_rises t s l.next b)
    rises t s n (While at test bound body) = rises t s n body
    rises t s n (For at start test step bound body) =
        let inside = scope_after_perhaps text s n.slot start in
        let i = lower_perhaps text called t s n start in
        let j = lower_perhaps text called t inside i.next step in
        let inner = scope_after_perhaps text inside i.next.slot step in
        omega (arith, perhaps_rises t s n start, perhaps_rises t inside i.next step, rises t inner j.next body)
    rises t s n (Pause at) = omega arith
    rises t s n (Par at bs) = let e = branches_rise t s n.par (record { slot = n.slot; thread = n.thread; par = par_after bs n.par }) bs in omega (arith, e)
    rises t s n (Abort at weak immediate test body) = list_rises t s n body
    rises t s n (Return at value) = omega arith

    pub list_rises : (t : ℕ) (s : List Slot) (n : NextNumbers) (a : Statements) → n.slot ≤ (lower_list text called t s n a).next.slot
    list_rises t s n no_statements = omega arith
    list_rises t s n (more_statements a rest) =
        let l = lower_statement text called t s n a in omega (arith, rises t s n a, list_rises t (scope_after text s n.slot a) l.next rest)

    pub perhaps_rises : (t : ℕ) (s : List Slot) (n : NextNumbers) (a : Perhaps) → n.slot ≤ (lower_perhaps text called t s n a).next.slot
    perhaps_rises t s n absent = omega arith
    perhaps_rises t s n (present a) = rises t s n a

    -- branches have slots of their own
    pub branches_rise : (t : ℕ) (s : List Slot) (q : ℕ) (n : NextNumbers) (bs : Branches) → (lower_branches text called t s q n bs).next.slot ≡ n.slot
    branches_rise t s q n no_branches = refl
    branches_rise t s q n (by_call name args rest) =
        let b = called name.id 0 n.thread (record { slot = count_terms args; thread = suc n.thread; par = n.par }) in
        branches_rise t s q (record { slot = n.slot; thread = b.next.thread; par = b.next.par }) rest
    branches_rise t s q n (by_group at body rest) =
        let l = lower_list text called n.thread [] (record { slot = 0; thread = suc n.thread; par = n.par }) body in
        branches_rise t s q (record { slot = n.slot; thread = l.next.thread; par = l.next.par }) rest

body_rises : (text : Text) (called : ℕ → Inlined) → ((id first t : ℕ) (n : NextNumbers) → n.slot ≤ (called id first t n).next.slot) →
    (f : Option PlainFunction) (first t : ℕ) (n : NextNumbers) → n.slot ≤ (inlined_body text called f first t n).next.slot
body_rises text called right None first t n = omega arith
body_rises text called right (Some f) first t n =
    list_rises text called right t (params_at first f.params) n f.body

pub place_rises : (text : Text) (deep id first t : ℕ) (n : NextNumbers) → n.slot ≤ (within nothing_inlined (inlined_step text) deep id first t n).next.slot
unfolding within
place_rises text zero id first t n = omega arith
place_rises text (suc deep) id first t n = body_rises text (within nothing_inlined (inlined_step text) deep) (place_rises text deep) (find_function id text) first t n
