-- The counts on the text are those of the kernel: threads below, slots, and the terms of the threads below.
use Rattle.std.proofs.Common.{ℕ, zero, suc, ◌+◌, ◌≡◌, refl, Option, Some, None, List, [], ◌∷◌, ◌++◌, length, length-append, arith}
use Rattle.forec_tree.specs.Terms.{count_terms, Declared, Statement, Declare, Nothing, Group, Assign, Invoke, If, While, For, Pause, Par, Abort, Return, Statements, no_statements, more_statements, Perhaps, absent, present, Branches, no_branches, by_call, by_group, Text, PlainFunction}
use Rattle.forec_tree.specs.Pauses.{within, find_function}
use Rattle.forec_tree.specs.Threads.{below, below_all, below_perhaps, below_branches, body_below, below_step}
use Rattle.forec_kernel.specs.WellFormed.{stmt_terms}
use Rattle.text_kernel.specs.declared.names.Slot.{Slot}
use Rattle.text_kernel.specs.Bindings.{params_at, slots_of}
use Rattle.text_kernel.specs.Lowering.{sequence, slots_after, scope_after, scope_after_perhaps, par_after, NextNumbers, Made, Inlined, inlined_body, inlined_step, nothing_inlined, lower_statement, lower_list, lower_perhaps, lower_branches}
use Rattle.text_kernel.proofs.Rises.{branches_rise}
use Rattle.text_sizes.specs.TermCounts.{locals_slots, slots, slots_all, slots_perhaps, under, under_all, under_perhaps, under_branches, sequence_count, statement_count, own_all, body_slots, slots_step}
use Rattle.text_sizes.proofs.TermCountLemmas.{sequence_as, all_is, length_is}

module _ (text : Text) (called : ℕ → Inlined) (count : ℕ → ℕ) (right : (id first t : ℕ) (n : NextNumbers) → length (called id first t n).made ≡ count id) where
  mutual
    pub threads_are : (t : ℕ) (s : List Slot) (n : NextNumbers) (a : Statement) → length (lower_statement text called t s n a).made ≡ below count a
    threads_are t s n (Nothing at) = refl
    threads_are t s n (Group at body) = list_threads t s n body
    threads_are t s n (Declare at locals) = refl
    threads_are t s n (Assign at target op value) = refl
    threads_are t s n (Invoke at name args) = right name.id n.slot t (record { slot = n.slot + count_terms args; thread = n.thread; par = n.par })
    threads_are t s n (If at test a b) =
        let l = lower_statement text called t s n a in
        let m = lower_perhaps text called t s l.next b in
        let e = length-append l.made m.made in omega (arith, e, threads_are t s n a, perhaps_threads t s l.next b)
    threads_are t s n (While at test bound body) = threads_are t s n body
    threads_are t s n (For at start test step bound body) =
        let inside = scope_after_perhaps text s n.slot start in
        let i = lower_perhaps text called t s n start in
        let j = lower_perhaps text called t inside i.next step in
        let inner = scope_after_perhaps text inside i.next.slot step in
        let l = lower_statement text called t inner j.next body in
        let e = length-append i.made (j.made ++ l.made) in
        let d = length-append j.made l.made in
        omega (arith, e, d, perhaps_threads t s n start, perhaps_threads t inside i.next step, threads_are t inner j.next body)
    threads_are t s n (Pause at) = refl
    threads_are t s n (Par at bs) = branches_threads t s n.par (record { slot = n.slot; thread = n.thread; par = par_after bs n.par }) bs
    threads_are t s n (Abort at weak immediate test body) = list_threads t s n body
    threads_are t s n (Return at value) = refl

    pub list_threads : (t : ℕ) (s : List Slot) (n : NextNumbers) (a : Statements) → length (lower_list text called t s n a).made ≡ below_all count a
    list_threads t s n no_statements = refl
    list_threads t s n (more_statements a rest) =
        let l = lower_statement text called t s n a in
        let inner = scope_after text s n.slot a in
        let m = lower_list text called t inner l.next rest in
        let e = length-append l.made m.made in omega (arith, e, threads_are t s n a, list_threads t inner l.next rest)

    perhaps_threads : (t : ℕ) (s : List Slot) (n : NextNumbers) (a : Perhaps) → length (lower_perhaps text called t s n a).made ≡ below_perhaps count a
    perhaps_threads t s n absent = refl
    perhaps_threads t s n (present a) = threads_are t s n a

    branches_threads : (t : ℕ) (s : List Slot) (p : ℕ) (n : NextNumbers) (bs : Branches) → length (lower_branches text called t s p n bs).made ≡ below_branches count bs
    branches_threads t s p n no_branches = refl
    branches_threads t s p n (by_call name args rest) =
        let inside : NextNumbers = record { slot = count_terms args; thread = suc n.thread; par = n.par } in
        let b = called name.id 0 n.thread inside in
        let next : NextNumbers = record { slot = n.slot; thread = b.next.thread; par = b.next.par } in
        let m = lower_branches text called t s p next rest in
        let e = length-append b.made m.made in omega (arith, e, right name.id 0 n.thread inside, branches_threads t s p next rest)
    branches_threads t s p n (by_group at body rest) =
        let inside : NextNumbers = record { slot = 0; thread = suc n.thread; par = n.par } in
        let l = lower_list text called n.thread [] inside body in
        let next : NextNumbers = record { slot = n.slot; thread = l.next.thread; par = l.next.par } in
        let m = lower_branches text called t s p next rest in
        let e = length-append l.made m.made in omega (arith, e, list_threads n.thread [] inside body, branches_threads t s p next rest)

body_threads : (text : Text) (called : ℕ → Inlined) (count : ℕ → ℕ) → ((id first t : ℕ) (n : NextNumbers) → length (called id first t n).made ≡ count id) →
    (f : Option PlainFunction) (first t : ℕ) (n : NextNumbers) → length (inlined_body text called f first t n).made ≡ body_below count f
body_threads text called count right None first t n = refl
body_threads text called count right (Some f) first t n = list_threads text called count right t (params_at first f.params) n f.body

-- the threads below a function that is put in place
pub place_threads : (text : Text) (deep id first t : ℕ) (n : NextNumbers) →
    length (within nothing_inlined (inlined_step text) deep id first t n).made ≡ within 0 (below_step text) deep id
unfolding within
place_threads text zero id first t n = refl
place_threads text (suc deep) id first t n =
    body_threads text (within nothing_inlined (inlined_step text) deep) (within 0 (below_step text) deep) (place_threads text deep) (find_function id text) first t n

-- ---- slots

behind_is : (text : Text) (slot : ℕ) (ls : List Declared) → slots_after text slot ls ≡ slot + locals_slots ls
behind_is text slot [] = omega arith
behind_is text slot (l ∷ rest) = let e = behind_is text (slot + slots_of l.length) rest in omega (arith, e)

module _ (text : Text) (called : ℕ → Inlined) (count : ℕ → ℕ) (right : (id first t : ℕ) (n : NextNumbers) → (called id first t n).next.slot ≡ n.slot + count id) where
  branches_slots : (t : ℕ) (s : List Slot) (p : ℕ) (n : NextNumbers) (bs : Branches) → (lower_branches text called t s p n bs).next.slot ≡ n.slot
  branches_slots = branches_rise text called (λ id first t n. (let e = right id first t n in omega (arith, e)))

  mutual
    pub slots_are : (t : ℕ) (s : List Slot) (n : NextNumbers) (a : Statement) → (lower_statement text called t s n a).next.slot ≡ n.slot + slots count a
    slots_are t s n (Nothing at) = omega arith
    slots_are t s n (Group at body) = list_slots t s n body
    slots_are t s n (Declare at locals) = behind_is text n.slot locals
    slots_are t s n (Assign at target op value) = omega arith
    slots_are t s n (Invoke at name args) = let e = right name.id n.slot t (record { slot = n.slot + count_terms args; thread = n.thread; par = n.par }) in omega (arith, e)
    slots_are t s n (If at test a b) =
        let l = lower_statement text called t s n a in omega (arith, slots_are t s n a, perhaps_slots t s l.next b)
    slots_are t s n (While at test bound body) = slots_are t s n body
    slots_are t s n (For at start test step bound body) =
        let inside = scope_after_perhaps text s n.slot start in
        let i = lower_perhaps text called t s n start in
        let j = lower_perhaps text called t inside i.next step in
        let inner = scope_after_perhaps text inside i.next.slot step in
        omega (arith, perhaps_slots t s n start, perhaps_slots t inside i.next step, slots_are t inner j.next body)
    slots_are t s n (Pause at) = omega arith
    slots_are t s n (Par at bs) = let e = branches_slots t s n.par (record { slot = n.slot; thread = n.thread; par = par_after bs n.par }) bs in omega (arith, e)
    slots_are t s n (Abort at weak immediate test body) = list_slots t s n body
    slots_are t s n (Return at value) = omega arith

    pub list_slots : (t : ℕ) (s : List Slot) (n : NextNumbers) (a : Statements) → (lower_list text called t s n a).next.slot ≡ n.slot + slots_all count a
    list_slots t s n no_statements = omega arith
    list_slots t s n (more_statements a rest) =
        let l = lower_statement text called t s n a in omega (arith, slots_are t s n a, list_slots t (scope_after text s n.slot a) l.next rest)

    perhaps_slots : (t : ℕ) (s : List Slot) (n : NextNumbers) (a : Perhaps) → (lower_perhaps text called t s n a).next.slot ≡ n.slot + slots_perhaps count a
    perhaps_slots t s n absent = omega arith
    perhaps_slots t s n (present a) = slots_are t s n a

body_takes : (text : Text) (called : ℕ → Inlined) (count : ℕ → ℕ) → ((id first t : ℕ) (n : NextNumbers) → (called id first t n).next.slot ≡ n.slot + count id) →
    (f : Option PlainFunction) (first t : ℕ) (n : NextNumbers) → (inlined_body text called f first t n).next.slot ≡ n.slot + body_slots count f
body_takes text called count right None first t n = omega arith
body_takes text called count right (Some f) first t n = list_slots text called count right t (params_at first f.params) n f.body

-- the slots that a function takes that is put in place, after its parameters
pub place_slots : (text : Text) (deep id first t : ℕ) (n : NextNumbers) →
    (within nothing_inlined (inlined_step text) deep id first t n).next.slot ≡ n.slot + within 0 (slots_step text) deep id
unfolding within
place_slots text zero id first t n = omega arith
place_slots text (suc deep) id first t n =
    body_takes text (within nothing_inlined (inlined_step text) deep) (within 0 (slots_step text) deep) (place_slots text deep) (find_function id text) first t n

-- ---- the terms of the threads below

abbrev pub made_terms : List Made → ℕ
made_terms [] = 0
made_terms (m ∷ a) = stmt_terms m.body + made_terms a

made_append : (a b : List Made) → made_terms (a ++ b) ≡ made_terms a + made_terms b
made_append [] b = omega arith
made_append (m ∷ a) b = let e = made_append a b in omega (arith, e)

module _
    (text : Text) (called : ℕ → Inlined) (sizes count : ℕ → ℕ) (right : (id first t : ℕ) (n : NextNumbers) → stmt_terms (called id first t n).stmt ≡ sizes id)
    (beneath : (id first t : ℕ) (n : NextNumbers) → made_terms (called id first t n).made ≡ count id) where
  mutual
    pub under_is : (t : ℕ) (s : List Slot) (n : NextNumbers) (a : Statement) → made_terms (lower_statement text called t s n a).made ≡ under sizes count a
    under_is t s n (Nothing at) = refl
    under_is t s n (Group at body) = list_under t s n body
    under_is t s n (Declare at locals) = refl
    under_is t s n (Assign at target op value) = refl
    under_is t s n (Invoke at name args) = beneath name.id n.slot t (record { slot = n.slot + count_terms args; thread = n.thread; par = n.par })
    under_is t s n (If at test a b) =
        let l = lower_statement text called t s n a in
        let m = lower_perhaps text called t s l.next b in
        let e = made_append l.made m.made in omega (arith, e, under_is t s n a, perhaps_under t s l.next b)
    under_is t s n (While at test bound body) = under_is t s n body
    under_is t s n (For at start test step bound body) =
        let inside = scope_after_perhaps text s n.slot start in
        let i = lower_perhaps text called t s n start in
        let j = lower_perhaps text called t inside i.next step in
        let inner = scope_after_perhaps text inside i.next.slot step in
        let l = lower_statement text called t inner j.next body in
        let e = made_append i.made (j.made ++ l.made) in
        let d = made_append j.made l.made in
        omega (arith, e, d, perhaps_under t s n start, perhaps_under t inside i.next step, under_is t inner j.next body)
    under_is t s n (Pause at) = refl
    under_is t s n (Par at bs) = branches_under t s n.par (record { slot = n.slot; thread = n.thread; par = par_after bs n.par }) bs
    under_is t s n (Abort at weak immediate test body) = list_under t s n body
    under_is t s n (Return at value) = refl

    pub list_under : (t : ℕ) (s : List Slot) (n : NextNumbers) (a : Statements) → made_terms (lower_list text called t s n a).made ≡ under_all sizes count a
    list_under t s n no_statements = refl
    list_under t s n (more_statements a rest) =
        let l = lower_statement text called t s n a in
        let inner = scope_after text s n.slot a in
        let m = lower_list text called t inner l.next rest in
        let e = made_append l.made m.made in omega (arith, e, under_is t s n a, list_under t inner l.next rest)

    perhaps_under : (t : ℕ) (s : List Slot) (n : NextNumbers) (a : Perhaps) → made_terms (lower_perhaps text called t s n a).made ≡ under_perhaps sizes count a
    perhaps_under t s n absent = refl
    perhaps_under t s n (present a) = under_is t s n a

    branches_under : (t : ℕ) (s : List Slot) (p : ℕ) (n : NextNumbers) (bs : Branches) → made_terms (lower_branches text called t s p n bs).made ≡ under_branches sizes count bs
    branches_under t s p n no_branches = refl
    branches_under t s p n (by_call name args rest) =
        let inside : NextNumbers = record { slot = count_terms args; thread = suc n.thread; par = n.par } in
        let b = called name.id 0 n.thread inside in
        let next : NextNumbers = record { slot = n.slot; thread = b.next.thread; par = b.next.par } in
        let m = lower_branches text called t s p next rest in
        let e = made_append b.made m.made in
        omega (arith, e, right name.id 0 n.thread inside, beneath name.id 0 n.thread inside, branches_under t s p next rest)
    branches_under t s p n (by_group at body rest) =
        let inside : NextNumbers = record { slot = 0; thread = suc n.thread; par = n.par } in
        let l = lower_list text called n.thread [] inside body in
        let next : NextNumbers = record { slot = n.slot; thread = l.next.thread; par = l.next.par } in
        let m = lower_branches text called t s p next rest in
        let e = made_append l.made m.made in
        let own : stmt_terms (sequence l.list) ≡ sequence_count (statement_count body) (own_all sizes body) = sequence_as l.list _ _ (length_is text called n.thread [] inside body) (all_is text called sizes right n.thread [] inside body) in
        omega (arith, e, own, list_under n.thread [] inside body, branches_under t s p next rest)
