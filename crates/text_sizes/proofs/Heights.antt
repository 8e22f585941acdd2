-- The numbers counted on the text are those of the kernel: the words of threads exactly, and how deep they are at least.
use Rattle.std.proofs.Common.{ℕ, zero, suc, ◌+◌, ◌≤◌, ◌≡◌, ◌∙◌, max, sym, ap, subst, refl, Option, Some, None, List, [], ◌∷◌, ◌++◌, arith}
use Rattle.forec_tree.specs.Terms.{count_terms, Statement, Declare, Nothing, Group, Assign, Invoke, If, While, For, Pause, Par, Abort, Return, Statements, no_statements, more_statements, Perhaps, absent, present, Branches, no_branches, by_call, by_group, Text, PlainFunction}
use Rattle.forec_tree.specs.Pauses.{within, find_function}
use Rattle.forec_kernel.specs.Terms.{Stmt, Stmts, no_stmts, more_stmts}
use Rattle.forec_kernel.specs.WellFormed.{stmt_depth, stmts_depth}
use Rattle.text_kernel.specs.declared.names.Slot.{Slot}
use Rattle.text_sizes.specs.declared.span.Span.{Span}
use Rattle.text_kernel.specs.Bindings.{params_at}
use Rattle.text_kernel.specs.Lowering as low
use Rattle.text_kernel.specs.Lowering.{sequence, ends_with, set_params, scope_after, scope_after_perhaps, par_after, after_start, then_step, NextNumbers, Made, Inlined, inlined_body, inlined_step, nothing_inlined, lower_statement, lower_list, lower_perhaps, lower_branches}
use Rattle.text_sizes.specs.TermCounts.{slots_all, statement_count}
use Rattle.text_sizes.specs.Extents.{exact}
use Rattle.text_sizes.specs.Spans.{sequence_levels, levels, levels_all, levels_perhaps, block_levels, most, most_all, most_perhaps, most_branches, words_by, levels_by, no_span, span_by, span_step}
use Rattle.text_sizes.proofs.TermCountLemmas.{stmts_length, ends_length, sets_length, length_is}
use Rattle.text_sizes.proofs.Sized.{list_slots}

-- ---- sequences

sequence_deep : (list : Stmts) (n m : ℕ) → stmts_length list ≡ n → m ≤ stmts_depth list → sequence_levels n m ≤ stmt_depth (sequence list)
sequence_deep no_stmts zero m l h = omega (arith, h)
sequence_deep no_stmts (suc n) m l h = absurd (omega (arith, l))
sequence_deep (more_stmts a no_stmts) zero m l h = absurd (omega (arith, l))
sequence_deep (more_stmts a no_stmts) (suc zero) m l h = omega (arith, h)
sequence_deep (more_stmts a no_stmts) (suc (suc n)) m l h = absurd (omega (arith, l))
sequence_deep (more_stmts a (more_stmts b rest)) zero m l h = absurd (omega (arith, l))
sequence_deep (more_stmts a (more_stmts b rest)) (suc zero) m l h = absurd (omega (arith, l))
sequence_deep (more_stmts a (more_stmts b rest)) (suc (suc n)) m l h = omega (arith, h)

ends_deep : (list : Stmts) (a : Stmt) → stmt_depth a ≤ stmts_depth (ends_with list a)
ends_deep no_stmts a = omega arith
ends_deep (more_stmts b rest) a = let e = ends_deep rest a in omega (arith, e)

after_deep : (start : Perhaps) (a loop : Stmt) (m n : ℕ) → m ≤ stmt_depth a → n ≤ stmt_depth loop → (start ≡ absent → m ≡ 0) → max m n ≤ stmt_depth (after_start start a loop)
after_deep absent a loop m n h g z = let e = z refl in omega (arith, e, g)
after_deep (present x) a loop m n h g z = omega (arith, h, g)

step_deep : (step : Perhaps) (body a : Stmt) (m n : ℕ) → n ≤ stmt_depth body → m ≤ stmt_depth a → (step ≡ absent → m ≡ 0) → max m n ≤ stmt_depth (then_step step body a)
step_deep absent body a m n h g z = let e = z refl in omega (arith, e, h)
step_deep (present x) body a m n h g z = omega (arith, h, g)

none_at : (called : ℕ → ℕ) (a : Perhaps) → a ≡ absent → levels_perhaps called a ≡ 0
none_at called a e = ap (levels_perhaps called) e

-- ---- levels

module _ (text : Text) (called : ℕ → Inlined) (known : ℕ → ℕ) (right : (id first t : ℕ) (n : NextNumbers) → known id ≤ stmt_depth (called id first t n).stmt) where
  mutual
    pub deep_is : (t : ℕ) (s : List Slot) (n : NextNumbers) (a : Statement) → levels known a ≤ stmt_depth (lower_statement text called t s n a).stmt
    deep_is t s n (Nothing at) = omega arith
    deep_is t s n (Group at body) = sequence_deep (lower_list text called t s n body).list (statement_count body) (levels_all known body) (length_is text called t s n body) (all_deep t s n body)
    deep_is t s n (Declare at locals) = omega arith
    deep_is t s n (Assign at target op value) = omega arith
    deep_is t s n (Invoke at name args) =
        let from = low.from_slot n (n.slot + count_terms args) in
        let l = called name.id n.slot t from in
        let sets = set_params text s n.slot args in
        let e = ends_deep sets l.stmt in
        let r = right name.id n.slot t from in
        sequence_deep (ends_with sets l.stmt) (suc (count_terms args)) (known name.id) (ends_length sets l.stmt ∙ ap suc (sets_length text s n.slot args)) (omega (arith, e, r))
    deep_is t s n (If at test a b) =
        let l = lower_statement text called t s n a in
        let e = deep_is t s n a in
        let d = perhaps_deep t s l.next b in
        omega (arith, e, d)
    deep_is t s n (While at test bound body) = let e = deep_is t s n body in omega (arith, e)
    deep_is t s n (For at start test step bound body) =
        let inside = scope_after_perhaps text s n.slot start in
        let i = lower_perhaps text called t s n start in
        let j = lower_perhaps text called t inside i.next step in
        let inner = scope_after_perhaps text inside i.next.slot step in
        let l = lower_statement text called t inner j.next body in
        let d = step_deep step l.stmt j.stmt (levels_perhaps known step) (levels known body) (deep_is t inner j.next body) (perhaps_deep t inside i.next step) (none_at known step) in
        after_deep start i.stmt _ (levels_perhaps known start) (1 + max (levels_perhaps known step) (levels known body)) (perhaps_deep t s n start) (omega (arith, d)) (none_at known start)
    deep_is t s n (Pause at) = omega arith
    deep_is t s n (Par at bs) = omega arith
    deep_is t s n (Abort at weak immediate test body) =
        let e = sequence_deep (lower_list text called t s n body).list (statement_count body) (levels_all known body) (length_is text called t s n body) (all_deep t s n body) in omega (arith, e)
    deep_is t s n (Return at value) = omega arith

    all_deep : (t : ℕ) (s : List Slot) (n : NextNumbers) (a : Statements) → levels_all known a ≤ stmts_depth (lower_list text called t s n a).list
    all_deep t s n no_statements = omega arith
    all_deep t s n (more_statements a rest) =
        let l = lower_statement text called t s n a in
        let e = deep_is t s n a in
        let d = all_deep t (scope_after text s n.slot a) l.next rest in
        omega (arith, e, d)

    perhaps_deep : (t : ℕ) (s : List Slot) (n : NextNumbers) (a : Perhaps) → levels_perhaps known a ≤ stmt_depth (lower_perhaps text called t s n a).stmt
    perhaps_deep t s n absent = omega arith
    perhaps_deep t s n (present a) = deep_is t s n a

  pub list_is : (t : ℕ) (s : List Slot) (n : NextNumbers) (a : Statements) → block_levels known a ≤ stmt_depth (sequence (lower_list text called t s n a).list)
  list_is t s n a = sequence_deep (lower_list text called t s n a).list (statement_count a) (levels_all known a) (length_is text called t s n a) (all_deep t s n a)

-- ---- a measure of the threads below

module _ (measure : Made → ℕ) where
  abbrev pub made_most : List Made → ℕ
  made_most [] = 0
  made_most (m ∷ a) = max (measure m) (made_most a)

  most_append : (a b : List Made) → made_most (a ++ b) ≡ max (made_most a) (made_most b)
  most_append [] b = omega arith
  most_append (m ∷ a) b = let e = most_append a b in omega (arith, e)

  -- the greatest measure on the text and in what becomes of it are related, where each thread's are
  module _
      (Related : ℕ → ℕ → Type 0) (none : Related 0 0) (joins : (a b c d : ℕ) → Related a b → Related c d → Related (max a c) (max b d))
      (text : Text) (called : ℕ → Inlined) (by_name : ℕ → ℕ → ℕ) (by_body : Statements → ℕ) (below : ℕ → ℕ)
      (names : (t p thread args : ℕ) (name : Rattle.forec_tree.specs.declared.tree.Name.Name) (n : NextNumbers) (params : ℕ) → n.slot ≡ args →
      Related (by_name name.id args) (measure (record {
        parent = t;
        par = p;
        name = Some name.id;
        params = params;
        words = (called name.id 0 thread n).next.slot;
        behind = (called name.id 0 thread n).next.thread;
        body = (called name.id 0 thread n).stmt;
        named = low.vars_of (called name.id 0 thread n).stmt ++ low.vars_made (called name.id 0 thread n).made;
      })))
      (bodies : (t p thread : ℕ) (n : NextNumbers) (body : Statements) → n.slot ≡ 0 →
      Related (by_body body) (measure (record {
        parent = t;
        par = p;
        name = None;
        params = 0;
        words = (lower_list text called thread [] n body).next.slot;
        behind = (lower_list text called thread [] n body).next.thread;
        body = sequence (lower_list text called thread [] n body).list;
        named = low.vars_of (sequence (lower_list text called thread [] n body).list) ++ low.vars_made (lower_list text called thread [] n body).made;
      })))
      (beneath : (id first t : ℕ) (n : NextNumbers) → Related (below id) (made_most (called id first t n).made)) where
    both : (x y : ℕ) (a b : List Made) → Related x (made_most a) → Related y (made_most b) → Related (max x y) (made_most (a ++ b))
    both x y a b f g = subst (Related (max x y)) (sym (most_append a b)) (joins x (made_most a) y (made_most b) f g)

    -- a thread, those below it, and the threads behind
    grouped : (x y z : ℕ) → max x (max y z) ≡ max (max x y) z
    grouped x y z = omega arith

    threaded : (x y z : ℕ) (m : Made) (a b : List Made) → Related x (measure m) → Related y (made_most a) → Related z (made_most b) → Related (max (max x y) z) (made_most (m ∷ (a ++ b)))
    threaded x y z m a b f g h =
        subst (λ k. Related k (made_most (m ∷ (a ++ b)))) (grouped x y z) (joins x (measure m) (max y z) (made_most (a ++ b)) f (both y z a b g h))

    mutual
      most_related : (t : ℕ) (s : List Slot) (n : NextNumbers) (a : Statement) → Related (most by_name by_body below a) (made_most (lower_statement text called t s n a).made)
      most_related t s n (Nothing at) = none
      most_related t s n (Group at body) = all_related t s n body
      most_related t s n (Declare at locals) = none
      most_related t s n (Assign at target op value) = none
      most_related t s n (Invoke at name args) = beneath name.id n.slot t (record { slot = n.slot + count_terms args; thread = n.thread; par = n.par })
      most_related t s n (If at test a b) =
          let l = lower_statement text called t s n a in
          both _ _ l.made _ (most_related t s n a) (perhaps_related t s l.next b)
      most_related t s n (While at test bound body) = most_related t s n body
      most_related t s n (For at start test step bound body) =
          let inside = scope_after_perhaps text s n.slot start in
          let i = lower_perhaps text called t s n start in
          let j = lower_perhaps text called t inside i.next step in
          let inner = scope_after_perhaps text inside i.next.slot step in
          let l = lower_statement text called t inner j.next body in
          both _ _ i.made (j.made ++ l.made) (perhaps_related t s n start)
          (both _ _ j.made l.made (perhaps_related t inside i.next step) (most_related t inner j.next body))
      most_related t s n (Pause at) = none
      most_related t s n (Par at bs) = branches_related t s n.par (record { slot = n.slot; thread = n.thread; par = par_after bs n.par }) bs
      most_related t s n (Abort at weak immediate test body) = all_related t s n body
      most_related t s n (Return at value) = none

      pub all_related : (t : ℕ) (s : List Slot) (n : NextNumbers) (a : Statements) → Related (most_all by_name by_body below a) (made_most (lower_list text called t s n a).made)
      all_related t s n no_statements = none
      all_related t s n (more_statements a rest) =
          let l = lower_statement text called t s n a in
          both _ _ l.made _ (most_related t s n a) (all_related t (scope_after text s n.slot a) l.next rest)

      perhaps_related : (t : ℕ) (s : List Slot) (n : NextNumbers) (a : Perhaps) → Related (most_perhaps by_name by_body below a) (made_most (lower_perhaps text called t s n a).made)
      perhaps_related t s n absent = none
      perhaps_related t s n (present a) = most_related t s n a

      branches_related : (t : ℕ) (s : List Slot) (p : ℕ) (n : NextNumbers) (bs : Branches) → Related (most_branches by_name by_body below bs) (made_most (lower_branches text called t s p n bs).made)
      branches_related t s p n no_branches = none
      branches_related t s p n (by_call name args rest) =
          let inside : NextNumbers = record { slot = count_terms args; thread = suc n.thread; par = n.par } in
          let b = called name.id 0 n.thread inside in
          let next : NextNumbers = record { slot = n.slot; thread = b.next.thread; par = b.next.par } in
          threaded _ _ _ _ b.made (lower_branches text called t s p next rest).made
          (names t p n.thread (count_terms args) name inside (Rattle.std.proofs.Common.length (low.param_names (find_function name.id text))) refl)
          (beneath name.id 0 n.thread inside) (branches_related t s p next rest)
      branches_related t s p n (by_group at body rest) =
          let inside : NextNumbers = record { slot = 0; thread = suc n.thread; par = n.par } in
          let l = lower_list text called n.thread [] inside body in
          let next : NextNumbers = record { slot = n.slot; thread = l.next.thread; par = l.next.par } in
          threaded _ _ _ _ l.made (lower_branches text called t s p next rest).made
          (bodies t p n.thread inside body refl) (all_related n.thread [] inside body) (branches_related t s p next rest)

-- ---- what is put in place is as its span tells

abbrev pub words_in : List Made → ℕ
words_in = made_most (λ m. m.words)

abbrev pub depth_in : List Made → ℕ
depth_in = made_most (λ m. stmt_depth m.body)

pub record Told (called : ℕ → Inlined) (known : ℕ → Span) : Type 0 where
  pub slots : (id first t : ℕ) (n : NextNumbers) → (called id first t n).next.slot ≡ n.slot + (known id).slots
  pub widest : (id first t : ℕ) (n : NextNumbers) → words_in (called id first t n).made ≡ (known id).widest
  pub levels : (id first t : ℕ) (n : NextNumbers) → (known id).levels ≤ stmt_depth (called id first t n).stmt
  pub deepest : (id first t : ℕ) (n : NextNumbers) → (known id).deepest ≤ depth_in (called id first t n).made

module _ (text : Text) (called : ℕ → Inlined) (known : ℕ → Span) (told : Told called known) where
  taken : (f : Option PlainFunction) (first t : ℕ) (n : NextNumbers) → (inlined_body text called f first t n).next.slot ≡ n.slot + (span_by exact known f).slots
  taken None first t n = omega arith
  taken (Some f) first t n = list_slots text called (λ g. (known g).slots) told.slots t (params_at first f.params) n f.body

  body_slots_are : (t p thread : ℕ) (n : NextNumbers) (body : Statements) → n.slot ≡ 0 → (lower_list text called thread [] n body).next.slot ≡ slots_all (λ g. (known g).slots) body
  body_slots_are t p thread n body z = let e = list_slots text called (λ g. (known g).slots) told.slots thread [] n body in omega (arith, e, z)

  wide : (f : Option PlainFunction) (first t : ℕ) (n : NextNumbers) → words_in (inlined_body text called f first t n).made ≡ (span_by exact known f).widest
  wide None first t n = refl
  wide (Some f) first t n =
      sym (all_related (λ m. m.words) (λ x y. x ≡ y) refl (λ a b c d f g. (omega (arith, f, g))) text called (words_by (λ g. (known g).slots)) (slots_all (λ g. (known g).slots)) (λ g. (known g).widest)
      (λ t p thread args name n params z. (let e = told.slots name.id 0 thread n in omega (arith, e, z))) (λ t p thread n body z. sym (body_slots_are t p thread n body z))
      (λ id first t n. sym (told.widest id first t n)) t (params_at first f.params) n f.body)

  stacked : (f : Option PlainFunction) (first t : ℕ) (n : NextNumbers) → (span_by exact known f).levels ≤ stmt_depth (inlined_body text called f first t n).stmt
  stacked None first t n = omega arith
  stacked (Some f) first t n = list_is text called (λ g. (known g).levels) told.levels t (params_at first f.params) n f.body

  deep_below : (f : Option PlainFunction) (first t : ℕ) (n : NextNumbers) → (span_by exact known f).deepest ≤ depth_in (inlined_body text called f first t n).made
  deep_below None first t n = omega arith
  deep_below (Some f) first t n =
      all_related (λ m. stmt_depth m.body) (λ x y. x ≤ y) (omega arith) (λ a b c d f g. (omega (arith, f, g))) text called (levels_by (λ g. (known g).levels)) (block_levels (λ g. (known g).levels)) (λ g. (known g).deepest) (λ t p thread args name n params z. told.levels name.id 0 thread n)
      (λ t p thread n body z. list_is text called (λ g. (known g).levels) told.levels thread [] n body) told.deepest t (params_at first f.params) n f.body

pub all_told : (text : Text) (deep : ℕ) → Told (within nothing_inlined (inlined_step text) deep) (within no_span (span_step exact text) deep)
unfolding within
all_told text zero = record { slots = λ id first t n. omega arith; widest = λ id first t n. refl; levels = λ id first t n. omega arith; deepest = λ id first t n. omega arith }
all_told text (suc deep) =
    let called = within nothing_inlined (inlined_step text) deep in
    let known = within no_span (span_step exact text) deep in
    let told = all_told text deep in
    record {
      slots = λ id first t n. taken text called known told (find_function id text) first t n;
      widest = λ id first t n. wide text called known told (find_function id text) first t n;
      levels = λ id first t n. stacked text called known told (find_function id text) first t n;
      deepest = λ id first t n. deep_below text called known told (find_function id text) first t n;
    }
