-- The threads of a kernel are those of the tree of threads, by number.
use Rattle.std.proofs.Common.{ℕ, zero, suc, ◌+◌, ◌≡◌, ◌∙◌, sym, ap, refl, Option, Some, None, List, [], ◌∷◌, ◌++◌, append-nil, append_assoc, map, length, arith}
use Rattle.std.proofs.lemmas.List.{map-append, length-map}
use Rattle.forec_kernel.specs.Shapes.{PlainThread}
use Rattle.forec_tree.specs.Terms.{Statement, Declare, Nothing, Group, Assign, Invoke, If, While, For, Pause, Par, Abort, Return, Statements, no_statements, more_statements, Perhaps, absent, present, Branches, no_branches, by_call, by_group, Text, PlainFunction}
use Rattle.forec_tree.specs.Scopes.{Scope, no_scope, inner_scope, after, after_perhaps, with_params}
use Rattle.forec_tree.specs.Pauses.{within, find_function}
use Rattle.forec_tree.specs.ThreadTree.{InstanceTree, no_threads, thread, followed_by, ThreadPart, no_part, statement_part, all_placed, perhaps_placed, branches_placed, body_placed, placed_step, count_instances}
use Rattle.text_kernel.specs.declared.names.Slot.{Slot}
use Rattle.text_kernel.specs.Bindings.{params_at}
use Rattle.text_kernel.specs.Lowering.{NextNumbers, Made, from_slot, scope_after, scope_after_perhaps, par_after, lower_statement, lower_list, lower_perhaps, lower_branches, Inlined, inlined_body, inlined_step, nothing_inlined}
use Rattle.text_kernel.specs.Kernels.{kernel_of, root, thread_shape, main_id}
use Rattle.text_kernel.specs.Instances.{parents, ThreadsOfTree}

count_followed : (p q : InstanceTree) → count_instances (followed_by p q) ≡ count_instances p + count_instances q
count_followed no_threads q = omega arith
count_followed (thread named below rest) q = let e = count_followed rest q in omega (arith, e)

parents_followed : (t : Option ℕ) (m : ℕ) (p q : InstanceTree) → parents t m (followed_by p q) ≡ parents t m p ++ parents t (m + count_instances p) q
parents_followed t m no_threads q = let e : m ≡ m + 0 = omega arith in ap (λ n. parents t n q) e
parents_followed t m (thread named below rest) q =
    let inside = parents (Some m) (suc m) below in
    let n = suc m + count_instances below in
    let e : n + count_instances rest ≡ m + (suc (count_instances below) + count_instances rest) = omega arith in
    ap (λ l. t ∷ (inside ++ l)) (parents_followed t n rest q ∙ ap (λ i. parents t n rest ++ parents t i q) e)
    ∙ ap (λ l. t ∷ l) (sym (append_assoc inside (parents t n rest) (parents t (m + (suc (count_instances below) + count_instances rest)) q)))

parents_long : (t : Option ℕ) (m : ℕ) (p : InstanceTree) → length (parents t m p) ≡ count_instances p
parents_long t m no_threads = refl
parents_long t m (thread named below rest) =
    let inside = parents (Some m) (suc m) below in
    let behind_ = parents t (suc m + count_instances below) rest in
    omega (arith, parents_long (Some m) (suc m) below, parents_long t (suc m + count_instances below) rest, Rattle.std.proofs.Common.length-append inside behind_)

abbrev parent_in : Made → Option ℕ
parent_in m = Some m.parent

-- text of thread t adds the threads of a tree, numbered from m up to m'
record Adds (t m : ℕ) (made : List Made) (m' : ℕ) (p : InstanceTree) : Type 0 where
  pub are : map parent_in made ≡ parents (Some t) m p
  pub next : m' ≡ m + count_instances p

none : (t m : ℕ) → Adds t m [] m no_threads
none t m = record { are = refl; next = omega arith }

two : (t m m1 m2 : ℕ) (a b : List Made) (p q : InstanceTree) → Adds t m a m1 p → Adds t m1 b m2 q → Adds t m (a ++ b) m2 (followed_by p q)
two t m m1 m2 a b p q g h =
    record {
      are =
          map-append parent_in a b
          ∙ (ap (λ l. l ++ map parent_in b) g.are
          ∙ (ap (λ l. parents (Some t) m p ++ l) (h.are ∙ ap (λ n. parents (Some t) n q) g.next) ∙ sym (parents_followed (Some t) m p q)));
      next = let e = count_followed p q in omega (arith, e, g.next, h.next);
    }

branch_first : (t m m1 m2 : ℕ) (x : Made) (a b : List Made) (named : List ℕ) (p q : InstanceTree) → x.parent ≡ t → Adds m (suc m) a m1 p → Adds t m1 b m2 q →
    Adds t m (x ∷ (a ++ b)) m2 (thread named p q)
branch_first t m m1 m2 x a b named p q e g h =
    record {
      are =
          ap (λ i. Some i ∷ map parent_in (a ++ b)) e
          ∙ ap (λ l. Some t ∷ l)
          (map-append parent_in a b
          ∙ (ap (λ l. l ++ map parent_in b) g.are
          ∙ ap (λ l. parents (Some m) (suc m) p ++ l) (h.are ∙ ap (λ n. parents (Some t) n q) g.next)));
      next = omega (arith, g.next, h.next);
    }

module _ (text : Text) (called : ℕ → Inlined) (tree : ℕ → ThreadPart)
    (right : (id first t : ℕ) (n : NextNumbers) → Adds t n.thread (called id first t n).made (called id first t n).next.thread (tree id).below)
  where
    mutual
      one : (t : ℕ) (s : List Slot) (n : NextNumbers) (sc : Scope) (a : Statement) →
          Adds t n.thread (lower_statement text called t s n a).made (lower_statement text called t s n a).next.thread (statement_part text tree sc a).below
      one t s n sc (Nothing at) = none t n.thread
      one t s n sc (Group at body) = all t s n (inner_scope sc) body
      one t s n sc (Declare at locals) = none t n.thread
      one t s n sc (Assign at target op value) = none t n.thread
      one t s n sc (Invoke at name args) = right name.id n.slot t (from_slot n (n.slot + Rattle.forec_tree.specs.Terms.count_terms args))
      one t s n sc (If at test a b) =
          let l = lower_statement text called t s n a in
          two t n.thread l.next.thread _ _ _ _ _ (one t s n (inner_scope sc) a) (maybe t s l.next (inner_scope sc) b)
      one t s n sc (While at test bound body) = one t s n (inner_scope sc) body
      one t s n sc (For at start test step bound body) =
          let inside = scope_after_perhaps text s n.slot start in
          let i = lower_perhaps text called t s n start in
          let j = lower_perhaps text called t inside i.next step in
          let own = after_perhaps (inner_scope sc) start in
          two t n.thread i.next.thread _ _ _ _ _ (maybe t s n (inner_scope sc) start)
          (two t i.next.thread j.next.thread _ _ _ _ _ (maybe t inside i.next own step)
          (one t (scope_after_perhaps text inside i.next.slot step) j.next (inner_scope (after_perhaps own step)) body))
      one t s n sc (Pause at) = none t n.thread
      one t s n sc (Par at bs) = each t s n.par (record { slot = n.slot; thread = n.thread; par = par_after bs n.par }) sc bs
      one t s n sc (Abort at weak immediate test body) = all t s n (inner_scope sc) body
      one t s n sc (Return at value) = none t n.thread

      all : (t : ℕ) (s : List Slot) (n : NextNumbers) (sc : Scope) (list : Statements) →
          Adds t n.thread (lower_list text called t s n list).made (lower_list text called t s n list).next.thread (all_placed text tree sc list).below
      all t s n sc no_statements = none t n.thread
      all t s n sc (more_statements a rest) =
          let l = lower_statement text called t s n a in
          two t n.thread l.next.thread _ _ _ _ _ (one t s n sc a) (all t (scope_after text s n.slot a) l.next (after sc a) rest)

      maybe : (t : ℕ) (s : List Slot) (n : NextNumbers) (sc : Scope) (a : Perhaps) →
          Adds t n.thread (lower_perhaps text called t s n a).made (lower_perhaps text called t s n a).next.thread (perhaps_placed text tree sc a).below
      maybe t s n sc absent = none t n.thread
      maybe t s n sc (present a) = one t s n sc a

      each : (t : ℕ) (s : List Slot) (par : ℕ) (n : NextNumbers) (sc : Scope) (bs : Branches) →
          Adds t n.thread (lower_branches text called t s par n bs).made (lower_branches text called t s par n bs).next.thread (branches_placed text tree sc bs).below
      each t s par n sc no_branches = none t n.thread
      each t s par n sc (by_call name args rest) =
          let inner : NextNumbers = record { slot = Rattle.forec_tree.specs.Terms.count_terms args; thread = suc n.thread; par = n.par } in
          let b = called name.id 0 n.thread inner in
          branch_first t n.thread b.next.thread _ _ _ _ _ _ _ refl (right name.id 0 n.thread inner)
          (each t s par (record { slot = n.slot; thread = b.next.thread; par = b.next.par }) sc rest)
      each t s par n sc (by_group at body rest) =
          let inner : NextNumbers = record { slot = 0; thread = suc n.thread; par = n.par } in
          let l = lower_list text called n.thread [] inner body in
          branch_first t n.thread l.next.thread _ _ _ _ _ _ _ refl (all n.thread [] inner no_scope body)
          (each t s par (record { slot = n.slot; thread = l.next.thread; par = l.next.par }) sc rest)

    in_body : (f : Option PlainFunction) (first t : ℕ) (n : NextNumbers) →
        Adds t n.thread (inlined_body text called f first t n).made (inlined_body text called f first t n).next.thread (body_placed text tree f).below
    in_body None first t n = none t n.thread
    in_body (Some f) first t n = all t (params_at first f.params) n (with_params no_scope f.params) f.body

in_turn : (text : Text) (deep id first t : ℕ) (n : NextNumbers) →
    Adds t n.thread (within nothing_inlined (inlined_step text) deep id first t n).made (within nothing_inlined (inlined_step text) deep id first t n).next.thread
    (within no_part (placed_step text) deep id).below
unfolding within
in_turn text zero id first t n = none t n.thread
in_turn text (suc deep) id first t n =
    in_body text (within nothing_inlined (inlined_step text) deep) (within no_part (placed_step text) deep) (in_turn text deep) (find_function id text) first t n

module _ (text : Text) (names : List (List ℕ)) where
  abbrev below : InstanceTree
  below = (within no_part (placed_step text) (length text) (main_id text names)).below

  root_adds : Adds 0 1 (root text names).made (root text names).next.thread below
  root_adds = in_turn text (length text) (main_id text names) 0 0 (record { slot = 0; thread = 1; par = 0 })

  shapes : (a : List Made) → map (λ (s : PlainThread). s.parent) (map (thread_shape text names) a) ≡ map parent_in a
  shapes [] = refl
  shapes (m ∷ a) = ap (λ l. Some m.parent ∷ l) (shapes a)

  pub threads_of_tree : ThreadsOfTree text (main_id text names) (kernel_of text names)
  unfolding kernel_of
  threads_of_tree =
      let g = root_adds in
      let own = parents (Some 0) 1 below in
      record {
        parents =
            ap (λ l. None ∷ l) (shapes (root text names).made ∙ g.are ∙ sym (append-nil own));
        count =
            let e = ap (λ l. length l) g.are in
            omega (arith, e, length-map (root text names).made parent_in, length-map (root text names).made (λ m. m.body), parents_long (Some 0) 1 below);
      }
