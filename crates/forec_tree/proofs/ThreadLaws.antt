-- The number of thread instances is the size of the tree of threads.
use Rattle.std.proofs.Common.{ℕ, zero, suc, ◌+◌, ◌≡◌, refl, Option, Some, None, length, arith}
use Rattle.forec_tree.specs.Terms.{Statement, Declare, Nothing, Group, Assign, Invoke, If, While, For, Pause, Par, Abort, Return, Statements, no_statements, more_statements, Perhaps, absent, present, Branches, no_branches, by_call, by_group, Text, PlainFunction}
use Rattle.forec_tree.specs.Scopes.{Scope, no_scope, inner_scope, after, after_perhaps, with_params}
use Rattle.forec_tree.specs.Pauses.{within, find_function}
use Rattle.forec_tree.specs.Threads.{below, below_all, below_perhaps, below_branches, body_below, below_step, instances}
use Rattle.forec_tree.specs.ThreadTree.{InstanceTree, no_threads, thread, followed_by, ThreadPart, no_part, statement_part, all_placed, perhaps_placed, branches_placed, body_placed, placed_step, thread_tree, count_instances}

abbrev size : ThreadPart → ℕ
size a = count_instances a.below

size_followed : (ts us : InstanceTree) → count_instances (followed_by ts us) ≡ count_instances ts + count_instances us
size_followed no_threads us = omega arith
size_followed (thread named below rest) us = let e = size_followed rest us in omega (arith, e)

size_two : (ts us : InstanceTree) (m n : ℕ) → count_instances ts ≡ m → count_instances us ≡ n → count_instances (followed_by ts us) ≡ m + n
size_two ts us m n h k = let e = size_followed ts us in omega (arith, e)

module _ (text : Text) (called : ℕ → ThreadPart) (counts : ℕ → ℕ) (right : (id : ℕ) → size (called id) ≡ counts id) where
  mutual
    size_of : (s : Scope) (a : Statement) → size (statement_part text called s a) ≡ below counts a
    size_of s (Nothing at) = refl
    size_of s (Group at body) = size_all (inner_scope s) body
    size_of s (Declare at locals) = refl
    size_of s (Assign at target op value) = refl
    size_of s (Invoke at name args) = right name.id
    size_of s (If at test a b) = size_two _ _ _ _ (size_of (inner_scope s) a) (size_perhaps (inner_scope s) b)
    size_of s (While at test bound body) = size_of (inner_scope s) body
    size_of s (For at start test step bound body) =
        let inside = after_perhaps (inner_scope s) start in
        size_two _ _ _ _ (size_perhaps (inner_scope s) start)
        (size_two _ _ _ _ (size_perhaps inside step) (size_of (inner_scope (after_perhaps inside step)) body))
    size_of s (Pause at) = refl
    size_of s (Par at bs) = size_branches s bs
    size_of s (Abort at weak immediate test body) = size_all (inner_scope s) body
    size_of s (Return at value) = refl

    size_all : (s : Scope) (list : Statements) → size (all_placed text called s list) ≡ below_all counts list
    size_all s no_statements = refl
    size_all s (more_statements a rest) = size_two _ _ _ _ (size_of s a) (size_all (after s a) rest)

    size_perhaps : (s : Scope) (a : Perhaps) → size (perhaps_placed text called s a) ≡ below_perhaps counts a
    size_perhaps s absent = refl
    size_perhaps s (present a) = size_of s a

    size_branches : (s : Scope) (bs : Branches) → size (branches_placed text called s bs) ≡ below_branches counts bs
    size_branches s no_branches = refl
    size_branches s (by_call name args rest) = let e = right name.id in let d = size_branches s rest in omega (arith, e, d)
    size_branches s (by_group at body rest) = let e = size_all no_scope body in let d = size_branches s rest in omega (arith, e, d)

size_body : (text : Text) (called : ℕ → ThreadPart) (counts : ℕ → ℕ) → ((id : ℕ) → size (called id) ≡ counts id) → (f : Option PlainFunction) →
    size (body_placed text called f) ≡ body_below counts f
size_body text called counts right None = refl
size_body text called counts right (Some f) = size_all text called counts right (with_params no_scope f.params) f.body

size_within : (text : Text) (n id : ℕ) → size (within no_part (placed_step text) n id) ≡ within 0 (below_step text) n id
unfolding within
size_within text zero id = refl
size_within text (suc n) id =
    size_body text (within no_part (placed_step text) n) (within 0 (below_step text) n) (size_within text n) (find_function id text)

pub tree_size : (text : Text) (first : ℕ) → count_instances (thread_tree text first) ≡ instances text first
tree_size text first = let e = size_within text (length text) first in omega (arith, e)
