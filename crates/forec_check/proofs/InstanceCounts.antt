-- The instances that start in each function, counted in an order.
use Rattle.std.proofs.Common.{ℕ, zero, suc, ◌+◌, ◌-◌, ◌^◌, ◌≡◌, ◌∙◌, ◌==◌, min, ap, refl, true, cond, Option, Some, None, List, [], ◌∷◌, ◌++◌, length, arith}
use Rattle.std.proofs.lemmas.Bool.Decides.{nat_tests}
use Rattle.forec_tree.specs.Terms.{Statement, Declare, Nothing, Group, Assign, Invoke, If, While, For, Pause, Par, Abort, Return, Statements, no_statements, more_statements, Perhaps, absent, present, Branches, no_branches, by_call, by_group, Text, PlainFunction}
use Rattle.forec_tree.specs.Pauses.{within, find_function, started_names, all_started, perhaps_started, branches_started, function_callees, callees_of}
use Rattle.forec_tree.specs.Threads.{below, below_all, below_perhaps, below_branches, body_below, below_step, instances}
use Rattle.forec_tree.specs.Faults.{is_in, Leads}
use Rattle.forec_tree.proofs.CappedSums.{below_all_capped}
use Rattle.loop_check.specs.Graph.{IsOrder}
use Rattle.loop_check.specs.Known.{Read, started_in}
use Rattle.forec_check.specs.Table.{Settles}
use Rattle.forec_check.specs.Instances.{count_at, capped_below, count_of}
use Rattle.forec_check.proofs.Started.{in_left, in_right}
use Rattle.forec_check.proofs.TableLemmas.{started_settles}

pub nothing_counted : (h : ℕ) → count_at [] h ≡ 0
nothing_counted zero = refl
nothing_counted (suc h) = refl

-- ---- the count of a text depends on the functions that it calls or starts alone

here_in : (id : ℕ) (xs : List ℕ) → is_in id (id ∷ xs) ≡ true
here_in id xs = let s : (id == id) ≡ true = grind (arith, nat_tests) in ap (λ b. cond b true (is_in id xs)) s

abbrev Agree : (ℕ → ℕ) → (ℕ → ℕ) → List ℕ → Type 0
Agree a b gs = (g : ℕ) → is_in g gs ≡ true → a g ≡ b g

module _ (a b : ℕ → ℕ) where
  on_left : (xs ys : List ℕ) → Agree a b (xs ++ ys) → Agree a b xs
  on_left xs ys h g i = h g (in_left g xs ys i)

  on_right : (xs ys : List ℕ) → Agree a b (xs ++ ys) → Agree a b ys
  on_right xs ys h g i = h g (in_right g xs ys i)

  mutual
    below_same : (s : Statement) → Agree a b (started_names s) → below a s ≡ below b s
    below_same (Nothing at) h = refl
    below_same (Group at body) h = all_same body h
    below_same (Declare at locals) h = refl
    below_same (Assign at target op value) h = refl
    below_same (Invoke at name args) h = h name.id (here_in name.id [])
    below_same (If at test x y) h =
        ap (λ n. n + below_perhaps a y) (below_same x (on_left (started_names x) (perhaps_started y) h))
        ∙ ap (λ n. below b x + n) (perhaps_same y (on_right (started_names x) (perhaps_started y) h))
    below_same (While at test bound body) h = below_same body h
    below_same (For at start test step bound body) h =
        let rest = on_right (perhaps_started start) (perhaps_started step ++ started_names body) h in
        ap (λ n. n + (below_perhaps a step + below a body)) (perhaps_same start (on_left (perhaps_started start) (perhaps_started step ++ started_names body) h))
        ∙ (ap (λ n. below_perhaps b start + (n + below a body)) (perhaps_same step (on_left (perhaps_started step) (started_names body) rest))
        ∙ ap (λ n. below_perhaps b start + (below_perhaps b step + n)) (below_same body (on_right (perhaps_started step) (started_names body) rest)))
    below_same (Pause at) h = refl
    below_same (Par at bs) h = branches_same bs h
    below_same (Abort at weak immediate test body) h = all_same body h
    below_same (Return at value) h = refl

    all_same : (s : Statements) → Agree a b (all_started s) → below_all a s ≡ below_all b s
    all_same no_statements h = refl
    all_same (more_statements x rest) h =
        ap (λ n. n + below_all a rest) (below_same x (on_left (started_names x) (all_started rest) h))
        ∙ ap (λ n. below b x + n) (all_same rest (on_right (started_names x) (all_started rest) h))

    perhaps_same : (s : Perhaps) → Agree a b (perhaps_started s) → below_perhaps a s ≡ below_perhaps b s
    perhaps_same absent h = refl
    perhaps_same (present x) h = below_same x h

    branches_same : (s : Branches) → Agree a b (branches_started s) → below_branches a s ≡ below_branches b s
    branches_same no_branches h = refl
    branches_same (by_call name args rest) h =
        ap (λ n. suc n + below_branches a rest) (h name.id (here_in name.id (branches_started rest)))
        ∙ ap (λ n. suc (b name.id) + n) (branches_same rest (on_right (name.id ∷ []) (branches_started rest) h))
    branches_same (by_group at body rest) h =
        ap (λ n. suc n + below_branches a rest) (all_same body (on_left (all_started body) (branches_started rest) h))
        ∙ ap (λ n. suc (below_all b body) + n) (branches_same rest (on_right (all_started body) (branches_started rest) h))

  body_same : (f : Option PlainFunction) → Agree a b (function_callees f) → body_below a f ≡ body_below b f
  body_same None h = refl
  body_same (Some f) h = all_same f.body h

-- ---- counts at the cap

body_capped : (a : ℕ → ℕ) (f : Option PlainFunction) → min (body_below (λ g. min (a g) (2 ^ 64 - 1)) f) (2 ^ 64 - 1) ≡ min (body_below a f) (2 ^ 64 - 1)
body_capped a None = refl
body_capped a (Some f) = below_all_capped (2 ^ 64 - 1) a f.body

capped_within : (text : Text) (n id : ℕ) → within 0 (capped_below text) n id ≡ min (within 0 (below_step text) n id) (2 ^ 64 - 1)
unfolding within
capped_within text zero id = refl
capped_within text (suc n) id =
    let a = within 0 (below_step text) n in
    ap (λ m. min m (2 ^ 64 - 1)) (body_same (within 0 (capped_below text) n) (λ g. min (a g) (2 ^ 64 - 1)) (find_function id text) (λ g i. capped_within text n g))
    ∙ body_capped a (find_function id text)

pub counted_all : (text : Text) (first count total : ℕ) → count ≡ count_of text first → total ≡ min (1 + count) (2 ^ 64 - 1) → total ≡ min (instances text first) (2 ^ 64 - 1)
unfolding count_of
counted_all text first count total h k = let e = h ∙ capped_within text (length text) first in omega (arith, e, k)

-- ---- an order

pub counts_settle : (text : Text) (functions order : List ℕ) (calls : ℕ → List ℕ) → Read started_in text functions calls → IsOrder functions calls order → ((f : ℕ) → Leads (callees_of text) f f → ⊥) →
    Settles 0 (capped_below text) (count_of text) order
unfolding count_of
counts_settle text functions order calls r o free =
    started_settles 0 (λ a f. min (body_below a f) (2 ^ 64 - 1)) (λ a. refl) (λ a b f h. ap (λ m. min m (2 ^ 64 - 1)) (body_same a b f h)) text functions order calls r o free
