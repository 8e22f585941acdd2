-- What a function brings depends on the functions that it calls or starts alone.
use Rattle.std.proofs.Common.{ℕ, zero, suc, ◌+◌, ◌≡◌, ◌∙◌, ap, refl, Bool, true, false, cond, Option, Some, None, List, [], ◌∷◌, ◌++◌}
use Rattle.forec_tree.specs.Terms.{count_terms, Statement, Declare, Nothing, Group, Assign, Invoke, If, While, For, Pause, Par, Abort, Return, Statements, no_statements, more_statements, Perhaps, absent, present, Branches, no_branches, by_call, by_group, Text, PlainFunction}
use Rattle.forec_tree.specs.Pauses.{function_callees, callees_of, started_names, all_started, perhaps_started, branches_started}
use Rattle.forec_tree.specs.Faults.{is_in, Leads}
use Rattle.forec_tree.proofs.Agrees.{in_left, in_right, in_head, in_tail}
use Rattle.loop_check.specs.Graph.{IsOrder}
use Rattle.loop_check.specs.Known.{Read, started_in}
use Rattle.forec_check.specs.Table.{Settles}
use Rattle.forec_check.proofs.TableLemmas.{started_settles}
use Rattle.text_chains.specs.declared.tally.Tally.{Tally}
use Rattle.text_chains.specs.Tallies as of
use Rattle.text_chains.proofs.Sums.{both}
use Rattle.text_chains.specs.Tallies.{no_tally, both_tallies, tally_at, tally_step, tally_value, hides_after, hides_after_perhaps, hides_params}

-- ---- tables

pub tally_unknown : (h : ℕ) → tally_at [] h ≡ no_tally
tally_unknown zero = refl
tally_unknown (suc h) = refl

-- ---- tables that agree

abbrev Agree : (ℕ → Tally) → (ℕ → Tally) → List ℕ → Type 0
Agree a b gs = (g : ℕ) → is_in g gs ≡ true → a g ≡ b g

left : (a b : ℕ → Tally) (xs ys : List ℕ) → Agree a b (xs ++ ys) → Agree a b xs
left a b xs ys h g i = h g (in_left g xs ys i)

right : (a b : ℕ → Tally) (xs ys : List ℕ) → Agree a b (xs ++ ys) → Agree a b ys
right a b xs ys h g i = h g (in_right g xs ys i)

tail : (a b : ℕ → Tally) (x : ℕ) (xs : List ℕ) → Agree a b (x ∷ xs) → Agree a b xs
tail a b x xs h g i = h g (in_tail g x xs i)

module _ (i : ℕ) (array : Bool) (value : ℕ → ℕ) (worth : ℕ) (a b : ℕ → Tally) where
  counted_same : (x y : Tally) (m n : ℕ) → x ≡ y → m ≡ n → cond x.named 1 0 + m ≡ cond y.named 1 0 + n
  counted_same x y m n e d = ap (λ (t : Tally). cond t.named 1 0 + m) e ∙ ap (λ k. cond y.named 1 0 + k) d

  mutual
    tally_same : (h : Bool) (s : Statement) → Agree a b (started_names s) → of.tally i array value worth a h s ≡ of.tally i array value worth b h s
    tally_same h (Nothing at) w = refl
    tally_same h (Group at body) w = all_same h body w
    tally_same h (Declare at locals) w = refl
    tally_same h (Assign at target op e) w = refl
    tally_same h (Invoke at name args) w = ap (both_tallies (of.of_sets i array value h args)) (w name.id (in_head name.id []))
    tally_same h (If at test x y) w =
        ap (both_tallies (of.of_term i array value h test))
        (both _ _ _ _ (tally_same h x (left a b (started_names x) (perhaps_started y) w)) (perhaps_same h y (right a b (started_names x) (perhaps_started y) w)))
    tally_same h (While at test bound body) w = ap (both_tallies (of.of_term i array value h test)) (tally_same h body w)
    tally_same h (For at start test step bound body) w =
        let inside = hides_after_perhaps i h start in
        let rest = right a b (perhaps_started start) (perhaps_started step ++ started_names body) w in
        both _ _ _ _ (perhaps_same h start (left a b (perhaps_started start) (perhaps_started step ++ started_names body) w))
        (ap (both_tallies (of.of_optional i array value inside test))
        (both _ _ _ _ (perhaps_same inside step (left a b (perhaps_started step) (started_names body) rest)) (tally_same (hides_after_perhaps i inside step) body (right a b (perhaps_started step) (started_names body) rest))))
    tally_same h (Pause at) w = refl
    tally_same h (Par at bs) w = both _ _ _ _ (ap (λ n. of.call_tally (cond (Rattle.std.proofs.Common.nat_lt 1 n) worth 0)) (naming_same bs w)) (branches_same h bs w)
    tally_same h (Abort at weak immediate test body) w = ap (both_tallies (of.of_term i array value h test)) (all_same h body w)
    tally_same h (Return at e) w = refl

    all_same : (h : Bool) (s : Statements) → Agree a b (all_started s) → of.all_tally i array value worth a h s ≡ of.all_tally i array value worth b h s
    all_same h no_statements w = refl
    all_same h (more_statements x rest) w = both _ _ _ _ (tally_same h x (left a b (started_names x) (all_started rest) w)) (all_same (hides_after i h x) rest (right a b (started_names x) (all_started rest) w))

    perhaps_same : (h : Bool) (s : Perhaps) → Agree a b (perhaps_started s) → of.perhaps_tally i array value worth a h s ≡ of.perhaps_tally i array value worth b h s
    perhaps_same h absent w = refl
    perhaps_same h (present x) w = tally_same h x w

    branches_same : (h : Bool) (bs : Branches) → Agree a b (branches_started bs) → of.branches_tally i array value worth a h bs ≡ of.branches_tally i array value worth b h bs
    branches_same h no_branches w = refl
    branches_same h (by_call name args rest) w =
        both _ _ _ _ (ap (λ t. both_tallies (of.of_terms i array value h args) (of.branch_tally (count_terms args) t)) (w name.id (in_head name.id (branches_started rest)))) (branches_same h rest (tail a b name.id (branches_started rest) w))
    branches_same h (by_group at body rest) w =
        both _ _ _ _ (ap (of.branch_tally 0) (all_same false body (left a b (all_started body) (branches_started rest) w))) (branches_same h rest (right a b (all_started body) (branches_started rest) w))

    naming_same : (bs : Branches) → Agree a b (branches_started bs) → of.branches_naming i array value worth a bs ≡ of.branches_naming i array value worth b bs
    naming_same no_branches w = refl
    naming_same (by_call name args rest) w = counted_same _ _ _ _ (w name.id (in_head name.id (branches_started rest))) (naming_same rest (tail a b name.id (branches_started rest) w))
    naming_same (by_group at body rest) w =
        counted_same _ _ _ _ (all_same false body (left a b (all_started body) (branches_started rest) w)) (naming_same rest (right a b (all_started body) (branches_started rest) w))

  body_same : (f : Option PlainFunction) → Agree a b (function_callees f) → of.body_tally i array value worth a f ≡ of.body_tally i array value worth b f
  body_same None w = refl
  body_same (Some f) w = all_same (hides_params i false f.params) f.body w

pub tallies_settle : (i : ℕ) (array : Bool) (value : ℕ → ℕ) (worth : ℕ) (text : Text) (functions order : List ℕ) (calls : ℕ → List ℕ) → Read started_in text functions calls → IsOrder functions calls order →
    ((f : ℕ) → Leads (callees_of text) f f → ⊥) → Settles no_tally (tally_step i array value worth text) (tally_value i array value worth text) order
unfolding tally_value
tallies_settle i array value worth text functions order calls r o free =
    started_settles no_tally (of.body_tally i array value worth) (λ a. refl) (λ a b f w. body_same i array value worth a b f w) text functions order calls r o free
