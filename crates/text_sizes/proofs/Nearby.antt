-- Counts of terms by tables that are the same up to a cap are the same up to it.
use Rattle.std.proofs.Common.{ℕ, zero, suc, ◌+◌, ◌≡◌, min, refl, true, List, [], ◌++◌, arith, ◌-◌, ◌^◌}
use Rattle.forec_tree.specs.Terms.{count_terms, Statement, Declare, Nothing, Group, Assign, Invoke, If, While, For, Pause, Par, Abort, Return, Statements, no_statements, more_statements, Perhaps, absent, present, Branches, no_branches, by_call, by_group}
use Rattle.forec_tree.specs.Pauses.{started_names, all_started, perhaps_started, branches_started}
use Rattle.forec_tree.specs.Faults.{is_in}
use Rattle.forec_tree.proofs.Agrees.{in_left, in_right, in_head, in_tail}
use Rattle.text_sizes.specs.TermCounts.{sequence_count, sets_count, statement_count, optional_count, own, own_all, own_perhaps, own_start, own_step, under, under_all, under_perhaps, under_branches}

-- what is capped once is so again
pub again : (a b : ℕ) → a ≡ min b (2 ^ 64 - 1) → min a (2 ^ 64 - 1) ≡ min b (2 ^ 64 - 1)
again a b h = omega arith

pub sequence_near : (c n x y : ℕ) → min x c ≡ min y c → min (sequence_count n x) c ≡ min (sequence_count n y) c
sequence_near c zero x y h = refl
sequence_near c (suc zero) x y h = h
sequence_near c (suc (suc n)) x y h = omega arith

module _ (c : ℕ) where
  -- the same, up to the cap, at some functions
  abbrev pub Near : (ℕ → ℕ) → (ℕ → ℕ) → List ℕ → Type 0
  Near a b gs = (g : ℕ) → is_in g gs ≡ true → min (a g) c ≡ min (b g) c

  pub near_left : (a b : ℕ → ℕ) (xs ys : List ℕ) → Near a b (xs ++ ys) → Near a b xs
  near_left a b xs ys h g i = h g (in_left g xs ys i)

  pub near_right : (a b : ℕ → ℕ) (xs ys : List ℕ) → Near a b (xs ++ ys) → Near a b ys
  near_right a b xs ys h g i = h g (in_right g xs ys i)

  module _ (a b : ℕ → ℕ) where
    start_near : (start : Perhaps) (x y : ℕ) → min (own_perhaps a start) c ≡ min (own_perhaps b start) c → min x c ≡ min y c → min (own_start a start x) c ≡ min (own_start b start y) c
    start_near absent x y h k = k
    start_near (present s) x y h k = omega arith

    step_near : (step : Perhaps) (x y : ℕ) → min (own_perhaps a step) c ≡ min (own_perhaps b step) c → min x c ≡ min y c → min (own_step a step x) c ≡ min (own_step b step y) c
    step_near absent x y h k = k
    step_near (present s) x y h k = omega arith

    mutual
      pub own_near : (s : Statement) → Near a b (started_names s) → min (own a s) c ≡ min (own b s) c
      own_near (Nothing at) h = refl
      own_near (Group at body) h = sequence_near c (statement_count body) (own_all a body) (own_all b body) (all_near body h)
      own_near (Declare at locals) h = refl
      own_near (Assign at target op value) h = refl
      own_near (Invoke at name args) h =
          let e = h name.id (in_head name.id []) in
          let d : min (sets_count args + a name.id) c ≡ min (sets_count args + b name.id) c = omega (arith, e) in
          sequence_near c (suc (count_terms args)) (sets_count args + a name.id) (sets_count args + b name.id) d
      own_near (If at test x y) h =
          let e = own_near x (near_left a b (started_names x) (perhaps_started y) h) in
          let d = perhaps_near y (near_right a b (started_names x) (perhaps_started y) h) in
          omega (arith, e, d)
      own_near (While at test bound body) h = let e = own_near body h in omega (arith, e)
      own_near (For at start test step bound body) h =
          let rest = near_right a b (perhaps_started start) (perhaps_started step ++ started_names body) h in
          let e = perhaps_near start (near_left a b (perhaps_started start) (perhaps_started step ++ started_names body) h) in
          let d = perhaps_near step (near_left a b (perhaps_started step) (started_names body) rest) in
          let f = own_near body (near_right a b (perhaps_started step) (started_names body) rest) in
          let g = step_near step (own a body) (own b body) d f in
          start_near start (1 + optional_count test + own_step a step (own a body)) (1 + optional_count test + own_step b step (own b body)) e (omega (arith, g))
      own_near (Pause at) h = refl
      own_near (Par at bs) h = refl
      own_near (Abort at weak immediate test body) h =
          let e = sequence_near c (statement_count body) (own_all a body) (own_all b body) (all_near body h) in omega (arith, e)
      own_near (Return at value) h = refl

      pub all_near : (s : Statements) → Near a b (all_started s) → min (own_all a s) c ≡ min (own_all b s) c
      all_near no_statements h = refl
      all_near (more_statements x rest) h =
          let e = own_near x (near_left a b (started_names x) (all_started rest) h) in
          let d = all_near rest (near_right a b (started_names x) (all_started rest) h) in
          omega (arith, e, d)

      perhaps_near : (s : Perhaps) → Near a b (perhaps_started s) → min (own_perhaps a s) c ≡ min (own_perhaps b s) c
      perhaps_near absent h = refl
      perhaps_near (present x) h = own_near x h

    module _ (p q : ℕ → ℕ) where
      mutual
        pub under_near : (s : Statement) → Near a b (started_names s) → Near p q (started_names s) → min (under a p s) c ≡ min (under b q s) c
        under_near (Nothing at) h k = refl
        under_near (Group at body) h k = list_near body h k
        under_near (Declare at locals) h k = refl
        under_near (Assign at target op value) h k = refl
        under_near (Invoke at name args) h k = k name.id (in_head name.id [])
        under_near (If at test x y) h k =
            let e = under_near x (near_left a b (started_names x) (perhaps_started y) h) (near_left p q (started_names x) (perhaps_started y) k) in
            let d = maybe_near y (near_right a b (started_names x) (perhaps_started y) h) (near_right p q (started_names x) (perhaps_started y) k) in
            omega (arith, e, d)
        under_near (While at test bound body) h k = under_near body h k
        under_near (For at start test step bound body) h k =
            let more = near_right a b (perhaps_started start) (perhaps_started step ++ started_names body) h in
            let rest = near_right p q (perhaps_started start) (perhaps_started step ++ started_names body) k in
            let e = maybe_near start (near_left a b (perhaps_started start) (perhaps_started step ++ started_names body) h) (near_left p q (perhaps_started start) (perhaps_started step ++ started_names body) k) in
            let d = maybe_near step (near_left a b (perhaps_started step) (started_names body) more) (near_left p q (perhaps_started step) (started_names body) rest) in
            let f = under_near body (near_right a b (perhaps_started step) (started_names body) more) (near_right p q (perhaps_started step) (started_names body) rest) in
            omega (arith, e, d, f)
        under_near (Pause at) h k = refl
        under_near (Par at bs) h k = branches_near bs h k
        under_near (Abort at weak immediate test body) h k = list_near body h k
        under_near (Return at value) h k = refl

        pub list_near : (s : Statements) → Near a b (all_started s) → Near p q (all_started s) → min (under_all a p s) c ≡ min (under_all b q s) c
        list_near no_statements h k = refl
        list_near (more_statements x rest) h k =
            let e = under_near x (near_left a b (started_names x) (all_started rest) h) (near_left p q (started_names x) (all_started rest) k) in
            let d = list_near rest (near_right a b (started_names x) (all_started rest) h) (near_right p q (started_names x) (all_started rest) k) in
            omega (arith, e, d)

        maybe_near : (s : Perhaps) → Near a b (perhaps_started s) → Near p q (perhaps_started s) → min (under_perhaps a p s) c ≡ min (under_perhaps b q s) c
        maybe_near absent h k = refl
        maybe_near (present x) h k = under_near x h k

        branches_near : (s : Branches) → Near a b (branches_started s) → Near p q (branches_started s) → min (under_branches a p s) c ≡ min (under_branches b q s) c
        branches_near no_branches h k = refl
        branches_near (by_call name args rest) h k =
            let e = h name.id (in_head name.id (branches_started rest)) in
            let d = k name.id (in_head name.id (branches_started rest)) in
            let f = branches_near rest (λ g i. h g (in_tail g name.id (branches_started rest) i)) (λ g i. k g (in_tail g name.id (branches_started rest) i)) in
            omega (arith, e, d, f)
        branches_near (by_group at body rest) h k =
            let e = sequence_near c (statement_count body) (own_all a body) (own_all b body) (all_near body (near_left a b (all_started body) (branches_started rest) h)) in
            let d = list_near body (near_left a b (all_started body) (branches_started rest) h) (near_left p q (all_started body) (branches_started rest) k) in
            let f = branches_near rest (near_right a b (all_started body) (branches_started rest) h) (near_right p q (all_started body) (branches_started rest) k) in
            omega (arith, e, d, f)
