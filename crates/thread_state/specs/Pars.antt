-- The branches of each par, linked from one to the next, and the variables that each thread uses.
use Rattle.std.specs.Prelude.{ℕ, ◌+◌, ◌≡◌, ◌<◌, Option, Some, None, IfSome, List, [], ◌∷◌, length, map, get_or, slice_set}
use Rattle.forec_kernel.specs.Shapes.{PlainShape}
use Rattle.thread_code.specs.Valid.{branches_in, arguments_of}
use Rattle.thread_state.specs.declared.pars.Sibling.{Sibling}

-- the first branch of each par, what stands after each thread in its par, and the variables that each thread uses
pub record Links : Type 0 where
  pub firsts : List (Option ℕ)
  pub siblings : List Sibling
  pub uses : List (List ℕ)

abbrev pub links_of : List (Option ℕ) → List Sibling → List (List ℕ) → Links
links_of firsts siblings uses = record { firsts = firsts; siblings = siblings; uses = uses }

abbrev pub first_of : Links → ℕ → Option ℕ
first_of p j = get_or p.firsts j None

abbrev pub sibling_at : List Sibling → ℕ → Sibling
sibling_at ss b = get_or ss b (record { next = None; arguments = 0 })

-- the variables that a thread uses
abbrev pub used_by : Links → ℕ → List ℕ
used_by p t = get_or p.uses t []

-- how many arguments a branch and all after it have together; none where there is no branch
abbrev pub arguments_from : List Sibling → Option ℕ → ℕ
arguments_from ss None = 0
arguments_from ss (Some b) = (sibling_at ss b).arguments

-- another branch, with so many arguments of its own, in front of those of its par
abbrev pub with_first : (par branch arguments : ℕ) → Links → Links
with_first j b n p =
    record {
      firsts = slice_set p.firsts j (Some b);
      siblings = slice_set p.siblings b (record { next = first_of p j; arguments = n + arguments_from p.siblings (first_of p j) });
      uses = p.uses;
    }

-- what is noted of a branch, after which these stand
pub record IsLink (s : PlainShape) (ss : List Sibling) (b : ℕ) (bs : List ℕ) : Type 0 where
  pub within : b < length ss
  pub arguments : (sibling_at ss b).arguments ≡ arguments_of s (b ∷ bs)
  pub later : IfSome (sibling_at ss b).next (λ n. b < n)

-- the links lead over these branches and no further
abbrev pub Lead : PlainShape → List Sibling → Option ℕ → List ℕ → Type 0
Lead s ss n [] = n ≡ None
Lead s ss n (b ∷ bs) = (n ≡ Some b) × IsLink s ss b bs × Lead s ss (sibling_at ss b).next bs

-- they lead over the branches of each par, and the uses are those of the threads
pub record HavePars (s : PlainShape) (p : Links) : Type 0 where
  pub threads : length p.siblings ≡ length s.threads
  pub lead : (j : ℕ) → Lead s p.siblings (first_of p j) (branches_in s j)
  pub uses : p.uses ≡ map (λ t. t.uses) s.threads
