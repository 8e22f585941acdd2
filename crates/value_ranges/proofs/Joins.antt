-- What branches' copies are combined to fits 32 bits.
use Rattle.std.proofs.Common.{ℕ, suc, ℤ, Bool, true, false, cond, ◌&&◌, Option, Some, None, List, [], ◌∷◌, FitsSigned, w32}
use Rattle.std.specs.List.{AllByRecursion}
use Rattle.forec_base.specs.declared.Policy.{Policy}
use Rattle.forec_kernel.specs.declared.shape.VarCopy.{VarCopy}
use Rattle.forec_kernel.specs.Shapes.{PlainKernel}
use Rattle.forec_kernel.specs.Values.{Value, Gives, Raises, copy_of, call}
use Rattle.forec_kernel.specs.Texts.{Threads, no_threads, child, is_active, uses_of}
use Rattle.forec_kernel.specs.Combining.{Share, contains, shares, takes_part, taking_part, Joint, fold_calls, last_value, variable_calls, combined_value, variable_of, combine_of, part_of, joined_copies}
use Rattle.value_ranges.specs.Words.{KernelWords}
use Rattle.value_ranges.proofs.Values.{CopiesFit, copy_fits, ValueFits, more_fits, kernel_fits}
use Rattle.value_ranges.proofs.Texts.{ThreadsFit}

abbrev SharesFit : List Share → Type 0
SharesFit = AllByRecursion (λ (s : Share). FitsSigned w32 s.copy.value)

-- one share more, where a branch takes part
one_share : (b : Bool) (s : Share) (rest : List Share) → FitsSigned w32 s.copy.value → SharesFit rest → SharesFit (cond b (s ∷ rest) rest)
one_share true s rest h g = (h, g)
one_share false s rest h g = g

shares_fit : (k : PlainKernel) (v j : ℕ) (cs : Threads) → ThreadsFit cs → SharesFit (shares k v j cs)
shares_fit k v j no_threads h = tt
shares_fit k v j (child t R w c st rest) h =
    one_share (is_active st && contains v (uses_of k t)) (record { from = j; copy = copy_of (uses_of k t) c v }) (shares k v (suc j) rest)
    (copy_fits (uses_of k t) c v h.1.1) (shares_fit k v (suc j) rest h.2)

taking_fit : (policy : Policy) (base : ℤ) (ss : List Share) → SharesFit ss → SharesFit (taking_part policy base ss)
taking_fit policy base [] h = tt
taking_fit policy base (s ∷ ss) h =
    one_share (takes_part policy base s.copy) s (taking_part policy base ss) h.0 (taking_fit policy base ss h.1)

-- ---- the calls of a combine function

abbrev JointsFit : List Joint → Type 0
JointsFit = AllByRecursion (λ (j : Joint). ValueFits j.gives)

abbrev CombineFits : Option (ℤ → ℤ → Value) → Type 0
CombineFits None = Unit {0}
CombineFits (Some f) = (x y : ℤ) → FitsSigned w32 x → FitsSigned w32 y → ValueFits (f x y)

fold_fits : (f : ℤ → ℤ → Value) → ((x y : ℤ) → FitsSigned w32 x → FitsSigned w32 y → ValueFits (f x y)) → (total : ℤ) (ss : List Share) →
    FitsSigned w32 total → SharesFit ss → JointsFit (fold_calls f total ss)
fold_fits f fits total [] h g = tt
fold_fits f fits total (s ∷ ss) h g =
    pick (f total s.copy.value) (fits total s.copy.value h g.0) (λ n e. fold_fits f fits n ss e g.1)
  where
    pick : (v : Value) → ValueFits v → ((n : ℤ) → FitsSigned w32 n → JointsFit (fold_calls f n ss)) →
        JointsFit
        (elim v [
          | Gives n u ↦ record { from = s.from; gives = Gives n u } ∷ fold_calls f n ss
          | Raises place trap u ↦ record { from = s.from; gives = Raises place trap u } ∷ []
        ])
    pick (Gives n u) e ih = (e, ih n e)
    pick (Raises place trap u) e ih = (tt, tt)

calls_fit : (f : Option (ℤ → ℤ → Value)) → CombineFits f → (ss : List Share) → SharesFit ss → JointsFit (variable_calls f ss)
calls_fit None fits [] h = tt
calls_fit None fits (s ∷ ss) h = tt
calls_fit (Some f) fits [] h = tt
calls_fit (Some f) fits (s ∷ ss) h = fold_fits f fits s.copy.value ss h.0 h.1

last_fits : (total : ℤ) (js : List Joint) → FitsSigned w32 total → JointsFit js → FitsSigned w32 (last_value total js)
last_fits total [] h g = h
last_fits total (j ∷ js) h g = pick j.gives g.0 (λ n e. last_fits n js e g.1)
  where
    pick : (v : Value) → ValueFits v → ((n : ℤ) → FitsSigned w32 n → FitsSigned w32 (last_value n js)) →
        FitsSigned w32 (elim v [ Gives n u ↦ last_value n js | Raises place trap u ↦ total ])
    pick (Gives n u) e ih = ih n e
    pick (Raises place trap u) e ih = h

combined_fits : (f : Option (ℤ → ℤ → Value)) → CombineFits f → (base : ℤ) (ss : List Share) → FitsSigned w32 base → SharesFit ss →
    FitsSigned w32 (combined_value f base ss)
combined_fits f fits base [] h g = h
combined_fits f fits base (s ∷ ss) h g = last_fits s.copy.value (variable_calls f (s ∷ ss)) g.0 (calls_fit f fits (s ∷ ss) g)

-- ---- all variables of one join

module _ (k : PlainKernel) (numbers : KernelWords k) where
  combine_fits : (f : Option ℕ) → CombineFits (combine_of k f)
  combine_fits None = tt
  combine_fits (Some f) =
      λ x y h g. more_fits 1 (call k f (x ∷ y ∷ [])) ((kernel_fits k numbers).calls f (x ∷ y ∷ []) (h, (g, tt)))

  pub joined_fit : (cs : Threads) → ThreadsFit cs → (uses : List ℕ) (copies : List VarCopy) → CopiesFit copies →
      CopiesFit (joined_copies k cs uses copies)
  joined_fit cs h [] copies g = g
  joined_fit cs h (v ∷ uses) [] g = tt
  joined_fit cs h (v ∷ uses) (c ∷ copies) g = (
    combined_fits (combine_of k (variable_of k v).combine) (combine_fits (variable_of k v).combine) c.value (part_of k cs v c.value) g.0
        (taking_fit (variable_of k v).policy c.value (shares k v 0 cs) (shares_fit k v 0 cs h)),
    joined_fit cs h uses copies g.1,
  )
