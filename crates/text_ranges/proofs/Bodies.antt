-- What the numbers and places of a program have, those in the bodies of its kernel have.
use Rattle.std.proofs.Common.{ℕ, Bool, true, false, cond, List, [], ◌∷◌, map, length}
use Rattle.std.specs.List.{AllByRecursion}
use Rattle.forec_tree.specs.Terms.{PlainFunction, IsGlobal, IsFunction, Text}
use Rattle.text_kernel.specs.Bindings.{params_at}
use Rattle.text_kernel.specs.Lowering.{Made, sequence}
use Rattle.text_kernel.specs.Kernels.{lowered_function_body, int_functions, main_id, root, kernel_of}
use Rattle.value_ranges.specs.Properties.{Property, StmtHolds, BodiesHold}
use Rattle.text_ranges.proofs.Trees.{HasSmall, StatementsHolds, TextHolds}
use Rattle.text_ranges.proofs.Lowered.{sequence_holds, MadeHolds, body_holds, inlined_holds}

-- what has the one property has the other
pub all_into : {A : Type 0} (P Q : A → Type 0) → ((x : A) → P x → Q x) → (xs : List A) → AllByRecursion P xs → AllByRecursion Q xs
all_into P Q into [] h = tt
all_into P Q into (x ∷ xs) h = (into x h.0, all_into P Q into xs h.1)

module _ (has : Property) (ok : HasSmall has) (text : Text) (names : List (List ℕ)) where
  abbrev InBodies : List PlainFunction → Type 0
  InBodies = AllByRecursion (λ (f : PlainFunction). StatementsHolds has f.body)

  ints_hold : (xs : Text) → TextHolds has xs → InBodies (int_functions text names xs)
  ints_hold [] h = tt
  ints_hold (IsGlobal g ∷ rest) h = ints_hold rest h.1
  ints_hold (IsFunction f ∷ rest) h = pick f.gives (ints_hold rest h.1)
    where
      pick : (b : Bool) → InBodies (int_functions text names rest) → InBodies (cond b (f ∷ int_functions text names rest) (int_functions text names rest))
      pick true k = (h.0, k)
      pick false k = k

  made_hold : (a : List Made) → MadeHolds has ok a → AllByRecursion (StmtHolds has) (map (λ m. m.body) a)
  made_hold [] h = tt
  made_hold (m ∷ a) h = (h.0, made_hold a h.1)

  module _ (all : TextHolds has text) where
    functions_hold : (fs : List PlainFunction) → InBodies fs → AllByRecursion (StmtHolds has) (map (λ f. sequence (lowered_function_body text names f).list) fs)
    functions_hold [] h = tt
    functions_hold (f ∷ fs) h =
        let l = body_holds has ok text all 0 (params_at 0 f.params) (record { slot = length f.params; thread = 1; par = 0 }) f.body h.0 in
        (sequence_holds has ok (lowered_function_body text names f).list l.list, functions_hold fs h.1)

    pub bodies_hold : BodiesHold has (kernel_of text names)
    unfolding kernel_of
    bodies_hold =
        let r = inlined_holds has ok text all (main_id text names) 0 0 (record { slot = 0; thread = 1; par = 0 }) in
        record {
          threads = (r.stmt, made_hold (root text names).made r.made);
          functions = functions_hold (int_functions text names text) (ints_hold text all);
        }
