-- The terms of a kernel are those that are counted on its text.
use Rattle.std.proofs.Common.{ℕ, ◌+◌, ◌-◌, ◌^◌, ◌≡◌, ◌∙◌, min, sym, ap, refl, List, [], ◌∷◌, length, map, arith}
use Rattle.forec_tree.specs.Terms.{Text, PlainFunction}
use Rattle.forec_kernel.specs.WellFormed.{stmt_terms, bodies_terms}
use Rattle.text_kernel.specs.declared.limits.Quantity.TheVariants.{Terms}
use Rattle.text_kernel.specs.Bindings.{params_at}
use Rattle.text_kernel.specs.Lowering.{NextNumbers, Made, sequence}
use Rattle.text_kernel.specs.Kernels.{kernel_of, root, main_id, int_functions}
use Rattle.text_kernel.specs.Kernels as kernels
use Rattle.text_kernel.specs.Limits.{amount}
use Rattle.text_kernel.proofs.Functions.{nothing}
use Rattle.text_sizes.specs.declared.extents.Extent.{Extent}
use Rattle.text_sizes.specs.Extents.{extent_value, own_at, int_function_terms}
use Rattle.text_sizes.proofs.TermCountLemmas.{sequence_as, all_is, length_is}
use Rattle.text_sizes.proofs.Sized.{made_terms}
use Rattle.text_sizes.proofs.Extending.{value_capped, has_terms, nothing_known}

bodies_made : (a : List Made) → bodies_terms (map (λ m. m.body) a) ≡ made_terms a
bodies_made [] = refl
bodies_made (m ∷ a) = ap (λ n. stmt_terms m.body + n) (bodies_made a)

functions_terms : (text : Text) (names : List (List ℕ)) (fs : List PlainFunction) → bodies_terms (map (λ f. sequence (kernels.lowered_function_body text names f).list) fs) ≡ int_function_terms fs
functions_terms text names [] = refl
functions_terms text names (f ∷ rest) =
    let right = λ (id first t : ℕ) (n : NextNumbers). ap (λ (x : Extent). x.own) (sym (nothing_known id)) in
    let n : NextNumbers = record { slot = length f.params; thread = 1; par = 0 } in
    let s = params_at 0 f.params in
    let one =
    sequence_as (kernels.lowered_function_body text names f).list _ _ (length_is text nothing 0 s n f.body) (all_is text nothing (own_at []) right 0 s n f.body) in
    let rest_is = functions_terms text names rest in
    omega (arith, one, rest_is)

pub terms_amount : (text : Text) (names : List (List ℕ)) (first own under functions main whole : ℕ) (fs : List PlainFunction) → first ≡ main_id text names → fs ≡ int_functions text names text → own ≡ (extent_value text first).own →
    under ≡ (extent_value text first).under → functions ≡ min (int_function_terms fs) (2 ^ 64 - 1) → main ≡ min (own + under) (2 ^ 64 - 1) → whole ≡ min (main + functions) (2 ^ 64 - 1) →
    whole ≡ min (amount Terms (kernel_of text names)) (2 ^ 64 - 1)
unfolding amount kernel_of
terms_amount text names first own under functions main whole fs f i o u g m w =
    let kept = value_capped text (main_id text names) in
    let ko = kept.own in
    let ku = kept.under in
    let all = has_terms text (length text) (main_id text names) in
    let from : NextNumbers = record { slot = 0; thread = 1; par = 0 } in
    let a = all.own 0 0 from in
    let b = all.under 0 0 from in
    let oo = o ∙ ap (λ n. (extent_value text n).own) f in
    let uu = u ∙ ap (λ n. (extent_value text n).under) f in
    let made = bodies_made (root text names).made in
    let fn = functions_terms text names (int_functions text names text) in
    let same = ap int_function_terms i in
    omega (arith, ko, ku, a, b, oo, uu, g, m, w, made, fn, same)
