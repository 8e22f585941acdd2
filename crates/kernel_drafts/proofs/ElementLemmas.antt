-- Steps of the loops that list the variables of a program.
use Rattle.std.proofs.Common.{ℕ, zero, suc, ◌+◌, ◌-◌, ◌<◌, ◌≡◌, ◌∙◌, sym, ap, refl, Some, List, [], ◌∷◌, ◌++◌, append_assoc, length, drop, get_or, arith}
use Rattle.forec_tree.specs.declared.tree.Number.{Number}
use Rattle.forec_tree.specs.Terms.{PlainGlobal}
use Rattle.forec_tree.specs.Variables.{elements_from}
use Rattle.text_kernel.specs.Bindings.{first_value, nth_value}
use Rattle.kernel_drafts.specs.declared.elements.Element.{Element}
use Rattle.kernel_drafts.specs.Elements.{plain_element, plain_elements}
use Rattle.lower_names.proofs.Statements.{drop_next}

pub elements_next : (list : List Element) (i : ℕ) (x : Element) → i < length list → get_or list i x ≡ x → plain_elements (drop i list) ≡ plain_element x ∷ plain_elements (drop (i + 1) list)
elements_next list i x l e = ap plain_elements (drop_next list i x l e)

pub row_next : (g : PlainGlobal) (n i : ℕ) → i < n → elements_from g i (n - i) ≡ record { global = g; index = Some i } ∷ elements_from g (i + 1) (n - (i + 1))
row_next g n i l =
    let d : n - i ≡ suc (n - (i + 1)) = omega (arith, l) in
    let z : suc i ≡ i + 1 = omega arith in
    ap (elements_from g i) d ∙ ap (λ m. record { global = g; index = Some i } ∷ elements_from g m (n - (i + 1))) z

-- a part more at the end of a list
pub joined_more : {A : Type 0} (done new part now next whole : List A) → new ≡ done ++ part → now ≡ part ++ next → done ++ now ≡ whole → new ++ next ≡ whole
joined_more done new part now next whole p n w = ap (λ l. l ++ next) p ∙ (append_assoc done part next ∙ (ap (λ l. done ++ l) (sym n) ∙ w))

pub value_dropped : (i : ℕ) (values : List Number) → first_value (drop i values) ≡ nth_value i values
value_dropped zero [] = refl
value_dropped (suc i) [] = refl
value_dropped zero (x ∷ xs) = refl
value_dropped (suc i) (x ∷ xs) = value_dropped i xs
