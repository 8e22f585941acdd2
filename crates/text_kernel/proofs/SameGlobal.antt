-- The name of a global finds that global alone, and the rows of two globals don't meet.
use Rattle.std.proofs.Common.{ℕ, ◌+◌, ◌<◌, ◌≡◌, ◌∙◌, ◌==◌, sym, ap, refl, subst, Bool, true, false, Some, List, arith}
use Rattle.std.proofs.lemmas.Bool.Decides.{nat_tests}
use Rattle.forec_tree.specs.Terms.{Text, PlainGlobal, IsGlobal}
use Rattle.forec_tree.specs.Scopes.{find_item}
use Rattle.forec_tree.specs.Variables.{width}
use Rattle.forec_tree.specs.Rules.{is_constant}
use Rattle.forec_tree.specs.Faults.{is_in}
use Rattle.forec_kernel.specs.WellFormed.{count_up}
use Rattle.text_kernel.specs.Bindings.{variable_number}
use Rattle.text_kernel.proofs.VariableNumbers.{in_row, row_of, apart, width_of}
use Rattle.text_kernel.proofs.Known.{first_of, first_id}

same_truth : (p q : Bool) → (p ≡ true → q ≡ true) → (q ≡ true → p ≡ true) → p ≡ q
same_truth true q f k = sym (f refl)
same_truth false true f k = k refl
same_truth false false f k = refl

module _ (text : Text) (g : PlainGlobal) (is_item : find_item g.name.id text ≡ Some (IsGlobal g)) where
  pub same_global : (id : ℕ) (h : PlainGlobal) → find_item id text ≡ Some (IsGlobal h) → (id == g.name.id) ≡ true → h ≡ g
  same_global id h e d =
      let is : id ≡ g.name.id = grind (arith, nat_tests) in
      let one : Some (IsGlobal h) ≡ Some (IsGlobal g) = sym e ∙ (ap (λ n. find_item n text) is ∙ is_item) in cc

  module _ (changes : is_constant g.kind ≡ false) where
    pub constant_other : (id : ℕ) (h : PlainGlobal) → find_item id text ≡ Some (IsGlobal h) → is_constant h.kind ≡ true → (id == g.name.id) ≡ false
    constant_other id h e c = pick (id == g.name.id) refl
      where
        pick : (b : Bool) → (id == g.name.id) ≡ b → b ≡ false
        pick false d = refl
        pick true d =
            let same = same_global id h e d in
            let bad : true ≡ false = sym c ∙ (ap (λ (x : PlainGlobal). is_constant x.kind) same ∙ changes) in cc

    module _ (nth : ℕ) (is_one : nth < width g) where
      -- the number of an element of the global, or of the global itself
      abbrev v : ℕ
      v = variable_number g.name.id text + nth

      abbrev row : PlainGlobal → List ℕ
      row h = count_up (variable_number h.name.id text) (width h)

      pub row_same : (id : ℕ) (h : PlainGlobal) → find_item id text ≡ Some (IsGlobal h) → is_constant h.kind ≡ false → is_in v (row h) ≡ (id == g.name.id)
      row_same id h e c = same_truth (is_in v (row h)) (id == g.name.id) left right
        where
          left : is_in v (row h) ≡ true → (id == g.name.id) ≡ true
          left d =
              let there = first_of id (IsGlobal h) text e in
              let here_ = first_of g.name.id (IsGlobal g) text is_item in
              let named = ap (λ n. variable_number n text) (first_id id (IsGlobal h) text there) in
              let r = row_of v (variable_number h.name.id text) (width h) d in
              let low = r.low in
              let high = r.high in
              let wide = width_of h c in
              let own = width_of g changes in
              let same : id ≡ g.name.id =
              apart id g.name.id nth (IsGlobal h) (IsGlobal g) text there here_ (omega (arith, own, is_one)) (record { low = omega (arith, low, named); high = omega (arith, high, named, wide) }) in
              grind (arith, nat_tests)

          right : (id == g.name.id) ≡ true → is_in v (row h) ≡ true
          right d = subst (λ x. is_in v (row x) ≡ true) (sym (same_global id h e d)) (in_row v (variable_number g.name.id text) (width g) (omega arith) (omega (arith, is_one)))
