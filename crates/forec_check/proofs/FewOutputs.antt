-- A text without faults has few outputs: rule 22.
use Rattle.std.proofs.Common.{ℕ, zero, suc, ◌+◌, ◌≤◌, ◌≡◌, ◌∙◌, ap, refl, inl, Bool, true, false, ◌&&◌, ◌||◌, List, [], ◌∷◌, ◌++◌, length, arith}
use Rattle.std.specs.Prelude.{nat_lt, nat_le}
use Rattle.std.proofs.lemmas.Bool.Decides.{nat_tests}
use Rattle.forec_base.specs.declared.Place.{Place}
use Rattle.forec_tree.specs.declared.fault.Fault.{Fault}
use Rattle.forec_tree.specs.Terms.{Text, PlainItem, PlainGlobal, IsGlobal, IsFunction}
use Rattle.forec_tree.specs.Rules.{fault_if, is_input, is_long, length_faults, too_many}
use Rattle.forec_tree.specs.Faults.{Before, item_named, combine_faults, output_count, runs_over, after_item, none_before, item_faults, items_faults, main_faults}
use Rattle.forec_check.specs.Checked.{count_outputs}
use Rattle.forec_check.specs.Faultless.{Faultless}
use Rattle.forec_check.proofs.Acyclic.{no_members}
use Rattle.forec_check.proofs.Started.{nil_right, nil_left}

not_over : (before more : ℕ) → runs_over 64 before more ≡ false → before ≤ 64 → before + more ≤ 64
not_over before zero h l = omega (arith, l)
not_over before (suc more) h l = grind (arith, nat_tests)

not_broken : (b : Bool) (place : Place) (rule : ℕ) → fault_if b place rule ≡ [] → b ≡ false
not_broken true place rule h = cc
not_broken false place rule h = refl

or_second : (a b : Bool) → (a || b) ≡ false → b ≡ false
or_second true b h = cc
or_second false b h = h

module _ (text : Text) (names : List (List ℕ)) where
  -- rule 22 at a global
  within : (b : Before) (g : PlainGlobal) → item_faults text names b (IsGlobal g) ≡ [] → b.outputs ≤ 64 → b.outputs + output_count g ≤ 64
  within b g h l =
      let h1 = nil_right (fault_if (item_named g.name.id b.items) g.name.place 2) _ h in
      let h2 = nil_right (length_faults g.length) _ h1 in
      let h3 = nil_right (fault_if (too_many g.length (length g.values)) g.name.place 18) _ h2 in
      let h4 = nil_right (fault_if (is_long names g.name.id) g.name.place 21) _ h3 in
      let extra = not_broken _ g.name.place 22 (nil_right (combine_faults text g.combine) _ h4) in
      not_over b.outputs (output_count g) (or_second (is_input g.kind && nat_le 64 b.inputs) _ extra) l

  -- so are those of the items behind some
  outputs_few : (b : Before) (xs : List PlainItem) → items_faults text names b xs ≡ [] → b.outputs ≤ 64 → b.outputs + count_outputs xs ≤ 64
  outputs_few b [] h l = omega (arith, l)
  outputs_few b (IsFunction f ∷ xs) h l =
      let r = outputs_few (after_item b (IsFunction f)) xs (nil_right (item_faults text names b (IsFunction f)) (items_faults text names (after_item b (IsFunction f)) xs) h) l in
      omega (arith, r)
  outputs_few b (IsGlobal g ∷ xs) h l =
      let own = nil_left (item_faults text names b (IsGlobal g)) (items_faults text names (after_item b (IsGlobal g)) xs) h in
      let r = outputs_few (after_item b (IsGlobal g)) xs (nil_right (item_faults text names b (IsGlobal g)) (items_faults text names (after_item b (IsGlobal g)) xs) h) (within b g own l) in
      omega (arith, r)

  pub few_outputs : Faultless text names → count_outputs text ≤ 64
  few_outputs faultless =
      let none = no_members (main_faults text names ++ items_faults text names none_before text) (λ f m. faultless f (inl (inl m))) in
      let r = outputs_few none_before text (nil_right (main_faults text names) (items_faults text names none_before text) none) (omega arith) in
      omega (arith, r)
