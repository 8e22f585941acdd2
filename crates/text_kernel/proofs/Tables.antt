-- Each constant array of a text that breaks no rule has a length that arrays may have.
use Rattle.std.proofs.Common.{ℕ, zero, suc, ◌<◌, ◌≡◌, ap, Bool, true, false, cond, ℤ, pos, Option, Some, None, List, [], ◌∷◌, ◌++◌, length, get_or, refl, arith}
use Rattle.forec_tree.specs.declared.tree.Number.{Number}
use Rattle.forec_tree.specs.Terms.{Text, PlainItem, PlainGlobal, IsGlobal, IsFunction}
use Rattle.forec_tree.specs.Rules.{is_constant, fault_if, outside, length_faults}
use Rattle.forec_tree.specs.Faults.{Before, none_before, after_item, item_named, global_faults, item_faults, items_faults}
use Rattle.forec_kernel.specs.WellFormed.{FineTable}
use Rattle.text_kernel.specs.Bindings.{number_of}
use Rattle.text_kernel.specs.Kernels.{kernel_of, padded, tables_of}
use Rattle.text_kernel.proofs.Fine.{none_left, none_right, not_broken}
use Rattle.text_kernel.proofs.Faultless.{Clean}
use Rattle.text_kernel.proofs.Locals.{number_in}

padded_long : (n : ℕ) (values : List Number) → length (padded n values) ≡ n
padded_long zero values = refl
padded_long (suc n) [] = ap suc (padded_long n [])
padded_long (suc n) (v ∷ rest) = ap suc (padded_long n rest)

module _ (text : Text) (names : List (List ℕ)) where
  padded_fine : (n : Number) (values : List Number) → length_faults (Some n) ≡ [] → FineTable (padded (number_of n) values)
  padded_fine n values h =
      let r = number_in 65536 n.value (omega arith) (not_broken (outside (pos 65536) n.value) n.place 17 h) in
      let e = padded_long (number_of n) values in
      record { some = omega (arith, r.low, e); most = omega (arith, r.high, e) }

  length_faultless : (b : Before) (g : PlainGlobal) → global_faults text names b g ≡ [] → length_faults g.length ≡ []
  length_faultless b g h = none_left (length_faults g.length) _ (none_right (fault_if (item_named g.name.id b.items) g.name.place 2) _ h)

  abbrev AllFine : List PlainItem → Type 0
  AllFine t = (i : ℕ) → i < length (tables_of text names t) → FineTable (get_or (tables_of text names t) i [])

  -- the tables of a global
  abbrev front : PlainGlobal → Bool → Option Number → List (List ℤ)
  front g c o = cond c (elim o [ None ↦ [] | Some n ↦ padded (number_of n) g.values ∷ [] ]) []

  one_more : (g : PlainGlobal) (t : List PlainItem) (c : Bool) (o : Option Number) → length_faults o ≡ [] → AllFine t → (i : ℕ) → i < length (front g c o ++ tables_of text names t) →
      FineTable (get_or (front g c o ++ tables_of text names t) i [])
  one_more g t false o h rest i l = rest i l
  one_more g t true None h rest i l = rest i l
  one_more g t true (Some n) h rest zero l = padded_fine n g.values h
  one_more g t true (Some n) h rest (suc i) l = rest i (omega arith)

  all_fine : (b : Before) (t : List PlainItem) → items_faults text names b t ≡ [] → AllFine t
  all_fine b [] h i l = absurd (omega arith)
  all_fine b (IsFunction f ∷ t) h i l =
      all_fine (after_item b (IsFunction f)) t (none_right (item_faults text names b (IsFunction f)) (items_faults text names (after_item b (IsFunction f)) t) h) i l
  all_fine b (IsGlobal g ∷ t) h i l =
      let own = none_left (item_faults text names b (IsGlobal g)) (items_faults text names (after_item b (IsGlobal g)) t) h in
      let others = none_right (item_faults text names b (IsGlobal g)) (items_faults text names (after_item b (IsGlobal g)) t) h in
      one_more g t (is_constant g.kind) g.length (length_faultless b g own) (all_fine (after_item b (IsGlobal g)) t others) i l

  pub tables_fine : Clean text names → (t : ℕ) → t < length (kernel_of text names).shape.tables → FineTable (get_or (kernel_of text names).shape.tables t [])
  unfolding kernel_of
  tables_fine clean t l = all_fine none_before text clean.items t l
