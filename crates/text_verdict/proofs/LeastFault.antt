-- A program has one least fault, and it can't be that it has faults and no least one.
use Rattle.std.proofs.Common.{◌≡◌, ℕ, ◌<◌, zero, suc, Bool, true, false, nat_lt, ltb-true, ltb-false, refl, ap, ◌∙◌, arith}
use Rattle.std.proofs.lemmas.Bool.Decides.{nat_tests}
use Rattle.forec_tree.specs.declared.fault.Fault.{Fault}
use Rattle.forec_tree.specs.Faults.{is_before, IsLeast}

-- two of which neither stands before the other are one
same_place : (a b : Fault) → is_before a b ≡ false → is_before b a ≡ false → (a.place.line ≡ b.place.line) × (a.place.column ≡ b.place.column) × (a.rule ≡ b.rule)
same_place a b h i = (grind (arith, nat_tests), grind (arith, nat_tests), grind (arith, nat_tests))

abbrev made : ℕ → ℕ → ℕ → Fault
made line column rule = record { place = record { line = line; column = column }; rule = rule }

pub one_least : (Is : Fault → Type 0) (a b : Fault) → IsLeast a Is → IsLeast b Is → a ≡ b
one_least Is a b x y =
    let same = same_place a b (y.least a x.among) (x.least b y.among) in
    ap (λ line. made line a.place.column a.rule) same.0 ∙ ap (λ column. made b.place.line column a.rule) same.1 ∙ ap (made b.place.line b.place.column) same.2

-- ---- what stands before a fault has an earlier line, else an earlier column, else an earlier rule

data Earlier (g f : Fault) : Type 0 where
  by_line : g.place.line < f.place.line → Earlier g f
  by_column : g.place.line ≡ f.place.line → g.place.column < f.place.column → Earlier g f
  by_rule : g.place.line ≡ f.place.line → g.place.column ≡ f.place.column → g.rule < f.rule → Earlier g f

earlier : (g f : Fault) → is_before g f ≡ true → Earlier g f
earlier g f h = on_line (nat_lt g.place.line f.place.line) refl
  where
    on_column : (b : Bool) → nat_lt g.place.line f.place.line ≡ false → nat_lt g.place.column f.place.column ≡ b → Earlier g f
    on_column true d e = by_column (grind (arith, nat_tests)) (ltb-true g.place.column f.place.column e)
    on_column false d e = by_rule (grind (arith, nat_tests)) (grind (arith, nat_tests)) (grind (arith, nat_tests))

    on_line : (b : Bool) → nat_lt g.place.line f.place.line ≡ b → Earlier g f
    on_line true e = by_line (ltb-true g.place.line f.place.line e)
    on_line false e = on_column (nat_lt g.place.column f.place.column) e refl

module _ (Is : Fault → Type 0) (never : (f : Fault) → IsLeast f Is → ⊥) where
  none_at : (f : Fault) → ((g : Fault) → Is g → Earlier g f → ⊥) → Is f → ⊥
  none_at f before is = never f (record { among = is; least = λ g h. by g h (is_before g f) refl })
    where
      by : (g : Fault) → Is g → (b : Bool) → is_before g f ≡ b → is_before g f ≡ false
      by g h true e = absurd (before g h (earlier g f e))
      by g h false e = e

  abbrev NoLine : ℕ → Type 0
  NoLine line = (f : Fault) → f.place.line < line → Is f → ⊥

  abbrev NoColumn : ℕ → ℕ → Type 0
  NoColumn line column = (f : Fault) → f.place.line ≡ line → f.place.column < column → Is f → ⊥

  abbrev NoRule : ℕ → ℕ → ℕ → Type 0
  NoRule line column rule = (f : Fault) → f.place.line ≡ line → f.place.column ≡ column → f.rule < rule → Is f → ⊥

  -- none at a line and a column, where none is before them
  here : (line column rule : ℕ) → NoLine line → NoColumn line column → NoRule line column rule → (f : Fault) → f.place.line ≡ line → f.place.column ≡ column → f.rule ≡ rule → Is f → ⊥
  here line column rule lines columns rules f l c r is = none_at f before is
    where
      before : (g : Fault) → Is g → Earlier g f → ⊥
      before g h (by_line a) = lines g (omega arith) h
      before g h (by_column a b) = columns g (omega arith) (omega arith) h
      before g h (by_rule a b d) = rules g (omega arith) (omega arith) (omega arith) h

  -- one line, column or rule more, by what holds below it and at it
  one_more : (n m : ℕ) → n < suc m → (n < m → ⊥) → (n ≡ m → ⊥) → ⊥
  one_more n m lt below equal = by (nat_lt n m) refl
    where
      by : (b : Bool) → nat_lt n m ≡ b → ⊥
      by true e = below (ltb-true n m e)
      by false e = let le = ltb-false n m e in equal (omega arith)

  no_rule : (line column : ℕ) → NoLine line → NoColumn line column → (rule : ℕ) → NoRule line column rule
  no_rule line column lines columns zero f l c r is = absurd (omega arith)
  no_rule line column lines columns (suc rule) f l c r is =
      one_more f.rule rule r (λ r. no_rule line column lines columns rule f l c r is)
      (λ r. here line column rule lines columns (no_rule line column lines columns rule) f l c r is)

  no_column : (line : ℕ) → NoLine line → (column : ℕ) → NoColumn line column
  no_column line lines zero f l c is = absurd (omega arith)
  no_column line lines (suc column) f l c is =
      one_more f.place.column column c (λ c. no_column line lines column f l c is)
      (λ c. no_rule line column lines (no_column line lines column) (suc f.rule) f l c (omega arith) is)

  no_line : (line : ℕ) → NoLine line
  no_line zero f l is = absurd (omega arith)
  no_line (suc line) f l is =
      one_more f.place.line line l (λ l. no_line line f l is)
      (λ l. no_column line (no_line line) (suc f.place.column) f l (omega arith) is)

  -- where none is the least, there is none
  pub no_fault : (f : Fault) → Is f → ⊥
  no_fault f is = no_line (suc f.place.line) f (omega arith) is
