-- Lists of kernel statements that grow while a list of the tree is lowered.
use Rattle.std.proofs.Common.{ℕ, zero, suc, ◌+◌, ◌<◌, ◌≤◌, ◌≡◌, ◌∙◌, sym, ap, refl, pos, List, [], ◌∷◌, ◌++◌, length, get_or, drop, take, map, length-take, add-one, arith}
use Rattle.std.proofs.Math.Seq.{drop-cons}
use Rattle.std.proofs.lemmas.List.{drop_all, take_all}
use Rattle.forec_base.specs.declared.Place.{Place}
use Rattle.forec_tree.specs.declared.tree.Expr.{Expr}
use Rattle.forec_tree.specs.declared.tree.Local.{Local}
use Rattle.forec_tree.specs.Plain.{term, terms, declared}
use Rattle.forec_tree.specs.Terms.{Text}
use Rattle.forec_kernel.specs.declared.terms.Spot.TheVariants as spot
use Rattle.forec_kernel.specs.Terms.{Num, Stmt, Stmts, no_stmts, more_stmts, Seq, Set, SetAt}
use Rattle.forec_kernel.specs.Plain.{stmt, stmts}
use Rattle.forec_kernel.specs.declared.terms.Statement.{Statement}
use Rattle.text_kernel.specs.declared.names.Slot.{Slot}
use Rattle.lower_names.specs.declared.scope.Scope.{Scope}
use Rattle.text_kernel.specs.Bindings.{local_slot, slots_of, with_local_slots}
use Rattle.lower_names.specs.Views.{AppendsLocals}
use Rattle.text_kernel.specs.Lowering.{joined_stmts, sequence, lower_term, array_values, set_params, lower_local, lower_locals, slots_after}

pub joined_none : (a : Stmts) → joined_stmts a no_stmts ≡ a
joined_none no_stmts = refl
joined_none (more_stmts s a) = ap (more_stmts s) (joined_none a)

pub pushed : (xs : List Statement) (x : Statement) (rest : Stmts) → joined_stmts (stmts (xs ++ x ∷ [])) rest ≡ joined_stmts (stmts xs) (more_stmts (stmt x) rest)
pushed [] x rest = refl
pushed (y ∷ xs) x rest = ap (more_stmts (stmt y)) (pushed xs x rest)

-- a sequence of two or more
pub long_sequence : (xs : List Statement) → 1 < length xs → Seq (stmts xs) ≡ sequence (stmts xs)
long_sequence [] h = absurd (omega arith)
long_sequence (x ∷ []) h = absurd (omega arith)
long_sequence (x ∷ y ∷ xs) h = refl

pub joined_all : (items : List Statement) (rest whole : Stmts) → rest ≡ no_stmts → joined_stmts (stmts items) rest ≡ whole → stmts items ≡ whole
joined_all items rest whole e w = sym (joined_none (stmts items)) ∙ (ap (joined_stmts (stmts items)) (sym e) ∙ w)

-- one statement more
pub joined_more : (xs ys : List Statement) (x : Statement) (a : Stmt) (now next whole : Stmts) → now ≡ more_stmts a next → stmt x ≡ a → ys ≡ xs ++ x ∷ [] → joined_stmts (stmts xs) now ≡ whole → joined_stmts (stmts ys) next ≡ whole
joined_more xs ys x a now next whole e g p w =
    ap (λ q. joined_stmts (stmts q) next) p ∙ (pushed xs x next ∙ (ap (λ b. joined_stmts (stmts xs) (more_stmts b next)) g ∙ (ap (joined_stmts (stmts xs)) (sym e) ∙ w)))

pub drop_next : {A : Type 0} (items : List A) (i : ℕ) (a : A) → i < length items → get_or items i a ≡ a → drop i items ≡ a ∷ drop (i + 1) items
drop_next items i a h e = drop-cons items i a h ∙ rw (e, add-one) refl

module _ (text : Text) (s : List Slot) where
  -- arguments
  sets_next : (items : List Expr) (i at next : ℕ) (a : Expr) → drop i items ≡ a ∷ drop (i + 1) items → next ≡ at + 1 →
      set_params text s at (terms (drop i items)) ≡ more_stmts (Set (spot.Local at) (lower_term text s (term a))) (set_params text s next (terms (drop (i + 1) items)))
  sets_next items i at next a d n =
      let e : suc at ≡ next = omega (arith, n) in
      ap (λ q. set_params text s at (terms q)) d ∙ ap (λ m. more_stmts (Set (spot.Local at) (lower_term text s (term a))) (set_params text s m (terms (drop (i + 1) items)))) e

  pub sets_step : (items : List Expr) (i at next : ℕ) (a : Expr) (xs ys : List Statement) (x : Statement) (whole : Stmts) → i < length items → get_or items i a ≡ a → next ≡ at + 1 →
      stmt x ≡ Set (spot.Local at) (lower_term text s (term a)) → ys ≡ xs ++ x ∷ [] → joined_stmts (stmts xs) (set_params text s at (terms (drop i items))) ≡ whole →
      joined_stmts (stmts ys) (set_params text s next (terms (drop (i + 1) items))) ≡ whole
  sets_step items i at next a xs ys x whole l g n v p w = joined_more xs ys x _ _ _ whole (sets_next items i at next a (drop_next items i a l g) n) v p w

  pub sets_end : (items : List Expr) (i at : ℕ) (xs : List Statement) (whole : Stmts) → length items ≤ i → joined_stmts (stmts xs) (set_params text s at (terms (drop i items))) ≡ whole → stmts xs ≡ whole
  sets_end items i at xs whole h w = joined_all xs _ whole (ap (λ q. set_params text s at (terms q)) (drop_all i items h)) w

  -- initial values
  values_next : (items : List Expr) (i slot size next : ℕ) (a : Expr) (place : Place) → drop i items ≡ a ∷ drop (i + 1) items → next ≡ i + 1 →
      array_values text s slot size i (terms (drop i items)) place
      ≡ more_stmts (SetAt slot size (Num (pos i)) (lower_term text s (term a)) place) (array_values text s slot size next (terms (drop (i + 1) items)) place)
  values_next items i slot size next a place d n =
      let e : suc i ≡ next = omega (arith, n) in
      ap (λ q. array_values text s slot size i (terms q) place) d
      ∙ ap (λ m. more_stmts (SetAt slot size (Num (pos i)) (lower_term text s (term a)) place) (array_values text s slot size m (terms (drop (i + 1) items)) place)) e

  pub values_step : (items : List Expr) (i slot size : ℕ) (a : Expr) (place : Place) (xs ys : List Statement) (x : Statement) (whole : Stmts) → i < length items → get_or items i a ≡ a →
      stmt x ≡ SetAt slot size (Num (pos i)) (lower_term text s (term a)) place → ys ≡ xs ++ x ∷ [] → joined_stmts (stmts xs) (array_values text s slot size i (terms (drop i items)) place) ≡ whole →
      joined_stmts (stmts ys) (array_values text s slot size (i + 1) (terms (drop (i + 1) items)) place) ≡ whole
  values_step items i slot size a place xs ys x whole l g v p w =
      joined_more xs ys x _ _ _ whole (values_next items i slot size (i + 1) a place (drop_next items i a l g) refl) v p w

  pub values_end : (items : List Expr) (i slot size : ℕ) (place : Place) (xs : List Statement) (whole : Stmts) → length items ≤ i →
      joined_stmts (stmts xs) (array_values text s slot size i (terms (drop i items)) place) ≡ whole → stmts xs ≡ whole
  values_end items i slot size place xs whole h w = joined_all xs _ whole (ap (λ q. array_values text s slot size i (terms q) place) (drop_all i items h)) w

-- one declarator more
pub locals_list : (text : Text) (s t : List Slot) (at next : ℕ) (d : Local) (rest : List Local) (xs ys : List Statement) (x : Statement) (whole : Stmts) (items : List Local) (i : ℕ) →
    drop i items ≡ d ∷ rest → t ≡ s ++ local_slot at (declared d) ∷ [] → next ≡ at + slots_of d.length → stmt x ≡ lower_local text s at (declared d) → ys ≡ xs ++ x ∷ [] →
    joined_stmts (stmts xs) (lower_locals text s at (map declared (drop i items))) ≡ whole → joined_stmts (stmts ys) (lower_locals text t next (map declared rest)) ≡ whole
locals_list text s t at next d rest xs ys x whole items i e g n v p w =
    joined_more xs ys x (lower_local text s at (declared d)) (lower_locals text s at (map declared (drop i items))) (lower_locals text t next (map declared rest)) whole
    (ap (λ l. lower_locals text s at (map declared l)) e
    ∙ (ap (λ q. more_stmts (lower_local text s at (declared d)) (lower_locals text q (at + slots_of d.length) (map declared rest))) (sym g)
    ∙ ap (λ m. more_stmts (lower_local text s at (declared d)) (lower_locals text t m (map declared rest))) (sym n)))
    v p w

pub locals_slot : (text : Text) (at next : ℕ) (d : Local) (rest items : List Local) (i whole : ℕ) → drop i items ≡ d ∷ rest → next ≡ at + slots_of d.length →
    slots_after text at (map declared (drop i items)) ≡ whole → slots_after text next (map declared rest) ≡ whole
locals_slot text at next d rest items i whole e n w = ap (λ m. slots_after text m (map declared rest)) n ∙ (ap (λ l. slots_after text at (map declared l)) (sym e) ∙ w)

pub locals_seen : (s t : List Slot) (at next : ℕ) (d : Local) (rest items : List Local) (i : ℕ) (whole : List Slot) → drop i items ≡ d ∷ rest → t ≡ s ++ local_slot at (declared d) ∷ [] → next ≡ at + slots_of d.length →
    with_local_slots s at (map declared (drop i items)) ≡ whole → with_local_slots t next (map declared rest) ≡ whole
locals_seen s t at next d rest items i whole e g n w =
    ap (λ q. with_local_slots q next (map declared rest)) g ∙ (ap (λ m. with_local_slots (s ++ local_slot at (declared d) ∷ []) m (map declared rest)) n ∙ (ap (λ l. with_local_slots s at (map declared l)) (sym e) ∙ w))

pub locals_end : (text : Text) (s : List Slot) (at : ℕ) (items : List Local) (i : ℕ) (xs : List Statement) (whole : Stmts) → length items ≤ i →
    joined_stmts (stmts xs) (lower_locals text s at (map declared (drop i items))) ≡ whole → stmts xs ≡ whole
locals_end text s at items i xs whole h w = joined_all xs _ whole (ap (λ l. lower_locals text s at (map declared l)) (drop_all i items h)) w

take_less : {A : Type 0} (n m : ℕ) (xs : List A) → n ≤ m → take n (take m xs) ≡ take n xs
take_less zero m xs h = refl
take_less (suc n) zero xs h = absurd (omega arith)
take_less (suc n) (suc m) [] h = refl
take_less (suc n) (suc m) (x ∷ xs) h = ap (λ l. x ∷ l) (take_less n m xs (omega arith))

-- kept locals, one step after the other
pub kept_then : (a b c : Scope) → AppendsLocals a b → AppendsLocals b c → AppendsLocals a c
kept_then a b c h g =
    let n = length a.slots.items in
    let m = length b.slots.items in
    let low : n ≤ m = (let e = ap length h.front in let l = length-take n b.slots.items in omega (arith, e, l)) in
    record { base = g.base ∙ h.base; front = sym (take_less n m c.slots.items low) ∙ (ap (take n) g.front ∙ h.front) }

pub kept_none : (a : Scope) → AppendsLocals a a
kept_none a = record { base = refl; front = take_all (length a.slots.items) a.slots.items (omega arith) }
