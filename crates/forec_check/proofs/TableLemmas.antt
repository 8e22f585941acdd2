-- A table of values of functions, one function more; and values that follow from those of the functions that are called or started.
use Rattle.std.proofs.Common.{ℕ, suc, ◌+◌, ◌<◌, ◌≤◌, ◌≡◌, ◌∙◌, ◌==◌, sym, ap, refl, Bool, true, false, cond, not, ◌||◌, Option, Some, None, List, [], ◌∷◌, ◌++◌, length, take, get_or, arith}
use Rattle.std.proofs.Math.Seq.{take-suc}
use Rattle.std.proofs.lemmas.List.{take_all}
use Rattle.std.proofs.lemmas.Bool.{eqb-true}
use Rattle.forec_tree.specs.Terms.{Text, PlainFunction}
use Rattle.forec_tree.specs.Rules.{is_none}
use Rattle.forec_tree.specs.Pauses.{within, find_function, function_callees, callees_of}
use Rattle.forec_tree.specs.Faults.{is_in, Leads}
use Rattle.forec_tree.proofs.Fixed.{IsLocal}
use Rattle.loop_check.specs.Graph.{IsOrder}
use Rattle.loop_check.specs.Known.{Read, started_in}
use Rattle.loop_check.specs.Numbered.{put_entry}
use Rattle.loop_check.proofs.IndexLemmas.{split}
use Rattle.loop_check.proofs.Ordered.{is_in_snoc}
use Rattle.loop_check.proofs.Reading.{leads_same, started_list}
use Rattle.loop_check.proofs.Settled.{settle, out, all_ordered}
use Rattle.forec_check.specs.Table.{Agrees, Settles}

clash : {P : Type 0} (b : Bool) → b ≡ true → b ≡ false → P
clash b t f = absurd (let q : true ≡ false = sym t ∙ f in cc)

or_no : (b : Bool) → (b || false) ≡ b
or_no true = refl
or_no false = refl

or_yes : (b : Bool) → (b || true) ≡ true
or_yes true = refl
or_yes false = refl

module _ {A : Type 0} (default : A) (value : ℕ → A) (order : List ℕ) where
  pub agrees_next : (n : ℕ) (table next : ℕ → A) (v : A) → n < length order → Agrees default value order n table → v ≡ value (get_or order n 0) →
      ((h : ℕ) → next h ≡ put_entry (get_or order n 0) h v (table h)) → Agrees default value order (n + 1) next
  agrees_next n table next v h a is put =
      let f = get_or order n 0 in
      let t : take (n + 1) order ≡ take n order ++ f ∷ [] = let e : n + 1 ≡ suc n = omega arith in ap (λ m. take m order) e ∙ take-suc order n 0 h in
      let snoc = λ (x : ℕ). ap (is_in x) t ∙ is_in_snoc x f (take n order) in
      record {
        inside = λ x i.
            put x ∙
            split (f == x) (λ e. ap (λ b. cond b v (table x)) e ∙ is ∙ ap value (eqb-true f x e))
            (λ e.
            ap (λ b. cond b v (table x)) e
            ∙ a.inside x (sym (snoc x ∙ ap (λ b. is_in x (take n order) || b) e ∙ or_no (is_in x (take n order))) ∙ i));
        outside = λ x i.
            put x ∙
            split (f == x) (λ e. clash (is_in x (take (n + 1) order)) (snoc x ∙ ap (λ b. is_in x (take n order) || b) e ∙ or_yes (is_in x (take n order))) i)
            (λ e.
            ap (λ b. cond b v (table x)) e
            ∙ a.outside x (sym (snoc x ∙ ap (λ b. is_in x (take n order) || b) e ∙ or_no (is_in x (take n order))) ∙ i));
      }

  pub none_agree : (table : ℕ → A) → ((h : ℕ) → table h ≡ default) → Agrees default value order 0 table
  none_agree table h = record { inside = λ g i. absurd (let q : false ≡ true = i in cc); outside = λ g i. h g }

  -- a whole table
  pub all_agree : (step : (ℕ → A) → ℕ → A) (n : ℕ) (table : ℕ → A) → Settles default step value order → length order ≤ n → Agrees default value order n table → (h : ℕ) → table h ≡ value h
  all_agree step n table s l a h =
      let whole : take n order ≡ order = take_all n order l in
      split (is_in h order) (λ i. a.inside h (ap (is_in h) whole ∙ i)) (λ i. a.outside h (ap (is_in h) whole ∙ i) ∙ sym (s.rest h i))

-- an order of all functions settles what depends on the functions that are called alone
pub settles_by : {A : Type 0} (default : A) (step : (ℕ → A) → ℕ → A) (deep : ℕ) (functions order : List ℕ) (calls : ℕ → List ℕ) → IsOrder functions calls order → IsLocal calls step →
    ((g : ℕ) → is_in g functions ≡ false → (a : ℕ → A) → step a g ≡ default) → ((f : ℕ) → Leads calls f f → ⊥) → length order ≤ deep →
    Settles default step (within default step deep) order
settles_by default step deep functions order calls o loc outside free short =
    record {
      next = λ k a l agree. settle default step functions calls order o loc outside deep k a l (omega (arith, l, short)) agree.inside agree.outside;
      rest = λ h i.
          out default step functions calls order o loc outside deep h
          (split (is_in h functions) (λ f. clash (is_in h order) (all_ordered functions calls order o free h f) i) (λ f. f));
    }

-- an order of all functions settles what a function's text gives by the values of the functions that it calls or starts
module _ {A : Type 0} (default : A) (of : (ℕ → A) → Option PlainFunction → A) (none : (a : ℕ → A) → of a None ≡ default)
    (same : (a b : ℕ → A) (f : Option PlainFunction) → ((g : ℕ) → is_in g (function_callees f) ≡ true → a g ≡ b g) → of a f ≡ of b f) where
  absent : (a : ℕ → A) (f : Option PlainFunction) → not (is_none f) ≡ false → of a f ≡ default
  absent a None h = none a
  absent a (Some f) h = clash true refl h

  pub started_settles : (text : Text) (functions order : List ℕ) (calls : ℕ → List ℕ) → Read started_in text functions calls → IsOrder functions calls order →
      ((f : ℕ) → Leads (callees_of text) f f → ⊥) →
      Settles default (λ called id. of called (find_function id text)) (within default (λ called id. of called (find_function id text)) (length text)) order
  started_settles text functions order calls r o free =
      let lists = λ (f : ℕ). r.lists f ∙ started_list (find_function f text) in
      let short = o.short in
      let few = r.few in
      settles_by default (λ called id. of called (find_function id text)) (length text) functions order calls o
      (record { agrees = λ f a b h. same a b (find_function f text) (λ g e. h g (ap (is_in g) (lists f) ∙ e)) })
      (λ g h a. absent a (find_function g text) (sym (r.stands g) ∙ h)) (λ g l. free g (leads_same calls (callees_of text) lists l)) (omega (arith, short, few))
