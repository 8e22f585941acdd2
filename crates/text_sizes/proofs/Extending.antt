-- The table of extents tells how many terms the translation has, up to the cap.
use Rattle.std.proofs.Common.{ℕ, zero, suc, ◌-◌, ◌^◌, ◌≡◌, ◌∙◌, min, ap, refl, true, Option, Some, None, List, [], length}
use Rattle.forec_tree.specs.Terms.{Text, PlainFunction}
use Rattle.forec_tree.specs.Pauses.{within, find_function, function_callees, callees_of}
use Rattle.forec_tree.specs.Faults.{is_in, Leads}
use Rattle.forec_kernel.specs.WellFormed.{stmt_terms}
use Rattle.loop_check.specs.Graph.{IsOrder}
use Rattle.loop_check.specs.Known.{Read, started_in}
use Rattle.forec_check.specs.Table.{Settles}
use Rattle.forec_check.proofs.TableLemmas.{started_settles}
use Rattle.text_sizes.specs.declared.extents.Extent.{Extent}
use Rattle.text_kernel.specs.Bindings.{params_at}
use Rattle.text_sizes.specs.TermCounts.{sequence_count, statement_count, own_all, under_all}
use Rattle.text_kernel.specs.Lowering.{NextNumbers, Inlined, inlined_step, nothing_inlined, inlined_body}
use Rattle.text_sizes.specs.Extents.{no_extent, extent_at, extent_by, extent_step, exact, capped_size, extent_value}
use Rattle.text_sizes.proofs.TermCountLemmas.{sequence_as, all_is, length_is}
use Rattle.text_sizes.proofs.Sized.{made_terms, list_under}
use Rattle.text_sizes.proofs.Nearby.{again, sequence_near, all_near, list_near}

-- ---- tables

pub nothing_known : (h : ℕ) → extent_at [] h ≡ no_extent
nothing_known zero = refl
nothing_known (suc h) = refl

-- ---- an extent depends on the functions that are called or started alone

abbrev of_parts : ℕ → ℕ → Extent
of_parts a b = record { own = a; under = b }

extent_same : (a b : ℕ → Extent) (f : Option PlainFunction) → ((g : ℕ) → is_in g (function_callees f) ≡ true → a g ≡ b g) → extent_by capped_size a f ≡ extent_by capped_size b f
extent_same a b None h = refl
extent_same a b (Some f) h =
    let cap = 2 ^ 64 - 1 in
    let own = all_near cap (λ g. (a g).own) (λ g. (b g).own) f.body (λ g i. ap (λ (x : Extent). min x.own cap) (h g i)) in
    let under = list_near cap (λ g. (a g).own) (λ g. (b g).own) (λ g. (a g).under) (λ g. (b g).under) f.body (λ g i. ap (λ (x : Extent). min x.own cap) (h g i)) (λ g i. ap (λ (x : Extent). min x.under cap) (h g i)) in
    ap (λ n. of_parts n (min (under_all (λ g. (a g).own) (λ g. (a g).under) f.body) cap)) (sequence_near cap (statement_count f.body) _ _ own)
    ∙ ap (λ n. of_parts (min (sequence_count (statement_count f.body) (own_all (λ g. (b g).own) f.body)) cap) n) under

pub extents_settle : (text : Text) (functions order : List ℕ) (calls : ℕ → List ℕ) → Read started_in text functions calls → IsOrder functions calls order → ((f : ℕ) → Leads (callees_of text) f f → ⊥) →
    Settles no_extent (extent_step capped_size text) (extent_value text) order
unfolding extent_value
extents_settle text functions order calls r o free = started_settles no_extent (extent_by capped_size) (λ a. refl) extent_same text functions order calls r o free

-- ---- what is exact and what is capped

pub record IsCapped (kept whole : Extent) : Type 0 where
  pub own : kept.own ≡ min whole.own (2 ^ 64 - 1)
  pub under : kept.under ≡ min whole.under (2 ^ 64 - 1)

by_capped : (a b : ℕ → Extent) (f : Option PlainFunction) → ((g : ℕ) → IsCapped (a g) (b g)) → IsCapped (extent_by capped_size a f) (extent_by exact b f)
by_capped a b None h = record { own = refl; under = refl }
by_capped a b (Some f) h =
    let cap = 2 ^ 64 - 1 in
    let own = λ (g : ℕ). again (a g).own (b g).own (h g).own in
    let under = λ (g : ℕ). again (a g).under (b g).under (h g).under in
    record {
      own = sequence_near cap (statement_count f.body) _ _ (all_near cap (λ g. (a g).own) (λ g. (b g).own) f.body (λ g i. own g));
      under = list_near cap (λ g. (a g).own) (λ g. (b g).own) (λ g. (a g).under) (λ g. (b g).under) f.body (λ g i. own g) (λ g i. under g);
    }

within_capped : (text : Text) (deep id : ℕ) → IsCapped (within no_extent (extent_step capped_size text) deep id) (within no_extent (extent_step exact text) deep id)
unfolding within
within_capped text zero id = record { own = refl; under = refl }
within_capped text (suc deep) id = by_capped (within no_extent (extent_step capped_size text) deep) (within no_extent (extent_step exact text) deep) (find_function id text) (within_capped text deep)

pub value_capped : (text : Text) (id : ℕ) → IsCapped (extent_value text id) (within no_extent (extent_step exact text) (length text) id)
unfolding extent_value
value_capped text id = within_capped text (length text) id

-- ---- what is put in place has so many terms

pub record HasTerms (text : Text) (deep id : ℕ) (e : Extent) : Type 0 where
  pub own : (first t : ℕ) (n : NextNumbers) → stmt_terms (within nothing_inlined (inlined_step text) deep id first t n).stmt ≡ e.own
  pub under : (first t : ℕ) (n : NextNumbers) → made_terms (within nothing_inlined (inlined_step text) deep id first t n).made ≡ e.under

body_own : (text : Text) (called : ℕ → Inlined) (sizes : ℕ → Extent) → ((id first t : ℕ) (n : NextNumbers) → stmt_terms (called id first t n).stmt ≡ (sizes id).own) →
    (f : Option PlainFunction) (first t : ℕ) (n : NextNumbers) → stmt_terms (inlined_body text called f first t n).stmt ≡ (extent_by exact sizes f).own
body_own text called sizes right None first t n = refl
body_own text called sizes right (Some f) first t n =
    sequence_as _ _ _ (length_is text called t (params_at first f.params) n f.body) (all_is text called (λ g. (sizes g).own) right t (params_at first f.params) n f.body)

body_under : (text : Text) (called : ℕ → Inlined) (sizes : ℕ → Extent) → ((id first t : ℕ) (n : NextNumbers) → stmt_terms (called id first t n).stmt ≡ (sizes id).own) →
    ((id first t : ℕ) (n : NextNumbers) → made_terms (called id first t n).made ≡ (sizes id).under) →
    (f : Option PlainFunction) (first t : ℕ) (n : NextNumbers) → made_terms (inlined_body text called f first t n).made ≡ (extent_by exact sizes f).under
body_under text called sizes right beneath None first t n = refl
body_under text called sizes right beneath (Some f) first t n =
    list_under text called (λ g. (sizes g).own) (λ g. (sizes g).under) right beneath t (params_at first f.params) n f.body

place_own : (text : Text) (deep id first t : ℕ) (n : NextNumbers) → stmt_terms (within nothing_inlined (inlined_step text) deep id first t n).stmt ≡ (within no_extent (extent_step exact text) deep id).own
unfolding within
place_own text zero id first t n = refl
place_own text (suc deep) id first t n =
    body_own text (within nothing_inlined (inlined_step text) deep) (within no_extent (extent_step exact text) deep) (place_own text deep) (find_function id text) first t n

place_under : (text : Text) (deep id first t : ℕ) (n : NextNumbers) → made_terms (within nothing_inlined (inlined_step text) deep id first t n).made ≡ (within no_extent (extent_step exact text) deep id).under
unfolding within
place_under text zero id first t n = refl
place_under text (suc deep) id first t n =
    body_under text (within nothing_inlined (inlined_step text) deep) (within no_extent (extent_step exact text) deep) (place_own text deep) (place_under text deep) (find_function id text) first t n

pub has_terms : (text : Text) (deep id : ℕ) → HasTerms text deep id (within no_extent (extent_step exact text) deep id)
has_terms text deep id = record { own = place_own text deep id; under = place_under text deep id }
