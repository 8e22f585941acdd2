-- Declared locals of a text without faults are in range, and their names go on to match.
use Rattle.std.proofs.Common.{ℕ, suc, ◌+◌, ◌<◌, ◌≤◌, ◌≡◌, ◌∙◌, sym, ap, refl, Bool, false, cond, ℤ, pos, negsuc, Option, Some, None, List, [], ◌∷◌, ◌++◌, append_assoc, subst, arith, ⊎_elim, ◌⊎◌, inl, inr, map}
use Rattle.std.proofs.lemmas.Bool.Decides.{nat_tests}
use Rattle.std.proofs.lemmas.List.{map-append}
use Rattle.std.specs.Int.{cast_unsigned, w32}
use Rattle.forec_tree.specs.declared.tree.Number.{Number}
use Rattle.forec_tree.specs.declared.tree.Name.{Name}
use Rattle.forec_tree.specs.Terms.{Terms, no_terms, more_terms, count_terms, Declared, Text}
use Rattle.forec_tree.specs.Scopes as tree
use Rattle.forec_tree.specs.Scopes.{Scope, with_name, is_among, is_array}
use Rattle.forec_tree.specs.Findings.{in_term, in_terms, in_locals}
use Rattle.forec_tree.specs.Rules.{Judging, fault_if, outside, length_faults, findings_faults, declared_faults}
use Rattle.forec_tree.specs.Faults.{Member, here, later}
use Rattle.forec_kernel.specs.Terms as kernel
use Rattle.forec_kernel.specs.Terms.{Stmts, no_stmts, more_stmts}
use Rattle.forec_kernel.specs.Shapes.{PlainKernel}
use Rattle.forec_kernel.specs.WellFormed as wf
use Rattle.forec_kernel.specs.WellFormed.{FineExpr, FineStmt, FineStmts, IsArray}
use Rattle.text_kernel.specs.declared.names.Slot.{Slot}
use Rattle.text_kernel.specs.Bindings as binds
use Rattle.text_kernel.specs.Bindings.{number_of, size_of, slots_of, local_slot}
use Rattle.text_kernel.specs.Lowering.{array_values, lower_local, lower_locals, slots_after, Inlined}
use Rattle.text_kernel.proofs.Fine.{none_left, none_right, not_broken, parts_left, parts_right, seen_of, has_size, long_of, GoodSlot, Matches, Sized, Knows, fine_term}
use Rattle.text_kernel.proofs.FineStatements.{sequence_fine}
use Rattle.text_kernel.proofs.Rises.{behind_rises}

pub record InRange (most : ℕ) (n : ℕ) : Type 0 where
  pub low : 1 ≤ n
  pub high : n ≤ most

pub number_in : (most : ℕ) (v : ℤ) → most < 4294967296 → outside (pos most) v ≡ false → InRange most (cast_unsigned w32 v)
number_in most (pos m) l h = record { low = grind (arith, nat_tests); high = grind (arith, nat_tests) }
number_in most (negsuc m) l h = cc

-- rule 17 at an array whose elements are variables
pub elements_sized : (n : Number) → outside (pos 65536) n.value ≡ false → Sized n
elements_sized n h = pick n.value h
  where
    pick : (v : ℤ) → outside (pos 65536) v ≡ false → Sized (record { value = v; place = n.place })
    pick (pos m) e = record { some = grind (arith, nat_tests); most = grind (arith, nat_tests) }
    pick (negsuc m) e = cc

pub seen_size : (size : Option Number) → has_size (size_of size) ≡ is_array size
seen_size None = refl
seen_size (Some n) = refl

slots_long : (size : Option Number) → slots_of size ≡ long_of (size_of size)
slots_long None = refl
slots_long (Some n) = refl

good_slot : (words id slot : ℕ) (size : Option Number) → slot + slots_of size ≤ words → length_faults size ≡ [] → GoodSlot words (record { id = id; slot = slot; size = size_of size })
good_slot words id slot None l h = record { within = l; some = omega arith; most = omega arith }
good_slot words id slot (Some n) l h =
    let r = number_in 65536 n.value (omega arith) (not_broken (outside (pos 65536) n.value) n.place 17 h) in record { within = l; some = r.low; most = r.high }

member_last : (x y : Slot) (s : List Slot) → Member x (s ++ y ∷ []) → Member x s ⊎ (x ≡ y)
member_last x y [] here = inr refl
member_last x y [] (later h) = elim h [ ]
member_last x y (z ∷ s) here = inl here
member_last x y (z ∷ s) (later h) = ⊎_elim (λ k. inl (later k)) (λ e. inr e) (member_last x y s h)

-- what is seen of the slots with one more, whose name the block has not declared
pub seen_more : (sc : Scope) (s : List Slot) (x : Slot) (array : Bool) → has_size x.size ≡ array → map seen_of s ≡ sc.outer ++ sc.here → is_among x.id sc.here ≡ false →
    map seen_of (s ++ x ∷ []) ≡ (with_name sc x.id array).outer ++ (with_name sc x.id array).here
seen_more sc s x array a m e = more ∙ ap (λ (z : Scope). z.outer ++ z.here) (sym added)
  where
    next_scope : Scope
    next_scope = record { outer = sc.outer; here = sc.here ++ record { id = x.id; array = array } ∷ [] }

    added : with_name sc x.id array ≡ next_scope
    added = ap (λ b. cond b sc next_scope) e

    more : map seen_of (s ++ x ∷ []) ≡ sc.outer ++ (sc.here ++ record { id = x.id; array = array } ∷ [])
    more =
        map-append seen_of s (x ∷ [])
        ∙ (ap (λ l. l ++ record { id = x.id; array = has_size x.size } ∷ []) m
        ∙ (ap (λ b. (sc.outer ++ sc.here) ++ record { id = x.id; array = b } ∷ []) a ∙ append_assoc sc.outer sc.here (record { id = x.id; array = array } ∷ [])))

pub matches_more : (words : ℕ) (sc : Scope) (s : List Slot) (x : Slot) (array : Bool) → has_size x.size ≡ array → Matches words sc s → GoodSlot words x → is_among x.id sc.here ≡ false →
    Matches words (with_name sc x.id array) (s ++ x ∷ [])
matches_more words sc s x array a m g e =
    record {
      same = seen_more sc s x array a m.same e;
      good = λ y h. ⊎_elim (λ k. m.good y k) (λ d. subst (GoodSlot words) (sym d) g) (member_last y x s h);
    }

module _ (text : Text) (k : PlainKernel) (words : ℕ) (uses : List ℕ) (j : Judging) (knows : Knows text k uses j.gives) (called : ℕ → Inlined) where
  abbrev scope : wf.TermScope
  scope = record { kernel = k; words = words; uses = uses }

  values_fine : (sc : Scope) (s : List Slot) (slot size n : ℕ) (es : Terms) (place : Rattle.forec_base.specs.declared.Place.Place) → IsArray scope slot size → Matches words sc s → findings_faults j (in_terms text sc es) ≡ [] →
      FineStmts j.gives scope (array_values text s slot size n es place)
  values_fine sc s slot size n no_terms place a m h = tt
  values_fine sc s slot size n (more_terms e rest) place a m h = (
    (a, tt, fine_term text k words uses j knows sc s m e (parts_left j (in_term text sc e) (in_terms text sc rest) h)),
    values_fine sc s slot size (suc n) rest place a m (parts_right j (in_term text sc e) (in_terms text sc rest) h),
  )

  local_fine : (sc : Scope) (s : List Slot) (slot : ℕ) (name : Name) (size : Option Number) (es : Terms) → Matches words sc s → length_faults size ≡ [] →
      findings_faults j (in_terms text sc es) ≡ [] → slot + slots_of size ≤ words → FineStmt j.gives scope (lower_local text s slot (record { name = name; length = size; values = es }))
  local_fine sc s slot name None no_terms m g h l = record { within = l; some = omega arith; most = omega arith }
  local_fine sc s slot name None (more_terms e rest) m g h l =
      let low : slot < words = omega arith in (low, fine_term text k words uses j knows sc s m e (parts_left j (in_term text sc e) (in_terms text sc rest) h))
  local_fine sc s slot name (Some n) es m g h l =
      let r = number_in 65536 n.value (omega arith) (not_broken (outside (pos 65536) n.value) n.place 17 g) in
      let a : IsArray scope slot (number_of n) = record { within = l; some = r.low; most = r.high } in
      sequence_fine j.gives scope (more_stmts (kernel.Clear slot (number_of n)) (array_values text s slot (number_of n) 0 es name.place))
      (a, values_fine sc s slot (number_of n) 0 es name.place a m h)

  pub locals_fine : (sc : Scope) (s : List Slot) (slot : ℕ) (ls : List Declared) → Matches words sc s → findings_faults j (in_locals text sc ls) ≡ [] → slots_after text slot ls ≤ words →
      FineStmts j.gives scope (lower_locals text s slot ls) × Matches words (tree.with_locals sc ls) (binds.with_local_slots s slot ls)
  locals_fine sc s slot [] m h l = (tt, m)
  locals_fine sc s slot (d ∷ rest) m h l =
      let own = declared_faults j.names d.name (is_among d.name.id sc.here) d.length (count_terms d.values) in
      let tail_ = in_locals text (with_name sc d.name.id (is_array d.length)) rest in
      let h0 = none_left own (findings_faults j (in_terms text sc d.values ++ tail_)) h in
      let h1 = none_right own (findings_faults j (in_terms text sc d.values ++ tail_)) h in
      let again = not_broken (is_among d.name.id sc.here) d.name.place 2 (none_left (fault_if (is_among d.name.id sc.here) d.name.place 2) _ h0) in
      let sized = none_left (length_faults d.length) _ (none_right (fault_if (is_among d.name.id sc.here) d.name.place 2) _ h0) in
      let up = behind_rises text called (slot + slots_of d.length) rest in
      let low : slot + slots_of d.length ≤ words = omega (arith, up, l) in
      let m' = matches_more words sc s (local_slot slot d) (is_array d.length) (seen_size d.length) m (good_slot words d.name.id slot d.length low sized) again in
      let others = locals_fine (with_name sc d.name.id (is_array d.length)) (s ++ local_slot slot d ∷ []) (slot + slots_of d.length) rest m' (parts_right j (in_terms text sc d.values) tail_ h1) l in
      ((local_fine sc s slot d.name d.length d.values m sized (parts_left j (in_terms text sc d.values) tail_ h1) low, others.0), others.1)
