-- Statements of a text without faults are in range.
use Rattle.std.proofs.Common.{ℕ, ◌+◌, ◌<◌, ◌≤◌, ◌≡◌, refl, Bool, true, false, cond, not, ◌&&◌, Option, Some, None, List, [], arith}
use Rattle.forec_base.specs.declared.Place.{Place}
use Rattle.forec_tree.specs.declared.tree.Name.{Name}
use Rattle.forec_tree.specs.declared.tree.Number.{Number}
use Rattle.forec_tree.specs.declared.tree.OpAt.{OpAt}
use Rattle.forec_tree.specs.declared.uses.How.TheVariants.{Writes, WritesAt}
use Rattle.forec_tree.specs.Terms.{Term, Text, PlainItem, PlainGlobal, IsGlobal, IsFunction}
use Rattle.forec_tree.specs.Scopes.{Scope, find_item, is_array, stated_length, local_meaning, item_meaning, meaning}
use Rattle.forec_tree.specs.Variables.{elements}
use Rattle.forec_tree.specs.Findings.{in_target}
use Rattle.forec_tree.specs.Rules.{Judging, is_constant, use_faults, findings_faults}
use Rattle.forec_kernel.specs.Terms as kernel
use Rattle.forec_kernel.specs.Terms.{Expr, Exprs, Stmt, Stmts, no_stmts, more_stmts}
use Rattle.forec_kernel.specs.Shapes.{PlainKernel}
use Rattle.forec_kernel.specs.WellFormed as wf
use Rattle.forec_kernel.specs.Combining.{contains}
use Rattle.forec_kernel.specs.WellFormed.{FineExpr, FineStmt, FineStmts, IsArray, IsSharedArray, count_up, all_in, has_place, can_divide}
use Rattle.text_kernel.specs.declared.names.Slot.{Slot}
use Rattle.text_kernel.specs.declared.names.Stands.TheVariants as st
use Rattle.text_kernel.specs.Bindings.{find_slot, slot_stands, item_stands, constant_stands, variable_stands, variable_number}
use Rattle.text_kernel.specs.Lowering.{lower_term, sequence, ends_with, operated_expr, assign_to, assign_at, lower_target, Inlined}
use Rattle.text_kernel.proofs.Fine.{none_left, none_right, GoodUse, has_size, long_of, seen_option, GoodSlot, Matches, finds, Sized, GoodItem, Knows, place_has, falls, just, fine_term, slot_good, use_good}

pub sequence_fine : (f : Bool) (s : wf.TermScope) (list : Stmts) → FineStmts f s list → FineStmt f s (sequence list)
sequence_fine f s no_stmts h = tt
sequence_fine f s (more_stmts a no_stmts) h = h.0
sequence_fine f s (more_stmts a (more_stmts b rest)) h = h

pub ends_fine : (f : Bool) (s : wf.TermScope) (list : Stmts) (a : Stmt) → FineStmts f s list → FineStmt f s a → FineStmts f s (ends_with list a)
ends_fine f s no_stmts a h g = (g, tt)
ends_fine f s (more_stmts b rest) a h g = (h.0, ends_fine f s rest a h.1 g)

operated_fine : (s : wf.TermScope) (op : Option OpAt) (old value : Expr) → FineExpr s old → FineExpr s value → FineExpr s (operated_expr op old value)
operated_fine s None old value h g = g
operated_fine s (Some o) old value h g = (place_has o.op o.place, h, g)

module _ (text : Text) (k : PlainKernel) (words : ℕ) (uses : List ℕ) (j : Judging) (knows : Knows text k uses j.gives) where
  abbrev scope : wf.TermScope
  scope = record { kernel = k; words = words; uses = uses }

  -- ---- assignments

  slot_to : (slot : ℕ) (o : Option ℕ) (op : Option OpAt) (value : Expr) → slot + long_of o ≤ words → not (has_size o) ≡ true → FineExpr scope value →
      FineStmt j.gives scope (assign_to (elim o [ None ↦ st.AtSlot slot | Some n ↦ st.AtSlots slot n ]) op value)
  slot_to slot None op value l e f = let low : slot < words = omega arith in (low, operated_fine scope op (kernel.Local slot) value low f)
  slot_to slot (Some n) op value l e f = cc

  variable_to : (v : ℕ) (o : Option Number) (op : Option OpAt) (value : Expr) → all_in (count_up v (elim o [ None ↦ 1 | Some n ↦ elements n ])) uses ≡ true → not (is_array o) ≡ true → FineExpr scope value →
      FineStmt j.gives scope (assign_to (elim o [ None ↦ st.AsVariable v | Some n ↦ st.AsVariables v (elements n) ]) op value)
  variable_to v None op value h e f = let used = just (contains v uses) h in (used, operated_fine scope op (kernel.Var v) value used f)
  variable_to v (Some n) op value h e f = cc

  -- a constant isn't assigned: rule 9
  global_to : (id : ℕ) (g : PlainGlobal) (b : Bool) (op : Option OpAt) (value : Expr) → GoodItem text k uses j.gives id (Some (IsGlobal g)) → is_constant g.kind ≡ b → b ≡ false →
      not (is_array (stated_length g)) ≡ true → (j.gives && not b) ≡ false → FineExpr scope value →
      FineStmt j.gives scope (assign_to (cond b (constant_stands text g) (variable_stands text g)) op value)
  global_to id g true op value i e w a c f = cc
  global_to id g false op value i e w a c f =
      variable_to (variable_number g.name.id text) (stated_length g) op value (i.variables g refl e (falls j.gives c)) a f

  name_to : (id : ℕ) (o : Option Slot) (i : Option PlainItem) (op : Option OpAt) (value : Expr) → ((x : Slot) → o ≡ Some x → GoodSlot words x) → GoodItem text k uses j.gives id i →
      GoodUse j.gives Writes (local_meaning (seen_option o) (item_meaning i)) → FineExpr scope value → FineStmt j.gives scope (assign_to (elim o [ Some s ↦ slot_stands s | None ↦ item_stands text i ]) op value)
  name_to id (Some x) i op value g w u f = slot_to x.slot x.size op value (g x refl).within u.fits f
  name_to id None None op value g w u f = let bad = u.known in cc
  name_to id None (Some (IsFunction h)) op value g w u f = let bad = u.fits in cc
  name_to id None (Some (IsGlobal h)) op value g w u f = global_to id h (is_constant h.kind) op value w refl (u.written refl) u.fits u.constant f

  slot_to_at : (slot : ℕ) (o : Option ℕ) (op : Option OpAt) (i value : Expr) (place : Place) → slot + long_of o ≤ words → 1 ≤ long_of o → long_of o ≤ 65536 → has_size o ≡ true →
      FineExpr scope i → FineExpr scope value → FineStmt j.gives scope (assign_at (elim o [ None ↦ st.AtSlot slot | Some n ↦ st.AtSlots slot n ]) op i value place)
  slot_to_at slot None op i value place l m q e f g = cc
  slot_to_at slot (Some n) op i value place l m q e f g =
      let a : IsArray scope slot n = record { within = l; some = m; most = q } in (a, f, operated_fine scope op (kernel.LocalAt slot n i place) value (a, f) g)

  variable_to_at : (v : ℕ) (o : Option Number) (op : Option OpAt) (i value : Expr) (place : Place) → all_in (count_up v (elim o [ None ↦ 1 | Some n ↦ elements n ])) uses ≡ true →
      ((n : Number) → o ≡ Some n → Sized n) → is_array o ≡ true → FineExpr scope i → FineExpr scope value →
      FineStmt j.gives scope (assign_at (elim o [ None ↦ st.AsVariable v | Some n ↦ st.AsVariables v (elements n) ]) op i value place)
  variable_to_at v None op i value place h z a f g = cc
  variable_to_at v (Some n) op i value place h z a f g =
      let r = z n refl in
      let s : IsSharedArray scope v (elements n) = record { used = h; some = r.some; most = r.most } in
      (s, f, operated_fine scope op (kernel.SharedAt v (elements n) i place) value (s, f) g)

  global_to_at : (id : ℕ) (g : PlainGlobal) (b : Bool) (op : Option OpAt) (i value : Expr) (place : Place) → GoodItem text k uses j.gives id (Some (IsGlobal g)) → is_constant g.kind ≡ b → b ≡ false →
      is_array (stated_length g) ≡ true → (j.gives && not b) ≡ false → FineExpr scope i → FineExpr scope value →
      FineStmt j.gives scope (assign_at (cond b (constant_stands text g) (variable_stands text g)) op i value place)
  global_to_at id g true op i value place it e w a c f h = cc
  global_to_at id g false op i value place it e w a c f h =
      let d = falls j.gives c in
      variable_to_at (variable_number g.name.id text) (stated_length g) op i value place (it.variables g refl e d) (λ n s. it.sized g n refl e d s) a f h

  name_to_at : (id : ℕ) (o : Option Slot) (it : Option PlainItem) (op : Option OpAt) (i value : Expr) (place : Place) → ((x : Slot) → o ≡ Some x → GoodSlot words x) → GoodItem text k uses j.gives id it →
      GoodUse j.gives WritesAt (local_meaning (seen_option o) (item_meaning it)) → FineExpr scope i → FineExpr scope value →
      FineStmt j.gives scope (assign_at (elim o [ Some s ↦ slot_stands s | None ↦ item_stands text it ]) op i value place)
  name_to_at id (Some x) it op i value place g w u f h = let r = g x refl in slot_to_at x.slot x.size op i value place r.within r.some r.most u.fits f h
  name_to_at id None None op i value place g w u f h = let bad = u.known in cc
  name_to_at id None (Some (IsFunction y)) op i value place g w u f h = let bad = u.fits in cc
  name_to_at id None (Some (IsGlobal y)) op i value place g w u f h = global_to_at id y (is_constant y.kind) op i value place w refl (u.written refl) u.fits u.constant f h

  pub target_fine : (called : ℕ → Inlined) (sc : Scope) (s : List Slot) → Matches words sc s → (name : Name) (index : Option Term) (op : Option OpAt) (value : Expr) → FineExpr scope value →
      findings_faults j (in_target text sc (record { name = name; index = index })) ≡ [] → FineStmt j.gives scope (lower_target text s (record { name = name; index = index }) op value)
  target_fine called sc s m name None op value f h =
      name_to name.id (find_slot name.id None s) (find_item name.id text) op value (slot_good text k words uses j knows sc s name.id _ m (finds name.id None s)) (knows.item name.id)
      (use_good text k words uses j knows sc s Writes name m (none_left (use_faults j Writes name (meaning text sc name.id)) [] h)) f
  target_fine called sc s m name (Some i) op value f h =
      name_to_at name.id (find_slot name.id None s) (find_item name.id text) op (lower_term text s i) value name.place (slot_good text k words uses j knows sc s name.id _ m (finds name.id None s)) (knows.item name.id)
      (use_good text k words uses j knows sc s WritesAt name m (none_left (use_faults j WritesAt name (meaning text sc name.id)) _ h))
      (fine_term text k words uses j knows sc s m i (none_right (use_faults j WritesAt name (meaning text sc name.id)) _ h)) f
