-- The table of spans tells how many words threads take, up to the cap, and at least how deep they are.
use Rattle.std.proofs.Common.{ℕ, zero, suc, ◌-◌, ◌^◌, ◌≡◌, ◌∙◌, min, ap, refl, true, Option, Some, None, List, [], ◌∷◌, ◌++◌, length, arith}
use Rattle.forec_tree.specs.Terms.{count_terms, Statement, Declare, Nothing, Group, Assign, Invoke, If, While, For, Pause, Par, Abort, Return, Statements, no_statements, more_statements, Perhaps, absent, present, Branches, no_branches, by_call, by_group, Text, PlainFunction}
use Rattle.forec_tree.specs.Pauses.{within, find_function, function_callees, callees_of, started_names, all_started, perhaps_started, branches_started}
use Rattle.forec_tree.specs.Faults.{is_in, Leads}
use Rattle.forec_tree.proofs.Agrees.{in_left, in_right, in_head, in_tail}
use Rattle.loop_check.specs.Graph.{IsOrder}
use Rattle.loop_check.specs.Known.{Read, started_in}
use Rattle.forec_check.specs.Table.{Settles}
use Rattle.forec_check.proofs.TableLemmas.{started_settles}
use Rattle.text_sizes.specs.declared.span.Span.{Span}
use Rattle.text_sizes.specs.TermCounts.{slots, slots_all, slots_perhaps, statement_count}
use Rattle.text_sizes.specs.Extents.{capped_size, exact}
use Rattle.text_sizes.specs.Spans.{sequence_levels, levels, levels_all, levels_perhaps, block_levels, most, most_all, most_perhaps, most_branches, words_by, levels_by, no_span, span_at, span_by, span_step, span_value}
use Rattle.text_sizes.proofs.Nearby.{again}

-- ---- tables

pub span_unknown : (h : ℕ) → span_at [] h ≡ no_span
span_unknown zero = refl
span_unknown (suc h) = refl

-- ---- what is the same up to a cap at some functions

pub sequence_near : (c n x y : ℕ) → min x c ≡ min y c → min (sequence_levels n x) c ≡ min (sequence_levels n y) c
sequence_near c zero x y h = h
sequence_near c (suc zero) x y h = h
sequence_near c (suc (suc n)) x y h = omega arith

module _ (c : ℕ) (In : ℕ → Type 0) where
  abbrev Holds : List ℕ → Type 0
  Holds gs = (g : ℕ) → is_in g gs ≡ true → In g

  left_holds : (xs ys : List ℕ) → Holds (xs ++ ys) → Holds xs
  left_holds xs ys h g i = h g (in_left g xs ys i)

  right_holds : (xs ys : List ℕ) → Holds (xs ++ ys) → Holds ys
  right_holds xs ys h g i = h g (in_right g xs ys i)

  tail_holds : (id : ℕ) (xs : List ℕ) → Holds (id ∷ xs) → Holds xs
  tail_holds id xs h g i = h g (in_tail g id xs i)

  module _ (a b : ℕ → ℕ) (same : (g : ℕ) → In g → min (a g) c ≡ min (b g) c) where
    mutual
      slots_near : (s : Statement) → Holds (started_names s) → min (slots a s) c ≡ min (slots b s) c
      slots_near (Nothing at) h = refl
      slots_near (Group at body) h = all_slots_near body h
      slots_near (Declare at locals) h = refl
      slots_near (Assign at target op value) h = refl
      slots_near (Invoke at name args) h = let e = same name.id (h name.id (in_head name.id [])) in omega (arith, e)
      slots_near (If at test x y) h =
          let e = slots_near x (left_holds (started_names x) (perhaps_started y) h) in
          let d = perhaps_slots_near y (right_holds (started_names x) (perhaps_started y) h) in
          omega (arith, e, d)
      slots_near (While at test bound body) h = slots_near body h
      slots_near (For at start test step bound body) h =
          let rest = right_holds (perhaps_started start) (perhaps_started step ++ started_names body) h in
          let e = perhaps_slots_near start (left_holds (perhaps_started start) (perhaps_started step ++ started_names body) h) in
          let d = perhaps_slots_near step (left_holds (perhaps_started step) (started_names body) rest) in
          let f = slots_near body (right_holds (perhaps_started step) (started_names body) rest) in
          omega (arith, e, d, f)
      slots_near (Pause at) h = refl
      slots_near (Par at bs) h = refl
      slots_near (Abort at weak immediate test body) h = all_slots_near body h
      slots_near (Return at value) h = refl

      all_slots_near : (s : Statements) → Holds (all_started s) → min (slots_all a s) c ≡ min (slots_all b s) c
      all_slots_near no_statements h = refl
      all_slots_near (more_statements x rest) h =
          let e = slots_near x (left_holds (started_names x) (all_started rest) h) in
          let d = all_slots_near rest (right_holds (started_names x) (all_started rest) h) in
          omega (arith, e, d)

      perhaps_slots_near : (s : Perhaps) → Holds (perhaps_started s) → min (slots_perhaps a s) c ≡ min (slots_perhaps b s) c
      perhaps_slots_near absent h = refl
      perhaps_slots_near (present x) h = slots_near x h

    mutual
      levels_near : (s : Statement) → Holds (started_names s) → min (levels a s) c ≡ min (levels b s) c
      levels_near (Nothing at) h = refl
      levels_near (Group at body) h = sequence_near c (statement_count body) _ _ (all_levels_near body h)
      levels_near (Declare at locals) h = refl
      levels_near (Assign at target op value) h = refl
      levels_near (Invoke at name args) h = sequence_near c (suc (count_terms args)) _ _ (same name.id (h name.id (in_head name.id [])))
      levels_near (If at test x y) h =
          let e = levels_near x (left_holds (started_names x) (perhaps_started y) h) in
          let d = perhaps_levels_near y (right_holds (started_names x) (perhaps_started y) h) in
          omega (arith, e, d)
      levels_near (While at test bound body) h = let e = levels_near body h in omega (arith, e)
      levels_near (For at start test step bound body) h =
          let rest = right_holds (perhaps_started start) (perhaps_started step ++ started_names body) h in
          let e = perhaps_levels_near start (left_holds (perhaps_started start) (perhaps_started step ++ started_names body) h) in
          let d = perhaps_levels_near step (left_holds (perhaps_started step) (started_names body) rest) in
          let f = levels_near body (right_holds (perhaps_started step) (started_names body) rest) in
          omega (arith, e, d, f)
      levels_near (Pause at) h = refl
      levels_near (Par at bs) h = refl
      levels_near (Abort at weak immediate test body) h = let e = sequence_near c (statement_count body) _ _ (all_levels_near body h) in omega (arith, e)
      levels_near (Return at value) h = refl

      all_levels_near : (s : Statements) → Holds (all_started s) → min (levels_all a s) c ≡ min (levels_all b s) c
      all_levels_near no_statements h = refl
      all_levels_near (more_statements x rest) h =
          let e = levels_near x (left_holds (started_names x) (all_started rest) h) in
          let d = all_levels_near rest (right_holds (started_names x) (all_started rest) h) in
          omega (arith, e, d)

      perhaps_levels_near : (s : Perhaps) → Holds (perhaps_started s) → min (levels_perhaps a s) c ≡ min (levels_perhaps b s) c
      perhaps_levels_near absent h = refl
      perhaps_levels_near (present x) h = levels_near x h

    block_levels_near : (s : Statements) → Holds (all_started s) → min (block_levels a s) c ≡ min (block_levels b s) c
    block_levels_near s h = sequence_near c (statement_count s) _ _ (all_levels_near s h)

  module _
      (f g : ℕ → ℕ → ℕ) (u v : Statements → ℕ) (p q : ℕ → ℕ) (names : (id k : ℕ) → In id → min (f id k) c ≡ min (g id k) c)
      (bodies : (s : Statements) → Holds (all_started s) → min (u s) c ≡ min (v s) c) (below : (id : ℕ) → In id → min (p id) c ≡ min (q id) c) where
    mutual
      most_near : (s : Statement) → Holds (started_names s) → min (most f u p s) c ≡ min (most g v q s) c
      most_near (Nothing at) h = refl
      most_near (Group at body) h = all_most_near body h
      most_near (Declare at locals) h = refl
      most_near (Assign at target op value) h = refl
      most_near (Invoke at name args) h = below name.id (h name.id (in_head name.id []))
      most_near (If at test x y) h =
          let e = most_near x (left_holds (started_names x) (perhaps_started y) h) in
          let d = perhaps_most_near y (right_holds (started_names x) (perhaps_started y) h) in
          omega (arith, e, d)
      most_near (While at test bound body) h = most_near body h
      most_near (For at start test step bound body) h =
          let rest = right_holds (perhaps_started start) (perhaps_started step ++ started_names body) h in
          let e = perhaps_most_near start (left_holds (perhaps_started start) (perhaps_started step ++ started_names body) h) in
          let d = perhaps_most_near step (left_holds (perhaps_started step) (started_names body) rest) in
          let k = most_near body (right_holds (perhaps_started step) (started_names body) rest) in
          omega (arith, e, d, k)
      most_near (Pause at) h = refl
      most_near (Par at bs) h = branches_most_near bs h
      most_near (Abort at weak immediate test body) h = all_most_near body h
      most_near (Return at value) h = refl

      all_most_near : (s : Statements) → Holds (all_started s) → min (most_all f u p s) c ≡ min (most_all g v q s) c
      all_most_near no_statements h = refl
      all_most_near (more_statements x rest) h =
          let e = most_near x (left_holds (started_names x) (all_started rest) h) in
          let d = all_most_near rest (right_holds (started_names x) (all_started rest) h) in
          omega (arith, e, d)

      perhaps_most_near : (s : Perhaps) → Holds (perhaps_started s) → min (most_perhaps f u p s) c ≡ min (most_perhaps g v q s) c
      perhaps_most_near absent h = refl
      perhaps_most_near (present x) h = most_near x h

      branches_most_near : (s : Branches) → Holds (branches_started s) → min (most_branches f u p s) c ≡ min (most_branches g v q s) c
      branches_most_near no_branches h = refl
      branches_most_near (by_call name args rest) h =
          let first = h name.id (in_head name.id (branches_started rest)) in
          let e = names name.id (count_terms args) first in
          let d = below name.id first in
          let k = branches_most_near rest (tail_holds name.id (branches_started rest) h) in
          omega (arith, e, d, k)
      branches_most_near (by_group at body rest) h =
          let inside = left_holds (all_started body) (branches_started rest) h in
          let e = bodies body inside in
          let d = all_most_near body inside in
          let k = branches_most_near rest (right_holds (all_started body) (branches_started rest) h) in
          omega (arith, e, d, k)

-- ---- a span depends on the functions that are called or started alone

abbrev span_of : ℕ → ℕ → ℕ → ℕ → Span
span_of a b c d = record { slots = a; widest = b; levels = c; deepest = d }

pub by_four : (a b c d a1 b1 c1 d1 : ℕ) → a ≡ a1 → b ≡ b1 → c ≡ c1 → d ≡ d1 → span_of a b c d ≡ span_of a1 b1 c1 d1
by_four a b c d a1 b1 c1 d1 p q r s = ap (λ x. span_of x b c d) p ∙ (ap (λ x. span_of a1 x c d) q ∙ (ap (λ x. span_of a1 b1 x d) r ∙ ap (span_of a1 b1 c1) s))

-- two tables that are the same up to the cap at some functions
pub record Alike (In : ℕ → Type 0) (a b : ℕ → Span) : Type 0 where
  pub slots : (g : ℕ) → In g → min (a g).slots (2 ^ 64 - 1) ≡ min (b g).slots (2 ^ 64 - 1)
  pub widest : (g : ℕ) → In g → min (a g).widest (2 ^ 64 - 1) ≡ min (b g).widest (2 ^ 64 - 1)
  pub levels : (g : ℕ) → In g → min (a g).levels (2 ^ 64 - 1) ≡ min (b g).levels (2 ^ 64 - 1)
  pub deepest : (g : ℕ) → In g → min (a g).deepest (2 ^ 64 - 1) ≡ min (b g).deepest (2 ^ 64 - 1)

module _ (In : ℕ → Type 0) (a b : ℕ → Span) (same : Alike In a b) (f : PlainFunction) (all : (g : ℕ) → is_in g (all_started f.body) ≡ true → In g) where
  slots_same : min (slots_all (λ g. (a g).slots) f.body) (2 ^ 64 - 1) ≡ min (slots_all (λ g. (b g).slots) f.body) (2 ^ 64 - 1)
  slots_same = all_slots_near (2 ^ 64 - 1) In (λ g. (a g).slots) (λ g. (b g).slots) same.slots f.body all

  levels_same : min (block_levels (λ g. (a g).levels) f.body) (2 ^ 64 - 1) ≡ min (block_levels (λ g. (b g).levels) f.body) (2 ^ 64 - 1)
  levels_same = block_levels_near (2 ^ 64 - 1) In (λ g. (a g).levels) (λ g. (b g).levels) same.levels f.body all

  words_same : (id k : ℕ) → In id → min (words_by (λ g. (a g).slots) id k) (2 ^ 64 - 1) ≡ min (words_by (λ g. (b g).slots) id k) (2 ^ 64 - 1)
  words_same id k i = let e = same.slots id i in omega (arith, e)

  widest_same : min (most_all (words_by (λ g. (a g).slots)) (slots_all (λ g. (a g).slots)) (λ g. (a g).widest) f.body) (2 ^ 64 - 1)
      ≡ min (most_all (words_by (λ g. (b g).slots)) (slots_all (λ g. (b g).slots)) (λ g. (b g).widest) f.body) (2 ^ 64 - 1)
  widest_same =
      all_most_near (2 ^ 64 - 1) In (words_by (λ g. (a g).slots)) (words_by (λ g. (b g).slots)) (slots_all (λ g. (a g).slots)) (slots_all (λ g. (b g).slots)) (λ g. (a g).widest) (λ g. (b g).widest) words_same
      (all_slots_near (2 ^ 64 - 1) In (λ g. (a g).slots) (λ g. (b g).slots) same.slots) same.widest f.body all

  deepest_same : min (most_all (levels_by (λ g. (a g).levels)) (block_levels (λ g. (a g).levels)) (λ g. (a g).deepest) f.body) (2 ^ 64 - 1)
      ≡ min (most_all (levels_by (λ g. (b g).levels)) (block_levels (λ g. (b g).levels)) (λ g. (b g).deepest) f.body) (2 ^ 64 - 1)
  deepest_same =
      all_most_near (2 ^ 64 - 1) In (levels_by (λ g. (a g).levels)) (levels_by (λ g. (b g).levels)) (block_levels (λ g. (a g).levels)) (block_levels (λ g. (b g).levels)) (λ g. (a g).deepest) (λ g. (b g).deepest) (λ id k i. same.levels id i)
      (block_levels_near (2 ^ 64 - 1) In (λ g. (a g).levels) (λ g. (b g).levels) same.levels) same.deepest f.body all

  pub spans_alike : span_by capped_size a (Some f) ≡ span_by capped_size b (Some f)
  spans_alike = by_four _ _ _ _ _ _ _ _ slots_same widest_same levels_same deepest_same

span_same : (a b : ℕ → Span) (f : Option PlainFunction) → ((g : ℕ) → is_in g (function_callees f) ≡ true → a g ≡ b g) → span_by capped_size a f ≡ span_by capped_size b f
span_same a b None h = refl
span_same a b (Some f) h =
    spans_alike (λ g. is_in g (all_started f.body) ≡ true) a b
    (record {
      slots = λ g i. ap (λ (x : Span). min x.slots (2 ^ 64 - 1)) (h g i);
      widest = λ g i. ap (λ (x : Span). min x.widest (2 ^ 64 - 1)) (h g i);
      levels = λ g i. ap (λ (x : Span). min x.levels (2 ^ 64 - 1)) (h g i);
      deepest = λ g i. ap (λ (x : Span). min x.deepest (2 ^ 64 - 1)) (h g i);
    }) f (λ g i. i)

pub spans_settle : (text : Text) (functions order : List ℕ) (calls : ℕ → List ℕ) → Read started_in text functions calls → IsOrder functions calls order → ((f : ℕ) → Leads (callees_of text) f f → ⊥) →
    Settles no_span (span_step capped_size text) (span_value text) order
unfolding span_value
spans_settle text functions order calls r o free = started_settles no_span (span_by capped_size) (λ a. refl) span_same text functions order calls r o free

-- ---- what is exact and what is capped

pub record IsKept (kept whole : Span) : Type 0 where
  pub slots : kept.slots ≡ min whole.slots (2 ^ 64 - 1)
  pub widest : kept.widest ≡ min whole.widest (2 ^ 64 - 1)
  pub levels : kept.levels ≡ min whole.levels (2 ^ 64 - 1)
  pub deepest : kept.deepest ≡ min whole.deepest (2 ^ 64 - 1)

by_kept : (a b : ℕ → Span) (f : Option PlainFunction) → ((g : ℕ) → IsKept (a g) (b g)) → IsKept (span_by capped_size a f) (span_by exact b f)
by_kept a b None h = record { slots = refl; widest = refl; levels = refl; deepest = refl }
by_kept a b (Some f) h =
    let In : ℕ → Type 0 = λ g. Unit {0} in
    let same : Alike In a b =
    record {
      slots = λ g i. again (a g).slots (b g).slots (h g).slots;
      widest = λ g i. again (a g).widest (b g).widest (h g).widest;
      levels = λ g i. again (a g).levels (b g).levels (h g).levels;
      deepest = λ g i. again (a g).deepest (b g).deepest (h g).deepest;
    } in
    record {
      slots = slots_same In a b same f (λ g i. tt);
      widest = widest_same In a b same f (λ g i. tt);
      levels = levels_same In a b same f (λ g i. tt);
      deepest = deepest_same In a b same f (λ g i. tt);
    }

within_kept : (text : Text) (deep id : ℕ) → IsKept (within no_span (span_step capped_size text) deep id) (within no_span (span_step exact text) deep id)
unfolding within
within_kept text zero id = record { slots = refl; widest = refl; levels = refl; deepest = refl }
within_kept text (suc deep) id = by_kept (within no_span (span_step capped_size text) deep) (within no_span (span_step exact text) deep) (find_function id text) (within_kept text deep)

pub span_kept : (text : Text) (id : ℕ) → IsKept (span_value text id) (within no_span (span_step exact text) (length text) id)
unfolding span_value
span_kept text id = within_kept text (length text) id
