-- What the text tells of words and depth bounds those of the kernel.
use Rattle.std.proofs.Common.{ℕ, zero, suc, ◌+◌, ◌-◌, ◌^◌, ◌<◌, ◌≤◌, ◌≡◌, ◌∙◌, ◌==◌, min, max, sum, ap, sym, refl, subst, Bool, true, false, cond, List, [], ◌∷◌, length, map, get_or, arith, Result, Ok, Err, OnOk}
use Rattle.std.proofs.lemmas.Bool.Decides.{nat_tests}
use Rattle.std.proofs.lemmas.List.{length-map}
use Rattle.std.specs.Result.{IfErr}
use Rattle.forec_tree.specs.Terms.{Text, PlainGlobal}
use Rattle.forec_tree.specs.Faults.{Member, later}
use Rattle.forec_kernel.specs.Terms as kernel
use Rattle.forec_kernel.specs.Terms.{Stmt}
use Rattle.forec_kernel.specs.Shapes.{PlainKernel, PlainThread}
use Rattle.forec_kernel.specs.Combining.{contains}
use Rattle.forec_kernel.specs.Values.{function_words}
use Rattle.forec_kernel.specs.Texts.{body_of, words_in}
use Rattle.forec_kernel.specs.WellFormed.{greatest, count_up, stmt_calls, stmt_depth, function_body, chain, thread_calls, Ranked}
use Rattle.text_kernel.specs.declared.limits.Quantity.{Quantity}
use Rattle.text_kernel.specs.declared.limits.Quantity.TheVariants.{Threads, Words, Globals, Tables, Terms, Depth}
use Rattle.kernel_lower.specs.declared.lower_fault.LowerFault.{LowerFault}
use Rattle.kernel_lower.specs.declared.lower_fault.LowerFault.TheVariants as fault
use Rattle.text_kernel.specs.Lowering.{Made}
use Rattle.text_kernel.specs.Kernels.{kernel_of, variable_shape, root, thread_shape, main_id}
use Rattle.text_kernel.specs.Items.{variable_items}
use Rattle.text_kernel.proofs.VariableItems.{widths_are}
use Rattle.forec_tree.specs.Variables.{width, variables}
use Rattle.forec_tree.proofs.VariableCounts.{variables_counted}
use Rattle.text_sizes.specs.Spans.{span_value}
use Rattle.text_kernel.specs.Limits.{amount, limit_of, earlier, IsWithinLimit, thread_words, thread_depth, widest}
use Rattle.kernel_drafts.specs.Measures.{CallsLow, HasWords}
use Rattle.kernel_drafts.specs.Reach.{value_at}
use Rattle.kernel_drafts.proofs.Measuring.{greatest_capped}
use Rattle.text_chains.specs.Peaks.{called_words, most_words}
use Rattle.text_chains.proofs.Combined.{greatest_above, count_has, count_below}
use Rattle.kernel_lower.specs.declared.judge.Amounts.{Amounts}
use Rattle.kernel_lower.specs.Refusals.{amount_in, PassesLimit, First, HasLowerCause}
use Rattle.text_sizes.proofs.Widening.{span_kept}
use Rattle.text_sizes.proofs.Heights.{all_told, depth_in}
use Rattle.text_sizes.proofs.Heights as heights

-- ---- words

wide_least : (shapes : List PlainThread) (x : ℕ) → ((t : ℕ) → t < length shapes → words_in shapes t ≤ x) → widest shapes ≤ x
wide_least [] x h = omega arith
wide_least (s ∷ rest) x h =
    let e = h 0 (omega arith) in
    let d = wide_least rest x (λ t l. h (suc t) (omega (arith, l))) in
    omega (arith, e, d)

module _ (k : PlainKernel) (many : length k.threads ≡ length k.shape.threads) where
  pub words_least : widest k.shape.threads ≤ amount Words k
  unfolding amount
  words_least =
      wide_least k.shape.threads (greatest (thread_words k) (count_up 0 (length k.threads)))
      (λ t l.
      let e = greatest_above (thread_words k) (count_up 0 (length k.threads)) t (count_has 0 (length k.threads) t (omega arith) (omega (arith, l, many))) in
      omega (arith, e))

greatest_near : (f g : ℕ → ℕ) (c : ℕ) (xs : List ℕ) → ((x : ℕ) → contains x xs ≡ true → min (f x) c ≡ min (g x) c) → min (greatest f xs) c ≡ min (greatest g xs) c
greatest_near f g c [] h = refl
greatest_near f g c (x ∷ xs) h =
    let e = h x (let q : (x == x) ≡ true = grind (arith, nat_tests) in ap (λ c. cond c true (contains x xs)) q) in
    let d = greatest_near f g c xs (λ y i. h y (elim (x == y) as (λ c. cond c true (contains y xs) ≡ true) [ true ↦ refl | false ↦ i ])) in
    omega (arith, e, d)

-- the words that are told of a text, with those along chains of calls
pub words_are : (k : PlainKernel) (table : List ℕ) (n : ℕ) → CallsLow k → HasWords k table → n ≡ min (most_words (value_at table) k) (2 ^ 64 - 1) → n ≡ min (amount Words k) (2 ^ 64 - 1)
unfolding amount
words_are k table n low h e =
    e
    ∙ greatest_near (called_words (value_at table) k) (thread_words k) (2 ^ 64 - 1) (count_up 0 (length k.threads))
    (λ t i.
    let l = count_below 0 (length k.threads) t i in
    let c =
    greatest_capped (value_at table) (chain (function_words k.shape.functions) k (length k.functions)) (2 ^ 64 - 1) (thread_calls k t) (λ g j. h g (low.threads t g (omega (arith, l)) j)) in
    omega (arith, c))

-- ---- depth

module _ (k : PlainKernel) where
  pub depth_above : (t : ℕ) → t < length k.threads → stmt_depth (body_of k t) ≤ amount Depth k
  unfolding amount
  depth_above t l =
      let e = greatest_above (thread_depth k) (count_up 0 (length k.threads)) t (count_has 0 (length k.threads) t (omega arith) (omega (arith, l))) in
      omega (arith, e)

deepest_least : (a : List Made) (x : ℕ) → ((t : ℕ) → t < length (map (λ (m : Made). m.body) a) → stmt_depth (get_or (map (λ (m : Made). m.body) a) t kernel.Nop) ≤ x) → depth_in a ≤ x
deepest_least [] x h = omega arith
deepest_least (m ∷ a) x h =
    let e = h 0 (omega arith) in
    let d = deepest_least a x (λ t l. h (suc t) (omega (arith, l))) in
    omega (arith, e, d)

-- ---- the kernel of a text

module _ (text : Text) (names : List (List ℕ)) where
  widest_made : (a : List Made) → widest (map (thread_shape text names) a) ≡ heights.words_in a
  widest_made [] = refl
  widest_made (m ∷ a) = ap (max m.words) (widest_made a)

  pub widest_is : widest (kernel_of text names).shape.threads ≡ max (root text names).next.slot (heights.words_in (root text names).made)
  unfolding kernel_of
  widest_is = ap (max (root text names).next.slot) (widest_made (root text names).made)

  pub as_deep : max (stmt_depth (root text names).stmt) (depth_in (root text names).made) ≤ amount Depth (kernel_of text names)
  unfolding kernel_of
  as_deep =
      let k = kernel_of text names in
      let e = depth_above k 0 (omega arith) in
      let d = deepest_least (root text names).made (amount Depth k) (λ t l. depth_above k (suc t) (omega (arith, l))) in
      omega (arith, e, d)

  pub words_told : (first slots wide words : ℕ) → first ≡ main_id text names → slots ≡ (span_value text first).slots → wide ≡ (span_value text first).widest → words ≡ max slots wide →
      words ≡ min (widest (kernel_of text names).shape.threads) (2 ^ 64 - 1)
  words_told first slots wide words f s w e =
      let kept = span_kept text (main_id text names) in
      let ks = kept.slots in
      let kw = kept.widest in
      let all = all_told text (length text) in
      let a = all.slots (main_id text names) 0 0 (record { slot = 0; thread = 1; par = 0 }) in
      let b = all.widest (main_id text names) 0 0 (record { slot = 0; thread = 1; par = 0 }) in
      let ss = s ∙ ap (λ n. (span_value text n).slots) f in
      let ww = w ∙ ap (λ n. (span_value text n).widest) f in
      let is = widest_is in
      omega (arith, ks, kw, a, b, ss, ww, is, e)

  pub levels_told : (first levels deep most : ℕ) → first ≡ main_id text names → levels ≡ (span_value text first).levels → deep ≡ (span_value text first).deepest → most ≡ max levels deep →
      most ≤ amount Depth (kernel_of text names)
  levels_told first levels deep most f s w e =
      let kept = span_kept text (main_id text names) in
      let ks = kept.levels in
      let kw = kept.deepest in
      let all = all_told text (length text) in
      let a = all.levels (main_id text names) 0 0 (record { slot = 0; thread = 1; par = 0 }) in
      let b = all.deepest (main_id text names) 0 0 (record { slot = 0; thread = 1; par = 0 }) in
      let ss = s ∙ ap (λ n. (span_value text n).levels) f in
      let ww = w ∙ ap (λ n. (span_value text n).deepest) f in
      let is = as_deep in
      omega (arith, ks, kw, a, b, ss, ww, is, e)

-- ---- int functions alone

module _ (k j : PlainKernel) (words : k.shape.functions ≡ j.shape.functions) (bodies : k.functions ≡ j.functions) where
  one_body : (f : ℕ) → function_body k f ≡ function_body j f
  one_body f = ap (λ l. get_or l f kernel.Nop) bodies

  greatest_each : (a b : ℕ → ℕ) (xs : List ℕ) → ((g : ℕ) → a g ≡ b g) → greatest a xs ≡ greatest b xs
  greatest_each a b [] h = refl
  greatest_each a b (x ∷ xs) h = ap (λ n. max n (greatest a xs)) (h x) ∙ ap (max (b x)) (greatest_each a b xs h)

  one_chain : (a b : ℕ → ℕ) → ((g : ℕ) → a g ≡ b g) → (deep f : ℕ) → chain a k deep f ≡ chain b j deep f
  one_chain a b h zero f = refl
  one_chain a b h (suc deep) f =
      ap (λ n. n + greatest (chain a k deep) (stmt_calls (function_body k f))) (h f)
      ∙ (ap (λ x. b f + greatest (chain a k deep) (stmt_calls x)) (one_body f) ∙ ap (λ n. b f + n) (greatest_each (chain a k deep) (chain b j deep) (stmt_calls (function_body j f)) (one_chain a b h deep)))

  pub words_too : (table : List ℕ) → HasWords k table → HasWords j table
  words_too table h f l =
      h f (subst (λ (x : List Stmt). f < length x) (sym bodies) l)
      ∙ ap (λ n. min n (2 ^ 64 - 1))
      (one_chain (function_words k.shape.functions) (function_words j.shape.functions) (λ f. ap (λ l. function_words l f) words) (length k.functions) f
      ∙ ap (λ (l : List Stmt). chain (function_words j.shape.functions) j (length l) f) bodies)

  pub ranked_too : Ranked j → Ranked k
  ranked_too r =
      record {
        rank = r.rank;
        falls = λ f g l h. r.falls f g (subst (λ (x : List Stmt). f < length x) bodies l) (subst (λ x. Rattle.std.proofs.Common.IsTrue (contains g (stmt_calls x))) (one_body f) h);
      }

  pub low_too : k.threads ≡ [] → CallsLow j → CallsLow k
  low_too none c =
      record {
        functions = λ f g l h.
            subst (λ (x : List Stmt). g < length x) (sym bodies) (c.functions f g (subst (λ (x : List Stmt). f < length x) bodies l) (subst (λ x. contains g (stmt_calls x) ≡ true) (one_body f) h));
        threads = λ t g l h. absurd (let e = ap (λ (x : List Stmt). length x) none in omega (arith, l, e));
      }

-- ---- the first limit that is passed

no_depth : (what : Quantity) → Member Depth (earlier what) → ⊥
no_depth Threads m = elim m [ ]
no_depth Words (later m) = elim m [ ]
no_depth Globals (later (later m)) = elim m [ ]
no_depth Tables (later (later (later m))) = elim m [ ]
no_depth Terms (later (later (later (later m)))) = elim m [ ]
no_depth Depth (later (later (later (later (later m))))) = elim m [ ]

-- amounts that pass their limits where those of the kernel do; depth may be told too small
pub record Tells (k : PlainKernel) (amounts : Quantity → ℕ) : Type 0 where
  pub passes : (q : Quantity) → limit_of q < amounts q → limit_of q < amount q k
  pub fits : (q : Quantity) → (q ≡ Depth → ⊥) → amounts q ≤ limit_of q → amount q k ≤ limit_of q

pub told_causes : (text : Text) (names : List (List ℕ)) (amounts : Quantity → ℕ) (e : LowerFault) → Tells (kernel_of text names) amounts → First amounts e → HasLowerCause e text names
told_causes text names amounts (fault.Limit what count) h f =
    record {
      passes = h.passes what f.passes;
      first = λ q m. h.fits q (λ d. no_depth what (subst (λ x. Member x (earlier what)) d m)) (f.first q m);
      is = f.is;
    }
told_causes text names amounts fault.OutOfMemory h f = tt

exactly : (l a n : ℕ) → l < 2 ^ 64 - 1 → a ≡ min n (2 ^ 64 - 1) → l < a → l < n
exactly l a n s e h = omega (arith, s, e, h)

pub at_most : (l a n : ℕ) → l < 2 ^ 64 - 1 → a ≡ min n (2 ^ 64 - 1) → a ≤ l → n ≤ l
at_most l a n s e h = omega (arith, s, e, h)

-- the widest thread alone passes the limit of words, and no earlier one is passed
pub words_cause : (text : Text) (names : List (List ℕ)) (threads words : ℕ) (e : LowerFault) → length (kernel_of text names).threads ≡ length (kernel_of text names).shape.threads →
    threads ≡ min (amount Threads (kernel_of text names)) (2 ^ 64 - 1) → threads ≤ limit_of Threads → words ≡ min (widest (kernel_of text names).shape.threads) (2 ^ 64 - 1) → PassesLimit Words words e → HasLowerCause e text names
words_cause text names threads words e many t f w p =
    let k = kernel_of text names in
    let l = p.1 in
    let least = words_least k many in
    subst (λ x. HasLowerCause x text names) (sym p.0) (record { passes = omega (arith, l, w, least); first = only; is = refl })
  where
    only : (q : Quantity) → Member q (earlier Words) → IsWithinLimit (kernel_of text names) q
    only Threads m = at_most (limit_of Threads) threads (amount Threads (kernel_of text names)) (omega arith) t f
    only Words (later m) = elim m [ ]
    only Globals (later m) = elim m [ ]
    only Tables (later m) = elim m [ ]
    only Terms (later m) = elim m [ ]
    only Depth (later m) = elim m [ ]

pub tells : (k : PlainKernel) (a : Amounts) → a.threads ≡ min (amount Threads k) (2 ^ 64 - 1) → a.words ≡ min (amount Words k) (2 ^ 64 - 1) → a.globals ≡ min (amount Globals k) (2 ^ 64 - 1) → a.tables ≡ min (amount Tables k) (2 ^ 64 - 1) →
    a.terms ≡ min (amount Terms k) (2 ^ 64 - 1) → a.depth ≤ amount Depth k → Tells k (amount_in a)
tells k a t w g x e d = record { passes = passes; fits = fits }
  where
    passes : (q : Quantity) → limit_of q < amount_in a q → limit_of q < amount q k
    passes Threads h = exactly 256 a.threads (amount Threads k) (omega arith) t h
    passes Words h = exactly 65536 a.words (amount Words k) (omega arith) w h
    passes Globals h = exactly 4096 a.globals (amount Globals k) (omega arith) g h
    passes Tables h = exactly 1048576 a.tables (amount Tables k) (omega arith) x h
    passes Terms h = exactly 200000 a.terms (amount Terms k) (omega arith) e h
    passes Depth h = omega (arith, d, h)

    fits : (q : Quantity) → (q ≡ Depth → ⊥) → amount_in a q ≤ limit_of q → amount q k ≤ limit_of q
    fits Threads n h = at_most 256 a.threads (amount Threads k) (omega arith) t h
    fits Words n h = at_most 65536 a.words (amount Words k) (omega arith) w h
    fits Globals n h = at_most 4096 a.globals (amount Globals k) (omega arith) g h
    fits Tables n h = at_most 1048576 a.tables (amount Tables k) (omega arith) x h
    fits Terms n h = at_most 200000 a.terms (amount Terms k) (omega arith) e h
    fits Depth n h = absurd (n refl)

pub variables_amount : (text : Text) (names : List (List ℕ)) (n : ℕ) (gs : List PlainGlobal) → gs ≡ variable_items text → n ≡ min (sum (map width gs)) (2 ^ 64 - 1) → n ≡ min (amount Globals (kernel_of text names)) (2 ^ 64 - 1)
unfolding amount kernel_of
variables_amount text names n gs e l =
    l ∙ ap (λ m. min m (2 ^ 64 - 1)) (ap (λ (x : List PlainGlobal). sum (map width x)) e ∙ (sym (widths_are text) ∙ (sym (variables_counted text) ∙ sym (length-map (variables text) (variable_shape text names)))))

pub ok_more : {T E : Type 0} (r : Result T E) {P Q : Type 0} → (P → Q) → OnOk r P → OnOk r Q
ok_more (Ok t) f h = f h
ok_more (Err e) f h = tt

pub err_more : {T E : Type 0} (r : Result T E) (P Q : E → Type 0) → IfErr r P → ((e : E) → P e → Q e) → IfErr r Q
err_more (Ok t) P Q h k = tt
err_more (Err e) P Q h k = k e h
