-- What is measured of a draft is what its kernel has.
use Rattle.std.proofs.Common.{ℕ, zero, suc, ◌+◌, ◌-◌, ◌^◌, ◌<◌, ◌≤◌, ◌≡◌, ◌∙◌, ◌==◌, min, max, sym, ap, refl, Bool, true, false, cond, nat_lt, Option, Some, None, List, [], ◌∷◌, ◌++◌, length, map, get_or, arith}
use Rattle.std.proofs.lemmas.Bool.Decides.{nat_tests}
use Rattle.std.specs.declared.vec.Vec.{Vec}
use Rattle.std.specs.declared.alloc.Global.{Global}
use Rattle.forec_tree.specs.Pauses.{within}
use Rattle.forec_tree.specs.Faults.{is_in, Leads, at_once, through}
use Rattle.forec_kernel.specs.declared.shape.FunctionShape.{FunctionShape}
use Rattle.forec_kernel.specs.declared.shape.ThreadShape.{ThreadShape}
use Rattle.forec_kernel.specs.declared.shape.Variable.{Variable}
use Rattle.forec_kernel.specs.declared.terms.Statement.{Statement}
use Rattle.forec_kernel.specs.Terms as kernel
use Rattle.forec_kernel.specs.Terms.{Stmt}
use Rattle.forec_kernel.specs.Plain.{stmt}
use Rattle.forec_kernel.specs.Shapes.{PlainKernel, plain_thread}
use Rattle.forec_kernel.specs.Combining.{contains, variable_of}
use Rattle.forec_kernel.specs.Values.{function_words}
use Rattle.forec_kernel.specs.Texts.{uses_in, uses_of, words_in, body_of}
use Rattle.forec_kernel.specs.WellFormed.{greatest, count_up, stmt_calls, stmt_depth, function_body, chain, users, combine_calls, par_calls, thread_calls, pars_of, Ranked}
use Rattle.loop_check.specs.Graph.{callees}
use Rattle.loop_check.proofs.IndexLemmas.{split}
use Rattle.kernel_drafts.specs.Reach.{value_at, chain_step, chain_value, list_items, has, combine_at, users_by, combine_by, pars_by}
use Rattle.kernel_drafts.specs.Drafts.{marked_from}
use Rattle.kernel_drafts.specs.Marks.{is_marked, row_uses, shape_uses}
use Rattle.kernel_drafts.specs.Measures.{plain_draft, words_of_shape, depth_of_body, IsConsistent, CallsLow, HasChains}
use Rattle.kernel_drafts.specs.declared.measure.Draft.{Draft}
use Rattle.kernel_drafts.specs.declared.measure.Chains.{Chains}
use Rattle.text_kernel.specs.Limits.{thread_words, thread_depth, function_depth, amount}
use Rattle.text_kernel.specs.declared.limits.Quantity.TheVariants.{Words, Depth}
use Rattle.std.proofs.lemmas.List.{length-map, get_or-map}

-- ---- the greatest of values at a cap

first_in : (f : ℕ) (fs : List ℕ) → contains f (f ∷ fs) ≡ true
first_in f fs = let e : (f == f) ≡ true = grind (arith, nat_tests) in ap (λ c. cond c true (contains f fs)) e

more_in : (f g : ℕ) (fs : List ℕ) → contains g fs ≡ true → contains g (f ∷ fs) ≡ true
more_in f g fs i = elim (f == g) as (λ c. cond c true (contains g fs) ≡ true) [ true ↦ refl | false ↦ i ]

pub greatest_capped : (a b : ℕ → ℕ) (c : ℕ) (fs : List ℕ) → ((g : ℕ) → contains g fs ≡ true → a g ≡ min (b g) c) → greatest a fs ≡ min (greatest b fs) c
greatest_capped a b c [] h = omega arith
greatest_capped a b c (f ∷ fs) h =
    let e = h f (first_in f fs) in
    let r = greatest_capped a b c fs (λ g i. h g (more_in f g fs i)) in
    omega (arith, e, r)

module _
    (k : PlainKernel) (own : ℕ → ℕ) (table : List ℕ) (calls : ℕ → List ℕ) (low : (f g : ℕ) → f < length k.functions → contains g (stmt_calls (function_body k f)) ≡ true → g < length k.functions)
    (right : (f : ℕ) → f < length k.functions → value_at table f ≡ min (own f) (2 ^ 64 - 1)) (same : (f : ℕ) → f < length k.functions → calls f ≡ stmt_calls (function_body k f)) where
  pub chain_capped : (deep f : ℕ) → f < length k.functions → within 0 (chain_step table calls) deep f ≡ min (chain own k deep f) (2 ^ 64 - 1)
  unfolding within
  chain_capped zero f l = omega arith
  chain_capped (suc deep) f l =
      let e = right f l in
      let s = ap (greatest (within 0 (chain_step table calls) deep)) (same f l) in
      let r = greatest_capped (within 0 (chain_step table calls) deep) (chain own k deep) (2 ^ 64 - 1) (stmt_calls (function_body k f)) (λ g i. chain_capped deep g (low f g l i)) in
      omega (arith, e, s, r)

  pub chains_are : length table ≡ length k.functions → (f : ℕ) → f < length k.functions → chain_value table calls f ≡ min (chain own k (length k.functions) f) (2 ^ 64 - 1)
  unfolding chain_value
  chains_are long f l = chain_capped (length table) f l ∙ ap (λ n. min (chain own k n f) (2 ^ 64 - 1)) long

-- ---- no function reaches itself

in_contains : (g : ℕ) (fs : List ℕ) → is_in g fs ≡ contains g fs
in_contains g [] = refl
in_contains g (f ∷ fs) = ap (cond (f == g) true) (in_contains g fs)

leads_fall : (calls : ℕ → List ℕ) (rank : ℕ → ℕ) → ((f g : ℕ) → is_in g (calls f) ≡ true → rank g < rank f) → {f g : ℕ} → Leads calls f g → rank g < rank f
leads_fall calls rank h (at_once {f = f} {g = g} i) = h f g i
leads_fall calls rank h (through {f = f} {g = g} {h = z} i l) = let a = h f g i in let b = leads_fall calls rank h l in omega (arith, a, b)

split_low : {P : Type 0} (f n : ℕ) → (f < n → P) → (n ≤ f → P) → P
split_low f n low high = split (nat_lt f n) (λ e. low (grind (arith, nat_tests))) (λ e. high (grind (arith, nat_tests)))

pub no_leads : (k : PlainKernel) (calls : ℕ → List ℕ) → Ranked k → ((f : ℕ) → f < length k.functions → calls f ≡ stmt_calls (function_body k f)) → ((f : ℕ) → length k.functions ≤ f → calls f ≡ []) →
    (f : ℕ) → Leads calls f f → ⊥
no_leads k calls r same past f l =
    let falls : (f g : ℕ) → is_in g (calls f) ≡ true → r.rank g < r.rank f = λ f g i.
    split_low f (length k.functions) (λ low. r.falls f g low (sym (in_contains g (stmt_calls (function_body k f))) ∙ (ap (is_in g) (sym (same f low)) ∙ i)))
    (λ high. absurd (let q : false ≡ true = sym (ap (is_in g) (past f high)) ∙ i in cc)) in
    let e = leads_fall calls r.rank falls l in
    absurd (omega (arith, e))

-- ---- lists

pub calls_at : (lists : List (Vec ℕ Global)) (bodies : List Statement) → map list_items lists ≡ map (λ s. stmt_calls (stmt s)) bodies → (f : ℕ) → callees lists f ≡ stmt_calls (get_or (map stmt bodies) f kernel.Nop)
calls_at [] [] e zero = refl
calls_at [] [] e (suc f) = refl
calls_at [] (b ∷ bs) e f = absurd (let q : [] ≡ stmt_calls (stmt b) ∷ map (λ s. stmt_calls (stmt s)) bs = e in cc)
calls_at (v ∷ vs) [] e f = absurd (let q : v.items ∷ map list_items vs ≡ [] = e in cc)
calls_at (v ∷ vs) (b ∷ bs) e zero = let q : v.items ∷ map list_items vs ≡ stmt_calls (stmt b) ∷ map (λ s. stmt_calls (stmt s)) bs = e in let p : v.items ≡ stmt_calls (stmt b) = cc in p
calls_at (v ∷ vs) (b ∷ bs) e (suc f) = let q : v.items ∷ map list_items vs ≡ stmt_calls (stmt b) ∷ map (λ s. stmt_calls (stmt s)) bs = e in let p : map list_items vs ≡ map (λ s. stmt_calls (stmt s)) bs = cc in calls_at vs bs p f

pub words_at : (shapes : List FunctionShape) (f : ℕ) → value_at (map words_of_shape shapes) f ≡ min (function_words shapes f) (2 ^ 64 - 1)
words_at [] zero = omega arith
words_at [] (suc f) = omega arith
words_at (s ∷ shapes) zero = refl
words_at (s ∷ shapes) (suc f) = words_at shapes f

pub depth_at : (bodies : List Statement) (f : ℕ) → f < length bodies → value_at (map depth_of_body bodies) f ≡ min (stmt_depth (get_or (map stmt bodies) f kernel.Nop)) (2 ^ 64 - 1)
depth_at [] f l = absurd (omega arith)
depth_at (b ∷ bs) zero l = refl
depth_at (b ∷ bs) (suc f) l = depth_at bs f (omega arith)

-- ---- the variables of which threads have copies

no_mark : (v : ℕ) → is_marked [] v ≡ false
no_mark zero = refl
no_mark (suc v) = refl

-- the numbers of marks from a number on are no lower
marks_above : (n v : ℕ) (row : List Bool) → v < n → contains v (marked_from n row) ≡ false
marks_above n v [] l = refl
marks_above n v (true ∷ row) l =
    let e : (n == v) ≡ false = grind (arith, nat_tests) in ap (λ c. cond c true (contains v (marked_from (suc n) row))) e ∙ marks_above (suc n) v row (omega arith)
marks_above n v (false ∷ row) l = marks_above (suc n) v row (omega arith)

contains_marked : (n v : ℕ) (row : List Bool) → contains (n + v) (marked_from n row) ≡ is_marked row v
contains_marked n v [] = sym (no_mark v)
contains_marked n zero (true ∷ row) =
    let e : (n == n + 0) ≡ true = grind (arith, nat_tests) in ap (λ c. cond c true (contains (n + 0) (marked_from (suc n) row))) e
contains_marked n zero (false ∷ row) = marks_above (suc n) (n + 0) row (omega arith)
contains_marked n (suc v) (true ∷ row) =
    let e : (n == n + suc v) ≡ false = grind (arith, nat_tests) in
    let d : n + suc v ≡ suc n + v = omega arith in
    ap (λ c. cond c true (contains (n + suc v) (marked_from (suc n) row))) e ∙ (ap (λ m. contains m (marked_from (suc n) row)) d ∙ contains_marked (suc n) v row)
contains_marked n (suc v) (false ∷ row) =
    let d : n + suc v ≡ suc n + v = omega arith in ap (λ m. contains m (marked_from (suc n) row)) d ∙ contains_marked (suc n) v row

row_has : (row : Vec Bool Global) (v : ℕ) → is_marked row.items v ≡ contains v (row_uses row)
row_has row v = let e : 0 + v ≡ v = omega arith in sym (contains_marked 0 v row.items) ∙ ap (λ m. contains m (row_uses row)) e

pub rows_have : (rows : List (Vec Bool Global)) (shapes : List ThreadShape) → map row_uses rows ≡ map shape_uses shapes → (t v : ℕ) → has rows t v ≡ contains v (uses_in (map plain_thread shapes) t)
rows_have [] [] e zero v = refl
rows_have [] [] e (suc t) v = refl
rows_have [] (s ∷ ss) e t v = absurd (let q : [] ≡ shape_uses s ∷ map shape_uses ss = e in cc)
rows_have (r ∷ rs) [] e t v = absurd (let q : row_uses r ∷ map row_uses rs ≡ [] = e in cc)
rows_have (r ∷ rs) (s ∷ ss) e zero v =
    let q : row_uses r ∷ map row_uses rs ≡ shape_uses s ∷ map shape_uses ss = e in
    let p : row_uses r ≡ shape_uses s = cc in
    row_has r v ∙ ap (contains v) p
rows_have (r ∷ rs) (s ∷ ss) e (suc t) v =
    let q : row_uses r ∷ map row_uses rs ≡ shape_uses s ∷ map shape_uses ss = e in
    let p : map row_uses rs ≡ map shape_uses ss = cc in
    rows_have rs ss p t v

abbrev blank_variable : Variable
blank_variable = variable_of (record { shape = record { threads = []; variables = []; functions = []; tables = []; inputs = []; outputs = []; names = [] }; threads = []; functions = [] }) 0

pub combines_are : (variables : List Variable) (v : ℕ) → combine_at variables v ≡ (get_or variables v blank_variable).combine
combines_are [] zero = refl
combines_are [] (suc v) = refl
combines_are (x ∷ xs) zero = refl
combines_are (x ∷ xs) (suc v) = combines_are xs v

module _ (k : PlainKernel) (has_copy : ℕ → ℕ → Bool) (combine : ℕ → Option ℕ) (copies : (t v : ℕ) → has_copy t v ≡ contains v (uses_of k t)) (by : (v : ℕ) → combine v ≡ (variable_of k v).combine) where
  users_are : (ts : List ℕ) (v : ℕ) → users_by has_copy ts v ≡ users k ts v
  users_are [] v = refl
  users_are (t ∷ ts) v =
      ap (λ c. cond c (suc (users_by has_copy ts v)) (users_by has_copy ts v)) (copies t v) ∙ ap (λ n. cond (contains v (uses_of k t)) (suc n) n) (users_are ts v)

  combine_are : (threads vs : List ℕ) → combine_by has_copy combine threads vs ≡ combine_calls k threads vs
  combine_are threads [] = refl
  combine_are threads (v ∷ vs) =
      let rest = combine_are threads vs in
      let pick : Option ℕ → ℕ → List ℕ → List ℕ = λ o n xs. elim o [ None ↦ xs | Some f ↦ cond (nat_lt 1 n) (f ∷ xs) xs ] in
      ap (λ o. pick o (users_by has_copy threads v) (combine_by has_copy combine threads vs)) (by v)
      ∙ (ap (λ n. pick (variable_of k v).combine n (combine_by has_copy combine threads vs)) (users_are threads v) ∙ ap (λ xs. pick (variable_of k v).combine (users k threads v) xs) rest)

  pub pars_are : (uses : List ℕ) (pars : List (List ℕ)) → pars_by has_copy combine uses pars ≡ par_calls k uses pars
  pars_are uses [] = refl
  pars_are uses (threads ∷ rest) = ap (λ xs. xs ++ pars_by has_copy combine uses rest) (combine_are threads uses) ∙ ap (λ xs. combine_calls k threads uses ++ xs) (pars_are uses rest)

-- ---- threads one after the other

pub count_next : (t n : ℕ) → t < n → count_up t (n - t) ≡ t ∷ count_up (t + 1) (n - (t + 1))
count_next t n l =
    let e : n - t ≡ suc (n - (t + 1)) = omega (arith, l) in
    let d : suc t ≡ t + 1 = omega arith in
    ap (count_up t) e ∙ ap (λ m. t ∷ count_up m (n - (t + 1))) d

pub count_end : (t n : ℕ) → n ≤ t → count_up t (n - t) ≡ []
count_end t n l = let e : n - t ≡ 0 = omega (arith, l) in ap (count_up t) e

-- what is left of the greatest value of all threads
pub most_next : (f : ℕ → ℕ) (t n most here next whole : ℕ) → t < n → here ≡ min (f t) (2 ^ 64 - 1) → next ≡ max most here → min (max most (greatest f (count_up t (n - t)))) (2 ^ 64 - 1) ≡ whole →
    min (max next (greatest f (count_up (t + 1) (n - (t + 1))))) (2 ^ 64 - 1) ≡ whole
most_next f t n most here next whole l h e w =
    let d = ap (greatest f) (count_next t n l) in
    omega (arith, h, e, w, d)

pub most_end : (f : ℕ → ℕ) (t n most whole : ℕ) → n ≤ t → most ≤ 2 ^ 64 - 1 → min (max most (greatest f (count_up t (n - t)))) (2 ^ 64 - 1) ≡ whole → most ≡ whole
most_end f t n most whole l s w =
    let d = ap (greatest f) (count_end t n l) in
    omega (arith, s, w, d)

-- ---- one draft

past_calls : (bodies : List Statement) (f : ℕ) → length (map stmt bodies) ≤ f → stmt_calls (get_or (map stmt bodies) f kernel.Nop) ≡ []
past_calls [] zero l = refl
past_calls [] (suc f) l = refl
past_calls (b ∷ bs) zero l = absurd (omega arith)
past_calls (b ∷ bs) (suc f) l = past_calls bs f (omega arith)

words_are : (shapes : List ThreadShape) (t : ℕ) (s : ThreadShape) → t < length shapes → s ≡ get_or shapes t s → words_in (map plain_thread shapes) t ≡ s.words
words_are [] t s l e = absurd (omega arith)
words_are (x ∷ xs) zero s l e = ap (λ (y : ThreadShape). y.words) (sym e)
words_are (x ∷ xs) (suc t) s l e = words_are xs t s (omega arith) e

uses_are : (shapes : List ThreadShape) (t : ℕ) (s : ThreadShape) → t < length shapes → s ≡ get_or shapes t s → uses_in (map plain_thread shapes) t ≡ s.uses.items
uses_are [] t s l e = absurd (omega arith)
uses_are (x ∷ xs) zero s l e = ap (λ (y : ThreadShape). y.uses.items) (sym e)
uses_are (x ∷ xs) (suc t) s l e = uses_are xs t s (omega arith) e

module _ (d : Draft) (fits : IsConsistent d) where
  abbrev k : PlainKernel
  k = plain_draft d

  pub draft_leads : (lists : List (Vec ℕ Global)) → Ranked k → map list_items lists ≡ map (λ s. stmt_calls (stmt s)) d.functions.bodies.items → (f : ℕ) → Leads (callees lists) f f → ⊥
  draft_leads lists r e =
      no_leads k (callees lists) r (λ f l. calls_at lists d.functions.bodies.items e f) (λ f l. calls_at lists d.functions.bodies.items e f ∙ past_calls d.functions.bodies.items f l)

  pub draft_chains : (lists : List (Vec ℕ Global)) (words depths : List ℕ) (c : Chains) → CallsLow k → map list_items lists ≡ map (λ s. stmt_calls (stmt s)) d.functions.bodies.items →
      words ≡ map words_of_shape d.functions.shapes.items → depths ≡ map depth_of_body d.functions.bodies.items → ((f : ℕ) → value_at c.words.items f ≡ chain_value words (callees lists) f) →
      ((f : ℕ) → value_at c.depths.items f ≡ chain_value depths (callees lists) f) → HasChains k c
  draft_chains lists words depths c low e w p h g =
      let same = λ (f : ℕ) (l : f < length k.functions). calls_at lists d.functions.bodies.items e f in
      let n = length-map d.functions.bodies.items stmt in
      let a = length-map d.functions.shapes.items words_of_shape in
      let b = length-map d.functions.bodies.items depth_of_body in
      let equal = fits.functions in
      let wide = ap length w in
      let deep = ap length p in
      record {
        words = λ f l.
            h f
            ∙ chains_are k (function_words k.shape.functions) words (callees lists) low.functions (λ f l. ap (λ xs. value_at xs f) w ∙ words_at d.functions.shapes.items f) same (omega (arith, n, a, equal, wide)) f l;
        depths = λ f l.
            g f
            ∙ chains_are k (λ g. stmt_depth (function_body k g)) depths (callees lists) low.functions (λ f l. ap (λ xs. value_at xs f) p ∙ depth_at d.functions.bodies.items f (omega (arith, l, n))) same (omega (arith, n, b, deep)) f l;
      }

  module _ (t : ℕ) (shape : ThreadShape) (text : Statement) (l : t < length d.texts.items) (is : shape ≡ get_or d.threads.items t shape) (read : text ≡ get_or d.texts.items t text) where
    body_is : body_of k t ≡ stmt text
    body_is = get_or-map stmt d.texts.items t text kernel.Nop l ∙ ap stmt (sym read)

    low_shape : t < length d.threads.items
    low_shape = let e = fits.threads in omega (arith, l, e)

    pub calls_are : stmt_calls (stmt text) ++ pars_by (has d.rows.items) (combine_at d.variables.items) shape.uses.items (pars_of (stmt text)) ≡ thread_calls k t
    calls_are =
        ap (λ xs. stmt_calls (stmt text) ++ xs)
        (pars_are k (has d.rows.items) (combine_at d.variables.items) (rows_have d.rows.items d.threads.items fits.rows) (combines_are d.variables.items) shape.uses.items (pars_of (stmt text)))
        ∙ (ap (λ u. stmt_calls (stmt text) ++ par_calls k u (pars_of (stmt text))) (sym (uses_are d.threads.items t shape low_shape is))
        ∙ ap (λ b. stmt_calls b ++ par_calls k (uses_of k t) (pars_of b)) (sym body_is))

    abbrev low_call : Type 0
    low_call = (g : ℕ) → contains g (thread_calls k t) ≡ true → g < length k.functions

    low_calls : CallsLow k → low_call
    low_calls low g i = low.threads t g (let n = length-map d.texts.items stmt in omega (arith, l, n)) i

    pub words_most : (c : Chains) (calls table : List ℕ) (from most sum : ℕ) → CallsLow k → HasChains k c → calls ≡ thread_calls k t → table ≡ c.words.items → from ≡ shape.words → most ≡ greatest (value_at table) calls →
        sum ≡ min (from + most) (2 ^ 64 - 1) → sum ≡ min (thread_words k t) (2 ^ 64 - 1)
    words_most c calls table from most sum low h e p w m s =
        let chained = greatest_capped (value_at c.words.items) (chain (function_words k.shape.functions) k (length k.functions)) (2 ^ 64 - 1) (thread_calls k t) (λ g i. h.words g (low_calls low g i)) in
        let a = m ∙ (ap (λ x. greatest (value_at x) calls) p ∙ (ap (greatest (value_at c.words.items)) e ∙ chained)) in
        let b = words_are d.threads.items t shape low_shape is in
        omega (arith, a, b, w, s)

    pub depth_most : (c : Chains) (calls table : List ℕ) (own most sum : ℕ) → CallsLow k → HasChains k c → calls ≡ thread_calls k t → table ≡ c.depths.items → own ≡ min (stmt_depth (stmt text)) (2 ^ 64 - 1) →
        most ≡ greatest (value_at table) calls → sum ≡ min (own + most) (2 ^ 64 - 1) → sum ≡ min (thread_depth k t) (2 ^ 64 - 1)
    depth_most c calls table own most sum low h e p w m s =
        let chained = greatest_capped (value_at c.depths.items) (function_depth k) (2 ^ 64 - 1) (thread_calls k t) (λ g i. h.depths g (low_calls low g i)) in
        let a = m ∙ (ap (λ x. greatest (value_at x) calls) p ∙ (ap (greatest (value_at c.depths.items)) e ∙ chained)) in
        let b = ap stmt_depth body_is in
        omega (arith, a, b, w, s)

  pub words_amount : (words : ℕ) → words ≡ min (greatest (thread_words k) (count_up 0 (length d.texts.items))) (2 ^ 64 - 1) → words ≡ min (amount Words k) (2 ^ 64 - 1)
  unfolding amount
  words_amount words e = e ∙ ap (λ n. min (greatest (thread_words k) (count_up 0 n)) (2 ^ 64 - 1)) (sym (length-map d.texts.items stmt))

  in_count : (g from n : ℕ) → contains g (count_up from n) ≡ true → g < from + n
  in_count g from zero i = absurd (let q : false ≡ true = i in cc)
  in_count g from (suc n) i =
      split (from == g) (λ e. (let q : from ≡ g = grind (arith, nat_tests) in omega (arith, q))) (λ e. (let r = in_count g (suc from) n (sym (ap (λ c. cond c true (contains g (count_up (suc from) n))) e) ∙ i) in omega (arith, r)))

  pub depth_amount : (c : Chains) (depth most whole : ℕ) (numbers table : List ℕ) → HasChains k c → depth ≡ min (greatest (thread_depth k) (count_up 0 (length d.texts.items))) (2 ^ 64 - 1) →
      table ≡ c.depths.items → numbers ≡ count_up 0 (length d.functions.bodies.items) → most ≡ greatest (value_at table) numbers → whole ≡ max depth most → whole ≡ min (amount Depth k) (2 ^ 64 - 1)
  unfolding amount
  depth_amount c depth most whole numbers table h e p n m w =
      let a = ap (λ n. greatest (thread_depth k) (count_up 0 n)) (length-map d.texts.items stmt) in
      let long = length-map d.functions.bodies.items stmt in
      let b = ap (λ n. greatest (function_depth k) (count_up 0 n)) long in
      let chained =
      greatest_capped (value_at c.depths.items) (function_depth k) (2 ^ 64 - 1) (count_up 0 (length d.functions.bodies.items)) (λ g i. h.depths g (let l = in_count g 0 (length d.functions.bodies.items) i in omega (arith, l, long))) in
      let q = m ∙ (ap (λ x. greatest (value_at x) numbers) p ∙ (ap (greatest (value_at c.depths.items)) n ∙ chained)) in
      omega (arith, a, b, e, q, w)
