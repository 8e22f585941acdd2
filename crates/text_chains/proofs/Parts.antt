-- Lists, the combine function of one variable, and scopes.
use Rattle.std.proofs.Common.{ℕ, zero, suc, ◌+◌, ◌<◌, ◌≤◌, ◌≡◌, ◌∙◌, ◌==◌, max, sym, ap, refl, Bool, true, false, cond, ◌||◌, nat_lt, is_some, Option, Some, None, List, [], ◌∷◌, ◌++◌, append-nil, append_assoc, length, length-append, arith}
use Rattle.std.proofs.lemmas.Bool.Decides.{nat_tests}
use Rattle.std.proofs.lemmas.List.{get_or_append_left, get_or-append-add}
use Rattle.forec_tree.specs.declared.tree.Name.{Name}
use Rattle.forec_tree.specs.Terms.{Declared, Statement, Declare, Nothing, Group, Assign, Invoke, If, While, For, Pause, Par, Abort, Return, Perhaps, absent, present, Text}
use Rattle.forec_tree.specs.Faults.{is_in}
use Rattle.forec_kernel.specs.Terms.{Stmt, Stmts, no_stmts, more_stmts}
use Rattle.forec_kernel.specs.Shapes.{PlainKernel}
use Rattle.forec_kernel.specs.Combining.{contains}
use Rattle.forec_kernel.specs.Texts.{uses_of}
use Rattle.forec_kernel.specs.WellFormed.{greatest, count_up, users, stmt_calls, stmts_calls, pars_of, pars_in}
use Rattle.text_kernel.specs.declared.names.Slot.{Slot}
use Rattle.text_kernel.specs.Bindings.{local_slot, with_local_slots, params_at, slots_of, find_slot}
use Rattle.text_kernel.specs.Lowering.{sequence, ends_with, scope_after, scope_after_perhaps, Made}
use Rattle.text_kernel.specs.Kernels.{filter_in}
use Rattle.text_kernel.proofs.NamedVariables.{in_append}
use Rattle.text_kernel.proofs.Forks.{at, blank_made}
use Rattle.text_sizes.proofs.Heights.{made_most}
use Rattle.text_chains.specs.Tallies.{hides, hides_locals, hides_params, hides_after, hides_after_perhaps}

-- ---- lists

pub greatest_append : (f : ℕ → ℕ) (xs ys : List ℕ) → greatest f (xs ++ ys) ≡ max (greatest f xs) (greatest f ys)
greatest_append f [] ys = omega arith
greatest_append f (x ∷ xs) ys = let e = greatest_append f xs ys in omega (arith, e)

pub sequence_calls : (list : Stmts) → stmt_calls (sequence list) ≡ stmts_calls list
sequence_calls no_stmts = refl
sequence_calls (more_stmts a no_stmts) = sym (append-nil (stmt_calls a))
sequence_calls (more_stmts a (more_stmts b rest)) = refl

pub ends_calls : (list : Stmts) (a : Stmt) → stmts_calls (ends_with list a) ≡ stmts_calls list ++ stmt_calls a
ends_calls no_stmts a = append-nil (stmt_calls a)
ends_calls (more_stmts b rest) a = ap (λ l. stmt_calls b ++ l) (ends_calls rest a) ∙ sym (append_assoc (stmt_calls b) (stmts_calls rest) (stmt_calls a))

pub ends_pars : (list : Stmts) (a : Stmt) → pars_in (ends_with list a) ≡ pars_in list ++ pars_of a
ends_pars no_stmts a = append-nil (pars_of a)
ends_pars (more_stmts b rest) a = ap (λ l. pars_of b ++ l) (ends_pars rest a) ∙ sym (append_assoc (pars_of b) (pars_in rest) (pars_of a))

-- ---- truth values

pub crossed : (a b c d : Bool) → ((a || b) || (c || d)) ≡ ((a || c) || (b || d))
crossed true b c d = refl
crossed false true true d = refl
crossed false true false d = refl
crossed false false c d = refl

or_first : (a : Bool) → (a || true) ≡ true
or_first true = refl
or_first false = refl

or_again : (a b : Bool) → (a || (a || b)) ≡ (a || b)
or_again true b = refl
or_again false b = refl

or_swap : (a b : Bool) → (a || b) ≡ (b || a)
or_swap true true = refl
or_swap true false = refl
or_swap false true = refl
or_swap false false = refl

pub or_none : (a : Bool) → (a || false) ≡ a
or_none true = refl
or_none false = refl

pub in_again : (x : ℕ) (a b : List ℕ) → is_in x (a ++ (a ++ b)) ≡ is_in x (a ++ b)
in_again x a b = in_append x a (a ++ b) ∙ (ap (λ t. is_in x a || t) (in_append x a b) ∙ (or_again (is_in x a) (is_in x b) ∙ sym (in_append x a b)))

pub in_swap : (x : ℕ) (a b : List ℕ) → is_in x (a ++ b) ≡ is_in x (b ++ a)
in_swap x a b = in_append x a b ∙ (or_swap (is_in x a) (is_in x b) ∙ sym (in_append x b a))

pub most_again : (f : ℕ → ℕ) (a b : List ℕ) → greatest f (a ++ (a ++ b)) ≡ greatest f (a ++ b)
most_again f a b =
    let x = greatest_append f a (a ++ b) in
    let y = greatest_append f a b in
    omega (arith, x, y)

pub most_swap : (f : ℕ → ℕ) (a b : List ℕ) → greatest f (a ++ b) ≡ greatest f (b ++ a)
most_swap f a b =
    let x = greatest_append f a b in
    let y = greatest_append f b a in
    omega (arith, x, y)

-- ---- the combine function of one variable

-- the words of the combine function, where two branches of a par use the variable
abbrev pub folds : (k : PlainKernel) (v worth : ℕ) → List (List ℕ) → ℕ
folds k v worth [] = 0
folds k v worth (threads ∷ rest) = max (cond (nat_lt 1 (users k threads v)) worth 0) (folds k v worth rest)

pub folds_append : (k : PlainKernel) (v worth : ℕ) (a b : List (List ℕ)) → folds k v worth (a ++ b) ≡ max (folds k v worth a) (folds k v worth b)
folds_append k v worth [] b = omega arith
folds_append k v worth (x ∷ a) b = let e = folds_append k v worth a b in omega (arith, e)

pub folds_swap : (k : PlainKernel) (v worth : ℕ) (a b : List (List ℕ)) → folds k v worth (a ++ b) ≡ folds k v worth (b ++ a)
folds_swap k v worth a b =
    let x = folds_append k v worth a b in
    let y = folds_append k v worth b a in
    omega (arith, x, y)

-- the words of a thread, with the most of a function that it calls
abbrev pub thread_measure : (ℕ → ℕ) → PlainKernel → ℕ → ℕ → ℕ → Stmt → ℕ
thread_measure value k v worth words body = words + max (greatest value (stmt_calls body)) (folds k v worth (pars_of body))

-- threads that are added have the copies of the variables that they name
abbrev pub SitsIn : PlainKernel → ℕ → ℕ → List Made → Type 0
SitsIn k count m a = (j : ℕ) → j < length a → uses_of k (m + j) ≡ filter_in (at a j).named (count_up 0 count)

pub sits_left : (k : PlainKernel) (count m : ℕ) (a b : List Made) → SitsIn k count m (a ++ b) → SitsIn k count m a
sits_left k count m a b z j l =
    let long = length-append a b in z j (omega (arith, long, l)) ∙ ap (λ (x : Made). filter_in x.named (count_up 0 count)) (get_or_append_left a b blank_made j l)

pub sits_right : (k : PlainKernel) (count m m1 : ℕ) (a b : List Made) → m1 ≡ m + length a → SitsIn k count m (a ++ b) → SitsIn k count m1 b
sits_right k count m m1 a b e z j l =
    let long = length-append a b in
    let same : m1 + j ≡ m + (length a + j) = omega (arith, e) in
    ap (uses_of k) same ∙ (z (length a + j) (omega (arith, long, l)) ∙ ap (λ (x : Made). filter_in x.named (count_up 0 count)) (get_or-append-add a b j blank_made))

-- the copies that a thread has are of the variables that it names
absent_above : (named : List ℕ) (v w m : ℕ) → v < w → contains v (filter_in named (count_up w m)) ≡ false
absent_above named v w zero h = refl
absent_above named v w (suc m) h =
    let rest = absent_above named v (suc w) m (omega (arith, h)) in
    let e : (w == v) ≡ false = grind (arith, nat_tests) in
    elim (is_in w named) as (λ c. contains v (cond c (w ∷ filter_in named (count_up (suc w) m)) (filter_in named (count_up (suc w) m))) ≡ false) [
      | true ↦ ap (λ t. cond t true (contains v (filter_in named (count_up (suc w) m)))) e ∙ rest
      | false ↦ rest
    ]

further : (named : List ℕ) (v from n : ℕ) (c : Bool) → (from == v) ≡ false → contains v (filter_in named (count_up (suc from) n)) ≡ is_in v named →
    contains v (cond c (from ∷ filter_in named (count_up (suc from) n)) (filter_in named (count_up (suc from) n))) ≡ is_in v named
further named v from n true e r = ap (λ t. cond t true (contains v (filter_in named (count_up (suc from) n)))) e ∙ r
further named v from n false e r = r

equal : (named : List ℕ) (v from n : ℕ) (c : Bool) → is_in from named ≡ c → from ≡ v → (from == v) ≡ true →
    contains v (cond c (from ∷ filter_in named (count_up (suc from) n)) (filter_in named (count_up (suc from) n))) ≡ is_in v named
equal named v from n true i e d = ap (λ t. cond t true (contains v (filter_in named (count_up (suc from) n)))) d ∙ (sym i ∙ ap (λ x. is_in x named) e)
equal named v from n false i e d = absent_above named v (suc from) n (omega (arith, e)) ∙ (sym i ∙ ap (λ x. is_in x named) e)

pub filtered : (named : List ℕ) (v from n : ℕ) → from ≤ v → v < from + n → contains v (filter_in named (count_up from n)) ≡ is_in v named
filtered named v from zero a l = absurd (omega (arith, a, l))
filtered named v from (suc n) a l = pick (from == v) refl (filtered named v (suc from) n)
  where
    pick : (b : Bool) → (from == v) ≡ b → (suc from ≤ v → v < suc from + n → contains v (filter_in named (count_up (suc from) n)) ≡ is_in v named) →
        contains v (cond (is_in from named) (from ∷ filter_in named (count_up (suc from) n)) (filter_in named (count_up (suc from) n))) ≡ is_in v named
    pick true e r = equal named v from n (is_in from named) refl (grind (arith, nat_tests)) e
    pick false e r = let h : suc from ≤ v = grind (arith, nat_tests) in further named v from n (is_in from named) e (r h (omega (arith, l)))

pub made_append : (measure : Made → ℕ) (a b : List Made) → made_most measure (a ++ b) ≡ max (made_most measure a) (made_most measure b)
made_append measure [] b = omega arith
made_append measure (m ∷ a) b = let e = made_append measure a b in omega (arith, e)

pub in_behind : (x : ℕ) (a b c : List ℕ) → is_in x b ≡ is_in x c → is_in x (a ++ b) ≡ is_in x (a ++ c)
in_behind x a b c e = in_append x a b ∙ (ap (λ t. is_in x a || t) e ∙ sym (in_append x a c))

pub most_behind : (f : ℕ → ℕ) (a b c : List ℕ) → greatest f b ≡ greatest f c → greatest f (a ++ b) ≡ greatest f (a ++ c)
most_behind f a b c e =
    let x = greatest_append f a b in
    let y = greatest_append f a c in
    omega (arith, x, y, e)

pub folds_behind : (k : PlainKernel) (v worth : ℕ) (a b c : List (List ℕ)) → folds k v worth b ≡ folds k v worth c → folds k v worth (a ++ b) ≡ folds k v worth (a ++ c)
folds_behind k v worth a b c e =
    let x = folds_append k v worth a b in
    let y = folds_append k v worth a c in
    omega (arith, x, y, e)

-- ---- scopes

module _ (i : ℕ) where
  abbrev pub seen : List Slot → Bool
  seen s = is_some (find_slot i None s)

  find_more : (s : List Slot) (x : Slot) (found : Option Slot) → find_slot i found (s ++ x ∷ []) ≡ cond (x.id == i) (Some x) (find_slot i found s)
  find_more [] x found = refl
  find_more (y ∷ s) x found = find_more s x (cond (y.id == i) (Some y) found)

  some_or : (b : Bool) (x : Slot) (f : Option Slot) → is_some (cond b (Some x) f) ≡ cond (is_some f) true b
  some_or true x None = refl
  some_or true x (Some y) = refl
  some_or false x None = refl
  some_or false x (Some y) = refl

  seen_more : (s : List Slot) (x : Slot) (h : Bool) → seen s ≡ h → seen (s ++ x ∷ []) ≡ hides i h x.id
  seen_more s x h e = ap is_some (find_more s x None) ∙ (some_or (x.id == i) x (find_slot i None s) ∙ ap (λ t. cond t true (x.id == i)) e)

  pub seen_locals : (s : List Slot) (slot : ℕ) (ls : List Declared) (h : Bool) → seen s ≡ h → seen (with_local_slots s slot ls) ≡ hides_locals i h ls
  seen_locals s slot [] h e = e
  seen_locals s slot (l ∷ rest) h e = seen_locals (s ++ local_slot slot l ∷ []) (slot + slots_of l.length) rest (hides i h l.name.id) (seen_more s (local_slot slot l) h e)

  params_found : (ps : List Name) (slot : ℕ) (f : Option Slot) (h : Bool) → is_some f ≡ h → is_some (find_slot i f (params_at slot ps)) ≡ hides_params i h ps
  params_found [] slot f h e = e
  params_found (p ∷ ps) slot f h e =
      let x : Slot = record { id = p.id; slot = slot; size = None } in
      params_found ps (suc slot) (cond (p.id == i) (Some x) f) (hides i h p.id) (some_or (p.id == i) x f ∙ ap (λ t. cond t true (p.id == i)) e)

  pub seen_params : (ps : List Name) (slot : ℕ) → seen (params_at slot ps) ≡ hides_params i false ps
  seen_params ps slot = params_found ps slot None false refl

  pub seen_behind : (text : Text) (s : List Slot) (slot : ℕ) (a : Statement) (h : Bool) → seen s ≡ h → seen (scope_after text s slot a) ≡ hides_after i h a
  seen_behind text s slot (Declare at locals) h e = seen_locals s slot locals h e
  seen_behind text s slot (Nothing at) h e = e
  seen_behind text s slot (Group at body) h e = e
  seen_behind text s slot (Assign at target op value) h e = e
  seen_behind text s slot (Invoke at name args) h e = e
  seen_behind text s slot (If at test a b) h e = e
  seen_behind text s slot (While at test bound body) h e = e
  seen_behind text s slot (For at start test step bound body) h e = e
  seen_behind text s slot (Pause at) h e = e
  seen_behind text s slot (Par at bs) h e = e
  seen_behind text s slot (Abort at weak immediate test body) h e = e
  seen_behind text s slot (Return at value) h e = e

  pub seen_perhaps : (text : Text) (s : List Slot) (slot : ℕ) (a : Perhaps) (h : Bool) → seen s ≡ h → seen (scope_after_perhaps text s slot a) ≡ hides_after_perhaps i h a
  seen_perhaps text s slot absent h e = e
  seen_perhaps text s slot (present a) h e = seen_behind text s slot a h e
