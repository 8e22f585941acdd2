-- Each step keeps the rule of the hints.
use Rattle.std.proofs.Common.{◌≡◌, ◌≢◌, ℕ, zero, suc, ◌+◌, ◌≤◌, ◌∷◌, ◌++◌, [], List, Bool, true, false, set, sym, refl, ap, ◌∙◌, ⊎_elim, arith}
use Rattle.std.specs.Prelude.{◌||◌, cond}
use mathlib.Core.Option.{some, some-ne-none, some-injective}
use lib.ListN.{get_elem?}
use Rattle.crossbeam_queue.specs.Fifo.{Pushes, Pops, Forks, Merges, Learns}
use Rattle.crossbeam_queue.proofs.Lists.{at_set, at_snoc, set_else}
use Rattle.core_bells.specs.declared.hints.HintLog.{HintLog}
use Rattle.core_bells.specs.Hints.{new_log, with_pushed, with_popped, with_log, times, total, mark, KeepsHints, Knows}

times_append : (x : ℕ) (xs ys : List ℕ) → times x (xs ++ ys) ≡ times x xs + times x ys
times_append x [] ys = omega arith
times_append x (y ∷ xs) ys = let t = times_append x xs ys in omega (arith, t)

total_set : (f : HintLog → ℕ) (logs : List HintLog) (id : ℕ) (v w : HintLog) → get_elem? logs id ≡ some v → total f (set logs id w) + f v ≡ total f logs + f w
total_set f [] id v w at = absurd (some-ne-none v (sym at))
total_set f (u ∷ logs) zero v w at = let e = ap f (some-injective u v at) in omega (arith, e)
total_set f (u ∷ logs) (suc id) v w at = let t = total_set f logs id v w at in omega (arith, t)

pub total_snoc : (f : HintLog → ℕ) (logs : List HintLog) (v : HintLog) → total f (logs ++ v ∷ []) ≡ total f logs + f v
total_snoc f [] v = omega arith
total_snoc f (u ∷ logs) v = let t = total_snoc f logs v in omega (arith, t)

-- one of them is no more than all
one_of : (f : HintLog → ℕ) (logs : List HintLog) (id : ℕ) (v : HintLog) → get_elem? logs id ≡ some v → f v ≤ total f logs
one_of f [] id v at = absurd (some-ne-none v (sym at))
one_of f (u ∷ logs) zero v at = let e = ap f (some-injective u v at) in omega (arith, e)
one_of f (u ∷ logs) (suc id) v at = let t = one_of f logs id v at in omega (arith, t)

marked : (v : HintLog) → v.may_pop ≡ true → mark v ≡ 1
marked v is = ap (λ b. cond b 1 0) is

unmarked : (v : HintLog) → mark v ≡ 0 → v.may_pop ≡ false
unmarked v none = go v.may_pop refl
  where
    go : (b : Bool) → v.may_pop ≡ b → b ≡ false
    go true is = let one = marked v is in absurd (omega (arith, none, one))
    go false is = refl

abbrev Idle : List HintLog → Type 0
Idle logs = (id : ℕ) (v : HintLog) → get_elem? logs id ≡ some v → v.may_pop ≡ false → v.popped ≡ []

none_popped : (x : ℕ) (logs : List HintLog) → total mark logs ≡ 0 → Idle logs → total (λ v. times x v.popped) logs ≡ 0
none_popped x [] none idle = refl
none_popped x (u ∷ logs) none idle =
    let rest = none_popped x logs (omega (arith, none)) (λ id. idle (suc id)) in
    let first = ap (times x) (idle 0 u refl (unmarked u (omega (arith, none)))) in omega (arith, rest, first)

-- the one that may pop popped all that was popped
all_popped : (x : ℕ) (logs : List HintLog) (id : ℕ) (v : HintLog) → get_elem? logs id ≡ some v → v.may_pop ≡ true → total mark logs ≡ 1 → Idle logs → total (λ u. times x u.popped) logs ≡ times x v.popped
all_popped x [] id v at may one idle = absurd (some-ne-none v (sym at))
all_popped x (u ∷ logs) zero v at may one idle =
    let same = some-injective u v at in let m = ap mark same in let is = marked v may in
    let rest = none_popped x logs (omega (arith, one, m, is)) (λ id. idle (suc id)) in let first = ap (λ (w : HintLog). times x w.popped) same in omega (arith, rest, first)
all_popped x (u ∷ logs) (suc id) v at may one idle =
    let is = marked v may in let there = one_of mark logs id v at in
    let rest = all_popped x logs id v at may (omega (arith, one, is, there)) (λ i. idle (suc i)) in
    let first = ap (times x) (idle 0 u refl (unmarked u (omega (arith, one, is, there)))) in omega (arith, rest, first)

idle_set : (logs : List HintLog) (id : ℕ) (w : HintLog) → Idle logs → (w.may_pop ≡ false → w.popped ≡ []) → Idle (set logs id w)
idle_set logs id w idle mine j u at none = ⊎_elim (λ (here : (j ≡ id) × (w ≡ u)). ap (λ (y : HintLog). y.popped) (sym here.1) ∙ mine (ap (λ (y : HintLog). y.may_pop) here.1 ∙ none))
    (λ (else : (j ≢ id) × (get_elem? logs j ≡ some u)). idle j u else.1 none) (at_set logs id j w u at)

pub starts : KeepsHints [] (new_log true ∷ [])
starts = record { balanced = λ x. refl; one = refl; others = λ id v at none. first id v at none }
  where
    first : Idle (new_log true ∷ [])
    first zero v at none = ap (λ (y : HintLog). y.popped) (sym (some-injective (new_log true) v at))
    first (suc id) v at none = absurd (some-ne-none v (sym at))

pub pushes : (room id : ℕ) (v : HintLog) (hint : ℕ) → Pushes KeepsHints room id v hint (λ w. w ≡ with_pushed v hint)
pushes room id v hint held logs short kept at = let w = with_pushed v hint in (
  w,
  record {
    balanced = λ x.
        let s = total_set (λ u. times x u.pushed) logs id v w at in let t = total_set (λ u. times x u.popped) logs id v w at in
        let a = times_append x v.pushed (hint ∷ []) in let b = times_append x held (hint ∷ []) in let k = kept.balanced x in omega (arith, s, t, a, b, k);
    one = let m = total_set mark logs id v w at in let k = kept.one in omega (arith, m, k);
    others = idle_set logs id w kept.others (kept.others id v at);
  },
  refl,
)

pub pops : (id : ℕ) (v : HintLog) → v.may_pop ≡ true → Pops KeepsHints id v (λ hint w. w ≡ with_popped v hint)
pops id v may hint held logs kept at = let w = with_popped v hint in (
  w,
  record {
    balanced = λ x.
        let s = total_set (λ u. times x u.pushed) logs id v w at in let t = total_set (λ u. times x u.popped) logs id v w at in
        let a = times_append x v.popped (hint ∷ []) in let k = kept.balanced x in omega (arith, s, t, a, k);
    one = let m = total_set mark logs id v w at in let k = kept.one in omega (arith, m, k);
    others = idle_set logs id w kept.others (λ none. absurd (cc));
  },
  refl,
)

pub forks : (id : ℕ) (v : HintLog) → Forks KeepsHints id v v (new_log false)
forks id v held logs kept at = let w = new_log false in let all = set logs id v in record {
  balanced = λ x.
      let s = total_set (λ u. times x u.pushed) logs id v v at in let t = total_set (λ u. times x u.popped) logs id v v at in
      let a = total_snoc (λ u. times x u.pushed) all w in let b = total_snoc (λ u. times x u.popped) all w in let k = kept.balanced x in omega (arith, s, t, a, b, k);
  one = let m = total_set mark logs id v v at in let n = total_snoc mark all w in let k = kept.one in omega (arith, m, n, k);
  others = λ j u there none. ⊎_elim (λ old. idle_set logs id v kept.others (kept.others id v at) j u old none) (λ (is : w ≡ u). ap (λ (y : HintLog). y.popped) (sym is)) (at_snoc all w u j there);
}

or_none : (b c : Bool) → (b || c) ≡ false → (b ≡ false) × (c ≡ false)
or_none true c e = absurd (cc)
or_none false c e = (refl, e)

-- of two different passes at most one may pop
one_mark : (logs : List HintLog) (id : ℕ) (v : HintLog) (other : ℕ) (w : HintLog) → get_elem? logs id ≡ some v → get_elem? logs other ≡ some w → other ≢ id → total mark logs ≡ 1 → mark (with_log v w) ≡ mark v + mark w
one_mark logs id v other w at there apart one = go v.may_pop w.may_pop refl refl
  where
    go : (b c : Bool) → v.may_pop ≡ b → w.may_pop ≡ c → cond (v.may_pop || w.may_pop) 1 0 ≡ mark v + mark w
    go true true e f =
        let left = total_set mark logs id v (new_log false) at in let mine = marked v e in let theirs = marked w f in
        let still = one_of mark (set logs id (new_log false)) other w (set_else logs id other (new_log false) apart ∙ there) in absurd (omega (arith, left, mine, theirs, still, one))
    go true false e f = rw (e, f) refl
    go false true e f = rw (e, f) refl
    go false false e f = rw (e, f) refl

pub merges : (id : ℕ) (v : HintLog) (other : ℕ) (w : HintLog) → Merges KeepsHints id v other w (with_log v w) (new_log false)
merges id v other w held logs kept at apart there =
    let m = with_log v w in let e = new_log false in let all = set logs id m in
    let was : get_elem? logs other ≡ some w = ⊎_elim (λ here. absurd (apart here.0)) (λ else. else.1) (at_set logs id other m w there) in
    let each = idle_set logs id m kept.others (λ none. let both = or_none v.may_pop w.may_pop none in ap (λ (l : List ℕ). l ++ w.popped) (kept.others id v at both.0) ∙ kept.others other w was both.1) in record {
      balanced = λ x.
          let s = total_set (λ u. times x u.pushed) logs id v m at in let t = total_set (λ u. times x u.popped) logs id v m at in
          let s' = total_set (λ u. times x u.pushed) all other w e there in let t' = total_set (λ u. times x u.popped) all other w e there in
          let a = times_append x v.pushed w.pushed in let b = times_append x v.popped w.popped in let k = kept.balanced x in omega (arith, s, t, s', t', a, b, k);
      one = let s = total_set mark logs id v m at in let t = total_set mark all other w e there in let n = one_mark logs id v other w at was apart kept.one in let k = kept.one in omega (arith, s, t, n, k);
      others = idle_set all other e each (λ none. refl);
    }

pub learns : (id : ℕ) (v : HintLog) → Learns KeepsHints id v (Knows v)
learns id v held logs kept at may x =
    let mine = one_of (λ u. times x u.pushed) logs id v at in let all = all_popped x logs id v at may kept.one kept.others in let k = kept.balanced x in omega (arith, mine, all, k)
