-- Where nothing moves any more, a global of which not many instances are known is named by one at most.
use Rattle.std.proofs.Common.{ℕ, zero, suc, ◌+◌, ◌<◌, ◌≤◌, ◌≡◌, ◌≢◌, ◌∙◌, ◌==◌, sym, ap, refl, subst, ◌⊎◌, inl, inr, ⊎_elim, Bool, true, false, cond, ◌&&◌, ◌||◌, Option, Some, None, List, [], ◌∷◌, ◌++◌, length, arith}
use Rattle.std.specs.Prelude.{nat_lt}
use Rattle.std.proofs.lemmas.Bool.{eqb-true}
use Rattle.std.proofs.lemmas.Bool.Decides.{nat_tests}
use Rattle.forec_tree.specs.Terms.{Text, PlainFunction}
use Rattle.forec_tree.specs.Findings.{in_function}
use Rattle.forec_tree.specs.Pauses.{within, find_function}
use Rattle.forec_check.specs.AccessScan.{TextAccess, AccessScan, no_access, scan_start, accessing_instances, as_access, closed, body_access, access_step, instances_of}
use Rattle.forec_tree.specs.Faults.{is_in, Leads, at_once, through, functions_called, called_in}
use Rattle.forec_tree.proofs.Reach.{append}
use Rattle.loop_check.specs.Known.{list_at}
use Rattle.loop_check.proofs.IndexLemmas.{split}
use Rattle.program_walk.specs.declared.walk.effects.Effect.{Effect}
use Rattle.program_walk.specs.declared.walk.effects.Effect.TheVariants as effect
use Rattle.forec_check.specs.declared.instances.call_sites.CallSite.{CallSite}
use Rattle.forec_check.specs.declared.instances.call_sites.CallSites.{CallSites}
use Rattle.forec_check.specs.declared.instances.call_sites.CallSites.TheVariants as sites
use Rattle.forec_check.specs.Early.{effect_calls, function_calls}
use Rattle.program_walk.specs.Walk.{effects_of}
use Rattle.forec_check.specs.AccessCounts.{effects_in, scan_effect, scan_effects}
use Rattle.forec_check.specs.CallSites.{same_call_site, is_within, opened_sites, SiteMaps, InstanceView, view_after_block, inside_after, Holds, HoldsEffects, body_settled, start_site}
use Rattle.forec_check.proofs.Recursion.{calls_is, calls_at}
use Rattle.forec_check.proofs.AccessCountLemmas.{effects_tell}

-- ---- sets of sites

same_is : (a b : CallSite) → same_call_site a b ≡ true → a ≡ b
same_is a b h = both (a.function == b.function) (a.effect == b.effect) refl refl h
  where
    both : (p q : Bool) → (a.function == b.function) ≡ p → (a.effect == b.effect) ≡ q → (p && q) ≡ true → a ≡ b
    both true true e d h =
        ap (λ (f : ℕ). let s : CallSite = record { function = f; effect = a.effect } in s) (eqb-true a.function b.function e)
        ∙ ap (λ (n : ℕ). let s : CallSite = record { function = b.function; effect = n } in s) (eqb-true a.effect b.effect d)
    both true false e d h = absurd (let q : false ≡ true = h in cc)
    both false q e d h = absurd (let q : false ≡ true = h in cc)

within_some : (a b : CallSites) → is_within a b ≡ true → a ≢ sites.None → b ≢ sites.None
within_some sites.None b h n = absurd (n refl)
within_some (sites.One s) sites.None h n = absurd (let q : false ≡ true = h in cc)
within_some (sites.One s) (sites.One r) h n = λ e. let q : sites.One r ≡ sites.None = e in cc
within_some (sites.One s) sites.Many h n = λ e. let q : sites.Many ≡ sites.None = e in cc
within_some sites.Many sites.None h n = absurd (let q : false ≡ true = h in cc)
within_some sites.Many (sites.One r) h n = absurd (let q : false ≡ true = h in cc)
within_some sites.Many sites.Many h n = n

within_trans : (a b c : CallSites) → is_within a b ≡ true → is_within b c ≡ true → is_within a c ≡ true
within_trans sites.None b c h k = refl
within_trans (sites.One s) sites.None c h k = absurd (let q : false ≡ true = h in cc)
within_trans (sites.One s) (sites.One r) c h k = subst (λ x. is_within (sites.One x) c ≡ true) (sym (same_is s r h)) k
within_trans (sites.One s) sites.Many sites.None h k = absurd (let q : false ≡ true = k in cc)
within_trans (sites.One s) sites.Many (sites.One r) h k = absurd (let q : false ≡ true = k in cc)
within_trans (sites.One s) sites.Many sites.Many h k = refl
within_trans sites.Many sites.None c h k = absurd (let q : false ≡ true = h in cc)
within_trans sites.Many (sites.One r) c h k = absurd (let q : false ≡ true = h in cc)
within_trans sites.Many sites.Many c h k = k

opened_some : (c : CallSites) (s : CallSite) → c ≢ sites.None → opened_sites c s ≢ sites.None
opened_some sites.None s n = n
opened_some (sites.One a) s n = λ e. let q : sites.One s ≡ sites.None = e in cc
opened_some sites.Many s n = λ e. let q : sites.Many ≡ sites.None = e in cc

-- instances that start at a site and are part of one: the function is called from one site alone
pub record Alone (calls : CallSites) (s j : CallSite) : Type 0 where
  pub from : CallSite
  pub called : calls ≡ sites.One from
  pub is : s ≡ j

opened_one : (c : CallSites) (s j : CallSite) → c ≢ sites.None → is_within (opened_sites c s) (sites.One j) ≡ true → Alone c s j
opened_one sites.None s j n h = absurd (n refl)
opened_one (sites.One a) s j n h = record { from = a; called = refl; is = same_is s j h }
opened_one sites.Many s j n h = absurd (let q : false ≡ true = h in cc)

-- ---- calls in the effects of a body

abbrev callee_of : Effect → Option ℕ
callee_of (effect.Runs id) = Some id
callee_of (effect.Starts id) = Some id
callee_of _ = None

abbrev call_at : List Effect → ℕ → Option ℕ
call_at [] i = None
call_at (e ∷ rest) zero = callee_of e
call_at (e ∷ rest) (suc i) = call_at rest i

-- from f by the call of its effect number i to s
pub data Way (effects : ℕ → List Effect) : ℕ → ℕ → ℕ → Type 0 where
  directly : {f i s : ℕ} → call_at (effects f) i ≡ Some s → Way effects f i s
  onward : {f i s : ℕ} → (m l : ℕ) → Way effects f i m → call_at (effects m) l ≡ Some s → Way effects f i s

head_in : (id : ℕ) (xs : List ℕ) → is_in id (id ∷ xs) ≡ true
head_in id xs = let s : (id == id) ≡ true = grind (arith, nat_tests) in ap (λ b. cond b true (is_in id xs)) s

tail_in : (id x : ℕ) (xs : List ℕ) → is_in id xs ≡ true → is_in id (x ∷ xs) ≡ true
tail_in id x xs h = elim (x == id) as (λ b. cond b true (is_in id xs) ≡ true) [ true ↦ refl | false ↦ h ]

called_by : (es : List Effect) (i s : ℕ) → call_at es i ≡ Some s → is_in s (effect_calls es) ≡ true
called_by [] i s h = absurd (let q : None ≡ Some s = h in cc)
called_by (effect.Accesses id ∷ rest) zero s h = absurd (let q : None ≡ Some s = h in cc)
called_by (effect.Computes id ∷ rest) zero s h = absurd (let q : None ≡ Some s = h in cc)
called_by (effect.Runs id ∷ rest) zero s h = let q : id ≡ s = (let z : Some id ≡ Some s = h in cc) in subst (λ x. is_in s (x ∷ effect_calls rest) ≡ true) (sym q) (head_in s (effect_calls rest))
called_by (effect.Starts id ∷ rest) zero s h = let q : id ≡ s = (let z : Some id ≡ Some s = h in cc) in subst (λ x. is_in s (x ∷ effect_calls rest) ≡ true) (sym q) (head_in s (effect_calls rest))
called_by (effect.Opens ∷ rest) zero s h = absurd (let q : None ≡ Some s = h in cc)
called_by (effect.Closes ∷ rest) zero s h = absurd (let q : None ≡ Some s = h in cc)
called_by (effect.Accesses id ∷ rest) (suc i) s h = called_by rest i s h
called_by (effect.Computes id ∷ rest) (suc i) s h = tail_in s id (effect_calls rest) (called_by rest i s h)
called_by (effect.Runs id ∷ rest) (suc i) s h = tail_in s id (effect_calls rest) (called_by rest i s h)
called_by (effect.Starts id ∷ rest) (suc i) s h = tail_in s id (effect_calls rest) (called_by rest i s h)
called_by (effect.Opens ∷ rest) (suc i) s h = called_by rest i s h
called_by (effect.Closes ∷ rest) (suc i) s h = called_by rest i s h

abbrev effects_at : Text → ℕ → List Effect
effects_at text f = effects_in text (find_function f text)

effects_call : (text : Text) (f : ℕ) → effect_calls (effects_at text f) ≡ functions_called text f
effects_call text f = pick (find_function f text) ∙ calls_at text f
  where
    pick : (x : Option PlainFunction) → effect_calls (effects_in text x) ≡ list_at (function_calls text) x
    pick None = refl
    pick (Some x) = calls_is (in_function text x)

call_leads : (text : Text) (f i s : ℕ) → call_at (effects_at text f) i ≡ Some s → is_in s (functions_called text f) ≡ true
call_leads text f i s h = ap (is_in s) (sym (effects_call text f)) ∙ called_by (effects_at text f) i s h

way_leads : (text : Text) {f i s : ℕ} → Way (effects_at text) f i s → Leads (functions_called text) f s
way_leads text {f} {i} {s} (directly e) = at_once (call_leads text f i s e)
way_leads text {f} {i} {s} (onward m l w e) = append (functions_called text) (way_leads text w) (at_once (call_leads text m l s e))

-- one call more in front
way_from : (effects : ℕ → List Effect) (f p id : ℕ) → call_at (effects f) p ≡ Some id → {i s : ℕ} → Way effects id i s → Way effects f p s
way_from effects f p id c {i} (directly e) = onward id i (directly c) e
way_from effects f p id c (onward m l w e) = onward m l (way_from effects f p id c w) e

abbrev AllSome : List CallSites → Type 0
AllSome [] = Unit {0}
AllSome (x ∷ xs) = (x ≢ sites.None) × AllSome xs

module _ (text : Text) (t : SiteMaps) (free : (f : ℕ) → Leads (functions_called text) f f → ⊥) (settled : (f : ℕ) → t.calls f ≢ sites.None → body_settled text t f) where
  abbrev Reached : ℕ → Type 0
  Reached f = (t.calls f ≢ sites.None) × (t.texts f ≢ sites.None)

  abbrev site_of : ℕ → ℕ → CallSite
  site_of f n = record { function = f; effect = n }

  pub record Called (f n s : ℕ) : Type 0 where
    pub calls : is_within (opened_sites (t.calls f) (site_of f n)) (t.calls s) ≡ true
    pub texts : t.texts s ≢ sites.None

  call_held : (f n s : ℕ) (e : Effect) (r : InstanceView) → Reached f → r.here ≢ sites.None → callee_of e ≡ Some s → Holds t e (opened_sites (t.calls f) (site_of f n)) r → Called f n s
  call_held f n s (effect.Accesses id) r reached some c h = absurd (let q : None ≡ Some s = c in cc)
  call_held f n s (effect.Computes id) r reached some c h = absurd (let q : None ≡ Some s = c in cc)
  call_held f n s (effect.Runs id) r reached some c h =
      let q : id ≡ s = (let z : Some id ≡ Some s = c in cc) in
      subst (λ x. Called f n x) q (record { calls = h.0; texts = within_some r.here (t.texts id) h.1 some })
  call_held f n s (effect.Starts id) r reached some c h =
      let q : id ≡ s = (let z : Some id ≡ Some s = c in cc) in
      let at = opened_sites (t.calls f) (site_of f n) in
      subst (λ x. Called f n x) q (record { calls = h.0; texts = within_some at (t.texts id) h.1 (opened_some (t.calls f) (site_of f n) reached.0) })
  call_held f n s effect.Opens r reached some c h = absurd (let q : None ≡ Some s = c in cc)
  call_held f n s effect.Closes r reached some c h = absurd (let q : None ≡ Some s = c in cc)

  -- each region stands in some instance
  abbrev Somewhere : InstanceView → Type 0
  Somewhere r = (r.here ≢ sites.None) × AllSome r.round

  left_some : (here : CallSites) (round : List CallSites) → here ≢ sites.None → AllSome round → Somewhere (view_after_block here round)
  left_some here [] h a = (h, tt)
  left_some here (x ∷ xs) h a = (a.0, a.1)

  somewhere_on : (e : Effect) (s : CallSites) (r : InstanceView) → s ≢ sites.None → Somewhere r → Somewhere (inside_after e s r)
  somewhere_on (effect.Accesses id) s r n h = h
  somewhere_on (effect.Computes id) s r n h = h
  somewhere_on (effect.Runs id) s r n h = h
  somewhere_on (effect.Starts id) s r n h = h
  somewhere_on effect.Opens s r n h = (n, (h.0, h.1))
  somewhere_on effect.Closes s r n h = left_some r.here r.round h.0 h.1

  call_in : (f : ℕ) → Reached f → (n i s : ℕ) (r : InstanceView) (es : List Effect) → HoldsEffects t f n r es → Somewhere r → call_at es i ≡ Some s → Called f (n + i) s
  call_in f reached n i s r [] h some c = absurd (let q : None ≡ Some s = c in cc)
  call_in f reached n zero s r (e ∷ rest) h some c =
      let m : n ≡ n + 0 = omega arith in
      subst (λ k. Called f k s) m (call_held f n s e r reached some.0 c h.0)
  call_in f reached n (suc i) s r (e ∷ rest) h some c =
      let at = opened_sites (t.calls f) (site_of f n) in
      let m : suc n + i ≡ n + suc i = omega arith in
      subst (λ k. Called f k s) m
      (call_in f reached (suc n) i s (inside_after e at r) rest h.1 (somewhere_on e at r (opened_some (t.calls f) (site_of f n) reached.0) some) c)

  called_at : (f i s : ℕ) → Reached f → call_at (effects_at text f) i ≡ Some s → Called f (suc i) s
  called_at f i s reached c =
      let m : 1 + i ≡ suc i = omega arith in
      subst (λ k. Called f k s) m
      (call_in f reached 1 i s (record { here = t.texts f; round = [] }) (effects_at text f) (settled f reached.0) (reached.1, tt) c)

  reached_on : (f i s : ℕ) → Reached f → call_at (effects_at text f) i ≡ Some s → Reached s
  reached_on f i s reached c =
      let k = called_at f i s reached c in
      (within_some (opened_sites (t.calls f) (site_of f (suc i))) (t.calls s) k.calls (opened_some (t.calls f) (site_of f (suc i)) reached.0), k.texts)

  way_reached : {f i s : ℕ} → Reached f → Way (effects_at text) f i s → Reached s
  way_reached {f} {i} {s} reached (directly e) = reached_on f i s reached e
  way_reached {f} {i} {s} reached (onward m l w e) = reached_on m l s (way_reached reached w) e

  -- the one site that a function is called from
  one_site : (m l s : ℕ) (a : CallSite) → Reached m → call_at (effects_at text m) l ≡ Some s → t.calls s ≡ sites.One a → Alone (t.calls m) (site_of m (suc l)) a
  one_site m l s a reached c one =
      opened_one (t.calls m) (site_of m (suc l)) a reached.0 (subst (λ x. is_within (opened_sites (t.calls m) (site_of m (suc l))) x ≡ true) one (called_at m l s reached c).calls)

  -- two ways to a function that is called from one site go by one call
  ways_same : {f i k s : ℕ} (a : CallSite) → t.calls s ≡ sites.One a → Reached f → Way (effects_at text) f i s → Way (effects_at text) f k s → i ≡ k
  ways_same {f} {i} {k} {s} a one reached (directly e) (directly d) =
      let p = (one_site f i s a reached e one).is in
      let q = (one_site f k s a reached d one).is in
      let r : suc i ≡ suc k = ap (λ x. x.effect) (p ∙ sym q) in cc
  ways_same {f} {i} {k} {s} a one reached (directly e) (onward m l w d) =
      let p = (one_site f i s a reached e one).is in
      let q = (one_site m l s a (way_reached reached w) d one).is in
      absurd (free f (subst (λ x. Leads (functions_called text) f x) (sym (ap (λ x. x.function) (p ∙ sym q))) (way_leads text w)))
  ways_same {f} {i} {k} {s} a one reached (onward m l w d) (directly e) =
      let p = (one_site f k s a reached e one).is in
      let q = (one_site m l s a (way_reached reached w) d one).is in
      absurd (free f (subst (λ x. Leads (functions_called text) f x) (sym (ap (λ x. x.function) (p ∙ sym q))) (way_leads text w)))
  ways_same {f} {i} {k} {s} a one reached (onward m l w e) (onward q j v d) =
      let x = one_site m l s a (way_reached reached w) e one in
      let y = one_site q j s a (way_reached reached v) d one in
      let same : q ≡ m = sym (ap (λ z. z.function) (x.is ∙ sym y.is)) in
      ways_same x.from x.called reached w (subst (λ z. Way (effects_at text) f k z) same v)

  -- ---- one global

  module _ (g : ℕ) (few : t.globals g ≢ sites.Many) where
    -- an effect of a body by which the one instance that names the global starts
    pub record Hot (f i : ℕ) : Type 0 where
      pub instance : CallSite
      pub named : t.globals g ≡ sites.One instance
      pub from : CallSite
      pub called : t.calls instance.function ≡ sites.One from
      pub way : (instance ≡ site_of f (suc i)) ⊎ Way (effects_at text) f i instance.function

    one_instance : (a b : CallSite) → t.globals g ≡ sites.One a → t.globals g ≡ sites.One b → a ≡ b
    one_instance a b e d = let q : sites.One a ≡ sites.One b = sym e ∙ d in cc

    -- the site itself, and a way to its function
    no_round : (f i k : ℕ) (j : CallSite) → j ≡ site_of f (suc i) → Way (effects_at text) f k j.function → ⊥
    no_round f i k j e w = free f (subst (λ x. Leads (functions_called text) f x) (ap (λ x. x.function) e) (way_leads text w))

    hot_same : (f i k : ℕ) → Reached f → Hot f i → Hot f k → i ≡ k
    hot_same f i k reached a b =
        let j : b.instance ≡ a.instance = one_instance b.instance a.instance b.named a.named in
        ⊎_elim
        (λ e.
        ⊎_elim (λ d. let q : suc i ≡ suc k = ap (λ x. x.effect) (sym e ∙ sym j ∙ d) in cc)
        (λ w. absurd (no_round f i k b.instance (j ∙ e) w)) b.way)
        (λ v.
        ⊎_elim (λ d. absurd (no_round f k i a.instance (sym j ∙ d) v))
        (λ w. ways_same a.from a.called reached v (subst (λ x. Way (effects_at text) f k x.function) j w)) b.way)
        a.way

    -- an instance that starts in f and names the global
    starts_hot : (f i : ℕ) → Reached f → is_within (opened_sites (t.calls f) (site_of f (suc i))) (t.globals g) ≡ true → Hot f i
    starts_hot f i reached h = pick (t.globals g) refl
      where
        pick : (x : CallSites) → t.globals g ≡ x → Hot f i
        pick sites.None e =
            absurd (within_some (opened_sites (t.calls f) (site_of f (suc i))) (t.globals g) h (opened_some (t.calls f) (site_of f (suc i)) reached.0) e)
        pick (sites.One j) e =
            let a = opened_one (t.calls f) (site_of f (suc i)) j reached.0 (subst (λ x. is_within (opened_sites (t.calls f) (site_of f (suc i))) x ≡ true) e h) in
            record {
              instance = j;
              named = e;
              from = a.from;
              called = ap (λ x. t.calls x.function) (sym a.is) ∙ a.called;
              way = inl (sym a.is);
            }
        pick sites.Many e = absurd (few e)

    -- an instance below a function that is called
    calls_hot : (f i id k : ℕ) → call_at (effects_at text f) i ≡ Some id → Hot id k → Hot f i
    calls_hot f i id k c h =
        record {
          instance = h.instance;
          named = h.named;
          from = h.from;
          called = h.called;
          way = inr (⊎_elim (λ e. subst (λ x. Way (effects_at text) f i x) (sym (ap (λ x. x.function) e)) (directly c)) (λ w. way_from (effects_at text) f i id c w) h.way);
        }

    -- not both
    one_start : (f i id k : ℕ) → Reached f → call_at (effects_at text f) i ≡ Some id → is_within (opened_sites (t.calls f) (site_of f (suc i))) (t.globals g) ≡ true → Hot id k → ⊥
    one_start f i id k reached c h below =
        let own = starts_hot f i reached h in
        let j : below.instance ≡ own.instance = one_instance below.instance own.instance below.named own.named in
        let here : below.instance ≡ site_of f (suc i) = j ∙ at own h in
        ⊎_elim (λ e. no_round f i i (site_of f (suc i)) refl (subst (λ x. Way (effects_at text) f i x) (ap (λ x. x.function) (sym e ∙ here)) (directly c)))
        (λ w. no_round f i i below.instance here (way_from (effects_at text) f i id c w)) below.way
      where
        at : (own : Hot f i) → is_within (opened_sites (t.calls f) (site_of f (suc i))) (t.globals g) ≡ true → own.instance ≡ site_of f (suc i)
        at own h =
            let a = opened_one (t.calls f) (site_of f (suc i)) own.instance reached.0 (subst (λ x. is_within (opened_sites (t.calls f) (site_of f (suc i))) x ≡ true) own.named h) in sym a.is

    -- what the naming of a function says
    pub record Good (f : ℕ) (v : TextAccess) : Type 0 where
      pub own : v.own ≡ true → is_within (t.texts f) (t.globals g) ≡ true
      pub below : v.below ≤ 1
      pub hot : 1 ≤ v.below → (i : ℕ) × Hot f i

    -- the blocks that are open, each with the effect that opens it
    abbrev ScopeLaws : ℕ → ℕ → CallSites → List Bool → List CallSites → Type 0
    ScopeLaws f b here [] [] = here ≡ t.texts f
    ScopeLaws f b here [] (x ∷ xs) = ⊥
    ScopeLaws f b here (own ∷ owns) [] = ⊥
    ScopeLaws f b here (own ∷ owns) (x ∷ xs) =
        (o : ℕ) × (o < b) × (here ≡ opened_sites (t.calls f) (site_of f (suc o))) × (own ≡ true → is_within x (t.globals g) ≡ true) × ScopeLaws f o x owns xs

    -- an effect that opens none of them
    abbrev Apart : (f b : ℕ) (here : CallSites) (owns : List Bool) (round : List CallSites) → ScopeLaws f b here owns round → ℕ → Type 0
    Apart f b here [] [] fr k = Unit {0}
    Apart f b here [] (x ∷ xs) fr k = Unit {0}
    Apart f b here (own ∷ owns) [] fr k = Unit {0}
    Apart f b here (own ∷ owns) (x ∷ xs) fr k = (fr.0 ≢ k) × Apart f fr.0 x owns xs fr.4 k

    frames_up : (f b d : ℕ) (here : CallSites) (owns : List Bool) (round : List CallSites) → b ≤ d → ScopeLaws f b here owns round → ScopeLaws f d here owns round
    frames_up f b d here [] [] h fr = fr
    frames_up f b d here [] (x ∷ xs) h fr = fr
    frames_up f b d here (own ∷ owns) [] h fr = fr
    frames_up f b d here (own ∷ owns) (x ∷ xs) h fr = (fr.0, (let l = fr.1 in omega (arith, l, h)), fr.2, fr.3, fr.4)

    apart_up : (f b d : ℕ) (here : CallSites) (owns : List Bool) (round : List CallSites) (h : b ≤ d) (fr : ScopeLaws f b here owns round) (k : ℕ) → Apart f b here owns round fr k →
        Apart f d here owns round (frames_up f b d here owns round h fr) k
    unfolding frames_up
    apart_up f b d here [] [] h fr k a = tt
    apart_up f b d here [] (x ∷ xs) h fr k a = tt
    apart_up f b d here (own ∷ owns) [] h fr k a = tt
    apart_up f b d here (own ∷ owns) (x ∷ xs) h fr k a = a

    apart_above : (f b : ℕ) (here : CallSites) (owns : List Bool) (round : List CallSites) (fr : ScopeLaws f b here owns round) (k : ℕ) → b ≤ k → Apart f b here owns round fr k
    apart_above f b here [] [] fr k h = tt
    apart_above f b here [] (x ∷ xs) fr k h = tt
    apart_above f b here (own ∷ owns) [] fr k h = tt
    apart_above f b here (own ∷ owns) (x ∷ xs) fr k h =
        let l = fr.1 in (λ e. absurd (omega (arith, l, h, e)), apart_above f fr.0 x owns xs fr.4 k (omega (arith, l, h)))

    below_zero : (n : ℕ) → (1 ≤ n → ⊥) → n ≤ 0
    below_zero zero h = omega arith
    below_zero (suc n) h = absurd (h (omega arith))

    -- a body that is read up to its effect number p
    pub record Read (f p : ℕ) (r : AccessScan) (inside : InstanceView) : Type 0 where
      pub own : r.own ≡ true → is_within inside.here (t.globals g) ≡ true
      pub frames : ScopeLaws f p inside.here r.round inside.round
      pub below : r.below ≤ 1
      pub hot : 1 ≤ r.below → (k : ℕ) × Hot f k × (k < p) × Apart f p inside.here r.round inside.round frames k

    one_on : (p : ℕ) → p ≤ suc p
    one_on p = omega arith

    -- one effect more, by how many instances it adds
    record More (f p : ℕ) (r : AccessScan) (inside : InstanceView) (read : Read f p r inside) (n : ℕ) : Type 0 where
      below : n ≤ 1
      hot : 1 ≤ n → (k : ℕ) × Hot f k × (k < suc p) × Apart f (suc p) inside.here r.round inside.round (frames_up f p (suc p) inside.here r.round inside.round (one_on p) read.frames) k

    same_more : (f p : ℕ) (r : AccessScan) (inside : InstanceView) (read : Read f p r inside) → More f p r inside read r.below
    same_more f p r inside read =
        record {
          below = read.below;
          hot = λ h.
              let k = read.hot h in
              let l = k.2 in
              (k.0, k.1, (omega (arith, l)), apart_up f p (suc p) inside.here r.round inside.round (one_on p) read.frames k.0 k.3);
        }

    add_more : (f p : ℕ) (r : AccessScan) (inside : InstanceView) (read : Read f p r inside) (x : ℕ) → Reached f → x ≤ 1 → (1 ≤ x → Hot f p) → More f p r inside read (r.below + x)
    add_more f p r inside read zero reached s h =
        let e : r.below ≡ r.below + 0 = omega arith in subst (λ n. More f p r inside read n) e (same_more f p r inside read)
    add_more f p r inside read (suc x) reached s h =
        let here = h (omega arith) in
        let none : r.below ≤ 0 = below_zero r.below (λ l. let k = read.hot l in let low = k.2 in let e = hot_same f p k.0 reached here k.1 in absurd (omega (arith, low, e))) in
        record {
          below = omega (arith, none, s);
          hot = λ l. (
            p,
            here,
            (omega arith),
            apart_up f p (suc p) inside.here r.round inside.round (one_on p) read.frames p (apart_above f p inside.here r.round inside.round read.frames p (omega arith)),
          );
        }

    -- a call, with the naming of the function
    instances_of_start : (f p id : ℕ) (v : TextAccess) → Reached f → call_at (effects_at text f) p ≡ Some id → is_within (opened_sites (t.calls f) (site_of f (suc p))) (t.texts id) ≡ true → Good id v →
        (accessing_instances v ≤ 1) × (1 ≤ accessing_instances v → Hot f p)
    instances_of_start f p id v reached c h good = pick v.own refl
      where
        at : v.own ≡ true → is_within (opened_sites (t.calls f) (site_of f (suc p))) (t.globals g) ≡ true
        at e = within_trans (opened_sites (t.calls f) (site_of f (suc p))) (t.texts id) (t.globals g) h (good.own e)

        pick : (b : Bool) → v.own ≡ b → (cond v.own (suc v.below) v.below ≤ 1) × (1 ≤ cond v.own (suc v.below) v.below → Hot f p)
        pick true e =
            let none : v.below ≤ 0 = below_zero v.below (λ l. let k = good.hot l in one_start f p id k.0 reached c (at e) k.1) in
            rw e (omega (arith, none), λ l. starts_hot f p reached (at e))
        pick false e = rw e (good.below, λ l. let k = good.hot l in calls_hot f p id k.0 c k.1)

    or_either : (a b : Bool) → (a || b) ≡ true → (a ≡ true) ⊎ (b ≡ true)
    or_either true b h = inl refl
    or_either false b h = inr h

    abbrev at_site : ℕ → ℕ → CallSites
    at_site f p = opened_sites (t.calls f) (site_of f (suc p))

    -- no block begins or ends
    read_on : (f p : ℕ) (r : AccessScan) (own : Bool) (below : ℕ) (inside : InstanceView) (read : Read f p r inside) → (own ≡ true → is_within inside.here (t.globals g) ≡ true) → More f p r inside read below →
        Read f (suc p) (record { own = own; below = below; round = r.round }) inside
    read_on f p r own below inside read o m =
        record { own = o; frames = frames_up f p (suc p) inside.here r.round inside.round (one_on p) read.frames; below = m.below; hot = m.hot }

    low_on : (o p : ℕ) → o < p → o ≤ suc p
    low_on o p h = omega arith

    -- a block ends
    read_closed : (f p : ℕ) (own : Bool) (below : ℕ) (owns : List Bool) (here : CallSites) (xs : List CallSites) → Reached f →
        Read f p (record { own = own; below = below; round = owns }) (record { here = here; round = xs }) →
        Read f (suc p) (closed (record { own = own; below = below; round = owns }) owns) (view_after_block here xs)
    read_closed f p own below [] here [] reached read =
        read_on f p (record { own = own; below = below; round = [] }) own below (record { here = here; round = [] }) read read.own
        (same_more f p (record { own = own; below = below; round = [] }) (record { here = here; round = [] }) read)
    read_closed f p own below [] here (x ∷ xs) reached read = absurd read.frames
    read_closed f p own below (o ∷ owns) here [] reached read = absurd read.frames
    read_closed f p own below (o ∷ owns) here (x ∷ xs) reached read =
        let fr = read.frames in
        let up = frames_up f fr.0 (suc p) x owns xs (low_on fr.0 p fr.1) fr.4 in
        let m = more own refl in
        record { own = fr.3; frames = up; below = m.0; hot = m.1 }
      where
        more : (b : Bool) → own ≡ b →
            (below + cond own 1 0 ≤ 1) × (1 ≤ below + cond own 1 0 → (k : ℕ) × Hot f k × (k < suc p) × Apart f (suc p) x owns xs (frames_up f read.frames.0 (suc p) x owns xs (low_on read.frames.0 p read.frames.1) read.frames.4) k)
        more true e =
            let fr = read.frames in
            let low = fr.1 in
            let hot = starts_hot f fr.0 reached (subst (λ y. is_within y (t.globals g) ≡ true) fr.2 (read.own e)) in
            let none : below ≤ 0 = below_zero below (λ l. let k = read.hot l in absurd (k.3.0 (hot_same f fr.0 k.0 reached hot k.1))) in
            rw e (
              omega (arith, none),
              λ l. (
                fr.0,
                hot,
                (omega (arith, low)),
                apart_up f fr.0 (suc p) x owns xs (low_on fr.0 p fr.1) fr.4 fr.0 (apart_above f fr.0 x owns xs fr.4 fr.0 (omega arith)),
              ),
            )
        more false e =
            let fr = read.frames in
            let few = read.below in
            rw e (
              omega (arith, few),
              λ l. let k = read.hot (omega (arith, l)) in let low = k.2 in (k.0, k.1, (omega (arith, low)), apart_up f fr.0 (suc p) x owns xs (low_on fr.0 p fr.1) fr.4 k.0 k.3.1),
            )

    module _ (called : ℕ → TextAccess) (goods : (id : ℕ) → Reached id → Good id (called id)) where
      read_next : (f p : ℕ) (e : Effect) (r : AccessScan) (inside : InstanceView) → Reached f → Somewhere inside → ((s : ℕ) → callee_of e ≡ Some s → call_at (effects_at text f) p ≡ Some s) →
          Holds t e (at_site f p) inside → Read f p r inside → Read f (suc p) (scan_effect g called r e) (inside_after e (at_site f p) inside)
      read_next f p (effect.Accesses id) r inside reached some at h read =
          read_on f p r (r.own || (id == g)) r.below inside read
          (λ o. ⊎_elim read.own (λ e. subst (λ x. is_within inside.here (t.globals x) ≡ true) (eqb-true id g e) h) (or_either r.own (id == g) o)) (same_more f p r inside read)
      read_next f p (effect.Computes id) r inside reached some at h read = read_on f p r r.own r.below inside read read.own (same_more f p r inside read)
      read_next f p (effect.Runs id) r inside reached some at h read =
          let c = at id refl in
          let good = goods id (reached_on f p id reached c) in
          read_on f p r (r.own || (called id).own) (r.below + (called id).below) inside read
          (λ o. ⊎_elim read.own (λ e. within_trans inside.here (t.texts id) (t.globals g) h.1 (good.own e)) (or_either r.own (called id).own o))
          (add_more f p r inside read (called id).below reached good.below (λ l. let k = good.hot l in calls_hot f p id k.0 c k.1))
      read_next f p (effect.Starts id) r inside reached some at h read =
          let c = at id refl in
          let n = instances_of_start f p id (called id) reached c h.1 (goods id (reached_on f p id reached c)) in
          read_on f p r r.own (r.below + accessing_instances (called id)) inside read read.own (add_more f p r inside read (accessing_instances (called id)) reached n.0 n.1)
      read_next f p effect.Opens r inside reached some at h read =
          record {
            own = λ e. absurd (let q : false ≡ true = e in cc);
            frames = (p, (omega arith), refl, read.own, read.frames);
            below = read.below;
            hot = λ l. let k = read.hot l in let low = k.2 in (k.0, k.1, (omega (arith, low)), ((λ e. absurd (omega (arith, low, e))), k.3));
          }
      read_next f p effect.Closes r inside reached some at h read = read_closed f p r.own r.below r.round inside.here inside.round reached read

      here_is : (f p : ℕ) (here : CallSites) (owns : List Bool) (xs : List CallSites) → xs ≡ [] → ScopeLaws f p here owns xs → here ≡ t.texts f
      here_is f p here [] [] e fr = fr
      here_is f p here [] (x ∷ xs) e fr = absurd fr
      here_is f p here (own ∷ owns) [] e fr = absurd fr
      here_is f p here (own ∷ owns) (x ∷ xs) e fr = absurd (let q : x ∷ xs ≡ [] = e in cc)

      -- a whole body
      read_body : (f p : ℕ) (es : List Effect) (r : AccessScan) (inside : InstanceView) → Reached f → Somewhere inside → ((i s : ℕ) → call_at es i ≡ Some s → call_at (effects_at text f) (p + i) ≡ Some s) →
          HoldsEffects t f (suc p) inside es → Read f p r inside → Good f (as_access (scan_effects g called r es))
      read_body f p [] r inside reached some at h read =
          record {
            own = λ e. subst (λ y. is_within y (t.globals g) ≡ true) (here_is f p inside.here r.round inside.round h read.frames) (read.own e);
            below = read.below;
            hot = λ l. let k = read.hot l in (k.0, k.1);
          }
      read_body f p (e ∷ rest) r inside reached some at h read =
          let next = inside_after e (at_site f p) inside in
          let zero_on : p + 0 ≡ p = omega arith in
          read_body f (suc p) rest (scan_effect g called r e) next reached (somewhere_on e (at_site f p) inside (opened_some (t.calls f) (site_of f (suc p)) reached.0) some)
          (λ i s c. let on : p + suc i ≡ suc p + i = omega arith in subst (λ n. call_at (effects_at text f) n ≡ Some s) on (at (suc i) s c)) h.1
          (read_next f p e r inside reached some (λ s c. subst (λ n. call_at (effects_at text f) n ≡ Some s) zero_on (at 0 s c)) h.0 read)

    naming_is : (called : ℕ → TextAccess) (x : Option PlainFunction) → as_access (scan_effects g called scan_start (effects_in text x)) ≡ body_access text g called x
    naming_is called None = refl
    naming_is called (Some x) = ap as_access (effects_tell g called scan_start (in_function text x))

    all_good : (n f : ℕ) → Reached f → Good f (within no_access (access_step text g) n f)
    unfolding within
    all_good zero f reached =
        record { own = λ e. absurd (let q : false ≡ true = e in cc); below = omega arith; hot = λ l. absurd (omega arith) }
    all_good (suc n) f reached =
        let called = within no_access (access_step text g) n in
        subst (λ v. Good f v) (naming_is called (find_function f text))
        (read_body called (all_good n) f 0 (effects_at text f) scan_start (record { here = t.texts f; round = [] }) reached (reached.1, tt)
        (λ i s c. let on : i ≡ 0 + i = omega arith in subst (λ m. call_at (effects_at text f) m ≡ Some s) on c) (settled f reached.0)
        (record { own = λ e. absurd (let q : false ≡ true = e in cc); frames = refl; below = omega arith; hot = λ l. absurd (omega arith) }))

    start_is : (s : CallSite) → is_within (sites.One s) (t.globals g) ≡ true → t.globals g ≡ sites.One s
    start_is s h = pick (t.globals g) refl
      where
        pick : (x : CallSites) → t.globals g ≡ x → t.globals g ≡ sites.One s
        pick sites.None e = absurd (let q : is_within (sites.One s) sites.None ≡ true = subst (λ x. is_within (sites.One s) x ≡ true) e h in let z : false ≡ true = q in cc)
        pick (sites.One j) e =
            let same = same_is s j (subst (λ x. is_within (sites.One s) x ≡ true) e h) in e ∙ ap (λ x. let r : CallSites = sites.One x in r) (sym same)
        pick sites.Many e = absurd (few e)

    -- at most one instance names the global
    pub single : (first : ℕ) → is_within (start_site first) (t.calls first) ≡ true → is_within (start_site first) (t.texts first) ≡ true → nat_lt 1 (instances_of text g first) ≡ false
    single first calls texts =
        let root = site_of first 0 in
        let some = λ (e : sites.One root ≡ sites.None). let q : ⊥ = cc in q in
        let reached : Reached first = (within_some (sites.One root) (t.calls first) calls some, within_some (sites.One root) (t.texts first) texts some) in
        let v = within no_access (access_step text g) (length text) first in
        let good = all_good (length text) first reached in
        at_most v (pick v good)
      where
        at_most : (v : TextAccess) → accessing_instances v ≤ 1 → nat_lt 1 (accessing_instances v) ≡ false
        at_most v h = grind (arith, nat_tests)

        pick : (v : TextAccess) → Good first v → accessing_instances v ≤ 1
        pick v good = by v.own refl
          where
            none : v.own ≡ true → (i : ℕ) → Hot first i → ⊥
            none e i hot =
                let root = site_of first 0 in
                let named = start_is root (within_trans (sites.One root) (t.texts first) (t.globals g) texts (good.own e)) in
                let j : hot.instance ≡ root = one_instance hot.instance root hot.named named in
                ⊎_elim (λ d. let q : 0 ≡ suc i = ap (λ x. x.effect) (sym j ∙ d) in absurd (omega (arith, q)))
                (λ w. free first (subst (λ x. Leads (functions_called text) first x) (ap (λ x. x.function) j) (way_leads text w))) hot.way

            by : (b : Bool) → v.own ≡ b → cond v.own (suc v.below) v.below ≤ 1
            by true e = let n : v.below ≤ 0 = below_zero v.below (λ l. let k = good.hot l in none e k.0 k.1) in rw e (omega (arith, n))
            by false e = rw e good.below
