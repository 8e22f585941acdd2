-- Computations one after the other under one allowance.
use Rattle.std.proofs.Common.{◌≡◌, ◌≢◌, ◌∙◌, ℕ, zero, suc, ◌+◌, ◌≤◌, ◌<◌, ℤ, pos, negsuc, true, false, Result, Ok, Err, List, refl, ap, sym, subst, arith}
use Rattle.forec_base.specs.Numbers.{is_zero}
use Rattle.forec_base.specs.declared.Place.{Place}
use Rattle.forec_base.specs.declared.Trap.{Trap}
use Rattle.forec_kernel.specs.Values.{Value, Gives, Raises, more_units, value_then, Values, AllGive, OneRaises, values_then, Flow, Goes, Returns, Breaks, more_flow, flow_with}
use Rattle.running_texts.specs.declared.meter.Halt.{Halt}
use Rattle.running_texts.specs.declared.meter.Halt.TheVariants.{Trapped, Over, OutOfMemory}
use Rattle.running_texts.specs.declared.functions.Ran.{Ran}
use Rattle.running_texts.specs.declared.functions.Ran.TheVariants as ran
use Rattle.running_texts.specs.Metered.{ResultKind, IsMetered, value_kind, values_kind, flowing, value_units}

pub is_zero_of : (x : ℤ) → x ≡ pos 0 → is_zero x ≡ true
is_zero_of x e = ap is_zero e

pub not_zero_of : (x : ℤ) → x ≢ pos 0 → is_zero x ≡ false
not_zero_of (pos zero) h = absurd (h refl)
not_zero_of (pos (suc n)) h = refl
not_zero_of (negsuc n) h = refl

-- units may be added to a result
pub record Adds {Y W : Type 0} (b : ResultKind Y W) (more : ℕ → W → W) : Type 0 where
  pub gives : (u w : ℕ) (y : Y) → more u (b.gives y w) ≡ b.gives y (u + w)
  pub stops : (u w : ℕ) (place : Place) (trap : Trap) → more u (b.stops place trap w) ≡ b.stops place trap (u + w)
  pub units : (u : ℕ) (w : W) → b.units (more u w) ≡ u + b.units w

-- a computation goes on with what another gives
pub record Binds {X P V Y W : Type 0} (a : ResultKind X V) (b : ResultKind Y W) (plain : X → P) (bind : V → (P → W) → W) (more : ℕ → W → W) : Type 0 where
  pub gives : (x : X) (u : ℕ) (go : P → W) → bind (a.gives x u) go ≡ more u (go (plain x))
  pub stops : (place : Place) (trap : Trap) (u : ℕ) (go : P → W) → bind (a.stops place trap u) go ≡ b.stops place trap u
  pub least : (v : V) (go : P → W) → a.units v ≤ b.units (bind v go)

pub more_metered : {Y W : Type 0} (b : ResultKind Y W) (more : ℕ → W → W) → Adds b more → (old mid new u : ℕ) (r : Result Y Halt) (w : W) →
    mid + u ≡ old → IsMetered b mid new r w → IsMetered b old new r (more u w)
more_metered b more adds old mid new u (Ok y) w e m =
    record { by = record { units = u + m.by.units; is = ap (more u) m.by.is ∙ adds.gives u m.by.units y; left = let l = m.by.left in omega arith } }
more_metered b more adds old mid new u (Err (Trapped place trap)) w e m =
    record {
      by = record { units = u + m.by.units; is = ap (more u) m.by.is ∙ adds.stops u m.by.units place trap; left = let l = m.by.left in omega arith };
    }
more_metered b more adds old mid new u (Err Over) w e m = record { by = let h = m.by in omega (arith, adds.units u w) }
more_metered b more adds old mid new u (Err OutOfMemory) w e m = record { by = tt }

pub then_ok : {X P V Y W : Type 0} (a : ResultKind X V) (b : ResultKind Y W) (plain : X → P) (bind : V → (P → W) → W) (more : ℕ → W → W) →
    Binds a b plain bind more → Adds b more → (old mid new : ℕ) (x : X) (r : Result Y Halt) (v : V) (go : P → W) →
    IsMetered a old mid (Ok x) v → IsMetered b mid new r (go (plain x)) → IsMetered b old new r (bind v go)
then_ok a b plain bind more binds adds old mid new x r v go m n =
    subst (λ w. IsMetered b old new r w) (sym (binds.gives x m.by.units go) ∙ ap (λ w. bind w go) (sym m.by.is))
    (more_metered b more adds old mid new m.by.units r (go (plain x)) m.by.left n)

pub then_err : {X P V Y W : Type 0} (a : ResultKind X V) (b : ResultKind Y W) (plain : X → P) (bind : V → (P → W) → W) (more : ℕ → W → W) →
    Binds a b plain bind more → (old new : ℕ) (h : Halt) (v : V) (go : P → W) → IsMetered a old new (Err h) v → IsMetered b old new (Err h) (bind v go)
then_err a b plain bind more binds old new (Trapped place trap) v go m =
    record {
      by = record { units = m.by.units; is = ap (λ w. bind w go) m.by.is ∙ binds.stops place trap m.by.units go; left = m.by.left };
    }
then_err a b plain bind more binds old new Over v go m = record { by = let h = m.by in omega (arith, binds.least v go) }
then_err a b plain bind more binds old new OutOfMemory v go m = record { by = tt }

-- ---- after a test, which costs a unit more

pub record Tested (old mid : ℕ) (x : ℤ) (v : Value) : Type 0 where
  pub units : ℕ
  pub is : v ≡ Gives x units
  pub left : mid + 1 + units ≡ old

pub tested_gives : (old mid : ℕ) (x : ℤ) (v : Value) → IsMetered value_kind old mid (Ok x) (value_then v (λ x. Gives x 1)) → Tested old mid x v
tested_gives old mid x (Gives n u) m =
    let same : Gives n (u + 1) ≡ Gives x m.by.units = m.by.is in
    let number_same : n ≡ x = cc in
    let units_same : u + 1 ≡ m.by.units = cc in
    let l = m.by.left in
    record { units = u; is = ap (λ k. Gives k u) number_same; left = omega arith }
tested_gives old mid x (Raises place trap u) m = let e : Raises place trap u ≡ Gives x m.by.units = m.by.is in absurd (cc)

pub test_ok : {Y W : Type 0} (b : ResultKind Y W) (bind : Value → (ℤ → W) → W) (more : ℕ → W → W) →
    Binds value_kind b (λ x. x) bind more → Adds b more → (old mid new : ℕ) (x : ℤ) (r : Result Y Halt) (v : Value) (go : ℤ → W) (w : W) →
    IsMetered value_kind old mid (Ok x) (value_then v (λ x. Gives x 1)) → go x ≡ more 1 w → IsMetered b mid new r w → IsMetered b old new r (bind v go)
test_ok b bind more binds adds old mid new x r v go w m e n =
    let t = tested_gives old mid x v m in
    subst (λ y. IsMetered b old new r y)
    (ap (more t.units) (sym e) ∙ sym (binds.gives x t.units go) ∙ ap (λ y. bind y go) (sym t.is))
    (more_metered b more adds old (mid + 1) new t.units r (more 1 w) t.left (more_metered b more adds (mid + 1) mid new 1 r w refl n))

pub test_err : {Y W : Type 0} (b : ResultKind Y W) (bind : Value → (ℤ → W) → W) (more : ℕ → W → W) →
    Binds value_kind b (λ x. x) bind more → Adds b more → (old new : ℕ) (h : Halt) (v : Value) (go : ℤ → W) → ((x : ℤ) → 1 ≤ b.units (go x)) →
    IsMetered value_kind old new (Err h) (value_then v (λ x. Gives x 1)) → IsMetered b old new (Err h) (bind v go)
test_err b bind more binds adds old new (Trapped place trap) (Gives n u) go least m =
    let e : Gives n (u + 1) ≡ Raises place trap m.by.units = m.by.is in absurd (cc)
test_err b bind more binds adds old new (Trapped place trap) (Raises p t u) go least m =
    then_err value_kind b (λ x. x) bind more binds old new (Trapped place trap) (Raises p t u) go
    (record { by = record { units = m.by.units; is = m.by.is; left = m.by.left } })
test_err b bind more binds adds old new Over (Gives n u) go least m =
    let h : old < u + 1 = m.by in
    let whole = ap b.units (binds.gives n u go) ∙ adds.units u (go n) in
    record { by = omega (arith, least n) }
test_err b bind more binds adds old new Over (Raises p t u) go least m =
    let h : old < u = m.by in record { by = omega (arith, binds.least (Raises p t u) go) }
test_err b bind more binds adds old new OutOfMemory v go least m = record { by = tt }

-- ---- the kinds

value_more : (u : ℕ) (w : Value) → value_units (more_units u w) ≡ u + value_units w
value_more u (Gives n w) = refl
value_more u (Raises place trap w) = refl

pub adds_number : Adds value_kind more_units
adds_number = record { gives = λ u w y. refl; stops = λ u w p t. refl; units = value_more }

flow_more : (u : ℕ) (w : Flow) → flowing.units (more_flow u w) ≡ u + flowing.units w
flow_more u (Goes words w) = refl
flow_more u (Returns n w) = refl
flow_more u (Breaks place trap w) = refl

flow_gives : (u w : ℕ) (y : Ran) → more_flow u (flowing.gives y w) ≡ flowing.gives y (u + w)
flow_gives u w (ran.Continues words) = refl
flow_gives u w (ran.Returns n) = refl

pub adds_flow : Adds flowing more_flow
adds_flow = record { gives = flow_gives; stops = λ u w p t. refl; units = flow_more }

value_least : (v : Value) (go : ℤ → Value) → value_units v ≤ value_units (value_then v go)
value_least (Gives n u) go = let e = value_more u (go n) in omega arith
value_least (Raises place trap u) go = omega arith

pub binds_value : Binds value_kind value_kind (λ x. x) value_then more_units
binds_value = record { gives = λ x u go. refl; stops = λ p t u go. refl; least = value_least }

values_least : (v : Values) (go : List ℤ → Value) → values_kind.units v ≤ value_units (values_then v go)
values_least (AllGive ns u) go = let e = value_more u (go ns) in omega arith
values_least (OneRaises place trap u) go = omega arith

pub binds_values : Binds values_kind value_kind (λ v. v.items) values_then more_units
binds_values = record { gives = λ x u go. refl; stops = λ p t u go. refl; least = values_least }

flow_least : (v : Value) (go : ℤ → Flow) → value_units v ≤ flowing.units (flow_with v go)
flow_least (Gives n u) go = let e = flow_more u (go n) in omega arith
flow_least (Raises place trap u) go = omega arith

pub binds_flow : Binds value_kind flowing (λ x. x) flow_with more_flow
binds_flow = record { gives = λ x u go. refl; stops = λ p t u go. refl; least = flow_least }
