-- What follows a test, and a call after its arguments.
use Rattle.std.proofs.Common.{◌≡◌, ◌≢◌, ℕ, ◌+◌, ◌≤◌, ◌<◌, ℤ, pos, Bool, true, false, not, Result, Ok, Err, List, refl, ap, sym, subst, arith, SFits, of_z, w32, Vec, Global}
use Rattle.std.proofs.lemmas.Int.{ints}
use Rattle.forec_base.specs.Numbers.{is_zero, truth}
use Rattle.forec_kernel.specs.Values.{Value, Gives, Raises, more_units, value_then, Values, values_then, Flow, more_flow, flow_with}
use Rattle.running_texts.specs.declared.meter.Halt.{Halt}
use Rattle.running_texts.specs.declared.meter.Halt.TheVariants.{Over}
use Rattle.running_texts.specs.declared.functions.Ran.{Ran}
use Rattle.running_texts.specs.Metered.{IsMetered, value_kind, values_kind, flowing, value_units}
use Rattle.running_texts.proofs.MeteredLemmas.{is_zero_of, not_zero_of, more_metered, then_ok, then_err, test_ok, test_err, binds_value, adds_number, binds_values, binds_flow, adds_flow}

pub zero_of : (n : ℤ) → SFits w32 n → of_z w32 n ≡ 0 → n ≡ pos 0
zero_of n f e = omega (arith, ints)

pub nonzero_of : (n : ℤ) → (of_z w32 n ≡ 0 → ⊥) → n ≢ pos 0
nonzero_of n h e = h (ap (of_z w32) e)

-- a test was evaluated and its unit paid
abbrev pub AfterTest : ℕ → ℕ → Result ℤ Halt → Value → Type 0
AfterTest old mid r v = IsMetered value_kind old mid r (value_then v (λ x. Gives x 1))

free : (n : ℤ) (left : ℕ) → IsMetered value_kind left left (Ok n) (Gives n 0)
free n left = record { by = record { units = 0; is = refl; left = omega arith } }

least_more : (u : ℕ) (v : Value) → u ≤ value_units (more_units u v)
least_more u (Gives n w) = omega arith
least_more u (Raises place trap w) = omega arith

-- ---- and, or, choose

abbrev pub and_rest : Value → ℤ → Value
and_rest b x =
    elim (is_zero x) [
      | true ↦ Gives (pos 0) 1
      | false ↦ more_units 1 (value_then b (λ y. Gives (truth (not (is_zero y))) 0))
    ]

abbrev pub or_rest : Value → ℤ → Value
or_rest b x =
    elim (is_zero x) [
      | true ↦ more_units 1 (value_then b (λ y. Gives (truth (not (is_zero y))) 0))
      | false ↦ Gives (pos 1) 1
    ]

abbrev pub choose_rest : Value → Value → ℤ → Value
choose_rest a b x = elim (is_zero x) [ true ↦ more_units 1 b | false ↦ more_units 1 a ]

abbrev truth_of : Value → Value
truth_of b = value_then b (λ y. Gives (truth (not (is_zero y))) 0)

and_least : (b : Value) (x : ℤ) → 1 ≤ value_units (and_rest b x)
and_least b x = pick (is_zero x)
  where
    pick : (t : Bool) → 1 ≤ value_units (elim t [ true ↦ Gives (pos 0) 1 | false ↦ more_units 1 (truth_of b) ])
    pick true = omega arith
    pick false = least_more 1 (truth_of b)

or_least : (b : Value) (x : ℤ) → 1 ≤ value_units (or_rest b x)
or_least b x = pick (is_zero x)
  where
    pick : (t : Bool) → 1 ≤ value_units (elim t [ true ↦ more_units 1 (truth_of b) | false ↦ Gives (pos 1) 1 ])
    pick true = least_more 1 (truth_of b)
    pick false = omega arith

choose_least : (a b : Value) (x : ℤ) → 1 ≤ value_units (choose_rest a b x)
choose_least a b x = pick (is_zero x)
  where
    pick : (t : Bool) → 1 ≤ value_units (elim t [ true ↦ more_units 1 b | false ↦ more_units 1 a ])
    pick true = least_more 1 b
    pick false = least_more 1 a

pub and_zero : (old mid : ℕ) (n : ℤ) (v b : Value) → AfterTest old mid (Ok n) v → n ≡ pos 0 → IsMetered value_kind old mid (Ok (pos 0)) (value_then v (and_rest b))
and_zero old mid n v b m e =
    let go : and_rest b n ≡ Gives (pos 0) 1 = rw (is_zero_of n e, and_rest) in
    test_ok value_kind value_then more_units binds_value adds_number old mid mid n (Ok (pos 0)) v (and_rest b) (Gives (pos 0) 0) m go (free (pos 0) mid)

pub and_some : (old mid new : ℕ) (n : ℤ) (r : Result ℤ Halt) (v b : Value) (c : Value) → c ≡ b → AfterTest old mid (Ok n) v → n ≢ pos 0 →
    IsMetered value_kind mid new r (truth_of c) → IsMetered value_kind old new r (value_then v (and_rest b))
and_some old mid new n r v b c same m e s =
    let go : and_rest b n ≡ more_units 1 (truth_of b) = rw (not_zero_of n e, and_rest) in
    test_ok value_kind value_then more_units binds_value adds_number old mid new n r v (and_rest b) (truth_of b) m go
    (subst (λ x. IsMetered value_kind mid new r (truth_of x)) same s)

pub and_err : (old new : ℕ) (h : Halt) (v b : Value) → AfterTest old new (Err h) v → IsMetered value_kind old new (Err h) (value_then v (and_rest b))
and_err old new h v b m = test_err value_kind value_then more_units binds_value adds_number old new h v (and_rest b) (and_least b) m

pub or_some : (old mid : ℕ) (n : ℤ) (v b : Value) → AfterTest old mid (Ok n) v → n ≢ pos 0 → IsMetered value_kind old mid (Ok (pos 1)) (value_then v (or_rest b))
or_some old mid n v b m e =
    let go : or_rest b n ≡ Gives (pos 1) 1 = rw (not_zero_of n e, or_rest) in
    test_ok value_kind value_then more_units binds_value adds_number old mid mid n (Ok (pos 1)) v (or_rest b) (Gives (pos 1) 0) m go (free (pos 1) mid)

pub or_zero : (old mid new : ℕ) (n : ℤ) (r : Result ℤ Halt) (v b : Value) (c : Value) → c ≡ b → AfterTest old mid (Ok n) v → n ≡ pos 0 →
    IsMetered value_kind mid new r (truth_of c) → IsMetered value_kind old new r (value_then v (or_rest b))
or_zero old mid new n r v b c same m e s =
    let go : or_rest b n ≡ more_units 1 (truth_of b) = rw (is_zero_of n e, or_rest) in
    test_ok value_kind value_then more_units binds_value adds_number old mid new n r v (or_rest b) (truth_of b) m go
    (subst (λ x. IsMetered value_kind mid new r (truth_of x)) same s)

pub or_err : (old new : ℕ) (h : Halt) (v b : Value) → AfterTest old new (Err h) v → IsMetered value_kind old new (Err h) (value_then v (or_rest b))
or_err old new h v b m = test_err value_kind value_then more_units binds_value adds_number old new h v (or_rest b) (or_least b) m

pub choose_no : (old mid new : ℕ) (n : ℤ) (r : Result ℤ Halt) (v a b : Value) (c : Value) → c ≡ b → AfterTest old mid (Ok n) v → n ≡ pos 0 →
    IsMetered value_kind mid new r c → IsMetered value_kind old new r (value_then v (choose_rest a b))
choose_no old mid new n r v a b c same m e s =
    let go : choose_rest a b n ≡ more_units 1 b = rw (is_zero_of n e, choose_rest) in
    test_ok value_kind value_then more_units binds_value adds_number old mid new n r v (choose_rest a b) b m go
    (subst (λ x. IsMetered value_kind mid new r x) same s)

pub choose_yes : (old mid new : ℕ) (n : ℤ) (r : Result ℤ Halt) (v a b : Value) (c : Value) → c ≡ a → AfterTest old mid (Ok n) v → n ≢ pos 0 →
    IsMetered value_kind mid new r c → IsMetered value_kind old new r (value_then v (choose_rest a b))
choose_yes old mid new n r v a b c same m e s =
    let go : choose_rest a b n ≡ more_units 1 a = rw (not_zero_of n e, choose_rest) in
    test_ok value_kind value_then more_units binds_value adds_number old mid new n r v (choose_rest a b) a m go
    (subst (λ x. IsMetered value_kind mid new r x) same s)

pub choose_err : (old new : ℕ) (h : Halt) (v a b : Value) → AfterTest old new (Err h) v → IsMetered value_kind old new (Err h) (value_then v (choose_rest a b))
choose_err old new h v a b m =
    test_err value_kind value_then more_units binds_value adds_number old new h v (choose_rest a b) (choose_least a b) m

-- ---- a call

pub call_ok : (old mid paid new : ℕ) (ns : Vec ℤ Global) (args : List ℤ) (r : Result ℤ Halt) (v : Values) (go : List ℤ → Value) →
    IsMetered values_kind old mid (Ok ns) v → paid + 1 ≡ mid → args ≡ ns.items → IsMetered value_kind paid new r (go args) →
    IsMetered value_kind old new r (values_then v (λ xs. more_units 1 (go xs)))
call_ok old mid paid new ns args r v go m e same c =
    then_ok values_kind value_kind (λ v. v.items) values_then more_units binds_values adds_number old mid new ns r v (λ xs. more_units 1 (go xs)) m
    (more_metered value_kind more_units adds_number mid paid new 1 r (go ns.items) e (subst (λ xs. IsMetered value_kind paid new r (go xs)) same c))

pub call_over : (old mid new : ℕ) (ns : Vec ℤ Global) (h : Halt) (v : Values) (go : List ℤ → Value) →
    IsMetered values_kind old mid (Ok ns) v → (h ≡ Over) × (mid < 1) → IsMetered value_kind old new (Err h) (values_then v (λ xs. more_units 1 (go xs)))
call_over old mid new ns h v go m e =
    let least = least_more 1 (go ns.items) in
    let low = e.1 in
    let over : IsMetered value_kind mid new (Err Over) (more_units 1 (go ns.items)) = record { by = omega arith } in
    subst (λ k. IsMetered value_kind old new (Err k) (values_then v (λ xs. more_units 1 (go xs)))) (sym e.0)
    (then_ok values_kind value_kind (λ v. v.items) values_then more_units binds_values adds_number old mid new ns (Err Over) v (λ xs. more_units 1 (go xs)) m over)

pub call_err : (old new : ℕ) (h : Halt) (v : Values) (go : List ℤ → Value) → IsMetered values_kind old new (Err h) v → IsMetered value_kind old new (Err h) (values_then v go)
call_err old new h v go m = then_err values_kind value_kind (λ v. v.items) values_then more_units binds_values old new h v go m

-- ---- `if` in an int function

abbrev pub if_rest : Flow → Flow → ℤ → Flow
if_rest a b x = elim (is_zero x) [ true ↦ more_flow 1 b | false ↦ more_flow 1 a ]

flow_least_more : (u : ℕ) (f : Flow) → u ≤ flowing.units (more_flow u f)
flow_least_more u f = let e = adds_flow.units u f in omega arith

if_least : (a b : Flow) (x : ℤ) → 1 ≤ flowing.units (if_rest a b x)
if_least a b x = pick (is_zero x)
  where
    pick : (t : Bool) → 1 ≤ flowing.units (elim t [ true ↦ more_flow 1 b | false ↦ more_flow 1 a ])
    pick true = flow_least_more 1 b
    pick false = flow_least_more 1 a

pub if_no : (old mid new : ℕ) (n : ℤ) (r : Result Ran Halt) (v : Value) (a b : Flow) (c : Flow) → c ≡ b → AfterTest old mid (Ok n) v → n ≡ pos 0 →
    IsMetered flowing mid new r c → IsMetered flowing old new r (flow_with v (if_rest a b))
if_no old mid new n r v a b c same m e s =
    let go : if_rest a b n ≡ more_flow 1 b = rw (is_zero_of n e, if_rest) in
    test_ok flowing flow_with more_flow binds_flow adds_flow old mid new n r v (if_rest a b) b m go
    (subst (λ x. IsMetered flowing mid new r x) same s)

pub if_yes : (old mid new : ℕ) (n : ℤ) (r : Result Ran Halt) (v : Value) (a b : Flow) (c : Flow) → c ≡ a → AfterTest old mid (Ok n) v → n ≢ pos 0 →
    IsMetered flowing mid new r c → IsMetered flowing old new r (flow_with v (if_rest a b))
if_yes old mid new n r v a b c same m e s =
    let go : if_rest a b n ≡ more_flow 1 a = rw (not_zero_of n e, if_rest) in
    test_ok flowing flow_with more_flow binds_flow adds_flow old mid new n r v (if_rest a b) a m go
    (subst (λ x. IsMetered flowing mid new r x) same s)

pub if_err : (old new : ℕ) (h : Halt) (v : Value) (a b : Flow) → AfterTest old new (Err h) v → IsMetered flowing old new (Err h) (flow_with v (if_rest a b))
if_err old new h v a b m = test_err flowing flow_with more_flow binds_flow adds_flow old new h v (if_rest a b) (if_least a b) m
