-- Loops over a list of terms, and over the turns of a loop, as far as they have come.
use Rattle.std.proofs.Common.{◌≡◌, ◌≢◌, ◌∙◌, Bool, true, false, ℕ, zero, suc, ◌+◌, ◌-◌, ◌≤◌, ◌<◌, ℤ, pos, Result, Ok, Err, List, [], ◌∷◌, ◌++◌, append_assoc, length, drop, get_or, refl, ap, sym, subst, add-one, arith, Vec, Global, append-nil}
use Rattle.forec_base.specs.declared.Place.{Place}
use Rattle.forec_kernel.specs.Terms.{more_exprs, more_stmts}
use Rattle.forec_kernel.specs.Plain.{expr, exprs, stmt, stmts}
use Rattle.forec_kernel.specs.declared.terms.Expression.{Expression}
use Rattle.forec_kernel.specs.declared.terms.Statement.{Statement}
use Rattle.forec_kernel.specs.Values.{Value, Gives, Raises, Values, AllGive, OneRaises, one_more, first_then, Setting, Flow, Goes, Returns, Breaks, more_flow, flow_then, flow_with, flow, flows, turns}
use Rattle.running_texts.specs.declared.meter.Halt.{Halt}
use Rattle.running_texts.specs.declared.meter.Halt.TheVariants.{Trapped, Over, OutOfMemory}
use Rattle.running_texts.specs.declared.functions.Ran.{Ran}
use Rattle.running_texts.specs.declared.functions.Ran.TheVariants as ran
use Rattle.running_texts.specs.Metered.{IsMetered, value_kind, values_kind, flowing, value_units, values_units}
use Rattle.running_texts.proofs.MeteredLemmas.{more_metered, adds_flow, binds_flow, test_ok, test_err, tested_gives, is_zero_of, not_zero_of}
use Rattle.running_texts.proofs.Tests.{AfterTest}
use Rattle.forec_base.specs.Numbers.{is_zero}
use Rattle.forec_base.specs.declared.Trap.TheVariants.{Turns}

pub exprs_next : (xs : List Expression) (i : ℕ) (x : Expression) → i < length xs → x ≡ get_or xs i x → exprs (drop i xs) ≡ more_exprs (expr x) (exprs (drop (i + 1) xs))
exprs_next xs i x h read = rw add-one (at xs i x h ∙ ap (λ y. more_exprs (expr y) (exprs (drop (suc i) xs))) (sym read))
  where
    at : (xs : List Expression) (i : ℕ) (d : Expression) → i < length xs → exprs (drop i xs) ≡ more_exprs (expr (get_or xs i d)) (exprs (drop (suc i) xs))
    at [] i d h = absurd (omega arith)
    at (x ∷ xs) zero d h = refl
    at (x ∷ xs) (suc i) d h = at xs i d (omega arith)

pub exprs_none : (xs : List Expression) (i : ℕ) → length xs ≤ i → drop i xs ≡ []
exprs_none [] zero h = refl
exprs_none [] (suc i) h = refl
exprs_none (x ∷ xs) zero h = absurd (omega arith)
exprs_none (x ∷ xs) (suc i) h = exprs_none xs i (omega arith)

pub stmts_next : (xs : List Statement) (i : ℕ) (x : Statement) → i < length xs → x ≡ get_or xs i x → stmts (drop i xs) ≡ more_stmts (stmt x) (stmts (drop (i + 1) xs))
stmts_next xs i x h read = rw add-one (at xs i x h ∙ ap (λ y. more_stmts (stmt y) (stmts (drop (suc i) xs))) (sym read))
  where
    at : (xs : List Statement) (i : ℕ) (d : Statement) → i < length xs → stmts (drop i xs) ≡ more_stmts (stmt (get_or xs i d)) (stmts (drop (suc i) xs))
    at [] i d h = absurd (omega arith)
    at (x ∷ xs) zero d h = refl
    at (x ∷ xs) (suc i) d h = at xs i d (omega arith)

pub stmts_none : (xs : List Statement) (i : ℕ) → length xs ≤ i → drop i xs ≡ []
stmts_none [] zero h = refl
stmts_none [] (suc i) h = refl
stmts_none (x ∷ xs) zero h = absurd (omega arith)
stmts_none (x ∷ xs) (suc i) h = stmts_none xs i (omega arith)

-- ---- numbers so far

abbrev pub after_numbers : List ℤ → ℕ → Values → Values
after_numbers ns u (AllGive ms w) = AllGive (ns ++ ms) (u + w)
after_numbers ns u (OneRaises place trap w) = OneRaises place trap (u + w)

pub record NumbersSoFar (old now : ℕ) (ns : List ℤ) (whole rest : Values) : Type 0 where
  pub units : ℕ
  pub is : whole ≡ after_numbers ns units rest
  pub left : now + units ≡ old

after_none : (v : Values) → v ≡ after_numbers [] 0 v
after_none (AllGive ms w) = ap (AllGive ms) (omega arith)
after_none (OneRaises place trap w) = ap (OneRaises place trap) (omega arith)

pub no_numbers : (old : ℕ) (ns : List ℤ) (v : Values) → ns ≡ [] → NumbersSoFar old old ns v v
no_numbers old ns v e = record { units = 0; is = after_none v ∙ ap (λ n. after_numbers n 0 v) (sym e); left = omega arith }

after_more : (ns : List ℤ) (u n : ℕ) (x : ℤ) (v : Values) → after_numbers ns u (one_more x n v) ≡ after_numbers (ns ++ x ∷ []) (u + n) v
after_more ns u n x (AllGive ms w) =
    ap (λ l. AllGive l (u + (n + w))) (sym (append_assoc ns (x ∷ []) ms)) ∙ ap (AllGive ((ns ++ x ∷ []) ++ ms)) (omega arith)
after_more ns u n x (OneRaises place trap w) = ap (OneRaises place trap) (omega arith)

pub numbers_more : (old mid new : ℕ) (ns more : List ℤ) (whole rest : Values) (v : Value) (x : ℤ) → NumbersSoFar old mid ns whole (first_then v rest) →
    IsMetered value_kind mid new (Ok x) v → more ≡ ns ++ x ∷ [] → NumbersSoFar old new more whole rest
numbers_more old mid new ns more whole rest v x s m e =
    record {
      units = s.units + m.by.units;
      is = s.is ∙ ap (λ y. after_numbers ns s.units (first_then y rest)) m.by.is ∙ after_more ns s.units m.by.units x rest
          ∙ ap (λ l. after_numbers l (s.units + m.by.units) rest) (sym e);
      left = let a = s.left in let b = m.by.left in omega arith;
    }

after_least : (ns : List ℤ) (u : ℕ) (v : Value) (rest : Values) → u + value_units v ≤ values_units (after_numbers ns u (first_then v rest))
after_least ns u (Gives n w) (AllGive ms x) = omega arith
after_least ns u (Gives n w) (OneRaises place trap x) = omega arith
after_least ns u (Raises place trap w) rest = omega arith

pub numbers_stop : (old mid new : ℕ) (ns : List ℤ) (whole rest : Values) (v : Value) (h : Halt) → NumbersSoFar old mid ns whole (first_then v rest) →
    IsMetered value_kind mid new (Err h) v → IsMetered values_kind old new (Err h) whole
numbers_stop old mid new ns whole rest v (Trapped place trap) s m =
    record {
      by = record {
        units = s.units + m.by.units;
        is = s.is ∙ ap (λ y. after_numbers ns s.units (first_then y rest)) m.by.is;
        left = let a = s.left in let b = m.by.left in omega arith;
      };
    }
numbers_stop old mid new ns whole rest v Over s m =
    let h = m.by in let l = s.left in
    let e : values_units whole ≡ values_units (after_numbers ns s.units (first_then v rest)) = ap values_units s.is in
    record { by = omega (arith, after_least ns s.units v rest) }
numbers_stop old mid new ns whole rest v OutOfMemory s m = record { by = tt }

pub numbers_end : (old now : ℕ) (v : Vec ℤ Global) (whole rest : Values) → NumbersSoFar old now v.items whole rest → rest ≡ AllGive [] 0 →
    IsMetered values_kind old now (Ok v) whole
numbers_end old now v whole rest s e =
    record {
      by = record {
        units = s.units;
        is = s.is ∙ ap (after_numbers v.items s.units) e ∙ ap (λ l. AllGive l (s.units + 0)) (append-nil v.items) ∙ ap (AllGive v.items) (omega arith);
        left = s.left;
      };
    }

pub numbers_same : (old now : ℕ) (ns : List ℤ) (whole a b : Values) → NumbersSoFar old now ns whole a → a ≡ b → NumbersSoFar old now ns whole b
numbers_same old now ns whole a b s e = record { units = s.units; is = s.is ∙ ap (after_numbers ns s.units) e; left = s.left }

-- ---- statements so far

pub record FlowSoFar (old now : ℕ) (whole rest : Flow) : Type 0 where
  pub units : ℕ
  pub is : whole ≡ more_flow units rest
  pub left : now + units ≡ old

no_more : (f : Flow) → f ≡ more_flow 0 f
no_more (Goes words w) = ap (Goes words) (omega arith)
no_more (Returns n w) = ap (Returns n) (omega arith)
no_more (Breaks place trap w) = ap (Breaks place trap) (omega arith)

pub flow_begins : (old : ℕ) (f g : Flow) → f ≡ g → FlowSoFar old old f g
flow_begins old f g e = record { units = 0; is = e ∙ no_more g; left = omega arith }

more_twice : (u w : ℕ) (f : Flow) → more_flow u (more_flow w f) ≡ more_flow (u + w) f
more_twice u w (Goes words x) = ap (Goes words) (omega arith)
more_twice u w (Returns n x) = ap (Returns n) (omega arith)
more_twice u w (Breaks place trap x) = ap (Breaks place trap) (omega arith)

pub flow_more : (old mid new u : ℕ) (whole rest now : Flow) → FlowSoFar old mid whole now → now ≡ more_flow u rest → new + u ≡ mid → FlowSoFar old new whole rest
flow_more old mid new u whole rest now s e l =
    record {
      units = s.units + u;
      is = s.is ∙ ap (more_flow s.units) e ∙ more_twice s.units u rest;
      left = let a = s.left in omega arith;
    }

pub flow_ends : (old mid new : ℕ) (whole rest : Flow) (r : Result Ran Halt) → FlowSoFar old mid whole rest → IsMetered flowing mid new r rest →
    IsMetered flowing old new r whole
flow_ends old mid new whole rest r s m =
    subst (λ f. IsMetered flowing old new r f) (sym s.is) (more_metered flowing more_flow adds_flow old mid new s.units r rest s.left m)

pub flow_same : (old now : ℕ) (whole a b : Flow) → FlowSoFar old now whole a → a ≡ b → FlowSoFar old now whole b
flow_same old now whole a b s e = record { units = s.units; is = s.is ∙ ap (more_flow s.units) e; left = s.left }

then_least : (f : Flow) (go : List ℤ → Flow) → flowing.units f ≤ flowing.units (flow_then f go)
then_least (Goes words u) go = let e = adds_flow.units u (go words) in omega arith
then_least (Returns n u) go = omega arith
then_least (Breaks place trap u) go = omega arith

pub flow_goes : (old mid new : ℕ) (whole f : Flow) (go : List ℤ → Flow) (w : Vec ℤ Global) → FlowSoFar old mid whole (flow_then f go) →
    IsMetered flowing mid new (Ok (ran.Continues w)) f → FlowSoFar old new whole (go w.items)
flow_goes old mid new whole f go w s m =
    flow_more old mid new m.by.units whole (go w.items) (flow_then f go) s (ap (λ x. flow_then x go) m.by.is) m.by.left

pub flow_returns : (old mid new : ℕ) (whole f : Flow) (go : List ℤ → Flow) (n : ℤ) → FlowSoFar old mid whole (flow_then f go) →
    IsMetered flowing mid new (Ok (ran.Returns n)) f → IsMetered flowing old new (Ok (ran.Returns n)) whole
flow_returns old mid new whole f go n s m =
    flow_ends old mid new whole (flow_then f go) (Ok (ran.Returns n)) s
    (record { by = record { units = m.by.units; is = ap (λ x. flow_then x go) m.by.is; left = m.by.left } })

pub flow_stops : (old mid new : ℕ) (whole f : Flow) (go : List ℤ → Flow) (h : Halt) → FlowSoFar old mid whole (flow_then f go) →
    IsMetered flowing mid new (Err h) f → IsMetered flowing old new (Err h) whole
flow_stops old mid new whole f go (Trapped place trap) s m =
    flow_ends old mid new whole (flow_then f go) (Err (Trapped place trap)) s
    (record { by = record { units = m.by.units; is = ap (λ x. flow_then x go) m.by.is; left = m.by.left } })
flow_stops old mid new whole f go Over s m =
    let h = m.by in
    flow_ends old mid new whole (flow_then f go) (Err Over) s (record { by = omega (arith, then_least f go) })
flow_stops old mid new whole f go OutOfMemory s m = record { by = tt }

pub flows_next : (s : Setting) (xs : List Statement) (i : ℕ) (x : Statement) (words : List ℤ) → i < length xs → x ≡ get_or xs i x →
    flows s (stmts (drop i xs)) words ≡ flow_then (flow s (stmt x) words) (flows s (stmts (drop (i + 1) xs)))
flows_next s xs i x words h read = ap (λ y. flows s y words) (stmts_next xs i x h read)

-- ---- the turns of a loop

module _ (test : List ℤ → Value) (body : List ℤ → Flow) (place : Place) where
  abbrev turn_rest : ℕ → List ℤ → ℤ → Flow
  turn_rest zero words x = elim (is_zero x) [ true ↦ Goes words 1 | false ↦ Breaks place Turns 1 ]
  turn_rest (suc m) words x =
      elim (is_zero x) [ true ↦ Goes words 1 | false ↦ more_flow 1 (flow_then (body words) (λ w. turns m test body place w)) ]

  turns_are : (m : ℕ) (words : List ℤ) → turns m test body place words ≡ flow_with (test words) (turn_rest m words)
  turns_are zero words = refl
  turns_are (suc m) words = refl

  rest_zero : (m : ℕ) (words : List ℤ) (n : ℤ) → n ≡ pos 0 → turn_rest m words n ≡ more_flow 1 (Goes words 0)
  rest_zero zero words n e = rw (is_zero_of n e, turn_rest)
  rest_zero (suc m) words n e = rw (is_zero_of n e, turn_rest)

  rest_least : (m : ℕ) (words : List ℤ) (x : ℤ) → 1 ≤ flowing.units (turn_rest m words x)
  rest_least zero words x = pick (is_zero x)
    where
      pick : (t : Bool) → 1 ≤ flowing.units (elim t [ true ↦ Goes words 1 | false ↦ Breaks place Turns 1 ])
      pick true = omega arith
      pick false = omega arith
  rest_least (suc m) words x = pick (is_zero x)
    where
      pick : (t : Bool) → 1 ≤ flowing.units (elim t [ true ↦ Goes words 1 | false ↦ more_flow 1 (flow_then (body words) (λ w. turns m test body place w)) ])
      pick true = omega arith
      pick false = let e = adds_flow.units 1 (flow_then (body words) (λ w. turns m test body place w)) in omega arith

  pub turns_end : (old mid new m : ℕ) (whole : Flow) (n : ℤ) (words : Vec ℤ Global) → FlowSoFar old mid whole (turns m test body place words.items) →
      AfterTest mid new (Ok n) (test words.items) → n ≡ pos 0 → IsMetered flowing old new (Ok (ran.Continues words)) whole
  turns_end old mid new m whole n words s t e =
      let here : IsMetered flowing new new (Ok (ran.Continues words)) (Goes words.items 0) =
      record { by = record { units = 0; is = refl; left = omega arith } } in
      flow_ends old mid new whole (flow_with (test words.items) (turn_rest m words.items)) (Ok (ran.Continues words))
      (flow_same old mid whole _ _ s (turns_are m words.items))
      (test_ok flowing flow_with more_flow binds_flow adds_flow mid new new n (Ok (ran.Continues words)) (test words.items) (turn_rest m words.items)
      (Goes words.items 0) t (rest_zero m words.items n e) here)

  pub turns_trap : (old mid new m : ℕ) (whole : Flow) (n : ℤ) (words : List ℤ) → FlowSoFar old mid whole (turns m test body place words) →
      AfterTest mid new (Ok n) (test words) → n ≢ pos 0 → m ≡ 0 → IsMetered flowing old new (Err (Trapped place Turns)) whole
  turns_trap old mid new (suc m) whole n words s t e z = absurd (omega arith)
  turns_trap old mid new zero whole n words s t e z =
      let here : IsMetered flowing new new (Err (Trapped place Turns)) (Breaks place Turns 0) =
      record { by = record { units = 0; is = refl; left = omega arith } } in
      let go : turn_rest zero words n ≡ more_flow 1 (Breaks place Turns 0) = rw (not_zero_of n e, turn_rest) in
      flow_ends old mid new whole (flow_with (test words) (turn_rest zero words)) (Err (Trapped place Turns)) s
      (test_ok flowing flow_with more_flow binds_flow adds_flow mid new new n (Err (Trapped place Turns)) (test words) (turn_rest zero words)
      (Breaks place Turns 0) t go here)

  pub turns_err : (old mid new m : ℕ) (whole : Flow) (h : Halt) (words : List ℤ) → FlowSoFar old mid whole (turns m test body place words) →
      AfterTest mid new (Err h) (test words) → IsMetered flowing old new (Err h) whole
  turns_err old mid new m whole h words s t =
      flow_ends old mid new whole (flow_with (test words) (turn_rest m words)) (Err h) (flow_same old mid whole _ _ s (turns_are m words))
      (test_err flowing flow_with more_flow binds_flow adds_flow mid new h (test words) (turn_rest m words) (rest_least m words) t)

  pub turns_turn : (old mid new m : ℕ) (whole : Flow) (n : ℤ) (words : List ℤ) → FlowSoFar old mid whole (turns m test body place words) →
      AfterTest mid new (Ok n) (test words) → n ≢ pos 0 → 0 < m →
      FlowSoFar old new whole (flow_then (body words) (λ w. turns (m - 1) test body place w))
  turns_turn old mid new zero whole n words s t e z = absurd (omega arith)
  turns_turn old mid new (suc m) whole n words s t e z =
      let given = tested_gives mid new n (test words) t in
      let less : suc m - 1 ≡ m = omega arith in
      let go : turn_rest (suc m) words n ≡ more_flow 1 (flow_then (body words) (λ w. turns m test body place w)) = rw (not_zero_of n e, turn_rest) in
      let all = ap (λ v. flow_with v (turn_rest (suc m) words)) given.is ∙ ap (more_flow given.units) go
      ∙ more_twice given.units 1 (flow_then (body words) (λ w. turns m test body place w)) in
      subst (λ j. FlowSoFar old new whole (flow_then (body words) (λ w. turns j test body place w))) (sym less)
      (flow_more old mid new (given.units + 1) whole (flow_then (body words) (λ w. turns m test body place w))
      (flow_with (test words) (turn_rest (suc m) words)) s all (let l = given.left in omega arith))
