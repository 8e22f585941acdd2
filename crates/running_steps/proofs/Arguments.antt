-- The arguments of branches, as far as they have been evaluated.
use Rattle.std.proofs.Common.{◌≡◌, ◌∙◌, ℕ, ◌+◌, ◌≤◌, ◌<◌, ℤ, Ok, Err, List, [], ◌∷◌, ◌++◌, append_assoc, length, drop, get_or, refl, ap, sym, arith, map, Vec, Global}
use Rattle.forec_kernel.specs.Plain.{exprs, branch}
use Rattle.forec_kernel.specs.declared.terms.Launch.{Launch}
use Rattle.running_texts.proofs.Kernels.{drop_next}
use Rattle.forec_kernel.specs.Values.{Values, AllGive, OneRaises, Setting, Sight, vals}
use Rattle.forec_kernel.specs.Steps.{Arguments, Ready, Refused, one_more_list, arguments_then, arguments}
use Rattle.running_texts.specs.declared.meter.Halt.{Halt}
use Rattle.running_texts.specs.declared.meter.Halt.TheVariants.{Trapped, Over, OutOfMemory}
use Rattle.running_texts.specs.Metered.{IsMetered, values_kind, values_units}
use Rattle.running_steps.specs.Moving.{lists, lists_units}

-- ---- lists so far

abbrev pub after_lists : List (List ℤ) → ℕ → Arguments → Arguments
after_lists ns u (Ready ms w) = Ready (ns ++ ms) (u + w)
after_lists ns u (Refused place trap w) = Refused place trap (u + w)

pub record ListsSoFar (old now : ℕ) (ns : List (List ℤ)) (whole rest : Arguments) : Type 0 where
  pub units : ℕ
  pub is : whole ≡ after_lists ns units rest
  pub left : now + units ≡ old

lists_none : (v : Arguments) → v ≡ after_lists [] 0 v
lists_none (Ready ms w) = ap (Ready ms) (omega arith)
lists_none (Refused place trap w) = ap (Refused place trap) (omega arith)

pub no_lists : (old : ℕ) (ns : List (List ℤ)) (v : Arguments) → ns ≡ [] → ListsSoFar old old ns v v
no_lists old ns v e = record { units = 0; is = lists_none v ∙ ap (λ n. after_lists n 0 v) (sym e); left = omega arith }

lists_after : (ns : List (List ℤ)) (u n : ℕ) (x : List ℤ) (v : Arguments) → after_lists ns u (one_more_list x n v) ≡ after_lists (ns ++ x ∷ []) (u + n) v
lists_after ns u n x (Ready ms w) =
    ap (λ l. Ready l (u + (n + w))) (sym (append_assoc ns (x ∷ []) ms)) ∙ ap (Ready ((ns ++ x ∷ []) ++ ms)) (omega arith)
lists_after ns u n x (Refused place trap w) = ap (Refused place trap) (omega arith)

pub lists_more : (old mid new : ℕ) (ns more : List (List ℤ)) (whole rest : Arguments) (v : Values) (x : Vec ℤ Global) → ListsSoFar old mid ns whole (arguments_then v rest) →
    IsMetered values_kind mid new (Ok x) v → more ≡ ns ++ x.items ∷ [] → ListsSoFar old new more whole rest
lists_more old mid new ns more whole rest v x s m e =
    record {
      units = s.units + m.by.units;
      is = s.is ∙ ap (λ y. after_lists ns s.units (arguments_then y rest)) m.by.is ∙ lists_after ns s.units m.by.units x.items rest
          ∙ ap (λ l. after_lists l (s.units + m.by.units) rest) (sym e);
      left = let a = s.left in let b = m.by.left in omega arith;
    }

lists_least : (ns : List (List ℤ)) (u : ℕ) (v : Values) (rest : Arguments) → u + values_units v ≤ lists_units (after_lists ns u (arguments_then v rest))
lists_least ns u (AllGive n w) (Ready ms x) = omega arith
lists_least ns u (AllGive n w) (Refused place trap x) = omega arith
lists_least ns u (OneRaises place trap w) rest = omega arith

pub lists_stop : (old mid new : ℕ) (ns : List (List ℤ)) (whole rest : Arguments) (v : Values) (h : Halt) → ListsSoFar old mid ns whole (arguments_then v rest) →
    IsMetered values_kind mid new (Err h) v → IsMetered lists old new (Err h) whole
lists_stop old mid new ns whole rest v (Trapped place trap) s m =
    record {
      by = record {
        units = s.units + m.by.units;
        is = s.is ∙ ap (λ y. after_lists ns s.units (arguments_then y rest)) m.by.is;
        left = let a = s.left in let b = m.by.left in omega arith;
      };
    }
lists_stop old mid new ns whole rest v Over s m =
    let h = m.by in let l = s.left in
    let e : lists_units whole ≡ lists_units (after_lists ns s.units (arguments_then v rest)) = ap lists_units s.is in
    record { by = omega (arith, lists_least ns s.units v rest) }
lists_stop old mid new ns whole rest v OutOfMemory s m = record { by = tt }

pub lists_end : (old now : ℕ) (v : Vec (Vec ℤ Global) Global) (whole rest : Arguments) → ListsSoFar old now (map (λ w. w.items) v.items) whole rest → rest ≡ Ready [] 0 →
    IsMetered lists old now (Ok v) whole
lists_end old now v whole rest s e =
    record {
      by = record {
        units = s.units;
        is = s.is ∙ ap (after_lists (map (λ w. w.items) v.items) s.units) e ∙ ap (λ l. Ready l (s.units + 0)) (append_nil (map (λ w. w.items) v.items)) ∙ ap (Ready (map (λ w. w.items) v.items)) (omega arith);
        left = s.left;
      };
    }
  where
    append_nil : (l : List (List ℤ)) → l ++ [] ≡ l
    append_nil [] = refl
    append_nil (x ∷ xs) = ap (λ l. x ∷ l) (append_nil xs)

pub lists_same : (old now : ℕ) (ns : List (List ℤ)) (whole a b : Arguments) → ListsSoFar old now ns whole a → a ≡ b → ListsSoFar old now ns whole b
lists_same old now ns whole a b s e = record { units = s.units; is = s.is ∙ ap (after_lists ns s.units) e; left = s.left }

pub launches_next : (s : Setting) (e : Sight) (xs : List Launch) (i : ℕ) (x : Launch) → i < length xs → x ≡ get_or xs i x →
    arguments s e (map branch (drop i xs)) ≡ arguments_then (vals s e (exprs x.args.items)) (arguments s e (map branch (drop (i + 1) xs)))
launches_next s e xs i x h read = ap (λ l. arguments s e (map branch l)) (drop_next xs i x h read)

pub items_push : (ls all : List (Vec ℤ Global)) (l : Vec ℤ Global) → all ≡ ls ++ l ∷ [] → map (λ v. v.items) all ≡ map (λ v. v.items) ls ++ l.items ∷ []
items_push ls all l e = ap (map (λ v. v.items)) e ∙ push ls
  where
    push : (ls : List (Vec ℤ Global)) → map (λ v. v.items) (ls ++ l ∷ []) ≡ map (λ v. v.items) ls ++ l.items ∷ []
    push [] = refl
    push (x ∷ xs) = ap (λ r. x.items ∷ r) (push xs)
