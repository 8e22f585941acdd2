-- Words of int functions.
use Rattle.std.proofs.Common.{ℕ, zero, suc, ◌+◌, ◌-◌, ◌<◌, ◌≤◌, ◌≡◌, ◌∙◌, ap, sym, subst, map, Result, ℤ, pos, List, [], ◌∷◌, ◌++◌, append_assoc, length, get_or, replicate, refl, arith}
use Rattle.std.proofs.lemmas.List.{replicate-append-replicate}
use Rattle.forec_kernel.specs.declared.shape.FunctionShape.{FunctionShape}
use Rattle.forec_kernel.specs.Terms.{Stmt, Nop}
use Rattle.forec_kernel.specs.Plain.{stmt}
use Rattle.forec_kernel.specs.Shapes.{PlainKernel, plain_kernel}
use Rattle.forec_kernel.specs.declared.shape.KernelParts.{KernelParts}
use Rattle.forec_kernel.specs.declared.terms.Statement.{Statement}
use Rattle.forec_kernel.specs.Values.{function_words, fresh_words, call_within, flow, flow_value}
use Rattle.forec_kernel.proofs.WeightLemmas.{body_at}
use Rattle.running_texts.specs.declared.meter.Halt.{Halt}
use Rattle.running_texts.specs.Metered.{IsMetered, value_kind, setting_within}

pub function_words_at : (fs : List FunctionShape) (f : ℕ) (d : FunctionShape) → f < length fs → (get_or fs f d).words ≡ function_words fs f
function_words_at [] f d h = absurd (omega arith)
function_words_at (g ∷ gs) zero d h = refl
function_words_at (g ∷ gs) (suc f) d h = function_words_at gs f d (omega arith)

pub function_words_past : (fs : List FunctionShape) (f : ℕ) → length fs ≤ f → 0 ≡ function_words fs f
function_words_past [] f h = refl
function_words_past (g ∷ gs) zero h = absurd (omega arith)
function_words_past (g ∷ gs) (suc f) h = function_words_past gs f (omega arith)

-- one more zero at the end
pub zeros_more : (args words : List ℤ) (n : ℕ) → words ≡ args ++ replicate n (pos 0) → words ++ pos 0 ∷ [] ≡ args ++ replicate (n + 1) (pos 0)
zeros_more args words n e =
    ap (λ w. w ++ pos 0 ∷ []) e ∙ append_assoc args (replicate n (pos 0)) (pos 0 ∷ [])
    ∙ ap (λ z. args ++ z) (replicate-append-replicate n 1 (pos 0))

get_or_map : (xs : List Statement) (i : ℕ) (x : Statement) → i < length xs → x ≡ get_or xs i x → get_or (map stmt xs) i Nop ≡ stmt x
get_or_map xs i x h read = body_at xs i x h ∙ ap stmt (sym read)

pub body_of_call : (k : KernelParts) (f : ℕ) (x : Statement) → f < length k.functions.items → x ≡ get_or k.functions.items f x →
    get_or (plain_kernel k).functions f Nop ≡ stmt x
body_of_call k f x h read = get_or_map k.functions.items f x h read

-- a call, one level down
pub called : (k : PlainKernel) (deep f : ℕ) (args words : List ℤ) (s : Stmt) (old new : ℕ) (r : Result ℤ Halt) → 0 < deep →
    get_or k.functions f Nop ≡ s → words ≡ fresh_words args (function_words k.shape.functions f) →
    IsMetered value_kind old new r (flow_value (flow (setting_within k (deep - 1)) s words)) → IsMetered value_kind old new r (call_within k deep f args)
called k zero f args words s old new r some body same m = absurd (omega arith)
called k (suc deep) f args words s old new r some body same m =
    let less : suc deep - 1 ≡ deep = omega arith in
    subst (λ d. IsMetered value_kind old new r (flow_value (flow (setting_within k d) (get_or k.functions f Nop) (fresh_words args (function_words k.shape.functions f))))) less
    (subst (λ w. IsMetered value_kind old new r (flow_value (flow (setting_within k (suc deep - 1)) (get_or k.functions f Nop) w))) same
    (subst (λ b. IsMetered value_kind old new r (flow_value (flow (setting_within k (suc deep - 1)) b words))) (sym body) m))
