-- A kernel that was made of folded bodies.
use Rattle.std.proofs.Common.{ℕ, ◌≡◌, ℤ, List, map, ap, sym, subst, ◌∙◌, Vec, Global}
use Rattle.forec_kernel.specs.Plain.{stmt}
use Rattle.forec_kernel.specs.declared.shape.Shape.{Shape}
use Rattle.forec_kernel.specs.declared.shape.KernelParts.{KernelParts}
use Rattle.forec_kernel.specs.declared.terms.Statement.{Statement}
use Rattle.forec_kernel.specs.Shapes.{PlainKernel, PlainShape, plain_shape, plain_kernel}
use Rattle.forec_kernel.specs.Terms.{Stmt}
use Rattle.forec_kernel.specs.Ticks.{Fresh, run_of}
use Rattle.forec_kernel.specs.WellFormed.{WellFormed}
use Rattle.bound_laws.specs.Paced.{Paced}
use Rattle.fold_laws.specs.Folding.{fold_stmt, folded_kernel}
use Rattle.fold_laws.specs.Laws.{UpToOver, RunsAlike}
use Rattle.fold_laws.proofs.Formed.{folded_formed}
use Rattle.fold_laws.proofs.Ticks.{each_list, each_run}
use Rattle.fold_laws.proofs.Paces.{folded_paced}

pub made_folded : (k : KernelParts) (shape : Shape) (threads functions : Vec Statement Global) → plain_shape shape ≡ plain_shape k.shape →
    map stmt threads.items ≡ map fold_stmt (map stmt k.threads.items) → map stmt functions.items ≡ map fold_stmt (map stmt k.functions.items) →
    plain_kernel (record { shape = shape; threads = threads; functions = functions }) ≡ folded_kernel (plain_kernel k)
made_folded k shape threads functions s t f =
    ap (λ (x : PlainShape). record { shape = x; threads = map stmt threads.items; functions = map stmt functions.items }) s
    ∙ ap (λ (xs : List Stmt). record { shape = plain_shape k.shape; threads = xs; functions = map stmt functions.items }) t
    ∙ ap (λ (xs : List Stmt). record { shape = plain_shape k.shape; threads = map fold_stmt (map stmt k.threads.items); functions = xs }) f

-- the same, of the parts as the calls give them
pub made : (k p : KernelParts) (shape : Shape) (threads functions : Vec Statement Global) (ts fs : List Statement) → p ≡ k → plain_shape shape ≡ plain_shape p.shape →
    map stmt threads.items ≡ map fold_stmt (map stmt ts) → ts ≡ p.threads.items → map stmt functions.items ≡ map fold_stmt (map stmt fs) → fs ≡ p.functions.items →
    plain_kernel (record { shape = shape; threads = threads; functions = functions }) ≡ folded_kernel (plain_kernel k)
made k p shape threads functions ts fs same s t is_t f is_f =
    made_folded p shape threads functions s (t ∙ ap (λ q. map fold_stmt (map stmt q)) is_t) (f ∙ ap (λ q. map fold_stmt (map stmt q)) is_f)
    ∙ ap (λ x. folded_kernel (plain_kernel x)) same

-- what holds of each kernel that is another one folded

pub formed_if : (k k' : PlainKernel) → k' ≡ folded_kernel k → WellFormed k → WellFormed k'
formed_if k k' e h = subst WellFormed (sym e) (folded_formed k h)

pub runs_if : (k k' : PlainKernel) → k' ≡ folded_kernel k → (budget : ℕ) (rows : List (List ℤ)) → UpToOver (run_of k budget rows) (run_of k' budget rows)
runs_if k k' e budget rows = subst (λ j. UpToOver (run_of k budget rows) (run_of j budget rows)) (sym e) (each_list k budget rows)

pub units_if : (k k' : PlainKernel) → k' ≡ folded_kernel k → (budget : ℕ) (rows : List (List ℤ)) → RunsAlike k k' budget Fresh Fresh rows
units_if k k' e budget rows = subst (λ j. RunsAlike k j budget Fresh Fresh rows) (sym e) (each_run k budget rows)

pub paced_if : (k k' : PlainKernel) → k' ≡ folded_kernel k → Paced k → Paced k'
paced_if k k' e h = subst Paced (sym e) (folded_paced k h)
