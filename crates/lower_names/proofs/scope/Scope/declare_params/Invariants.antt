use Rattle.std.proofs.Common.{◌≡◌, ◌++◌, drop}
use Rattle.text_kernel.specs.Bindings.{params_at}
use Rattle.lower_names.specs.Views.{seen, AppendsLocals}
use Rattle.lower_names.proofs.scope.Scope.declare_params.Given as goal

abbrev pub invariant-loop-p : goal.invariant-loop-p
invariant-loop-p l = record { seen : seen l.self ++ params_at l.at (drop l.p-index l.params) ≡ seen l.fn.self ++ params_at l.first l.params; kept : AppendsLocals l.fn.self l.self }
