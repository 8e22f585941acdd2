use Rattle.std.proofs.Common.{◌∙◌, ap}
use Rattle.std.specs.Prelude.{nat_lt}
use Rattle.program_walk.proofs.DeclarationLaws.{here_is}
use Rattle.program_walk.proofs.scopes.scope.Scope.is_here.Goals as goal

pub returns : goal.returns
returns c =
    let s = c.args.self.now in
    ap (λ n. nat_lt s.start n) c.last.ensures ∙ here_is c.args.id s.start s.declared.list.items s.within
