-- What the walk keeps of each part of a function, from what was kept before to what is kept after.
use Rattle.std.specs.Prelude.{◌≡◌, ℕ, List, [], ◌∷◌, map, Option}
use Rattle.std.specs.declared.boxed.Box.{Box}
use Rattle.std.specs.declared.alloc.Global as alloc
use Rattle.forec_tree.specs.declared.tree.Branch.{Branch}
use Rattle.forec_tree.specs.declared.tree.Expr.{Expr}
use Rattle.forec_tree.specs.declared.tree.Function.{Function}
use Rattle.forec_tree.specs.declared.tree.Local.{Local}
use Rattle.forec_tree.specs.declared.tree.Name.{Name}
use Rattle.forec_tree.specs.declared.tree.Stmt.{Stmt}
use Rattle.forec_tree.specs.declared.tree.Target.{Target}
use Rattle.forec_tree.specs.declared.uses.How.{How}
use Rattle.forec_tree.specs.Plain as plain
use Rattle.forec_tree.specs.Scopes.{Scope}
use Rattle.forec_tree.specs.Findings.{use_at, in_term, in_terms, in_optional, in_target, in_local, in_locals, in_params, in_statement, in_statements, in_perhaps, in_branches, in_function}
use Rattle.forec_tree.specs.Terms.{Text}
use Rattle.program_walk.specs.declared.walk.context.Context.{Context}
use Rattle.program_walk.specs.declared.walk.effects.Notes.{Notes}
use Rattle.program_walk.specs.Views.{judging, judging_in, text_in}
use Rattle.program_walk.specs.Walk.{notes_of, walked}

-- ---- expressions

abbrev pub WalksUse : Context → Scope → How → Name → Notes → Notes → Type 0
WalksUse c s how name old new = notes_of new ≡ walked (judging_in c) (use_at (text_in c) s how name ∷ []) (notes_of old)

abbrev pub WalksExpression : Context → Scope → Expr → Notes → Notes → Type 0
WalksExpression c s e old new = notes_of new ≡ walked (judging_in c) (in_term (text_in c) s (plain.term e)) (notes_of old)

abbrev pub WalksExpressions : Context → Scope → List Expr → Notes → Notes → Type 0
WalksExpressions c s list old new = notes_of new ≡ walked (judging_in c) (in_terms (text_in c) s (plain.terms list)) (notes_of old)

abbrev pub WalksOptionalExpression : Context → Scope → Option Expr → Notes → Notes → Type 0
WalksOptionalExpression c s e old new = notes_of new ≡ walked (judging_in c) (in_optional (text_in c) s (plain.optional_term e)) (notes_of old)

abbrev pub WalksTarget : Context → Scope → Target → Notes → Notes → Type 0
WalksTarget c s to old new = notes_of new ≡ walked (judging_in c) (in_target (text_in c) s (plain.written_target to)) (notes_of old)

-- ---- declarations

abbrev pub WalksLocal : Context → Scope → Local → Notes → Notes → Type 0
WalksLocal c s l old new = notes_of new ≡ walked (judging_in c) (in_local (text_in c) s (plain.declared l)) (notes_of old)

abbrev pub WalksLocals : Context → Scope → List Local → Notes → Notes → Type 0
WalksLocals c s list old new = notes_of new ≡ walked (judging_in c) (in_locals (text_in c) s (map plain.declared list)) (notes_of old)

abbrev pub WalksParameters : Context → Scope → List Name → Notes → Notes → Type 0
WalksParameters c s all old new = notes_of new ≡ walked (judging_in c) (in_params (text_in c) s all) (notes_of old)

-- ---- statements

abbrev pub WalksStatement : Context → Scope → Stmt → Notes → Notes → Type 0
WalksStatement c s a old new = notes_of new ≡ walked (judging_in c) (in_statement (text_in c) s (plain.statement a)) (notes_of old)

abbrev pub WalksOptionalStatement : Context → Scope → Option (Box Stmt alloc.Global) → Notes → Notes → Type 0
WalksOptionalStatement c s a old new = notes_of new ≡ walked (judging_in c) (in_perhaps (text_in c) s (plain.perhaps_of a)) (notes_of old)

abbrev pub WalksStatements : Context → Scope → List Stmt → Notes → Notes → Type 0
WalksStatements c s body old new = notes_of new ≡ walked (judging_in c) (in_statements (text_in c) s (plain.statements body)) (notes_of old)

abbrev pub WalksBranches : Context → Scope → List Branch → Notes → Notes → Type 0
WalksBranches c s all old new = notes_of new ≡ walked (judging_in c) (in_branches (text_in c) s (plain.branches all)) (notes_of old)

-- ---- a function

abbrev pub WalksFunction : Text → List (List ℕ) → Function → Notes → Notes → Type 0
WalksFunction text names f old new = notes_of new ≡ walked (judging names f.gives) (in_function text (plain.plain_function f)) (notes_of old)
