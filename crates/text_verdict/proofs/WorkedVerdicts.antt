-- Worked refusals and counts, and their lines, computed.
use Rattle.std.proofs.Common.{ℕ, ◌≡◌, false, None, [], ◌∷◌, refl, codes}
use Rattle.std.specs.Fmt.{digits}
use Rattle.forec_tree.specs.declared.tree.Name.{Name}
use Rattle.forec_tree.specs.declared.tree.GlobalKind.{GlobalKind}
use Rattle.forec_tree.specs.declared.tree.GlobalKind.TheVariants.{Input, SharedOutput}
use Rattle.forec_tree.specs.Terms.{Par, no_terms, Statements, no_statements, more_statements, no_branches, by_call, by_group, Text, PlainItem, IsGlobal, IsFunction}
use Rattle.forec_tree.specs.Pauses.{within}
use Rattle.text_verdict.specs.Counting.{counts_of, counts_line}
use Rattle.text_verdict.specs.Judging.{refusal_line}
use Rattle.text_verdict.specs.declared.refusal.Refusal.TheVariants as why

rule_is : refusal_line (why.Rule (record { line = 1; column = 37 }) 20) ≡ codes "refused 1:37 rule 20\n"
unfolding digits
rule_is = refl

line_is : counts_line (record { threads = 1; inputs = 0; outputs = 1 }) ≡ codes "ok threads 1 inputs 0 outputs 1\n"
unfolding counts_line digits
line_is = refl

-- ---- a program with two inputs, a shared output, and a function with a branch that `main` starts twice

abbrev name : ℕ → Name
name id = record { id = id; place = record { line = 1; column = 1 } }

abbrev global : ℕ → GlobalKind → PlainItem
global id kind = IsGlobal (record { name = name id; kind = kind; length = None; values = []; combine = None })

abbrev void_named : ℕ → Statements → PlainItem
void_named id body = IsFunction (record { name = name id; gives = false; params = []; body = body })

abbrev counted_text : Text
counted_text =
    global 0 Input ∷ global 1 SharedOutput ∷ global 2 Input
    ∷ void_named 3 (more_statements (Par (name 3).place (by_group (name 3).place no_statements no_branches)) no_statements)
    ∷ void_named 4 (more_statements (Par (name 4).place (by_call (name 3) no_terms (by_call (name 3) no_terms no_branches))) no_statements) ∷ []

counted_is : counts_of counted_text (codes "a" ∷ codes "s" ∷ codes "b" ∷ codes "f" ∷ codes "main" ∷ []) ≡ record { threads = 5; inputs = 2; outputs = 1 }
unfolding within
counted_is = refl
