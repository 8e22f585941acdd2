use Rattle.std.proofs.Common.{◌∙◌, sym, ap, refl}
use Rattle.forec_tree.specs.Plain.{statement, statements, plain_function}
use Rattle.loop_check.specs.Views.{indexed_text}
use Rattle.lower_names.specs.Landings.{only}
use Rattle.lower_names.proofs.LandingLemmas.{lands_here, lands_further, no_names}
use Rattle.lower_names.proofs.landing.function_landing.Goals as goal

pub returns-in-None-lands : goal.returns-in-None-lands
returns-in-None-lands c =
    λ id e.
    lands_here (indexed_text c.args.index.now) id (plain_function c.args.function.now) (statement c.in-Some.one.now) (record { statement = c.innermost-statement.result; calls = 1 }) e
    (no_names c.args.function.now.params c.len.result c.len.ensures c.if-len-gt0.false) (sym (c.in-Some.ensures ∙ ap (λ q. only (statements q)) c.as_slice.ensures)) c.innermost-statement.ensures.same refl

pub returns-in-Some-checked_add : goal.returns-in-Some-checked_add
returns-in-Some-checked_add c =
    λ id e.
    lands_further (indexed_text c.args.index.now) id (plain_function c.args.function.now) (statement c.in-Some.one.now) (statement c.innermost-statement.result.now) c.in-Some-lands.next
    (record { statement = c.in-Some-lands.next.statement; calls = c.in-Some-checked_add.calls }) e (no_names c.args.function.now.params c.len.result c.len.ensures c.if-len-gt0.false)
    (sym (c.in-Some.ensures ∙ ap (λ q. only (statements q)) c.as_slice.ensures)) c.innermost-statement.ensures.same c.in-Some-lands.ensures refl c.in-Some-checked_add.ensures.1
