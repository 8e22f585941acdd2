use Rattle.std.proofs.Common.{◌≡◌, ◌+◌, ◌-◌, refl, sym, ap, ◌∙◌, subst, ⊎_elim, arith}
use Rattle.std.specs.Prelude.{slice_get}
use Rattle.std.proofs.lemmas.Bool.{cases_lt}
use Rattle.thread_code.specs.declared.instruction.CodeParts.{CodeParts}
use Rattle.thread_code.specs.Plain.{plain_code}
use Rattle.core_seats.specs.Changes.{HasWorked, IsIdle}
use Rattle.core_seats.specs.Keeping.{code_in}
use Rattle.core_seats.proofs.Beginning.{worked_from}
use Rattle.core_seats.proofs.ServingLemmas.{keeps_then, keeps_seated, idle_from, got_behind, got_front, get_behind, get_front, some_both}
use Rattle.core_seats.proofs.scheduler.Scheduler.serve_round.Goals as goal

pub serve_first-requires-clause-each : goal.serve_first-requires-clause-each
serve_first-requires-clause-each g c i k at =
    c.requires.each (c.args.first + i) k (got_behind c.args.mailboxes.now c.args.first i k (ap (λ l. slice_get l i) (sym c.split_at.ensures.back) ∙ at))

pub serve_first-requires-2-clause-seated : goal.serve_first-requires-2-clause-seated
serve_first-requires-2-clause-seated g c = keeps_seated c.args.self.now c.serve_first.new.self c.serve_first.ensures.keeps c.requires.seated

pub serve_first-requires-2-clause-each : goal.serve_first-requires-2-clause-each
serve_first-requires-2-clause-each g c i k at =
    let old = c.requires.each i k (got_front c.args.mailboxes.now c.args.first i k (ap (λ l. slice_get l i) (sym c.split_at.ensures.front) ∙ at)) in
    let keeps = c.serve_first.ensures.keeps in
    let count = keeps.alike.count in
    let lt = old.0 in (omega (arith, lt, count), keeps.between k old.1)

pub returns-in-Some-clause-worked : goal.returns-in-Some-clause-worked
returns-in-Some-clause-worked g c k at =
    c.in-Some.ensures.worked k (ap (λ l. slice_get l c.in-Some.i) c.split_at.ensures.back ∙ get_behind c.args.mailboxes.now c.args.first c.in-Some.i k at)

pub returns-clause-keeps : goal.returns-clause-keeps
returns-clause-keeps g c = keeps_then c.args.self.now c.serve_first.new.self c.serve_first-2.new.self c.serve_first.ensures.keeps c.serve_first-2.ensures.keeps

pub returns-clause-place : goal.returns-clause-place
returns-clause-place g c =
    some_both c.serve_first-2.result (λ i lt _. let len = c.split_at.ensures.front_len in let first = c.requires.first in omega (arith, lt, len, first)) c.serve_first-2.ensures.place c.serve_first-2.ensures.place

pub returns-clause-worked : goal.returns-clause-worked
returns-clause-worked g c =
    some_both c.serve_first-2.result
    (λ i lt worked k at.
    let keeps = c.serve_first.ensures.keeps in
    let len = c.split_at.ensures.front_len in
    let here = ap (λ l. slice_get l i) c.split_at.ensures.front ∙ get_front c.args.mailboxes.now c.args.first i k (omega (arith, lt, len)) at in
    worked_from (code_in c.args.self.now).shape c.args.self.now.mail c.serve_first.new.self.mail c.serve_first-2.new.self.mail k keeps.grown ((c.in_default.ensures.missed refl).answered k)
    (subst (λ (x : CodeParts). HasWorked (plain_code x).shape c.serve_first.new.self.mail c.serve_first-2.new.self.mail k) keeps.code (worked k here)))
    c.serve_first-2.ensures.place c.serve_first-2.ensures.worked

pub returns-clause-idle : goal.returns-clause-idle
returns-clause-idle g c none i k at =
    let keeps = c.serve_first.ensures.keeps in
    ⊎_elim
    (λ lt. let here = ap (λ l. slice_get l i) c.split_at.ensures.front ∙ get_front c.args.mailboxes.now c.args.first i k lt at in
    idle_from (code_in c.args.self.now).shape c.args.self.now.mail c.serve_first.new.self.mail c.serve_first-2.new.self.mail k keeps.grown
    (subst (λ (x : CodeParts). IsIdle (plain_code x).shape c.serve_first.new.self.mail c.serve_first-2.new.self.mail k) keeps.code (c.serve_first-2.ensures.idle none i k here)))
    (λ ge. let sum : i ≡ c.args.first + (i - c.args.first) = omega (arith, ge) in
    let here = ap (λ l. slice_get l (i - c.args.first)) c.split_at.ensures.back ∙ get_behind c.args.mailboxes.now c.args.first (i - c.args.first) k (ap (λ n. slice_get c.args.mailboxes.now n) (sym sum) ∙ at) in
    let old = c.in_default.ensures.idle refl (i - c.args.first) k here in
    subst (λ (x : CodeParts). IsIdle (plain_code x).shape c.args.self.now.mail c.serve_first-2.new.self.mail k) keeps.code
    ((c.serve_first-2.ensures.missed none).still c.args.self.now.mail k keeps.grown (subst (λ (x : CodeParts). IsIdle (plain_code x).shape c.args.self.now.mail c.serve_first.new.self.mail k) (sym keeps.code) old)))
    (cases_lt i c.args.first)
