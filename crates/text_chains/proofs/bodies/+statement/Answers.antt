use Rattle.std.proofs.Common.{◌≡◌, ◌∙◌, ◌+◌, ℕ, sym, ap, refl, cond, false, length, arith, Bool}
use Rattle.forec_tree.specs.Terms as tree
use Rattle.forec_tree.specs.Plain.{terms, statements, branches, branch_with}
use Rattle.forec_tree.proofs.Rows.{of_group, of_abort, of_par, branch-group}
use Rattle.text_sizes.proofs.Tallied.{terms_length}
use Rattle.text_chains.specs.declared.tally.Tally.{Tally}
use Rattle.text_chains.specs.Tallies as of
use Rattle.text_chains.specs.Tallies.{both_tallies, call_tally, branch_tally, tally_at}
use Rattle.text_chains.specs.Views.{value_by}
use Rattle.text_chains.proofs.Sums.{both, named_byte, begin_low, begin_told, all_low, branches_low}
use Rattle.text_chains.proofs.bodies.+statement.Goals as goal

pub all-loop-s-init : goal.all-loop-s-init
all-loop-s-init t c =
    let w = c.args.w.now in
    record {
      small = begin_low c.nothing-total.result c.nothing-total.ensures;
      told = begin_told c.nothing-total.result _ c.nothing-total.ensures (all_low w.variable w.array (value_by w) w.worth (tally_at c.args.table.now) c.args.hidden (statements c.args.list.now));
    }

pub branches-loop-b-init : goal.branches-loop-b-init
branches-loop-b-init t c =
    let w = c.args.w.now in
    record {
      small = begin_low c.nothing.result c.nothing.ensures;
      few = omega arith;
      told = begin_told c.nothing.result _ c.nothing.ensures (branches_low w.variable w.array (value_by w) w.worth (tally_at c.args.table.now) c.args.hidden (branches c.args.list.now));
      naming = omega arith;
    }

pub branch-returns-in-Call-clause-tally : goal.branch-returns-in-Call-clause-tally
branch-returns-in-Call-clause-tally t c rest =
    let w = c.args.w.now in
    let table = c.args.table.now in
    let all : tree.Branches → Tally = of.branches_tally w.variable w.array (value_by w) w.worth (tally_at table) c.args.hidden in
    let args = c.as_slice-args.ensures in
    let own = c.started-own.ensures ∙ (ap (branch_tally (length c.as_slice-args.result.now)) c.known_of-known.ensures ∙ ap (λ n. branch_tally n (tally_at table c.in-Call.name.id)) (ap (λ l. length l) args ∙ terms_length c.in-Call.args)) in
    let base = c.joined.ensures ∙ both _ _ _ _ (c.terms.ensures ∙ ap (λ l. of.of_terms w.variable w.array (value_by w) c.args.hidden (terms l)) args) own in
    ap (λ x. both_tallies x (all rest)) base ∙ ap (λ b. all (branch_with b rest)) (sym c.in-Call.is)

pub branch-returns-in-Group-clause-tally : goal.branch-returns-in-Group-clause-tally
branch-returns-in-Group-clause-tally t c rest =
    let w = c.args.w.now in
    let table = c.args.table.now in
    let all : tree.Branches → Tally = of.branches_tally w.variable w.array (value_by w) w.worth (tally_at table) c.args.hidden in
    let body = c.all-body.ensures ∙ ap (λ l. of.all_tally w.variable w.array (value_by w) w.worth (tally_at table) false (statements l)) c.as_slice.ensures in
    ap (λ x. both_tallies x (all rest)) (c.started.ensures ∙ ap (branch_tally 0) body) ∙ (ap all (sym (branch-group c.in-Group.place c.in-Group.body rest)) ∙ ap (λ b. all (branch_with b rest)) (sym c.in-Group.is))

abbrev one_if : Bool → ℕ
one_if b = cond b 1 0

pub branch-returns-in-Group-clause-naming : goal.branch-returns-in-Group-clause-naming
branch-returns-in-Group-clause-naming t c rest =
    let w = c.args.w.now in
    let table = c.args.table.now in
    let all : tree.Branches → ℕ = of.branches_naming w.variable w.array (value_by w) w.worth (tally_at table) in
    let body = c.all-body.ensures ∙ ap (λ l. of.all_tally w.variable w.array (value_by w) w.worth (tally_at table) false (statements l)) c.as_slice.ensures in
    ap (λ n. n + all rest) (c.from-in-Group.ensures ∙ (named_byte c.all-body.result.named ∙ ap (λ (x : Tally). one_if x.named) body)) ∙ (ap all (sym (branch-group c.in-Group.place c.in-Group.body rest)) ∙ ap (λ b. all (branch_with b rest)) (sym c.in-Group.is))

pub statement-returns-in-Group : goal.statement-returns-in-Group
statement-returns-in-Group t c =
    let w = c.args.w.now in
    c.all.ensures ∙ of_group (of.tally w.variable w.array (value_by w) w.worth (tally_at c.args.table.now) c.args.hidden) c.args.s.now c.in-Group.body c.as_slice.result.now c.in-Group.is c.as_slice.ensures

pub statement-returns-in-Par : goal.statement-returns-in-Par
statement-returns-in-Par t c =
    let w = c.args.w.now in
    let known = tally_at c.args.table.now in
    let fold = c.calling.ensures ∙ ap call_tally (c.folded.ensures known ∙ ap (of.calls_worth w.variable w.array (value_by w) w.worth known) c.branches-all.ensures.naming) in
    c.joined-in-Par.ensures
    ∙ (both _ _ _ _ fold c.branches-all.ensures.tally
    ∙ of_par (of.tally w.variable w.array (value_by w) w.worth known c.args.hidden) c.args.s.now c.in-Par.list c.as_slice-in-Par.result.now c.in-Par.is c.as_slice-in-Par.ensures)

pub statement-returns-in-Abort : goal.statement-returns-in-Abort
statement-returns-in-Abort t c =
    let w = c.args.w.now in
    c.joined-in-Abort.ensures
    ∙ (both _ _ _ _ c.term-in-Abort.ensures c.all-in-Abort.ensures
    ∙ of_abort (of.tally w.variable w.array (value_by w) w.worth (tally_at c.args.table.now) c.args.hidden) c.args.s.now c.in-Abort.weak c.in-Abort.immediate c.in-Abort.test c.in-Abort.body c.as_slice-in-Abort.result.now c.in-Abort.is
    c.as_slice-in-Abort.ensures)
