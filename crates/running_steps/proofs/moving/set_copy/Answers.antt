use Rattle.std.proofs.Common.{◌∙◌, ◌≤◌, sym, length, rules}
use Rattle.running_steps.proofs.Puts.{put_some, put_none, set_past}
use Rattle.running_steps.proofs.moving.set_copy.Goals as goal

pub returns-then-at-len : goal.returns-then-at-len
returns-then-at-len c =
    put_some c.args.uses.now c.args.copies.now.items c.args.variable c.args.copy c.in-Some.at (sym c.place_of.ensures ∙ c.in-Some.is)

pub returns-else-at-len : goal.returns-else-at-len
returns-else-at-len c =
    let past : length c.args.copies.now.items ≤ c.in-Some.at = search rules in
    set_past c.args.copies.now.items c.in-Some.at c.args.copy past
    ∙ put_some c.args.uses.now c.args.copies.now.items c.args.variable c.args.copy c.in-Some.at (sym c.place_of.ensures ∙ c.in-Some.is)

pub returns-in_default : goal.returns-in_default
returns-in_default c = put_none c.args.uses.now c.args.copies.now.items c.args.variable c.args.copy (sym c.place_of.ensures ∙ c.in_default.is)
