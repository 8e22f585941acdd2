use Rattle.std.proofs.Common.{◌≡◌, ◌∙◌, [], sym, ap, subst, arith}
use Rattle.std.proofs.lemmas.List.{nil_from_length}
use Rattle.forec_tree.specs.Faults.{is_in}
use Rattle.loop_check.specs.Graph.{callees}
use Rattle.loop_check.proofs.Searched.{Searching, Followed, found_it, followed_on, answers}
use Rattle.loop_check.proofs.search.reaches_itself.Goals as goal

pub returns-then-is_among-clause-reaches : goal.returns-then-is_among-clause-reaches
returns-then-is_among-clause-reaches c =
    let calls = callees c.args.calls.now in
    let stack = subst (λ l. Searching c.args.functions.now calls c.args.f c.loop-g.waiting.items l) c.in-Some.ensures.items c.loop-g.invariant in
    λ e. found_it c.args.functions.now calls c.args.f c.requires c.loop-g.waiting.items c.pop.new.self.items c.in-Some.g stack
    (ap (is_in c.args.f) (sym c.called-list.ensures) ∙ sym c.is_among.ensures ∙ c.if-is_among.true)

pub loop-g-preserved : goal.loop-g-preserved
loop-g-preserved c =
    let calls = callees c.args.calls.now in
    let stack = subst (λ l. Searching c.args.functions.now calls c.args.f c.loop-g.waiting.items l) c.in-Some.ensures.items c.loop-g.invariant in
    let f = c.in_ok-follow.ensures in
    let followed : Followed (calls c.in-Some.g) c.loop-g.waiting.items c.follow.new.waiting.items c.pop.new.self.items c.follow.new.rest.items =
    subst (λ l. Followed l c.loop-g.waiting.items c.follow.new.waiting.items c.pop.new.self.items c.follow.new.rest.items) c.called-list.ensures (record { waiting = f.waiting; rest = f.rest; size = f.size }) in
    followed_on c.args.functions.now calls c.args.f c.requires c.loop-g.waiting.items c.follow.new.waiting.items c.pop.new.self.items c.follow.new.rest.items c.in-Some.g stack followed
    (ap (is_in c.args.f) (sym c.called-list.ensures) ∙ sym c.is_among.ensures ∙ c.if-is_among.false)

pub returns-clause-found : goal.returns-clause-found
returns-clause-found c =
    let empty : c.loop-g.rest.items ≡ [] = nil_from_length c.loop-g.rest.items (let e = c.in_default.ensures.cases.0 in omega (arith, e)) in
    λ l. absurd (answers c.args.functions.now (callees c.args.calls.now) c.args.f c.requires c.loop-g.waiting.items
    (subst (λ r. Searching c.args.functions.now (callees c.args.calls.now) c.args.f c.loop-g.waiting.items r) empty c.loop-g.invariant) l)
