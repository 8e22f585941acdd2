use Rattle.std.proofs.Common.{◌≡◌, ℕ, Some, None, refl, sym, ap, ◌∙◌, subst}
use Rattle.core_bells.specs.Ropes.{RopeState, HasRung, IsSameRope}
use Rattle.core_bells.proofs.Hanging.{ring_same}
use Rattle.core_bells.proofs.rope.Rope.hint.Goals as goal

some_once : (a b : ℕ) → Some a ≡ Some b → a ≡ b
some_once a b e = cc

none_some : (a : ℕ) → None ≡ Some a → ⊥
none_some a e = cc

pub returns-then-core-self-clause-same : goal.returns-then-core-self-clause-same
returns-then-core-self-clause-same g c = subst (IsSameRope c.args.self.now) (sym (c.leave_due.ensures ∙ c.post.ensures.state)) (ring_same c.in-Some.core c.args.mailbox c.post.result c.args.self.now)

pub returns-then-core-self-clause-hinted : goal.returns-then-core-self-clause-hinted
returns-then-core-self-clause-hinted g c = record {
  other = λ core at ne. let same = some_once c.in-Some.core core (sym c.in-Some.is ∙ c.core_of.ensures.value ∙ at) in
      subst (λ k. HasRung k c.args.mailbox c.args.self.now c.leave_due.new.self) same (record { fits = c.post.result; state = c.leave_due.ensures ∙ c.post.ensures.state; full = c.post.ensures.full });
  own = λ at. absurd (c.if-core-self.true (some_once c.in-Some.core c.args.self.now.core (sym c.in-Some.is ∙ c.core_of.ensures.value ∙ at) ∙ ap (λ (r : RopeState). r.core) (sym c.self.view_is)));
  else = λ at. absurd (none_some c.in-Some.core (sym at ∙ sym c.core_of.ensures.value ∙ c.in-Some.is));
}

pub returns-else-core-self-clause-hinted : goal.returns-else-core-self-clause-hinted
returns-else-core-self-clause-hinted g c = record {
  other = λ core at ne. absurd (ne (some_once core c.in-Some.core (sym at ∙ sym c.core_of.ensures.value ∙ c.in-Some.is) ∙ c.if-core-self.false ∙ ap (λ (r : RopeState). r.core) c.self.view_is));
  own = λ at. refl;
  else = λ at. refl;
}

pub returns-in_default-clause-hinted : goal.returns-in_default-clause-hinted
returns-in_default-clause-hinted g c = record {
  other = λ core at ne. absurd (none_some core (sym c.in_default.is ∙ c.core_of.ensures.value ∙ at));
  own = λ at. refl;
  else = λ at. refl;
}
