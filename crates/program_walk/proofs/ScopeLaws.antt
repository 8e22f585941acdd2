-- Scopes that are entered and left.
use Rattle.std.proofs.Common.{ℕ, ◌+◌, ◌<◌, ◌≤◌, ◌≡◌, ◌∙◌, sym, ap, refl, subst, length, take, arith}
use Rattle.std.proofs.lemmas.List.{take_all}
use Rattle.program_walk.specs.declared.scopes.scope.Scope.{Scope}
use Rattle.program_walk.specs.declared.scopes.scope.OuterScope.{OuterScope}
use Rattle.program_walk.specs.Views.{scope_of, ExtendsScope, SameScope}

pub framed_none : (a : Scope) → ExtendsScope a a
framed_none a = record { base = refl; start = refl; front = refl }

pub framed_on : (a b d : Scope) → ExtendsScope a b → ExtendsScope b d → ExtendsScope a d
framed_on a b d f g =
    record {
      base = g.base ∙ f.base;
      start = g.start ∙ f.start;
      front =
          ap (λ n. take n d.declared.list.items) (sym f.start) ∙ g.front ∙ ap (λ n. take n b.declared.list.items) f.start ∙ f.front;
    }

pub same_none : (a : Scope) → SameScope a a
same_none a = record { base = refl; start = refl; list = refl }

pub same_on : (a b d : Scope) → SameScope a b → SameScope b d → SameScope a d
same_on a b d f g = record { base = g.base ∙ f.base; start = g.start ∙ f.start; list = g.list ∙ f.list }

pub same_framed : (a b : Scope) → SameScope a b → ExtendsScope a b
same_framed a b f = record { base = f.base; start = f.start; front = ap (take a.start) f.list }

pub same_scope : (a b : Scope) → SameScope a b → scope_of b ≡ scope_of a
same_scope a b f = rw (f.base, f.start, f.list) refl

-- a scope that was entered and left
pub left : (old entered inner gone : Scope) (frame : OuterScope) → entered.declared.list.items ≡ old.declared.list.items → entered.start ≡ length old.declared.list.items →
    ExtendsScope entered inner → gone.declared.list.items ≡ take inner.start inner.declared.list.items → gone.base ≡ frame.base → gone.start ≡ frame.start →
    frame.base ≡ old.base → frame.start ≡ old.start → SameScope old gone
left old entered inner gone frame e n f g b s fb fs =
    record {
      base = b ∙ fb;
      start = s ∙ fs;
      list =
          g ∙ ap (λ m. take m inner.declared.list.items) f.start ∙ f.front ∙ ap (take entered.start) e
          ∙ take_all entered.start old.declared.list.items (omega (arith, n));
    }
