-- A walk, part by part.
use Rattle.std.proofs.Common.{◌≡◌, ◌∙◌, sym, ap, refl, Option, Some, None, List, [], ◌∷◌, ◌++◌, append_assoc, append-nil}
use Rattle.forec_tree.specs.declared.fault.Fault.{Fault}
use Rattle.forec_tree.specs.Terms.{Statement}
use Rattle.forec_tree.specs.declared.tree.Name.{Name}
use Rattle.forec_tree.specs.declared.uses.How.{How}
use Rattle.forec_tree.specs.declared.uses.Meaning.{Meaning}
use Rattle.forec_tree.specs.declared.tree.Number.{Number}
use Rattle.forec_tree.specs.Findings.{Finding, Use, Loop, in_bound}
use Rattle.forec_tree.specs.Rules.{Judging, finding_faults}
use Rattle.fault_order.specs.Least.{judged, least_from}
use Rattle.program_walk.proofs.UseRules.{single}
use Rattle.fault_order.proofs.LeastLaws.{judged-append, judged-none}
use Rattle.program_walk.specs.declared.walk.effects.Effect.{Effect}
use Rattle.program_walk.specs.Walk.{NotesView, finding_effects, effects_of, walked}

pub effects-append : (xs ys : List Finding) → effects_of (xs ++ ys) ≡ effects_of xs ++ effects_of ys
effects-append [] ys = refl
effects-append (x ∷ xs) ys = ap (λ r. finding_effects x ++ r) (effects-append xs ys) ∙ sym (append_assoc (finding_effects x) (effects_of xs) (effects_of ys))

notes_are : (a b : NotesView) → a.least ≡ b.least → a.effects ≡ b.effects → a ≡ b
notes_are a b h g =
    ap (λ x. let r : NotesView = record { least = x; effects = a.effects } in r) h
    ∙ ap (λ x. let r : NotesView = record { least = b.least; effects = x } in r) g

pub walked-append : (j : Judging) (xs ys : List Finding) (s : NotesView) → walked j (xs ++ ys) s ≡ walked j ys (walked j xs s)
unfolding walked
walked-append j xs ys s =
    notes_are (walked j (xs ++ ys) s) (walked j ys (walked j xs s)) (judged-append j xs ys s.least)
    (ap (λ r. s.effects ++ r) (effects-append xs ys) ∙ sym (append_assoc s.effects (effects_of xs) (effects_of ys)))

pub walked-none : (j : Judging) (s : NotesView) → walked j [] s ≡ s
unfolding walked
walked-none j s = notes_are (walked j [] s) s (judged-none j s.least) (append-nil s.effects)

-- one finding
pub walked_one : (j : Judging) (x : Finding) (s new : NotesView) → new.least ≡ judged j (x ∷ []) s.least → new.effects ≡ s.effects ++ finding_effects x → new ≡ walked j (x ∷ []) s
unfolding walked
walked_one j x s new h g = notes_are new (walked j (x ∷ []) s) h (g ∙ ap (λ r. s.effects ++ r) (sym (append-nil (finding_effects x))))

-- of some findings that the early rules alone speak of
pub walked_early : (j : Judging) (fs : List Finding) (s new : NotesView) → effects_of fs ≡ [] → new.least ≡ judged j fs s.least → new.effects ≡ s.effects → new ≡ walked j fs s
unfolding walked
walked_early j fs s new e h g = notes_are new (walked j fs s) h (g ∙ sym (append-nil s.effects) ∙ ap (λ r. s.effects ++ r) (sym e))

-- a use by what its name means
pub use_least : (j : Judging) (how : How) (name : Name) (m n : Meaning) (kept new : Option Fault) → m ≡ n → new ≡ judged j (Use how name m ∷ []) kept →
    new ≡ judged j (Use how name n ∷ []) kept
use_least j how name m n kept new h g = g ∙ ap (λ x. judged j (Use how name x ∷ []) kept) h

pub bound_effects : (b : Option Number) → effects_of (in_bound b) ≡ []
bound_effects None = refl
bound_effects (Some n) = refl

-- a finding that breaks no early rule
pub quiet : (j : Judging) (x : Finding) (k : Option Fault) → finding_faults j x ≡ [] → k ≡ judged j (x ∷ []) k
unfolding least_from
quiet j x k h = single j x k k (ap (least_from k) (sym h))

-- a loop tells the early rules nothing
pub passed_loop : (j : Judging) (loop : Statement) (s : NotesView) → s ≡ walked j (Loop loop ∷ []) s
passed_loop j loop s = walked_early j (Loop loop ∷ []) s s refl (quiet j (Loop loop) s.least refl) refl
