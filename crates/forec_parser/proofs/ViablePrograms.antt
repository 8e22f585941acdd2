-- Where a program is refused, what was taken is the front of one.
use mathlib.Core.Path.{subst}
use Rattle.std.proofs.Common.{◌≡◌, ℕ, zero, suc, ◌+◌, ◌≤◌, ◌⊎◌, inl, inr, Bool, true, false, cond, List, [], ◌∷◌, ◌++◌, length, Option, None, Err, refl, append_assoc, append-nil, arith}
use Rattle.forec_tree.specs.declared.token.Token.{Token}
use Rattle.forec_tree.specs.declared.token.TokenKind.{TokenKind}
use Rattle.forec_tree.specs.Terms.{PlainItem, Text}
use Rattle.forec_tree.specs.Spelling.{Spelt, at, tokens, IsWithin}
use Rattle.forec_tree.specs.SpelledPrograms.{Introduces, Programs, no_items}
use Rattle.expr_parser.specs.declared.fault.Fault.{Fault}
use Rattle.expr_parser.specs.declared.fault.Fault.TheVariants.{Syntax, Deep, OutOfMemory}
use Rattle.expr_parser.specs.Input.{Input, input, and_then, kind_ahead, at_end}
use Rattle.forec_parser.specs.Items.{item, items, items_from}
use Rattle.forec_parser.specs.ViablePrefixes.{IsFrontWithin, OpensAbove}
use Rattle.expr_parser.proofs.Spans.{ok_of}
use Rattle.expr_parser.proofs.Exact.{Map, mapped, Part, part, Any}
use Rattle.expr_parser.proofs.Viable.{Front, Least, Barred, stuck, above, Refused, refused_here, refused_so, refused_to, refused_first, refused_second, Second, failed}
use Rattle.forec_parser.proofs.ItemSound.{sound_item}
use Rattle.forec_parser.proofs.ProgramLemmas.{Programmed, programmed, add_on}
use Rattle.forec_parser.proofs.ViableItems.{item_at}

-- The tokens before the last so many are a front within the limit.
pub record FrontBefore (limit left : ℕ) (ts : List Token) : Type 0 where
  pub taken : List Token
  pub rest : List Token
  pub are : ts ≡ taken ++ rest
  pub left_are : length rest ≡ left
  pub front : IsFrontWithin limit taken

-- The first of the last so many tokens is the first that opens a level above the limit.
pub record AboveBefore (limit left : ℕ) (ts : List Token) : Type 0 where
  pub taken : List Token
  pub token : Token
  pub rest : List Token
  pub are : ts ≡ taken ++ (token ∷ rest)
  pub left_are : suc (length rest) ≡ left
  pub opens : OpensAbove limit (taken ++ (token ∷ []))

-- Where reading is refused with this fault, what was taken is a front; memory plays no part in it.
abbrev pub Refuses : ℕ → Fault → List Token → Type 0
Refuses limit (Syntax left) ts = FrontBefore limit left ts
Refuses limit (Deep left) ts = AboveBefore limit left ts
Refuses limit OutOfMemory ts = ⊥

least_programmed : {k : Option TokenKind} (v : ℕ) → Least Programmed k k v
least_programmed v = record { value = []; last = v; tokens = []; spells = programmed no_items; begins = refl }

least_added : {k : Option TokenKind} (xs : List PlainItem) (v : ℕ) → Least (Map (λ ys. xs ++ ys) Programmed) k k v
least_added xs v = record { value = xs ++ []; last = v; tokens = []; spells = mapped (programmed no_items); begins = refl }

introduces_before : {v w : ℕ} {xs : List PlainItem} {ls : List Spelt} {o k : Option TokenKind} → Part Any Introduces v xs w ls o → Part Any Introduces v xs w ls k
introduces_before (part s c) = part s tt

module _ (limit : ℕ) where
  abbrev ItemsRefused : ℕ → Type 0
  ItemsRefused turns = (found : Text) (i : Input) (e : Fault) → i.level ≤ limit → items_from limit turns found i ≡ Err e → Refused limit Programmed None i e

  fails_end : ItemsRefused zero
  unfolding items_from
  fails_end found i e small h = by_test (at_end (kind_ahead i.rest)) h
    where
      by_test : (b : Bool) → cond b (ok_of found i) (Err (Syntax (length i.rest))) ≡ Err e → Refused limit Programmed None i e
      by_test true h = absurd (cc)
      by_test false h = refused_here (least_programmed i.level) (cc)

  fails_turn : (turns : ℕ) → ItemsRefused turns → ItemsRefused (suc turns)
  unfolding items_from
  fails_turn turns ih found i e small h = by_test (at_end (kind_ahead i.rest)) h
    where
      of : (item limit i ≡ Err e) ⊎ Second (item limit i) (λ xs. items_from limit turns (found ++ xs)) e → Refused limit Programmed None i e
      of (inl z) = refused_to (λ v w x ls o q. add_on q) (refused_first (λ xs u. least_added xs u) ((item_at limit 0).refused i e (omega arith) small z))
      of (inr z) =
          let r = sound_item limit i z.state z.value small z.was in
          let more : Refused limit (Map (λ ys. z.value ++ ys) Programmed) None z.state e =
          refused_so (ih (found ++ z.value) z.state e r.small z.goes) (λ ls s. record { value = z.value ++ s.value; last = s.last; behind = s.behind; spells = mapped s.spells }) in
          refused_to (λ v w x ls o q. add_on q) (refused_second r (introduces_before r.spells) (least_added z.value z.state.level) more)

      by_test : (b : Bool) → cond b (ok_of found i) (and_then (item limit i) (λ xs. items_from limit turns (found ++ xs))) ≡ Err e → Refused limit Programmed None i e
      by_test true h = absurd (cc)
      by_test false h = of (failed (item limit i) (λ xs. items_from limit turns (found ++ xs)) e h)

  fails : (turns : ℕ) → ItemsRefused turns
  fails zero = fails_end
  fails (suc turns) = fails_turn turns (fails turns)

  programs_of : {v w : ℕ} {xs : Text} {ls : List Spelt} {k : Option TokenKind} → Programmed v xs w ls k → Programs xs v ls
  programs_of (programmed s) = s

  fronts : (ts : List Token) (e : Fault) (spelt opened : List Spelt) (rest : List Token) → ts ≡ tokens spelt ++ rest → IsWithin limit spelt → Barred limit e opened rest → Front Programmed None 0 (spelt ++ opened) → Refuses limit e ts
  fronts ts e spelt opened rest are within stuck s =
      let R : List Spelt → Type 0 = λ z. Programs s.value 0 (z ++ s.behind) in
      record {
        taken = tokens spelt;
        rest = rest;
        are = are;
        left_are = refl;
        front = record { program = s.value; front = spelt; after = s.behind; spells = subst R (append-nil spelt) (programs_of s.spells); are = refl; within = within };
      }
  fronts ts e spelt opened rest are within (above {t = t} {rest = behind}) s =
      let R : List Spelt → Type 0 = λ z. Programs s.value 0 z in
      record {
        taken = tokens spelt;
        token = t;
        rest = behind;
        are = are;
        left_are = refl;
        opens = record { program = s.value; front = spelt; token = t; after = s.behind; spells = subst R (append_assoc spelt (at t (limit + 1) ∷ []) s.behind) (programs_of s.spells); are = refl; within = within };
      }

  -- Where the tokens are refused, those before are the front of a program.
  pub refused_behind_front : (ts : List Token) (e : Fault) → items limit (input ts 0) ≡ Err e → Refuses limit e ts
  unfolding items
  refused_behind_front ts e h = let r = fails (length ts) [] (input ts 0) e (omega arith) h in fronts ts e r.spelt r.opened r.rest r.front r.within r.barred r.starts
