-- Where the parser refuses a text for its syntax, no program begins so.
use mathlib.Core.Path.{subst}
use Rattle.std.proofs.Common.{◌≡◌, ℕ, suc, ◌+◌, ◌≤◌, ◌<◌, List, [], ◌∷◌, ◌++◌, length, Ok, Err, refl, sym, ◌∙◌, ap, append_assoc, append-nil, arith}
use Rattle.forec_tree.specs.declared.token.Token.{Token}
use Rattle.forec_tree.specs.Terms.{Text}
use Rattle.forec_tree.specs.Spelling.{Spelt, tokens, IsWithin}
use Rattle.forec_tree.specs.SpelledPrograms.{IsSpelled}
use Rattle.expr_parser.specs.declared.fault.Fault.TheVariants.{Syntax, Deep}
use Rattle.expr_parser.specs.Input.{input, Outcome}
use Rattle.forec_parser.specs.Items.{items}
use Rattle.forec_parser.specs.ViablePrefixes.{IsFront, IsFrontWithin}
use Rattle.expr_parser.proofs.Spans.{within_more}
use Rattle.expr_parser.proofs.Steady.{Meets, both_end, same_token, refused_too, deep_too}
use Rattle.expr_parser.proofs.Exact.{Above, above_here, above_later, Follows, comes, too_high}
use Rattle.forec_parser.proofs.ItemSteady.{items_steady}
use Rattle.forec_parser.proofs.ProgramLemmas.{read_back, follows}

-- a limit above each level
record Bounded (ls : List Spelt) : Type 0 where
  pub limit : ℕ
  pub within : IsWithin limit ls

bounded : (ls : List Spelt) → Bounded ls
bounded [] = record { limit = 0; within = tt }
bounded (s ∷ ls) =
    let b = bounded ls in
    record { limit = s.level + b.limit; within = (omega arith, within_more b.limit (s.level + b.limit) ls (omega arith) b.within) }

more_spelled : {k l : ℕ} {text : Text} {ts : List Token} → k ≤ l → IsSpelled k text ts → IsSpelled l text ts
more_spelled {k} {l} le s = record { spelt = s.spelt; spells = s.spells; are = s.are; within = within_more k l s.spelt le s.within }

-- What is refused at x is refused at y, under each greater limit, where both begin with the same token, or where no token is left.
pub stays_refused : (k l : ℕ) → k ≤ l → (a x y : List Token) → Meets x y → items k (input (a ++ x) 0) ≡ Err (Syntax (length x)) → items l (input (a ++ y) 0) ≡ Err (Syntax (length y))
stays_refused k l le a x y h e = refused_too (items_steady {E = ⊥} k l (record { grows = le; equal = λ q. absurd q })) h a 0 e

-- No program of any level has these tokens.
pub no_program : (k : ℕ) (ts : List Token) → items k (input ts 0) ≡ Err (Syntax 0) → (l : ℕ) (text : Text) → IsSpelled l text ts → ⊥
no_program k ts e l text s =
    let r : items (k + l) (input ts 0) ≡ Ok (text, input [] 0) = read_back (k + l) text ts (more_spelled (omega arith) s) in
    let P : List Token → Type 0 = λ z. items k (input z 0) ≡ Err (Syntax 0) in
    let Q : List Token → Type 0 = λ z. items (k + l) (input z 0) ≡ Err (Syntax 0) in
    let n : items (k + l) (input ts 0) ≡ Err (Syntax 0) = subst Q (append-nil ts) (stays_refused k (k + l) (omega arith) ts [] [] both_end (subst P (sym (append-nil ts)) e)) in
    absurd (let both = sym r ∙ n in cc)

pub tokens_join : (ls rs : List Spelt) → tokens (ls ++ rs) ≡ tokens ls ++ tokens rs
tokens_join [] rs = refl
tokens_join (s ∷ ls) rs = ap (λ z. s.token ∷ z) (tokens_join ls rs)

-- What is too deep at t is so whatever stands after t.
stays_deep : (k : ℕ) (a x y : List Token) → Meets x y → items k (input (a ++ x) 0) ≡ Err (Deep (length x)) → items k (input (a ++ y) 0) ≡ Err (Deep (length y))
stays_deep k a x y h e = deep_too (items_steady {E = Unit {0}} k k (record { grows = omega arith; equal = λ q. refl })) tt h a 0 e

joined_front : (a : List Token) (t : Token) (front behind : List Spelt) → tokens front ≡ a ++ (t ∷ []) → tokens (front ++ behind) ≡ a ++ (t ∷ tokens behind)
joined_front a t front behind e = tokens_join front behind ∙ ap (λ z. z ++ tokens behind) e ∙ append_assoc a (t ∷ []) (tokens behind)

-- No program of any level begins with the tokens up to the refused one.
pub no_front : (k : ℕ) (a x : List Token) (t : Token) → items k (input (a ++ (t ∷ x)) 0) ≡ Err (Syntax (suc (length x))) → IsFront (a ++ (t ∷ [])) → ⊥
no_front k a x t e f =
    let all : List Spelt = f.front ++ f.after in
    let behind : List Token = tokens f.after in
    let b = bounded all in
    let same : tokens all ≡ a ++ (t ∷ behind) = joined_front a t f.front f.after f.are in
    let s : IsSpelled (k + b.limit) f.program (a ++ (t ∷ behind)) = record { spelt = all; spells = f.spells; are = same; within = within_more b.limit (k + b.limit) all (omega arith) b.within } in
    let r : items (k + b.limit) (input (a ++ (t ∷ behind)) 0) ≡ Ok (f.program, input [] 0) = read_back (k + b.limit) f.program (a ++ (t ∷ behind)) s in
    let n : items (k + b.limit) (input (a ++ (t ∷ behind)) 0) ≡ Err (Syntax (suc (length behind))) = stays_refused k (k + b.limit) (omega arith) a (t ∷ x) (t ∷ behind) same_token e in
    absurd (let both = sym r ∙ n in cc)

above_left : {limit l : ℕ} {rest : List Token} {ls : List Spelt} → Above limit l rest ls → l ≤ length (tokens ls ++ rest)
above_left (above_here lt e) = omega (arith, e)
above_left (above_later a) = let h = above_left a in omega (arith, h)

above_behind : {limit l : ℕ} {rest : List Token} (ls rs : List Spelt) → Above limit l rest (ls ++ rs) → IsWithin limit ls → length (tokens rs ++ rest) < l → ⊥
above_behind [] rs a w lt = let h = above_left a in omega (arith, h, lt)
above_behind (s ∷ ls) rs (above_here high e) w lt = omega (arith, high, w.0)
above_behind (s ∷ ls) rs (above_later a) w lt = above_behind ls rs a w.1 lt

-- In no program that begins with the tokens up to the one that is too deep are they all within the limit.
pub no_front_within : (k : ℕ) (a x : List Token) (t : Token) → items k (input (a ++ (t ∷ x)) 0) ≡ Err (Deep (suc (length x))) → IsFrontWithin k (a ++ (t ∷ [])) → ⊥
no_front_within k a x t e f = by (items k (input (tokens all) 0)) refl (follows k f.program all f.spells)
  where
    all : List Spelt
    all = f.front ++ f.after

    behind : List Token
    behind = tokens f.after

    fails : items k (input (tokens all) 0) ≡ Err (Deep (suc (length behind)))
    fails =
        let P : List Token → Type 0 = λ z. items k (input z 0) ≡ Err (Deep (suc (length behind))) in
        subst P (sym (joined_front a t f.front f.after f.are)) (stays_deep k a (t ∷ x) (t ∷ behind) same_token e)

    by : (o : Outcome Text) → items k (input (tokens all) 0) ≡ o → Follows k f.program 0 all [] o → ⊥
    by o e comes = let both = sym e ∙ fails in cc
    by o e (too_high {l} u) =
        let both = sym e ∙ fails in
        let same : l ≡ suc (length behind) = cc in
        above_behind f.front f.after u f.within (omega (arith, same, ap length (append-nil behind)))
