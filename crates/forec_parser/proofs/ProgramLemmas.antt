-- Reading a program is the converse of spelling it, and no tokens spell two programs.
use mathlib.Core.Path.{subst}
use Rattle.std.proofs.Common.{◌≡◌, ℕ, zero, suc, ◌+◌, ◌≤◌, Bool, true, false, cond, List, [], ◌∷◌, ◌++◌, length, Option, Ok, Err, refl, sym, ◌∙◌, ap, append_assoc, append-nil, arith}
use Rattle.forec_tree.specs.declared.token.Token.{Token}
use Rattle.forec_tree.specs.declared.token.TokenKind.{TokenKind}
use Rattle.forec_tree.specs.declared.tree.Program.{Program}
use Rattle.forec_tree.specs.Terms.{PlainItem, Text}
use Rattle.forec_tree.specs.Plain.{program}
use Rattle.forec_tree.specs.Spelling.{Spelt, tokens}
use Rattle.forec_tree.specs.SpelledPrograms.{Introduces, Programs, no_items, more_items, IsSpelled}
use Rattle.expr_parser.specs.declared.fault.Fault.TheVariants.{Syntax}
use Rattle.expr_parser.specs.Input.{Input, input, and_then, kind_ahead, at_end, max_level}
use Rattle.forec_parser.specs.Items.{item, items, items_from}
use Rattle.forec_parser.specs.Program.{ReadsProgram}
use Rattle.expr_parser.proofs.Spans.{tokens_append, within_more, step, ok_of, ok_pair}
use Rattle.expr_parser.proofs.Exact.{Read, Bind, both, Map, mapped, Part, part, Any, Follows, comes, comes_within, follow_then, then_read, read_as, read_at}
use Rattle.expr_parser.proofs.Leaves.{Filled, filled-long}
use Rattle.forec_parser.proofs.ItemSound.{sound_item, item_reads, item_filled}

pub data Programmed : ℕ → Text → ℕ → List Spelt → Option TokenKind → Type 0 where
  programmed : {v : ℕ} {xs : Text} {ls : List Spelt} {k : Option TokenKind} → Programs xs v ls → Programmed v xs v ls k

add_with : {v w : ℕ} (xs : List PlainItem) {zs : Text} {ls rs : List Spelt} {k : Option TokenKind} → Introduces xs v ls → Map (λ ys. xs ++ ys) Programmed v zs w rs k → Programmed v zs w (ls ++ rs) k
add_with xs s (mapped (programmed b)) = programmed (more_items s b)

pub add_on : {v w : ℕ} {zs : Text} {ls : List Spelt} {k : Option TokenKind} → Bind (Part Any Introduces) (λ xs. Map (λ ys. xs ++ ys) Programmed) v zs w ls k → Programmed v zs w ls k
add_on (both {x = xs} (part s c) q) = add_with xs s q

module _ (limit : ℕ) where
  record More (found all : Text) (i j : Input) : Type 0 where
    pub xs : Text
    pub all_is : all ≡ found ++ xs
    pub read : Read limit Programmed xs i j
    pub ended : at_end (kind_ahead j.rest) ≡ true

  none_more : (found all : Text) (i j : Input) → i.level ≤ limit → at_end (kind_ahead i.rest) ≡ true → ok_of found i ≡ Ok (all, j) → More found all i j
  none_more found all i j small e k =
      let q = ok_pair found all i j k in
      let made : More found found i i =
      record { xs = []; all_is = sym (append-nil found); read = record { spelt = []; front = refl; spells = programmed no_items; within = tt; small = small }; ended = e } in
      let R : Input → Type 0 = λ z. More found found i z in
      let S : Text → Type 0 = λ z. More found z i j in
      subst S q.0 (subst R q.1 made)

  p_from : (n : ℕ) (found all : Text) (i j : Input) → i.level ≤ limit → items_from limit n found i ≡ Ok (all, j) → More found all i j
  unfolding items_from
  p_from zero found all i j small h = by_test (at_end (kind_ahead i.rest)) refl h
    where
      by_test : (b : Bool) → at_end (kind_ahead i.rest) ≡ b → cond b (ok_of found i) (Err (Syntax (length i.rest))) ≡ Ok (all, j) → More found all i j
      by_test true e k = none_more found all i j small e k
      by_test false e k = absurd (cc)
  p_from (suc n) found all i j small h = by_test (p_from n) (at_end (kind_ahead i.rest)) refl h
    where
      by_test : ((found all : Text) (i j : Input) → i.level ≤ limit → items_from limit n found i ≡ Ok (all, j) → More found all i j)
          → (b : Bool) → at_end (kind_ahead i.rest) ≡ b → cond b (ok_of found i) (and_then (item limit i) (λ xs. items_from limit n (found ++ xs))) ≡ Ok (all, j) → More found all i j
      by_test ih true e k = none_more found all i j small e k
      by_test ih false e k =
          let s = step (item limit i) (λ xs. items_from limit n (found ++ xs)) (all, j) k in
          let a = sound_item limit i s.state s.value small s.was in
          let m = ih (found ++ s.value) all s.state j a.small s.goes in
          let r : Read limit (Map (λ ys. s.value ++ ys) Programmed) (s.value ++ m.xs) s.state j = read_as m.read (λ ls e q. mapped q) in
          let t : Read limit (Bind (Part Any Introduces) (λ xs. Map (λ ys. xs ++ ys) Programmed)) (s.value ++ m.xs) i j = then_read a r in
          record { xs = s.value ++ m.xs; all_is = m.all_is ∙ append_assoc found s.value m.xs; read = read_as t (λ ls e q. add_on q); ended = m.ended }

  a_none : (n : ℕ) (found : Text) (i : Input) → at_end (kind_ahead i.rest) ≡ true → items_from limit n found i ≡ Ok (found ++ [], i)
  unfolding items_from
  a_none zero found i h = rw h (ap (λ z. Ok (z, i)) (sym (append-nil found)))
  a_none (suc n) found i h = rw h (ap (λ z. Ok (z, i)) (sym (append-nil found)))

  a_step : {v : ℕ} {xs : List PlainItem} (ys : Text) (ls rs : List Spelt) (n : ℕ) (found : Text) (rest : List Token) → Filled ls → Follows limit xs v ls (tokens rs ++ rest) (item limit (input (tokens ls ++ (tokens rs ++ rest)) v))
      → Follows limit ((found ++ xs) ++ ys) v rs rest (items_from limit n (found ++ xs) (input (tokens rs ++ rest) v))
      → Follows limit (found ++ (xs ++ ys)) v (ls ++ rs) rest (items_from limit (suc n) found (input (tokens ls ++ (tokens rs ++ rest)) v))
  unfolding items_from
  a_step ys [] rs n found rest f r more = absurd f
  a_step {v} {xs} ys (s ∷ ls) rs n found rest f r more =
      let R : Text → Type 0 = λ z. Follows limit z v rs rest (items_from limit n (found ++ xs) (input (tokens rs ++ rest) v)) in
      follow_then rs (λ xs. items_from limit n (found ++ xs)) r (subst R (append_assoc found xs ys) more)

  -- What is spelled is read, unless a token opens a level above the limit.
  follows_all : {v : ℕ} {xs : Text} {ls : List Spelt} → Programs xs v ls → (n : ℕ) (found : Text) (rest : List Token) → at_end (kind_ahead rest) ≡ true → length (tokens ls ++ rest) ≤ n
      → Follows limit (found ++ xs) v ls rest (items_from limit n found (input (tokens ls ++ rest) v))
  follows_all {v} no_items n found rest h le = rw (a_none n found (input rest v) h) comes
  follows_all {v} (more_items {xs = xs} {rest = ys} {ls = ls} {rs = rs} s b) zero found rest h le =
      let same : tokens (ls ++ rs) ++ rest ≡ tokens ls ++ (tokens rs ++ rest) = tokens_append ls rs rest in
      let none : length (tokens ls ++ (tokens rs ++ rest)) ≤ 0 = rw same at le in
      absurd (omega (arith, filled-long ls (tokens rs ++ rest) (item_filled limit s)))
  follows_all {v} (more_items {xs = xs} {rest = ys} {ls = ls} {rs = rs} s b) (suc n) found rest h le =
      let tail = tokens rs ++ rest in
      let same : tokens (ls ++ rs) ++ rest ≡ tokens ls ++ tail = tokens_append ls rs rest in
      let room : length (tokens ls ++ tail) ≤ suc n = rw same at le in
      let a : Follows limit xs v ls tail (item limit (input (tokens ls ++ tail) v)) = read_at (item_reads limit s) tail refl in
      let c = follows_all b n (found ++ xs) rest h (omega (arith, filled-long ls tail (item_filled limit s))) in
      rw same (a_step ys ls rs n found rest (item_filled limit s) a c)

  pub follows : (text : Text) (ls : List Spelt) → Programs text 0 ls → Follows limit text 0 ls [] (items limit (input (tokens ls) 0))
  unfolding items
  follows text ls s =
      let r : Follows limit text 0 ls [] (items_from limit (length (tokens ls ++ [])) [] (input (tokens ls ++ []) 0)) = follows_all s (length (tokens ls ++ [])) [] [] refl (omega arith) in
      let P : List Token → Type 0 = λ z. Follows limit text 0 ls [] (items_from limit (length z) [] (input z 0)) in
      subst P (append-nil (tokens ls)) r

  -- What is spelled is read to its end.
  pub read_back : (text : Text) (ts : List Token) → IsSpelled limit text ts → items limit (input ts 0) ≡ Ok (text, input [] 0)
  read_back text ts s =
      let P : List Token → Type 0 = λ z. items limit (input z 0) ≡ Ok (text, input [] 0) in
      subst P s.are (comes_within (follows text s.spelt s.spells) s.within)

  no_rest : (ts : List Token) → at_end (kind_ahead ts) ≡ true → ts ≡ []
  no_rest [] h = refl
  no_rest (t ∷ ts) h = absurd (cc)

  -- What is read is spelled so.
  pub spelled_so : (text : Text) (ts : List Token) (j : Input) → items limit (input ts 0) ≡ Ok (text, j) → IsSpelled limit text ts
  unfolding items
  spelled_so text ts j h =
      let m = p_from (length ts) [] text (input ts 0) j (omega arith) h in
      let r = m.read in
      let e : j.rest ≡ [] = no_rest j.rest m.ended in
      let P : Text → Type 0 = λ z. Programs z 0 r.spelt in
      record {
        spelt = r.spelt;
        spells = subst P (sym m.all_is) (programs_of r.spells);
        are = sym (append-nil (tokens r.spelt)) ∙ ap (λ z. tokens r.spelt ++ z) (sym e) ∙ sym r.front;
        within = r.within;
      }
    where
      programs_of : {v w : ℕ} {xs : Text} {ls : List Spelt} {k : Option TokenKind} → Programmed v xs w ls k → Programs xs v ls
      programs_of (programmed b) = b

-- the law of spelling, at any two levels
pub one_program : (k l : ℕ) (a b : Text) (ts : List Token) → IsSpelled k a ts → IsSpelled l b ts → a ≡ b
one_program k l a b ts s t =
    let x : IsSpelled (k + l) a ts = record { spelt = s.spelt; spells = s.spells; are = s.are; within = within_more k (k + l) s.spelt (omega arith) s.within } in
    let y : IsSpelled (k + l) b ts = record { spelt = t.spelt; spells = t.spells; are = t.are; within = within_more l (k + l) t.spelt (omega arith) t.within } in
    let p = read_back (k + l) a ts x in
    let q = read_back (k + l) b ts y in
    (ok_pair a b (input [] 0) (input [] 0) (sym p ∙ q)).0

-- ---- for the function that reads

pub found_so : (ts : List Token) (p : Program) → ReadsProgram (items max_level (input ts 0)) p → IsSpelled max_level (program p) ts
found_so ts p e = spelled_so max_level (program p) ts e.state e.reads

pub only_so : (ts : List Token) (p : Program) (text : Text) → ReadsProgram (items max_level (input ts 0)) p → IsSpelled max_level text ts → program p ≡ text
only_so ts p text e s = (ok_pair (program p) text e.state (input [] 0) (sym e.reads ∙ read_back max_level text ts s)).0
