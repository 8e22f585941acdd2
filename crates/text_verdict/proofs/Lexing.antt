-- A text is lexed, or it is bad somewhere, or it has too many tokens: it can't be that none of these holds.
use Rattle.std.proofs.Common.{◌≡◌, ℕ, zero, suc, ◌+◌, ◌<◌, ◌≤◌, Bool, true, false, nat_le, ltb-true, ltb-false, nat_lt, List, [], ◌∷◌, ◌++◌, length, drop, refl, subst, arith, length-append, length-drop}
use Rattle.std.proofs.lemmas.Bool.Decides.{nat_tests}
use Rattle.forec_base.specs.declared.Place.{Place}
use Rattle.forec_tree.specs.declared.token.Token.{Token}
use Rattle.forec_tree.specs.declared.token.TokenKind.TheVariants as kind
use Rattle.forec_tree.specs.Lexis.{Piece, blank, name, number, word, mark, FitsAhead, NextPiece, NothingFits}
use Rattle.forec_tree.specs.LexedText.{name_number, names_after, token_at, slice, place_at, Cuts, begins, skips, takes, Lexes, max_tokens, IsLexed, IsBad, IsMany}
use Rattle.forec_lexer.proofs.FrontLemmas.{some_byte}

-- ---- where something fits, a piece is the longest

module _ (rest : List ℕ) (never : (p : Piece) (n : ℕ) → NextPiece rest p n → ⊥) where
  no_more : (k : ℕ) → ((p : Piece) (n : ℕ) → FitsAhead rest p n → n ≤ k) → (p : Piece) (n : ℕ) → FitsAhead rest p n → ⊥
  no_more zero bound p n f = never p n (record { fits = f; longest = λ q m g. let b = bound q m g in omega arith })
  no_more (suc k) bound p n f = no_more k (λ q m g. shorter q m g (nat_le m k) refl) p n f
    where
      shorter : (q : Piece) (m : ℕ) → FitsAhead rest q m → (t : Bool) → nat_le m k ≡ t → m ≤ k
      shorter q m g true e = grind (arith, nat_tests)
      shorter q m g false e =
          let b = bound q m g in
          let h : m ≡ suc k = grind (arith, nat_tests) in
          absurd (never q m (record { fits = g; longest = λ r i x. let c = bound r i x in omega arith }))

  no_fit : NothingFits rest
  no_fit = no_more (length rest) (λ p n f. f.within)

-- ---- the lexed front ends somewhere

some_bytes : (rest : List ℕ) (p : Piece) (n : ℕ) → FitsAhead rest p n → 0 < n
some_bytes rest p zero f = absurd (some_byte p rest f.fits)
some_bytes rest p (suc n) f = omega arith

record Cut (text : List ℕ) (at : ℕ) : Type 0 where
  tokens : List Token
  names : List (List ℕ)
  cuts : Cuts text tokens names at

next_cut : (text : List ℕ) (at n : ℕ) (p : Piece) → Cut text at → NextPiece (drop at text) p n → Cut text (at + n)
next_cut text at n blank c x = record { tokens = c.tokens; names = c.names; cuts = skips n c.cuts x }
next_cut text at n name c x =
    let k = kind.Name (name_number c.names (slice text at n)) in
    record { tokens = c.tokens ++ token_at text at n k ∷ []; names = names_after c.names name (slice text at n); cuts = takes name n k c.cuts x refl }
next_cut text at n (number i) c x =
    record { tokens = c.tokens ++ token_at text at n (kind.Number i) ∷ []; names = c.names; cuts = takes (number i) n (kind.Number i) c.cuts x refl }
next_cut text at n (word w) c x =
    record { tokens = c.tokens ++ token_at text at n (kind.Word w) ∷ []; names = c.names; cuts = takes (word w) n (kind.Word w) c.cuts x refl }
next_cut text at n (mark m) c x =
    record { tokens = c.tokens ++ token_at text at n (kind.Mark m) ∷ []; names = c.names; cuts = takes (mark m) n (kind.Mark m) c.cuts x refl }

no_end : (text : List ℕ) → ((ts : List Token) (ns : List (List ℕ)) (stop : ℕ) → stop ≤ length text → Lexes text ts ns stop → ⊥)
    → (fuel at : ℕ) → at ≤ length text → length text ≤ at + fuel → Cut text at → ⊥
no_end text never zero at le enough c =
    never c.tokens c.names at le (record {
      cuts = c.cuts;
      stops = no_fit (drop at text) (λ p n x.
          let s = some_bytes (drop at text) p n x.fits in let w = x.fits.within in let l = length-drop at text in omega arith);
    })
no_end text never (suc fuel) at le enough c =
    never c.tokens c.names at le (record {
      cuts = c.cuts;
      stops = no_fit (drop at text) (λ p n x.
          let s = some_bytes (drop at text) p n x.fits in let w = x.fits.within in let l = length-drop at text in
          no_end text never fuel (at + n) (omega arith) (omega arith) (next_cut text at n p c x));
    })

-- ---- more tokens than there may be

record Many (text : List ℕ) : Type 0 where
  place : Place
  is : IsMany text place

many_in : {text : List ℕ} {ts : List Token} {ns : List (List ℕ)} {at : ℕ} → Cuts text ts ns at → max_tokens < length ts → Many text
many_in begins h = absurd (omega arith)
many_in (skips n c x) h = many_in c h
many_in {text} (takes {tokens} {names} {at} p n k c x e) h = by (nat_lt max_tokens (length tokens)) refl (many_in c)
  where
    by : (t : Bool) → nat_lt max_tokens (length tokens) ≡ t → (max_tokens < length tokens → Many text) → Many text
    by true g before = before (ltb-true max_tokens (length tokens) g)
    by false g before =
        let le = ltb-false max_tokens (length tokens) g in
        let l = length-append tokens (token_at text at n k ∷ []) in
        record {
          place = place_at text at;
          is = record {
            tokens = tokens;
            token = token_at text at n k;
            names = names_after names p (slice text at n);
            at = at + n;
            cuts = takes p n k c x e;
            full = omega arith;
            place_is = refl;
          };
        }

-- ---- the three answers

pub some_lexing : (text : List ℕ) → ((ts : List Token) (ns : List (List ℕ)) → IsLexed text ts ns → ⊥) → ((p : Place) → IsBad text p → ⊥)
    → ((p : Place) → IsMany text p → ⊥) → ⊥
some_lexing text no_lexed no_bad no_many =
    no_end text ended (length text) 0 (omega arith) (omega arith) (record { tokens = []; names = []; cuts = begins })
  where
    few : (ts : List Token) (ns : List (List ℕ)) (stop : ℕ) → stop ≤ length text → Lexes text ts ns stop → length ts ≤ max_tokens → (t : Bool) → nat_lt stop (length text) ≡ t → ⊥
    few ts ns stop le x f true e =
        no_bad (place_at text stop)
        (record { tokens = ts; names = ns; stop = stop; lexes = x; few = f; goes_on = ltb-true stop (length text) e; place_is = refl })
    few ts ns stop le x f false e =
        let ge = ltb-false stop (length text) e in
        let same : stop ≡ length text = omega arith in
        no_lexed ts ns (record { lexes = subst (Lexes text ts ns) same x; few = f })

    counted : (ts : List Token) (ns : List (List ℕ)) (stop : ℕ) → stop ≤ length text → Lexes text ts ns stop → (t : Bool) → nat_lt max_tokens (length ts) ≡ t → ⊥
    counted ts ns stop le x true e = let m = many_in x.cuts (ltb-true max_tokens (length ts) e) in no_many m.place m.is
    counted ts ns stop le x false e = few ts ns stop le x (ltb-false max_tokens (length ts) e) (nat_lt stop (length text)) refl

    ended : (ts : List Token) (ns : List (List ℕ)) (stop : ℕ) → stop ≤ length text → Lexes text ts ns stop → ⊥
    ended ts ns stop le x = counted ts ns stop le x (nat_lt max_tokens (length ts)) refl
