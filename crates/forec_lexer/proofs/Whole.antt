-- One turn of the loop over a text, its exits, and what the names of a front are.
use Rattle.std.proofs.Common.{◌≡◌, ℕ, zero, suc, ◌+◌, ◌-◌, ◌<◌, ◌≤◌, Bool, true, false, cond, List, [], ◌∷◌, ◌++◌, length, take, drop, Option, Some, None, refl, sym, subst, ◌∙◌, ap, arith, length-append}
use Rattle.std.specs.List.{fold, slice_get, All}
use Rattle.std.proofs.Math.Seq.{take-add}
use Rattle.std.proofs.Math.ListN.{drop_of_length-le}
use Rattle.std.proofs.lemmas.List.{length-take-le}
use Rattle.std.proofs.lemmas.List.Sums.{fold-append}
use Rattle.std.proofs.lemmas.Option.{slice_get_within, get_or_from_slice_get}
use Rattle.std.proofs.lemmas.List.Elements.{All-nil, All-push, All-weaker}
use Rattle.forec_base.specs.declared.Place.{Place}
use Rattle.forec_tree.specs.declared.token.Token.{Token}
use Rattle.forec_tree.specs.declared.token.TokenKind.{TokenKind}
use Rattle.forec_tree.specs.declared.token.TokenKind.TheVariants as kind
use Rattle.forec_tree.specs.Lexis.{Piece, blank, name, number, word, mark, is_line_end, NextPiece, NothingFits}
use Rattle.forec_tree.specs.LexedText.{place_after, first_place, place_at, name_number, with_spelt_name, token_kind_of, names_after, token_at, slice, Cuts, begins, skips, takes, IsLexed, IsBad, AreDistinct, IsSpelt, NumbersSpellings, AreInOrder, token_bytes}
use Rattle.forec_lexer.specs.declared.fault.LexFault.{LexFault}
use Rattle.forec_lexer.specs.declared.fault.LexFault.TheVariants as fault
use Rattle.forec_lexer.specs.Answers.{kept, IsFull, HasLexCause}
use Rattle.forec_lexer.proofs.FrontLemmas.{some_byte}
use Rattle.forec_lexer.proofs.NameLemmas.{spelt_there, name_kept, names_more, with_distinct}

-- ---- places

pub place_step : (text : List ℕ) (at n : ℕ) → place_at text (at + n) ≡ fold place_after (place_at text at) (slice text at n)
place_step text at n = ap (fold place_after first_place) (take-add at n text) ∙ fold-append place_after first_place (take at text) (take n (drop at text))

pub record Within (p : Place) (n : ℕ) (q : Place) : Type 0 where
  pub line : q.line ≤ p.line + n
  pub column : q.column ≤ p.column + suc n

abbrev one_on : Place → Bool → Place
one_on p t = cond t (record { line = suc p.line; column = 1 }) (record { line = p.line; column = suc p.column })

fold_within : (p : Place) (bs : List ℕ) → Within p (length bs) (fold place_after p bs)
fold_within p [] = record { line = omega arith; column = omega arith }
fold_within p (b ∷ bs) = by (is_line_end b) (fold_within (place_after p b) bs)
  where
    by : (t : Bool) → Within (one_on p t) (length bs) (fold place_after (one_on p t) bs) → Within p (suc (length bs)) (fold place_after (one_on p t) bs)
    by true r = record { line = let x = r.line in omega arith; column = let x = r.column in omega arith }
    by false r = record { line = let x = r.line in omega arith; column = let x = r.column in omega arith }

pub record Bounded (at : ℕ) (p : Place) : Type 0 where
  pub line : p.line ≤ suc at
  pub column : p.column ≤ suc (suc at)

pub place_within : (text : List ℕ) (at : ℕ) → at ≤ length text → Bounded at (place_at text at)
place_within text at le =
    let r = fold_within first_place (take at text) in
    let n : length (take at text) ≡ at = length-take-le at text le in
    record { line = omega (arith, r.line, n); column = omega (arith, r.column, n) }

-- ---- a turn

pub start : (text : List ℕ) (tokens : List Token) (names : List (List ℕ)) → tokens ≡ [] → names ≡ [] → Cuts text tokens names 0
start text tokens names t n =
    let P : List Token → Type 0 = λ z. Cuts text z [] 0 in
    let Q : List (List ℕ) → Type 0 = λ z. Cuts text tokens z 0 in
    subst Q (sym n) (subst P (sym t) begins)

blank_only : (names : List (List ℕ)) (p : Piece) (bytes : List ℕ) → None ≡ token_kind_of names p bytes → p ≡ blank
blank_only names blank bytes h = refl
blank_only names name bytes h = absurd (cc)
blank_only names (number z) bytes h = absurd (cc)
blank_only names (word w) bytes h = absurd (cc)
blank_only names (mark m) bytes h = absurd (cc)

pub turn : (text : List ℕ) (tokens : List Token) (names after : List (List ℕ)) (at n : ℕ) (p : Piece) (k : Option TokenKind) → Cuts text tokens names at → NextPiece (drop at text) p n
    → k ≡ token_kind_of names p (slice text at n) → after ≡ names_after names p (slice text at n) → Cuts text (kept tokens k at (at + n) (place_at text at)) after (at + n)
turn text tokens names after at n p None c x h e =
    let b = blank_only names p (slice text at n) h in
    let P : Piece → Type 0 = λ z. NextPiece (drop at text) z n in
    let Q : List (List ℕ) → Type 0 = λ z. Cuts text tokens z (at + n) in
    let f : names ≡ after = sym (e ∙ ap (λ z. names_after names z (slice text at n)) b) in
    subst Q f (skips n c (subst P b x))
turn text tokens names after at n p (Some k) c x h e =
    let Q : List (List ℕ) → Type 0 = λ z. Cuts text (tokens ++ token_at text at n k ∷ []) z (at + n) in
    subst Q (sym e) (takes p n k c x (sym h))

pub full : (text : List ℕ) (tokens : List Token) (names : List (List ℕ)) (at n : ℕ) (p : Piece) (k : Option TokenKind) (f : LexFault) → Cuts text tokens names at → NextPiece (drop at text) p n
    → k ≡ token_kind_of names p (slice text at n) → IsFull tokens k (place_at text at) f → HasLexCause text f
full text tokens names at n p k (fault.Bad q) c x h i = absurd i
full text tokens names at n p None (fault.Many q) c x h i = absurd i
full text tokens names at n p (Some k) (fault.Many q) c x h i =
    record { tokens = tokens; token = token_at text at n k; names = names_after names p (slice text at n); at = at + n; cuts = takes p n k c x (sym h); full = i.1; place_is = i.0 }
full text tokens names at n p k fault.OutOfMemory c x h i = tt

-- ---- the ends

nothing_left : NothingFits []
nothing_left p zero f = some_byte p [] f.fits
nothing_left p (suc n) f = absurd (let w = f.within in omega arith)

pub at_end : (text : List ℕ) (tokens : List Token) (names : List (List ℕ)) (at : ℕ) → Cuts text tokens names at → at ≤ length text → length text ≤ at → length tokens ≤ 200000 → IsLexed text tokens names
at_end text tokens names at c le ge few =
    let e : at ≡ length text = omega arith in
    let P : ℕ → Type 0 = λ z. Cuts text tokens names z in
    let Q : List ℕ → Type 0 = λ z. NothingFits z in
    record { lexes = record { cuts = subst P e c; stops = subst Q (sym (drop_of_length-le text (omega arith))) nothing_left }; few = few }

pub at_stop : (text : List ℕ) (tokens : List Token) (names : List (List ℕ)) (at : ℕ) (place : Place) → Cuts text tokens names at → NothingFits (drop at text) → at < length text → length tokens ≤ 200000
    → place ≡ place_at text at → IsBad text place
at_stop text tokens names at place c h lt few e = record { tokens = tokens; names = names; stop = at; lexes = record { cuts = c; stops = h }; few = few; goes_on = lt; place_is = e }

-- ---- the names of a front

pub record Named (text : List ℕ) (tokens : List Token) (names : List (List ℕ)) : Type 0 where
  pub few : length names ≤ length tokens
  pub distinct : AreDistinct names
  pub spelt : All (IsSpelt text names) tokens

none_distinct : AreDistinct []
none_distinct i j x a b = absurd (cc)

names_few : (names : List (List ℕ)) (p : Piece) (bytes : List ℕ) → length (names_after names p bytes) ≤ suc (length names)
names_few names blank bytes = omega arith
names_few names name bytes = names_more names bytes
names_few names (number z) bytes = omega arith
names_few names (word w) bytes = omega arith
names_few names (mark m) bytes = omega arith

names_distinct : (names : List (List ℕ)) (p : Piece) (bytes : List ℕ) → AreDistinct names → AreDistinct (names_after names p bytes)
names_distinct names blank bytes d = d
names_distinct names name bytes d = with_distinct names bytes d
names_distinct names (number z) bytes d = d
names_distinct names (word w) bytes d = d
names_distinct names (mark m) bytes d = d

names_kept : (names : List (List ℕ)) (p : Piece) (bytes : List ℕ) (i : ℕ) (x : List ℕ) → slice_get names i ≡ Some x → slice_get (names_after names p bytes) i ≡ Some x
names_kept names blank bytes i x h = h
names_kept names name bytes i x h = name_kept names bytes i x h
names_kept names (number z) bytes i x h = h
names_kept names (word w) bytes i x h = h
names_kept names (mark m) bytes i x h = h

abbrev some_kind : TokenKind → Option TokenKind
some_kind k = Some k

same_kind : (j k : TokenKind) → some_kind j ≡ some_kind k → j ≡ k
same_kind j k h = cc

same_id : (i j : ℕ) → kind.Name i ≡ kind.Name j → i ≡ j
same_id i j h = cc

number_spelt : (names : List (List ℕ)) (p : Piece) (bytes : List ℕ) (k : TokenKind) (i : ℕ) → token_kind_of names p bytes ≡ some_kind k → k ≡ kind.Name i → slice_get (names_after names p bytes) i ≡ Some bytes
number_spelt names blank bytes k i h e = absurd (cc)
number_spelt names name bytes k i h e =
    let f : name_number names bytes ≡ i = same_id (name_number names bytes) i (same_kind (kind.Name (name_number names bytes)) k h ∙ e) in
    ap (slice_get (with_spelt_name names bytes)) (sym f) ∙ spelt_there names bytes
number_spelt names (number z) bytes k i h e = absurd (let f = same_kind (kind.Number z) k h ∙ e in cc)
number_spelt names (word w) bytes k i h e = absurd (let f = same_kind (kind.Word w) k h ∙ e in cc)
number_spelt names (mark m) bytes k i h e = absurd (let f = same_kind (kind.Mark m) k h ∙ e in cc)

token_spelt : (text : List ℕ) (names : List (List ℕ)) (p : Piece) (at n : ℕ) (k : TokenKind) → token_kind_of names p (slice text at n) ≡ some_kind k → IsSpelt text (names_after names p (slice text at n)) (token_at text at n k)
token_spelt text names p at n k h i e =
    let f : n ≡ at + n - at = omega arith in
    number_spelt names p (slice text at n) k i h e ∙ ap (λ z. Some (slice text at z)) f

pub named : {text : List ℕ} {tokens : List Token} {names : List (List ℕ)} {at : ℕ} → Cuts text tokens names at → Named text tokens names
named {text} begins = record { few = omega arith; distinct = none_distinct; spelt = All-nil (IsSpelt text []) }
named (skips n c x) = named c
named {text} (takes {tokens} {names} {at} p n k c x h) =
    let r = named c in
    let after : List (List ℕ) = names_after names p (slice text at n) in
    record {
      few = omega (arith, r.few, names_few names p (slice text at n), length-append tokens (token_at text at n k ∷ []));
      distinct = names_distinct names p (slice text at n) r.distinct;
      spelt =
          All-push (IsSpelt text (names_after names p (slice text at n))) tokens (token_at text at n k)
          (All-weaker (IsSpelt text names) (IsSpelt text (names_after names p (slice text at n))) (λ t s i e. names_kept names p (slice text at n) i (slice text t.start (t.end - t.start)) (s i e)) tokens r.spelt)
          (token_spelt text names p at n k h);
    }

-- ---- the tokens of a front

order_push : (from to end : ℕ) (ts : List Token) (t : Token) → AreInOrder from ts to → to ≤ t.start → t.start < t.end → t.end ≤ end → AreInOrder from (ts ++ t ∷ []) end
order_push from to end [] t h a b c = (omega (arith, h), b, c)
order_push from to end (x ∷ xs) t h a b c = (h.0, h.1, order_push x.end to end xs t h.2 a b c)

order_wide : (from to end : ℕ) (ts : List Token) → AreInOrder from ts to → to ≤ end → AreInOrder from ts end
order_wide from to end [] h a = omega (arith, h)
order_wide from to end (x ∷ xs) h a = (h.0, h.1, order_wide x.end to end xs h.2 a)

some_size : (text : List ℕ) (p : Piece) (n : ℕ) → NextPiece text p n → 0 < n
some_size text p zero r = absurd (some_byte p text r.fits.fits)
some_size text p (suc n) r = omega arith

pub in_order : {text : List ℕ} {tokens : List Token} {names : List (List ℕ)} {at : ℕ} → Cuts text tokens names at → AreInOrder 0 tokens at
in_order begins = omega arith
in_order (skips {tokens} {at} n c x) = order_wide 0 at (at + n) tokens (in_order c) (omega arith)
in_order {text} (takes {tokens} {at} p n k c x h) =
    let s = some_size (drop at text) p n x in
    order_push 0 at (at + n) tokens (token_at text at n k) (in_order c) (omega arith) (omega arith) (omega arith)

all_at : (P : Token → Type 0) (ts : List Token) (a : ℕ) (t : Token) → All P ts → slice_get ts a ≡ Some t → P t
all_at P ts a t h e = subst P (get_or_from_slice_get ts a t t e) (h a t (slice_get_within ts a t e))

name_at : (names : List (List ℕ)) (i : ℕ) (x y : List ℕ) → slice_get names i ≡ Some x → slice_get names i ≡ Some y → x ≡ y
name_at names i x y a b = let e = sym a ∙ b in cc

pub numbers_spellings : (text : List ℕ) (tokens : List Token) (names : List (List ℕ)) → Named text tokens names → NumbersSpellings text tokens
numbers_spellings text tokens names n a b i j s t sa tb si tj = (there, back)
  where
    first : slice_get names i ≡ Some (token_bytes text s)
    first = all_at (IsSpelt text names) tokens a s n.spelt sa i si

    second : slice_get names j ≡ Some (token_bytes text t)
    second = all_at (IsSpelt text names) tokens b t n.spelt tb j tj

    there : i ≡ j → token_bytes text s ≡ token_bytes text t
    there e = name_at names j (token_bytes text s) (token_bytes text t) (ap (slice_get names) (sym e) ∙ first) second

    back : token_bytes text s ≡ token_bytes text t → i ≡ j
    back e = n.distinct i j (token_bytes text t) (first ∙ ap (λ z. Some z) e) second
