-- A text is lexed in one way.
use Rattle.std.proofs.Common.{◌≡◌, ℕ, zero, ◌+◌, ◌≤◌, true, ◌⊎◌, inl, inr, List, [], ◌∷◌, ◌++◌, length, take, drop, ℤ, Option, Some, None, refl, sym, subst, ◌∙◌, ap, arith, append_assoc, append-nil, length-append, get_or}
use Rattle.std.specs.Int.{w32, cast_signed}
use Rattle.std.proofs.lemmas.Bool.Decides.{nat_tests}
use Rattle.forec_base.specs.declared.Place.{Place}
use Rattle.forec_tree.specs.declared.token.Word.{Word}
use Rattle.forec_tree.specs.declared.token.Mark.{Mark}
use Rattle.forec_tree.specs.declared.token.Token.{Token}
use Rattle.forec_tree.specs.declared.token.TokenKind.{TokenKind}
use Rattle.forec_tree.specs.Lexis.{is_space, is_letter, is_digit, spelling, IsComment, block, line, IsInt, OpensComment, Piece, blank, name, number, word, mark, IsPiece, NextPiece, NothingFits}
use Rattle.forec_tree.specs.LexedText.{token_kind_of, names_after, token_at, place_at, slice, Cuts, begins, skips, takes, Lexes, IsLexed, IsBad, IsMany}
use Rattle.forec_lexer.specs.Reading.{words, word_in, marks, mark_ahead}
use Rattle.forec_lexer.proofs.NumberLemmas.{number_complete}
use Rattle.forec_lexer.proofs.EachSpelling.{NoRun, word_back, mark_back}
use Rattle.forec_lexer.proofs.FrontLemmas.{First, first, some_byte, letter_no_space, digit_no_space, digit_no_letter}

-- ---- the same bytes are one piece

comment_open : (bytes behind : List ℕ) → IsComment bytes behind → OpensComment (bytes ++ behind)
comment_open bytes behind (block inner e h) = inl (rw e)
comment_open bytes behind (line inner e h f) = inr (rw e)

slash_no_letter : (b : ℕ) → is_letter b ≡ true → b ≡ 47 → ⊥
slash_no_letter b s e = grind (arith, nat_tests)

slash_no_digit : (b : ℕ) → is_digit b ≡ true → b ≡ 47 → ⊥
slash_no_digit b s e = grind (arith, nat_tests)

letter_no_blank : (b : ℕ) → is_letter b ≡ true → (is_space b ≡ true) ⊎ (b ≡ 47) → ⊥
letter_no_blank b l (inl s) = let e = letter_no_space b l in cc
letter_no_blank b l (inr s) = slash_no_letter b l s

digit_no_blank : (b : ℕ) → is_digit b ≡ true → (is_space b ≡ true) ⊎ (b ≡ 47) → ⊥
digit_no_blank b d (inl s) = let e = digit_no_space b d in cc
digit_no_blank b d (inr s) = slash_no_digit b d s

mark_no_blank : (m : Mark) (b : ℕ) (bs behind : List ℕ) → NoRun b → IsPiece (mark m) (b ∷ bs) behind → IsPiece blank (b ∷ bs) behind → ⊥
mark_no_blank m b bs behind n f (inl g) = let k : b ≡ g.0 = cc in let t : is_space b ≡ true = rw k g.1 in let e = n.space in cc
mark_no_blank m b bs behind n f (inr g) = f.1 (comment_open (b ∷ bs) behind g)

abbrev some_nat : ℕ → Option ℕ
some_nat v = Some v

same_nat : (v w : ℕ) → some_nat v ≡ some_nat w → v ≡ w
same_nat v w h = cc

abbrev some_word : Word → Option Word
some_word w = Some w

same_word : (v w : Word) → some_word v ≡ some_word w → v ≡ w
same_word v w h = cc

abbrev mark_with : Mark → Option (Mark × ℕ)
mark_with m = Some (m, length (spelling m))

same_mark : (m x : Mark) → mark_with m ≡ mark_with x → m ≡ x
same_mark m x h = let e : (m, length (spelling m)) ≡ (x, length (spelling x)) = cc in ap (λ (r : Mark × ℕ). r.0) e

one_int : (bytes : List ℕ) (y z : ℤ) → IsInt bytes y → IsInt bytes z → y ≡ z
one_int bytes y z f g =
    let a = number_complete bytes f.value f.number f.small in
    let b = number_complete bytes g.value g.number g.small in
    f.same_bits ∙ ap (cast_signed w32) (same_nat f.value g.value (sym a ∙ b)) ∙ sym g.same_bits

one_piece : (p q : Piece) (b : ℕ) (bs behind : List ℕ) → IsPiece p (b ∷ bs) behind → IsPiece q (b ∷ bs) behind → First p b → First q b → p ≡ q
one_piece blank blank b bs behind f g s t = refl
one_piece blank name b bs behind f g s t = absurd (letter_no_blank b t s)
one_piece blank (number z) b bs behind f g s t = absurd (digit_no_blank b t s)
one_piece blank (word w) b bs behind f g s t = absurd (letter_no_blank b t s)
one_piece blank (mark m) b bs behind f g s t = absurd (mark_no_blank m b bs behind t g f)
one_piece name blank b bs behind f g s t = absurd (letter_no_blank b s t)
one_piece name name b bs behind f g s t = refl
one_piece name (number z) b bs behind f g s t = absurd (let e = digit_no_letter b t in cc)
one_piece name (word w) b bs behind f g s t = absurd (f.1 (w, g))
one_piece name (mark m) b bs behind f g s t = absurd (let e = t.letter in cc)
one_piece (number y) blank b bs behind f g s t = absurd (digit_no_blank b s t)
one_piece (number y) name b bs behind f g s t = absurd (let e = digit_no_letter b s in cc)
one_piece (number y) (number z) b bs behind f g s t = ap number (one_int (b ∷ bs) y z f.0 g.0)
one_piece (number y) (word w) b bs behind f g s t = absurd (let e = digit_no_letter b s in cc)
one_piece (number y) (mark m) b bs behind f g s t = absurd (let e = t.digit in cc)
one_piece (word w) blank b bs behind f g s t = absurd (letter_no_blank b s t)
one_piece (word w) name b bs behind f g s t = absurd (g.1 (w, f))
one_piece (word w) (number z) b bs behind f g s t = absurd (let e = digit_no_letter b t in cc)
one_piece (word w) (word x) b bs behind f g s t = ap word (same_word w x (sym (word_back w) ∙ ap (word_in words) (sym f ∙ g) ∙ word_back x))
one_piece (word w) (mark m) b bs behind f g s t = absurd (let e = t.letter in cc)
one_piece (mark m) blank b bs behind f g s t = absurd (mark_no_blank m b bs behind s f g)
one_piece (mark m) name b bs behind f g s t = absurd (let e = s.letter in cc)
one_piece (mark m) (number z) b bs behind f g s t = absurd (let e = s.digit in cc)
one_piece (mark m) (word w) b bs behind f g s t = absurd (let e = s.letter in cc)
one_piece (mark m) (mark x) b bs behind f g s t = ap mark (same_mark m x (sym (mark_back m) ∙ ap (mark_ahead marks) (sym f.0 ∙ g.0) ∙ mark_back x))

one_sort : (p q : Piece) (bs behind : List ℕ) → IsPiece p bs behind → IsPiece q bs behind → p ≡ q
one_sort p q [] behind f g = absurd (some_byte p behind f)
one_sort p q (b ∷ bs) behind f g = one_piece p q b bs behind f g (first p b bs behind f) (first q b bs behind g)

pub next_one : (text : List ℕ) (p q : Piece) (n m : ℕ) → NextPiece text p n → NextPiece text q m → (p ≡ q) × (n ≡ m)
next_one text p q n m x y =
    let a : m ≤ n = x.longest q m y.fits in
    let b : n ≤ m = y.longest p n x.fits in
    let same : m ≡ n = omega arith in
    let P : ℕ → Type 0 = λ z. IsPiece q (take z text) (drop z text) in
    (one_sort p q (take n text) (drop n text) x.fits.fits (subst P same y.fits.fits), sym same)

-- ---- from piece to piece

pub record State : Type 0 where
  pub tokens : List Token
  pub names : List (List ℕ)
  pub at : ℕ

abbrev pub state : List Token → List (List ℕ) → ℕ → State
state ts ns a = record { tokens = ts; names = ns; at = a }

-- the state after a piece
abbrev given : List ℕ → State → Piece → ℕ → Option TokenKind → State
given text s p n None = state s.tokens s.names (s.at + n)
given text s p n (Some k) = state (s.tokens ++ token_at text s.at n k ∷ []) (names_after s.names p (slice text s.at n)) (s.at + n)

abbrev behind_piece : List ℕ → State → Piece → ℕ → State
behind_piece text s p n = given text s p n (token_kind_of s.names p (slice text s.at n))

pub record TakesPiece (text : List ℕ) (s t : State) : Type 0 where
  pub piece : Piece
  pub size : ℕ
  pub next : NextPiece (drop s.at text) piece size
  pub is : t ≡ behind_piece text s piece size

step_one : (text : List ℕ) (s t u : State) → TakesPiece text s t → TakesPiece text s u → t ≡ u
step_one text s t u x y =
    let e = next_one (drop s.at text) x.piece y.piece x.size y.size x.next y.next in
    x.is ∙ ap (λ p. behind_piece text s p x.size) e.0 ∙ ap (λ n. behind_piece text s y.piece n) e.1 ∙ sym y.is

pub data TakesPieces (text : List ℕ) : State → State → Type 0 where
  stays : {s : State} → TakesPieces text s s
  goes : {s t u : State} → TakesPiece text s t → TakesPieces text t u → TakesPieces text s u

one_more : {text : List ℕ} {s t u : State} → TakesPieces text s t → TakesPiece text t u → TakesPieces text s u
one_more stays x = goes x stays
one_more (goes y g) x = goes y (one_more g x)

abbrev pub start : State
start = state [] [] zero

pub goes_there : {text : List ℕ} {ts : List Token} {ns : List (List ℕ)} {a : ℕ} → Cuts text ts ns a → TakesPieces text start (state ts ns a)
goes_there begins = stays
goes_there (skips n c x) = one_more (goes_there c) (record { piece = blank; size = n; next = x; is = refl })
goes_there {text} (takes {tokens} {names} {at} p n k c x e) =
    one_more (goes_there c) (record { piece = p; size = n; next = x; is = ap (given text (state tokens names at) p n) (sym e) })

linear : {text : List ℕ} {s t u : State} → TakesPieces text s t → TakesPieces text s u → TakesPieces text t u ⊎ TakesPieces text u t
linear stays g = inl g
linear (goes x f) stays = inr (goes x f)
linear {text} (goes {s} {t} x f) (goes {t = v} {u} y g) =
    let e = step_one text s t v x y in
    let P : State → Type 0 = λ z. TakesPieces text z u in
    linear f (subst P (sym e) g)

no_more : {text : List ℕ} {s t : State} → NothingFits (drop s.at text) → TakesPieces text s t → s ≡ t
no_more h stays = refl
no_more h (goes x g) = absurd (h x.piece x.size x.next.fits)

pub record Longer (ts us : List Token) : Type 0 where
  pub more : List Token
  pub are : us ≡ ts ++ more

step_longer : (text : List ℕ) (s : State) (p : Piece) (n : ℕ) (o : Option TokenKind) → Longer s.tokens (given text s p n o).tokens
step_longer text s p n None = record { more = []; are = sym (append-nil s.tokens) }
step_longer text s p n (Some k) = record { more = token_at text s.at n k ∷ []; are = refl }

longer : {text : List ℕ} {s t : State} → TakesPieces text s t → Longer s.tokens t.tokens
longer {s} stays = record { more = []; are = sym (append-nil s.tokens) }
longer {text} (goes {s} {t} {u} x g) =
    let r = longer g in
    let q = step_longer text s x.piece x.size (token_kind_of s.names x.piece (slice text s.at x.size)) in
    let e : t.tokens ≡ s.tokens ++ q.more = ap (λ z. z.tokens) x.is ∙ q.are in
    record { more = q.more ++ r.more; are = r.are ∙ ap (λ z. z ++ r.more) e ∙ append_assoc s.tokens q.more r.more }

-- ---- the ends

same_end : {text : List ℕ} {s t : State} → TakesPieces text start s → TakesPieces text start t → NothingFits (drop s.at text) → NothingFits (drop t.at text) → s ≡ t
same_end f g x y = elim (linear f g) [ inl k ↦ no_more x k | inr k ↦ sym (no_more y k) ]

pub one_way : (text : List ℕ) (ts us : List Token) (ns ms : List (List ℕ)) (a b : ℕ) → Lexes text ts ns a → Lexes text us ms b → (ts ≡ us) × (ns ≡ ms) × (a ≡ b)
one_way text ts us ns ms a b x y =
    let e = same_end (goes_there x.cuts) (goes_there y.cuts) x.stops y.stops in
    (ap (λ (s : State). s.tokens) e, ap (λ (s : State). s.names) e, ap (λ (s : State). s.at) e)

longer_length : (ts us : List Token) → Longer ts us → length ts ≤ length us
longer_length ts us l = omega (arith, ap length l.are, length-append ts l.more)

-- no front goes past the end of the lexed front
pub within_end : (text : List ℕ) (ts us : List Token) (ns ms : List (List ℕ)) (a b : ℕ) → Lexes text ts ns a → Cuts text us ms b → length us ≤ length ts
within_end text ts us ns ms a b x y =
    elim (linear (goes_there y) (goes_there x.cuts)) [
      | inl k ↦ longer_length us ts (longer k)
      | inr k ↦ let e : state ts ns a ≡ state us ms b = no_more x.stops k in let f : length ts ≡ length us = ap (λ (s : State). length s.tokens) e in omega arith
    ]

longer_same : (ts us : List Token) → Longer ts us → length ts ≡ length us → ts ≡ us
longer_same ts us l e = by l.more l.are (omega (arith, ap length l.are, length-append ts l.more))
  where
    by : (more : List Token) → us ≡ ts ++ more → length more ≡ 0 → ts ≡ us
    by [] f z = sym (f ∙ append-nil ts)
    by (m ∷ ms) f z = absurd (omega arith)

pub same_tokens : (text : List ℕ) (ts us : List Token) (ns ms : List (List ℕ)) (a b : ℕ) → Cuts text ts ns a → Cuts text us ms b → length ts ≡ length us → ts ≡ us
same_tokens text ts us ns ms a b x y e =
    elim (linear (goes_there x) (goes_there y)) [
      | inl k ↦ longer_same ts us (longer k) e
      | inr k ↦ sym (longer_same us ts (longer k) (sym e))
    ]

last_is : (ts : List Token) (t d : Token) → get_or (ts ++ t ∷ []) (length ts) d ≡ t
last_is [] t d = refl
last_is (x ∷ xs) t d = last_is xs t d

same_last : (ts us : List Token) (t u : Token) → length ts ≡ length us → ts ++ t ∷ [] ≡ us ++ u ∷ [] → t ≡ u
same_last ts us t u n e = sym (last_is ts t t) ∙ ap (λ z. get_or z (length ts) t) e ∙ ap (λ k. get_or (us ++ u ∷ []) k t) n ∙ last_is us u t

-- ---- the causes exclude each other, and each has one place

pub one_lexed : (text : List ℕ) (ts us : List Token) (ns ms : List (List ℕ)) → IsLexed text ts ns → IsLexed text us ms → (ts ≡ us) × (ns ≡ ms)
one_lexed text ts us ns ms x y = let e = one_way text ts us ns ms (length text) (length text) x.lexes y.lexes in (e.0, e.1)

pub lexed_not_bad : (text : List ℕ) (ts : List Token) (ns : List (List ℕ)) (p : Place) → IsLexed text ts ns → IsBad text p → ⊥
lexed_not_bad text ts ns p x y = let e = one_way text ts y.tokens ns y.names (length text) y.stop x.lexes y.lexes in omega (arith, e.2, y.goes_on)

full_length : (ts : List Token) (t : Token) → length ts ≡ 200000 → length (ts ++ t ∷ []) ≡ 200001
full_length ts t e = omega (arith, length-append ts (t ∷ []), e)

pub lexed_not_many : (text : List ℕ) (ts : List Token) (ns : List (List ℕ)) (p : Place) → IsLexed text ts ns → IsMany text p → ⊥
lexed_not_many text ts ns p x y =
    let l = within_end text ts (y.tokens ++ y.token ∷ []) ns y.names (length text) y.at x.lexes y.cuts in
    omega (arith, l, full_length y.tokens y.token y.full, x.few)

pub bad_not_many : (text : List ℕ) (p q : Place) → IsBad text p → IsMany text q → ⊥
bad_not_many text p q x y =
    let l = within_end text x.tokens (y.tokens ++ y.token ∷ []) x.names y.names x.stop y.at x.lexes y.cuts in
    omega (arith, l, full_length y.tokens y.token y.full, x.few)

pub one_bad : (text : List ℕ) (p q : Place) → IsBad text p → IsBad text q → p ≡ q
one_bad text p q x y =
    let e = one_way text x.tokens y.tokens x.names y.names x.stop y.stop x.lexes y.lexes in
    x.place_is ∙ ap (place_at text) e.2 ∙ sym y.place_is

pub one_many : (text : List ℕ) (p q : Place) → IsMany text p → IsMany text q → p ≡ q
one_many text p q x y =
    let n : length x.tokens ≡ length y.tokens = x.full ∙ sym y.full in
    let m : length (x.tokens ++ x.token ∷ []) ≡ length (y.tokens ++ y.token ∷ []) = full_length x.tokens x.token x.full ∙ sym (full_length y.tokens y.token y.full) in
    let e = same_tokens text (x.tokens ++ x.token ∷ []) (y.tokens ++ y.token ∷ []) x.names y.names x.at y.at x.cuts y.cuts m in
    x.place_is ∙ ap (λ t. t.place) (same_last x.tokens y.tokens x.token y.token n e) ∙ sym y.place_is
