-- What the code reads at the front of a text is the longest piece that fits, and where it reads none none fits.
use Rattle.std.proofs.Common.{◌≡◌, ℕ, zero, suc, ◌+◌, ◌<◌, ◌≤◌, Bool, true, false, not, nat_eq, cond, List, [], ◌∷◌, ◌++◌, length, take, drop, ◌⊎◌, inl, inr, ℤ, Option, Some, None, refl, sym, subst, ◌∙◌, ap, arith, codes}
use Rattle.std.specs.List.{take_while, starts_with}
use Rattle.std.specs.Option.{option_map}
use Rattle.std.specs.Int.{w32, cast_signed}
use Rattle.std.specs.Str.{IsAscii}
use Rattle.std.proofs.lemmas.List.{length-take, length-take-le, take-append-drop}
use Rattle.std.proofs.lemmas.List.Sums.{take_while-cons}
use Rattle.std.proofs.lemmas.Bool.Decides.{nat_tests}
use Rattle.forec_tree.specs.declared.token.Word.{Word}
use Rattle.forec_tree.specs.declared.token.Mark.{Mark}
use Rattle.forec_tree.specs.Lexis as lexis
use Rattle.forec_tree.specs.Lexis.{is_space, is_letter, is_digit, continues_name, is_line_end, Each, EndsOr, letters_of, spelling, IsName, IsReserved, IsInt, IsToClose, IsComment, block, line, OpensComment, IsBlank, IsPiece, FitsAhead, NextPiece, NothingFits}
use Rattle.forec_lexer.specs.declared.pieces.Piece.{Piece}
use Rattle.forec_lexer.specs.declared.pieces.Piece.TheVariants as piece
use Rattle.forec_lexer.specs.Reading.{shown, IsText, words, word_in, marks, mark_ahead, lexed_number, close_from, is_in_line, run, word_or_name, letters_ahead, number_ahead, sign_ahead, piece_ahead}
use Rattle.forec_lexer.proofs.Runs.{run_within, run_front, run_each, run_longest, run_ends, run_is}
use Rattle.forec_lexer.proofs.NumberLemmas.{number_sound, number_complete, number_goes_on, number_first, number_some}
use Rattle.forec_lexer.proofs.CommentLemmas.{Closed, close_found, close_there, Comment, is_block, is_line, comment_opens, comment_some, comment_long, comment_is}
use Rattle.forec_lexer.proofs.Tables.{Begins, begins_true, begins_false, mark_found, mark_none, word_found, word_none}
use Rattle.forec_lexer.proofs.EachSpelling.{word_first, word_some, word_goes_on, word_among, NoRun, mark_first, mark_some, mark_among, marks_sorted}

-- ---- the first byte tells the sort of a piece

pub letter_no_space : (b : ℕ) → is_letter b ≡ true → is_space b ≡ false
letter_no_space b h = grind (arith, nat_tests)

pub digit_no_space : (b : ℕ) → is_digit b ≡ true → is_space b ≡ false
digit_no_space b h = grind (arith, nat_tests)

pub digit_no_letter : (b : ℕ) → is_digit b ≡ true → is_letter b ≡ false
digit_no_letter b h = grind (arith, nat_tests)

letter_goes_on : (b : ℕ) → is_letter b ≡ true → continues_name b ≡ true
letter_goes_on b h = rw h

digit_goes_on : (b : ℕ) → is_digit b ≡ true → continues_name b ≡ true
digit_goes_on b h = grind (arith, nat_tests)

goes_on_ascii : (b : ℕ) → continues_name b ≡ true → b < 128
goes_on_ascii b h = grind (arith, nat_tests)

abbrev pub First : lexis.Piece → ℕ → Type 0
First lexis.blank b = (is_space b ≡ true) ⊎ (b ≡ 47)
First lexis.name b = is_letter b ≡ true
First (lexis.number z) b = is_digit b ≡ true
First (lexis.word w) b = is_letter b ≡ true
First (lexis.mark m) b = NoRun b

pub first : (p : lexis.Piece) (b : ℕ) (bs behind : List ℕ) → IsPiece p (b ∷ bs) behind → First p b
first lexis.blank b bs behind (inl f) = let e : b ≡ f.0 = cc in inl (rw e f.1)
first lexis.blank b bs behind (inr f) = inr (comment_opens b bs behind f)
first lexis.name b bs behind f = f.0.0
first (lexis.number z) b bs behind f = number_first b bs f.0.value f.0.number
first (lexis.word w) b bs behind f = word_first w b bs f
first (lexis.mark m) b bs behind f = mark_first m b bs f.0

pub some_byte : (p : lexis.Piece) (behind : List ℕ) → IsPiece p [] behind → ⊥
some_byte lexis.blank behind (inl f) = let e : [] ≡ f.0 ∷ [] = f.2 in cc
some_byte lexis.blank behind (inr f) = comment_some behind f
some_byte lexis.name behind f = f.0
some_byte (lexis.number z) behind f = number_some f.0.value f.0.number
some_byte (lexis.word w) behind f = word_some w f
some_byte (lexis.mark m) behind f = mark_some m f.0

-- ---- the judgement

abbrev pub Reads : List ℕ → Option (Piece × ℕ) → Type 0
Reads text None = NothingFits text
Reads text (Some r) = NextPiece text (shown r.0) r.1

-- ---- white space

reads_space : (b : ℕ) (bs : List ℕ) → is_space b ≡ true → NextPiece (b ∷ bs) lexis.blank 1
reads_space b bs h = record { fits = record { within = omega arith; fits = inl (b, h, refl) }; longest = longest }
  where
    no_comment : (c : ℕ) → is_space c ≡ true → c ≡ 47 → ⊥
    no_comment c s e = grind (arith, nat_tests)

    only : (q : lexis.Piece) (k : ℕ) → k ≤ length bs → IsPiece q (b ∷ take k bs) (drop k bs) → First q b → suc k ≤ 1
    only lexis.blank k le (inl f) s = let e : take k bs ≡ [] = cc in let n : length (take k bs) ≡ 0 = ap length e in omega (arith, length-take-le k bs le)
    only lexis.blank k le (inr f) s = absurd (no_comment b h (comment_opens b (take k bs) (drop k bs) f))
    only lexis.name k le f s = absurd (let e = letter_no_space b s in cc)
    only (lexis.number z) k le f s = absurd (let e = digit_no_space b s in cc)
    only (lexis.word w) k le f s = absurd (let e = letter_no_space b s in cc)
    only (lexis.mark m) k le f s = absurd (let e = s.space in cc)

    longest : (q : lexis.Piece) (m : ℕ) → FitsAhead (b ∷ bs) q m → m ≤ 1
    longest q zero f = omega arith
    longest q (suc k) f = only q k (let w = f.within in omega arith) f.fits (first q b (take k bs) (drop k bs) f.fits)

-- ---- names and words

slash_no_letter : (b : ℕ) → is_letter b ≡ true → b ≡ 47 → ⊥
slash_no_letter b s e = grind (arith, nat_tests)

letters_only : (b : ℕ) (bs : List ℕ) → is_letter b ≡ true → (q : lexis.Piece) (k : ℕ) → k ≤ length bs → IsPiece q (b ∷ take k bs) (drop k bs) → First q b → suc k ≤ length (run (b ∷ bs))
letters_only b bs h lexis.blank k le f (inl s) = absurd (let e = letter_no_space b h in cc)
letters_only b bs h lexis.blank k le f (inr s) = absurd (slash_no_letter b h s)
letters_only b bs h lexis.name k le f s = run_longest continues_name (b ∷ bs) (suc k) (omega arith) (letter_goes_on b h, f.0.1)
letters_only b bs h (lexis.number z) k le f s = absurd (let e = digit_no_letter b s in cc)
letters_only b bs h (lexis.word w) k le f s = run_longest continues_name (b ∷ bs) (suc k) (omega arith) (let P : List ℕ → Type 0 = λ z. Each continues_name z in subst P (sym f) (word_goes_on w))
letters_only b bs h (lexis.mark m) k le f s = absurd (let e = s.letter in cc)

letters_longest : (b : ℕ) (bs : List ℕ) → is_letter b ≡ true → (q : lexis.Piece) (m : ℕ) → FitsAhead (b ∷ bs) q m → m ≤ length (run (b ∷ bs))
letters_longest b bs h q zero f = omega arith
letters_longest b bs h q (suc k) f = letters_only b bs h q k (let w = f.within in omega arith) f.fits (first q b (take k bs) (drop k bs) f.fits)

is_name : (b : ℕ) (bs : List ℕ) → is_letter b ≡ true → IsName (run (b ∷ bs))
is_name b bs h = let g = letter_goes_on b h in rw (take_while-cons continues_name b bs, g) (h, run_each continues_name bs)

letters_fit : (bytes behind : List ℕ) → IsName bytes → (o : Option Word) → word_in words bytes ≡ o → IsPiece (shown (word_or_name o)) bytes behind
letters_fit bytes behind h None e = (h, λ r. word_none words bytes e r.0 (word_among r.0) r.1)
letters_fit bytes behind h (Some w) e = word_found words bytes w e

reads_letters : (b : ℕ) (bs : List ℕ) → is_letter b ≡ true → NextPiece (b ∷ bs) (shown (word_or_name (word_in words (run (b ∷ bs))))) (length (run (b ∷ bs)))
reads_letters b bs h = record {
  fits = record {
    within = run_within continues_name (b ∷ bs);
    fits = rw (run_front continues_name (b ∷ bs)) (letters_fit (run (b ∷ bs)) (drop (length (run (b ∷ bs))) (b ∷ bs)) (is_name b bs h) (word_in words (run (b ∷ bs))) refl);
  };
  longest = letters_longest b bs h;
}

-- ---- numbers

stops_run : ℕ → Bool
stops_run b = not (continues_name b)

slash_no_digit : (b : ℕ) → is_digit b ≡ true → b ≡ 47 → ⊥
slash_no_digit b s e = grind (arith, nat_tests)

pub record Whole (text : List ℕ) (q : lexis.Piece) (m : ℕ) : Type 0 where
  pub int : ℤ
  pub is : q ≡ lexis.number int
  pub long : m ≡ length (run text)
  pub number : IsInt (run text) int

goes_apart : (b : ℕ) → continues_name b ≡ true → not (continues_name b) ≡ true → ⊥
goes_apart b t f = let g : not true ≡ true = rw t at f in cc

goes_or : (b : ℕ) → continues_name b ≡ false → not (continues_name b) ≡ true
goes_or b e = rw e

number_whole : (b : ℕ) (bs : List ℕ) (z : ℤ) (m : ℕ) → FitsAhead (b ∷ bs) (lexis.number z) m → Whole (b ∷ bs) (lexis.number z) m
number_whole b bs z m f =
    let n : m ≡ length (run (b ∷ bs)) = run_is continues_name (λ c. not (continues_name c)) goes_apart (b ∷ bs) m f.within (number_goes_on (take m (b ∷ bs)) f.fits.0.value f.fits.0.number) f.fits.1 in
    let P : List ℕ → Type 0 = λ x. IsInt x z in
    record { int = z; is = refl; long = n; number = subst P (ap (λ k. take k (b ∷ bs)) n ∙ run_front continues_name (b ∷ bs)) f.fits.0 }

number_only : (b : ℕ) (bs : List ℕ) → is_digit b ≡ true → (q : lexis.Piece) (k : ℕ) → FitsAhead (b ∷ bs) q (suc k) → First q b → Whole (b ∷ bs) q (suc k)
number_only b bs h lexis.blank k f (inl s) = absurd (let e = digit_no_space b h in cc)
number_only b bs h lexis.blank k f (inr s) = absurd (slash_no_digit b h s)
number_only b bs h lexis.name k f s = absurd (let e = digit_no_letter b h in cc)
number_only b bs h (lexis.number z) k f s = number_whole b bs z (suc k) f
number_only b bs h (lexis.word w) k f s = absurd (let e = digit_no_letter b h in cc)
number_only b bs h (lexis.mark m) k f s = absurd (let e = s.digit in cc)

number_fits : (b : ℕ) (bs : List ℕ) → is_digit b ≡ true → (q : lexis.Piece) (m : ℕ) → FitsAhead (b ∷ bs) q m → Whole (b ∷ bs) q m
number_fits b bs h q zero f = absurd (some_byte q (b ∷ bs) f.fits)
number_fits b bs h q (suc k) f = number_only b bs h q k f (first q b (take k bs) (drop k bs) f.fits)

run_cons : (b : ℕ) (bs : List ℕ) → continues_name b ≡ true → run (b ∷ bs) ≡ b ∷ run bs
run_cons b bs g = rw (take_while-cons continues_name b bs, g)

int_of_run : (b : ℕ) (bs : List ℕ) (v : ℕ) → is_digit b ≡ true → lexed_number (run (b ∷ bs)) ≡ Some v → IsInt (run (b ∷ bs)) (cast_signed w32 v)
int_of_run b bs v d e =
    let c = run_cons b bs (digit_goes_on b d) in
    let r = number_sound b (run bs) v d (ap lexed_number (sym c) ∙ e) in
    let P : List ℕ → Type 0 = λ x. IsInt x (cast_signed w32 v) in
    subst P (sym c) (record { value = v; number = r.number; small = r.small; same_bits = refl })

reads_number : (b : ℕ) (bs : List ℕ) → is_digit b ≡ true → Reads (b ∷ bs) (number_ahead (b ∷ bs))
reads_number b bs d = by (lexed_number (run (b ∷ bs))) refl
  where
    by : (o : Option ℕ) → lexed_number (run (b ∷ bs)) ≡ o → Reads (b ∷ bs) (option_map (λ value. (piece.Number (cast_signed w32 value), length (run (b ∷ bs)))) o)
    by None e = λ q m f. let w = number_fits b bs d q m f in let k = number_complete (run (b ∷ bs)) w.number.value w.number.number w.number.small in cc
    by (Some v) e = record {
      fits = record {
        within = run_within continues_name (b ∷ bs);
        fits = (let P : List ℕ → Type 0 = λ x. IsInt x (cast_signed w32 v) in subst P (sym (run_front continues_name (b ∷ bs))) (int_of_run b bs v d e), run_ends continues_name (λ c. not (continues_name c)) goes_or (b ∷ bs));
      };
      longest = λ q m f. let w = (number_fits b bs d q m f).long in omega arith;
    }

-- ---- comments

is_same_text : (text : List ℕ) (m : ℕ) → OpensComment text → OpensComment (take m text ++ drop m text)
is_same_text text m o = let P : List ℕ → Type 0 = λ z. OpensComment z in subst P (sym (take-append-drop m text)) o

opens_same : (text : List ℕ) (m : ℕ) → OpensComment (take m text ++ drop m text) → OpensComment text
opens_same text m o = let P : List ℕ → Type 0 = λ z. OpensComment z in subst P (take-append-drop m text) o

head_space : (b c : ℕ) (bs : List ℕ) → is_space c ≡ true → b ∷ bs ≡ c ∷ [] → is_space b ≡ true
head_space b c bs s e = let k : b ≡ c = cc in rw k s

opened_part : (b c : ℕ) (cs : List ℕ) → NoRun b → OpensComment (b ∷ c ∷ cs) → (q : lexis.Piece) (k : ℕ) → IsPiece q (take (suc k) (b ∷ c ∷ cs)) (drop (suc k) (b ∷ c ∷ cs)) → First q b → Comment b c cs (suc k)
opened_part b c cs sort o lexis.blank k (inl f) s = absurd (let e = sort.space in let t = head_space b f.0 (take k (c ∷ cs)) f.1 f.2 in cc)
opened_part b c cs sort o lexis.blank k (inr f) s = comment_is b c cs (suc k) f
opened_part b c cs sort o lexis.name k f s = absurd (let e = sort.letter in cc)
opened_part b c cs sort o (lexis.number z) k f s = absurd (let e = sort.digit in cc)
opened_part b c cs sort o (lexis.word w) k f s = absurd (let e = sort.letter in cc)
opened_part b c cs sort o (lexis.mark m) k f s = absurd (f.1 (is_same_text (b ∷ c ∷ cs) (suc k) o))

-- where a comment opens nothing else fits
opened_only : (b c : ℕ) (cs : List ℕ) → NoRun b → OpensComment (b ∷ c ∷ cs) → (q : lexis.Piece) (m : ℕ) → FitsAhead (b ∷ c ∷ cs) q m → Comment b c cs m
opened_only b c cs sort o q zero f = absurd (some_byte q (b ∷ c ∷ cs) f.fits)
opened_only b c cs sort o q (suc k) f = opened_part b c cs sort o q k f.fits (first q b (take k (c ∷ cs)) (drop k (c ∷ cs)) f.fits)

line_len : List ℕ → ℕ
line_len cs = length (take_while is_in_line cs)

line_apart : (b : ℕ) → is_in_line b ≡ true → is_line_end b ≡ true → ⊥
line_apart b t f = let g : not true ≡ true = rw f at t in cc

line_or : (b : ℕ) → is_in_line b ≡ false → is_line_end b ≡ true
line_or b e = by (is_line_end b) refl
  where
    by : (t : Bool) → is_line_end b ≡ t → is_line_end b ≡ true
    by true f = f
    by false f = absurd (let g : not false ≡ false = rw f at e in cc)

reads_line : (b c : ℕ) (cs : List ℕ) → NoRun b → b ≡ 47 → c ≡ 47 → OpensComment (b ∷ c ∷ cs) → NextPiece (b ∷ c ∷ cs) lexis.blank (suc (suc (length (take_while is_in_line cs))))
reads_line b c cs sort e f o = record {
  fits = record {
    within = let w = run_within is_in_line cs in omega arith;
    fits = inr (line (take (length (take_while is_in_line cs)) cs) (rw (e, f)) each (run_ends is_in_line is_line_end line_or cs));
  };
  longest = λ q m g. size m g.within (opened_only b c cs sort o q m g);
}
  where
    each : Each is_in_line (take (length (take_while is_in_line cs)) cs)
    each = let P : List ℕ → Type 0 = λ z. Each is_in_line z in subst P (sym (run_front is_in_line cs)) (run_each is_in_line cs)

    size : (m : ℕ) → m ≤ suc (suc (length cs)) → Comment b c cs m → m ≤ suc (suc (length (take_while is_in_line cs)))
    size m w (is_block k n e2 f2 h) = absurd (omega arith)
    size m w (is_line k n e2 f2 h g) = let r = run_is is_in_line is_line_end line_apart cs k (omega arith) h g in omega arith

reads_block : (b c : ℕ) (cs : List ℕ) (v : ℕ) → NoRun b → b ≡ 47 → c ≡ 42 → OpensComment (b ∷ c ∷ cs) → close_from 0 cs ≡ Some v → NextPiece (b ∷ c ∷ cs) lexis.blank (suc (suc v))
reads_block b c cs v sort e f o h = by (close_found 0 cs v h)
  where
    some_number : (x y : ℕ) → Some x ≡ Some y → x ≡ y
    some_number x y k = cc

    size : (m : ℕ) → m ≤ suc (suc (length cs)) → Comment b c cs m → m ≤ suc (suc v)
    size m w (is_block k n e2 f2 g) = let r = close_there 0 cs k (omega arith) g in let s : 0 + k ≡ v = some_number (0 + k) v (sym r ∙ h) in omega arith
    size m w (is_line k n e2 f2 g l) = absurd (omega arith)

    by : Closed 0 cs v → NextPiece (b ∷ c ∷ cs) lexis.blank (suc (suc v))
    by r =
        let same : r.size ≡ v = omega (arith, r.is) in
        let P : ℕ → Type 0 = λ z. IsToClose (take z cs) in
        record {
          fits = record { within = omega (arith, r.within, same); fits = inr (block (take v cs) (rw (e, f)) (subst P same r.closes)) };
          longest = λ q m g. size m g.within (opened_only b c cs sort o q m g);
        }

no_block : (b c : ℕ) (cs : List ℕ) → NoRun b → c ≡ 42 → OpensComment (b ∷ c ∷ cs) → close_from 0 cs ≡ None → NothingFits (b ∷ c ∷ cs)
no_block b c cs sort f o h q m g = by (opened_only b c cs sort o q m g) g.within
  where
    by : Comment b c cs m → m ≤ suc (suc (length cs)) → ⊥
    by (is_block k n e2 f2 t) w = let r = close_there 0 cs k (omega arith) t in cc
    by (is_line k n e2 f2 t l) w = omega arith

-- ---- marks

opens_by_comment : (b : ℕ) (bs : List ℕ) (m : ℕ) → IsComment (take m (b ∷ bs)) (drop m (b ∷ bs)) → OpensComment (b ∷ bs)
opens_by_comment b bs zero h = absurd (comment_some (b ∷ bs) h)
opens_by_comment b [] (suc zero) h = absurd (comment_long b [] h)
opens_by_comment b [] (suc (suc k)) h = absurd (comment_long b [] h)
opens_by_comment b (c ∷ cs) (suc k) h = by (comment_is b c cs (suc k) h)
  where
    by : Comment b c cs (suc k) → OpensComment (b ∷ c ∷ cs)
    by (is_block j n e f g) = inl (rw (e, f))
    by (is_line j n e f g l) = inr (rw (e, f))

pub record Signed (text : List ℕ) (q : lexis.Piece) (m : ℕ) : Type 0 where
  pub mark : Mark
  pub is : q ≡ lexis.mark mark
  pub long : m ≡ length (spelling mark)
  pub begins : Begins (spelling mark) text

mark_part : (b : ℕ) (bs : List ℕ) → NoRun b → (OpensComment (b ∷ bs) → ⊥) → (q : lexis.Piece) (k : ℕ) → FitsAhead (b ∷ bs) q (suc k) → IsPiece q (take (suc k) (b ∷ bs)) (drop (suc k) (b ∷ bs)) → First q b → Signed (b ∷ bs) q (suc k)
mark_part b bs sort o lexis.blank k w (inl f) s = absurd (let e = sort.space in let t = head_space b f.0 (take k bs) f.1 f.2 in cc)
mark_part b bs sort o lexis.blank k w (inr f) s = absurd (o (opens_by_comment b bs (suc k) f))
mark_part b bs sort o lexis.name k w f s = absurd (let e = sort.letter in cc)
mark_part b bs sort o (lexis.number z) k w f s = absurd (let e = sort.digit in cc)
mark_part b bs sort o (lexis.word x) k w f s = absurd (let e = sort.letter in cc)
mark_part b bs sort o (lexis.mark x) k w f s =
    let n : suc k ≡ length (spelling x) = sym (length-take-le (suc k) (b ∷ bs) w.within) ∙ ap length f.0 in
    record { mark = x; is = refl; long = n; begins = rw (← n) f.0 }

mark_only : (b : ℕ) (bs : List ℕ) → NoRun b → (OpensComment (b ∷ bs) → ⊥) → (q : lexis.Piece) (m : ℕ) → FitsAhead (b ∷ bs) q m → Signed (b ∷ bs) q m
mark_only b bs sort o q zero f = absurd (some_byte q (b ∷ bs) f.fits)
mark_only b bs sort o q (suc k) f = mark_part b bs sort o q k f f.fits (first q b (take k bs) (drop k bs) f.fits)

reads_mark : (b : ℕ) (bs : List ℕ) → NoRun b → (OpensComment (b ∷ bs) → ⊥) → Reads (b ∷ bs) (option_map (λ r. (piece.Mark r.0, r.1)) (mark_ahead marks (b ∷ bs)))
reads_mark b bs sort o = by (mark_ahead marks (b ∷ bs)) refl
  where
    by : (a : Option (Mark × ℕ)) → mark_ahead marks (b ∷ bs) ≡ a → Reads (b ∷ bs) (option_map (λ r. (piece.Mark r.0, r.1)) a)
    by None e = λ q m f. let s = mark_only b bs sort o q m f in mark_none marks (b ∷ bs) e s.mark (mark_among s.mark) s.begins
    by (Some r) e =
        let l = mark_found marks (b ∷ bs) r marks_sorted e in
        let same : length (take (length (spelling r.0)) (b ∷ bs)) ≡ length (spelling r.0) = ap length l.begins in
        let P : ℕ → Type 0 = λ z. take z (b ∷ bs) ≡ spelling r.0 in
        record {
          fits = record {
            within = omega (arith, length-take (length (spelling r.0)) (b ∷ bs), same, l.long);
            fits = (subst P (sym l.long) l.begins, λ c. o (opens_same (b ∷ bs) r.1 c));
          };
          longest = λ q m f. let s = mark_only b bs sort o q m f in omega (arith, s.long, l.longest s.mark (mark_among s.mark) s.begins);
        }

-- ---- comments and marks

two_slashes : (b c x y : ℕ) (cs : List ℕ) → take 2 (b ∷ c ∷ cs) ≡ x ∷ y ∷ [] → (b ≡ x) × (c ≡ y)
two_slashes b c x y cs e = let f : b ∷ c ∷ [] ≡ x ∷ y ∷ [] = e in (cc, cc)

add_two : (n : ℕ) → suc (suc n) ≡ 2 + n
add_two n = omega arith

reads_opened : (b c : ℕ) (cs : List ℕ) → NoRun b → c ≡ 42 → b ≡ 47 → OpensComment (b ∷ c ∷ cs) → Reads (b ∷ c ∷ cs) (option_map (λ n. (piece.Blank, 2 + n)) (close_from 0 cs))
reads_opened b c cs sort f e o = by (close_from 0 cs) refl
  where
    by : (a : Option ℕ) → close_from 0 cs ≡ a → Reads (b ∷ c ∷ cs) (option_map (λ n. (piece.Blank, 2 + n)) a)
    by None h = no_block b c cs sort f o h
    by (Some v) h = let P : ℕ → Type 0 = λ z. NextPiece (b ∷ c ∷ cs) lexis.blank z in subst P (add_two v) (reads_block b c cs v sort e f o h)

one_byte : (b x y : ℕ) → starts_with nat_eq (b ∷ []) (x ∷ y ∷ []) ≡ false
one_byte b x y = by (starts_with nat_eq (b ∷ []) (x ∷ y ∷ [])) refl
  where
    by : (t : Bool) → starts_with nat_eq (b ∷ []) (x ∷ y ∷ []) ≡ t → starts_with nat_eq (b ∷ []) (x ∷ y ∷ []) ≡ false
    by false e = e
    by true e = absurd (let f : b ∷ [] ≡ x ∷ y ∷ [] = begins_true (b ∷ []) (x ∷ y ∷ []) e in cc)

reads_sign : (b : ℕ) (bs : List ℕ) → NoRun b → Reads (b ∷ bs) (sign_ahead (b ∷ bs))
reads_sign b [] sort = rw (one_byte b 47 47) (reads_mark b [] sort (λ o. elim o [ inl e ↦ cc | inr e ↦ cc ]))
reads_sign b (c ∷ cs) sort = by_line (starts_with nat_eq (b ∷ c ∷ cs) (codes "//")) refl
  where
    by_block : (take 2 (b ∷ c ∷ cs) ≡ codes "//" → ⊥) → (t : Bool) → starts_with nat_eq (b ∷ c ∷ cs) (codes "/*") ≡ t
        → Reads (b ∷ c ∷ cs) (cond t (option_map (λ n. (piece.Blank, 2 + n)) (close_from 0 cs)) (option_map (λ r. (piece.Mark r.0, r.1)) (mark_ahead marks (b ∷ c ∷ cs))))
    by_block l true e = let s = begins_true (b ∷ c ∷ cs) (codes "/*") e in let p = two_slashes b c 47 42 cs s in reads_opened b c cs sort p.1 p.0 (inl s)
    by_block l false e = reads_mark b (c ∷ cs) sort (λ o. elim o [ inl s ↦ begins_false (b ∷ c ∷ cs) (codes "/*") e s | inr s ↦ l s ])

    by_line : (t : Bool) → starts_with nat_eq (b ∷ c ∷ cs) (codes "//") ≡ t
        → Reads (b ∷ c ∷ cs) (cond t (Some (piece.Blank, 2 + length (take_while is_in_line cs)))
        (cond (starts_with nat_eq (b ∷ c ∷ cs) (codes "/*")) (option_map (λ n. (piece.Blank, 2 + n)) (close_from 0 cs)) (option_map (λ r. (piece.Mark r.0, r.1)) (mark_ahead marks (b ∷ c ∷ cs)))))
    by_line true e =
        let s = begins_true (b ∷ c ∷ cs) (codes "//") e in
        let p = two_slashes b c 47 47 cs s in
        let P : ℕ → Type 0 = λ z. NextPiece (b ∷ c ∷ cs) lexis.blank z in
        subst P (add_two (length (take_while is_in_line cs))) (reads_line b c cs sort p.0 p.1 (inr s))
    by_line false e = by_block (begins_false (b ∷ c ∷ cs) (codes "//") e) (starts_with nat_eq (b ∷ c ∷ cs) (codes "/*")) refl

-- ---- the front

empty_take : (m : ℕ) → m ≤ 0 → (q : lexis.Piece) → IsPiece q (take m []) (drop m []) → ⊥
empty_take zero le q f = some_byte q [] f
empty_take (suc m) le q f = absurd (omega arith)

-- The code reads the longest piece at the front, and none exactly where none fits.
pub reads : (text : List ℕ) → Reads text (piece_ahead text)
unfolding piece_ahead
reads [] = λ q m f. empty_take m f.within q f.fits
reads (b ∷ bs) = by_space (is_space b) refl
  where
    by_digit : is_space b ≡ false → is_letter b ≡ false → (t : Bool) → is_digit b ≡ t → Reads (b ∷ bs) (cond t (number_ahead (b ∷ bs)) (sign_ahead (b ∷ bs)))
    by_digit s l true e = reads_number b bs e
    by_digit s l false e = reads_sign b bs (record { space = s; letter = l; digit = e })

    by_letter : is_space b ≡ false → (t : Bool) → is_letter b ≡ t → Reads (b ∷ bs) (cond t (Some (letters_ahead (b ∷ bs))) (cond (is_digit b) (number_ahead (b ∷ bs)) (sign_ahead (b ∷ bs))))
    by_letter s true e = reads_letters b bs e
    by_letter s false e = by_digit s e (is_digit b) refl

    by_space : (t : Bool) → is_space b ≡ t → Reads (b ∷ bs) (cond t (Some (piece.Blank, 1)) (cond (is_letter b) (Some (letters_ahead (b ∷ bs))) (cond (is_digit b) (number_ahead (b ∷ bs)) (sign_ahead (b ∷ bs)))))
    by_space true e = reads_space b bs e
    by_space false e = by_letter e (is_letter b) refl

-- ---- what the callers ask

some_size : (text : List ℕ) (p : lexis.Piece) (n : ℕ) → NextPiece text p n → 0 < n
some_size text p zero r = absurd (some_byte p text r.fits.fits)
some_size text p (suc n) r = omega arith

ascii_each : (bs : List ℕ) → Each continues_name bs → IsAscii bs
ascii_each [] h i = omega arith
ascii_each (b ∷ bs) h zero = goes_on_ascii b h.0
ascii_each (b ∷ bs) h (suc i) = ascii_each bs h.1 i

ascii_name : (bs : List ℕ) → IsName bs → IsAscii bs
ascii_name [] h = absurd h
ascii_name (b ∷ bs) h = ascii_each (b ∷ bs) (letter_goes_on b h.0, h.1)

fits_text : (p : Piece) (bytes behind : List ℕ) → IsPiece (shown p) bytes behind → IsText p bytes
fits_text piece.Blank bytes behind f = tt
fits_text piece.Name bytes behind f = ascii_name bytes f.0
fits_text (piece.Number z) bytes behind f = tt
fits_text (piece.Word w) bytes behind f = tt
fits_text (piece.Mark m) bytes behind f = tt

pub record Read (text : List ℕ) (p : Piece) (n : ℕ) : Type 0 where
  pub next : NextPiece text (shown p) n
  pub some : 0 < n
  pub within : n ≤ length text
  pub letters : IsText p (take n text)

pub read_of : (text : List ℕ) (p : Piece) (n : ℕ) → NextPiece text (shown p) n → Read text p n
read_of text p n r = record { next = r; some = some_size text (shown p) n r; within = r.fits.within; letters = fits_text p (take n text) (drop n text) r.fits.fits }

pub reads_as : (text : List ℕ) (o : Option (Piece × ℕ)) → o ≡ piece_ahead text → Reads text o
reads_as text o e = let P : Option (Piece × ℕ) → Type 0 = λ z. Reads text z in subst P (sym e) (reads text)
