-- A text has one verdict, and it can't be that it has none.
use Rattle.std.proofs.Common.{◌≡◌, ◌⊎◌, inl, inr, ◌∙◌, Result, Ok, Err, ℕ, ◌<◌, ◌≤◌, Bool, true, false, nat_lt, ltb-true, ltb-false, List, length, refl, sym, ap, subst, arith}
use Rattle.forec_base.specs.declared.Place.{Place}
use Rattle.forec_kernel.specs.Shapes.{PlainKernel, plain_kernel}
use Rattle.forec_tree.specs.declared.fault.Fault.{Fault}
use Rattle.forec_tree.specs.declared.token.Token.{Token}
use Rattle.forec_tree.specs.LexedText.{IsLexed}
use Rattle.forec_tree.specs.SpelledPrograms.{IsSpelled}
use Rattle.forec_tree.specs.Terms.{Text}
use Rattle.forec_tree.specs.Faults.{IsFault}
use Rattle.forec_check.specs.Checked.{HasCheckCause}
use Rattle.forec_check.specs.declared.check_fault.CheckFault.{CheckFault}
use Rattle.forec_check.specs.declared.check_fault.CheckFault.TheVariants as check
use Rattle.forec_lexer.specs.Answers.{HasLexCause}
use Rattle.forec_lexer.specs.declared.fault.LexFault.{LexFault}
use Rattle.forec_lexer.specs.declared.fault.LexFault.TheVariants as lexer
use Rattle.forec_lexer.proofs.OneWay.{one_lexed, lexed_not_bad, lexed_not_many, bad_not_many, one_bad, one_many}
use Rattle.forec_parser.specs.declared.fault.ParseFault.{ParseFault}
use Rattle.forec_parser.specs.declared.fault.ParseFault.TheVariants as parser
use Rattle.forec_parser.specs.Program as parser_spec
use Rattle.forec_parser.proofs.Stops.{spelled_never_stops, spelled_never_opens, one_stop, one_opening, stops_or_opens, some_answer}
use Rattle.text_kernel.specs.Kernels.{kernel_of}
use Rattle.text_kernel.specs.Limits.{limit_of, WithinLimits, IsLimit}
use Rattle.text_kernel.specs.declared.limits.Quantity.{Quantity}
use Rattle.kernel_lower.specs.Refusals as refusals
use Rattle.kernel_lower.specs.declared.lower_fault.LowerFault.{LowerFault}
use Rattle.kernel_lower.specs.declared.lower_fault.LowerFault.TheVariants as lower
use Rattle.text_verdict.specs.Judging.{most_text_bytes, most_levels, Verdict, Accepts, Refuses, OnUnbroken, accepted, beyond, OnProgram, broken, unbroken, OnTokens, spelled, stuck, too_deep, token_place, NamesFault, Judged, too_long, stops, too_many, lexed, GivesVerdict, lexer_fault, parser_fault, check_fault, lower_fault}
use Rattle.text_verdict.specs.Counting.{counts_of}
use Rattle.text_verdict.specs.Laws.{OneVerdict}
use Rattle.text_verdict.specs.declared.counts.Counts.{Counts}
use Rattle.text_verdict.specs.declared.judging.Accepted.{Accepted}
use Rattle.text_verdict.specs.declared.refusal.Refusal.TheVariants as why
use Rattle.text_verdict.specs.declared.refusal.JudgeFault.{JudgeFault}
use Rattle.text_verdict.specs.declared.refusal.JudgeFault.TheVariants as fault
use Rattle.text_verdict.proofs.LeastFault.{one_least, no_fault}
use Rattle.text_verdict.proofs.Lexing.{some_lexing}
use Rattle.text_verdict.proofs.Limits.{one_limit, no_limit, limits_kept}

-- ---- one

abbrev pub OneProgram : Type 0
OneProgram = (k l : ℕ) (a b : Text) (ts : List Token) → IsSpelled k a ts → IsSpelled l b ts → a ≡ b

abbrev fault_at : Place → ℕ → Fault
fault_at place rule = record { place = place; rule = rule }

module _ (one_program : OneProgram) where
  one_on_unbroken : (program : Text) (names : List (List ℕ)) (v w : Verdict) → OnUnbroken program names v → OnUnbroken program names w → v ≡ w
  one_on_unbroken program names v w (beyond p m x) (beyond q n y) =
      let s = one_limit program names p q m n x y in
      ap (λ z. Refuses (why.Limit z m)) s.0 ∙ ap (λ z. Refuses (why.Limit q z)) s.1
  one_on_unbroken program names v w (beyond p m x) (accepted y) = absurd (no_limit program names p m y x)
  one_on_unbroken program names v w (accepted x) (beyond q n y) = absurd (no_limit program names q n x y)
  one_on_unbroken program names v w (accepted x) (accepted y) = refl

  one_on_program : (program : Text) (names : List (List ℕ)) (v w : Verdict) → OnProgram program names v → OnProgram program names w → v ≡ w
  one_on_program program names v w (broken p r x) (broken q s y) =
      ap (λ (f : Fault). Refuses (why.Rule f.place f.rule)) (one_least (IsFault program names) (fault_at p r) (fault_at q s) x y)
  one_on_program program names v w (broken p r x) (unbroken none y) = absurd (none (fault_at p r) x.among)
  one_on_program program names v w (unbroken none x) (broken q s y) = absurd (none (fault_at q s) y.among)
  one_on_program program names v w (unbroken none x) (unbroken also y) = one_on_unbroken program names v w x y

  one_on_tokens : (text : List ℕ) (tokens : List Token) (names : List (List ℕ)) (v w : Verdict) → OnTokens text tokens names v → OnTokens text tokens names w → v ≡ w
  one_on_tokens text tokens names v w (spelled p s x) (spelled q t y) =
      one_on_program q names v w (subst (λ z. OnProgram z names v) (one_program most_levels most_levels p q tokens s t) x) y
  one_on_tokens text tokens names v w (spelled p s x) (stuck n y) = absurd (spelled_never_stops most_levels tokens p n s y)
  one_on_tokens text tokens names v w (spelled p s x) (too_deep n y) = absurd (spelled_never_opens most_levels tokens p n s y)
  one_on_tokens text tokens names v w (stuck n x) (spelled q t y) = absurd (spelled_never_stops most_levels tokens q n t x)
  one_on_tokens text tokens names v w (stuck n x) (stuck m y) = ap (λ z. Refuses (why.Syntax (token_place text tokens z))) (one_stop most_levels tokens n m x y)
  one_on_tokens text tokens names v w (stuck n x) (too_deep m y) = absurd (stops_or_opens most_levels tokens n m x y)
  one_on_tokens text tokens names v w (too_deep n x) (spelled q t y) = absurd (spelled_never_opens most_levels tokens q n t x)
  one_on_tokens text tokens names v w (too_deep n x) (stuck m y) = absurd (stops_or_opens most_levels tokens m n y x)
  one_on_tokens text tokens names v w (too_deep n x) (too_deep m y) = ap (λ z. Refuses (why.Deep (token_place text tokens z))) (one_opening most_levels tokens n m x y)

  one_of_lexed : (text : List ℕ) (ts us : List Token) (ns ms : List (List ℕ)) (v w : Verdict) → IsLexed text ts ns → IsLexed text us ms
      → OnTokens text ts ns v → OnTokens text us ms w → v ≡ w
  one_of_lexed text ts us ns ms v w x y s t =
      let e = one_lexed text ts us ns ms x y in
      one_on_tokens text us ms v w (subst (λ z. OnTokens text us z v) e.1 (subst (λ z. OnTokens text z ns v) e.0 s)) t

  pub one_verdict : OneVerdict
  one_verdict text v w (too_long h) (too_long i) = refl
  one_verdict text v w (too_long h) (stops q le y) = absurd (omega arith)
  one_verdict text v w (too_long h) (too_many q le y) = absurd (omega arith)
  one_verdict text v w (too_long h) (lexed us ms le y t) = absurd (omega arith)
  one_verdict text v w (stops p le x) (too_long i) = absurd (omega arith)
  one_verdict text v w (stops p le x) (stops q ge y) = ap (λ z. Refuses (why.Lex z)) (one_bad text p q x y)
  one_verdict text v w (stops p le x) (too_many q ge y) = absurd (bad_not_many text p q x y)
  one_verdict text v w (stops p le x) (lexed us ms ge y t) = absurd (lexed_not_bad text us ms p y x)
  one_verdict text v w (too_many p le x) (too_long i) = absurd (omega arith)
  one_verdict text v w (too_many p le x) (stops q ge y) = absurd (bad_not_many text q p y x)
  one_verdict text v w (too_many p le x) (too_many q ge y) = ap (λ z. Refuses (why.Many z)) (one_many text p q x y)
  one_verdict text v w (too_many p le x) (lexed us ms ge y t) = absurd (lexed_not_many text us ms p y x)
  one_verdict text v w (lexed ts ns le x s) (too_long i) = absurd (omega arith)
  one_verdict text v w (lexed ts ns le x s) (stops q ge y) = absurd (lexed_not_bad text ts ns q x y)
  one_verdict text v w (lexed ts ns le x s) (too_many q ge y) = absurd (lexed_not_many text ts ns q x y)
  one_verdict text v w (lexed ts ns le x s) (lexed us ms ge y t) = one_of_lexed text ts us ns ms v w x y s t

-- a text that is too long is refused for that alone
pub only_long : (text : List ℕ) (v : Verdict) → most_text_bytes < length text → Judged text v → v ≡ Refuses why.Long
only_long text v h (too_long i) = refl
only_long text v h (stops q le y) = absurd (omega arith)
only_long text v h (too_many q le y) = absurd (omega arith)
only_long text v h (lexed us ms le y t) = absurd (omega arith)

-- ---- not none

some_on_unbroken : (program : Text) (names : List (List ℕ)) → ((v : Verdict) → OnUnbroken program names v → ⊥) → ⊥
some_on_unbroken program names never = by (limits_kept program names)
  where
    by : WithinLimits (kernel_of program names) ⊎ ((q : Quantity) × IsLimit program names q (limit_of q)) → ⊥
    by (inl w) = never (Accepts (counts_of program names) (kernel_of program names)) (accepted w)
    by (inr (q, x)) = never (Refuses (why.Limit q (limit_of q))) (beyond q (limit_of q) x)

some_on_program : (program : Text) (names : List (List ℕ)) → ((v : Verdict) → OnProgram program names v → ⊥) → ⊥
some_on_program program names never = some_on_unbroken program names (λ v x. never v (unbroken none x))
  where
    none : (f : Fault) → IsFault program names f → ⊥
    none = no_fault (IsFault program names) (λ f x. never (Refuses (why.Rule f.place f.rule)) (broken f.place f.rule x))

some_on_tokens : (text : List ℕ) (tokens : List Token) (names : List (List ℕ)) → ((v : Verdict) → OnTokens text tokens names v → ⊥) → ⊥
some_on_tokens text tokens names never =
    some_answer most_levels tokens (λ program s. some_on_program program names (λ v x. never v (spelled program s x)))
    (λ n x. never (Refuses (why.Syntax (token_place text tokens n))) (stuck n x)) (λ n x. never (Refuses (why.Deep (token_place text tokens n))) (too_deep n x))

pub some_verdict : (text : List ℕ) → ((v : Verdict) → Judged text v → ⊥) → ⊥
some_verdict text never = by (nat_lt most_text_bytes (length text)) refl
  where
    by : (t : Bool) → nat_lt most_text_bytes (length text) ≡ t → ⊥
    by true e = never (Refuses why.Long) (too_long (ltb-true most_text_bytes (length text) e))
    by false e =
        let short = ltb-false most_text_bytes (length text) e in
        some_lexing text (λ ts ns x. some_on_tokens text ts ns (λ v t. never v (lexed ts ns short x t)))
        (λ p x. never (Refuses (why.Lex p)) (stops p short x)) (λ p x. never (Refuses (why.Many p)) (too_many p short x))

-- ---- what code says

pub says_too : (P Q : Verdict → Type 0) → ((v : Verdict) → P v → Q v) → (r : Result Accepted JudgeFault) → GivesVerdict P r → GivesVerdict Q r
says_too P Q f (Ok a) h = f (Accepts a.counts (plain_kernel a.kernel)) h
says_too P Q f (Err (fault.Refused why)) h = f (Refuses why) h
says_too P Q f (Err fault.OutOfMemory) h = tt

pub said_of_text : (text : List ℕ) (tokens : List Token) (names : List (List ℕ)) → length text ≤ most_text_bytes → IsLexed text tokens names →
    (r : Result Accepted JudgeFault) → GivesVerdict (OnTokens text tokens names) r → GivesVerdict (Judged text) r
said_of_text text tokens names short is r h = says_too (OnTokens text tokens names) (Judged text) (λ v x. lexed tokens names short is x) r h

pub said_of_tokens : (text : List ℕ) (tokens : List Token) (names : List (List ℕ)) (program : Text) → IsSpelled most_levels program tokens →
    (r : Result Accepted JudgeFault) → GivesVerdict (OnProgram program names) r → GivesVerdict (OnTokens text tokens names) r
said_of_tokens text tokens names program spells r h = says_too (OnProgram program names) (OnTokens text tokens names) (λ v x. spelled program spells x) r h

abbrev given : JudgeFault → Result Accepted JudgeFault
given e = Err e

told_exactly : (text : List ℕ) (f : LexFault) → length text ≤ most_text_bytes → HasLexCause text f → GivesVerdict (Judged text) (given (lexer_fault f))
told_exactly text (lexer.Bad p) le h = stops p le h
told_exactly text (lexer.Many p) le h = too_many p le h
told_exactly text lexer.OutOfMemory le h = tt

pub told : (text : List ℕ) (f : LexFault) (e : JudgeFault) → length text ≤ most_text_bytes → HasLexCause text f → e ≡ lexer_fault f → GivesVerdict (Judged text) (given e)
told text f e le h is = subst (λ x. GivesVerdict (Judged text) (given x)) (sym is) (told_exactly text f le h)

parsed_exactly : (text : List ℕ) (tokens : List Token) (f : ParseFault) → parser_spec.HasParseCause tokens f → NamesFault text tokens (parser_fault text tokens f)
parsed_exactly text tokens (parser.Syntax n) h = λ names. stuck n h
parsed_exactly text tokens (parser.Deep n) h = λ names. too_deep n h
parsed_exactly text tokens parser.OutOfMemory h = tt

pub told_by_parser : (text : List ℕ) (tokens : List Token) (f : ParseFault) (e : JudgeFault) → parser_spec.HasParseCause tokens f → e ≡ parser_fault text tokens f → NamesFault text tokens e
told_by_parser text tokens f e h is = subst (λ x. NamesFault text tokens x) (sym is) (parsed_exactly text tokens f h)

told_names : (text : List ℕ) (tokens : List Token) (names : List (List ℕ)) (f : JudgeFault) → NamesFault text tokens f → GivesVerdict (OnTokens text tokens names) (given f)
told_names text tokens names (fault.Refused why) h = h names
told_names text tokens names fault.OutOfMemory h = tt

pub told_of_tokens : (text : List ℕ) (ts tokens : List Token) (names : List (List ℕ)) (f e : JudgeFault) → ts ≡ tokens → NamesFault text ts f → e ≡ f → GivesVerdict (OnTokens text tokens names) (given e)
told_of_tokens text ts tokens names f e same h is =
    let P : List Token → Type 0 = λ z. NamesFault text z f in
    subst (λ x. GivesVerdict (OnTokens text tokens names) (given x)) (sym is) (told_names text tokens names f (subst P same h))

checked_exactly : (program : Text) (names : List (List ℕ)) (f : CheckFault) → HasCheckCause f program names → GivesVerdict (OnProgram program names) (given (check_fault f))
checked_exactly program names (check.Broken place rule) h = broken place rule h
checked_exactly program names check.OutOfMemory h = tt

pub told_by_check : (program : Text) (names : List (List ℕ)) (f : CheckFault) (e : JudgeFault) → HasCheckCause f program names → e ≡ check_fault f → GivesVerdict (OnProgram program names) (given e)
told_by_check program names f e h is = subst (λ x. GivesVerdict (OnProgram program names) (given x)) (sym is) (checked_exactly program names f h)

lowered_exactly : (program : Text) (names : List (List ℕ)) (f : LowerFault) → refusals.HasLowerCause f program names → GivesVerdict (OnUnbroken program names) (given (lower_fault f))
lowered_exactly program names (lower.Limit what count) h = beyond what count h
lowered_exactly program names lower.OutOfMemory h = tt

pub told_by_lower : (program : Text) (names : List (List ℕ)) (f : LowerFault) (e : JudgeFault) → refusals.HasLowerCause f program names → e ≡ lower_fault f →
    GivesVerdict (OnUnbroken program names) (given e)
told_by_lower program names f e h is = subst (λ x. GivesVerdict (OnUnbroken program names) (given x)) (sym is) (lowered_exactly program names f h)

-- a kernel that is the text's
pub told_kernel : (program : Text) (names : List (List ℕ)) (c : Counts) (k : PlainKernel) → c ≡ counts_of program names → k ≡ kernel_of program names → WithinLimits (kernel_of program names) →
    OnUnbroken program names (Accepts c k)
told_kernel program names c k counts kernel within =
    subst (λ x. OnUnbroken program names (Accepts x k)) (sym counts)
    (subst (λ x. OnUnbroken program names (Accepts (counts_of program names) x)) (sym kernel) (accepted within))
