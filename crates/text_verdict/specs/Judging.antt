-- What becomes of a text.
use Rattle.std.specs.Prelude.{◌≤◌, ◌<◌, ℕ, List, ◌++◌, length, fold, slice_get, codes, decimal, Option, Some, None, Result, Ok, Err}
use Rattle.forec_base.specs.declared.Place.{Place}
use Rattle.forec_base.specs.declared.limits.TheConstants.{MAX_TEXT_BYTES, MAX_LEVEL}
use Rattle.forec_kernel.specs.Shapes.{PlainKernel, plain_kernel}
use Rattle.forec_tree.specs.declared.fault.Fault.{Fault}
use Rattle.forec_tree.specs.declared.token.Token.{Token}
use Rattle.forec_tree.specs.LexedText.{first_place, place_after, IsLexed, IsBad, IsMany}
use Rattle.forec_tree.specs.SpelledPrograms.{IsSpelled}
use Rattle.forec_tree.specs.Terms.{Text}
use Rattle.forec_tree.specs.Faults.{IsFault, IsLeast}
use Rattle.forec_check.specs.declared.check_fault.CheckFault.{CheckFault}
use Rattle.forec_check.specs.declared.check_fault.CheckFault.TheVariants as check
use Rattle.forec_lexer.specs.declared.fault.LexFault.{LexFault}
use Rattle.forec_lexer.specs.declared.fault.LexFault.TheVariants as lexer
use Rattle.forec_parser.specs.declared.fault.ParseFault.{ParseFault}
use Rattle.forec_parser.specs.declared.fault.ParseFault.TheVariants as parser
use Rattle.forec_parser.specs.ViablePrefixes.{StopsAt, OpensAt}
use Rattle.text_kernel.specs.Kernels.{kernel_of}
use Rattle.text_kernel.specs.Limits.{WithinLimits, IsLimit}
use Rattle.kernel_lower.specs.declared.lower_fault.LowerFault.{LowerFault}
use Rattle.kernel_lower.specs.declared.lower_fault.LowerFault.TheVariants as lower
use Rattle.text_kernel.specs.declared.limits.Quantity.{Quantity}
use Rattle.text_kernel.specs.declared.limits.Quantity.TheVariants.{Threads, Words, Globals, Tables, Terms, Depth}
use Rattle.text_verdict.specs.Counting.{counts_of}
use Rattle.text_verdict.specs.declared.counts.Counts.{Counts}
use Rattle.text_verdict.specs.declared.judging.Accepted.{Accepted}
use Rattle.text_verdict.specs.declared.refusal.Refusal.{Refusal}
use Rattle.text_verdict.specs.declared.refusal.Refusal.TheVariants as why
use Rattle.text_verdict.specs.declared.refusal.JudgeFault.{JudgeFault}
use Rattle.text_verdict.specs.declared.refusal.JudgeFault.TheVariants as fault

abbrev pub most_text_bytes : ℕ
most_text_bytes = MAX_TEXT_BYTES

-- the greatest level of a program
abbrev pub most_levels : ℕ
most_levels = MAX_LEVEL

-- ---- refusals

-- `refused L:C` and the word
abbrev pub refused_at : Place → List ℕ → List ℕ
refused_at place word = codes "refused " ++ decimal place.line ++ codes ":" ++ decimal place.column ++ word

abbrev pub limit_words : Quantity → List ℕ
limit_words Threads = codes "refused limit threads "
limit_words Words = codes "refused limit words "
limit_words Globals = codes "refused limit globals "
limit_words Tables = codes "refused limit tables "
limit_words Terms = codes "refused limit terms "
limit_words Depth = codes "refused limit depth "

abbrev pub refusal_line : Refusal → List ℕ
refusal_line why.Long = codes "refused long\n"
refusal_line (why.Lex place) = refused_at place (codes " lex\n")
refusal_line (why.Many place) = refused_at place (codes " many\n")
refusal_line (why.Syntax place) = refused_at place (codes " syntax\n")
refusal_line (why.Deep place) = refused_at place (codes " deep\n")
refusal_line (why.Rule place rule) = refused_at place (codes " rule " ++ decimal rule ++ codes "\n")
refusal_line (why.Limit what count) = limit_words what ++ decimal count ++ codes "\n"

-- ---- verdicts, in the order of the refusals

-- what becomes of a text: it is accepted, with what is counted of it and its kernel, or it is refused
pub data Verdict : Type 0 where
  Accepts : Counts → PlainKernel → Verdict
  Refuses : Refusal → Verdict

-- the verdict on a program that breaks no rule: its limits are looked at
pub data OnUnbroken (program : Text) (names : List (List ℕ)) : Verdict → Type 0 where
  beyond : (what : Quantity) (count : ℕ) → IsLimit program names what count → OnUnbroken program names (Refuses (why.Limit what count))
  accepted : WithinLimits (kernel_of program names) → OnUnbroken program names (Accepts (counts_of program names) (kernel_of program names))

-- the verdict on a program: the least of its faults is reported
pub data OnProgram (program : Text) (names : List (List ℕ)) : Verdict → Type 0 where
  broken : (place : Place) (rule : ℕ) → IsLeast (record { place = place; rule = rule }) (IsFault program names) → OnProgram program names (Refuses (why.Rule place rule))
  unbroken : {v : Verdict} → ((f : Fault) → IsFault program names f → ⊥) → OnUnbroken program names v → OnProgram program names v

-- the place of a token, or that after the text where there is none
abbrev pub place_by : List ℕ → Option Token → Place
place_by text (Some t) = t.place
place_by text None = fold place_after first_place text

-- the place of the token with this number, counted from 0
abbrev pub token_place : List ℕ → List Token → ℕ → Place
token_place text tokens n = place_by text (slice_get tokens n)

-- the verdict on the tokens of a text
pub data OnTokens (text : List ℕ) (tokens : List Token) (names : List (List ℕ)) : Verdict → Type 0 where
  spelled : {v : Verdict} (program : Text) → IsSpelled most_levels program tokens → OnProgram program names v → OnTokens text tokens names v
  stuck : (n : ℕ) → StopsAt most_levels tokens n → OnTokens text tokens names (Refuses (why.Syntax (token_place text tokens n)))
  too_deep : (n : ℕ) → OpensAt most_levels tokens n → OnTokens text tokens names (Refuses (why.Deep (token_place text tokens n)))

-- the verdict on a text
pub data Judged (text : List ℕ) : Verdict → Type 0 where
  too_long : most_text_bytes < length text → Judged text (Refuses why.Long)
  stops : (place : Place) → length text ≤ most_text_bytes → IsBad text place → Judged text (Refuses (why.Lex place))
  too_many : (place : Place) → length text ≤ most_text_bytes → IsMany text place → Judged text (Refuses (why.Many place))
  lexed : {v : Verdict} (tokens : List Token) (names : List (List ℕ)) → length text ≤ most_text_bytes → IsLexed text tokens names → OnTokens text tokens names v
      → Judged text v

-- what code that judges ensures: its verdict is one that holds, unless memory fails
abbrev pub GivesVerdict : (Verdict → Type 0) → Result Accepted JudgeFault → Type 0
GivesVerdict Holds (Ok a) = Holds (Accepts a.counts (plain_kernel a.kernel))
GivesVerdict Holds (Err (fault.Refused why)) = Holds (Refuses why)
GivesVerdict Holds (Err fault.OutOfMemory) = Unit {0}

-- what a fault of the lexer is for the text
abbrev pub lexer_fault : LexFault → JudgeFault
lexer_fault (lexer.Bad place) = fault.Refused (why.Lex place)
lexer_fault (lexer.Many place) = fault.Refused (why.Many place)
lexer_fault lexer.OutOfMemory = fault.OutOfMemory

-- what a fault of the parser is for the text
abbrev pub parser_fault : List ℕ → List Token → ParseFault → JudgeFault
parser_fault text tokens (parser.Syntax n) = fault.Refused (why.Syntax (token_place text tokens n))
parser_fault text tokens (parser.Deep n) = fault.Refused (why.Deep (token_place text tokens n))
parser_fault text tokens parser.OutOfMemory = fault.OutOfMemory

-- what is reported of tokens that are refused, whatever their names
abbrev pub NamesFault : List ℕ → List Token → JudgeFault → Type 0
NamesFault text tokens (fault.Refused why) = (names : List (List ℕ)) → OnTokens text tokens names (Refuses why)
NamesFault text tokens fault.OutOfMemory = Unit {0}

-- what a fault of the check is for the text
abbrev pub check_fault : CheckFault → JudgeFault
check_fault (check.Broken place rule) = fault.Refused (why.Rule place rule)
check_fault check.OutOfMemory = fault.OutOfMemory

-- what a fault of the lowering is for the text
abbrev pub lower_fault : LowerFault → JudgeFault
lower_fault (lower.Limit what count) = fault.Refused (why.Limit what count)
lower_fault lower.OutOfMemory = fault.OutOfMemory
