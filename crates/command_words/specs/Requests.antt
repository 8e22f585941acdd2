-- What words ask for.
use Rattle.std.specs.Prelude.{ℕ, Bool, not, nat_eq, nat_le, nat_lt, length, map, ◌&&◌, ◌||◌, cond, is_some, is_none, Option, None, Some, option_map, option_and_then, List, [], ◌∷◌, if◌then◌else◌, codes}
use Rattle.clap.specs.Words.{Kinds, Text}
use Rattle.forec_base.specs.declared.limits.TheConstants.{MAX_CORES, MAX_BUDGET}
use Rattle.command_words.specs.CommandLine.{PlainValues, is_word, kinds_of, command_values}
use Rattle.command_words.specs.Numbers.{number_in, number_or}
use Rattle.command_words.specs.declared.request.TheConstants.{DEFAULT_BUDGET, MAX_ORDER, MAX_WORKLOAD, MAX_TRACES}
use Rattle.command_words.specs.declared.request.Budget.{Budget}
use Rattle.command_words.specs.declared.request.Budget.TheVariants as budget
use Rattle.command_words.specs.declared.request.Placing.{Placing}
use Rattle.command_words.specs.declared.request.Running.{Running}
use Rattle.command_words.specs.declared.request.Command.{Command}
use Rattle.command_words.specs.declared.request.Command.TheVariants as command
use Rattle.command_words.specs.declared.request.Request.{Request}
use Rattle.command_words.specs.declared.request.Request.TheVariants as request

-- so many cores, and the list of places where one is given
pub record PlainPlacing : Type 0 where
  pub cores : ℕ
  pub list : Option Text

pub record PlainRunning : Type 0 where
  pub placing : PlainPlacing
  pub budget : Budget

pub data PlainCommand : Type 0 where
  Run : PlainRunning → PlainCommand
  Check : PlainCommand
  Threads : PlainPlacing → PlainCommand
  Code : PlainCommand
  Explain : (budget : Budget) (order : ℕ) → PlainCommand
  Wave : PlainRunning → PlainCommand

-- a command on a program, whose kernel is folded or not; a workload; a dump that is told; a program whose exchanges are logged, or are held to
-- a log; or a program that runs over traces
pub data PlainRequest : Type 0 where
  OnText : (program : Text) → PlainCommand → (fold : Bool) → PlainRequest
  OnWorkload : (threads : ℕ) → PlainRunning → PlainRequest
  OnDump : (dump : Text) → PlainRequest
  OnLog : (program : Text) → PlainRunning → PlainRequest
  OnReplay : (program log : Text) (budget : Budget) → PlainRequest
  OnTraces : (program : Text) (traces : List Text) (budget : Budget) → PlainRequest

-- ---- of the values of words

abbrev pub placing_of : PlainValues → Option PlainPlacing
placing_of v = option_map (λ cores. record { cores = cores; list = v.place }) (number_or 1 1 MAX_CORES v.cores)

-- the budget of a word: the bound of the program, or so many units
abbrev pub budget_in : Text → Option Budget
budget_in word = if is_word word (codes "bound") then Some budget.Bound else option_map budget.Units (number_in 1 MAX_BUDGET word)

-- the same, or the usual one where there is no word
abbrev pub budget_or : Option Text → Option Budget
budget_or None = Some (budget.Units DEFAULT_BUDGET)
budget_or (Some word) = budget_in word

abbrev pub budget_of : PlainValues → Option Budget
budget_of v = budget_or v.budget

abbrev pub order_number : PlainValues → Option ℕ
order_number v = number_or 0 0 MAX_ORDER v.order

-- no order is given
abbrev pub running_of : PlainValues → Option PlainRunning
running_of v = cond (is_some v.order) None (option_and_then (λ p. option_map (λ b. record { placing = p; budget = b }) (budget_of v)) (placing_of v))

-- neither a budget nor an order is given
abbrev pub placing_alone_of : PlainValues → Option PlainPlacing
placing_alone_of v = cond (is_some v.budget || is_some v.order) None (placing_of v)

-- neither cores nor a list of places is given
abbrev pub explaining_of : PlainValues → Option PlainCommand
explaining_of v = cond (is_some v.cores || is_some v.place) None (option_and_then (λ b. option_map (Explain b) (order_number v)) (budget_of v))

abbrev pub has_no_options : PlainValues → Bool
has_no_options v = is_none v.cores && (is_none v.place && (is_none v.budget && is_none v.order))

-- nor is the kernel to be folded
abbrev pub is_bare : PlainValues → Bool
is_bare v = has_no_options v && not v.fold

-- the options of `run`, but for the one that folds the kernel
abbrev pub waving_of : PlainValues → Option PlainCommand
waving_of v = cond v.fold None (option_map Wave (running_of v))

abbrev pub command_of : Text → PlainValues → Option PlainCommand
command_of name v =
    if is_word name (codes "run") then option_map Run (running_of v)
    else (if is_word name (codes "threads") then option_map Threads (placing_alone_of v)
    else (if is_word name (codes "explain") then explaining_of v
    else (if is_word name (codes "wave") then waving_of v
    else (if is_word name (codes "check") then cond (is_bare v) (Some Check) None
    else (if is_word name (codes "code") then cond (has_no_options v) (Some Code) None
    else None)))))

-- a workload of 1 to 255 threads, which isn't folded
abbrev pub workload_of : Text → PlainValues → Option PlainRequest
workload_of number v = cond v.fold None (option_and_then (λ n. option_map (OnWorkload n) (running_of v)) (number_in 1 MAX_WORKLOAD number))

-- a dump, with no options
abbrev pub dump_of : Text → PlainValues → Option PlainRequest
dump_of dump v = cond (is_bare v) (Some (OnDump dump)) None

-- a program whose exchanges are logged, with the options of `run` but for the one that folds the kernel
abbrev pub logging_of : Text → PlainValues → Option PlainRequest
logging_of program v = cond v.fold None (option_map (OnLog program) (running_of v))

-- a budget alone may be given
abbrev pub has_budget_alone : PlainValues → Bool
has_budget_alone v = is_none v.cores && (is_none v.place && (is_none v.order && not v.fold))

-- there are 1 to 64 traces
abbrev pub has_traces : PlainValues → Bool
has_traces v = nat_lt 0 (length v.more) && nat_le (length v.more) MAX_TRACES

-- a program over traces, with no option but a budget
abbrev pub traces_of : Text → PlainValues → Option PlainRequest
traces_of program v = cond (has_budget_alone v && has_traces v) (option_map (OnTraces program v.more) (budget_of v)) None

-- a program that is held to a log, the one further word, with no option but a budget
abbrev pub replaying_of : Text → List Text → PlainValues → Option PlainRequest
replaying_of program (log ∷ []) v = cond (has_budget_alone v) (option_map (OnReplay program log) (budget_of v)) None
replaying_of program _ v = None

abbrev pub text_request_of : Text → Text → PlainValues → Option PlainRequest
text_request_of name program v = option_map (λ c. OnText program c v.fold) (command_of name v)

-- the request of a command that takes no further word
abbrev pub request_alone : Text → Text → PlainValues → Option PlainRequest
request_alone name program v =
    if is_word name (codes "gen") then workload_of program v
    else (if is_word name (codes "unwave") then dump_of program v
    else (if is_word name (codes "log") then logging_of program v
    else text_request_of name program v))

abbrev pub request_named : Text → Text → PlainValues → Option PlainRequest
request_named name program v =
    if is_word name (codes "farm") then traces_of program v
    else (if is_word name (codes "replay") then replaying_of program v.more v
    else (if nat_eq (length v.more) 0 then request_alone name program v else None))

abbrev pub request_by : PlainValues → Option PlainRequest
request_by v = option_and_then (λ name. option_and_then (λ program. request_named name program v) v.program) v.command

abbrev pub unless_refused : Kinds → Option PlainRequest → Option PlainRequest
unless_refused [] r = r
unless_refused (kind ∷ kinds) r = None

-- what words ask for; none where they are no command
unfoldable pub request_of : List Text → Option PlainRequest
request_of words = unless_refused (kinds_of words) (request_by (command_values words))

-- ---- of the Rust types

abbrev pub plain_placing : Placing → PlainPlacing
plain_placing p = record { cores = p.cores; list = option_map (λ s. s.now) p.list }

abbrev pub plain_running : Running → PlainRunning
plain_running r = record { placing = plain_placing r.placing; budget = r.budget }

abbrev pub plain_command : Command → PlainCommand
plain_command (command.Run r) = Run (plain_running r)
plain_command command.Check = Check
plain_command (command.Threads p) = Threads (plain_placing p)
plain_command command.Code = Code
plain_command (command.Explain b n) = Explain b n
plain_command (command.Wave r) = Wave (plain_running r)

abbrev pub plain_request : Request → PlainRequest
plain_request (request.Text program c fold) = OnText program.now (plain_command c) fold
plain_request (request.Workload n r) = OnWorkload n (plain_running r)
plain_request (request.Dump dump) = OnDump dump.now
plain_request (request.Log program r) = OnLog program.now (plain_running r)
plain_request (request.Replay program log b) = OnReplay program.now log.now b
plain_request (request.Traces program traces budget) = OnTraces program.now (map (λ s. s.now) traces.items) budget
