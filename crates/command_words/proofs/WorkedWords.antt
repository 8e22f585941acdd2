-- What some words mean.
use Rattle.std.proofs.Common.{◌≡◌, refl, List, ℕ, zero, suc, true, false, [], ◌∷◌, Option, Some, None, codes}
use Rattle.clap.proofs.OnLiterals.{clap_on_literals}
use Rattle.clap.specs.Words.{Text}
use Rattle.command_words.specs.CommandLine.{command_line}
use Rattle.command_words.specs.declared.request.Budget.{Budget}
use Rattle.command_words.specs.declared.request.Budget.TheVariants as budget
use Rattle.command_words.specs.Requests.{PlainPlacing, PlainRunning, OnText, OnWorkload, OnDump, OnTraces, OnLog, OnReplay, Run, Check, Threads, Code, Explain, Wave, request_of}

placed : ℕ → Option Text → PlainPlacing
placed cores list = record { cores = cores; list = list }

running : ℕ → Option Text → Budget → PlainRunning
running cores list budget = record { placing = placed cores list; budget = budget }

alone : request_of (codes "run" ∷ codes "p" ∷ []) ≡ Some (OnText (codes "p") (Run (running 1 None (budget.Units 10000000))) false)
unfolding request_of running placed command_line clap_on_literals
alone = refl

options_anywhere : request_of (codes "run" ∷ codes "--cores=2" ∷ codes "p" ∷ codes "--place" ∷ codes "0,1,1" ∷ [])
    ≡ Some (OnText (codes "p") (Run (running 2 (Some (codes "0,1,1")) (budget.Units 10000000))) false)
unfolding request_of running placed command_line clap_on_literals
options_anywhere = refl

behind_dashes : request_of (codes "run" ∷ codes "--" ∷ codes "--budget" ∷ []) ≡ Some (OnText (codes "--budget") (Run (running 1 None (budget.Units 10000000))) false)
unfolding request_of running placed command_line clap_on_literals
behind_dashes = refl

leading_zeros : request_of (codes "threads" ∷ codes "p" ∷ codes "--cores" ∷ codes "02" ∷ []) ≡ Some (OnText (codes "p") (Threads (placed 2 None)) false)
unfolding request_of running placed command_line clap_on_literals
leading_zeros = refl

workload : request_of (codes "gen" ∷ codes "007" ∷ codes "--budget" ∷ codes "9" ∷ []) ≡ Some (OnWorkload 7 (running 1 None (budget.Units 9)))
unfolding request_of running placed command_line clap_on_literals
workload = refl

workload_too_large : request_of (codes "gen" ∷ codes "256" ∷ []) ≡ None
unfolding request_of running placed command_line clap_on_literals
workload_too_large = refl

twice : request_of (codes "run" ∷ codes "p" ∷ codes "--cores" ∷ codes "2" ∷ codes "--cores" ∷ codes "2" ∷ []) ≡ None
unfolding request_of running placed command_line clap_on_literals
twice = refl

order_of_a_run : request_of (codes "run" ∷ codes "p" ∷ codes "--order" ∷ codes "1" ∷ []) ≡ None
unfolding request_of running placed command_line clap_on_literals
order_of_a_run = refl

cores_too_many : request_of (codes "run" ∷ codes "p" ∷ codes "--cores" ∷ codes "65" ∷ []) ≡ None
unfolding request_of running placed command_line clap_on_literals
cores_too_many = refl

checked : request_of (codes "check" ∷ codes "p" ∷ []) ≡ Some (OnText (codes "p") Check false)
unfolding request_of running placed command_line clap_on_literals
checked = refl

checked_with_cores : request_of (codes "check" ∷ codes "p" ∷ codes "--cores" ∷ codes "1" ∷ []) ≡ None
unfolding request_of running placed command_line clap_on_literals
checked_with_cores = refl

no_program : request_of (codes "run" ∷ []) ≡ None
unfolding request_of running placed command_line clap_on_literals
no_program = refl

explained : request_of (codes "explain" ∷ codes "p" ∷ codes "--order" ∷ codes "7" ∷ []) ≡ Some (OnText (codes "p") (Explain (budget.Units 10000000) 7) false)
unfolding request_of running placed command_line clap_on_literals
explained = refl

explained_on_cores : request_of (codes "explain" ∷ codes "p" ∷ codes "--cores" ∷ codes "2" ∷ []) ≡ None
unfolding request_of running placed command_line clap_on_literals
explained_on_cores = refl

bounded : request_of (codes "run" ∷ codes "p" ∷ codes "--budget" ∷ codes "bound" ∷ []) ≡ Some (OnText (codes "p") (Run (running 1 None budget.Bound)) false)
unfolding request_of running placed command_line clap_on_literals
bounded = refl

bounded_behind_an_equals_sign : request_of (codes "explain" ∷ codes "--budget=bound" ∷ codes "p" ∷ []) ≡ Some (OnText (codes "p") (Explain budget.Bound 0) false)
unfolding request_of command_line clap_on_literals
bounded_behind_an_equals_sign = refl

bounded_workload : request_of (codes "gen" ∷ codes "7" ∷ codes "--budget" ∷ codes "bound" ∷ []) ≡ Some (OnWorkload 7 (running 1 None budget.Bound))
unfolding request_of running placed command_line clap_on_literals
bounded_workload = refl

capital_bound : request_of (codes "run" ∷ codes "p" ∷ codes "--budget" ∷ codes "Bound" ∷ []) ≡ None
unfolding request_of running placed command_line clap_on_literals
capital_bound = refl

threads_of_a_bound : request_of (codes "threads" ∷ codes "p" ∷ codes "--budget" ∷ codes "bound" ∷ []) ≡ None
unfolding request_of running placed command_line clap_on_literals
threads_of_a_bound = refl

folded : request_of (codes "run" ∷ codes "--fold" ∷ codes "p" ∷ []) ≡ Some (OnText (codes "p") (Run (running 1 None (budget.Units 10000000))) true)
unfolding request_of running placed command_line clap_on_literals
folded = refl

folded_code : request_of (codes "code" ∷ codes "p" ∷ codes "--fold" ∷ []) ≡ Some (OnText (codes "p") Code true)
unfolding request_of command_line clap_on_literals
folded_code = refl

folded_threads : request_of (codes "threads" ∷ codes "p" ∷ codes "--cores=2" ∷ codes "--fold" ∷ []) ≡ Some (OnText (codes "p") (Threads (placed 2 None)) true)
unfolding request_of placed command_line clap_on_literals
folded_threads = refl

folded_with_a_value : request_of (codes "run" ∷ codes "p" ∷ codes "--fold=x" ∷ []) ≡ None
unfolding request_of command_line clap_on_literals
folded_with_a_value = refl

folded_twice : request_of (codes "run" ∷ codes "p" ∷ codes "--fold" ∷ codes "--fold" ∷ []) ≡ None
unfolding request_of command_line clap_on_literals
folded_twice = refl

folded_check : request_of (codes "check" ∷ codes "p" ∷ codes "--fold" ∷ []) ≡ None
unfolding request_of command_line clap_on_literals
folded_check = refl

folded_workload : request_of (codes "gen" ∷ codes "7" ∷ codes "--fold" ∷ []) ≡ None
unfolding request_of command_line clap_on_literals
folded_workload = refl

waved : request_of (codes "wave" ∷ codes "p" ∷ codes "--cores" ∷ codes "3" ∷ codes "--place=0,1,2" ∷ codes "--budget" ∷ codes "7" ∷ [])
    ≡ Some (OnText (codes "p") (Wave (running 3 (Some (codes "0,1,2")) (budget.Units 7))) false)
unfolding request_of running placed command_line clap_on_literals
waved = refl

bounded_wave : request_of (codes "wave" ∷ codes "p" ∷ codes "--budget" ∷ codes "bound" ∷ []) ≡ Some (OnText (codes "p") (Wave (running 1 None budget.Bound)) false)
unfolding request_of running placed command_line clap_on_literals
bounded_wave = refl

folded_wave : request_of (codes "wave" ∷ codes "p" ∷ codes "--fold" ∷ []) ≡ None
unfolding request_of command_line clap_on_literals
folded_wave = refl

order_of_a_wave : request_of (codes "wave" ∷ codes "p" ∷ codes "--order" ∷ codes "1" ∷ []) ≡ None
unfolding request_of command_line clap_on_literals
order_of_a_wave = refl

told : request_of (codes "unwave" ∷ codes "d" ∷ []) ≡ Some (OnDump (codes "d"))
unfolding request_of command_line clap_on_literals
told = refl

told_with_a_budget : request_of (codes "unwave" ∷ codes "d" ∷ codes "--budget" ∷ codes "9" ∷ []) ≡ None
unfolding request_of command_line clap_on_literals
told_with_a_budget = refl

told_on_cores : request_of (codes "unwave" ∷ codes "d" ∷ codes "--cores=1" ∷ []) ≡ None
unfolding request_of command_line clap_on_literals
told_on_cores = refl

told_folded : request_of (codes "unwave" ∷ codes "d" ∷ codes "--fold" ∷ []) ≡ None
unfolding request_of command_line clap_on_literals
told_folded = refl

no_dump : request_of (codes "unwave" ∷ []) ≡ None
unfolding request_of command_line clap_on_literals
no_dump = refl

two_dumps : request_of (codes "unwave" ∷ codes "d" ∷ codes "e" ∷ []) ≡ None
unfolding request_of command_line clap_on_literals
two_dumps = refl

over_a_trace : request_of (codes "farm" ∷ codes "p" ∷ codes "t" ∷ []) ≡ Some (OnTraces (codes "p") (codes "t" ∷ []) (budget.Units 10000000))
unfolding request_of command_line clap_on_literals
over_a_trace = refl

over_traces : request_of (codes "farm" ∷ codes "p" ∷ codes "t" ∷ codes "--budget" ∷ codes "99" ∷ codes "u" ∷ codes "t" ∷ [])
    ≡ Some (OnTraces (codes "p") (codes "t" ∷ codes "u" ∷ codes "t" ∷ []) (budget.Units 99))
unfolding request_of command_line clap_on_literals
over_traces = refl

over_traces_behind_dashes : request_of (codes "farm" ∷ codes "--budget=bound" ∷ codes "--" ∷ codes "p" ∷ codes "t" ∷ codes "--cores" ∷ [])
    ≡ Some (OnTraces (codes "p") (codes "t" ∷ codes "--cores" ∷ []) budget.Bound)
unfolding request_of command_line clap_on_literals
over_traces_behind_dashes = refl

over_no_trace : request_of (codes "farm" ∷ codes "p" ∷ []) ≡ None
unfolding request_of command_line clap_on_literals
over_no_trace = refl

over_traces_on_cores : request_of (codes "farm" ∷ codes "p" ∷ codes "t" ∷ codes "--cores" ∷ codes "2" ∷ []) ≡ None
unfolding request_of command_line clap_on_literals
over_traces_on_cores = refl

over_traces_placed : request_of (codes "farm" ∷ codes "p" ∷ codes "t" ∷ codes "--place=0" ∷ []) ≡ None
unfolding request_of command_line clap_on_literals
over_traces_placed = refl

over_traces_in_order : request_of (codes "farm" ∷ codes "p" ∷ codes "t" ∷ codes "--order" ∷ codes "1" ∷ []) ≡ None
unfolding request_of command_line clap_on_literals
over_traces_in_order = refl

over_traces_folded : request_of (codes "farm" ∷ codes "p" ∷ codes "t" ∷ codes "--fold" ∷ []) ≡ None
unfolding request_of command_line clap_on_literals
over_traces_folded = refl

run_with_a_further_word : request_of (codes "run" ∷ codes "p" ∷ codes "t" ∷ []) ≡ None
unfolding request_of command_line clap_on_literals
run_with_a_further_word = refl

workload_with_a_further_word : request_of (codes "gen" ∷ codes "7" ∷ codes "t" ∷ []) ≡ None
unfolding request_of command_line clap_on_literals
workload_with_a_further_word = refl

names : ℕ → List Text
names zero = []
names (suc n) = codes "t" ∷ names n

over_as_many_traces_as_may_be : request_of (codes "farm" ∷ codes "p" ∷ names 64) ≡ Some (OnTraces (codes "p") (names 64) (budget.Units 10000000))
unfolding request_of names command_line clap_on_literals
over_as_many_traces_as_may_be = refl

over_a_trace_too_many : request_of (codes "farm" ∷ codes "p" ∷ names 65) ≡ None
unfolding request_of names command_line clap_on_literals
over_a_trace_too_many = refl

logged : request_of (codes "log" ∷ codes "p" ∷ codes "--cores" ∷ codes "3" ∷ codes "--place=0,1,2" ∷ codes "--budget" ∷ codes "7" ∷ [])
    ≡ Some (OnLog (codes "p") (running 3 (Some (codes "0,1,2")) (budget.Units 7)))
unfolding request_of running placed command_line clap_on_literals
logged = refl

logged_folded : request_of (codes "log" ∷ codes "p" ∷ codes "--fold" ∷ []) ≡ None
unfolding request_of command_line clap_on_literals
logged_folded = refl

logged_in_order : request_of (codes "log" ∷ codes "p" ∷ codes "--order" ∷ codes "1" ∷ []) ≡ None
unfolding request_of command_line clap_on_literals
logged_in_order = refl

logged_with_a_further_word : request_of (codes "log" ∷ codes "p" ∷ codes "l" ∷ []) ≡ None
unfolding request_of command_line clap_on_literals
logged_with_a_further_word = refl

replayed : request_of (codes "replay" ∷ codes "p" ∷ codes "--budget" ∷ codes "7" ∷ codes "l" ∷ []) ≡ Some (OnReplay (codes "p") (codes "l") (budget.Units 7))
unfolding request_of command_line clap_on_literals
replayed = refl

replayed_of_a_bound : request_of (codes "replay" ∷ codes "p" ∷ codes "l" ∷ codes "--budget=bound" ∷ []) ≡ Some (OnReplay (codes "p") (codes "l") budget.Bound)
unfolding request_of command_line clap_on_literals
replayed_of_a_bound = refl

replayed_without_a_log : request_of (codes "replay" ∷ codes "p" ∷ []) ≡ None
unfolding request_of command_line clap_on_literals
replayed_without_a_log = refl

replayed_with_two_logs : request_of (codes "replay" ∷ codes "p" ∷ codes "l" ∷ codes "m" ∷ []) ≡ None
unfolding request_of command_line clap_on_literals
replayed_with_two_logs = refl

replayed_on_cores : request_of (codes "replay" ∷ codes "p" ∷ codes "l" ∷ codes "--cores" ∷ codes "2" ∷ []) ≡ None
unfolding request_of command_line clap_on_literals
replayed_on_cores = refl

replayed_folded : request_of (codes "replay" ∷ codes "p" ∷ codes "l" ∷ codes "--fold" ∷ []) ≡ None
unfolding request_of command_line clap_on_literals
replayed_folded = refl
