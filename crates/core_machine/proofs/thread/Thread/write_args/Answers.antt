use Rattle.std.proofs.Common.{◌≡◌, ◌∙◌, Some, length, drop, take, sym, ap, arith}
use Rattle.thread_code.specs.Plain.{plain_code}
use Rattle.thread_code.specs.Valid.{arguments_of}
use Rattle.thread_state.specs.Pars.{Links, arguments_from}
use Rattle.thread_state.specs.Frames.{args_from}
use Rattle.core_machine.proofs.Args.{sum_within, sum_parts, args_behind}
use Rattle.thread_state.proofs.Links.{fork_arguments}
use Rattle.core_machine.proofs.thread.Thread.write_args.Goals.{After-arguments_from-count}
use Rattle.core_machine.proofs.thread.Thread.write_args.Goals as goal

pub arguments_from-count-requires : goal.arguments_from-count-requires
arguments_from-count-requires c =
    let h = c.args.self.now in
    let f = fork_arguments (plain_code c.args.code.now).shape h.own.pars c.requires.pars h.branches.numbers c.requires.branches.0 c.requires.branches.1 c.args.k c.requires.branch in
    let n = ap (λ (p : Links). length p.siblings) c.pars-pars.ensures in
    omega (arith, f.0, n, c.at.ensures)

-- how many arguments lie there
count : (c : After-arguments_from-count) → c.arguments_from-count.result ≡ arguments_of (plain_code c.args.code.now).shape (drop c.args.k c.args.self.now.branches.numbers)
count c =
    let h = c.args.self.now in
    let f = fork_arguments (plain_code c.args.code.now).shape h.own.pars c.requires.pars h.branches.numbers c.requires.branches.0 c.requires.branches.1 c.args.k c.requires.branch in
    c.arguments_from-count.ensures ∙ ap (λ (p : Links). arguments_from p.siblings (Some c.at.result)) c.pars-pars.ensures ∙ ap (λ b. arguments_from h.own.pars.siblings (Some b)) c.at.ensures ∙ f.1

pub write_args-requires-clause-within : goal.write_args-requires-clause-within
write_args-requires-clause-within c =
    let s = (plain_code c.args.code.now).shape in
    let bs = c.args.self.now.branches.numbers in
    let n = count (goal.at.write_args-requires-clause-within c).After-arguments_from-count in
    omega (arith, n, c.requires.args, sum_within s bs c.args.k c.requires.branch, sum_parts s bs c.args.k)

pub write_args-requires-clause-stack : goal.write_args-requires-clause-stack
write_args-requires-clause-stack c =
    let n = count (goal.at.write_args-requires-clause-stack c).After-arguments_from-count in
    omega (arith, n, c.requires.stack, sum_parts (plain_code c.args.code.now).shape c.args.self.now.branches.numbers c.args.k)

pub returns : goal.returns
returns c =
    let s = (plain_code c.args.code.now).shape in
    let stack = c.args.self.now.stack.stack in
    let bs = c.args.self.now.branches.numbers in
    let k = c.args.k in
    let n = length c.args.args.now in
    c.write_args.ensures ∙ ap (λ m. args_from m 0 n stack) (count (goal.at.returns c).After-arguments_from-count) ∙ sym (args_behind s bs k n stack)
    ∙ ap (λ n. args_from (arguments_of s bs) (arguments_of s (take k bs)) n stack) c.requires.args
