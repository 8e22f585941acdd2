use Rattle.std.proofs.Common.{subst}
use Rattle.thread_code.specs.Plain.{plain_code}
use Rattle.core_machine.specs.Threads.{LeftByEvent}
use Rattle.core_machine.proofs.Jobs.{tells_exactly, run_stands, run_left, can_run, over_exactly, trap_exactly}
use Rattle.core_machine.proofs.Asking.{asks, branches_are}
use Rattle.core_machine.proofs.thread.Thread.run.Goals as goal

pub returns-in-Trapped-clause-exactly : goal.returns-in-Trapped-clause-exactly
returns-in-Trapped-clause-exactly c = λ m s st.
    trap_exactly (plain_code c.args.code.now) c.args.self.now m st c.in-Trapped.place c.in-Trapped.trap c.in-Trapped.is c.requires.running s

pub returns-in-Over-clause-exactly : goal.returns-in-Over-clause-exactly
returns-in-Over-clause-exactly c = λ m s st. over_exactly (plain_code c.args.code.now) c.args.self.now m st c.in-Over.is s

pub returns-in_default : goal.returns-in_default
returns-in_default c =
    let h = c.args.self.now in
    let h' = c.run_on.new.self in
    let code = plain_code c.args.code.now in
    let running = can_run h h.phase c.requires.running c.in_default.not-Trapped c.in_default.not-Over in
    let k = c.run_on.ensures in
    let left = run_left code h h' c.run_on.result k in
    record {
      loaded = k.moved.loaded;
      number = k.moved.number;
      stands = run_stands code h h' c.run_on.result k running;
      exactly = tells_exactly code h h' c.run_on.result k running;
      left = left;
      asks = λ e. asks code h' k.moved.loaded (subst (LeftByEvent h') e left);
      branches = λ e. branches_are code h' k.moved.loaded (subst (LeftByEvent h') e left);
    }
