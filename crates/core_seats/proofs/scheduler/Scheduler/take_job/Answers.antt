use Rattle.std.proofs.Common.{◌≡◌, ◌≤◌, ◌^◌, Some, ◌++◌, ◌∷◌, [], refl, sym, ap, ◌∙◌, subst}
use Rattle.forec_kernel.specs.Packed.{HasRoom, IsJob}
use Rattle.combine_tree.specs.declared.packet.Packet.{Packet}
use Rattle.thread_code.specs.declared.instruction.CodeParts.{CodeParts}
use Rattle.thread_code.specs.Plain.{plain_code}
use Rattle.thread_code.specs.Valid.{of_shape}
use Rattle.combine_tree.specs.Plain.{plain_packet}
use Rattle.core_machine.specs.declared.thread.Thread.{Thread}
use Rattle.core_machine.specs.Threads.{Loaded, StandsFor, CanBegin, IsResting}
use Rattle.copy_slots.specs.Ports.{answered}
use Rattle.core_seats.specs.Descending.{IsRunning}
use Rattle.core_seats.specs.Keeping.{SchedulerState, code_in}
use Rattle.core_seats.specs.Waiting.{RestsOrWaits}
use Rattle.core_seats.specs.Serving.{Touches, OnlyLooks, HasMissed}
use Rattle.core_seats.proofs.Beginning.{only_looks, missed_touches, missed_answered, missed_between, has_missed, begun_touches, begun_answered, its_start, its_room, its_allowance, begun_running, its_asks, begun_is, same_code, same_thread}
use Rattle.core_seats.proofs.scheduler.Scheduler.take_job.Goals as goal

pub returns-in_err-packet-clause-touches : goal.returns-in_err-packet-clause-touches
returns-in_err-packet-clause-touches g c = subst (Touches c.args.mailbox c.args.self.now) (sym c.in_err-packet.ensures.state) (missed_touches c.args.self.now c.args.mailbox c.requires.inside c.requires.seated c.requires.rests)

pub returns-in_err-packet-clause-answered : goal.returns-in_err-packet-clause-answered
returns-in_err-packet-clause-answered g c = ap (λ (s : SchedulerState). answered s.mail c.args.mailbox) c.in_err-packet.ensures.state ∙ missed_answered c.args.self.now c.args.mailbox c.requires.inside c.requires.seated c.requires.rests

pub returns-in_err-packet-clause-between : goal.returns-in_err-packet-clause-between
returns-in_err-packet-clause-between g c _ = subst (λ (s : SchedulerState). RestsOrWaits s c.args.mailbox) (sym c.in_err-packet.ensures.state) (missed_between c.args.self.now c.args.mailbox c.requires.inside c.requires.seated c.requires.rests)

pub returns-in_err-packet-clause-nothing : goal.returns-in_err-packet-clause-nothing
returns-in_err-packet-clause-nothing g c _ = subst (HasMissed c.args.mailbox c.args.self.now) (sym c.in_err-packet.ensures.state) (has_missed c.args.self.now c.args.mailbox c.requires.inside c.requires.seated c.requires.rests)

pub returns-in_err-packet-clause-looks : goal.returns-in_err-packet-clause-looks
returns-in_err-packet-clause-looks g c _ = subst (OnlyLooks c.args.mailbox c.args.self.now) (sym c.in_err-packet.ensures.state) (only_looks c.args.self.now c.args.mailbox c.requires.inside c.requires.seated c.requires.rests)

pub begin-requires-clause-resting : goal.begin-requires-clause-resting
begin-requires-clause-resting g c =
    let same = same_thread c.args.self.now c.args.mailbox c.requires.inside c.requires.seated c.requires.rests c.in_ok-packet.packet c.take.new.self c.in_ok-packet.ensures.state c.in_ok-packet.ensures.job c.take_thread-thread.result c.take_thread-thread.ensures.seat c.take_thread-thread.new.self c.take_thread-thread.ensures.rest c.deref_mut-begun.result.now (c.in-Some.is ∙ ap Some (sym c.deref_mut-begun.ensures.value)) in
    subst IsResting same c.requires.rests.idle.resting

pub begin-requires-clause-job : goal.begin-requires-clause-job
begin-requires-clause-job g c =
    let same = same_thread c.args.self.now c.args.mailbox c.requires.inside c.requires.seated c.requires.rests c.in_ok-packet.packet c.take.new.self c.in_ok-packet.ensures.state c.in_ok-packet.ensures.job c.take_thread-thread.result c.take_thread-thread.ensures.seat c.take_thread-thread.new.self c.take_thread-thread.ensures.rest c.deref_mut-begun.result.now (c.in-Some.is ∙ ap Some (sym c.deref_mut-begun.ensures.value)) in
    subst (λ (p : Packet). CanBegin c.deref_mut-begun.result.now p.kind) (sym c.deref.ensures) (subst (λ t. CanBegin t c.in_ok-packet.packet.kind) same (its_start c.args.self.now c.args.mailbox c.requires.inside c.requires.seated c.requires.rests c.in_ok-packet.packet (its_asks c.args.self.now c.args.mailbox c.requires.inside c.requires.seated c.requires.rests c.in_ok-packet.packet c.take.new.self c.in_ok-packet.ensures.state c.in_ok-packet.ensures.job)))

pub begin-requires-clause-room : goal.begin-requires-clause-room
begin-requires-clause-room g c =
    let same = same_thread c.args.self.now c.args.mailbox c.requires.inside c.requires.seated c.requires.rests c.in_ok-packet.packet c.take.new.self c.in_ok-packet.ensures.state c.in_ok-packet.ensures.job c.take_thread-thread.result c.take_thread-thread.ensures.seat c.take_thread-thread.new.self c.take_thread-thread.ensures.rest c.deref_mut-begun.result.now (c.in-Some.is ∙ ap Some (sym c.deref_mut-begun.ensures.value)) in
    let take_thread : c.take_thread-thread.new.self.code ≡ c.args.self.now.code = same_code c.args.self.now c.args.mailbox c.requires.inside c.requires.seated c.requires.rests c.in_ok-packet.packet c.take.new.self c.in_ok-packet.ensures.state c.in_ok-packet.ensures.job c.take_thread-thread.result c.take_thread-thread.ensures.seat c.take_thread-thread.new.self c.take_thread-thread.ensures.rest in
    let code : c.self-2.inside.code.now ≡ c.args.self.now.code = ap (λ (s : SchedulerState). s.code) c.self-2.view_is ∙ take_thread in
    subst (λ (p : Packet). HasRoom (of_shape (plain_code c.self-2.inside.code.now).shape) c.deref_mut-begun.result.now.number (plain_packet p)) (sym c.deref.ensures)
    (subst (λ (x : CodeParts). HasRoom (of_shape (plain_code x).shape) c.deref_mut-begun.result.now.number (plain_packet c.in_ok-packet.packet)) (sym code)
    (subst (λ n. HasRoom (of_shape (code_in c.args.self.now).shape) n (plain_packet c.in_ok-packet.packet)) (sym c.requires.rests.idle.sits.number ∙ ap (λ (t : Thread). t.number) same) (its_room c.args.self.now c.args.mailbox c.requires.inside c.requires.seated c.requires.rests c.in_ok-packet.packet (its_asks c.args.self.now c.args.mailbox c.requires.inside c.requires.seated c.requires.rests c.in_ok-packet.packet c.take.new.self c.in_ok-packet.ensures.state c.in_ok-packet.ensures.job))))

pub begin-requires-clause-small : goal.begin-requires-clause-small
begin-requires-clause-small g c = subst (λ (p : Packet). p.allowance ≤ 2 ^ 62) (sym c.deref.ensures) (its_allowance c.args.self.now c.args.mailbox c.requires.inside c.requires.seated c.requires.rests c.in_ok-packet.packet (its_asks c.args.self.now c.args.mailbox c.requires.inside c.requires.seated c.requires.rests c.in_ok-packet.packet c.take.new.self c.in_ok-packet.ensures.state c.in_ok-packet.ensures.job))

pub returns-clause-touches : goal.returns-clause-touches
returns-clause-touches g c = subst (Touches c.args.mailbox c.args.self.now) (sym (begun_is c.args.self.now c.args.mailbox c.requires.inside c.requires.seated c.requires.rests c.in_ok-packet.packet c.take.new.self c.in_ok-packet.ensures.state c.in_ok-packet.ensures.job c.take_thread-thread.result c.take_thread-thread.ensures.seat c.take_thread-thread.new.self c.take_thread-thread.ensures.rest)) (begun_touches c.args.self.now c.args.mailbox c.requires.inside c.requires.seated c.requires.rests c.in_ok-packet.packet (its_asks c.args.self.now c.args.mailbox c.requires.inside c.requires.seated c.requires.rests c.in_ok-packet.packet c.take.new.self c.in_ok-packet.ensures.state c.in_ok-packet.ensures.job))

pub returns-clause-answered : goal.returns-clause-answered
returns-clause-answered g c = ap (λ (s : SchedulerState). answered s.mail c.args.mailbox) (begun_is c.args.self.now c.args.mailbox c.requires.inside c.requires.seated c.requires.rests c.in_ok-packet.packet c.take.new.self c.in_ok-packet.ensures.state c.in_ok-packet.ensures.job c.take_thread-thread.result c.take_thread-thread.ensures.seat c.take_thread-thread.new.self c.take_thread-thread.ensures.rest) ∙ begun_answered c.args.self.now c.args.mailbox c.requires.inside c.requires.seated c.requires.rests c.in_ok-packet.packet (its_asks c.args.self.now c.args.mailbox c.requires.inside c.requires.seated c.requires.rests c.in_ok-packet.packet c.take.new.self c.in_ok-packet.ensures.state c.in_ok-packet.ensures.job)

pub returns-clause-running : goal.returns-clause-running
returns-clause-running g c =
    let same = same_thread c.args.self.now c.args.mailbox c.requires.inside c.requires.seated c.requires.rests c.in_ok-packet.packet c.take.new.self c.in_ok-packet.ensures.state c.in_ok-packet.ensures.job c.take_thread-thread.result c.take_thread-thread.ensures.seat c.take_thread-thread.new.self c.take_thread-thread.ensures.rest c.deref_mut-begun.result.now (c.in-Some.is ∙ ap Some (sym c.deref_mut-begun.ensures.value)) in
    let take_thread : c.take_thread-thread.new.self.code ≡ c.args.self.now.code = same_code c.args.self.now c.args.mailbox c.requires.inside c.requires.seated c.requires.rests c.in_ok-packet.packet c.take.new.self c.in_ok-packet.ensures.state c.in_ok-packet.ensures.job c.take_thread-thread.result c.take_thread-thread.ensures.seat c.take_thread-thread.new.self c.take_thread-thread.ensures.rest in
    let code : c.self-2.inside.code.now ≡ c.args.self.now.code = ap (λ (s : SchedulerState). s.code) c.self-2.view_is ∙ take_thread in
    let running = begun_running c.args.self.now c.args.mailbox c.requires.inside c.requires.seated c.requires.rests c.in_ok-packet.packet (its_asks c.args.self.now c.args.mailbox c.requires.inside c.requires.seated c.requires.rests c.in_ok-packet.packet c.take.new.self c.in_ok-packet.ensures.state c.in_ok-packet.ensures.job) c.begin.new.self (subst (λ (x : CodeParts). Loaded (plain_code x) c.begin.new.self) code c.begin.ensures.loaded) (c.begin.ensures.number ∙ ap (λ (t : Thread). t.number) (sym same))
    (λ xs job is st. subst (λ (x : CodeParts). StandsFor (plain_code x) c.begin.new.self (xs ++ record { job = job; replies = [] } ∷ [])) code
    (c.begin.ensures.stands xs job (subst (λ (p : Packet). IsJob (plain_packet p) job) (sym c.deref.ensures) is) (subst (λ (x : CodeParts). StandsFor (plain_code x) c.deref_mut-begun.result.now xs) (sym code) (subst (λ t. StandsFor (code_in c.args.self.now) t xs) same st)))) c.begin.ensures.running in
    (refl, subst (λ (s : SchedulerState). IsRunning s (record { mailbox = c.args.mailbox; thread = c.begin.new.self; packet = c.in_ok-packet.packet })) (sym (begun_is c.args.self.now c.args.mailbox c.requires.inside c.requires.seated c.requires.rests c.in_ok-packet.packet c.take.new.self c.in_ok-packet.ensures.state c.in_ok-packet.ensures.job c.take_thread-thread.result c.take_thread-thread.ensures.seat c.take_thread-thread.new.self c.take_thread-thread.ensures.rest)) running)
