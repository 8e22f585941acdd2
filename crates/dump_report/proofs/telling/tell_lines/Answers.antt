use Rattle.std.proofs.Common.{◌≡◌, ◌++◌, ℕ, List, take, codes, sym, subst, ap, ◌∙◌}
use Rattle.std.specs.Io.KnownBytes.{Appends}
use Rattle.wave_dump.specs.Dumps.{plain_dump, plain_ticks}
use Rattle.whole_writes.specs.Calls.{AppendsFront}
use Rattle.dump_report.specs.Calls.{Sends}
use Rattle.dump_report.specs.Told.{told_lines, told_ticks}
use Rattle.whole_writes.proofs.Appending.{front_longer}
use Rattle.dump_report.proofs.Sent.{range_front, on_ok, on_err, err_holds, sends_longer, sends_closing, sends_all, sends_front, last_front}
use Rattle.dump_report.proofs.telling.tell_lines.Given.{Over}
use Rattle.dump_report.proofs.telling.tell_lines.Goals.{In_ok-waiting, After-write_all}
use Rattle.dump_report.proofs.telling.tell_lines.Goals as goal

-- what waits behind the lines of the ticks
told : (g : Over) (c : In_ok-waiting g) →
    Sends (g.K.Sink.held c.args.out.now) (g.K.Sink.held c.tell_ticks.new.out) (told_ticks 1 c.args.dump.now.names (plain_ticks c.args.dump.now.ticks.items)) (take c.in_ok-waiting.waiting c.tell_ticks.new.room)
told g c =
    let a = g.K.Sink.held c.args.out.now in
    let b = g.K.Sink.held c.tell_ticks.new.out in
    subst (λ ts. Sends a b (told_ticks 1 c.args.dump.now.names (plain_ticks ts)) (take c.in_ok-waiting.waiting c.tell_ticks.new.room)) c.deref.ensures.value c.in_ok-waiting.ensures.ok

-- and with the ending
closing : (g : Over) (c : After-write_all g) →
    Sends (g.K.Sink.held c.args.out.now) (g.K.Sink.held c.tell_ticks.new.out) (told_ticks 1 c.args.dump.now.names (plain_ticks c.args.dump.now.ticks.items)) (take c.in_ok-waiting.waiting c.tell_ticks.new.room) →
    Sends (g.K.Sink.held c.args.out.now) (g.K.Sink.held c.make_room.new.out) (told_lines (plain_dump c.args.dump.now)) (take c.put_ending-end.result c.put_ending-end.new.room)
closing g c waits =
    let left : List ℕ = take c.in_ok-left.left c.tell_ticks.new.room in
    let put = c.put_ending-end.ensures.front ∙ ap (λ e. left ++ (e ++ codes "\n")) c.deref-2.ensures.value in
    sends_closing _ _ _ _ (take c.in_ok-waiting.waiting c.tell_ticks.new.room) left _ _ waits c.in_ok-left.ensures.ok put

pub returns-in_err-waiting-clause-err : goal.returns-in_err-waiting-clause-err
returns-in_err-waiting-clause-err g c =
    let held = g.K.Sink.held in
    let d = c.args.dump.now in
    let a = held c.args.out.now in
    let b = held c.tell_ticks.new.out in
    let lines : List ℕ = told_ticks 1 d.names (plain_ticks d.ticks.items) in
    let front : AppendsFront a b lines = subst (λ ts. AppendsFront a b (told_ticks 1 d.names (plain_ticks ts))) c.deref.ensures.value c.in_err-waiting.ensures.err in
    err_holds c.from_residual.result (AppendsFront a b (told_lines (plain_dump d))) (front_longer a b lines (d.ending.items ++ codes "\n") front)

pub returns-in_err-left-clause-err : goal.returns-in_err-left-clause-err
returns-in_err-left-clause-err g c =
    let held = g.K.Sink.held in
    let d = c.args.dump.now in
    let a = held c.args.out.now in
    let b = held c.tell_ticks.new.out in
    let last : List ℕ = d.ending.items ++ codes "\n" in
    let waiting : List ℕ = take c.in_ok-waiting.waiting c.tell_ticks.new.room in
    err_holds c.from_residual-in_err-left.result (AppendsFront a (held c.make_room.new.out) (told_lines (plain_dump d)))
    (sends_front a b (held c.make_room.new.out) (told_lines (plain_dump d)) waiting last (sends_longer a b _ waiting last (told g (goal.at.returns-in_err-left-clause-err g c).In_ok-waiting)) c.in_err-left.ensures.err)

pub returns-clause-ok : goal.returns-clause-ok
returns-clause-ok g c =
    let at = goal.at.returns-clause-ok g c in
    on_ok c.write_all.result _ _ c.write_all.ensures.ok (λ h. sends_all _ _ _ _ _ (closing g at.After-write_all (told g at.In_ok-waiting)) h)

pub returns-clause-err : goal.returns-clause-err
returns-clause-err g c =
    let at = goal.at.returns-clause-err g c in
    on_err c.write_all.result _ _ c.write_all.ensures.err (λ h. last_front _ _ _ _ _ (closing g at.After-write_all (told g at.In_ok-waiting)) h)
