use Rattle.std.proofs.Common.{◌≡◌, ◌≤◌, ◌<◌, ◌^◌, ◌-◌, min, length, sym, ap, subst, ◌∙◌, arith}
use Rattle.std.proofs.lemmas.List.{length-map}
use Rattle.forec_kernel.specs.Shapes.{PlainShape, plain_thread, plain_shape}
use Rattle.forec_kernel.specs.declared.shape.Shape.{Shape}
use Rattle.thread_code.specs.Plain.{plain_code}
use Rattle.thread_code.specs.declared.instruction.CodeParts.{CodeParts}
use Rattle.core_host.specs.Hosted.{Hosted, code_of}
use Rattle.exchange_log.specs.Lines.{lines_room}
use Rattle.exchange_log.specs.Posted.{IsAnswered, log_in, log_words}
use Rattle.log_runs.specs.declared.logging.TheConstants.{LOG_WORDS}
use Rattle.log_runs.proofs.TellingLemmas.{words_are, full, kept, can_tell, Told, told_full, told_kept, told_front}
use Rattle.log_runs.proofs.logging.tell_log.Given.{Over}
use Rattle.log_runs.proofs.logging.tell_log.Goals.{After-len, After-needed}
use Rattle.log_runs.proofs.logging.tell_log.Goals as goal

module _ (g : Over) (c : After-needed g) where
  abbrev host : Hosted
  host = c.ticker.inside.host

  -- no job is out
  answered : IsAnswered host.mail
  answered =
      let i = c.ticker.invariant in
      (c.posts_make_the_log.ensures.jobs host c.posts.ensures.port i.whole i.given (c.posts.ensures.root i.given i.jobs, c.posts.ensures.taken)).answered

  -- the log needs so many words
  words : c.needed.result ≡ min (log_words (code_of host).shape (log_in host.mail)) (2 ^ 64 - 1)
  words = words_are host c.posts.ensures.port answered c.port-port.result.now c.port-port.ensures c.needed.result c.needed.ensures.log

-- the threads are those of the host's code
count : (g : Over) (c : After-len g) → c.len.result ≡ length (code_of c.ticker.inside.host).shape.threads
count g c =
    let shape = ap (λ (s : Shape). length s.threads.items) c.shape-shape.ensures.same in
    let mapped = length-map c.ticker.inside.code.now.shape.threads.items plain_thread in
    let code = ap (λ (x : CodeParts). length (plain_code x).shape.threads) c.ticker.invariant.same in
    omega (arith, c.len.ensures, c.shape-shape.result.now.threads.ok.0, shape, mapped, code)

pub returns-then-needed : goal.returns-then-needed
returns-then-needed g c =
    let b = (goal.at.returns-then-needed g c).After-needed in
    let h = host g b in
    subst (λ (x : Hosted). Told g.K.Sink.held g.K.Sink.faults g.K.Sink.down x c.args.end c.args.out.now c.say.new.out c.say.result) c.ticker.view_is
    (told_full g.K.Sink.held g.K.Sink.faults g.K.Sink.down h c.args.end c.args.out.now c.say.new.out c.say.result
    (full h c.posts.ensures.port (answered g b) c.port-port.result.now c.port-port.ensures c.needed.result c.args.end (words g b) (omega (arith, c.if-needed.true))) c.say.ensures)

pub write_log-requires-clause-tells : goal.write_log-requires-clause-tells
write_log-requires-clause-tells g c =
    let at = goal.at.write_log-requires-clause-tells g c in
    let h = host g at.After-needed in
    let i = c.ticker.invariant in
    let plain : plain_shape c.shape-shape.result.now ≡ (code_of h).shape = ap plain_shape c.shape-shape.ensures.same ∙ sym (ap (λ (x : CodeParts). (plain_code x).shape) i.same) in
    let rooms : c.log_room.result ≡ min (lines_room (code_of h).shape) (2 ^ 64 - 1) = c.log_room.ensures ∙ ap (λ (s : PlainShape). min (lines_room s) (2 ^ 64 - 1)) plain in
    let short : length c.in-Ok.room.line.items < 2 ^ 64 - 1 = omega (arith, c.in-Ok.room.line.ok, c.in-Ok.room.line.small) in
    let few : c.needed-2.result ≤ LOG_WORDS = omega (arith, c.if-needed.false, c.needed.ensures.words, c.needed-2.ensures.words) in
    let small : c.port-port.result.now.words < 2 ^ 64 = omega (arith, c.words.ensures, c.words.type_inv) in
    can_tell h c.posts.ensures.port (answered g at.After-needed) c.port-port.result.now c.port-port.ensures c.needed-2.result c.len.result c.log_room.result (length c.in-Ok.room.line.items) c.needed-2.ensures.words few
    (omega (arith, c.if-needed-words.false, c.words.ensures)) small (count g at.After-len) rooms c.in-Ok.ensures.line short

pub returns-in-Ok-write_log : goal.returns-in-Ok-write_log
returns-in-Ok-write_log g c =
    let at = goal.at.returns-in-Ok-write_log g c in
    let h = host g at.After-needed in
    let is = kept h c.posts.ensures.port (answered g at.After-needed) c.port-port.result.now c.port-port.ensures c.needed.result c.args.end (words g at.After-needed) (omega (arith, c.if-needed.false)) in
    subst (λ (x : Hosted). Told g.K.Sink.held g.K.Sink.faults g.K.Sink.down x c.args.end c.args.out.now c.write_log.new.out c.args.end) c.ticker.view_is
    (told_kept g.K.Sink.held g.K.Sink.faults g.K.Sink.down h c.args.end c.args.out.now c.write_log.new.out is c.port-port.result.now.mail c.port-port.ensures c.len.result (count g at.After-len) c.requires
    c.in-Ok-write_log.ensures.ok)

pub returns : goal.returns
returns g c =
    let at = goal.at.returns g c in
    let h = host g at.After-needed in
    let is = kept h c.posts.ensures.port (answered g at.After-needed) c.port-port.result.now c.port-port.ensures c.needed.result c.args.end (words g at.After-needed) (omega (arith, c.if-needed.false)) in
    subst (λ (x : Hosted). Told g.K.Sink.held g.K.Sink.faults g.K.Sink.down x c.args.end c.args.out.now c.write_log.new.out _) c.ticker.view_is
    (told_front g.K.Sink.held g.K.Sink.faults g.K.Sink.down h c.args.end c.args.out.now c.write_log.new.out is c.port-port.result.now.mail c.port-port.ensures c.len.result (count g at.After-len)
    c.in-Err.ensures.cause.failed c.in-Err.ensures.err)
