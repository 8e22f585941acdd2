use Rattle.std.proofs.Common.{rules, ◌≡◌, ◌++◌, ◌∷◌, [], refl, ◌∙◌, subst}
use Rattle.forec_kernel.specs.Packed.{HasRoom}
use Rattle.thread_code.specs.Plain.{plain_code}
use Rattle.thread_code.specs.Valid.{of_shape}
use Rattle.combine_tree.specs.Plain.{plain_packet}
use Rattle.combine_tree.specs.declared.packet.PacketKind.TheVariants as kind
use Rattle.exchange_meaning.specs.Logged.{jobs_in}
use Rattle.exchange_replay.specs.declared.track.Track.{Track}
use Rattle.exchange_replay.specs.declared.walk.Walk.{Walk}
use Rattle.exchange_replay.specs.Walks.{WalksOn, CannotTell}
use Rattle.exchange_replay.proofs.PairLemmas.{wakes_early, tells_other, walks, has_begun, other_reply, same_reply, does_pair, with_reply}
use Rattle.exchange_replay.proofs.replay.does_job.Goals as goal

pub returns-then-not-matches : goal.returns-then-not-matches
returns-then-not-matches c pairs passed one left at H =
    let wakes : c.args.own.now.logged.kind ≡ kind.Wake = search rules in
    let never : c.args.own.now.written.kind ≡ kind.Paused → ⊥ = search rules in
    wakes_early (plain_code c.args.code.now) c.requires.valid c.args.log.now pairs c.args._t c.args.walk.now c.args.own.now passed one left at wakes never H

pub finish-requires-clause-begun : goal.finish-requires-clause-begun
finish-requires-clause-begun c =
    let p = c.requires.pair in
    let w1 : Walk = record { thread = c.begin.new.self; branches = c.args.walk.now.branches } in
    has_begun (plain_code c.args.code.now) c.requires.valid c.args.log.now p.log c.args._t c.args.walk.now c.args.own.now p.passed p.one p.left p.at w1 refl c.begin.ensures.number (λ xs st. c.begin.ensures.stands xs p.one.job p.at.job st)

pub returns-then-not-finish : goal.returns-then-not-finish
returns-then-not-finish c pairs passed one left at H =
    let k = plain_code c.args.code.now in
    let l = c.args.log.now in
    let w1 : Walk = record { thread = c.begin.new.self; branches = c.args.walk.now.branches } in
    let i = walks k c.requires.valid l pairs c.args._t c.args.walk.now c.args.own.now passed one left at w1 refl c.begin.ensures.number (λ xs st. c.begin.ensures.stands xs one.job at.job st) in
    let never = subst (λ b. WalksOn k l pairs w1 c.finish.new.self (jobs_in passed) one.job b) c.if-not-finish.true (c.finish.ensures.walks pairs (jobs_in passed) one.job i) in
    tells_other k c.requires.valid l pairs c.args._t c.args.walk.now c.args.own.now passed one left at (subst (λ n. CannotTell k pairs n (jobs_in passed ++ one.job ∷ [])) (c.begin.ensures.number ∙ at.rests.number) never) H

pub returns : goal.returns
returns c pairs passed one left at =
    let k = plain_code c.args.code.now in
    let l = c.args.log.now in
    let w1 : Walk = record { thread = c.begin.new.self; branches = c.args.walk.now.branches } in
    let i = walks k c.requires.valid l pairs c.args._t c.args.walk.now c.args.own.now passed one left at w1 refl c.begin.ensures.number (λ xs st. c.begin.ensures.stands xs one.job at.job st) in
    let on = subst (λ b. WalksOn k l pairs w1 c.finish.new.self (jobs_in passed) one.job b) c.if-not-finish.false (c.finish.ensures.walks pairs (jobs_in passed) one.job i) in
    let number = c.finish.ensures.number ∙ c.begin.ensures.number ∙ at.rests.number in
    let resting = (c.finish.ensures.reply c.if-not-finish.false).resting in
    let own2 : Track = record { cursor = c.args.own.now.cursor; logged = c.args.own.now.logged; written = c.reply.new.packet } in
    let before = with_reply k c.args._t l c.args.own.now own2 one.reply left at.before refl refl (subst (λ n. HasRoom (of_shape k.shape) n (plain_packet c.reply.new.packet)) number c.reply.ensures.room) in
    does_pair k pairs l c.args._t c.finish.new.self c.passes_reply.new.self passed one c.passes_reply.result
    (λ e. same_reply k c.requires.valid l pairs c.args._t c.args.walk.now c.args.own.now passed one left at c.finish.new.self number c.finish.ensures.loaded resting on own2 c.passes_reply.new.self c.reply.ensures.gives c.reply.ensures.kind
    c.passes_reply.result (λ q is. c.passes_reply.ensures k.shape c.args._t one.reply q left before is) e)
    (λ e. other_reply k c.requires.valid l pairs c.args._t c.args.walk.now c.args.own.now passed one left at c.finish.new.self number c.finish.ensures.loaded resting on own2 c.passes_reply.new.self c.reply.ensures.gives c.reply.ensures.kind
    c.passes_reply.result (λ q is. c.passes_reply.ensures k.shape c.args._t one.reply q left before is) e)
