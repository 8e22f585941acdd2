use Rattle.std.proofs.Common.{refl, sym, subst}
use Rattle.forec_kernel.specs.Packed.{HasRoom}
use Rattle.thread_code.specs.Plain.{plain_code}
use Rattle.thread_code.specs.Valid.{of_shape}
use Rattle.combine_tree.specs.Plain.{plain_packet}
use Rattle.core_machine.specs.Forks.{branch_at}
use Rattle.exchange_replay.specs.declared.track.Track.{Track}
use Rattle.exchange_replay.proofs.ForkLemmas.{with_written}
use Rattle.exchange_replay.proofs.track.Track.passes_branch.Goals as goal

pub job-requires-clause-room : goal.job-requires-clause-room
job-requires-clause-room c = c.requires.before.1.fits.written

pub passes_job-requires : goal.passes_job-requires
passes_job-requires c =
    let k = plain_code c.args.code.now in
    let b = branch_at c.args.thread.now c.args.k in
    let y : Track = record { cursor = c.args.self.now.cursor; logged = c.args.self.now.logged; written = c.job.new.packet } in
    (k.shape, b, c.requires.before.0, with_written k.shape b c.args.log.now c.args.self.now y c.requires.before.0 c.requires.before.1 refl refl c.job.ensures.room)

pub returns : goal.returns
returns c w left at before =
    let k = plain_code c.args.code.now in
    let tells = c.job.ensures.job w at in
    let y : Track = record { cursor = c.args.self.now.cursor; logged = c.args.self.now.logged; written = c.job.new.packet } in
    let now = with_written k.shape w.branch c.args.log.now c.args.self.now y left before refl refl (subst (λ n. HasRoom (of_shape k.shape) n (plain_packet c.job.new.packet)) (sym tells.0) c.job.ensures.room) in
    c.passes_job.ensures k.shape w.branch left w.job now tells.1
