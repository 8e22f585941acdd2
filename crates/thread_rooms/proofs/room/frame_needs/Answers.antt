use Rattle.std.proofs.Common.{◌<◌, length, subst, arith}
use Rattle.std.proofs.lemmas.List.{length-map}
use Rattle.thread_code.specs.Plain.{plain_code, plain_block}
use Rattle.thread_steps.specs.BlockRun.{no_block}
use Rattle.thread_state.proofs.Living.{read_plain}
use Rattle.thread_rooms.specs.Depths.{IsSoundIn}
use Rattle.thread_rooms.proofs.Spreading.{sound_function}
use Rattle.thread_rooms.proofs.room.frame_needs.Goals as goal

pub frame_need-requires-clause-sound : goal.frame_need-requires-clause-sound
frame_need-requires-clause-sound c =
    let code = plain_code c.args.code.now in
    let blocks = c.args.code.now.functions.items in
    let f = c.loop-function.function in
    let lt : f < length blocks = omega arith in
    subst (IsSoundIn code) (read_plain plain_block blocks f c.index.result.now no_block lt c.index.ensures)
    (sound_function code c.requires.valid f (omega (arith, lt, length-map blocks plain_block)))
