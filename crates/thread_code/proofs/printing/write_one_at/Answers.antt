-- The text before the place, then the place.
use Rattle.std.proofs.Common.{rules, append_assoc}
use Rattle.std.proofs.lemmas.Grind.{put_two}
use Rattle.thread_code.proofs.printing.write_one_at.Goals as goal

pub returns : goal.returns
returns g c = λ plain ok.
    let before = c.write_one.ensures plain (search rules) in
    put_two _ _ _ _ _ _ _ before (c.write_place.ensures before.plain ok) (simp append_assoc)
