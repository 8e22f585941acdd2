use Rattle.std.proofs.Common.{Some, Ok, subst}
use Rattle.wave_dump.specs.Machine.{first_stage, dump_in}
use Rattle.wave_dump.specs.Reading.{Continues}
use Rattle.wave_dump.specs.Dumps.{plain_dump}
use Rattle.wave_dump.proofs.ReadWave.{found, only, bad}
use Rattle.wave_dump.proofs.reading.read_wave.Goals as goal

pub returns : goal.returns
returns c =
    let bytes = c.args.bytes.now in
    let h = c.read_parts.ensures in
    record {
      found = found plain_dump bytes c.read_parts.result h;
      only = λ d g s. only plain_dump bytes c.read_parts.result d g s h;
      bad = λ at e. bad plain_dump bytes at (subst (λ r. Continues r (dump_in 0 (Some first_stage) bytes) (λ d. Ok (plain_dump d))) e h);
    }
