use Rattle.std.proofs.Common.{refl}
use Rattle.wave_dump.specs.Wave.{wave_text}
use Rattle.dump_report.proofs.Lines.{report_of_long, report_of_dump, report_of_none}
use Rattle.dump_report.proofs.laws.dumps_are_told.Goals as goal

pub returns : goal.returns
returns c =
    record {
      dump = λ d h s. report_of_dump (wave_text d) d s h refl;
      other = λ text front s none l. report_of_none text front s none l;
      long = λ text s. report_of_long text s;
    }
