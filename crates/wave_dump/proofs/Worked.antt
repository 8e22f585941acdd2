-- Worked dumps.
use Rattle.std.proofs.Common.{◌≡◌, [], ◌∷◌, pos, codes, refl, Some, Err}
use Rattle.std.specs.Fmt.{digits}
use Rattle.wave_dump.specs.Wave.{PlainDump, wave_text}
use Rattle.wave_dump.specs.Machine.{first_stage, dump_in}

abbrev pub row_one : PlainDump
row_one = record { names = codes "o" ∷ []; ticks = (pos 1 ∷ []) ∷ (pos 2 ∷ []) ∷ []; ending = codes "rows 2" }

pub worked_one : wave_text row_one ≡ codes "$timescale 1 ns $end\n$scope module forec $end\n$var wire 32 ! o $end\n$upscope $end\n$enddefinitions $end\n#1\nb00000000000000000000000000000001 !\n#2\nb00000000000000000000000000000010 !\n$comment rows 2 $end\n"
unfolding digits
worked_one = refl

-- refused at byte 1, and at byte 14
pub bad_empty : dump_in 0 (Some first_stage) [] ≡ Err 0
bad_empty = refl

pub bad_unit : dump_in 0 (Some first_stage) (codes "$timescale 1 us $end\n") ≡ Err 13
bad_unit = refl
