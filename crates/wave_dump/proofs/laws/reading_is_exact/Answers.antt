use Rattle.wave_dump.proofs.Exact.{exact, read_again, one_dump}
use Rattle.wave_dump.proofs.laws.reading_is_exact.Goals as goal

pub returns : goal.returns
returns c = record { told = exact; again = read_again; one = one_dump }
