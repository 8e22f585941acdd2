-- Worked lines, computed.
use Rattle.std.proofs.Common.{◌≡◌, refl, codes}
use Rattle.std.specs.Fmt.{digits}
use Rattle.core_alloc.specs.declared.fault.PlaceFault.TheVariants as fault
use Rattle.forec_engine.specs.Placing.{place_line}

shape_is : place_line (fault.Shape 1) ≡ codes "place shape 1\n"
unfolding digits
shape_is = refl

core_is : place_line (fault.Core 12) ≡ codes "place core 12\n"
unfolding digits
core_is = refl
