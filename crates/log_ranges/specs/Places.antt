-- Kernels whose places have lines and columns from 1, below 2 ^ 32.
use Rattle.forec_base.specs.declared.Place.{Place}
use Rattle.forec_kernel.specs.Shapes.{PlainKernel}
use Rattle.exchange_meaning.specs.OfShape.{IsPlaceNumber}
use Rattle.value_ranges.specs.Properties.{Property, BodiesHold}

abbrev pub IsPlace : Place → Type 0
IsPlace place = IsPlaceNumber place.line × IsPlaceNumber place.column

-- ---- the places that stand in terms

-- each place at which a trap can be is one, and a number may be any
abbrev pub places : Property
places = record { OfNumber = λ n. Unit {0}; OfPlace = IsPlace }

-- each such place in a body
abbrev pub KernelPlaces : PlainKernel → Type 0
KernelPlaces = BodiesHold places
