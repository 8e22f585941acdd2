-- The variables of a program, by their globals and indices.
use Rattle.std.specs.Prelude.{List, map}
use Rattle.forec_tree.specs.Plain.{plain_global}
use Rattle.forec_tree.specs.Variables.{PlainVariable}
use Rattle.kernel_drafts.specs.declared.elements.Element.{Element}

abbrev pub plain_element : Element → PlainVariable
plain_element e = record { global = plain_global e.global.now; index = e.index }

abbrev pub plain_elements : List Element → List PlainVariable
plain_elements = map plain_element
