-- What the types of this crate show.
use Rattle.std.specs.Prelude.{map}
use Rattle.forec_tree.specs.Plain.{plain_item}
use Rattle.forec_tree.specs.Terms.{Text}
use Rattle.loop_check.specs.declared.index.Index.{Index}

-- the items of an index
abbrev pub indexed_text : Index → Text
indexed_text i = map plain_item i.items.now
