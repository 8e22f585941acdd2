use Rattle.std.proofs.Common.{lit<, rules, ap, ◌∙◌}
use Rattle.std.specs.Str.Iter.{split_text, split_has_more, split_pattern}
use Rattle.std.proofs.lemmas.Iterator.{YieldsList-from_map, items_from_collect}
use Rattle.std.proofs.lemmas.Iterator.Splits.{YieldsList-from_str_split}
use Rattle.core_alloc.specs.Places.{piece_number}
use Rattle.core_alloc.proofs.list.numbers_of.Goals as goal

pub returns : goal.returns
returns c =
    items_from_collect _ c.collect.ensures.ran
    (YieldsList-from_map _ piece_number
    (YieldsList-from_str_split 44 c.args.text.now (lit< tt) (ap split_text c.map.ensures.source ∙ c.split.ensures.text) (ap split_has_more c.map.ensures.source ∙ c.split.ensures.has_more) (ap split_pattern c.map.ensures.source ∙ c.split.ensures.pattern))
    c.map.ensures.closure (λ x r q k. search rules))
