use Rattle.std.proofs.Common.{refl}
use Rattle.forec_tree.specs.Plain.{plain_function}
use Rattle.forec_tree.specs.Faults.{in_function}
use Rattle.loop_check.specs.Views.{indexed_text}
use Rattle.program_walk.specs.Views.{judging}
use Rattle.program_walk.specs.Walk.{notes_of}
use Rattle.program_walk.specs.Items.{before_of}
use Rattle.program_walk.proofs.ItemRules.{function_is, walked_effects}
use Rattle.program_walk.proofs.walk.walk_function.Goals as goal

pub returns-clause-least : goal.returns-clause-least
returns-clause-least c =
    let text = indexed_text c.args.symbols.now.index.now in
    function_is text c.args.symbols.now.names.now (before_of text c.args.at c.args.counts) (plain_function c.args.f.now) c.args.notes.now.least c.judge_head.new.least _ (notes_of c.body.new.notes)
    c.judge_head.ensures refl c.in_ok-body.ensures.notes

pub returns-clause-effects : goal.returns-clause-effects
returns-clause-effects c =
    let f = plain_function c.args.f.now in
    walked_effects (judging c.args.symbols.now.names.now f.gives) (in_function (indexed_text c.args.symbols.now.index.now) f) _ (notes_of c.body.new.notes) c.in_ok-body.ensures.notes c.requires
