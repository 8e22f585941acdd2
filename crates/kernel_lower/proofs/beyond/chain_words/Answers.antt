use Rattle.std.proofs.Common.{◌≡◌, ◌∙◌, ap, map}
use Rattle.forec_kernel.specs.Plain.{stmt}
use Rattle.forec_kernel.specs.Shapes.{PlainKernel}
use Rattle.loop_check.specs.Views.{indexed_text}
use Rattle.kernel_drafts.specs.declared.measure.Draft.{Draft}
use Rattle.text_kernel.specs.Items.{functions_of}
use Rattle.text_kernel.specs.Kernels.{kernel_of}
use Rattle.kernel_drafts.specs.Measures.{plain_draft}
use Rattle.kernel_drafts.proofs.Drafting.{draft_shapes, draft_bodies}
use Rattle.kernel_lower.proofs.Reckoning.{words_too, ranked_too, low_too}
use Rattle.kernel_lower.proofs.beyond.chain_words.Goals as goal
use Rattle.kernel_lower.proofs.beyond.chain_words.Goals.{After-new-4}

abbrev kernel : After-new-4 → PlainKernel
kernel c = kernel_of (indexed_text c.args.source.now.globals.index) c.args.names.now

-- the draft of the int functions alone, which are the kernel's
abbrev alone : After-new-4 → Draft
alone c = record { threads = c.new.result; texts = c.new-2.result; variables = c.new-3.result; functions = c.in_ok-functions.functions; rows = c.new-4.result }

shapes : (c : After-new-4) → (alone c).functions.shapes.items ≡ (kernel c).shape.functions
shapes c = c.in_ok-functions.ensures.shapes ∙ draft_shapes (indexed_text c.args.source.now.globals.index) c.args.names.now (functions_of c.args.functions.now) c.requires.functions

bodies : (c : After-new-4) → map stmt (alone c).functions.bodies.items ≡ (kernel c).functions
bodies c = c.in_ok-functions.ensures.bodies ∙ draft_bodies (indexed_text c.args.source.now.globals.index) c.args.names.now (functions_of c.args.functions.now) c.requires.functions

pub words_along-requires-clause-ranked : goal.words_along-requires-clause-ranked
words_along-requires-clause-ranked c =
    let a = (goal.at.words_along-requires-clause-ranked c).After-new-4 in
    ranked_too (plain_draft (alone a)) (kernel a) (shapes a) (bodies a) c.requires.ranked

pub words_along-requires-clause-low : goal.words_along-requires-clause-low
words_along-requires-clause-low c =
    let a = (goal.at.words_along-requires-clause-low c).After-new-4 in
    low_too (plain_draft (alone a)) (kernel a) (shapes a) (bodies a) (ap (map stmt) c.new-2.ensures.items) c.requires.low

pub returns : goal.returns
returns c =
    let a = (goal.at.returns c).After-new-4 in
    words_too (plain_draft (alone a)) (kernel a) (shapes a) (bodies a) c.in_ok-list.list.items c.in_ok-list.ensures
