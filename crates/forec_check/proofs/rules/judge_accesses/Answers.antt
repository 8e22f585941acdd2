use Rattle.std.proofs.Common.{◌∙◌, sym, ap}
use Rattle.forec_tree.specs.Faults.{start_name}
use Rattle.loop_check.specs.Views.{indexed_text}
use Rattle.forec_check.proofs.NamingTables.{plains_none}
use Rattle.forec_check.proofs.rules.judge_accesses.Goals as goal

pub returns-in-None : goal.returns-in-None
returns-in-None c =
    let text = indexed_text c.args.symbols.now.index.now in
    plains_none text c.args.symbols.now.names.now text c.args.least.now (ap (start_name c.args.symbols.now.names.now) (sym c.requires.items) ∙ sym c.start_name.ensures ∙ c.in-None.is)
