use Rattle.std.proofs.Common.{◌∙◌, sym, ap}
use Rattle.forec_tree.specs.Plain.{plain_item, plain_global, plain_function}
use Rattle.loop_check.specs.Views.{indexed_text}
use Rattle.forec_check.proofs.NamingTables as tabled
use Rattle.forec_check.proofs.rules.plain_globals.judge_plain_global.Goals as goal

pub returns-in-Function : goal.returns-in-Function
returns-in-Function c =
    tabled.plain_function (indexed_text c.args.symbols.now.index.now) c.args.symbols.now.names.now (plain_item c.args.item.now) (plain_function c.in-Function.function) c.args.least.now (ap plain_item c.in-Function.is)

pub returns-then-not-is_plain : goal.returns-then-not-is_plain
returns-then-not-is_plain c =
    tabled.plain_no (indexed_text c.args.symbols.now.index.now) c.args.symbols.now.names.now (plain_item c.args.item.now) (plain_global c.in-Global.global) c.args.least.now (ap plain_item c.in-Global.is)
    (sym c.is_plain.ensures ∙ c.if-not-is_plain.true)

pub returns-in_ok-two-in-Global : goal.returns-in_ok-two-in-Global
returns-in_ok-two-in-Global c =
    tabled.plain_yes (indexed_text c.args.symbols.now.index.now) c.args.symbols.now.names.now (plain_item c.args.item.now) (plain_global c.in-Global.global) c.args.bodies.now.first c.in_ok-two-in-Global.two c.args.least.now c.keep_fault.new.least
    (ap plain_item c.in-Global.is) (sym c.is_plain.ensures ∙ c.if-not-is_plain.false) c.requires.first c.in_ok-two-in-Global.ensures c.keep_fault.ensures

pub returns-then-is_single : goal.returns-then-is_single
returns-then-is_single c =
    tabled.plain_single (indexed_text c.args.symbols.now.index.now) c.args.symbols.now.names.now (plain_item c.args.item.now) (plain_global c.in-Global.global) c.args.bodies.now.first c.args.least.now (ap plain_item c.in-Global.is)
    c.requires.first (c.requires.single c.in-Global.global.name.id (sym c.is_single.ensures ∙ c.if-is_single.true))

pub returns-then-not-is_less : goal.returns-then-not-is_less
returns-then-not-is_less c =
    tabled.plain_more (indexed_text c.args.symbols.now.index.now) c.args.symbols.now.names.now (plain_item c.args.item.now) (plain_global c.in-Global.global) c.args.least.now (ap plain_item c.in-Global.is)
    (sym c.is_less.ensures ∙ c.if-not-is_less.true)
