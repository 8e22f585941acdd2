use Rattle.std.proofs.Common.{◌≡◌, ◌∙◌, sym, ap, subst, true, false, take}
use Rattle.forec_tree.specs.Terms.{IsGlobal, IsFunction, PlainFunction}
use Rattle.forec_tree.specs.Plain.{plain_item, plain_function, plain_global}
use Rattle.forec_tree.specs.Scopes.{name_of}
use Rattle.forec_tree.specs.Faults.{item_named, Leads, functions_called}
use Rattle.loop_check.specs.Graph.{callees}
use Rattle.loop_check.specs.Views.{indexed_text}
use Rattle.loop_check.proofs.Reading.{leads_same}
use Rattle.forec_check.proofs.Recursion.{nothing_new, named_old, one_more, no_less, graph_is}
use Rattle.forec_check.proofs.rules.recursion.judge_recursive.Goals as goal

pub returns-in-Global : goal.returns-in-Global
returns-in-Global c =
    let text = indexed_text c.args.symbols.now.index.now in
    let x = plain_item c.args.item.now in
    nothing_new text c.args.symbols.now.names.now c.args.at x c.requires.item c.args.least.now
    (λ f k e. absurd (let q : IsFunction k.function ≡ IsGlobal (plain_global c.in-Global.global) = e ∙ ap plain_item c.in-Global.is in cc)) c.requires.kept

pub returns-then-named_before : goal.returns-then-named_before
returns-then-named_before c =
    let text = indexed_text c.args.symbols.now.index.now in
    let x = plain_item c.args.item.now in
    let is : x ≡ IsFunction (plain_function c.in-Function.function) = ap plain_item c.in-Function.is in
    let named : item_named (name_of x).id (take c.args.at text) ≡ true =
    ap (λ i. item_named (name_of i).id (take c.args.at text)) is ∙ sym c.named_before.ensures ∙ c.if-named_before.true in
    nothing_new text c.args.symbols.now.names.now c.args.at x c.requires.item c.args.least.now (named_old text c.args.symbols.now.names.now c.args.at x c.requires.item named) c.requires.kept

pub returns-then-is_waiting : goal.returns-then-is_waiting
returns-then-is_waiting c =
    let text = indexed_text c.args.symbols.now.index.now in
    let x = plain_item c.args.item.now in
    let functions = c.args.known.now.calls.now.functions.items in
    let calls = callees c.args.known.now.calls.now.lists.items in
    let is : x ≡ IsFunction (plain_function c.in-Function.function) = ap plain_item c.in-Function.is in
    nothing_new text c.args.symbols.now.names.now c.args.at x c.requires.item c.args.least.now
    (λ f k e.
    let same : k.function ≡ plain_function c.in-Function.function = (let q : IsFunction k.function ≡ IsFunction (plain_function c.in-Function.function) = e ∙ is in cc) in
    let leads : Leads (functions_called text) c.in-Function.function.name.id c.in-Function.function.name.id = subst (λ (h : PlainFunction). Leads (functions_called text) h.name.id h.name.id) same k.reaches in
    absurd (c.requires.free c.in-Function.function.name.id (sym c.is_waiting.ensures ∙ c.if-is_waiting.true)
    (leads_same (functions_called text) calls (λ g. sym (graph_is text functions calls c.requires.read g)) leads))) c.requires.kept

pub returns-in_ok-reaches-in-Function : goal.returns-in_ok-reaches-in-Function
returns-in_ok-reaches-in-Function c =
    let text = indexed_text c.args.symbols.now.index.now in
    let x = plain_item c.args.item.now in
    let f = plain_function c.in-Function.function in
    let functions = c.args.known.now.calls.now.functions.items in
    let calls = callees c.args.known.now.calls.now.lists.items in
    let is : x ≡ IsFunction f = ap plain_item c.in-Function.is in
    let named : item_named (name_of x).id (take c.args.at text) ≡ false =
    ap (λ i. item_named (name_of i).id (take c.args.at text)) is ∙ sym c.named_before.ensures ∙ c.if-named_before.false in
    let same = λ (l : Leads (callees c.deref-in-Function.result.now) f.name.id f.name.id). subst (λ l. Leads (callees l) f.name.id f.name.id) c.deref-in-Function.ensures.value l in
    let back = λ (l : Leads calls f.name.id f.name.id). subst (λ l. Leads (callees l) f.name.id f.name.id) (sym c.deref-in-Function.ensures.value) l in
    one_more text c.args.symbols.now.names.now c.args.at x c.requires.item c.args.least.now c.keep_fault.new.least f c.in_ok-reaches-in-Function.reaches is named
    (λ e. leads_same calls (functions_called text) (graph_is text functions calls c.requires.read) (same (c.in_ok-reaches-in-Function.ensures.reaches e)))
    (λ l. c.in_ok-reaches-in-Function.ensures.found (back (leads_same (functions_called text) calls (λ g. sym (graph_is text functions calls c.requires.read g)) l)))
    c.keep_fault.ensures c.requires.kept

pub returns-then-not-is_less : goal.returns-then-not-is_less
returns-then-not-is_less c =
    let text = indexed_text c.args.symbols.now.index.now in
    let x = plain_item c.args.item.now in
    no_less text c.args.symbols.now.names.now c.args.at x c.requires.item c.args.least.now (plain_function c.in-Function.function) (ap plain_item c.in-Function.is)
    (sym c.is_less.ensures ∙ c.if-not-is_less.true) c.requires.kept
