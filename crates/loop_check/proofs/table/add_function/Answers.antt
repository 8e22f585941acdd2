use Rattle.std.proofs.Common.{◌≡◌, ◌∙◌, sym, ap, subst, true, false, Some, take, ◌++◌, ◌∷◌, []}
use Rattle.forec_tree.specs.declared.tree.Name.{Name}
use Rattle.forec_tree.specs.Terms.{IsFunction}
use Rattle.forec_tree.specs.Plain.{plain_item, plain_function}
use Rattle.forec_tree.specs.Scopes.{name_of}
use Rattle.forec_tree.specs.Faults.{item_named}
use Rattle.loop_check.specs.Graph.{callees}
use Rattle.loop_check.specs.Known.{Read, IsListOf}
use Rattle.loop_check.specs.Numbered.{put_entry}
use Rattle.loop_check.specs.Views.{indexed_text}
use Rattle.loop_check.proofs.Reading.{next_of, read_again, read_global, read_function, function_at}
use Rattle.loop_check.proofs.table.add_function.Goals as goal

pub returns-then-named_before : goal.returns-then-named_before
returns-then-named_before c =
    let xs = take c.args.at (indexed_text c.args.index.now) in
    let x = plain_item c.args.item.now in
    let named : item_named (name_of x).id xs ≡ true = ap (λ (y : Name). item_named y.id xs) (sym c.item_name-id.ensures) ∙ sym c.named_before.ensures ∙ c.if-named_before.true in
    λ of l r. subst (λ ys. Read of ys c.args.calls.now.functions.items (callees c.args.calls.now.lists.items)) (sym (next_of (indexed_text c.args.index.now) c.args.at x c.requires))
    (read_again of xs x c.args.calls.now.functions.items (callees c.args.calls.now.lists.items) named r)

pub returns-in-Global : goal.returns-in-Global
returns-in-Global c =
    let xs = take c.args.at (indexed_text c.args.index.now) in
    let x = plain_item c.args.item.now in
    let named : item_named (name_of x).id xs ≡ false = ap (λ (y : Name). item_named y.id xs) (sym c.item_name-id.ensures) ∙ sym c.named_before.ensures ∙ c.if-named_before.false in
    λ of l r. subst (λ ys. Read of ys c.args.calls.now.functions.items (callees c.args.calls.now.lists.items)) (sym (next_of (indexed_text c.args.index.now) c.args.at x c.requires))
    (read_global of xs x c.args.calls.now.functions.items (callees c.args.calls.now.lists.items) named (ap (λ i. function_at (Some (plain_item i))) c.in-Global.is) r)

pub returns-in_ok-push-in-Function : goal.returns-in_ok-push-in-Function
returns-in_ok-push-in-Function c =
    let xs = take c.args.at (indexed_text c.args.index.now) in
    let x = plain_item c.args.item.now in
    let f = plain_function c.in-Function.function in
    let is : x ≡ IsFunction f = ap plain_item c.in-Function.is in
    let id = ap (λ (y : Name). y.id) c.item_name-id.ensures ∙ ap (λ i. (name_of i).id) is in
    let named : item_named f.name.id xs ≡ false = ap (λ n. item_named n xs) (sym id) ∙ sym c.named_before.ensures ∙ c.if-named_before.false in
    λ of l r.
    let next = read_function of xs f c.args.calls.now.functions.items c.args.list.items (callees c.args.calls.now.lists.items) (callees c.put.new.calls.items) named
    (subst (λ i. IsListOf of i c.args.list.items) is l)
    (λ g. c.in_ok-put-in-Function.ensures g ∙ ap (λ n. put_entry n g c.args.list.items (callees c.args.calls.now.lists.items g)) id) r in
    subst (λ ys. Read of ys c.push.new.self.items (callees c.put.new.calls.items))
    (ap (λ i. xs ++ i ∷ []) (sym is) ∙ sym (next_of (indexed_text c.args.index.now) c.args.at x c.requires))
    (subst (λ fs. Read of (xs ++ IsFunction f ∷ []) fs (callees c.put.new.calls.items)) (ap (λ n. c.args.calls.now.functions.items ++ n ∷ []) (sym id) ∙ sym c.in_ok-push-in-Function.ensures.items) next)
