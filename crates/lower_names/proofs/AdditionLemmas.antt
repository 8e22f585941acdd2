-- How many threads and `par`s a text adds, from those of its parts.
use Rattle.std.proofs.Common.{ℕ, zero, suc, ◌+◌, ◌-◌, ◌<◌, ◌≤◌, ◌≡◌, ◌==◌, ◌∙◌, sym, ap, refl, subst, true, false, cond, Option, Some, None, List, [], ◌∷◌, length, get_or, drop, arith}
use Rattle.std.proofs.lemmas.List.{drop_all}
use Rattle.std.proofs.lemmas.Bool.Decides.{nat_tests}
use Rattle.std.proofs.lemmas.Bool.{eqb-true}
use Rattle.forec_base.specs.declared.Place.{Place}
use Rattle.forec_tree.specs.declared.tree.Number.{Number}
use Rattle.forec_tree.specs.declared.tree.Name.{Name}
use Rattle.forec_tree.specs.declared.tree.OpAt.{OpAt}
use Rattle.forec_tree.specs.declared.tree.Stmt as tree_stmt
use Rattle.forec_tree.specs.declared.tree.Branch as tree_branch
use Rattle.forec_tree.specs.Plain.{statement, statements, branches, branch_with}
use Rattle.forec_tree.specs.Terms as tree
use Rattle.forec_tree.specs.Terms.{Text, Term, Terms, count_terms, Declared, PlainTarget, Statement, Statements, no_statements, more_statements, Perhaps, absent, present, Branches, no_branches, by_call, by_group, PlainFunction}
use Rattle.forec_tree.specs.Pauses.{within, find_function}
use Rattle.loop_check.specs.Numbered.{put_entry}
use Rattle.loop_check.proofs.IndexLemmas.{split}
use Rattle.text_kernel.specs.Bindings.{params_at}
use Rattle.text_kernel.specs.Lowering.{NextNumbers, Lowered, Started, from_slot, scope_after, scope_after_perhaps, par_after, inlined_body, lower_statement, lower_list, lower_perhaps, lower_branches}
use Rattle.lower_names.specs.declared.added.Added.{Added}
use Rattle.lower_names.specs.Additions.{no_additions, AdvancesNumbers, StatementAdds, PerhapsAdds, ListAdds, BranchesAdd, BodyAdds, FunctionAdds, AllAdd, AddsTogether}
use Rattle.lower_names.specs.Landings.{called_within}
use Rattle.lower_names.proofs.Statements.{drop_next}
use Rattle.lower_names.proofs.Doing.{branch_first, par_some}
use Rattle.lower_names.proofs.Going.{place_is}

pub adds_then : (a b c : Added) (n m k : NextNumbers) → AddsTogether a b c → AdvancesNumbers a n m → AdvancesNumbers b m k → AdvancesNumbers c n k
adds_then a b c n m k j f g = record { thread = omega (arith, j.threads, f.thread, g.thread); par = omega (arith, j.pars, f.par, g.par) }

still : (n : NextNumbers) → AdvancesNumbers no_additions n n
still n = record { thread = omega arith; par = omega arith }

module _ (text : Text) where
  -- ---- statements

  pub nothing_adds : (at : Place) → StatementAdds text (tree.Nothing at) no_additions
  nothing_adds at deep t s n h = still n

  pub pause_adds : (at : Place) → StatementAdds text (tree.Pause at) no_additions
  pause_adds at deep t s n h = still n

  pub declare_adds : (at : Place) (locals : List Declared) → StatementAdds text (tree.Declare at locals) no_additions
  declare_adds at locals deep t s n h = let m = still n in record { thread = m.thread; par = m.par }

  pub assign_adds : (at : Place) (target : PlainTarget) (op : Option OpAt) (value : Term) → StatementAdds text (tree.Assign at target op value) no_additions
  assign_adds at target op value deep t s n h = still n

  pub return_adds : (at : Place) (value : Term) → StatementAdds text (tree.Return at value) no_additions
  return_adds at value deep t s n h = still n

  pub group_adds : (at : Place) (body : Statements) (a : Added) → ListAdds text body a → StatementAdds text (tree.Group at body) a
  group_adds at body a f deep t s n h = f deep t s n h

  pub abort_adds : (at : Place) (weak immediate : Rattle.std.proofs.Common.Bool) (test : Term) (body : Statements) (a : Added) → ListAdds text body a → StatementAdds text (tree.Abort at weak immediate test body) a
  abort_adds at weak immediate test body a f deep t s n h = f deep t s n h

  pub while_adds : (at : Place) (test : Term) (bound : Option Number) (body : Statement) (a : Added) → StatementAdds text body a → StatementAdds text (tree.While at test bound body) a
  while_adds at test bound body a f deep t s n h = f deep t s n h

  pub if_adds : (at : Place) (test : Term) (x : Statement) (y : Perhaps) (a b c : Added) → StatementAdds text x a → PerhapsAdds text y b → AddsTogether a b c → StatementAdds text (tree.If at test x y) c
  if_adds at test x y a b c f g j deep t s n h =
      let l = lower_statement text (called_within text deep) t s n x in
      adds_then a b c n l.next _ j (f deep t s n (omega (arith, h, j.first))) (g deep t s l.next (omega (arith, h, j.second)))

  pub for_adds : (at : Place) (start : Perhaps) (test : Option Term) (step : Perhaps) (bound : Option Number) (body : Statement) (a b c d e : Added) → PerhapsAdds text start a → PerhapsAdds text step b → StatementAdds text body c →
      AddsTogether b c d → AddsTogether a d e → StatementAdds text (tree.For at start test step bound body) e
  for_adds at start test step bound body a b c d e f g k i j deep t s n h =
      let called = called_within text deep in
      let within_ = scope_after_perhaps text s n.slot start in
      let l = lower_perhaps text called t s n start in
      let m = lower_perhaps text called t within_ l.next step in
      let low : d.calls ≤ deep = omega (arith, h, j.second) in
      adds_then a d e n l.next _ j (f deep t s n (omega (arith, h, j.first)))
      (adds_then b c d l.next m.next _ i (g deep t within_ l.next (omega (arith, low, i.first))) (k deep t (scope_after_perhaps text within_ l.next.slot step) m.next (omega (arith, low, i.second))))

  pub call_adds : (at : Place) (name : Name) (args : Terms) (a : Added) → FunctionAdds text name.id (Some a) → StatementAdds text (tree.Invoke at name args) a
  call_adds at name args a f deep t s n h =
      let m = f deep n.slot t (from_slot n (n.slot + count_terms args)) h in
      record { thread = m.thread; par = m.par }

  pub perhaps_none : PerhapsAdds text absent no_additions
  perhaps_none deep t s n h = still n

  pub perhaps_some : (x : Statement) (a : Added) → StatementAdds text x a → PerhapsAdds text (present x) a
  perhaps_some x a f deep t s n h = f deep t s n h

  -- ---- lists

  list_none : ListAdds text no_statements no_additions
  list_none deep t s n h = still n

  list_more : (x : Statement) (rest : Statements) (a b c : Added) → StatementAdds text x a → ListAdds text rest b → AddsTogether a b c → ListAdds text (more_statements x rest) c
  list_more x rest a b c f g j deep t s n h =
      let l = lower_statement text (called_within text deep) t s n x in
      adds_then a b c n l.next _ j (f deep t s n (omega (arith, h, j.first))) (g deep t (scope_after text s n.slot x) l.next (omega (arith, h, j.second)))

  -- ---- branches

  branches_none : BranchesAdd text no_branches no_additions
  branches_none deep t p s n h = still n

  branches_more : (b : tree_branch.Branch) (rest : Branches) (a c d : Added) → BranchesAdd text (branch_with b no_branches) a → BranchesAdd text rest c → AddsTogether a c d → BranchesAdd text (branch_with b rest) d
  branches_more b rest a c d f g j deep t p s n h =
      let called = called_within text deep in
      let l = lower_branches text called t s p n (branch_with b no_branches) in
      let m = lower_branches text called t s p l.next rest in
      subst (AdvancesNumbers d n) (ap (λ (x : Started). x.next) (sym (branch_first text called t s p n b rest)))
      (adds_then a c d n l.next m.next j (f deep t p s n (omega (arith, h, j.first))) (g deep t p s l.next (omega (arith, h, j.second))))

  pub called_adds : (name : Name) (args : Terms) (one a c : Added) → one.threads ≡ 1 → one.pars ≡ 0 → FunctionAdds text name.id (Some a) → AddsTogether one a c → BranchesAdd text (by_call name args no_branches) c
  called_adds name args one a c e z f j deep t p s n h =
      let from : NextNumbers = record { slot = count_terms args; thread = suc n.thread; par = n.par } in
      let m = f deep 0 n.thread from (omega (arith, h, j.second)) in
      record { thread = omega (arith, m.thread, j.threads, e); par = omega (arith, m.par, j.pars, z) }

  pub block_adds : (at : Place) (body : Statements) (one a c : Added) → one.threads ≡ 1 → one.pars ≡ 0 → ListAdds text body a → AddsTogether one a c → BranchesAdd text (by_group at body no_branches) c
  block_adds at body one a c e z f j deep t p s n h =
      let from : NextNumbers = record { slot = 0; thread = suc n.thread; par = n.par } in
      let m = f deep n.thread [] from (omega (arith, h, j.second)) in
      record { thread = omega (arith, m.thread, j.threads, e); par = omega (arith, m.par, j.pars, z) }

  pub par_none : (at : Place) (all : List tree_branch.Branch) → (length all == 0) ≡ true → StatementAdds text (tree.Par at (branches all)) no_additions
  par_none at [] e = λ deep t s n h. (let m = still n in record { thread = m.thread; par = m.par })
  par_none at (b ∷ rest) e = absurd (let z = eqb-true (length (b ∷ rest)) 0 e in omega (arith, z))

  pub par_adds : (at : Place) (all : List tree_branch.Branch) (one a c : Added) → (length all == 0) ≡ false → one.threads ≡ 0 → one.pars ≡ 1 → BranchesAdd text (branches all) a → AddsTogether one a c → StatementAdds text (tree.Par at (branches all)) c
  par_adds at [] one a c some e z f j = absurd (let q : true ≡ false = some in cc)
  par_adds at (b ∷ rest) one a c some e z f j =
      λ deep t s n h.
      let next = (par_some text (called_within text deep) t s n.par n.par n b (branches rest)).1 in
      let from : NextNumbers = record { slot = n.slot; thread = n.thread; par = par_after (branches (b ∷ rest)) n.par } in
      let m = f deep t n.par s from (omega (arith, h, j.second)) in
      record { thread = omega (arith, m.thread, j.threads, e); par = omega (arith, m.par, j.pars, z, next) }

-- ---- parts one after the other

-- what is left of a list adds what the whole does but for a total
abbrev pub ListGoes : Text → Statements → Statements → Added → Type 0
ListGoes text rest whole total = (more all : Added) → ListAdds text rest more → AddsTogether total more all → ListAdds text whole all

abbrev pub BranchesGo : Text → Branches → Branches → Added → Type 0
BranchesGo text rest whole total = (more all : Added) → BranchesAdd text rest more → AddsTogether total more all → BranchesAdd text whole all

-- a part, and more after it
abbrev behind : Added → Added → Added → Added
behind a more all = record { threads = a.threads + more.threads; pars = a.pars + more.pars; calls = all.calls }

joins_behind : (total a next more all : Added) → AddsTogether total a next → AddsTogether next more all → AddsTogether a more (behind a more all)
joins_behind total a next more all i j = record { threads = refl; pars = refl; first = omega (arith, i.second, j.first); second = j.second }

joins_all : (total a next more all : Added) → AddsTogether total a next → AddsTogether next more all → AddsTogether total (behind a more all) all
joins_all total a next more all i j =
    record { threads = omega (arith, i.threads, j.threads); pars = omega (arith, i.pars, j.pars); first = omega (arith, i.first, j.first); second = omega arith }

joins_nothing : (total : Added) → AddsTogether total no_additions total
joins_nothing total = record { threads = omega arith; pars = omega arith; first = omega arith; second = omega arith }

module _ (text : Text) where
  pub list_starts : (whole : Statements) (total : Added) → total ≡ no_additions → ListGoes text whole whole total
  list_starts whole total e more all f j deep t s n h = adds_then total more all n n _ j (subst (λ x. AdvancesNumbers x n n) (sym e) (still n)) (f deep t s n (omega (arith, h, j.second)))

  pub list_goes : (items : List tree_stmt.Stmt) (i : ℕ) (x : tree_stmt.Stmt) (whole : Statements) (total a next : Added) → i < length items → get_or items i x ≡ x → StatementAdds text (statement x) a → AddsTogether total a next →
      ListGoes text (statements (drop i items)) whole total → ListGoes text (statements (drop (i + 1) items)) whole next
  list_goes items i x whole total a next lt is f j w more all g k =
      w (behind a more all) all
      (subst (λ q. ListAdds text (statements q) (behind a more all)) (sym (drop_next items i x lt is))
      (list_more text (statement x) (statements (drop (i + 1) items)) a more (behind a more all) f g (joins_behind total a next more all j k)))
      (joins_all total a next more all j k)

  pub list_ends : (items : List tree_stmt.Stmt) (i : ℕ) (whole : Statements) (total : Added) → length items ≤ i → ListGoes text (statements (drop i items)) whole total → ListAdds text whole total
  list_ends items i whole total l w = w no_additions total (subst (λ q. ListAdds text (statements q) no_additions) (sym (drop_all i items l)) (list_none text)) (joins_nothing total)

  pub branches_start : (whole : Branches) (total : Added) → total ≡ no_additions → BranchesGo text whole whole total
  branches_start whole total e more all f j deep t p s n h = adds_then total more all n n _ j (subst (λ x. AdvancesNumbers x n n) (sym e) (still n)) (f deep t p s n (omega (arith, h, j.second)))

  pub branches_go : (items : List tree_branch.Branch) (i : ℕ) (x : tree_branch.Branch) (whole : Branches) (total a next : Added) → i < length items → get_or items i x ≡ x → BranchesAdd text (branch_with x no_branches) a →
      AddsTogether total a next → BranchesGo text (branches (drop i items)) whole total → BranchesGo text (branches (drop (i + 1) items)) whole next
  branches_go items i x whole total a next lt is f j w more all g k =
      w (behind a more all) all
      (subst (λ q. BranchesAdd text (branches q) (behind a more all)) (sym (drop_next items i x lt is))
      (branches_more text x (branches (drop (i + 1) items)) a more (behind a more all) f g (joins_behind total a next more all j k)))
      (joins_all total a next more all j k)

  pub branches_end : (items : List tree_branch.Branch) (i : ℕ) (whole : Branches) (total : Added) → length items ≤ i → BranchesGo text (branches (drop i items)) whole total → BranchesAdd text whole total
  branches_end items i whole total l w = w no_additions total (subst (λ q. BranchesAdd text (branches q) no_additions) (sym (drop_all i items l)) (branches_none text)) (joins_nothing total)

  -- ---- functions

  none_adds : (id deep first t : ℕ) (n : NextNumbers) → find_function id text ≡ None → AdvancesNumbers no_additions n (called_within text deep id first t n).next
  unfolding within
  none_adds id zero first t n e = still n
  none_adds id (suc deep) first t n e = subst (AdvancesNumbers no_additions n) (ap (λ (o : Option PlainFunction). (inlined_body text (called_within text deep) o first t n).next) (sym e)) (still n)

  pub function_none : (id : ℕ) (a : Added) → a ≡ no_additions → find_function id text ≡ None → FunctionAdds text id (Some a)
  function_none id a z e = λ deep first t n h. subst (λ x. AdvancesNumbers x n (called_within text deep id first t n).next) (sym z) (none_adds id deep first t n e)

  pub body_adds : (f : PlainFunction) (a c : Added) → ListAdds text f.body a → c.threads ≡ a.threads → c.pars ≡ a.pars → c.calls ≡ a.calls + 1 → BodyAdds text f c
  body_adds f a c g x y z id e deep first t n h =
      let m = g (deep - 1) t (params_at first f.params) n (omega (arith, h, z)) in
      let moved : AdvancesNumbers c n (lower_list text (called_within text (deep - 1)) t (params_at first f.params) n f.body).next = record { thread = omega (arith, m.thread, x); par = omega (arith, m.par, y) } in
      subst (AdvancesNumbers c n)
      (ap (λ (l : Lowered). l.next) (sym (place_is text deep id first t n (λ q. absurd (omega (arith, q, h, z))) ∙ ap (λ (o : Option PlainFunction). inlined_body text (called_within text (deep - 1)) o first t n) e)))
      moved

-- a statement whose kind is known
pub kind_adds : (text : Text) (a b : Added) (x y : Statement) → x ≡ y → b ≡ a → StatementAdds text x a → StatementAdds text y b
kind_adds text a b x y e f h = subst (λ s. StatementAdds text s b) e (subst (StatementAdds text x) (sym f) h)

-- what the table says of a function
pub by_table : (text : Text) (table : List (Option Added)) (id : ℕ) (a : Added) → AllAdd text table → get_or table id None ≡ Some a → FunctionAdds text id (Some a)
by_table text table id a all e = subst (FunctionAdds text id) e (all id)

same_number : (f g : ℕ) → (f == g) ≡ true → f ≡ g
same_number f g e = grind (arith, nat_tests)

-- what one more function adds
pub all_put : (text : Text) (f : ℕ) (added : Option Added) (old new : List (Option Added)) → AllAdd text old → ((g : ℕ) → get_or new g None ≡ put_entry f g added (get_or old g None)) → FunctionAdds text f added → AllAdd text new
all_put text f added old new a p h =
    λ g.
    subst (FunctionAdds text g) (sym (p g))
    (split (f == g) (λ e. subst (FunctionAdds text g) (sym (ap (λ b. cond b added (get_or old g None)) e)) (subst (λ i. FunctionAdds text i added) (same_number f g e) h))
    (λ e. subst (FunctionAdds text g) (sym (ap (λ b. cond b added (get_or old g None)) e)) (a g)))
