-- The steps of the translation of bodies: lists, branches, functions that are put in place, and scopes.
use Rattle.std.proofs.Common.{ℕ, zero, suc, ◌+◌, ◌-◌, ◌<◌, ◌≤◌, ◌≡◌, ◌∙◌, ◌==◌, sym, ap, refl, subst, true, false, Some, None, List, [], ◌∷◌, ◌++◌, append-nil, length, get_or, map, take, drop, arith}
use Rattle.std.proofs.lemmas.List.{map-append, drop_all}
use Rattle.forec_base.specs.declared.Place.{Place}
use Rattle.forec_tree.specs.declared.tree.Stmt as tree_stmt
use Rattle.forec_tree.specs.declared.tree.Branch as tree_branch
use Rattle.forec_tree.specs.Plain.{statement, statements, branches, branch_with}
use Rattle.forec_tree.specs.Terms as tree
use Rattle.forec_tree.specs.Terms.{Statements, no_branches, Text, PlainFunction}
use Rattle.forec_tree.specs.Pauses.{within, find_function}
use Rattle.forec_kernel.specs.Terms as kernel
use Rattle.forec_kernel.specs.Terms.{Stmt, Stmts}
use Rattle.forec_kernel.specs.Plain.{stmt, stmts, branch}
use Rattle.forec_kernel.specs.declared.terms.Statement as rust
use Rattle.forec_kernel.specs.declared.terms.Launch.{Launch}
use Rattle.text_kernel.specs.declared.names.Slot.{Slot}
use Rattle.lower_names.specs.declared.scope.Scope.{Scope}
use Rattle.lower_names.specs.declared.state.State.{State}
use Rattle.text_kernel.specs.Lowering.{NextNumbers, Listed, Started, Inlined, as_one, sequence, scope_after, lower_statement, lower_list, lower_branches, inlined_body, inlined_step, nothing_inlined}
use Rattle.lower_names.specs.Landings.{called_within}
use Rattle.lower_names.specs.Views.{seen, AppendsLocals, Same, next_of, threads_of, bare, Does, DoesList, DoesBranches}
use Rattle.lower_names.proofs.Statements.{drop_next}
use Rattle.lower_names.proofs.Doing.{ListLeft, BranchesLeft, list_step, list_more, list_finish, branches_more, branches_finish, branches_step, same_seen, par_does}

module _ (text : Text) (called : ℕ → Inlined) (t : ℕ) where
  pub list_goes : (body : List tree_stmt.Stmt) (i : ℕ) (x : tree_stmt.Stmt) (xs ys : List rust.Statement) (k : rust.Statement) (whole : Listed) (old now new : State) →
      i < length body → get_or body i x ≡ x → seen new.scope ≡ scope_after text (seen now.scope) now.slot (statement x) →
      Does text (lower_statement text called t (seen now.scope) (next_of now) (statement x)) (stmt k) now new → ys ≡ xs ++ k ∷ [] →
      ListLeft text (lower_list text called t (seen now.scope) (next_of now) (statements (drop i body))) whole (stmts xs) old now →
      ListLeft text (lower_list text called t (seen new.scope) (next_of new) (statements (drop (i + 1) body))) whole (stmts ys) old new
  list_goes body i x xs ys k whole old now new lt is e d p w =
      list_more text (lower_statement text called t (seen now.scope) (next_of now) (statement x)) (lower_list text called t (seen new.scope) (next_of new) (statements (drop (i + 1) body)))
      (lower_list text called t (seen now.scope) (next_of now) (statements (drop i body))) whole xs ys k old now new
      (ap (λ q. lower_list text called t (seen now.scope) (next_of now) (statements q)) (drop_next body i x lt is)
      ∙ list_step text called t (seen now.scope) (seen new.scope) (next_of now) (next_of new) (statement x) (statements (drop (i + 1) body)) e d.next)
      d p w

  pub list_ends : (body : List tree_stmt.Stmt) (i : ℕ) (xs : List rust.Statement) (whole : Listed) (old now : State) → length body ≤ i →
      ListLeft text (lower_list text called t (seen now.scope) (next_of now) (statements (drop i body))) whole (stmts xs) old now → DoesList text whole (stmts xs) old now
  list_ends body i xs whole old now l w =
      list_finish text called t (seen now.scope) (lower_list text called t (seen now.scope) (next_of now) (statements (drop i body))) whole xs old now
      (ap (λ q. lower_list text called t (seen now.scope) (next_of now) (statements q)) (drop_all i body l)) w

  pub branches_go : (p : ℕ) (all : List tree_branch.Branch) (i : ℕ) (x : tree_branch.Branch) (xs ys : List Launch) (k : Launch) (whole : Started) (old now new : State) →
      i < length all → get_or all i x ≡ x → Same now.scope new.scope →
      DoesBranches text (lower_branches text called t (seen now.scope) p (next_of now) (branches (x ∷ []))) (branch k ∷ []) now new → ys ≡ xs ++ k ∷ [] →
      BranchesLeft text (lower_branches text called t (seen now.scope) p (next_of now) (branches (drop i all))) whole (map branch xs) old now →
      BranchesLeft text (lower_branches text called t (seen new.scope) p (next_of new) (branches (drop (i + 1) all))) whole (map branch ys) old new
  branches_go p all i x xs ys k whole old now new lt is s d e w =
      branches_more text (lower_branches text called t (seen now.scope) p (next_of now) (branch_with x no_branches)) (lower_branches text called t (seen new.scope) p (next_of new) (branches (drop (i + 1) all)))
      (lower_branches text called t (seen now.scope) p (next_of now) (branches (drop i all))) whole (map branch xs) (map branch ys) (branch k) old now new
      (ap (λ q. lower_branches text called t (seen now.scope) p (next_of now) (branches q)) (drop_next all i x lt is)
      ∙ branches_step text called t (seen now.scope) (seen new.scope) p (next_of now) (next_of new) x (branches (drop (i + 1) all)) (same_seen now.scope new.scope s) d.next)
      d (ap (map branch) e ∙ map-append branch xs (k ∷ [])) w

  pub branches_end : (p : ℕ) (all : List tree_branch.Branch) (i : ℕ) (xs : List Launch) (whole : Started) (old now : State) → length all ≤ i →
      BranchesLeft text (lower_branches text called t (seen now.scope) p (next_of now) (branches (drop i all))) whole (map branch xs) old now → DoesBranches text whole (map branch xs) old now
  branches_end p all i xs whole old now l w =
      branches_finish text (lower_branches text called t (seen now.scope) p (next_of now) (branches (drop i all))) whole (map branch xs) old now
      (ap (λ q. lower_branches text called t (seen now.scope) p (next_of now) (branches q)) (drop_all i all l)) w

  pub par_goes : (s : List Slot) (n : NextNumbers) (at : Place) (all : List tree_branch.Branch) (old one new : State) (ls : List kernel.Branch) → (length all == 0) ≡ false →
      next_of one ≡ (let from : NextNumbers = record { slot = n.slot; thread = n.thread; par = n.par + 1 } in from) → threads_of text one ≡ threads_of text old →
      DoesBranches text (lower_branches text called t s n.par (next_of one) (branches all)) ls one new → Does text (lower_statement text called t s n (tree.Par at (branches all))) (kernel.Par ls) old new
  par_goes s n at [] old one new ls some e h d = absurd (let q : true ≡ false = some in cc)
  par_goes s n at (b ∷ rest) old one new ls some e h d =
      let z : n.par + 1 ≡ suc n.par = omega arith in
      par_does text called t s n at b (branches rest) old one new ls (e ∙ ap (λ p. (let m : NextNumbers = record { slot = n.slot; thread = n.thread; par = p } in m)) z) h d

pub branches_as : {text : Text} (l m : Started) (ks : List kernel.Branch) (old new : State) → l ≡ m → DoesBranches text l ks old new → DoesBranches text m ks old new
branches_as {text} l m ks old new e d = subst (λ x. DoesBranches text x ks old new) e d

-- a list as one statement, between two states that differ in their scopes
pub as_one_does : (text : Text) (l m : Listed) (ks : Stmts) (k : Stmt) (old one two new : State) → l ≡ m → threads_of text one ≡ threads_of text old → DoesList text l ks one two → k ≡ sequence ks →
    next_of new ≡ next_of two → threads_of text new ≡ threads_of text two → Does text (as_one m) k old new
as_one_does text l m ks k old one two new e h d g n w =
    let q : DoesList text m ks one two = subst (λ x. DoesList text x ks one two) e d in
    record {
      is = g ∙ ap sequence q.is;
      next = n ∙ q.next;
      threads = w ∙ (q.threads ∙ ap (λ x. x ++ map bare m.made) h);
    }

pub same_list : (text : Text) (called : ℕ → Inlined) (t : ℕ) (s s1 : List Slot) (n n1 : NextNumbers) (a b : List tree_stmt.Stmt) → s ≡ s1 → n ≡ n1 → a ≡ b →
    lower_list text called t s n (statements a) ≡ lower_list text called t s1 n1 (statements b)
same_list text called t s s1 n n1 a b e d f =
    ap (λ x. lower_list text called t x n (statements a)) e ∙ (ap (λ x. lower_list text called t s1 x (statements a)) d ∙ ap (λ x. lower_list text called t s1 n1 (statements x)) f)

-- locals that were hidden are seen again
pub shown_same : (old hidden now shown : Scope) (b : ℕ) → b ≡ old.base → hidden.base ≡ length old.slots.items → hidden.slots.items ≡ old.slots.items → AppendsLocals hidden now →
    shown.slots.items ≡ take now.base now.slots.items → shown.base ≡ b → Same old shown
shown_same old hidden now shown b e h g k s w =
    let long : now.base ≡ length hidden.slots.items = k.base ∙ (h ∙ ap length (sym g)) in
    record { base = w ∙ e; slots = s ∙ (ap (λ n. take n now.slots.items) long ∙ (k.front ∙ g)) }

-- ---- functions that are put in place

pub place_none : (text : Text) (deep id first t : ℕ) (s : State) → deep ≡ 0 → Does text (called_within text deep id first t (next_of s)) kernel.Nop s s
unfolding within
place_none text zero id first t s e = record { is = refl; next = refl; threads = sym (append-nil (threads_of text s)) }
place_none text (suc deep) id first t s e = absurd (omega (arith, e))

pub place_is : (text : Text) (deep id first t : ℕ) (n : NextNumbers) → (deep ≡ 0 → ⊥) → called_within text deep id first t n ≡ inlined_body text (called_within text (deep - 1)) (find_function id text) first t n
unfolding within
place_is text zero id first t n e = absurd (e refl)
place_is text (suc deep) id first t n e =
    let z : deep ≡ suc deep - 1 = omega arith in
    ap (λ d. inlined_body text (within nothing_inlined (inlined_step text) d) (find_function id text) first t n) z

pub place_unknown : (text : Text) (deep id first t : ℕ) (s : State) → (deep ≡ 0 → ⊥) → find_function id text ≡ None → Does text (called_within text deep id first t (next_of s)) kernel.Nop s s
place_unknown text deep id first t s e f =
    let same = place_is text deep id first t (next_of s) e ∙ ap (λ o. inlined_body text (called_within text (deep - 1)) o first t (next_of s)) f in
    subst (λ l. Does text l kernel.Nop s s) (sym same) (record { is = refl; next = refl; threads = sym (append-nil (threads_of text s)) })

pub place_known : (text : Text) (deep below id first t : ℕ) (f : PlainFunction) (k : Stmt) (old new : State) → (deep ≡ 0 → ⊥) → below ≡ deep - 1 → find_function id text ≡ Some f →
    Does text (inlined_body text (called_within text below) (Some f) first t (next_of old)) k old new → Does text (called_within text deep id first t (next_of old)) k old new
place_known text deep below id first t f k old new e z g d =
    let same =
    place_is text deep id first t (next_of old) e
    ∙ (ap (λ o. inlined_body text (called_within text (deep - 1)) o first t (next_of old)) g ∙ ap (λ b. inlined_body text (called_within text b) (Some f) first t (next_of old)) (sym z)) in
    subst (λ l. Does text l k old new) (sym same) d
