-- How the translation of a statement is put together from those of its parts, from state to state.
use Rattle.std.proofs.Common.{ℕ, suc, ◌+◌, ◌≡◌, ◌∙◌, sym, ap, refl, Option, Some, None, List, [], ◌∷◌, ◌++◌, append-nil, append_assoc, length, map, take, drop, subst, arith}
use Rattle.std.proofs.lemmas.List.{map-append, take_all}
use Rattle.forec_base.specs.declared.Place.{Place}
use Rattle.forec_tree.specs.declared.tree.Number.{Number}
use Rattle.forec_tree.specs.declared.tree.Name.{Name}
use Rattle.forec_tree.specs.declared.tree.Expr.{Expr}
use Rattle.forec_tree.specs.declared.tree.Branch.{Branch, Call, Group'}
use Rattle.forec_tree.specs.Plain.{terms, branch_with, statement_row}
use Rattle.forec_tree.specs.Terms as tree
use Rattle.forec_tree.specs.Terms.{Term, Terms, count_terms, Statement, Statements, no_statements, more_statements, Perhaps, Branches, no_branches, by_call, by_group, Text}
use Rattle.forec_tree.specs.Pauses.{find_function}
use Rattle.forec_tree.specs.Turns.{inferred}
use Rattle.forec_kernel.specs.Terms as kernel
use Rattle.forec_kernel.specs.Terms.{Stmt, Stmts, no_stmts, more_stmts, no_exprs}
use Rattle.forec_kernel.specs.Plain.{stmt, stmts}
use Rattle.forec_kernel.specs.declared.terms.Statement as rust
use Rattle.text_kernel.specs.declared.names.Slot.{Slot}
use Rattle.lower_names.specs.declared.scope.Scope.{Scope}
use Rattle.lower_names.specs.declared.state.State.{State}
use Rattle.text_kernel.specs.Lowering.{joined_stmts, NextNumbers, Made, Lowered, Listed, Started, Inlined, as_one, param_names, lower_terms, sequence, ends_with, bound_of, or_inferred, optional_test, after_start, then_step, set_params, scope_after, scope_after_perhaps, par_of, par_after, made_thread, lower_statement, lower_list, lower_perhaps, lower_branches}
use Rattle.lower_names.proofs.Statements.{joined_none, joined_more}
use Rattle.lower_names.specs.Views.{seen, AppendsLocals, Same, next_of, threads_of, Bare, bare, Does, DoesList, DoesBranches}

pub does_as : {text : Text} (l m : Lowered) (k : Stmt) (old new : State) → l ≡ m → Does text l k old new → Does text m k old new
does_as {text} l m k old new e d = subst (λ x. Does text x k old new) e d

-- the threads of two parts
pub threads_two : (xs ys zs : List Bare) (a b : List Made) → ys ≡ xs ++ map bare a → zs ≡ ys ++ map bare b → zs ≡ xs ++ map bare (a ++ b)
threads_two xs ys zs a b h g =
    g ∙ (ap (λ l. l ++ map bare b) h ∙ (append_assoc xs (map bare a) (map bare b) ∙ ap (λ l. xs ++ l) (sym (map-append bare a b))))

pub threads_three : (xs ys zs ws : List Bare) (a b c : List Made) → ys ≡ xs ++ map bare a → zs ≡ ys ++ map bare b → ws ≡ zs ++ map bare c → ws ≡ xs ++ map bare (a ++ (b ++ c))
threads_three xs ys zs ws a b c h g f = threads_two xs ys ws a (b ++ c) h (threads_two ys zs ws b c g f)

-- a state whose scope alone is another
pub record Rest (text : Text) (old new : State) : Type 0 where
  pub next : next_of new ≡ next_of old
  pub threads : threads_of text new ≡ threads_of text old

pub does_rest : {text : Text} (l : Lowered) (k : Stmt) (old mid new : State) → Rest text mid new → Does text l k old mid → Does text l k old new
does_rest {text} l k old mid new r d = record { is = d.is; next = r.next ∙ d.next; threads = r.threads ∙ d.threads }

module _ (text : Text) (called : ℕ → Inlined) (t : ℕ) where
  -- ---- a list

  pub list_step : (s s1 : List Slot) (n n1 : NextNumbers) (a : Statement) (rest : Statements) → s1 ≡ scope_after text s n.slot a → n1 ≡ (lower_statement text called t s n a).next →
      lower_list text called t s n (more_statements a rest)
      ≡ (let l = lower_statement text called t s n a in
      let m = lower_list text called t s1 n1 rest in
      record { list = more_stmts l.stmt m.list; next = m.next; made = l.made ++ m.made })
  list_step s s1 n n1 a rest e d = rw (e, d) refl

  -- ---- a loop with its head

  pub for_step : (s s1 s2 : List Slot) (n n1 n2 : NextNumbers) (at : Place) (start : Perhaps) (test : Option Term) (step : Perhaps) (bound : Option Number) (body : Statement) →
      s1 ≡ scope_after_perhaps text s n.slot start → n1 ≡ (lower_perhaps text called t s n start).next →
      s2 ≡ scope_after_perhaps text s1 n1.slot step → n2 ≡ (lower_perhaps text called t s1 n1 step).next →
      lower_statement text called t s n (tree.For at start test step bound body)
      ≡ (let i = lower_perhaps text called t s n start in
      let j = lower_perhaps text called t s1 n1 step in
      let l = lower_statement text called t s2 n2 body in
      record {
        stmt =
            after_start start i.stmt
            (kernel.While (optional_test text s1 test) (or_inferred (bound_of bound) (inferred text (tree.For at start test step bound body))) (then_step step l.stmt j.stmt) at);
        next = l.next;
        made = i.made ++ (j.made ++ l.made);
      })
  for_step s s1 s2 n n1 n2 at start test step bound body e d f g = rw (g, f, d, e) refl

  -- ---- branches

  pub branch_first : (s : List Slot) (p : ℕ) (n : NextNumbers) (b : Branch) (rest : Branches) →
      lower_branches text called t s p n (branch_with b rest)
      ≡ (let l = lower_branches text called t s p n (branch_with b no_branches) in
      let m = lower_branches text called t s p l.next rest in
      record { launches = l.launches ++ m.launches; next = m.next; made = l.made ++ m.made })
  branch_first s p n (Call name args) rest =
      let b = called name.id 0 n.thread (record { slot = count_terms (terms args); thread = suc n.thread; par = n.par }) in
      let m = lower_branches text called t s p (record { slot = n.slot; thread = b.next.thread; par = b.next.par }) rest in
      let one = made_thread t p (Some name.id) (length (param_names (find_function name.id text))) b in
      ap (λ l. record { launches = record { thread = n.thread; args = lower_terms text s (terms args) } ∷ m.launches; next = m.next; made = l ++ m.made }) (sym (append-nil one))
  branch_first s p n (Group' place shape body) rest =
      let l = lower_list text called n.thread [] (record { slot = 0; thread = suc n.thread; par = n.par }) (statement_row body) in
      let m = lower_branches text called t s p (record { slot = n.slot; thread = l.next.thread; par = l.next.par }) rest in
      let one = made_thread t p None 0 (as_one l) in
      ap (λ x. record { launches = record { thread = n.thread; args = no_exprs } ∷ m.launches; next = m.next; made = x ++ m.made }) (sym (append-nil one))

  pub par_some : (s : List Slot) (p q : ℕ) (n : NextNumbers) (b : Branch) (rest : Branches) →
      (par_of (lower_branches text called t s p n (branch_with b rest)).launches ≡ kernel.Par (lower_branches text called t s p n (branch_with b rest)).launches) × (par_after (branch_with b rest) q ≡ suc q)
  par_some s p q n (Call name args) rest = (refl, refl)
  par_some s p q n (Group' place shape body) rest = (refl, refl)

  pub for_does : (s : List Slot) (n : NextNumbers) (at : Place) (start : Perhaps) (test : Option Term) (step : Perhaps) (bound : Option Number) (body : Statement) (old one two three new : State) (turns : Option ℕ) (kt : kernel.Expr) (k1 k2 k3 k : Stmt) →
      Does text (lower_perhaps text called t s n start) k1 old one → seen one.scope ≡ scope_after_perhaps text s n.slot start → kt ≡ optional_test text (seen one.scope) test →
      Does text (lower_perhaps text called t (seen one.scope) (next_of one) step) k2 one two → seen two.scope ≡ scope_after_perhaps text (seen one.scope) one.slot step →
      Does text (lower_statement text called t (seen two.scope) (next_of two) body) k3 two three → Rest text three new → turns ≡ inferred text (tree.For at start test step bound body) →
      k ≡ after_start start k1 (kernel.While kt (or_inferred (bound_of bound) turns) (then_step step k3 k2) at) →
      Does text (lower_statement text called t s n (tree.For at start test step bound body)) k old new
  for_does s n at start test step bound body old one two three new turns kt k1 k2 k3 k d1 e1 v d2 e2 d3 r w g =
      let i = lower_perhaps text called t s n start in
      let j = lower_perhaps text called t (seen one.scope) (next_of one) step in
      let l = lower_statement text called t (seen two.scope) (next_of two) body in
      does_as _ _ k old new (sym (for_step s (seen one.scope) (seen two.scope) n (next_of one) (next_of two) at start test step bound body e1 d1.next e2 d2.next))
      (record {
        is =
            g ∙ (ap (λ x. after_start start x (kernel.While kt (or_inferred (bound_of bound) turns) (then_step step k3 k2) at)) d1.is
            ∙ (ap (λ x. after_start start i.stmt (kernel.While x (or_inferred (bound_of bound) turns) (then_step step k3 k2) at)) v
            ∙ (ap (λ x. after_start start i.stmt (kernel.While (optional_test text (seen one.scope) test) (or_inferred (bound_of bound) x) (then_step step k3 k2) at)) w
            ∙ (ap (λ x. after_start start i.stmt (kernel.While (optional_test text (seen one.scope) test) (or_inferred (bound_of bound) (inferred text (tree.For at start test step bound body))) (then_step step x k2) at)) d3.is
            ∙ ap (λ x. after_start start i.stmt (kernel.While (optional_test text (seen one.scope) test) (or_inferred (bound_of bound) (inferred text (tree.For at start test step bound body))) (then_step step l.stmt x) at)) d2.is))));
        next = r.next ∙ d3.next;
        threads = r.threads ∙ threads_three (threads_of text old) (threads_of text one) (threads_of text two) (threads_of text three) i.made j.made l.made d1.threads d2.threads d3.threads;
      })

  pub call_does : (s : List Slot) (n : NextNumbers) (at : Place) (name : Name) (args : Terms) (old one new : State) (sets : Stmts) (kb k : Stmt) → sets ≡ set_params text s n.slot args →
      next_of one ≡ (let from : NextNumbers = record { slot = n.slot + count_terms args; thread = n.thread; par = n.par } in from) → threads_of text one ≡ threads_of text old →
      Does text (called name.id n.slot t (next_of one)) kb one new → k ≡ sequence (ends_with sets kb) → Does text (lower_statement text called t s n (tree.Invoke at name args)) k old new
  call_does s n at name args old one new sets kb k p e h d g =
      let from : NextNumbers = record { slot = n.slot + count_terms args; thread = n.thread; par = n.par } in
      let q : Does text (called name.id n.slot t from) kb one new = subst (λ m. Does text (called name.id n.slot t m) kb one new) e d in
      record {
        is = g ∙ (ap (λ x. sequence (ends_with x kb)) p ∙ ap (λ x. sequence (ends_with (set_params text s n.slot args) x)) q.is);
        next = q.next;
        threads = q.threads ∙ ap (λ l. l ++ map bare (called name.id n.slot t from).made) h;
      }

  pub par_does : (s : List Slot) (n : NextNumbers) (at : Place) (b : Branch) (rest : Branches) (old one new : State) (ls : List kernel.Branch) →
      next_of one ≡ (let from : NextNumbers = record { slot = n.slot; thread = n.thread; par = suc n.par } in from) → threads_of text one ≡ threads_of text old →
      DoesBranches text (lower_branches text called t s n.par (next_of one) (branch_with b rest)) ls one new → Does text (lower_statement text called t s n (tree.Par at (branch_with b rest))) (kernel.Par ls) old new
  par_does s n at b rest old one new ls e h d =
      let some = par_some s n.par n.par (record { slot = n.slot; thread = n.thread; par = par_after (branch_with b rest) n.par }) b rest in
      let from : NextNumbers = record { slot = n.slot; thread = n.thread; par = suc n.par } in
      let to : NextNumbers = record { slot = n.slot; thread = n.thread; par = par_after (branch_with b rest) n.par } in
      let same : next_of one ≡ to = e ∙ ap (λ p. (let m : NextNumbers = record { slot = n.slot; thread = n.thread; par = p } in m)) (sym some.1) in
      let q : DoesBranches text (lower_branches text called t s n.par to (branch_with b rest)) ls one new = subst (λ m. DoesBranches text (lower_branches text called t s n.par m (branch_with b rest)) ls one new) same d in
      record {
        is = ap kernel.Par q.is ∙ sym some.0;
        next = q.next;
        threads = q.threads ∙ ap (λ l. l ++ map bare (lower_branches text called t s n.par to (branch_with b rest)).made) h;
      }

pub ends_pushed : (xs : List rust.Statement) (x : rust.Statement) → stmts (xs ++ x ∷ []) ≡ ends_with (stmts xs) (stmt x)
ends_pushed [] x = refl
ends_pushed (y ∷ xs) x = ap (more_stmts (stmt y)) (ends_pushed xs x)

pub count_args : (es : List Expr) → length es ≡ count_terms (terms es)
count_args [] = refl
count_args (e ∷ es) = ap suc (count_args es)

-- ---- lists of statements and branches, one after the other

-- what is left of a list, from a state on, after what is done
pub record ListLeft (text : Text) (rest whole : Listed) (done : Stmts) (old now : State) : Type 0 where
  pub is : joined_stmts done rest.list ≡ whole.list
  pub next : rest.next ≡ whole.next
  pub threads : threads_of text now ++ map bare rest.made ≡ threads_of text old ++ map bare whole.made

pub record BranchesLeft (text : Text) (rest whole : Started) (done : List kernel.Branch) (old now : State) : Type 0 where
  pub is : done ++ rest.launches ≡ whole.launches
  pub next : rest.next ≡ whole.next
  pub threads : threads_of text now ++ map bare rest.made ≡ threads_of text old ++ map bare whole.made

-- one statement, and the rest
pub list_more : (text : Text) (l : Lowered) (m rest whole : Listed) (xs ys : List rust.Statement) (x : rust.Statement) (old now new : State) →
    rest ≡ (let r : Listed = record { list = more_stmts l.stmt m.list; next = m.next; made = l.made ++ m.made } in r) → Does text l (stmt x) now new → ys ≡ xs ++ x ∷ [] →
    ListLeft text rest whole (stmts xs) old now → ListLeft text m whole (stmts ys) old new
list_more text l m rest whole xs ys x old now new e d p w =
    let r : Listed = record { list = more_stmts l.stmt m.list; next = m.next; made = l.made ++ m.made } in
    let q : ListLeft text r whole (stmts xs) old now = subst (λ z. ListLeft text z whole (stmts xs) old now) e w in
    record {
      is = joined_more xs ys x l.stmt (more_stmts l.stmt m.list) m.list whole.list refl d.is p q.is;
      next = q.next;
      threads =
          ap (λ z. z ++ map bare m.made) d.threads
          ∙ (append_assoc (threads_of text now) (map bare l.made) (map bare m.made) ∙ (ap (λ z. threads_of text now ++ z) (sym (map-append bare l.made m.made)) ∙ q.threads));
    }

pub list_finish : (text : Text) (called : ℕ → Inlined) (t : ℕ) (s : List Slot) (rest whole : Listed) (xs : List rust.Statement) (old now : State) →
    rest ≡ (let r : Listed = record { list = no_stmts; next = next_of now; made = [] } in r) → ListLeft text rest whole (stmts xs) old now → DoesList text whole (stmts xs) old now
list_finish text called t s rest whole xs old now e w =
    let r : Listed = record { list = no_stmts; next = next_of now; made = [] } in
    let q : ListLeft text r whole (stmts xs) old now = subst (λ z. ListLeft text z whole (stmts xs) old now) e w in
    record { is = sym (joined_none (stmts xs)) ∙ q.is; next = q.next; threads = sym (append-nil (threads_of text now)) ∙ q.threads }

pub branches_more : (text : Text) (l m rest whole : Started) (xs ys : List kernel.Branch) (x : kernel.Branch) (old now new : State) →
    rest ≡ (let r : Started = record { launches = l.launches ++ m.launches; next = m.next; made = l.made ++ m.made } in r) → DoesBranches text l (x ∷ []) now new → ys ≡ xs ++ x ∷ [] →
    BranchesLeft text rest whole xs old now → BranchesLeft text m whole ys old new
branches_more text l m rest whole xs ys x old now new e d p w =
    let r : Started = record { launches = l.launches ++ m.launches; next = m.next; made = l.made ++ m.made } in
    let q : BranchesLeft text r whole xs old now = subst (λ z. BranchesLeft text z whole xs old now) e w in
    record {
      is = ap (λ z. z ++ m.launches) p ∙ (append_assoc xs (x ∷ []) m.launches ∙ (ap (λ z. xs ++ (z ++ m.launches)) d.is ∙ q.is));
      next = q.next;
      threads =
          ap (λ z. z ++ map bare m.made) d.threads
          ∙ (append_assoc (threads_of text now) (map bare l.made) (map bare m.made) ∙ (ap (λ z. threads_of text now ++ z) (sym (map-append bare l.made m.made)) ∙ q.threads));
    }

pub branches_finish : (text : Text) (rest whole : Started) (xs : List kernel.Branch) (old now : State) → rest ≡ (let r : Started = record { launches = []; next = next_of now; made = [] } in r) →
    BranchesLeft text rest whole xs old now → DoesBranches text whole xs old now
branches_finish text rest whole xs old now e w =
    let r : Started = record { launches = []; next = next_of now; made = [] } in
    let q : BranchesLeft text r whole xs old now = subst (λ z. BranchesLeft text z whole xs old now) e w in
    record { is = sym (append-nil xs) ∙ q.is; next = q.next; threads = sym (append-nil (threads_of text now)) ∙ q.threads }

-- ---- scopes

pub same_seen : (a b : Scope) → Same a b → seen b ≡ seen a
same_seen a b h = ap (λ n. drop n b.slots.items) h.base ∙ ap (drop a.base) h.slots

pub same_then : (a b c : Scope) → Same a b → Same b c → Same a c
same_then a b c h g = record { base = g.base ∙ h.base; slots = g.slots ∙ h.slots }

pub same_kept : (a b : Scope) → Same a b → AppendsLocals a b
same_kept a b h = record { base = h.base; front = ap (take (length a.slots.items)) h.slots ∙ take_all (length a.slots.items) a.slots.items (omega arith) }

-- what was kept and is cut off again
pub kept_cut : (a b c : Scope) (n : ℕ) → AppendsLocals a b → n ≡ length a.slots.items → c.slots.items ≡ take n b.slots.items → c.base ≡ b.base → Same a c
kept_cut a b c n h e s g = record { base = g ∙ h.base; slots = s ∙ (ap (λ m. take m b.slots.items) e ∙ h.front) }

-- ---- one branch, and the rest

pub branches_step : (text : Text) (called : ℕ → Inlined) (t : ℕ) (s s1 : List Slot) (p : ℕ) (n n1 : NextNumbers) (b : Branch) (rest : Branches) → s1 ≡ s →
    n1 ≡ (lower_branches text called t s p n (branch_with b no_branches)).next →
    lower_branches text called t s p n (branch_with b rest)
    ≡ (let l = lower_branches text called t s p n (branch_with b no_branches) in
    let m = lower_branches text called t s1 p n1 rest in
    let r : Started = record { launches = l.launches ++ m.launches; next = m.next; made = l.made ++ m.made } in r)
branches_step text called t s s1 p n n1 b rest e d = rw (e, d) (branch_first text called t s p n b rest)
