-- Branches whose bodies are translated later: what they become, in the order of their numbers.
use Rattle.std.proofs.lemmas.List.{map-append}
use Rattle.std.proofs.Common.{ℕ, suc, ◌+◌, ◌≡◌, ◌<◌, ◌≤◌, ◌∙◌, sym, ap, refl, subst, Option, Some, None, List, [], ◌∷◌, ◌++◌, append-nil, append_assoc, length, map, arith}
use Rattle.std.specs.Borrow.{Bor}
use Rattle.forec_base.specs.declared.Place.{Place}
use Rattle.forec_tree.specs.declared.tree.Name.{Name}
use Rattle.forec_tree.specs.declared.tree.Branch.{Branch, Call, Group, Group'}
use Rattle.forec_tree.specs.declared.tree.Expr.{Expr}
use Rattle.forec_tree.specs.declared.tree.Stmt.{Stmt as Stmt'}
use Rattle.forec_tree.specs.Plain.{terms, branch_with}
use Rattle.forec_tree.proofs.Rows.{branch-group}
use Rattle.forec_tree.specs.Terms.{Text, Terms, count_terms, Statements, no_branches, by_call, by_group}
use Rattle.forec_tree.specs.Pauses.{find_function}
use Rattle.forec_kernel.specs.Terms as kernel
use Rattle.forec_kernel.specs.Terms.{Stmt}
use Rattle.text_kernel.specs.declared.names.Slot.{Slot}
use Rattle.text_kernel.specs.Lowering.{NextNumbers, Lowered, Inlined, as_one, param_names, made_thread, lower_terms, lower_list, lower_branches}
use Rattle.lower_names.specs.declared.added.Added.{Added}
use Rattle.lower_names.specs.declared.state.Pending.{Pending}
use Rattle.lower_names.specs.declared.state.State.{State}
use Rattle.lower_names.specs.declared.state.Thread.{Thread}
use Rattle.lower_names.specs.Additions.{BranchesAdd}
use Rattle.lower_names.specs.Landings.{called_within}
use Rattle.lower_names.specs.Views.{next_of, Bare, bare, of_thread, made_by, made_of, pending_threads, threads_of, threads_on, Does, DoesBranches, Launches}

-- ---- a branch more

pub threads_pushed : (text : Text) (ps : List Pending) (q : Pending) → pending_threads text (ps ++ q ∷ []) ≡ pending_threads text ps ++ map bare (made_of text q)
threads_pushed text [] q = append-nil (map bare (made_of text q))
threads_pushed text (p ∷ ps) q =
    ap (λ l. map bare (made_of text p) ++ l) (threads_pushed text ps q) ∙ sym (append_assoc (map bare (made_of text p)) (pending_threads text ps) (map bare (made_of text q)))

pub stack_pushed : (text : Text) (ps : List Pending) (q : Pending) → threads_on text (ps ++ q ∷ []) ≡ map bare (made_of text q) ++ threads_on text ps
stack_pushed text [] q = sym (append-nil (map bare (made_of text q)))
stack_pushed text (p ∷ ps) q =
    ap (λ l. l ++ map bare (made_of text p)) (stack_pushed text ps q) ∙ append_assoc (map bare (made_of text q)) (threads_on text ps) (map bare (made_of text p))

-- what a branch becomes doesn't hang on the scope and the slot in which its `par` stands
made_anywhere : (text : Text) (called : ℕ → Inlined) (t p : ℕ) (s : List Slot) (n : NextNumbers) (b : Branch) →
    (lower_branches text called t [] p (record { slot = 0; thread = n.thread; par = n.par }) (branch_with b no_branches)).made ≡ (lower_branches text called t s p n (branch_with b no_branches)).made
made_anywhere text called t p s n (Call name args) = refl
made_anywhere text called t p s n (Group' place shape body) = refl

abbrev next_at : ℕ → ℕ → ℕ → NextNumbers
next_at slot thread par = record { slot = slot; thread = thread; par = par }

next_behind : (text : Text) (called : ℕ → Inlined) (t p : ℕ) (s : List Slot) (n : NextNumbers) (b : Branch) →
    (let l = lower_branches text called t s p n (branch_with b no_branches) in next_at n.slot l.next.thread l.next.par ≡ l.next)
next_behind text called t p s n (Call name args) = refl
next_behind text called t p s n (Group' place shape body) = refl

pub branch_does : (text : Text) (deep t p : ℕ) (s : List Slot) (b : Bor Branch) (a : Added) (args : kernel.Exprs) (old new : State) → BranchesAdd text (branch_with b.now no_branches) a → a.calls ≤ deep →
    new.slot ≡ old.slot → new.thread ≡ old.thread + a.threads → new.par ≡ old.par + a.pars →
    new.pending.items ≡ old.pending.items ++ record { number = old.thread; parent = t; par = p; first = old.par; deep = deep; branch = b } ∷ [] →
    Launches text s (branch_with b.now no_branches) args →
    DoesBranches text (lower_branches text (called_within text deep) t s p (next_of old) (branch_with b.now no_branches)) (record { thread = old.thread; args = args } ∷ []) old new
branch_does text deep t p s b a args old new adds low e f g more launches =
    let called = called_within text deep in
    let l = lower_branches text called t s p (next_of old) (branch_with b.now no_branches) in
    let m = adds deep t p s (next_of old) low in
    let one : Pending = record { number = old.thread; parent = t; par = p; first = old.par; deep = deep; branch = b } in
    record {
      is = sym (launches called t p (next_of old));
      next =
          ap (λ x. next_at x new.thread new.par) e
          ∙ (ap (λ x. next_at old.slot x new.par) (f ∙ sym m.thread) ∙ (ap (λ x. next_at old.slot l.next.thread x) (g ∙ sym m.par) ∙ next_behind text called t p s (next_of old) b.now));
      threads =
          ap (pending_threads text) more
          ∙ (threads_pushed text old.pending.items one ∙ ap (λ x. threads_of text old ++ map bare x) (made_anywhere text called t p s (next_of old) b.now));
    }

pub call_launches : (text : Text) (s : List Slot) (b : Branch) (name : Name) (args list : List Expr) (ks : kernel.Exprs) → b ≡ Call name args → list ≡ args → ks ≡ lower_terms text s (terms list) →
    Launches text s (branch_with b no_branches) ks
call_launches text s b name args list ks is e k =
    λ called t p n.
    ap (λ x. (lower_branches text called t s p n (branch_with x no_branches)).launches) is
    ∙ ap (λ x. (let one : kernel.Branch = record { thread = n.thread; args = x } in one) ∷ []) (ap (λ l. lower_terms text s (terms l)) (sym e) ∙ sym k)

pub block_launches : (text : Text) (s : List Slot) (b : Branch) (place : Place) (body : List Stmt') (ks : kernel.Exprs) → b ≡ Group place body → ks ≡ kernel.no_exprs → Launches text s (branch_with b no_branches) ks
block_launches text s b place body ks is k =
    λ called t p n.
    ap (λ x. (lower_branches text called t s p n (branch_with x no_branches)).launches) is
    ∙ (ap (λ x. (lower_branches text called t s p n x).launches) (branch-group place body no_branches)
    ∙ ap (λ x. (let one : kernel.Branch = record { thread = n.thread; args = x } in one) ∷ []) (sym k))

-- ---- a branch that is translated

abbrev bare_as : ℕ → ℕ → Option ℕ → ℕ → ℕ → ℕ → Stmt → Bare
bare_as parent par name params words behind body = record { parent = parent; par = par; name = name; params = params; words = words; behind = behind; body = body }

thread_made : (text : Text) (l : Lowered) (k : Stmt) (one new : State) (parent par : ℕ) (name : Option ℕ) (params : ℕ) → threads_of text one ≡ [] → Does text l k one new →
    bare_as parent par name params new.slot new.thread k ∷ threads_of text new ≡ map bare (made_thread parent par name params l ++ [])
thread_made text l k one new parent par name params e d =
    ap (λ x. bare_as parent par name params new.slot new.thread k ∷ x) (d.threads ∙ ap (λ x. x ++ map bare l.made) e)
    ∙ (ap (λ (n : NextNumbers). bare_as parent par name params n.slot n.thread k ∷ map bare l.made) d.next
    ∙ (ap (λ x. bare_as parent par name params l.next.slot l.next.thread x ∷ map bare l.made) d.is ∙ ap (map bare) (sym (append-nil (made_thread parent par name params l)))))

begins : (slot thread par number : ℕ) (one : State) → one.slot ≡ slot → one.thread ≡ number + 1 → one.par ≡ par → next_of one ≡ next_at slot (suc number) par
begins slot thread par number one e f g =
    let z : one.thread ≡ suc number = omega (arith, f) in
    ap (λ x. next_at x one.thread one.par) e ∙ (ap (λ x. next_at slot x one.par) z ∙ ap (λ x. next_at slot (suc number) x) g)

pub call_made : (text : Text) (deep parent par number first : ℕ) (name : Name) (args : Terms) (params : ℕ) (k : Stmt) (one new : State) → one.slot ≡ count_terms args → one.thread ≡ number + 1 → one.par ≡ first → threads_of text one ≡ [] →
    params ≡ length (param_names (find_function name.id text)) → Does text (called_within text deep name.id 0 number (next_of one)) k one new →
    bare_as parent par (Some name.id) params new.slot new.thread k ∷ threads_of text new ≡ map bare (made_by text deep parent par number first (by_call name args no_branches))
call_made text deep parent par number first name args params k one new e f g z q d =
    let n = begins (count_terms args) one.thread first number one e f g in
    let l = called_within text deep name.id 0 number (next_at (count_terms args) (suc number) first) in
    thread_made text l k one new parent par (Some name.id) params z (subst (λ x. Does text (called_within text deep name.id 0 number x) k one new) n d)
    ∙ ap (λ x. map bare (made_thread parent par (Some name.id) x l ++ [])) q

pub block_made : (text : Text) (deep parent par number first : ℕ) (place : Place) (body : Statements) (k : Stmt) (one new : State) → one.slot ≡ 0 → one.thread ≡ number + 1 → one.par ≡ first → threads_of text one ≡ [] →
    Does text (as_one (lower_list text (called_within text deep) number [] (next_of one) body)) k one new →
    bare_as parent par None 0 new.slot new.thread k ∷ threads_of text new ≡ map bare (made_by text deep parent par number first (by_group place body no_branches))
block_made text deep parent par number first place body k one new e f g z d =
    let n = begins 0 one.thread first number one e f g in
    let l = as_one (lower_list text (called_within text deep) number [] (next_at 0 (suc number) first) body) in
    thread_made text l k one new parent par None 0 z (subst (λ x. Does text (as_one (lower_list text (called_within text deep) number [] x body)) k one new) n d)

-- ---- the stack

-- the last one of what is pending is put on the stack
pub stack_next : (text : Text) (pending rest stack now : List Pending) (q : Pending) (whole : List Bare) → pending ≡ rest ++ q ∷ [] → now ≡ stack ++ q ∷ [] → pending_threads text pending ++ threads_on text stack ≡ whole →
    pending_threads text rest ++ threads_on text now ≡ whole
stack_next text pending rest stack now q whole e f w =
    ap (λ x. pending_threads text rest ++ threads_on text x) f
    ∙ (ap (λ x. pending_threads text rest ++ x) (stack_pushed text stack q)
    ∙ (sym (append_assoc (pending_threads text rest) (map bare (made_of text q)) (threads_on text stack))
    ∙ (ap (λ x. x ++ threads_on text stack) (sym (threads_pushed text rest q)) ∙ (ap (λ x. pending_threads text x ++ threads_on text stack) (sym e) ∙ w))))

pub stack_done : (text : Text) (pending stack : List Pending) (whole : List Bare) → pending ≡ [] → pending_threads text pending ++ threads_on text stack ≡ whole → threads_on text stack ≡ whole
stack_done text pending stack whole e w = ap (λ x. pending_threads text x ++ threads_on text stack) (sym e) ∙ w

-- one more thread is translated
module _ (text : Text) (done more : List Thread) (x : Thread) (stack rest : List Pending) (q : Pending) (inside now : List Bare) (e : stack ≡ rest ++ q ∷ []) (is : of_thread x ∷ inside ≡ map bare (made_of text q))
    (n : now ≡ inside ++ threads_on text rest)
  where
    taken : threads_on text stack ≡ of_thread x ∷ now
    taken = ap (threads_on text) e ∙ (stack_pushed text rest q ∙ (ap (λ l. l ++ threads_on text rest) (sym is) ∙ ap (λ l. of_thread x ∷ l) (sym n)))

    pub thread_next : (whole : List Bare) → more ≡ done ++ x ∷ [] → map of_thread done ++ threads_on text stack ≡ whole → map of_thread more ++ now ≡ whole
    thread_next whole f w =
        ap (λ l. map of_thread l ++ now) f
        ∙ (ap (λ l. l ++ now) (map-append of_thread done (x ∷ [])) ∙ (append_assoc (map of_thread done) (of_thread x ∷ []) now ∙ (ap (λ l. map of_thread done ++ l) (sym taken) ∙ w)))

    pub fewer_left : length now < length (threads_on text stack)
    fewer_left = let l = ap length taken in omega (arith, l)

pub threads_end : (text : Text) (done : List Thread) (stack : List Pending) (whole : List Bare) → stack ≡ [] → map of_thread done ++ threads_on text stack ≡ whole → map of_thread done ≡ whole
threads_end text done stack whole e w = sym (append-nil (map of_thread done)) ∙ (ap (λ l. map of_thread done ++ threads_on text l) (sym e) ∙ w)
