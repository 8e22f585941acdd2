-- Where statements land, and the statements whose parts are in boxes.
use Rattle.std.proofs.Common.{ℕ, suc, ◌+◌, ◌-◌, ◌<◌, ◌≤◌, ◌≡◌, ◌==◌, ◌∙◌, sym, ap, refl, subst, Bool, true, cond, Option, Some, None, List, [], ◌∷◌, ◌++◌, append-nil, length, map, get_or, arith}
use Rattle.std.proofs.lemmas.Bool.Decides.{nat_tests}
use Rattle.std.specs.Prelude.{Result, Ok, Err, IfOk}
use Rattle.std.specs.Borrow.{Bor}
use Rattle.forec_base.specs.declared.Place.{Place}
use Rattle.forec_tree.specs.declared.tree.Stmt as tree_stmt
use Rattle.forec_tree.specs.declared.tree.StmtKind as tree_kind
use Rattle.forec_tree.specs.declared.tree.StmtKind.{StmtKind, Group', If', While', For', Par', Abort'}
use Rattle.forec_tree.specs.declared.tree.Local.{Local}
use Rattle.forec_tree.specs.declared.tree.Name.{Name}
use Rattle.forec_tree.specs.declared.tree.Number.{Number}
use Rattle.forec_tree.specs.declared.tree.Expr.{Expr}
use Rattle.forec_tree.specs.Plain.{statement, statement_at, statements, terms}
use Rattle.forec_tree.specs.Terms.{Text, Term, Statement, Nothing, Group, Declare, Assign, Invoke, If, While, For, Pause, Par, Abort, Return, Statements, no_statements, more_statements, no_terms, Perhaps, PlainFunction}
use Rattle.forec_tree.specs.Pauses.{within, find_function}
use Rattle.forec_kernel.specs.Terms as kernel
use Rattle.forec_kernel.specs.Terms.{Stmt}
use Rattle.forec_kernel.specs.Plain.{stmt}
use Rattle.forec_kernel.specs.declared.terms.Statement as rust
use Rattle.text_kernel.specs.declared.names.Slot.{Slot}
use Rattle.text_kernel.specs.Bindings.{params_at}
use Rattle.text_kernel.specs.Lowering.{NextNumbers, Lowered, Inlined, scope_after, from_slot, as_one, bound_of, lower_term, lower_statement, lower_list, lower_perhaps, inlined_body}
use Rattle.lower_names.specs.declared.landing.Landing.{Landing}
use Rattle.lower_names.specs.declared.state.State.{State}
use Rattle.lower_names.specs.Landings.{only, only_in_group, SameKernel, called_within, FunctionLands, AllLand, CallLands}
use Rattle.loop_check.specs.Numbered.{put_entry}
use Rattle.loop_check.proofs.IndexLemmas.{split}
use Rattle.lower_names.specs.Views.{seen, Same, next_of, threads_of, bare, Does}
use Rattle.lower_names.proofs.Doing.{does_as, threads_two, same_seen}

-- ---- groups of one statement

one_alone : (l : Lowered) → (let r : Lowered = record { stmt = l.stmt; next = l.next; made = l.made ++ [] } in r) ≡ l
one_alone l = ap (λ m. (let r : Lowered = record { stmt = l.stmt; next = l.next; made = m } in r)) (append-nil l.made)

some_same : (a b : Statement) → Some a ≡ Some b → a ≡ b
some_same a b h = cc

pub only_one : (items : List tree_stmt.Stmt) (a : tree_stmt.Stmt) (n : ℕ) → n ≡ length items → n ≡ 1 → a ≡ get_or items 0 a → Some (statement a) ≡ only (statements items)
only_one [] a n e h g = absurd (omega (arith, e, h))
only_one (x ∷ []) a n e h g = ap (λ s. Some (statement s)) g
only_one (x ∷ y ∷ items) a n e h g = absurd (omega (arith, e, h))

pub only_other : (items : List tree_stmt.Stmt) (n : ℕ) → n ≡ length items → (n ≡ 1 → ⊥) → None ≡ only (statements items)
only_other [] n e h = refl
only_other (x ∷ []) n e h = absurd (h e)
only_other (x ∷ y ∷ items) n e h = refl

pub only_is : (body : Statements) (a : Statement) → only body ≡ Some a → body ≡ more_statements a no_statements
only_is no_statements a h = cc
only_is (more_statements b no_statements) a h = ap (λ x. more_statements x no_statements) (some_same b a h)
only_is (more_statements b (more_statements c rest)) a h = cc

group_same : (at : Place) (body : Statements) (b : Statement) → only body ≡ Some b → SameKernel (Group at body) b
group_same at body b h = λ text called t s n. ap (λ q. lower_statement text called t s n (Group at q)) (only_is body b h) ∙ one_alone (lower_statement text called t s n b)

pub inside_same : (a b : Statement) → only_in_group a ≡ Some b → SameKernel a b
inside_same (Group at body) b h = group_same at body b h
inside_same (Nothing at) b h = cc
inside_same (Declare at locals) b h = cc
inside_same (Assign at target op value) b h = cc
inside_same (Invoke at name args) b h = cc
inside_same (If at test a other) b h = cc
inside_same (While at test bound body) b h = cc
inside_same (For at start test step bound body) b h = cc
inside_same (Pause at) b h = cc
inside_same (Par at bs) b h = cc
inside_same (Abort at weak immediate test body) b h = cc
inside_same (Return at value) b h = cc

pub same_step : (a b c : Statement) → SameKernel a b → only_in_group b ≡ Some c → SameKernel a c
same_step a b c h e = λ text called t s n. h text called t s n ∙ inside_same b c e text called t s n

pub same_none : (a : Statement) → SameKernel a a
same_none a = λ text called t s n. refl

-- how many groups stand in one another
abbrev mutual
  pub groups : Statement → ℕ
  groups (Group at body) = suc (groups_first body)
  groups _ = 0

  groups_first : Statements → ℕ
  groups_first no_statements = 0
  groups_first (more_statements a rest) = groups a

fewer_first : (body : Statements) (b : Statement) → only body ≡ Some b → groups b ≡ groups_first body
fewer_first body b h = ap groups_first (sym (only_is body b h))

pub fewer : (a b : Statement) → only_in_group a ≡ Some b → groups b < groups a
fewer (Group at body) b h = let e = fewer_first body b h in omega (arith, e)
fewer (Nothing at) b h = cc
fewer (Declare at locals) b h = cc
fewer (Assign at target op value) b h = cc
fewer (Invoke at name args) b h = cc
fewer (If at test a other) b h = cc
fewer (While at test bound body) b h = cc
fewer (For at start test step bound body) b h = cc
fewer (Pause at) b h = cc
fewer (Par at bs) b h = cc
fewer (Abort at weak immediate test body) b h = cc
fewer (Return at value) b h = cc

-- ---- functions of one statement

called_one : (text : Text) (id : ℕ) (f : PlainFunction) (a : Statement) (d first t : ℕ) (n : NextNumbers) → find_function id text ≡ Some f → f.params ≡ [] → f.body ≡ more_statements a no_statements →
    called_within text (suc d) id first t n ≡ lower_statement text (called_within text d) t [] n a
unfolding within
called_one text id f a d first t n e p b =
    let called = called_within text d in
    ap (λ o. inlined_body text called o first t n) e
    ∙ (ap (λ ps. as_one (lower_list text called t (params_at first ps) n f.body)) p
    ∙ (ap (λ q. as_one (lower_list text called t [] n q)) b ∙ one_alone (lower_statement text called t [] n a)))

pub lands_here : (text : Text) (id : ℕ) (f : PlainFunction) (a : Statement) (l : Landing) → find_function id text ≡ Some f → f.params ≡ [] → only f.body ≡ Some a → SameKernel a (statement l.statement.now) → l.calls ≡ 1 →
    FunctionLands text id (Some l)
lands_here text id f a l e p o s c =
    λ above first t n.
    let z : l.calls + above ≡ suc above = omega (arith, c) in
    ap (λ d. called_within text d id first t n) z ∙ (called_one text id f a above first t n e p (only_is f.body a o) ∙ s text (called_within text above) t [] n)

pub lands_further : (text : Text) (id : ℕ) (f : PlainFunction) (a b : Statement) (next l : Landing) → find_function id text ≡ Some f → f.params ≡ [] → only f.body ≡ Some a → SameKernel a b →
    CallLands text b (Some next) → l.statement ≡ next.statement → l.calls ≡ next.calls + 1 → FunctionLands text id (Some l)
lands_further text id f a b next l e p o s c g more =
    λ above first t n.
    let z : l.calls + above ≡ suc (next.calls + above) = omega (arith, more) in
    ap (λ d. called_within text d id first t n) z
    ∙ (called_one text id f a (next.calls + above) first t n e p (only_is f.body a o)
    ∙ (s text (called_within text (next.calls + above)) t [] n ∙ (c above t [] n ∙ ap (λ (r : Bor tree_stmt.Stmt). lower_statement text (called_within text above) t [] n (statement r.now)) (sym g))))

-- a call without arguments
call_none : (text : Text) (at : Place) (name : Name) (l : Option Landing) → FunctionLands text name.id l → CallLands text (Invoke at name no_terms) l
call_none text at name None h = tt
call_none text at name (Some l) h =
    λ above t s n.
    let z : n.slot + 0 ≡ n.slot = omega arith in
    ap (λ k. called_within text (l.calls + above) name.id n.slot t (from_slot n k)) z ∙ h above n.slot t n

no_args : (args : List Expr) → length args ≡ 0 → terms args ≡ no_terms
no_args [] h = refl
no_args (e ∷ es) h = absurd (omega (arith, h))

pub call_lands : (text : Text) (at : Place) (name : Name) (args : List Expr) (l : Option Landing) → length args ≡ 0 → FunctionLands text name.id l → CallLands text (Invoke at name (terms args)) l
call_lands text at name args l e h = subst (λ q. CallLands text (Invoke at name q) l) (sym (no_args args e)) (call_none text at name l h)

-- ---- a statement from where it lands

pub inner_lands : (text : Text) (deep t : ℕ) (a b : Statement) (l : Landing) (k : Stmt) (old new : State) → SameKernel a b → CallLands text b (Some l) → l.calls ≤ deep →
    Does text (lower_statement text (called_within text (deep - l.calls)) t [] (next_of old) (statement l.statement.now)) k old new →
    Does text (lower_statement text (called_within text deep) t (seen old.scope) (next_of old) a) k old new
inner_lands text deep t a b l k old new s c h d =
    let z : deep ≡ l.calls + (deep - l.calls) = omega (arith, h) in
    does_as _ _ k old new
    (sym (s text (called_within text deep) t (seen old.scope) (next_of old)
    ∙ (ap (λ x. lower_statement text (called_within text x) t (seen old.scope) (next_of old) b) z ∙ c (deep - l.calls) t (seen old.scope) (next_of old))))
    d

pub ok_then : {A E : Type 0} (r : Result A E) (P Q : A → Type 0) → ((k : A) → P k → Q k) → IfOk r P → IfOk r Q
ok_then (Ok k) P Q f h = f k h
ok_then (Err e) P Q f h = h

-- a statement between two states that differ in their scopes
pub does_shown : (text : Text) (F : List Slot → Lowered) (k : Stmt) (s : List Slot) (old one two new : State) → threads_of text one ≡ threads_of text old → s ≡ [] → Does text (F s) k one two → next_of new ≡ next_of two → threads_of text new ≡ threads_of text two →
    Does text (F []) k old new
does_shown text F k s old one two new h e d n w =
    let q : Does text (F []) k one two = subst (λ x. Does text (F x) k one two) e d in
    record { is = q.is; next = n ∙ q.next; threads = w ∙ (q.threads ∙ ap (λ x. x ++ map bare (F []).made) h) }

-- ---- statements in boxes

pub does_boxed : {text : Text} (l : Lowered) (k b : rust.Statement) → b ≡ k → {old : State} (new : State) → Does text l (stmt k) old new → Does text l (stmt b) old new
does_boxed {text} l k b e {old} new d = subst (λ x. Does text l (stmt x) old new) (sym e) d

module _ (text : Text) (called : ℕ → Inlined) (t : ℕ) where
  pub if_does : (at : Place) (test : Term) (a : Statement) (b : Perhaps) (old one two : State) (k1 k2 : Stmt) (kt : kernel.Expr) → Same old.scope one.scope → Same one.scope two.scope →
      Does text (lower_statement text called t (seen old.scope) (next_of old) a) k1 old one → Does text (lower_perhaps text called t (seen one.scope) (next_of one) b) k2 one two →
      kt ≡ lower_term text (seen two.scope) test → Does text (lower_statement text called t (seen old.scope) (next_of old) (If at test a b)) (kernel.If kt k1 k2) old two
  if_does at test a b old one two k1 k2 kt g h d e v =
      let l = lower_statement text called t (seen old.scope) (next_of old) a in
      let s1 = same_seen old.scope one.scope g in
      let s2 = same_seen one.scope two.scope h ∙ s1 in
      let m = lower_perhaps text called t (seen old.scope) l.next b in
      let q : Does text m k2 one two = does_as _ _ k2 one two (ap (λ s. lower_perhaps text called t s (next_of one) b) s1 ∙ ap (λ n. lower_perhaps text called t (seen old.scope) n b) d.next) e in
      record {
        is =
            ap (λ x. kernel.If x k1 k2) (v ∙ ap (λ s. lower_term text s test) s2)
            ∙ (ap (λ x. kernel.If (lower_term text (seen old.scope) test) x k2) d.is ∙ ap (λ x. kernel.If (lower_term text (seen old.scope) test) l.stmt x) q.is);
        next = q.next;
        threads = threads_two (threads_of text old) (threads_of text one) (threads_of text two) l.made m.made d.threads q.threads;
      }

  pub while_does : (at : Place) (test : Term) (bound : Option Number) (body : Statement) (old new : State) (kb : Stmt) (kt : kernel.Expr) (turns : Option ℕ) → Same old.scope new.scope →
      Does text (lower_statement text called t (seen old.scope) (next_of old) body) kb old new → kt ≡ lower_term text (seen new.scope) test → turns ≡ bound_of bound →
      Does text (lower_statement text called t (seen old.scope) (next_of old) (While at test bound body)) (kernel.While kt turns kb at) old new
  while_does at test bound body old new kb kt turns g d v w =
      let l = lower_statement text called t (seen old.scope) (next_of old) body in
      record {
        is =
            ap (λ x. kernel.While x turns kb at) (v ∙ ap (λ s. lower_term text s test) (same_seen old.scope new.scope g))
            ∙ (ap (λ x. kernel.While (lower_term text (seen old.scope) test) x kb at) w ∙ ap (λ x. kernel.While (lower_term text (seen old.scope) test) (bound_of bound) x at) d.is);
        next = d.next;
        threads = d.threads;
      }

  pub abort_does : (at : Place) (weak immediate : Bool) (test : Term) (body : Statements) (old new : State) (kb : Stmt) (kt : kernel.Expr) → Same old.scope new.scope →
      Does text (as_one (lower_list text called t (seen old.scope) (next_of old) body)) kb old new → kt ≡ lower_term text (seen new.scope) test →
      Does text (lower_statement text called t (seen old.scope) (next_of old) (Abort at weak immediate test body)) (kernel.Enter weak immediate kt kb) old new
  abort_does at weak immediate test body old new kb kt g d v =
      record {
        is = ap (λ x. kernel.Enter weak immediate x kb) (v ∙ ap (λ s. lower_term text s test) (same_seen old.scope new.scope g)) ∙ ap (kernel.Enter weak immediate (lower_term text (seen old.scope) test)) d.is;
        next = d.next;
        threads = d.threads;
      }

pub call_found : (text : Text) (st : tree_stmt.Stmt) (name : Name) (args : List Expr) (n : ℕ) (table : List (Option Landing)) (l : Option Landing) → st.what ≡ tree_kind.Call name args → n ≡ length args → n ≡ 0 → AllLand text table →
    l ≡ get_or table name.id None → CallLands text (statement st) l
call_found text st name args n table l is m z all k =
    subst (λ w. CallLands text (statement_at w st.place) l) (sym is)
    (call_lands text st.place name args l (sym m ∙ z) (subst (FunctionLands text name.id) (sym k) (all name.id)))

pub no_names : (ns : List Name) (n : ℕ) → n ≡ length ns → n ≤ 0 → ns ≡ []
no_names [] n e h = refl
no_names (x ∷ ns) n e h = absurd (omega (arith, e, h))

same_number : (f g : ℕ) → (f == g) ≡ true → f ≡ g
same_number f g e = grind (arith, nat_tests)

-- where one more function lands
pub all_put : (text : Text) (f : ℕ) (landing : Option Landing) (old new : List (Option Landing)) → AllLand text old → ((g : ℕ) → get_or new g None ≡ put_entry f g landing (get_or old g None)) → FunctionLands text f landing → AllLand text new
all_put text f landing old new a p h =
    λ g.
    subst (FunctionLands text g) (sym (p g))
    (split (f == g) (λ e. subst (FunctionLands text g) (sym (ap (λ b. cond b landing (get_or old g None)) e)) (subst (λ i. FunctionLands text i landing) (same_number f g e) h))
    (λ e. subst (FunctionLands text g) (sym (ap (λ b. cond b landing (get_or old g None)) e)) (a g)))

-- ---- a statement that declares nothing

behind_kind : (text : Text) (s : List Slot) (slot : ℕ) (w : StmtKind) (at : Place) → ((locals : List Local) → w ≡ tree_kind.Declare locals → ⊥) → scope_after text s slot (statement_at w at) ≡ s
behind_kind text s slot tree_kind.Nothing at h = refl
behind_kind text s slot (Group' shape body) at h = refl
behind_kind text s slot (tree_kind.Declare locals) at h = absurd (h locals refl)
behind_kind text s slot (tree_kind.Assign target op value) at h = refl
behind_kind text s slot (tree_kind.Call name args) at h = refl
behind_kind text s slot (If' test k p a b) at h = refl
behind_kind text s slot (While' test bound k p body) at h = refl
behind_kind text s slot (For' start test step bound k p body) at h = refl
behind_kind text s slot tree_kind.Pause at h = refl
behind_kind text s slot (Par' shape branches) at h = refl
behind_kind text s slot (Abort' weak immediate test shape body) at h = refl
behind_kind text s slot (tree_kind.Return value) at h = refl

pub behind_same : (text : Text) (s now : List Slot) (slot : ℕ) (st : tree_stmt.Stmt) → now ≡ s → ((locals : List Local) → st.what ≡ tree_kind.Declare locals → ⊥) → now ≡ scope_after text s slot (statement st)
behind_same text s now slot st e h = e ∙ sym (behind_kind text s slot st.what st.place h)
