-- Where a thread goes on after a fork.
use Rattle.std.proofs.Common.{◌≡◌, ◌≢◌, ℕ, zero, suc, ◌+◌, ◌-◌, ◌<◌, ◌≤◌, ◌==◌, ◌^◌, List, [], ◌∷◌, length, map, get_or, Some, None, Bool, true, false, not, cond, refl, sym, ap, ◌∙◌, subst, ⊎_elim, arith, length-set, get_or-set_same, get_or-set_other}
use Rattle.std.specs.Prelude.{ℤ, slice_get, slice_set, IsTrue, nat_lt, ◌&&◌, ◌||◌, ◌⊎◌}
use Rattle.std.specs.List.{list_all}
use Rattle.std.proofs.lemmas.Bool.Decides.{nat_tests}
use Rattle.std.proofs.lemmas.Option.{slice_get_within}
use Rattle.forec_kernel.specs.declared.shape.VarCopy.{VarCopy}
use Rattle.forec_kernel.specs.Engine.{Reply, WasPaused, WasEnded, WasTrapped, WasOver}
use Rattle.forec_kernel.specs.Solo.{some_reply_over}
use Rattle.forec_kernel.specs.Combining.{contains}
use Rattle.forec_kernel.specs.WellFormed.{ascends, all_in}
use Rattle.thread_code.specs.declared.instruction.Instruction.{Instruction}
use Rattle.thread_code.specs.declared.instruction.Instruction.TheVariants as instruction
use Rattle.thread_code.specs.Plain.{PlainCode}
use Rattle.thread_code.specs.Valid.{branches_in, arguments_of}
use Rattle.thread_code.specs.Machine.{Point, Own, no_total, Awaited, awaited, Machine, Waits, Merges, Failing, no_totals, all_shares, live_after, back_to, is_ended, replied, living, waking, starts, wakes, code_uses, act}
use Rattle.thread_code.specs.Alone.{block_of, machine_units}
use Rattle.combine_tree.specs.declared.joining.Fold.{Fold}
use Rattle.combine_tree.specs.Joins.{begun, fold_at}
use Rattle.thread_state.specs.Frames.{Frames, topmost_arguments, without, dropped}
use Rattle.thread_state.specs.Pars.{HavePars}
use Rattle.thread_state.specs.Kept.{PlainOwn, own_of, place_in, place_of, no_copy, with_live_at, HavePlaces, SuitsThread}
use Rattle.thread_steps.specs.BlockRun.{Comes, next, work, point_of}
use Rattle.core_machine.specs.Branches.{instruction_of, leftmost_trap, verdict_of}
use Rattle.core_machine.specs.declared.branches.Verdict.TheVariants as verdict
use Rattle.core_machine.specs.declared.thread.Thread.{Thread}
use Rattle.core_machine.specs.declared.thread.Phase.TheVariants as phase
use Rattle.core_machine.specs.Held.{machine_in, machine_of, AreBranches, some_use, total_in, totals_in, Below, Works, WaitsAtFork}
use Rattle.core_machine.specs.Threads.{Loaded, HasSettled}
use Rattle.core_machine.specs.Merging.{AreBelow, HaveUses, marked_live, begun_uses, begun_branches}
use Rattle.core_machine.proofs.Asking.{waits, machine_is}
use Rattle.core_machine.proofs.BranchLemmas.{same_self}
use Rattle.core_machine.proofs.CallRuns.{length_without}
use Rattle.thread_state.proofs.Indexed.{equal_of}
use Rattle.core_machine.proofs.Offering.{same_or_not}
use Rattle.core_machine.proofs.Outer.{Fork_kind, is_fork, is_again, fork_kind, args_act}
use Rattle.core_machine.proofs.Seeds.{fork_room, fork_numbers, again_numbers, again_some, have_places}
use Rattle.thread_steps.proofs.Steps.{fine, put_set}

-- ---- the place after a fork

module _ (c : PlainCode) (h : Thread) (l : Loaded c h) {n : ℕ} (at : HasSettled h n) where
  abbrev w0 : WaitsAtFork c l.needs h at.before
  w0 = waits c h l at

  next_by : (i : Instruction) → slice_get (block_of c h.number).steps h.at ≡ Some i → Fork_kind c h.own i → h.at + 1 < length (block_of c h.number).steps
  next_by i is (is_fork j to e) =
      let f = fine c h.number None at.before (work h.at h.stack h.own at.before) w0.works.at (omega arith) (instruction.Fork j to) (is ∙ ap Some e) in
      omega (arith, slice_get_within w0.works.at.sound.depths (h.at + 1) _ f.2.0, w0.works.at.sound.valid.long)
  next_by i is (is_again j to some e) =
      let f = fine c h.number None at.before (work h.at h.stack h.own at.before) w0.works.at (omega arith) (instruction.Again j to) (is ∙ ap Some e) in
      omega (arith, slice_get_within w0.works.at.sound.depths (h.at + 1) _ f.1.0, w0.works.at.sound.valid.long)

  pub fork_next : h.at + 1 < 2 ^ 32
  fork_next = omega (arith, next_by (instruction_of h.branches.fork) w0.is (fork_kind c h.own (instruction_of h.branches.fork) w0.forks), l.short None)

-- ---- what the thread waits for

wakes_waits : (c : PlainCode) (t : ℕ) (bs : List ℕ) (to : ℕ) (p : Point) (o : Own) (u : ℕ) → bs ≢ [] → waking c t bs to p [] o u ≡ Waits (awaited bs (wakes c t o.copies bs) p to p.stack) o u
wakes_waits c t [] to p o u some = absurd (some refl)
wakes_waits c t (b ∷ bs) to p o u some = refl

-- frames of which only the stack differs, and how much is used
pub record HasRest (f S : Frames) : Type 0 where
  pub words : S.words ≡ f.words
  pub counters : S.counters ≡ f.counters
  pub below : S.below ≡ f.below
  pub room : S.room ≡ f.room
  pub most : S.most ≡ f.most

rest_is : (n : ℕ) (stack : List ℤ) (f : Frames) → HasRest f (record { words = f.words; counters = f.counters; stack = stack; below = f.below; used = n; room = f.room; most = f.most })
rest_is n stack f = record { words = refl; counters = refl; below = refl; room = refl; most = refl }

-- the thread goes on with these frames, at one of two places
pub record Goes_on (c : PlainCode) (h : Thread) (to : ℕ) (S : Frames) : Type 0 where
  pub here : (q : ℕ) → (q ≡ h.at + 1) ⊎ (q ≡ to) → Comes c (block_of c h.number) q (length S.stack)
  pub base : S.used + length h.stack.stack ≡ h.stack.used + length S.stack
  pub less : length S.stack ≤ length h.stack.stack
  pub rest : HasRest h.stack S
  pub for : Awaited
  pub waits : machine_of c h ≡ Waits for (own_of h.own) h.units
  pub branches : for.branches ≡ h.branches.numbers
  pub done : for.done ≡ point_of (block_of c h.number) (h.at + 1) S
  pub going : for.going ≡ point_of (block_of c h.number) to S
  pub some : h.branches.numbers ≢ []

module _ (c : PlainCode) (h : Thread) (l : Loaded c h) {n : ℕ} (at : HasSettled h n) where
  abbrev v0 : WaitsAtFork c l.needs h at.before
  v0 = waits c h l at

  same_units : (W : Awaited) (u : ℕ) → machine_in c h (phase.Forked at.before) ≡ Waits W (own_of h.own) u → machine_of c h ≡ Waits W (own_of h.own) h.units
  same_units W u e =
      let k : u ≡ h.units = sym (ap machine_units e) ∙ v0.units in
      machine_is c h l at ∙ e ∙ ap (Waits W (own_of h.own)) k

  pub goes_on : (par to : ℕ) (again : Bool) → slice_get (block_of c h.number).steps h.at ≡ Some (cond again (instruction.Again par to) (instruction.Fork par to)) → Goes_on c h to (cond again h.stack (dropped (arguments_of c.shape h.branches.numbers) h.stack))
  goes_on par to false is =
      let bs = branches_in c.shape par in
      let m = arguments_of c.shape bs in
      let same = fork_numbers c h l at par to is in
      let count = ap (arguments_of c.shape) same in
      let p = point_of (block_of c h.number) h.at h.stack in
      let S = dropped (arguments_of c.shape h.branches.numbers) h.stack in
      let room = fork_room c h l at par to is in
      let long : length S.stack ≡ length h.stack.stack - arguments_of c.shape h.branches.numbers = length_without (arguments_of c.shape h.branches.numbers) h.stack.stack (omega (arith, room, count)) in
      let W : Awaited = awaited bs (starts c h.number h.own.copies bs (topmost_arguments m h.stack.stack [])) p to (without m h.stack.stack) in
      let go : List ℤ → List ℤ → Machine = λ args rest. Waits (awaited bs (starts c h.number h.own.copies bs args) p to rest) (own_of h.own) (at.before + 1) in
      let e : machine_in c h (phase.Forked at.before) ≡ Waits W (own_of h.own) (at.before + 1) =
      ap (λ i. act c h.number i p [] (own_of h.own) at.before) is ∙ args_act m h.stack.stack [] at.before go room in
      record {
        here = λ q k. let d : length h.stack.stack - m ≡ length S.stack = omega (arith, long, count) in subst (Comes c (block_of c h.number) q) d (next h.at (length h.stack.stack) (instruction.Fork par to) q v0.works.at.here is k);
        base = omega (arith, long, count, room, v0.works.at.counted);
        less = omega (arith, long);
        rest = rest_is _ _ h.stack;
        for = W;
        waits = same_units W (at.before + 1) e;
        branches = sym same;
        done = ap (λ k. point_of (block_of c h.number) (h.at + 1) (dropped k h.stack)) (sym count);
        going = ap (λ k. point_of (block_of c h.number) to (dropped k h.stack)) (sym count);
        some = λ none. (fine c h.number None at.before (work h.at h.stack h.own at.before) v0.works.at (omega arith) (instruction.Fork par to) is).0.some (sym same ∙ none);
      }
  goes_on par to true is =
      let bs = living h.own.live (branches_in c.shape par) in
      let same = again_numbers c h l at par to is in
      let p = point_of (block_of c h.number) h.at h.stack in
      let some = again_some c h l at par to is in
      let W : Awaited = awaited bs (wakes c h.number h.own.copies bs) p to h.stack.stack in
      let e : machine_in c h (phase.Forked at.before) ≡ Waits W (own_of h.own) at.before =
      ap (λ i. act c h.number i p [] (own_of h.own) at.before) is ∙ wakes_waits c h.number bs to p (own_of h.own) at.before some in
      record {
        here = λ q k. next h.at (length h.stack.stack) (instruction.Again par to) q v0.works.at.here is k;
        base = refl;
        less = omega arith;
        rest = rest_is _ _ h.stack;
        for = W;
        waits = same_units W at.before e;
        branches = sym same;
        done = refl;
        going = refl;
        some = λ none. some (sym same ∙ none);
      }

  -- the frame is at work there
  module _ (to : ℕ) (S : Frames) (g : Goes_on c h to S) (q : ℕ) (at_q : (q ≡ h.at + 1) ⊎ (q ≡ to)) (own : PlainOwn) (serves : SuitsThread c h.number own) (u : ℕ) where
    pub works_there : Works false c h.number l.needs None (work q S own u)
    works_there =
        let w = v0.works in
        let nw = ap length g.rest.words in
        let nc = ap length g.rest.counters in
        record {
          at = record {
            sound = w.at.sound;
            here = g.here q at_q;
            deep = w.at.deep;
            bound = w.at.bound;
            room = omega (arith, w.at.room, g.base, g.less, g.rest.room);
            counted = omega (arith, w.at.counted, g.base);
            words = omega (arith, nw, w.at.words);
            counters = omega (arith, nc, w.at.counters);
            serves = serves;
          };
          base = w.base;
          ends = omega (arith, w.ends, g.base, nw, nc);
          need = w.need;
          enough = w.enough;
          fits = omega (arith, w.fits, g.rest.room);
          chained = let k = ap length g.rest.below in omega (arith, k, w.chained);
          inside = λ e. cc;
          below = subst (λ r. Below false c h.number l.needs r S.below w.base) (sym g.rest.room) (subst (λ ws. Below false c h.number l.needs h.stack.room ws w.base) (sym g.rest.below) w.below);
        }

-- ---- the branches that live

pub live_is : (bs : List ℕ) (rs : List Reply) (k : PlainOwn) → ((b : ℕ) → IsTrue (contains b bs) → b < length k.live) → (marked_live bs (map is_ended rs) k).live ≡ live_after bs rs k.live
live_is [] rs k h = refl
live_is (b ∷ bs) [] k h = refl
live_is (b ∷ bs) (r ∷ rs) k h =
    let here : b < length k.live = h b (subst (λ x. IsTrue (cond x true (contains b bs))) (sym (same_self b)) refl) in
    live_is bs rs (with_live_at b (not (is_ended r)) k) (λ x y. let lt = h x (later (b == x) (contains x bs) y) in omega (arith, lt, length-set k.live b (not (is_ended r))))
    ∙ ap (live_after bs rs) (sym (put_set false k.live b (not (is_ended r)) here))
  where
    later : (t : Bool) (rest : Bool) → IsTrue rest → IsTrue (cond t true rest)
    later true rest h = refl
    later false rest h = h

pub marked_copies : (bs : List ℕ) (es : List Bool) (k : PlainOwn) → (marked_live bs es k).copies ≡ k.copies
marked_copies [] es k = refl
marked_copies (b ∷ bs) [] k = refl
marked_copies (b ∷ bs) (e ∷ es) k = marked_copies bs es (with_live_at b (not e) k)

pub marked_flags : (bs : List ℕ) (es : List Bool) (k : PlainOwn) → (marked_live bs es k).flags ≡ k.flags
marked_flags [] es k = refl
marked_flags (b ∷ bs) [] k = refl
marked_flags (b ∷ bs) (e ∷ es) k = marked_flags bs es (with_live_at b (not e) k)

pub marked_places : (bs : List ℕ) (es : List Bool) (k : PlainOwn) → (marked_live bs es k).places ≡ k.places
marked_places [] es k = refl
marked_places (b ∷ bs) [] k = refl
marked_places (b ∷ bs) (e ∷ es) k = marked_places bs es (with_live_at b (not e) k)

pub marked_pars : (bs : List ℕ) (es : List Bool) (k : PlainOwn) → (marked_live bs es k).pars ≡ k.pars
marked_pars [] es k = refl
marked_pars (b ∷ bs) [] k = refl
marked_pars (b ∷ bs) (e ∷ es) k = marked_pars bs es (with_live_at b (not e) k)

pub marked_length : (bs : List ℕ) (es : List Bool) (k : PlainOwn) → length (marked_live bs es k).live ≡ length k.live
marked_length [] es k = refl
marked_length (b ∷ bs) [] k = refl
marked_length (b ∷ bs) (e ∷ es) k = marked_length bs es (with_live_at b (not e) k) ∙ length-set k.live b (not e)

pub marked_serves : (c : PlainCode) (t : ℕ) (bs : List ℕ) (es : List Bool) (k : PlainOwn) → SuitsThread c t k → SuitsThread c t (marked_live bs es k)
marked_serves c t bs es k s = record {
  copies = ap length (marked_copies bs es k) ∙ s.copies;
  places = λ v u. ap (λ l. slice_get l v) (marked_places bs es k) ∙ s.places v u;
  flags = ap length (marked_flags bs es k) ∙ s.flags;
  live = marked_length bs es k ∙ s.live;
  pars = subst (HavePars c.shape) (sym (marked_pars bs es k)) s.pars;
}

pub below_of : (c : PlainCode) (t : ℕ) (bs : List ℕ) → AreBranches c t bs → (b : ℕ) → IsTrue (contains b bs) → b < length c.shape.threads
below_of c t [] h b k = cc
below_of c t (x ∷ bs) h b k = by (x == b) refl k (below_of c t bs h.1 b)
  where
    by : (e : Bool) → (x == b) ≡ e → IsTrue (cond e true (contains b bs)) → (IsTrue (contains b bs) → b < length c.shape.threads) → b < length c.shape.threads
    by true e k more = subst (λ x. x < length c.shape.threads) (equal_of x b e) h.0.thread
    by false e k more = more k

-- ---- folds that begin

abbrev IsBegun : PlainOwn → List Fold → ℕ → Type 0
IsBegun k folds p = fold_at folds p ≡ begun (get_or k.copies p no_copy)

set_begun : (k : PlainOwn) (folds : List Fold) (p q : ℕ) → q < length folds → IsBegun k folds p → IsBegun k (slice_set folds q (begun (get_or k.copies q no_copy))) p
set_begun k folds p q lt h =
    ⊎_elim
    (λ same. subst (λ p. IsBegun k (slice_set folds q (begun (get_or k.copies q no_copy))) p) same (get_or-set_same folds q (begun (get_or k.copies q no_copy)) _ lt))
    (λ other. get_or-set_other folds q p (begun (get_or k.copies q no_copy)) _ other ∙ h)
    (same_or_not q p)

stays_begun : (k : PlainOwn) (vs : List ℕ) (folds : List Fold) (p : ℕ) → HavePlaces k vs → length folds ≡ length k.copies → IsBegun k folds p → IsBegun k (begun_uses k vs folds) p
stays_begun k [] folds p h e b = b
stays_begun k (v ∷ vs) folds p h e b =
    let q = place_in k v in
    stays_begun k vs (slice_set folds q (begun (get_or k.copies q no_copy))) p h.2 (length-set folds q _ ∙ e) (set_begun k folds p q (omega (arith, h.1, e)) b)

in_begun : (k : PlainOwn) (vs : List ℕ) (folds : List Fold) (v : ℕ) → HavePlaces k vs → length folds ≡ length k.copies → IsTrue (contains v vs) → IsBegun k (begun_uses k vs folds) (place_in k v)
in_begun k [] folds v h e c = cc
in_begun k (x ∷ vs) folds v h e c =
    let q = place_in k x in
    let folds' = slice_set folds q (begun (get_or k.copies q no_copy)) in
    let lt : q < length folds = omega (arith, h.1, e) in
    by (x == v) refl c (λ c. in_begun k vs folds' v h.2 (length-set folds q _ ∙ e) c) (stays_begun k vs folds' q h.2 (length-set folds q _ ∙ e) (get_or-set_same folds q (begun (get_or k.copies q no_copy)) _ lt))
  where
    by : (t : Bool) → (x == v) ≡ t → IsTrue (cond t true (contains v vs)) → (IsTrue (contains v vs) → IsBegun k (begun_uses k (x ∷ vs) folds) (place_in k v)) → IsBegun k (begun_uses k (x ∷ vs) folds) (place_in k x) → IsBegun k (begun_uses k (x ∷ vs) folds) (place_in k v)
    by true e c more here = subst (λ y. IsBegun k (begun_uses k (x ∷ vs) folds) (place_in k y)) (equal_of x v e) here
    by false e c more here = more c

length_uses : (k : PlainOwn) (vs : List ℕ) (folds : List Fold) → length (begun_uses k vs folds) ≡ length folds
length_uses k [] folds = refl
length_uses k (v ∷ vs) folds = length_uses k vs _ ∙ length-set folds (place_in k v) _

stay_branches : (c : PlainCode) (k : PlainOwn) (bs : List ℕ) (folds : List Fold) (p : ℕ) → HaveUses c k bs → length folds ≡ length k.copies → IsBegun k folds p → IsBegun k (begun_branches c k bs folds) p
stay_branches c k [] folds p h e b = b
stay_branches c k (x ∷ bs) folds p h e b = stay_branches c k bs (begun_uses k (code_uses c x) folds) p h.2 (length_uses k (code_uses c x) folds ∙ e) (stays_begun k (code_uses c x) folds p h.1 e b)

pub begun_there : (c : PlainCode) (k : PlainOwn) (bs : List ℕ) (folds : List Fold) (v : ℕ) → HaveUses c k bs → length folds ≡ length k.copies → some_use c bs v ≡ true → IsBegun k (begun_branches c k bs folds) (place_in k v)
begun_there c k [] folds v h e u = cc
begun_there c k (x ∷ bs) folds v h e u =
    by (contains v (code_uses c x)) refl u (λ u. begun_there c k bs (begun_uses k (code_uses c x) folds) v h.2 (length_uses k (code_uses c x) folds ∙ e) u)
  where
    by : (t : Bool) → contains v (code_uses c x) ≡ t → (t || some_use c bs v) ≡ true → (some_use c bs v ≡ true → IsBegun k (begun_branches c k (x ∷ bs) folds) (place_in k v)) → IsBegun k (begun_branches c k (x ∷ bs) folds) (place_in k v)
    by true here u more = stay_branches c k bs (begun_uses k (code_uses c x) folds) (place_in k v) h.2 (length_uses k (code_uses c x) folds ∙ e) (in_begun k (code_uses c x) folds v h.1 e here)
    by false here u more = more u

pub have_uses : (c : PlainCode) (t : ℕ) (k : PlainOwn) → SuitsThread c t k → (bs : List ℕ) → AreBranches c t bs → HaveUses c k bs
have_uses c t k s [] h = tt
have_uses c t k s (b ∷ bs) h = (h.0.thread, have_places c t k s (code_uses c b) h.0.uses, have_uses c t k s bs h.1)

-- ---- each variable has one place

ascends_on : (a b : ℕ) (rest : List ℕ) → IsTrue (ascends (a ∷ b ∷ rest)) → (a < b) × IsTrue (ascends (b ∷ rest))
ascends_on a b rest h = by (nat_lt a b) (ascends (b ∷ rest)) refl h
  where
    by : (t r : Bool) → nat_lt a b ≡ t → IsTrue (t && r) → (a < b) × IsTrue r
    by true true e h = (grind (arith, nat_tests), refl)
    by true false e h = cc
    by false r e h = cc

ascends_past : (a : ℕ) (rest : List ℕ) (i : ℕ) → IsTrue (ascends (a ∷ rest)) → i < length rest → a < get_or rest i 0
ascends_past a [] i h lt = absurd (omega arith)
ascends_past a (b ∷ rest) zero h lt = (ascends_on a b rest h).0
ascends_past a (b ∷ rest) (suc i) h lt = let k = ascends_on a b rest h in omega (arith, k.0, ascends_past b rest i k.1 (omega arith))

ascends_rest : (a : ℕ) (rest : List ℕ) → IsTrue (ascends (a ∷ rest)) → IsTrue (ascends rest)
ascends_rest a [] h = refl
ascends_rest a (b ∷ rest) h = (ascends_on a b rest h).1

test_less : (a b : ℕ) → a < b → (a == b) ≡ false
test_less a b h = grind (arith, nat_tests)

pub place_nth : (uses : List ℕ) (i : ℕ) → IsTrue (ascends uses) → i < length uses → place_of uses (get_or uses i 0) ≡ i
place_nth [] i h lt = absurd (omega arith)
place_nth (u ∷ uses) zero h lt = ap (λ t. cond t 0 (suc (place_of uses u))) (same_self u)
place_nth (u ∷ uses) (suc i) h lt =
    ap (λ t. cond t 0 (suc (place_of uses (get_or uses i 0)))) (test_less u (get_or uses i 0) (ascends_past u uses i h (omega arith)))
    ∙ ap suc (place_nth uses i (ascends_rest u uses h) (omega arith))

pub totals_none : (c : PlainCode) (bs : List ℕ) (uses : List ℕ) (folds : List Fold) (copies : List VarCopy) → length folds ≡ length uses → length copies ≡ length uses →
    ((i : ℕ) → i < length uses → some_use c bs (get_or uses i 0) ≡ true → total_in (fold_at folds i) ≡ no_total) → totals_in c bs uses folds ≡ no_totals uses copies
totals_none c bs [] folds copies e k h = refl
totals_none c bs (v ∷ uses) [] copies e k h = absurd (omega (arith, e))
totals_none c bs (v ∷ uses) (f ∷ folds) [] e k h = absurd (omega (arith, k))
totals_none c bs (v ∷ uses) (f ∷ folds) (x ∷ copies) e k h =
    ap (λ t. t ∷ totals_in c bs uses folds) (by (some_use c bs v) (h 0 (omega arith))) ∙ ap (λ l. no_total ∷ l) (totals_none c bs uses folds copies (omega (arith, e)) (omega (arith, k)) (λ i lt s. h (suc i) (omega (arith, lt)) s))
  where
    by : (t : Bool) → (t ≡ true → total_in f ≡ no_total) → cond t (total_in f) no_total ≡ no_total
    by true here = here refl
    by false here = refl

-- ---- what the replies say

trap_not_over : (rs : List Reply) → leftmost_trap rs ≡ verdict.Over → ⊥
trap_not_over [] e = cc
trap_not_over (WasPaused copies u ∷ rs) e = trap_not_over rs e
trap_not_over (WasEnded copies u ∷ rs) e = trap_not_over rs e
trap_not_over (WasTrapped place trap u ∷ rs) e = cc
trap_not_over (WasOver ∷ rs) e = trap_not_over rs e

pub over_by : (rs : List Reply) → verdict_of rs ≡ verdict.Over → some_reply_over rs ≡ true
over_by rs e = by (some_reply_over rs) refl e
  where
    by : (t : Bool) → some_reply_over rs ≡ t → cond t verdict.Over (leftmost_trap rs) ≡ verdict.Over → t ≡ true
    by true k e = refl
    by false k e = absurd (trap_not_over rs e)

pub not_over : (rs : List Reply) → verdict_of rs ≢ verdict.Over → (some_reply_over rs ≡ false) × (verdict_of rs ≡ leftmost_trap rs)
not_over rs no_more = by (some_reply_over rs) refl
  where
    by : (t : Bool) → some_reply_over rs ≡ t → (t ≡ false) × (cond t verdict.Over (leftmost_trap rs) ≡ leftmost_trap rs)
    by true k = absurd (no_more (ap (λ t. cond t verdict.Over (leftmost_trap rs)) k))
    by false k = (refl, refl)

pub replied_units : (c : PlainCode) (t : ℕ) (w : Awaited) (rs more : List Reply) (o : Own) (u : ℕ) → machine_units (replied c t w rs more o u) ≡ u
replied_units c t w rs [] o u = refl
replied_units c t w rs (WasPaused copies v ∷ more) o u = replied_units c t w rs more o u
replied_units c t w rs (WasEnded copies v ∷ more) o u = replied_units c t w rs more o u
replied_units c t w rs (WasTrapped place trap v ∷ more) o u = refl
replied_units c t w rs (WasOver ∷ more) o u = replied_units c t w rs more o u

pub replied_trap : (c : PlainCode) (t : ℕ) (w : Awaited) (rs more : List Reply) (o : Own) (u : ℕ) (place : _) (trap : _) → leftmost_trap more ≡ verdict.Trap place trap → replied c t w rs more o u ≡ Failing place trap u
replied_trap c t w rs [] o u place trap e = cc
replied_trap c t w rs (WasPaused copies v ∷ more) o u place trap e = replied_trap c t w rs more o u place trap e
replied_trap c t w rs (WasEnded copies v ∷ more) o u place trap e = replied_trap c t w rs more o u place trap e
replied_trap c t w rs (WasTrapped p q v ∷ more) o u place trap e = let a : p ≡ place = cc in let b : q ≡ trap = cc in ap (λ p. Failing p q u) a ∙ ap (λ q. Failing place q u) b
replied_trap c t w rs (WasOver ∷ more) o u place trap e = replied_trap c t w rs more o u place trap e

pub replied_all : (c : PlainCode) (t : ℕ) (w : Awaited) (rs more : List Reply) (o : Own) (u : ℕ) → leftmost_trap more ≡ verdict.Combine →
    replied c t w rs more o u ≡ Merges (record { left = all_shares c w.branches rs; totals = no_totals (code_uses c t) o.copies; back = back_to w rs }) (record o { live = live_after w.branches rs o.live }) u
replied_all c t w rs [] o u e = refl
replied_all c t w rs (WasPaused copies v ∷ more) o u e = replied_all c t w rs more o u e
replied_all c t w rs (WasEnded copies v ∷ more) o u e = replied_all c t w rs more o u e
replied_all c t w rs (WasTrapped p q v ∷ more) o u e = cc
replied_all c t w rs (WasOver ∷ more) o u e = replied_all c t w rs more o u e

pub back_is : (w : Awaited) (rs : List Reply) → back_to w rs ≡ cond (list_all (λ e. e) (map is_ended rs)) w.done w.going
back_is w [] = refl
back_is w (r ∷ rs) = by (is_ended r) (back_is w rs)
  where
    by : (t : Bool) → back_to w rs ≡ cond (list_all (λ e. e) (map is_ended rs)) w.done w.going → cond t (back_to w rs) w.going ≡ cond (t && list_all (λ e. e) (map is_ended rs)) w.done w.going
    by true more = more
    by false more = refl

-- a variable of which a branch has a copy
in_uses : (v : ℕ) (vs uses : List ℕ) → IsTrue (all_in vs uses) → IsTrue (contains v vs) → IsTrue (contains v uses)
in_uses v [] uses h k = cc
in_uses v (x ∷ vs) uses h k = by (contains x uses) (all_in vs uses) refl h (x == v) refl k (λ h k. in_uses v vs uses h k)
  where
    by : (a b : Bool) → contains x uses ≡ a → IsTrue (a && b) → (e : Bool) → (x == v) ≡ e → IsTrue (cond e true (contains v vs)) → (IsTrue b → IsTrue (contains v vs) → IsTrue (contains v uses)) → IsTrue (contains v uses)
    by true b q h true e k more = subst (λ x. IsTrue (contains x uses)) (equal_of x v e) q
    by true b q h false e k more = more h k
    by false b q h e f k more = cc

pub use_in : (c : PlainCode) (t : ℕ) (bs : List ℕ) → AreBranches c t bs → (v : ℕ) → some_use c bs v ≡ true → IsTrue (contains v (code_uses c t))
use_in c t [] h v u = cc
use_in c t (b ∷ bs) h v u = by (contains v (code_uses c b)) refl u (use_in c t bs h.1 v)
  where
    by : (q : Bool) → contains v (code_uses c b) ≡ q → (q || some_use c bs v) ≡ true → (some_use c bs v ≡ true → IsTrue (contains v (code_uses c t))) → IsTrue (contains v (code_uses c t))
    by true here u more = in_uses v (code_uses c b) (code_uses c t) h.0.uses here
    by false here u more = more u

pub all_below_live : (c : PlainCode) (t : ℕ) (k : PlainOwn) → SuitsThread c t k → (bs : List ℕ) → AreBranches c t bs → AreBelow (length k.live) bs
all_below_live c t k s [] h = tt
all_below_live c t k s (b ∷ bs) h = (omega (arith, h.0.thread, s.live), all_below_live c t k s bs h.1)
