-- The jobs of a fork's branches.
use Rattle.std.proofs.Common.{◌≡◌, ◌≢◌, ℕ, zero, suc, ◌+◌, ◌-◌, ◌<◌, ◌≤◌, List, [], ◌∷◌, length, take, drop, map, get_or, Some, None, Bool, true, false, refl, sym, ap, ◌∙◌, subst, arith}
use Rattle.std.specs.Prelude.{ℤ, slice_get, IsTrue, ◌&&◌}
use Rattle.std.proofs.lemmas.Option.{slice_get_within}
use Rattle.forec_kernel.specs.declared.shape.VarCopy.{VarCopy}
use Rattle.forec_kernel.specs.Combining.{contains}
use Rattle.forec_kernel.specs.Texts.{params_in, handed_down}
use Rattle.forec_kernel.specs.Values.{copy_of}
use Rattle.forec_kernel.specs.Solo.{values_in, unmarked_copies}
use Rattle.forec_kernel.specs.WellFormed.{all_in}
use Rattle.forec_kernel.specs.Engine.{Start, Wake, Seed, Written, written, AtFork}
use Rattle.thread_code.specs.declared.instruction.Instruction.TheVariants as instruction
use Rattle.thread_code.specs.Plain.{PlainCode}
use Rattle.thread_code.specs.Valid.{branches_in, arguments_of}
use Rattle.thread_code.specs.Machine.{Machine, Waits, awaited, waking, living, starts, wakes, handed, code_uses, act, step}
use Rattle.thread_code.specs.Alone.{block_of, view_of}
use Rattle.thread_state.specs.Frames.{topmost_arguments, without}
use Rattle.thread_state.specs.Kept.{PlainOwn, own_of, place_in, place_of, no_copy, HavePlaces, handed_by, SuitsThread}
use Rattle.thread_state.specs.Pars.{used_by}
use Rattle.thread_steps.specs.BlockRun.{work, point_of, machine_at}
use Rattle.core_machine.specs.declared.thread.Thread.{Thread}
use Rattle.core_machine.specs.declared.thread.Phase.TheVariants as phase
use Rattle.core_machine.specs.Held.{machine_in, branch_of, IsBranch, AreBranches, WaitsAtFork}
use Rattle.core_machine.specs.Threads.{Loaded, HasSettled}
use Rattle.forec_kernel.specs.Packets.{PlainPacket}
use Rattle.forec_kernel.specs.Packed.{IsJob}
use Rattle.combine_tree.specs.declared.packet.Packet.{Packet}
use Rattle.combine_tree.specs.Plain.{plain_kind}
use Rattle.core_machine.specs.Branches.{instruction_of}
use Rattle.core_machine.specs.Forks.{branch_at, jobs_at, args_at, HasKind}
use Rattle.core_machine.proofs.Args.{args_are, sum_within}
use Rattle.core_machine.proofs.Asking.{waits, jobs_are}
use Rattle.core_machine.proofs.BranchLemmas.{starts_name, wakes_name}
use Rattle.thread_state.proofs.Indexed.{place_within}
use Rattle.thread_state.proofs.Links.{used_is, used_count}
use Rattle.core_machine.proofs.Outer.{Fork_kind, is_fork, is_again, fork_kind, args_act}
use Rattle.thread_steps.proofs.Steps.{copy_at, got, fine}

-- ---- the k-th job

drop_none : {A : Type 0} → (n : ℕ) → drop {A = A} n [] ≡ []
drop_none zero = refl
drop_none (suc n) = refl

drop_more : {A : Type 0} → (xs : List A) (n m : ℕ) → drop m (drop n xs) ≡ drop (n + m) xs
drop_more xs zero m = let e : m ≡ zero + m = omega arith in ap (λ k. drop k xs) e
drop_more [] (suc n) m = drop_none m ∙ sym (drop_none (suc n + m))
drop_more (x ∷ xs) (suc n) m = let e : suc (n + m) ≡ suc n + m = omega arith in drop_more xs n m ∙ ap (λ k. drop k (x ∷ xs)) e

module _ (c : PlainCode) (t a : ℕ) (copies : List VarCopy) where
  abbrev start_job : ℕ → List ℤ → Written
  start_job b args = record { branch = b; job = Start args (handed c t copies b) a }

  start_at : (bs : List ℕ) (args : List ℤ) (k : ℕ) (w : Written) → slice_get (map (written a) (starts c t copies bs args)) k ≡ Some w →
      w ≡ start_job (get_or bs k 0) (take (params_in c.shape.threads (get_or bs k 0)) (drop (arguments_of c.shape (take k bs)) args))
  start_at [] args zero w h = cc
  start_at [] args (suc k) w h = cc
  start_at (b ∷ bs) args zero w h = let e : w ≡ start_job b (take (params_in c.shape.threads b) args) = cc in e
  start_at (b ∷ bs) args (suc k) w h =
      start_at bs (drop (params_in c.shape.threads b) args) k w h
      ∙ ap (λ l. start_job (get_or bs k 0) (take (params_in c.shape.threads (get_or bs k 0)) l)) (drop_more args (params_in c.shape.threads b) (arguments_of c.shape (take k bs)))

  wake_at : (bs : List ℕ) (k : ℕ) (w : Written) → slice_get (map (written a) (wakes c t copies bs)) k ≡ Some w → w ≡ record { branch = get_or bs k 0; job = Wake (handed c t copies (get_or bs k 0)) a }
  wake_at [] zero w h = cc
  wake_at [] (suc k) w h = cc
  wake_at (b ∷ bs) zero w h = let e : w ≡ record { branch = b; job = Wake (handed c t copies b) a } = cc in e
  wake_at (b ∷ bs) (suc k) w h = wake_at bs k w h

-- ---- the values that are handed down

all_first : (v : ℕ) (vs uses : List ℕ) → IsTrue (all_in (v ∷ vs) uses) → IsTrue (contains v uses) × IsTrue (all_in vs uses)
all_first v vs uses h = by (contains v uses) (all_in vs uses) h
  where
    by : (a b : Bool) → IsTrue (a && b) → IsTrue a × IsTrue b
    by true true h = (refl, refl)
    by true false h = cc
    by false b h = cc

module _ (c : PlainCode) (t : ℕ) (k : PlainOwn) (s : SuitsThread c t k) where
  pub place_is : (v : ℕ) → IsTrue (contains v (code_uses c t)) → place_in k v ≡ place_of (code_uses c t) v
  place_is v h = got k.places v (place_of (code_uses c t) v) 0 (s.places v h)

  pub have_places : (vs : List ℕ) → IsTrue (all_in vs (code_uses c t)) → HavePlaces k vs
  have_places [] h = tt
  have_places (v ∷ vs) h =
      let f = all_first v vs (code_uses c t) h in
      (slice_get_within k.places v _ (s.places v f.0), omega (arith, place_is v f.0, place_within (code_uses c t) v f.0, s.copies), have_places vs f.1)

  pub handed_are : (vs : List ℕ) → IsTrue (all_in vs (code_uses c t)) → handed_by k vs ≡ unmarked_copies (values_in (handed_down (code_uses c t) k.copies vs))
  handed_are [] h = refl
  handed_are (v ∷ vs) h =
      let f = all_first v vs (code_uses c t) h in
      let e : get_or k.copies (place_in k v) no_copy ≡ copy_of (code_uses c t) k.copies v = ap (λ i. get_or k.copies i no_copy) (place_is v f.0) ∙ sym (copy_at (code_uses c t) k.copies v f.0 s.copies) in
      let one : VarCopy → VarCopy = λ x. record { value = x.value; modified = false } in
      ap (λ x. one x ∷ handed_by k vs) e ∙ ap (λ l. one (copy_of (code_uses c t) k.copies v) ∷ l) (handed_are vs f.1)

-- ---- at a fork

pub branch_in : (c : PlainCode) (t : ℕ) (bs : List ℕ) (k : ℕ) → AreBranches c t bs → k < length bs → IsBranch c t (get_or bs k 0)
branch_in c t [] k h lt = absurd (omega arith)
branch_in c t (b ∷ bs) zero h lt = h.0
branch_in c t (b ∷ bs) (suc k) h lt = branch_in c t bs k h.1 (omega arith)

module _ (c : PlainCode) (h : Thread) (l : Loaded c h) {n : ℕ} (at : HasSettled h n) where
  abbrev w0 : WaitsAtFork c l.needs h at.before
  w0 = waits c h l at

  abbrev bs : List ℕ
  bs = h.branches.numbers

  module _ (j to : ℕ) (is : slice_get (block_of c h.number).steps h.at ≡ Some (instruction.Fork j to)) where
    abbrev par : List ℕ
    par = branches_in c.shape j

    pub fork_room : arguments_of c.shape par ≤ length h.stack.stack
    fork_room = (fine c h.number None at.before (work h.at h.stack h.own at.before) w0.works.at (omega arith) (instruction.Fork j to) is).1

    fork_seeds : w0.seeds ≡ starts c h.number h.own.copies par (topmost_arguments (arguments_of c.shape par) h.stack.stack [])
    fork_seeds =
        let p = point_of (block_of c h.number) h.at h.stack in
        let go : List ℤ → List ℤ → Machine = λ args rest. Waits (awaited par (starts c h.number h.own.copies par args) p to rest) (own_of h.own) (at.before + 1) in
        let e : step c h.number (machine_at (block_of c h.number) [] (work h.at h.stack h.own at.before)) ≡ go (topmost_arguments (arguments_of c.shape par) h.stack.stack []) (without (arguments_of c.shape par) h.stack.stack) =
        ap (λ i. act c h.number i p [] (own_of h.own) at.before) is ∙ args_act (arguments_of c.shape par) h.stack.stack [] at.before go fork_room in
        let v : AtFork w0.seeds ≡ AtFork (starts c h.number h.own.copies par (topmost_arguments (arguments_of c.shape par) h.stack.stack [])) = sym w0.view ∙ ap view_of e in
        cc

    pub fork_numbers : bs ≡ par
    fork_numbers = w0.numbers ∙ ap (map branch_of) fork_seeds ∙ starts_name c h.number h.own.copies par (topmost_arguments (arguments_of c.shape par) h.stack.stack [])

    pub numbers_room : arguments_of c.shape bs ≤ length h.stack.stack
    numbers_room = subst (λ bs. arguments_of c.shape bs ≤ length h.stack.stack) (sym fork_numbers) fork_room

    pub fork_job : (k : ℕ) (w : Written) → k < length bs → slice_get (jobs_at c h) k ≡ Some w → w ≡ record { branch = branch_at h k; job = Start (args_at c h k) (handed c h.number h.own.copies (branch_at h k)) (h.allowance - h.units) }
    fork_job k w lt e =
        let a = h.allowance - h.units in
        let stack = h.stack.stack in
        let job : ℕ → List ℤ → Written = λ b args. record { branch = b; job = Start args (handed c h.number h.own.copies b) a } in
        let jobs : jobs_at c h ≡ map (written a) (starts c h.number h.own.copies bs (topmost_arguments (arguments_of c.shape bs) stack [])) =
        jobs_are c h l at ∙ ap (map (written a)) fork_seeds ∙ ap (λ bs. map (written a) (starts c h.number h.own.copies bs (topmost_arguments (arguments_of c.shape bs) stack []))) (sym fork_numbers) in
        start_at c h.number a h.own.copies bs (topmost_arguments (arguments_of c.shape bs) stack []) k w (ap (λ l. slice_get l k) (sym jobs) ∙ e)
        ∙ ap (job (branch_at h k)) (args_are (arguments_of c.shape bs) stack (params_in c.shape.threads (branch_at h k)) (arguments_of c.shape (take k bs)) numbers_room (sum_within c.shape bs k lt))

  wakes_in : (t : ℕ) (copies : List VarCopy) (par : List ℕ) (to : ℕ) (m : Machine) (seeds : List Seed) → par ≢ [] → (p : _) (u : ℕ) → waking c t par to p [] (own_of h.own) u ≡ m → view_of m ≡ AtFork seeds → seeds ≡ wakes c t h.own.copies par
  wakes_in t copies [] to m seeds some p u e v = absurd (some refl)
  wakes_in t copies (b ∷ par) to m seeds some p u e v = let k : AtFork (wakes c t h.own.copies (b ∷ par)) ≡ AtFork seeds = ap view_of e ∙ v in cc

  module _ (j to : ℕ) (is : slice_get (block_of c h.number).steps h.at ≡ Some (instruction.Again j to)) where
    abbrev living_ones : List ℕ
    living_ones = living h.own.live (branches_in c.shape j)

    pub again_some : living_ones ≢ []
    again_some = by (fork_kind c h.own (instruction_of h.branches.fork) w0.forks)
      where
        by : Fork_kind c h.own (instruction_of h.branches.fork) → living h.own.live (branches_in c.shape j) ≢ []
        by (is_fork j' to' e) = let k = sym is ∙ w0.is ∙ ap Some e in cc
        by (is_again j' to' some e) = let k : instruction.Again j to ≡ instruction.Again j' to' = let f = sym is ∙ w0.is ∙ ap Some e in cc in let q : j' ≡ j = cc in subst (λ j. living h.own.live (branches_in c.shape j) ≢ []) q some

    again_seeds : w0.seeds ≡ wakes c h.number h.own.copies living_ones
    again_seeds =
        let p = point_of (block_of c h.number) h.at h.stack in
        let e : waking c h.number living_ones to p [] (own_of h.own) at.before ≡ machine_in c h (phase.Forked at.before) = sym (ap (λ i. act c h.number i p [] (own_of h.own) at.before) is) in
        wakes_in h.number h.own.copies living_ones to (machine_in c h (phase.Forked at.before)) w0.seeds again_some p at.before e w0.view

    pub again_numbers : bs ≡ living_ones
    again_numbers = w0.numbers ∙ ap (map branch_of) again_seeds ∙ wakes_name c h.number h.own.copies living_ones

    pub again_job : (k : ℕ) (w : Written) → slice_get (jobs_at c h) k ≡ Some w → w ≡ record { branch = branch_at h k; job = Wake (handed c h.number h.own.copies (branch_at h k)) (h.allowance - h.units) }
    again_job k w e =
        let a = h.allowance - h.units in
        let jobs : jobs_at c h ≡ map (written a) (wakes c h.number h.own.copies bs) = jobs_are c h l at ∙ ap (map (written a)) again_seeds ∙ ap (λ bs. map (written a) (wakes c h.number h.own.copies bs)) (sym again_numbers) in
        wake_at c h.number a h.own.copies bs k w (ap (λ l. slice_get l k) (sym jobs) ∙ e)

  -- ---- the packet of a job

  module _ (k : ℕ) (lt : k < length bs) where
    abbrev b : ℕ
    b = branch_at h k

    pub is_branch : IsBranch c h.number b
    is_branch = branch_in c h.number bs k w0.branches lt

    -- what it uses, read by its number

    module _ (b' : ℕ) (e : b' ≡ b) where
      pub branch_within : b' < length h.own.pars.uses
      branch_within = omega (arith, is_branch.thread, e, used_count c.shape h.own.pars l.serves.pars)

      pub branch_uses : used_by h.own.pars b' ≡ code_uses c b
      branch_uses = ap (used_by h.own.pars) e ∙ used_is c.shape h.own.pars l.serves.pars b

      pub branch_places : HavePlaces h.own (used_by h.own.pars b')
      branch_places = subst (HavePlaces h.own) (sym branch_uses) (have_places c h.number h.own l.serves (code_uses c b) is_branch.uses)

      pub branch_copies : (t : Thread) → Loaded c t → t.number ≡ b → length t.own.copies ≡ length (used_by h.own.pars b')
      branch_copies t l number = l.serves.copies ∙ ap (λ n. length (code_uses c n)) number ∙ sym (ap length branch_uses)

    pub values_are : handed_by h.own (code_uses c b) ≡ unmarked_copies (handed c h.number h.own.copies b)
    values_are = handed_are c h.number h.own l.serves (code_uses c b) is_branch.uses

    pub job_by : (p p' : Packet) → HasKind c h k p p' → (q : PlainPacket) → q.kind ≡ plain_kind p'.kind → q.args ≡ p'.args.items → q.copies ≡ handed_by h.own (code_uses c b) → q.allowance ≡ h.allowance - h.units →
        (w : Written) → slice_get (jobs_at c h) k ≡ Some w → (w.branch ≡ b) × IsJob q w.job
    job_by p p' kinds q qk qa qc ql w e = by (fork_kind c h.own (instruction_of h.branches.fork) w0.forks)
      where
        by : Fork_kind c h.own (instruction_of h.branches.fork) → (w.branch ≡ branch_at h k) × IsJob q w.job
        by (is_fork j to i) =
            let is = w0.is ∙ ap Some i in
            let s = kinds.start j to is in
            let f = fork_job j to is k w lt e in
            subst (λ (w : Written). (w.branch ≡ branch_at h k) × IsJob q w.job) (sym f)
            (refl, (qk ∙ ap (λ x. plain_kind x) s.0, qa ∙ s.1, qc ∙ values_are, ql))
        by (is_again j to some i) =
            let is = w0.is ∙ ap Some i in
            let f = again_job j to is k w e in
            subst (λ (w : Written). (w.branch ≡ branch_at h k) × IsJob q w.job) (sym f)
            (refl, (qk ∙ ap (λ x. plain_kind x) (kinds.wake j to is), qc ∙ values_are, ql))
