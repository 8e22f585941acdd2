-- The branches of a held fork live.
use Rattle.std.proofs.Common.{◌≡◌, ℕ, List, [], ◌∷◌, length, get_or, Some, Bool, true, false, not, cond, refl, sym, ap, ◌∙◌, arith}
use Rattle.std.specs.Prelude.{slice_get, slice_set}
use Rattle.std.specs.List.{list_all}
use Rattle.std.proofs.lemmas.List.{set-get_or}
use Rattle.thread_code.specs.declared.instruction.Instruction.TheVariants as instruction
use Rattle.thread_code.specs.Plain.{PlainCode}
use Rattle.thread_code.specs.Valid.{branches_in}
use Rattle.thread_code.specs.Machine.{living}
use Rattle.thread_code.specs.Alone.{block_of}
use Rattle.thread_state.specs.Kept.{PlainOwn}
use Rattle.core_machine.specs.declared.thread.Thread.{Thread}
use Rattle.core_machine.specs.Threads.{Loaded, HasSettled}
use Rattle.core_machine.specs.Merging.{marked_live}
use Rattle.core_machine.proofs.Asking.{waits}
use Rattle.core_machine.proofs.BranchLemmas.{few_living}
use Rattle.core_machine.proofs.Seeds.{again_numbers}

living_twice : (live : List Bool) (bs : List ℕ) → living live (living live bs) ≡ living live bs
living_twice live [] = refl
living_twice live (b ∷ bs) = by (get_or live b false) refl (living_twice live bs)
  where
    by : (t : Bool) → get_or live b false ≡ t → living live (living live bs) ≡ living live bs → living live (cond t (b ∷ living live bs) (living live bs)) ≡ cond t (b ∷ living live bs) (living live bs)
    by true e more = ap (λ t. cond t (b ∷ living live (living live bs)) (living live (living live bs))) e ∙ ap (λ l. b ∷ l) more
    by false e more = more

first_lives : (live : List Bool) (b : ℕ) (bs : List ℕ) → living live (b ∷ bs) ≡ b ∷ bs → (get_or live b false ≡ true) × (living live bs ≡ bs)
first_lives live b bs h = by (get_or live b false) refl h
  where
    by : (t : Bool) → get_or live b false ≡ t → cond t (b ∷ living live bs) (living live bs) ≡ b ∷ bs → (get_or live b false ≡ true) × (living live bs ≡ bs)
    by true e h = let rest : living live bs ≡ bs = cc in (e, rest)
    by false e h = let n = ap length h in absurd (omega (arith, n, few_living live bs))

-- where none has ended, those that lived do so on
pub living_on : (bs : List ℕ) (es : List Bool) (k : PlainOwn) → list_all (λ e. not e) es ≡ true → living k.live bs ≡ bs → marked_live bs es k ≡ k
living_on [] es k none h = refl
living_on (b ∷ bs) [] k none h = refl
living_on (b ∷ bs) (true ∷ es) k none h = cc
living_on (b ∷ bs) (false ∷ es) k none h =
    let l = first_lives k.live b bs h in
    let set : slice_set k.live b true ≡ k.live = ap (slice_set k.live b) (sym l.0) ∙ set-get_or k.live b false in
    let make : List Bool → PlainOwn = λ live. record { copies = k.copies; places = k.places; flags = k.flags; live = live; pars = k.pars } in
    ap (λ live. marked_live bs es (make live)) set ∙ living_on bs es k none l.1

pub held_live : (c : PlainCode) (h : Thread) (l : Loaded c h) {n : ℕ} (at : HasSettled h n) → h.branches.fork.again ≡ true → living h.own.live h.branches.numbers ≡ h.branches.numbers
held_live c h l at again =
    let f = h.branches.fork in
    let is : slice_get (block_of c h.number).steps h.at ≡ Some (instruction.Again f.par f.to) =
    (waits c h l at).is ∙ ap (λ b. Some (cond b (instruction.Again f.par f.to) (instruction.Fork f.par f.to))) again in
    let numbers = again_numbers c h l at f.par f.to is in
    ap (living h.own.live) numbers ∙ living_twice h.own.live (branches_in c.shape f.par) ∙ sym numbers
