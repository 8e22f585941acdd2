-- The arguments of a par, and the jobs that a fork starts.
use Rattle.std.proofs.Common.{◌≡◌, ℕ, zero, suc, ◌+◌, ◌-◌, List, [], ◌∷◌, ◌++◌, length, Bool, true, false, refl, sym, ap, ◌∙◌, subst, arith, append-nil, length-append, take, drop}
use Rattle.std.specs.Prelude.{ℤ, pos, replicate}
use Rattle.forec_kernel.specs.declared.shape.VarCopy.{VarCopy}
use Rattle.forec_kernel.specs.Terms.{Branch}
use Rattle.forec_kernel.specs.Shapes.{PlainKernel}
use Rattle.forec_kernel.specs.Values.{Values, AllGive, OneRaises, Setting, setting, Sight, vals, fresh_words, call}
use Rattle.forec_kernel.specs.Texts.{some_running, uses_of, words_of, params_of}
use Rattle.forec_kernel.specs.Steps.{Owner, Arguments, Ready, Refused, arguments_then, arguments, started}
use Rattle.forec_kernel.specs.WellFormed.{threads_in}
use Rattle.forec_kernel.specs.Solo.{seeds_for}
use Rattle.thread_code.specs.declared.instruction.Instruction.{Instruction}
use Rattle.thread_code.specs.Valid.{arguments_of}
use Rattle.thread_code.specs.Machine.{Own, Machine, On, Trapped, starts}
use Rattle.code_gen.specs.Expressions.{expressions_code}
use Rattle.code_gen.specs.Statements.{arguments_code}
use Rattle.code_gen.specs.Blocks.{kernel_code}
use Rattle.code_gen.proofs.Fits.{CallsRun}
use Rattle.code_gen.proofs.Stretch.{HasAt, has_front, has_back, SameCount, point, Comes, stays, comes_on, comes_at, YieldsAll}
use Rattle.code_gen.proofs.Exprs.{push_all, same_count, expressions_run}
use Rattle.code_gen.proofs.MachinePoints.{ok, BranchesFit, numbers, running_in, Awaits}

-- all lists, one after the other
abbrev pub joined : List (List ℤ) → List ℤ
joined [] = []
joined (ns ∷ rest) = ns ++ joined rest

pub push_append : (xs ys st : List ℤ) → push_all (xs ++ ys) st ≡ push_all ys (push_all xs st)
push_append [] ys st = refl
push_append (x ∷ xs) ys st = push_append xs ys (x ∷ st)

-- ---- what a fork starts

take_front : (xs ys : List ℤ) (n : ℕ) → length xs ≡ n → take n (xs ++ ys) ≡ xs
take_front [] ys zero h = refl
take_front [] ys (suc n) h = absurd (omega (arith, h))
take_front (x ∷ xs) ys zero h = absurd (omega (arith, h))
take_front (x ∷ xs) ys (suc n) h = let e : length xs ≡ n = omega (arith, h) in ap (λ l. x ∷ l) (take_front xs ys n e)

drop_front : (xs ys : List ℤ) (n : ℕ) → length xs ≡ n → drop n (xs ++ ys) ≡ ys
drop_front [] ys zero h = refl
drop_front [] ys (suc n) h = absurd (omega (arith, h))
drop_front (x ∷ xs) ys zero h = absurd (omega (arith, h))
drop_front (x ∷ xs) ys (suc n) h = let e : length xs ≡ n = omega (arith, h) in drop_front xs ys n e

-- a list of arguments for each branch
abbrev pub ListsFit : PlainKernel → List Branch → List (List ℤ) → Type 0
ListsFit k [] [] = Unit {0}
ListsFit k [] (ns ∷ lists) = ⊥
ListsFit k (b ∷ bs) [] = ⊥
ListsFit k (b ∷ bs) (ns ∷ lists) = (length ns ≡ params_of k b.thread) × ListsFit k bs lists

module _ (k : PlainKernel) (uses : List ℕ) (copies : List VarCopy) where
  abbrev o : Owner
  o = record { kernel = k; uses = uses }

  pub numbers_started : (bs : List Branch) (lists : List (List ℤ)) → ListsFit k bs lists → numbers (started o copies bs lists) ≡ threads_in bs
  numbers_started [] [] h = refl
  numbers_started [] (ns ∷ lists) h = absurd h
  numbers_started (b ∷ bs) [] h = absurd h
  numbers_started (b ∷ bs) (ns ∷ lists) h = ap (λ l. b.thread ∷ l) (numbers_started bs lists h.1)

  pub running_started : (bs : List Branch) (lists : List (List ℤ)) → ListsFit k bs lists → running_in (started o copies bs lists) ≡ threads_in bs
  running_started [] [] h = refl
  running_started [] (ns ∷ lists) h = absurd h
  running_started (b ∷ bs) [] h = absurd h
  running_started (b ∷ bs) (ns ∷ lists) h = ap (λ l. b.thread ∷ l) (running_started bs lists h.1)

  pub awaits_started : (live : List Bool) (bs : List Branch) (lists : List (List ℤ)) → Awaits live (started o copies bs lists)
  awaits_started live [] lists = tt
  awaits_started live (b ∷ bs) [] = tt
  awaits_started live (b ∷ bs) (ns ∷ lists) = awaits_started live bs lists

  pub some_started : (bs : List Branch) (lists : List (List ℤ)) → (bs ≡ [] → ⊥) → ListsFit k bs lists → some_running (started o copies bs lists) ≡ true
  some_started [] lists h g = absurd (h refl)
  some_started (b ∷ bs) [] h g = absurd g
  some_started (b ∷ bs) (ns ∷ lists) h g = refl

module _ (k : PlainKernel) (t : ℕ) (copies : List VarCopy) where
  pub starts_are : (bs : List Branch) (lists : List (List ℤ)) → ListsFit k bs lists →
      starts (kernel_code k) t copies (threads_in bs) (joined lists) ≡ seeds_for k false (started (record { kernel = k; uses = uses_of k t }) copies bs lists)
  starts_are [] [] h = refl
  starts_are [] (ns ∷ lists) h = absurd h
  starts_are (b ∷ bs) [] h = absurd h
  starts_are (b ∷ bs) (ns ∷ lists) h =
      let n = params_of k b.thread in
      let first : take n (ns ++ joined lists) ≡ ns = take_front ns (joined lists) n h.0 in
      let rest : drop n (ns ++ joined lists) ≡ joined lists = drop_front ns (joined lists) n h.0 in
      let nil : ns ++ [] ≡ ns = simp append-nil in
      let all : take n ns ≡ ns = sym (ap (take n) nil) ∙ take_front ns [] n h.0 in
      let fresh : take n (fresh_words (take n ns) (words_of k b.thread)) ≡ ns =
      ap (λ l. take n (fresh_words l (words_of k b.thread))) all ∙ take_front ns (replicate (words_of k b.thread - length ns) (pos 0)) n h.0 in
      rw (first, rest, fresh, starts_are bs lists h.1) refl

pub arguments_count : (k : PlainKernel) (bs : List Branch) (lists : List (List ℤ)) → ListsFit k bs lists → arguments_of k.shape (threads_in bs) ≡ length (joined lists)
arguments_count k [] [] h = refl
arguments_count k [] (ns ∷ lists) h = absurd h
arguments_count k (b ∷ bs) [] h = absurd h
arguments_count k (b ∷ bs) (ns ∷ lists) h = omega (arith, h.0, arguments_count k bs lists h.1, length-append ns (joined lists))

-- ---- the arguments, one after the other

abbrev pub Fitting : PlainKernel → List Branch → Arguments → Type 0
Fitting k bs (Ready lists u) = ListsFit k bs lists
Fitting k bs (Refused place trap u) = Unit {0}

fitting_then : (k : PlainKernel) (b : Branch) (bs : List Branch) (vs : Values) (rest : Arguments) → SameCount (params_of k b.thread) vs → Fitting k bs rest → Fitting k (b ∷ bs) (arguments_then vs rest)
fitting_then k b bs (AllGive ns u) (Ready lists v) h g = (h, g)
fitting_then k b bs (AllGive ns u) (Refused place trap v) h g = tt
fitting_then k b bs (OneRaises place trap u) rest h g = tt

pub arguments_fit : (k : PlainKernel) (s : Setting) (e : Sight) (bs : List Branch) → BranchesFit k bs → Fitting k bs (arguments s e bs)
arguments_fit k s e [] h = tt
arguments_fit k s e (b ∷ bs) h =
    fitting_then k b bs (vals s e b.args) (arguments s e bs) (subst (λ n. SameCount n (vals s e b.args)) h.1 (same_count s e b.args)) (arguments_fit k s e bs h.2)

module _ (k : PlainKernel) (t : ℕ) (run : CallsRun (kernel_code k) t (ok k) (call k)) (s : List Instruction) (words : List ℤ) (counters : List ℕ) (own : Own) where
  abbrev here : ℕ → List ℤ → ℕ → Machine
  here p st u = On (point s p st words counters) [] own u

  abbrev sight : Sight
  sight = record { words = words; uses = uses_of k t; copies = own.copies }

  abbrev pub YieldsLists : Machine → ℕ → (List (List ℤ) → ℕ → Machine) → Arguments → Type 0
  YieldsLists m u to (Ready lists v) = Comes (kernel_code k) t m (to lists (u + v))
  YieldsLists m u to (Refused place trap v) = Comes (kernel_code k) t m (Trapped place trap (u + v))

  lists_then : (m : Machine) (u : ℕ) (mid : List ℤ → ℕ → Machine) (to : List ℤ → List (List ℤ) → ℕ → Machine) (to' : List (List ℤ) → ℕ → Machine) (vs : Values) (rest : Arguments) → ((ns : List ℤ) (lists : List (List ℤ)) (w : ℕ) → to ns lists w ≡ to' (ns ∷ lists) w) → YieldsAll (kernel_code k) t m u mid vs → ((ns : List ℤ) (w : ℕ) → YieldsLists (mid ns w) w (to ns) rest) → YieldsLists m u to' (arguments_then vs rest)
  lists_then m u mid to to' (AllGive ns v) (Ready lists w) e g h =
      let z : u + v + w ≡ u + (v + w) = omega arith in
      comes_at (kernel_code k) t (e ns lists (u + v + w) ∙ ap (to' (ns ∷ lists)) z) (comes_on (kernel_code k) t g (h ns (u + v)))
  lists_then m u mid to to' (AllGive ns v) (Refused place trap w) e g h =
      let z : u + v + w ≡ u + (v + w) = omega arith in
      comes_at (kernel_code k) t (ap (Trapped place trap) z) (comes_on (kernel_code k) t g (h ns (u + v)))
  lists_then m u mid to to' (OneRaises place trap v) rest e g h = g

  pub arguments_run : (bs : List Branch) (p : ℕ) (st : List ℤ) (u : ℕ) → BranchesFit k bs → HasAt s p (arguments_code p bs) →
      YieldsLists (here p st u) u (λ lists w. here (p + length (arguments_code p bs)) (push_all (joined lists) st) w) (arguments (setting k) sight bs)
  arguments_run [] p st u fit has =
      let n : p ≡ p + 0 = omega arith in
      let w : u ≡ u + 0 = omega arith in
      comes_at (kernel_code k) t (ap (λ i. here i st u) n ∙ ap (λ i. here (p + 0) st i) w) (stays (kernel_code k) t (here p st u))
  arguments_run (b ∷ bs) p st u fit has =
      let first = expressions_code p b.args in
      let q = p + length first in
      let more = arguments_code q bs in
      let n : q + length more ≡ p + length (first ++ more) = omega (arith, length-append first more) in
      lists_then (here p st u) u (λ ns w. here q (push_all ns st) w) (λ ns lists w. here (q + length more) (push_all (joined lists) (push_all ns st)) w) (λ lists w. here (p + length (first ++ more)) (push_all (joined lists) st) w)
      (vals (setting k) sight b.args) (arguments (setting k) sight bs)
      (λ ns lists w. ap (λ i. here i (push_all (joined lists) (push_all ns st)) w) n ∙ ap (λ l. here (p + length (first ++ more)) l w) (sym (push_append ns (joined lists) st)))
      (expressions_run (kernel_code k) t (call k) (ok k) run s words counters [] own b.args p st u fit.0 (has_front s p first more has))
      (λ ns w. arguments_run bs q (push_all ns st) w fit.2 (has_back s p first more has))
