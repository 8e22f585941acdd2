-- A jump's address is written when what it skips stands.
use Rattle.std.proofs.Common.{◌≡◌, ℕ, ◌+◌, Bool, List, [], ◌∷◌, ◌++◌, length, refl, ap, sym, ◌∙◌, arith, append_assoc, length-append}
use Rattle.std.specs.Prelude.{ℤ, slice_set}
use Rattle.std.proofs.Math.Seq.{set-append_seam}
use Rattle.forec_kernel.specs.Terms.{Expr, Stmt, Enter}
use Rattle.forec_kernel.specs.Shapes.{PlainThread}
use Rattle.thread_code.specs.declared.instruction.Instruction.{Instruction}
use Rattle.thread_code.specs.declared.instruction.Instruction.TheVariants as instruction
use Rattle.code_gen.specs.Expressions.{expression_code}
use Rattle.code_gen.specs.Statements.{Around, InAbort, weaks, checks, prologue, wait_code, if_code, loop_code, fork_code, enter_code, statement_code}
use Rattle.code_gen.proofs.Lengths.{enter_length, alike_self, alike_length}

-- another element at a seam
pub set_at : (c pre post : List Instruction) (x y : Instruction) (n : ℕ) → c ≡ pre ++ x ∷ post → n ≡ length pre → slice_set c n y ≡ pre ++ y ∷ post
set_at c pre post x y n e h = ap (λ l. slice_set l n y) e ∙ ap (λ i. slice_set (pre ++ x ∷ post) i y) h ∙ set-append_seam pre x post y

-- the two sides of `and` and `or`
abbrev pub sides_code : (ℕ → Instruction) → ℤ → ℕ → Expr → Expr → List Instruction
sides_code skip n p a b =
    let left = expression_code p a in
    let q = p + length left + 1 in
    let right = expression_code q b in
    let r = q + length right in
    left ++ (skip (r + 1 + 1) ∷ (right ++ instruction.Truth ∷ instruction.Jump (r + 1 + 1 + 1) ∷ instruction.Quiet n ∷ []))

pub patch_sides : (base c1 c2 c3 c4 : List Instruction) (a b : Expr) (x : Instruction) (skip : ℕ → Instruction) (v : ℤ) (n to : ℕ) → c1 ≡ base ++ expression_code (length base) a → n ≡ length c1 → c2 ≡ c1 ++ x ∷ [] → c3 ≡ c2 ++ expression_code (length c2) b →
    c4 ≡ c3 ++ (instruction.Truth ∷ instruction.Jump (length c3 + 1 + 1 + 1) ∷ instruction.Quiet v ∷ []) → to ≡ length c3 + 1 + 1 → slice_set c4 n (skip to) ≡ base ++ sides_code skip v (length base) a b
patch_sides base c1 c2 c3 c4 a b x skip v n to e1 m e2 e3 e4 et =
    let ca = expression_code (length base) a in
    let q = length base + length ca + 1 in
    let cb = expression_code (length c2) b in
    let l1 = ap (λ l. length l) e1 ∙ length-append base ca in
    let l2 = ap (λ l. length l) e2 ∙ length-append c1 (x ∷ []) in
    let l3 = ap (λ l. length l) e3 ∙ length-append c2 cb in
    let here : length c2 ≡ q = omega (arith, l1, l2) in
    let lb : length cb ≡ length (expression_code q b) = ap (λ i. length (expression_code i b)) here in
    let r : length c3 ≡ q + length (expression_code q b) = omega (arith, l3, here, lb) in
    let to' : to ≡ q + length (expression_code q b) + 1 + 1 = omega (arith, et, r) in
    let tail = λ (i : ℕ). instruction.Truth ∷ instruction.Jump (i + 1 + 1 + 1) ∷ instruction.Quiet v ∷ [] in
    let all : c4 ≡ ((c1 ++ x ∷ []) ++ cb) ++ tail (length c3) = e4 ∙ ap (λ l. l ++ tail (length c3)) (e3 ∙ ap (λ l. l ++ cb) e2) in
    let flat : ((c1 ++ x ∷ []) ++ cb) ++ tail (length c3) ≡ c1 ++ x ∷ (cb ++ tail (length c3)) = simp append_assoc in
    set_at c4 c1 (cb ++ tail (length c3)) x (skip to) n (all ∙ flat) m
    ∙ ap (λ l. l ++ skip to ∷ (cb ++ tail (length c3))) e1
    ∙ append_assoc base ca (skip to ∷ (cb ++ tail (length c3)))
    ∙ ap (λ i. base ++ (ca ++ skip i ∷ (cb ++ tail (length c3)))) to'
    ∙ ap (λ i. base ++ (ca ++ skip (q + length (expression_code q b) + 1 + 1) ∷ (cb ++ tail i))) r
    ∙ ap (λ i. base ++ (ca ++ skip (q + length (expression_code q b) + 1 + 1) ∷ (expression_code i b ++ tail (q + length (expression_code q b))))) here

-- two branches after a test
pub patch_if : (base c1 c2 c3 c4 c5 test : List Instruction) (first second : ℕ → List Instruction) (x1 x2 : Instruction) (n m r e : ℕ) → c1 ≡ base ++ test → n ≡ length c1 → c2 ≡ c1 ++ x1 ∷ [] → c3 ≡ c2 ++ first (length c2) → m ≡ length c3 →
    c4 ≡ c3 ++ x2 ∷ [] → r ≡ length c4 → c5 ≡ c4 ++ second (length c4) → e ≡ length c5 → slice_set (slice_set c5 n (instruction.Zero r)) m (instruction.Jump e) ≡ base ++ if_code (length base) test first second
patch_if base c1 c2 c3 c4 c5 test first second x1 x2 n m r e e1 hn e2 e3 hm e4 hr e5 he =
    let f = first (length c2) in
    let g = second (length c4) in
    let q = length base + length test + 1 in
    let l1 = ap (λ l. length l) e1 ∙ length-append base test in
    let l2 = ap (λ l. length l) e2 ∙ length-append c1 (x1 ∷ []) in
    let l3 = ap (λ l. length l) e3 ∙ length-append c2 f in
    let l4 = ap (λ l. length l) e4 ∙ length-append c3 (x2 ∷ []) in
    let l5 = ap (λ l. length l) e5 ∙ length-append c4 g in
    let here : length c2 ≡ q = omega (arith, l1, l2) in
    let lf : length f ≡ length (first q) = ap (λ i. length (first i)) here in
    let there : length c4 ≡ q + length (first q) + 1 = omega (arith, l3, l4, here, lf) in
    let lg : length g ≡ length (second (q + length (first q) + 1)) = ap (λ i. length (second i)) there in
    let r' : r ≡ q + length (first q) + 1 = hr ∙ there in
    let e' : e ≡ q + length (first q) + 1 + length (second (q + length (first q) + 1)) = omega (arith, he, l5, there, lg) in
    let all : c5 ≡ (((c1 ++ x1 ∷ []) ++ f) ++ x2 ∷ []) ++ g = e5 ∙ ap (λ l. l ++ g) (e4 ∙ ap (λ l. l ++ x2 ∷ []) (e3 ∙ ap (λ l. l ++ f) e2)) in
    let flat : (((c1 ++ x1 ∷ []) ++ f) ++ x2 ∷ []) ++ g ≡ c1 ++ x1 ∷ (f ++ x2 ∷ g) = simp append_assoc in
    let z = instruction.Zero r in
    let once = set_at c5 c1 (f ++ x2 ∷ g) x1 z n (all ∙ flat) hn in
    let again : c1 ++ z ∷ (f ++ x2 ∷ g) ≡ (c1 ++ z ∷ f) ++ x2 ∷ g = sym (append_assoc c1 (z ∷ f) (x2 ∷ g)) in
    let long : m ≡ length (c1 ++ z ∷ f) = omega (arith, hm, l2, l3, length-append c1 (z ∷ f)) in
    set_at (slice_set c5 n z) (c1 ++ z ∷ f) g x2 (instruction.Jump e) m (once ∙ again) long
    ∙ append_assoc c1 (z ∷ f) (instruction.Jump e ∷ g)
    ∙ ap (λ l. l ++ z ∷ (f ++ instruction.Jump e ∷ g)) e1
    ∙ append_assoc base test (z ∷ (f ++ instruction.Jump e ∷ g))
    ∙ ap (λ i. base ++ (test ++ instruction.Zero i ∷ (f ++ instruction.Jump e ∷ g))) r'
    ∙ ap (λ i. base ++ (test ++ instruction.Zero (q + length (first q) + 1) ∷ (f ++ instruction.Jump i ∷ g))) e'
    ∙ ap (λ i. base ++ (test ++ instruction.Zero (q + length (first q) + 1) ∷ (first i ++ instruction.Jump (q + length (first q) + 1 + length (second (q + length (first q) + 1))) ∷ g))) here
    ∙ ap (λ i. base ++ (test ++ instruction.Zero (q + length (first q) + 1) ∷ (first q ++ instruction.Jump (q + length (first q) + 1 + length (second (q + length (first q) + 1))) ∷ second i))) there

-- a loop
pub patch_loop : (c0 c1 c2 c3 c4 c5 test turn : List Instruction) (body : ℕ → List Instruction) (x : Instruction) (h n end : ℕ) → h ≡ length c0 → c1 ≡ c0 ++ test → n ≡ length c1 → c2 ≡ c1 ++ x ∷ [] → c3 ≡ c2 ++ turn → c4 ≡ c3 ++ body (length c3) →
    c5 ≡ c4 ++ instruction.Jump h ∷ [] → end ≡ length c5 → slice_set c5 n (instruction.Zero end) ≡ c0 ++ loop_code (length c0) test turn body
patch_loop c0 c1 c2 c3 c4 c5 test turn body x h n end e0 e1 hn e2 e3 e4 e5 he =
    let b = length c0 + length test + 1 + length turn in
    let f = body (length c3) in
    let l1 = ap (λ l. length l) e1 ∙ length-append c0 test in
    let l2 = ap (λ l. length l) e2 ∙ length-append c1 (x ∷ []) in
    let l3 = ap (λ l. length l) e3 ∙ length-append c2 turn in
    let l4 = ap (λ l. length l) e4 ∙ length-append c3 f in
    let l5 = ap (λ l. length l) e5 ∙ length-append c4 (instruction.Jump h ∷ []) in
    let here : length c3 ≡ b = omega (arith, l1, l2, l3) in
    let lf : length f ≡ length (body b) = ap (λ i. length (body i)) here in
    let exit : end ≡ b + length (body b) + 1 = omega (arith, he, l5, l4, here, lf) in
    let tail = λ (i : ℕ). instruction.Jump i ∷ [] in
    let all : c5 ≡ (((c1 ++ x ∷ []) ++ turn) ++ f) ++ tail h = e5 ∙ ap (λ l. l ++ tail h) (e4 ∙ ap (λ l. l ++ f) (e3 ∙ ap (λ l. l ++ turn) e2)) in
    let flat : (((c1 ++ x ∷ []) ++ turn) ++ f) ++ tail h ≡ c1 ++ x ∷ (turn ++ (f ++ tail h)) = simp append_assoc in
    set_at c5 c1 (turn ++ (f ++ tail h)) x (instruction.Zero end) n (all ∙ flat) hn
    ∙ ap (λ l. l ++ instruction.Zero end ∷ (turn ++ (f ++ tail h))) e1
    ∙ append_assoc c0 test (instruction.Zero end ∷ (turn ++ (f ++ tail h)))
    ∙ ap (λ i. c0 ++ (test ++ instruction.Zero i ∷ (turn ++ (f ++ tail h)))) exit
    ∙ ap (λ i. c0 ++ (test ++ instruction.Zero (b + length (body b) + 1) ∷ (turn ++ (body i ++ tail h)))) here
    ∙ ap (λ i. c0 ++ (test ++ instruction.Zero (b + length (body b) + 1) ∷ (turn ++ (body b ++ tail i)))) e0

-- a fork
pub patch_fork : (base c1 c2 c3 c4 c5 c6 c7 : List Instruction) (a : Around) (j f w g first second end : ℕ) (x1 x2 : Instruction) → f ≡ length base → c1 ≡ base ++ instruction.Fork j (f + 2) ∷ [] → first ≡ length c1 → c2 ≡ c1 ++ x1 ∷ [] → c3 ≡ c2 ++ wait_code (length c2) a →
    w ≡ length c2 + length (checks a) + 1 → g ≡ length c3 → c4 ≡ c3 ++ instruction.Again j (g + 2) ∷ [] → second ≡ length c4 → c5 ≡ c4 ++ x2 ∷ [] → c6 ≡ c5 ++ checks a → c7 ≡ c6 ++ instruction.Pause w ∷ [] → end ≡ length c7 →
    slice_set (slice_set c7 first (instruction.Jump end)) second (instruction.Jump end) ≡ base ++ fork_code j (length base) a
patch_fork base c1 c2 c3 c4 c5 c6 c7 a j f w g first second end x1 x2 hf e1 h1 e2 e3 hw hg e4 h2 e5 e6 e7 he =
    let q = length base in
    let ch = checks a in
    let c = length ch in
    let wake = q + 1 + 1 + c + 1 in
    let z = length c2 + length ch + 1 in
    let pr = prologue z a in
    let wait = ch ++ instruction.Pause z ∷ pr in
    let l1 = ap (λ l. length l) e1 ∙ length-append base (instruction.Fork j (f + 2) ∷ []) in
    let l2 = ap (λ l. length l) e2 ∙ length-append c1 (x1 ∷ []) in
    let l3 = ap (λ l. length l) e3 ∙ length-append c2 wait in
    let lw = length-append ch (instruction.Pause z ∷ pr) in
    let l4 = ap (λ l. length l) e4 ∙ length-append c3 (instruction.Again j (g + 2) ∷ []) in
    let l5 = ap (λ l. length l) e5 ∙ length-append c4 (x2 ∷ []) in
    let l6 = ap (λ l. length l) e6 ∙ length-append c5 ch in
    let l7 = ap (λ l. length l) e7 ∙ length-append c6 (instruction.Pause w ∷ []) in
    let here : z ≡ wake = omega (arith, l1, l2) in
    let lp : length pr ≡ length (prologue wake a) = ap (λ i. length (prologue i a)) here in
    let to1 : f + 2 ≡ q + 1 + 1 = omega (arith, hf) in
    let w' : w ≡ wake = hw ∙ here in
    let g' : g ≡ wake + length (prologue wake a) = omega (arith, hg, l3, lw, here, lp) in
    let to2 : g + 2 ≡ wake + length (prologue wake a) + 1 + 1 = omega (arith, g') in
    let out : end ≡ wake + length (prologue wake a) + 1 + 1 + c + 1 = omega (arith, he, l7, l6, l5, l4, l3, lw, here, lp) in
    let pause = instruction.Pause w ∷ [] in
    let fork = instruction.Fork j (f + 2) in
    let again = instruction.Again j (g + 2) in
    let jump = instruction.Jump end in
    let same : wait ≡ ch ++ instruction.Pause w ∷ pr = ap (λ i. ch ++ instruction.Pause i ∷ pr) (sym hw) in
    let waited : c3 ≡ ((c2 ++ ch) ++ pause) ++ pr = e3 ∙ ap (λ l. c2 ++ l) same ∙ sym (append_assoc c2 ch (instruction.Pause w ∷ pr)) ∙ sym (append_assoc (c2 ++ ch) pause pr) in
    let all : c7 ≡ (((((((c1 ++ x1 ∷ []) ++ ch) ++ pause) ++ pr) ++ again ∷ []) ++ x2 ∷ []) ++ ch) ++ pause =
    e7 ∙ ap (λ l. l ++ pause) (e6 ∙ ap (λ l. l ++ ch) (e5 ∙ ap (λ l. l ++ x2 ∷ []) (e4 ∙ ap (λ l. l ++ again ∷ []) (waited ∙ ap (λ l. ((l ++ ch) ++ pause) ++ pr) e2)))) in
    let before = ch ++ instruction.Pause w ∷ (pr ++ again ∷ []) in
    let flat : (((((((c1 ++ x1 ∷ []) ++ ch) ++ pause) ++ pr) ++ again ∷ []) ++ x2 ∷ []) ++ ch) ++ pause ≡ c1 ++ x1 ∷ (before ++ x2 ∷ (ch ++ pause)) = simp append_assoc in
    let once = set_at c7 c1 (before ++ x2 ∷ (ch ++ pause)) x1 jump first (all ∙ flat) h1 in
    let apart : c1 ++ jump ∷ (before ++ x2 ∷ (ch ++ pause)) ≡ (c1 ++ jump ∷ before) ++ x2 ∷ (ch ++ pause) = sym (append_assoc c1 (jump ∷ before) (x2 ∷ (ch ++ pause))) in
    let lb : length before ≡ c + 1 + length pr + 1 = omega (arith, length-append ch (instruction.Pause w ∷ (pr ++ again ∷ [])), length-append pr (again ∷ [])) in
    let long : second ≡ length (c1 ++ jump ∷ before) = omega (arith, h2, l4, l3, lw, l2, lb, length-append c1 (jump ∷ before)) in
    let whole = λ (to1 to2 w end : ℕ) (pr : List Instruction). instruction.Fork j to1 ∷ instruction.Jump end ∷ (ch ++ instruction.Pause w ∷ (pr ++ instruction.Again j to2 ∷ instruction.Jump end ∷ (ch ++ instruction.Pause w ∷ []))) in
    let together : (((base ++ fork ∷ []) ++ jump ∷ before) ++ jump ∷ (ch ++ pause)) ≡ base ++ whole (f + 2) (g + 2) w end pr = simp append_assoc in
    set_at (slice_set c7 first jump) (c1 ++ jump ∷ before) (ch ++ pause) x2 jump second (once ∙ apart) long
    ∙ ap (λ l. (l ++ jump ∷ before) ++ jump ∷ (ch ++ pause)) e1
    ∙ together
    ∙ ap (λ i. base ++ whole i (g + 2) w end pr) to1
    ∙ ap (λ i. base ++ whole (q + 1 + 1) i w end pr) to2
    ∙ ap (λ i. base ++ whole (q + 1 + 1) (wake + length (prologue wake a) + 1 + 1) i end pr) w'
    ∙ ap (λ i. base ++ whole (q + 1 + 1) (wake + length (prologue wake a) + 1 + 1) wake i pr) out
    ∙ ap (λ i. base ++ whole (q + 1 + 1) (wake + length (prologue wake a) + 1 + 1) wake (wake + length (prologue wake a) + 1 + 1 + c + 1) (prologue i a)) here

-- an abort whose exit was counted beforehand
pub abort_written : (ts : List PlainThread) (base c1 c2 : List Instruction) (weak immediate : Bool) (e : Expr) (x : Stmt) (a : Around) (flag exit : ℕ) → flag ≡ weaks a → c1 ≡ base ++ enter_code weak immediate flag exit (expression_code (length base) e) → c2 ≡ c1 ++ statement_code ts (InAbort weak e exit a) (length c1) x → exit ≡ length c2 →
    c2 ≡ base ++ statement_code ts a (length base) (Enter weak immediate e x)
abort_written ts base c1 c2 weak immediate e x a flag exit hf e1 e2 he =
    let p = length base in
    let test = expression_code p e in
    let plain = enter_code weak immediate (weaks a) 0 test in
    let pre = enter_code weak immediate flag exit test in
    let q = p + length plain in
    let body = statement_code ts (InAbort weak e exit a) (length c1) x in
    let l1 = ap (λ l. length l) e1 ∙ length-append base pre in
    let l2 = ap (λ l. length l) e2 ∙ length-append c1 body in
    let same : length pre ≡ length plain = enter_length weak immediate flag (weaks a) exit 0 test in
    let here : length c1 ≡ q = omega (arith, l1, same) in
    let long : length body ≡ length (statement_code ts (InAbort weak e 0 a) q x) = alike_length ts x (InAbort weak e exit a) (InAbort weak e 0 a) (length c1) q here (refl, refl, alike_self a) in
    let out : exit ≡ q + length (statement_code ts (InAbort weak e 0 a) q x) = omega (arith, he, l2, here, long) in
    e2 ∙ ap (λ l. l ++ body) e1 ∙ append_assoc base pre body
    ∙ ap (λ i. base ++ (enter_code weak immediate i exit test ++ body)) hf
    ∙ ap (λ i. base ++ (enter_code weak immediate (weaks a) exit test ++ statement_code ts (InAbort weak e exit a) i x)) here
    ∙ ap (λ i. base ++ (enter_code weak immediate (weaks a) i test ++ statement_code ts (InAbort weak e i a) q x)) out
