-- Each instruction of an expression's code is fine.
use Rattle.std.proofs.Common.{◌≡◌, ℕ, ◌+◌, ◌-◌, ◌<◌, List, [], ◌∷◌, ◌++◌, length, Option, Some, true, refl, sym, ap, ◌∙◌, subst, arith, length-append}
use Rattle.std.specs.Prelude.{pos, slice_get}
use Rattle.forec_kernel.specs.Terms.{Expr, Num, Local, LocalAt, Var, SharedAt, TableAt, Un, Bin, And, Or, Choose, Call, Exprs, no_exprs, more_exprs, count_exprs}
use Rattle.forec_kernel.specs.Shapes.{PlainKernel}
use Rattle.forec_kernel.specs.WellFormed as kernel
use Rattle.forec_kernel.specs.WellFormed.{FineExpr, FineExprs}
use Rattle.thread_code.specs.declared.instruction.Instruction.{Instruction}
use Rattle.thread_code.specs.declared.instruction.Instruction.TheVariants as instruction
use Rattle.thread_code.specs.Plain.{PlainBlock}
use Rattle.thread_code.specs.Valid.{BlockScope, HasDepth, IsFine, uses_for, costs}
use Rattle.thread_code.proofs.AllFine.{AllFine, fine_join}
use Rattle.code_gen.specs.Expressions.{expression_code, expressions_code}
use Rattle.code_gen.specs.Blocks.{function_block, kernel_code}
use Rattle.code_gen.proofs.BlockLemmas.{blocks_length}
use Rattle.code_gen.proofs.Depths.{expression_depths, expressions_depths, same_length, same_lengths}
use Rattle.code_gen.proofs.Stretch.{HasAt, has_front, has_back}

-- what stands after so many elements
pub back_at : {A : Type 0} → (s : List A) (p : ℕ) (a b : List A) (n : ℕ) → length a ≡ n → HasAt s p (a ++ b) → HasAt s (p + n) b
back_at s p a b n e h = subst (λ i. HasAt s (p + i) b) e (has_back s p a b h)

-- the first instruction of an expression's code counts a unit
pub first_costs : (s : List Instruction) (x : Expr) (p : ℕ) → HasAt s p (expression_code p x) → costs (slice_get s p) ≡ true
first_costs s (Num n) p h = ap costs h.0
first_costs s (Local x) p h = ap costs h.0
first_costs s (LocalAt x n i place) p h = first_costs s i p (has_front s p (expression_code p i) _ h)
first_costs s (Var v) p h = ap costs h.0
first_costs s (SharedAt v n i place) p h = first_costs s i p (has_front s p (expression_code p i) _ h)
first_costs s (TableAt t i place) p h = first_costs s i p (has_front s p (expression_code p i) _ h)
first_costs s (Un op a) p h = first_costs s a p (has_front s p (expression_code p a) _ h)
first_costs s (Bin op a b place) p h = first_costs s a p (has_front s p (expression_code p a) _ h)
first_costs s (And a b) p h = first_costs s a p (has_front s p (expression_code p a) _ h)
first_costs s (Or a b) p h = first_costs s a p (has_front s p (expression_code p a) _ h)
first_costs s (Choose t a b) p h = first_costs s t p (has_front s p (expression_code p t) _ h)
first_costs s (Call f no_exprs) p h = ap costs h.0
first_costs s (Call f (more_exprs x rest)) p h = first_costs s x p (has_front s p (expression_code p x) _ (has_front s p (expressions_code p (more_exprs x rest)) _ h))

module _ (depths : List ℕ) where
  pub lead_to : (p q d e : ℕ) → p ≡ q → d ≡ e → HasDepth depths p d → HasDepth depths q e
  lead_to p q d e hp hd h = subst (λ n. HasDepth depths n e) hp (subst (λ n. HasDepth depths p n) hd h)

  -- the first depth
  mutual
    pub starts : (x : Expr) (d p : ℕ) → HasAt depths p (expression_depths d x) → HasDepth depths p d
    starts (Num n) d p h = h.0
    starts (Local x) d p h = h.0
    starts (LocalAt x n i place) d p h = starts i d p (has_front depths p (expression_depths d i) _ h)
    starts (Var v) d p h = h.0
    starts (SharedAt v n i place) d p h = starts i d p (has_front depths p (expression_depths d i) _ h)
    starts (TableAt t i place) d p h = starts i d p (has_front depths p (expression_depths d i) _ h)
    starts (Un op a) d p h = starts a d p (has_front depths p (expression_depths d a) _ h)
    starts (Bin op a b place) d p h = starts a d p (has_front depths p (expression_depths d a) _ h)
    starts (And a b) d p h = starts a d p (has_front depths p (expression_depths d a) _ h)
    starts (Or a b) d p h = starts a d p (has_front depths p (expression_depths d a) _ h)
    starts (Choose t a b) d p h = starts t d p (has_front depths p (expression_depths d t) _ h)
    starts (Call f args) d p h = all_starts args d p _ h

    -- of several expressions and a depth after them
    pub all_starts : (xs : Exprs) (d p : ℕ) (rest : List ℕ) → HasAt depths p (expressions_depths d xs ++ (d + count_exprs xs) ∷ rest) → HasDepth depths p d
    all_starts no_exprs d p rest h = let e : d + 0 ≡ d = omega arith in h.0 ∙ ap Some e
    all_starts (more_exprs x xs) d p rest h = starts x d p (has_front depths p (expression_depths d x) (expressions_depths (d + 1) xs) (has_front depths p (expressions_depths d (more_exprs x xs)) _ h))

module _ (k : PlainKernel) (thread : Option ℕ) (b : PlainBlock) (depths : List ℕ) where
  abbrev pub scope : BlockScope
  scope = record { code = kernel_code k; thread = thread }

  abbrev pub z : kernel.TermScope
  z = record { kernel = k; words = b.words; uses = uses_for (kernel_code k) thread }

  abbrev pub Fine : ℕ → List Instruction → List ℕ → Type 0
  Fine = AllFine scope b depths

  -- one instruction at the end
  then_one : (p : ℕ) (c : List Instruction) (i : Instruction) (ds : List ℕ) (d : ℕ) → Fine p c ds → IsFine scope b depths (p + length c) d i → Fine p (c ++ i ∷ []) (ds ++ d ∷ [])
  then_one p c i ds d h g = fine_join scope b depths p c (i ∷ []) ds (d ∷ []) h (g, tt)

  -- an index in front of an instruction
  indexed : (x : Expr) (i : Instruction) (d p : ℕ) → HasAt depths p (expression_depths d x ++ (d + 1) ∷ []) → (HasAt depths p (expression_depths d x) → HasDepth depths (p + length (expression_code p x)) (d + 1) → Fine p (expression_code p x) (expression_depths d x)) →
      HasDepth depths (p + length (expression_code p x ++ i ∷ [])) (d + 1) → ((q : ℕ) → HasDepth depths (q + 1) (d + 1) → IsFine scope b depths q (d + 1) i) → Fine p (expression_code p x ++ i ∷ []) (expression_depths d x ++ (d + 1) ∷ [])
  indexed x i d p h ih end fine =
      let cx = expression_code p x in
      let q = p + length cx in
      let here = back_at depths p (expression_depths d x) ((d + 1) ∷ []) (length cx) (same_length x d p) h in
      let len : p + length (cx ++ i ∷ []) ≡ q + 1 = omega (arith, length-append cx (i ∷ [])) in
      then_one p cx i (expression_depths d x) (d + 1) (ih (has_front depths p (expression_depths d x) _ h) here.0) (fine q (lead_to depths _ _ _ _ len refl end))

  -- the right side of `and` and `or`
  both_sides : (x y : Expr) (jump : ℕ → Instruction) (last : Instruction) (d p : ℕ) → ((q to : ℕ) → HasDepth depths (q + 1) d → HasDepth depths to d → IsFine scope b depths q (d + 1) (jump to)) → ((q : ℕ) → HasDepth depths (q + 1) (d + 1) → IsFine scope b depths q d last) →
      (HasAt depths p (expression_depths d x) → HasDepth depths (p + length (expression_code p x)) (d + 1) → Fine p (expression_code p x) (expression_depths d x)) →
      ((q : ℕ) → HasAt depths q (expression_depths d y) → HasDepth depths (q + length (expression_code q y)) (d + 1) → Fine q (expression_code q y) (expression_depths d y)) →
      HasAt depths p (expression_depths d x ++ ((d + 1) ∷ (expression_depths d y ++ (d + 1) ∷ (d + 1) ∷ d ∷ []))) →
      (q r : ℕ) → q ≡ p + length (expression_code p x) + 1 → r ≡ q + length (expression_code q y) → HasDepth depths (r + 1 + 1 + 1) (d + 1) →
      Fine p (expression_code p x ++ (jump (r + 1 + 1) ∷ (expression_code q y ++ instruction.Truth ∷ instruction.Jump (r + 1 + 1 + 1) ∷ last ∷ []))) (expression_depths d x ++ ((d + 1) ∷ (expression_depths d y ++ (d + 1) ∷ (d + 1) ∷ d ∷ [])))
  both_sides x y jump last d p fine_jump fine_last hx hy h q r eq er end =
      let cx = expression_code p x in
      let cy = expression_code q y in
      let j = p + length cx in
      let dx = expression_depths d x in
      let dy = expression_depths d y in
      let tail = (d + 1) ∷ (d + 1) ∷ d ∷ [] in
      let code = instruction.Truth ∷ instruction.Jump (r + 1 + 1 + 1) ∷ last ∷ [] in
      let h1 = back_at depths p dx ((d + 1) ∷ (dy ++ tail)) (length cx) (same_length x d p) h in
      let h2 : HasAt depths q (dy ++ tail) = subst (λ n. HasAt depths n (dy ++ tail)) (sym eq) h1.1 in
      let h3 : HasAt depths r tail = subst (λ n. HasAt depths n tail) (sym er) (back_at depths q dy tail (length cy) (same_length y d q) h2) in
      let start = starts depths y d q (has_front depths q dy tail h2) in
      fine_join scope b depths p cx (jump (r + 1 + 1) ∷ (cy ++ code)) dx ((d + 1) ∷ (dy ++ tail)) (hx (has_front depths p dx _ h) h1.0) (
        fine_jump j (r + 1 + 1) (lead_to depths q (j + 1) d d eq refl start) h3.1.1.0,
        subst (λ n. Fine n (cy ++ code) (dy ++ tail)) eq
            (fine_join scope b depths q cy code dy tail (hy q (has_front depths q dy tail h2) (lead_to depths _ _ _ _ er refl h3.0))
            (subst (λ n. Fine n code tail) er
            ((omega arith, h3.1.0), ((end, λ le. absurd (omega (arith, le))), (fine_last (r + 1 + 1) end, tt))))),
      )

  mutual
    pub expression_fine : (x : Expr) (d p : ℕ) → FineExpr z x → HasAt depths p (expression_depths d x) → HasDepth depths (p + length (expression_code p x)) (d + 1) → Fine p (expression_code p x) (expression_depths d x)
    expression_fine (Num n) d p ok h end = (end, tt)
    expression_fine (Local x) d p ok h end = ((ok, end), tt)
    expression_fine (LocalAt x n i place) d p ok h end =
        let array = ok.0 in
        indexed i (instruction.LoadAt x n place) d p h (λ g e. expression_fine i d p ok.1 g e) end (λ q g. (array.within, omega arith, g))
    expression_fine (Var v) d p ok h end = ((ok, end), tt)
    expression_fine (SharedAt v n i place) d p ok h end =
        let array = ok.0 in
        indexed i (instruction.GetAt v n place) d p h (λ g e. expression_fine i d p ok.1 g e) end (λ q g. (array.used, omega arith, g))
    expression_fine (TableAt t i place) d p ok h end =
        indexed i (instruction.Table t place) d p h (λ g e. expression_fine i d p ok.1 g e) end (λ q g. (ok.0, omega arith, g))
    expression_fine (Un op a) d p ok h end =
        indexed a (instruction.Unary op) d p h (λ g e. expression_fine a d p ok g e) end (λ q g. (omega arith, g))
    expression_fine (Bin op x y place) d p ok h end =
        let cx = expression_code p x in
        let q = p + length cx in
        let cy = expression_code q y in
        let dx = expression_depths d x in
        let dy = expression_depths (d + 1) y in
        let i = instruction.Binary op place in
        let h1 = back_at depths p dx (dy ++ (d + 1 + 1) ∷ []) (length cx) (same_length x d p) h in
        let h2 = back_at depths q dy ((d + 1 + 1) ∷ []) (length cy) (same_length y (d + 1) q) h1 in
        let len : p + length (cx ++ (cy ++ i ∷ [])) ≡ q + length cy + 1 = omega (arith, length-append cx (cy ++ i ∷ []), length-append cy (i ∷ [])) in
        let less : d + 1 ≡ d + 1 + 1 - 1 = omega arith in
        fine_join scope b depths p cx (cy ++ i ∷ []) dx (dy ++ (d + 1 + 1) ∷ [])
        (expression_fine x d p ok.1 (has_front depths p dx _ h) (starts depths y (d + 1) q (has_front depths q dy _ h1)))
        (then_one q cy i dy (d + 1 + 1) (expression_fine y (d + 1) q ok.2 (has_front depths q dy _ h1) h2.0) (ok.0, omega arith, lead_to depths _ _ _ _ len less end))
    expression_fine (And x y) d p ok h end =
        let q = p + length (expression_code p x) + 1 in
        let r = q + length (expression_code q y) in
        let tail = instruction.Truth ∷ instruction.Jump (r + 1 + 1 + 1) ∷ instruction.Quiet (pos 0) ∷ [] in
        let len : p + length (expression_code p (And x y)) ≡ r + 1 + 1 + 1 = omega (arith, length-append (expression_code p x) (instruction.Zero (r + 1 + 1) ∷ (expression_code q y ++ tail)), length-append (expression_code q y) tail) in
        let less : d ≡ d + 1 - 1 = omega arith in
        both_sides x y (λ to. instruction.Zero to) (instruction.Quiet (pos 0)) d p (λ q to g e. (omega arith, lead_to depths _ _ _ _ refl less g, lead_to depths _ _ _ _ refl less e)) (λ q g. g)
        (λ g e. expression_fine x d p ok.0 g e) (λ q g e. expression_fine y d q ok.1 g e) h q r refl refl (lead_to depths _ _ _ _ len refl end)
    expression_fine (Or x y) d p ok h end =
        let q = p + length (expression_code p x) + 1 in
        let r = q + length (expression_code q y) in
        let tail = instruction.Truth ∷ instruction.Jump (r + 1 + 1 + 1) ∷ instruction.Quiet (pos 1) ∷ [] in
        let len : p + length (expression_code p (Or x y)) ≡ r + 1 + 1 + 1 = omega (arith, length-append (expression_code p x) (instruction.NonZero (r + 1 + 1) ∷ (expression_code q y ++ tail)), length-append (expression_code q y) tail) in
        let less : d ≡ d + 1 - 1 = omega arith in
        both_sides x y (λ to. instruction.NonZero to) (instruction.Quiet (pos 1)) d p (λ q to g e. (omega arith, lead_to depths _ _ _ _ refl less g, lead_to depths _ _ _ _ refl less e)) (λ q g. g)
        (λ g e. expression_fine x d p ok.0 g e) (λ q g e. expression_fine y d q ok.1 g e) h q r refl refl (lead_to depths _ _ _ _ len refl end)
    expression_fine (Choose t x y) d p ok h end =
        let ct = expression_code p t in
        let j = p + length ct in
        let q = j + 1 in
        let cx = expression_code q x in
        let r = q + length cx + 1 in
        let cy = expression_code r y in
        let jump = instruction.Jump (r + length cy) in
        let dt = expression_depths d t in
        let dx = expression_depths d x in
        let dy = expression_depths d y in
        let h1 = back_at depths p dt ((d + 1) ∷ (dx ++ (d + 1) ∷ dy)) (length ct) (same_length t d p) h in
        let h2 = back_at depths q dx ((d + 1) ∷ dy) (length cx) (same_length x d q) h1.1 in
        let len : p + length (expression_code p (Choose t x y)) ≡ r + length cy = omega (arith, length-append ct (instruction.Zero r ∷ (cx ++ jump ∷ cy)), length-append cx (jump ∷ cy)) in
        let less : d ≡ d + 1 - 1 = omega arith in
        let end' : HasDepth depths (r + length cy) (d + 1) = lead_to depths _ _ _ _ len refl end in
        fine_join scope b depths p ct (instruction.Zero r ∷ (cx ++ jump ∷ cy)) dt ((d + 1) ∷ (dx ++ (d + 1) ∷ dy)) (expression_fine t d p ok.0 (has_front depths p dt _ h) h1.0) (
          (omega arith, lead_to depths _ _ _ _ refl less (starts depths x d q (has_front depths q dx _ h1.1)), lead_to depths _ _ _ _ refl less (starts depths y d r h2.1)),
          fine_join scope b depths q cx (jump ∷ cy) dx ((d + 1) ∷ dy) (expression_fine x d q ok.1 (has_front depths q dx _ h1.1) h2.0)
              ((end', λ le. absurd (omega (arith, le))), expression_fine y d r ok.2 h2.1 end'),
        )
    expression_fine (Call f args) d p ok h end =
        let ca = expressions_code p args in
        let q = p + length ca in
        let n = count_exprs args in
        let i = instruction.Call f in
        let ds = expressions_depths d args in
        let h1 = back_at depths p ds ((d + n) ∷ []) (length ca) (same_lengths args d p) h in
        let len : p + length (ca ++ i ∷ []) ≡ q + 1 = omega (arith, length-append ca (i ∷ [])) in
        let named : f < length (kernel_code k).functions = omega (arith, ok.0, blocks_length (function_block k) 0 k.functions) in
        let arity : n ≡ kernel.function_params k f = ok.1 in
        let less : d + 1 ≡ d + n - kernel.function_params k f + 1 = omega (arith, arity) in
        then_one p ca i ds (d + n) (expressions_fine args d p ok.2 (has_front depths p ds _ h) h1.0) (named, omega (arith, arity), lead_to depths _ _ _ _ len less end)

    pub expressions_fine : (xs : Exprs) (d p : ℕ) → FineExprs z xs → HasAt depths p (expressions_depths d xs) → HasDepth depths (p + length (expressions_code p xs)) (d + count_exprs xs) → Fine p (expressions_code p xs) (expressions_depths d xs)
    expressions_fine no_exprs d p ok h end = tt
    expressions_fine (more_exprs x rest) d p ok h end =
        let cx = expression_code p x in
        let q = p + length cx in
        let cs = expressions_code q rest in
        let dx = expression_depths d x in
        let ds = expressions_depths (d + 1) rest in
        let len : p + length (cx ++ cs) ≡ q + length cs = omega (arith, length-append cx cs) in
        let n : d + count_exprs (more_exprs x rest) ≡ d + 1 + count_exprs rest = omega arith in
        let h1 = back_at depths p dx ds (length cx) (same_length x d p) h in
        let end' = lead_to depths _ _ _ _ len n end in
        fine_join scope b depths p cx cs dx ds (expression_fine x d p ok.0 (has_front depths p dx ds h) (start_or_end rest (d + 1) q h1 end'))
        (expressions_fine rest (d + 1) q ok.1 h1 end')
      where
        start_or_end : (xs : Exprs) (d q : ℕ) → HasAt depths q (expressions_depths d xs) → HasDepth depths (q + length (expressions_code q xs)) (d + count_exprs xs) → HasDepth depths q d
        start_or_end no_exprs d q h e = let n : q + 0 ≡ q = omega arith in let m : d + 0 ≡ d = omega arith in lead_to depths _ _ _ _ n m e
        start_or_end (more_exprs y ys) d q h e = starts depths y d q (has_front depths q (expression_depths d y) _ h)
