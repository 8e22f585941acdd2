-- The blocks that are written, one after the other.
use Rattle.std.proofs.Common.{◌≡◌, ℕ, zero, suc, ◌+◌, ◌<◌, List, [], ◌∷◌, ◌++◌, length, map, take, get_or, refl, ap, sym, ◌∙◌, arith, pos}
use Rattle.std.proofs.lemmas.List.{take_more, length-map, length-take}
use Rattle.forec_kernel.specs.Terms.{Stmt}
use Rattle.forec_kernel.specs.Plain.{stmt}
use Rattle.forec_kernel.specs.Shapes.{plain_kernel, plain_thread}
use Rattle.forec_kernel.specs.Values.{function_words}
use Rattle.forec_kernel.specs.Texts.{params_in, words_in}
use Rattle.forec_kernel.specs.declared.shape.KernelParts.{KernelParts}
use Rattle.forec_kernel.specs.declared.shape.ThreadShape.{ThreadShape}
use Rattle.forec_kernel.specs.declared.shape.FunctionShape.{FunctionShape}
use Rattle.forec_kernel.specs.declared.terms.Statement.{Statement}
use Rattle.thread_code.specs.declared.instruction.Block.{Block}
use Rattle.thread_code.specs.declared.instruction.Instruction.TheVariants as instruction
use Rattle.thread_code.specs.Plain.{PlainBlock, plain_block}
use Rattle.code_gen.specs.Statements.{Outside, statement_code}
use Rattle.code_gen.specs.Blocks.{body_block, thread_block, function_block, blocks_from, counters_in, flags_in}

blocks_append : (block : ℕ → Stmt → PlainBlock) (n : ℕ) (xs : List Stmt) (y : Stmt) → blocks_from block n (xs ++ y ∷ []) ≡ blocks_from block n xs ++ block (n + length xs) y ∷ []
blocks_append block n [] y = let e : n ≡ n + 0 = omega arith in ap (λ i. block i y ∷ []) e
blocks_append block n (x ∷ xs) y =
    let e : n + 1 + length xs ≡ n + suc (length xs) = omega arith in
    ap (λ l. block n x ∷ l) (blocks_append block (n + 1) xs y ∙ ap (λ i. blocks_from block (n + 1) xs ++ block i y ∷ []) e)

map_append : (xs : List Statement) (y : Statement) → map stmt (xs ++ y ∷ []) ≡ map stmt xs ++ stmt y ∷ []
map_append [] y = refl
map_append (x ∷ xs) y = ap (λ l. stmt x ∷ l) (map_append xs y)

blocks_end : (xs : List Block) (b : Block) → map plain_block (xs ++ b ∷ []) ≡ map plain_block xs ++ plain_block b ∷ []
blocks_end [] b = refl
blocks_end (x ∷ xs) b = ap (λ l. plain_block x ∷ l) (blocks_end xs b)

-- one block more
blocks_more : (block : ℕ → Stmt → PlainBlock) (bodies : List Statement) (i : ℕ) (x : Statement) → i < length bodies → x ≡ get_or bodies i x → blocks_from block 0 (map stmt (take (i + 1) bodies)) ≡ blocks_from block 0 (map stmt (take i bodies)) ++ block i (stmt x) ∷ []
blocks_more block bodies i x lt h =
    let long : 0 + length (map stmt (take i bodies)) ≡ i = omega (arith, length-map (take i bodies) stmt, length-take i bodies, lt) in
    ap (λ l. blocks_from block 0 (map stmt l)) (take_more bodies i x lt ∙ ap (λ y. take i bodies ++ y ∷ []) (sym h))
    ∙ ap (blocks_from block 0) (map_append (take i bodies) x)
    ∙ blocks_append block 0 (map stmt (take i bodies)) (stmt x)
    ∙ ap (λ n. blocks_from block 0 (map stmt (take i bodies)) ++ block n (stmt x) ∷ []) long

kept : (block : ℕ → Stmt → PlainBlock) (bodies : List Statement) (i : ℕ) (x : Statement) (done more : List Block) (b : Block) → i < length bodies → x ≡ get_or bodies i x → map plain_block done ≡ blocks_from block 0 (map stmt (take i bodies)) → more ≡ done ++ b ∷ [] → plain_block b ≡ block i (stmt x) →
    map plain_block more ≡ blocks_from block 0 (map stmt (take (i + 1) bodies))
kept block bodies i x done more b lt h before pushed is =
    ap (map plain_block) pushed ∙ blocks_end done b ∙ ap (λ l. l ++ plain_block b ∷ []) before ∙ ap (λ y. blocks_from block 0 (map stmt (take i bodies)) ++ y ∷ []) is ∙ sym (blocks_more block bodies i x lt h)

params_read : (ts : List ThreadShape) (t : ℕ) (d : ThreadShape) → t < length ts → params_in (map plain_thread ts) t ≡ (get_or ts t d).params
params_read [] t d lt = absurd (omega (arith, lt))
params_read (x ∷ ts) zero d lt = refl
params_read (x ∷ ts) (suc t) d lt = params_read ts t d (omega (arith, lt))

words_read : (ts : List ThreadShape) (t : ℕ) (d : ThreadShape) → t < length ts → words_in (map plain_thread ts) t ≡ (get_or ts t d).words
words_read [] t d lt = absurd (omega (arith, lt))
words_read (x ∷ ts) zero d lt = refl
words_read (x ∷ ts) (suc t) d lt = words_read ts t d (omega (arith, lt))

function_read : (fs : List FunctionShape) (f : ℕ) (d : FunctionShape) → f < length fs → function_words fs f ≡ (get_or fs f d).words
function_read [] f d lt = absurd (omega (arith, lt))
function_read (x ∷ fs) zero d lt = refl
function_read (x ∷ fs) (suc f) d lt = function_read fs f d (omega (arith, lt))

same_default : (fs : List FunctionShape) (f : ℕ) (d e : FunctionShape) → f < length fs → get_or fs f d ≡ get_or fs f e
same_default [] f d e lt = absurd (omega (arith, lt))
same_default (x ∷ fs) zero d e lt = refl
same_default (x ∷ fs) (suc f) d e lt = same_default fs f d e (omega (arith, lt))

module _ (k : KernelParts) where
  pub thread_kept : (i : ℕ) (x : Statement) (s : ThreadShape) (ts : List ThreadShape) (done more : List Block) (b : Block) → i < length k.threads.items → length k.threads.items ≡ length k.shape.threads.items → x ≡ get_or k.threads.items i x → s ≡ get_or k.shape.threads.items i s → ts ≡ k.shape.threads.items →
      map plain_block done ≡ blocks_from (thread_block (plain_kernel k)) 0 (map stmt (take i k.threads.items)) → more ≡ done ++ b ∷ [] →
      plain_block b ≡ body_block (statement_code (map plain_thread ts) Outside 0 (stmt x) ++ instruction.End ∷ []) s.params s.words (counters_in (stmt x)) (flags_in (stmt x)) →
      map plain_block more ≡ blocks_from (thread_block (plain_kernel k)) 0 (map stmt (take (i + 1) k.threads.items))
  thread_kept i x s ts done more b lt long hx hs ht before pushed is =
      let lt' : i < length k.shape.threads.items = omega (arith, lt, long) in
      let steps = λ (l : List ThreadShape). statement_code (map plain_thread l) Outside 0 (stmt x) ++ instruction.End ∷ [] in
      let params : s.params ≡ params_in (map plain_thread k.shape.threads.items) i = ap (λ (y : ThreadShape). y.params) hs ∙ sym (params_read k.shape.threads.items i s lt') in
      let words : s.words ≡ words_in (map plain_thread k.shape.threads.items) i = ap (λ (y : ThreadShape). y.words) hs ∙ sym (words_read k.shape.threads.items i s lt') in
      kept (thread_block (plain_kernel k)) k.threads.items i x done more b lt hx before pushed
      (is ∙ ap (λ l. body_block (steps l) s.params s.words (counters_in (stmt x)) (flags_in (stmt x))) ht
      ∙ ap (λ n. body_block (steps k.shape.threads.items) n s.words (counters_in (stmt x)) (flags_in (stmt x))) params
      ∙ ap (λ n. body_block (steps k.shape.threads.items) (params_in (map plain_thread k.shape.threads.items) i) n (counters_in (stmt x)) (flags_in (stmt x))) words)

  pub function_kept : (i : ℕ) (x : Statement) (s : FunctionShape) (ts : List ThreadShape) (done more : List Block) (b : Block) → i < length k.functions.items → length k.functions.items ≡ length k.shape.functions.items → x ≡ get_or k.functions.items i x → s ≡ get_or k.shape.functions.items i s → ts ≡ k.shape.threads.items →
      map plain_block done ≡ blocks_from (function_block (plain_kernel k)) 0 (map stmt (take i k.functions.items)) → more ≡ done ++ b ∷ [] →
      plain_block b ≡ body_block (statement_code (map plain_thread ts) Outside 0 (stmt x) ++ instruction.Quiet (pos 0) ∷ instruction.Return ∷ []) s.params s.words (counters_in (stmt x)) 0 →
      map plain_block more ≡ blocks_from (function_block (plain_kernel k)) 0 (map stmt (take (i + 1) k.functions.items))
  function_kept i x s ts done more b lt long hx hs ht before pushed is =
      let lt' : i < length k.shape.functions.items = omega (arith, lt, long) in
      let fs = k.shape.functions.items in
      let steps = λ (l : List ThreadShape). statement_code (map plain_thread l) Outside 0 (stmt x) ++ instruction.Quiet (pos 0) ∷ instruction.Return ∷ [] in
      let blank : FunctionShape = record { params = 0; words = 0 } in
      let params : s.params ≡ (get_or fs i blank).params = ap (λ (y : FunctionShape). y.params) (hs ∙ same_default fs i s blank lt') in
      let words : s.words ≡ function_words fs i = ap (λ (y : FunctionShape). y.words) hs ∙ sym (function_read fs i s lt') in
      kept (function_block (plain_kernel k)) k.functions.items i x done more b lt hx before pushed
      (is ∙ ap (λ l. body_block (steps l) s.params s.words (counters_in (stmt x)) 0) ht
      ∙ ap (λ n. body_block (steps k.shape.threads.items) n s.words (counters_in (stmt x)) 0) params
      ∙ ap (λ n. body_block (steps k.shape.threads.items) (get_or fs i blank).params n (counters_in (stmt x)) 0) words)
