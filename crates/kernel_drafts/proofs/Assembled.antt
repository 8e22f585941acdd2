-- Steps of the loops that put a kernel together.
use Rattle.std.proofs.Common.{ℕ, zero, suc, ◌+◌, ◌-◌, ◌^◌, ◌<◌, ◌≤◌, ◌≡◌, ◌∙◌, min, max, sum, sym, ap, refl, subst, ℤ, pos, Option, Some, None, List, [], ◌∷◌, ◌++◌, append_assoc, length, length-drop, map, take, drop, get_or, arith}
use Rattle.std.proofs.lemmas.List.{map-append, drop-map, take-map}
use Rattle.std.specs.Borrow.{Bor}
use Rattle.std.specs.Prelude.{slice_get}
use Rattle.forec_tree.specs.declared.tree.Global.{Global}
use Rattle.forec_tree.specs.declared.tree.Number.{Number}
use Rattle.forec_tree.specs.Terms.{Text, PlainFunction}
use Rattle.forec_tree.specs.Pauses.{within}
use Rattle.forec_kernel.specs.Terms.{Stmt}
use Rattle.forec_kernel.specs.Plain.{stmt}
use Rattle.forec_kernel.specs.declared.shape.ThreadShape.{ThreadShape}
use Rattle.forec_kernel.specs.Shapes.{PlainThread, plain_thread}
use Rattle.std.specs.declared.vec.Vec.{Vec}
use Rattle.std.specs.declared.alloc.Global.{Global as Alloc}
use Rattle.lower_names.specs.declared.state.State.{State}
use Rattle.lower_names.specs.declared.state.Thread.{Thread}
use Rattle.text_kernel.specs.Bindings.{first_value}
use Rattle.text_kernel.specs.Lowering.{NextNumbers, as_one, inlined_body}
use Rattle.text_kernel.specs.Kernels.{padded, lowered_function_body}
use Rattle.lower_names.specs.Landings.{called_within}
use Rattle.lower_names.specs.Views.{Bare, bare, of_thread, next_of, pending_threads, threads_of, Does}
use Rattle.kernel_drafts.specs.declared.expand.Bodies.{Bodies}
use Rattle.kernel_drafts.specs.Drafts.{bare_shapes, named_at, part_at, marked_from, Expanded}
use Rattle.text_kernel.specs.Items.{globals_of}
use Rattle.kernel_drafts.specs.Marks.{row_uses, shape_uses, with_uses, MarksOf}
use Rattle.kernel_drafts.proofs.DraftLemmas.{marks_uses}
use Rattle.lower_names.proofs.Statements.{drop_next}

-- ---- int functions

from_params : ℕ → NextNumbers
from_params n = record { slot = n; thread = 1; par = 0 }

-- where nothing is put in place
alone : (text : Text) (names : List (List ℕ)) (f : PlainFunction) (n : NextNumbers) → n ≡ (let m : NextNumbers = record { slot = length f.params; thread = 1; par = 0 } in m) →
    inlined_body text (called_within text 0) (Some f) 0 0 n ≡ as_one (lowered_function_body text names f)
unfolding within
alone text names f n e = ap (inlined_body text (called_within text 0) (Some f) 0 0) e

begins : (s : State) (p : ℕ) → s.slot ≡ p → s.thread ≡ 1 → s.par ≡ 0 → next_of s ≡ (let m : NextNumbers = record { slot = p; thread = 1; par = 0 } in m)
begins s p e t q =
    let at = λ (a : ℕ) (b : ℕ) (c : ℕ). let m : NextNumbers = record { slot = a; thread = b; par = c } in m in
    ap (λ x. at x s.thread s.par) e ∙ (ap (λ x. at p x s.par) t ∙ ap (at p 1) q)

pub translated : (text : Text) (names : List (List ℕ)) (f : PlainFunction) (k : Stmt) (old new : State) → old.slot ≡ length f.params → old.thread ≡ 1 → old.par ≡ 0 →
    Does text (inlined_body text (called_within text 0) (Some f) 0 0 (next_of old)) k old new → Does text (as_one (lowered_function_body text names f)) k old new
translated text names f k old new s t p d = subst (λ l. Does text l k old new) (alone text names f (next_of old) (begins old (length f.params) s t p)) d

-- thread 0 and those below it
pub expanded : (text : Text) (deep first : ℕ) (b : Bodies) (old new : State) → deep ≡ length text → old.slot ≡ 0 → old.thread ≡ 1 → old.par ≡ 0 → old.pending.items ≡ [] →
    Does text (called_within text deep first 0 0 (next_of old)) (stmt b.main) old new → b.words ≡ new.slot → map of_thread b.threads.items ≡ threads_of text new → Expanded text first b
expanded text deep first b old new e s t p none d w threads =
    let n : NextNumbers = record { slot = 0; thread = 1; par = 0 } in
    let root : Does text (called_within text (length text) first 0 0 n) (stmt b.main) old new =
    subst (λ x. Does text (called_within text (length text) first 0 0 x) (stmt b.main) old new) (begins old 0 s t p) (subst (λ x. Does text (called_within text x first 0 0 (next_of old)) (stmt b.main) old new) e d) in
    record {
      main = root.is;
      words = w ∙ ap (λ (x : NextNumbers). x.slot) root.next;
      threads = threads ∙ (root.threads ∙ ap (λ l. pending_threads text l ++ map bare (called_within text (length text) first 0 0 n).made) none);
    }

-- ---- threads

pub shape_next : (names : List (List ℕ)) (count : ℕ) (bares : List Bare) (at : ℕ) (b : Bare) (marks : List Rattle.std.proofs.Common.Bool) (rest : List Bare) → MarksOf count (named_at bares at b) marks → drop at bares ≡ b ∷ rest →
    bare_shapes names count bares at (drop at bares) ≡ with_uses names b (marked_from 0 marks) ∷ bare_shapes names count bares (at + 1) rest
shape_next names count bares at b marks rest m e =
    let n : suc at ≡ at + 1 = omega arith in
    ap (bare_shapes names count bares at) e
    ∙ (ap (λ u. with_uses names b u ∷ bare_shapes names count bares (suc at) rest) (sym (marks_uses count (named_at bares at b) marks m))
    ∙ ap (λ i. with_uses names b (marked_from 0 marks) ∷ bare_shapes names count bares i rest) n)

-- one thread more after those that are done
pub shapes_more : (done new : List ThreadShape) (shape : ThreadShape) (x : PlainThread) (now next whole : List PlainThread) → new ≡ done ++ shape ∷ [] → plain_thread shape ≡ x → now ≡ x ∷ next →
    map plain_thread done ++ now ≡ whole → map plain_thread new ++ next ≡ whole
shapes_more done new shape x now next whole p e n w =
    ap (λ l. map plain_thread l ++ next) p
    ∙ (ap (λ l. l ++ next) (map-append plain_thread done (shape ∷ []))
    ∙ (append_assoc (map plain_thread done) (plain_thread shape ∷ []) next
    ∙ (ap (λ y. map plain_thread done ++ y ∷ next) e ∙ (ap (λ l. map plain_thread done ++ l) (sym n) ∙ w))))

pub rows_more : (rows new_rows : List (Vec Rattle.std.proofs.Common.Bool Alloc)) (shapes new_shapes : List ThreadShape) (row : Vec Rattle.std.proofs.Common.Bool Alloc) (shape : ThreadShape) → new_rows ≡ rows ++ row ∷ [] →
    new_shapes ≡ shapes ++ shape ∷ [] → row_uses row ≡ shape_uses shape → map row_uses rows ≡ map shape_uses shapes → map row_uses new_rows ≡ map shape_uses new_shapes
rows_more rows new_rows shapes new_shapes row shape p q e w =
    ap (map row_uses) p
    ∙ (map-append row_uses rows (row ∷ []) ∙ (ap (λ l. l ++ row_uses row ∷ []) w ∙ (ap (λ u. map shape_uses shapes ++ u ∷ []) e ∙ (sym (map-append shape_uses shapes (shape ∷ [])) ∙ ap (map shape_uses) (sym q)))))

-- ---- constant arrays

pub padded_next : (n i : ℕ) (values : List Number) (v : ℤ) → i < n → v ≡ first_value (drop i values) → padded (n - i) (drop i values) ≡ v ∷ padded (n - (i + 1)) (drop (i + 1) values)
padded_next n i values v l e =
    let d : n - i ≡ suc (n - (i + 1)) = omega (arith, l) in
    let z : i + 1 ≡ suc i = omega arith in
    ap (λ m. padded m (drop i values)) d ∙ (one (n - (i + 1)) i values ∙ (ap (λ w. w ∷ padded (n - (i + 1)) (drop (suc i) values)) (sym e) ∙ ap (λ m. v ∷ padded (n - (i + 1)) (drop m values)) (sym z)))
  where
    one : (m i : ℕ) (values : List Number) → padded (suc m) (drop i values) ≡ first_value (drop i values) ∷ padded m (drop (suc i) values)
    one m zero [] = refl
    one m (suc i) [] = refl
    one m zero (x ∷ xs) = refl
    one m (suc i) (x ∷ xs) = one m i xs

pub globals_next : (arrays : List (Bor Global)) (i : ℕ) (x : Bor Global) → i < length arrays → get_or arrays i x ≡ x → globals_of (drop i arrays) ≡ Rattle.forec_tree.specs.Plain.plain_global x.now ∷ globals_of (drop (i + 1) arrays)
globals_next arrays i x l e = ap globals_of (drop_next arrays i x l e)

-- ---- one more at the end of a list

pub mapped_more : {A B : Type 0} (f : A → B) (done new : List A) (a : A) (b : B) (now next whole : List B) → new ≡ done ++ a ∷ [] → f a ≡ b → now ≡ b ∷ next → map f done ++ now ≡ whole → map f new ++ next ≡ whole
mapped_more f done new a b now next whole p e n w =
    ap (λ l. map f l ++ next) p
    ∙ (ap (λ l. l ++ next) (map-append f done (a ∷ []))
    ∙ (append_assoc (map f done) (f a ∷ []) next ∙ (ap (λ y. map f done ++ y ∷ next) e ∙ (ap (λ l. map f done ++ l) (sym n) ∙ w))))

pub appended_more : {A : Type 0} (done new : List A) (a b : A) (now next whole : List A) → new ≡ done ++ a ∷ [] → a ≡ b → now ≡ b ∷ next → done ++ now ≡ whole → new ++ next ≡ whole
appended_more done new a b now next whole p e n w =
    ap (λ l. l ++ next) p ∙ (append_assoc done (a ∷ []) next ∙ (ap (λ y. done ++ y ∷ next) e ∙ (ap (λ l. done ++ l) (sym n) ∙ w)))

-- ---- names

pub name_at : (names : List (List ℕ)) (id : ℕ) (name : List ℕ) → slice_get names id ≡ Some name → name ≡ get_or names id []
name_at [] id name e = absurd (let q : None ≡ Some name = e in cc)
name_at (x ∷ xs) zero name e = let q : Some x ≡ Some name = e in cc
name_at (x ∷ xs) (suc id) name e = name_at xs id name e

-- the first of a list of shapes
pub first_shape : (pushed fresh : List ThreadShape) (x : ThreadShape) (y : PlainThread) → pushed ≡ fresh ++ x ∷ [] → fresh ≡ [] → plain_thread x ≡ y → map plain_thread pushed ≡ y ∷ []
first_shape pushed fresh x y p f e = ap (map plain_thread) (p ∙ ap (λ l. l ++ x ∷ []) f) ∙ ap (λ z. z ∷ []) e

-- ---- the threads from one on to the one after

take_few : {A : Type 0} (n : ℕ) (xs : List A) → take (min n (length xs)) xs ≡ take n xs
take_few zero xs = let e : min 0 (length xs) ≡ 0 = omega arith in ap (λ m. take m xs) e
take_few {A = A} (suc n) [] = let e : min (suc n) (length {A = A} []) ≡ 0 = omega arith in ap (λ m. take m []) e
take_few (suc n) (x ∷ xs) = let e : min (suc n) (suc (length xs)) ≡ suc (min n (length xs)) = omega arith in ap (λ m. take m (x ∷ xs)) e ∙ ap (λ l. x ∷ l) (take_few n xs)

pub part_same : (threads : List Thread) (at behind end : ℕ) → at < length threads → end ≡ min (max (behind - 1) at) (length threads) →
    map of_thread (take (end - at) (drop at threads)) ≡ part_at (map of_thread threads) at behind
part_same threads at behind end l e =
    let long = length-drop at threads in
    let n : end - at ≡ min (behind - 1 - at) (length (drop at threads)) = omega (arith, l, e, long) in
    ap (λ m. map of_thread (take m (drop at threads))) n
    ∙ (ap (map of_thread) (take_few (behind - 1 - at) (drop at threads))
    ∙ (sym (take-map of_thread (behind - 1 - at) (drop at threads)) ∙ ap (take (behind - 1 - at)) (sym (drop-map of_thread at threads))))
