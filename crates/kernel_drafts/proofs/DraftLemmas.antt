-- The parts of a draft are those of the kernel.
use Rattle.std.proofs.Common.{ℕ, zero, suc, ◌+◌, ◌-◌, ◌<◌, ◌≡◌, ◌∙◌, sym, ap, refl, Bool, cond, Option, Some, None, List, [], ◌∷◌, ◌++◌, length, length-drop, map, take, drop, arith}
use Rattle.std.proofs.lemmas.List.{take-map, drop-map}
use Rattle.forec_tree.specs.Terms.{Text}
use Rattle.forec_tree.specs.Faults.{is_in}
use Rattle.forec_kernel.specs.Plain.{stmt}
use Rattle.forec_kernel.specs.Shapes.{PlainThread}
use Rattle.forec_kernel.specs.WellFormed.{count_up}
use Rattle.lower_names.specs.declared.state.Thread.{Thread}
use Rattle.text_kernel.specs.Lowering.{Made, vars_of, vars_made}
use Rattle.text_kernel.specs.Kernels.{filter_in, thread_shape, variable_count}
use Rattle.lower_names.specs.Views.{Bare, bare, of_thread}
use Rattle.kernel_drafts.specs.Drafts.{vars_bare, named_at, optional_name_bytes, bare_shape, bare_shapes, marked_from}
use Rattle.kernel_drafts.specs.Marks.{is_marked, MarksOf}
use Rattle.text_kernel.proofs.Forks.{at}
use Rattle.text_kernel.proofs.Segments.{Segments}

-- ---- marks

marked_filter : (named : List ℕ) (from : ℕ) (marks : List Bool) → ((v : ℕ) → v < length marks → is_marked marks v ≡ is_in (from + v) named) → marked_from from marks ≡ filter_in named (count_up from (length marks))
marked_filter named from [] h = refl
marked_filter named from (m ∷ marks) h =
    let z : from + 0 ≡ from = omega arith in
    let first : m ≡ is_in from named = h 0 (omega arith) ∙ ap (λ n. is_in n named) z in
    let rest = marked_filter named (suc from) marks (λ v l. (let e : from + suc v ≡ suc from + v = omega arith in h (suc v) (omega arith) ∙ ap (λ n. is_in n named) e)) in
    ap (λ b. cond b (from ∷ marked_from (suc from) marks) (marked_from (suc from) marks)) first
    ∙ ap (λ xs. cond (is_in from named) (from ∷ xs) xs) rest

pub marks_uses : (count : ℕ) (named : List ℕ) (marks : List Bool) → MarksOf count named marks → marked_from 0 marks ≡ filter_in named (count_up 0 count)
marks_uses count named marks m =
    let long = m.long in
    marked_filter named 0 marks (λ v l. (let e : 0 + v ≡ v = omega arith in m.each v (omega (arith, l, long)) ∙ ap (λ n. is_in n named) (sym e)))
    ∙ ap (λ n. filter_in named (count_up 0 n)) long

-- ---- the threads below thread 0

vars_are : (a : List Made) → vars_bare (map bare a) ≡ vars_made a
vars_are [] = refl
vars_are (m ∷ a) = ap (λ l. vars_of m.body ++ l) (vars_are a)

at_drop : (whole rest : List Made) (m : Made) (i : ℕ) → drop i whole ≡ m ∷ rest → at whole i ≡ m
at_drop [] rest m zero e = absurd (let q : [] ≡ m ∷ rest = e in cc)
at_drop [] rest m (suc i) e = absurd (let q : [] ≡ m ∷ rest = e in cc)
at_drop (x ∷ whole) rest m zero e = let q : x ∷ whole ≡ m ∷ rest = e in cc
at_drop (x ∷ whole) rest m (suc i) e = at_drop whole rest m i e

drop_more : (whole rest : List Made) (m : Made) (i : ℕ) → drop i whole ≡ m ∷ rest → drop (suc i) whole ≡ rest
drop_more [] rest m zero e = absurd (let q : [] ≡ m ∷ rest = e in cc)
drop_more [] rest m (suc i) e = absurd (let q : [] ≡ m ∷ rest = e in cc)
drop_more (x ∷ whole) rest m zero e = let q : x ∷ whole ≡ m ∷ rest = e in cc
drop_more (x ∷ whole) rest m (suc i) e = drop_more whole rest m i e

module _ (text : Text) (names : List (List ℕ)) (whole : List Made) (segments : Segments 1 whole) where
  named_is : (m : Made) (rest : List Made) (i : ℕ) → drop i whole ≡ m ∷ rest → named_at (map bare whole) i (bare m) ≡ m.named
  named_is m rest i e =
      let is = at_drop whole rest m i e in
      let long = ap length e in
      let left_over = length-drop i whole in
      let s = segments i (omega (arith, long, left_over)) in
      let n : m.behind - 1 - i ≡ m.behind - (1 + i) = omega arith in
      ap (λ l. vars_bare (take (m.behind - 1 - i) l)) (drop-map bare i whole)
      ∙ (ap vars_bare (take-map bare (m.behind - 1 - i) (drop i whole))
      ∙ (vars_are (take (m.behind - 1 - i) (drop i whole))
      ∙ (ap (λ k. vars_made (take k (drop i whole))) n
      ∙ (ap (λ (x : Made). vars_made (take (x.behind - (1 + i)) (drop i whole))) (sym is) ∙ (sym s.named ∙ ap (λ (x : Made). x.named) is)))))

  names_are : (o : Option ℕ) → optional_name_bytes names o ≡ Rattle.text_kernel.specs.Kernels.name_bytes text names o
  names_are None = refl
  names_are (Some id) = refl

  abbrev with_name : Made → Option (List ℕ) → List ℕ → PlainThread
  with_name m name uses = record { parent = Some m.parent; par = Some m.par; name = name; params = m.params; words = m.words; uses = uses }

  shape_is : (m : Made) (rest : List Made) (i : ℕ) → drop i whole ≡ m ∷ rest → bare_shape names (variable_count text names) (map bare whole) i (bare m) ≡ thread_shape text names m
  shape_is m rest i e =
      ap (λ n. with_name m n (filter_in (named_at (map bare whole) i (bare m)) (count_up 0 (variable_count text names)))) (names_are m.name)
      ∙ ap (λ l. with_name m (Rattle.text_kernel.specs.Kernels.name_bytes text names m.name) (filter_in l (count_up 0 (variable_count text names)))) (named_is m rest i e)

  shapes_from : (rest : List Made) (i : ℕ) → drop i whole ≡ rest → bare_shapes names (variable_count text names) (map bare whole) i (map bare rest) ≡ map (thread_shape text names) rest
  shapes_from [] i e = refl
  shapes_from (m ∷ rest) i e =
      ap (λ s. s ∷ bare_shapes names (variable_count text names) (map bare whole) (suc i) (map bare rest)) (shape_is m rest i e)
      ∙ ap (λ l. thread_shape text names m ∷ l) (shapes_from rest (suc i) (drop_more whole rest m i e))

  pub shapes_are : bare_shapes names (variable_count text names) (map bare whole) 0 (map bare whole) ≡ map (thread_shape text names) whole
  shapes_are = shapes_from whole 0 refl

-- ---- bodies

bare_bodies : (a : List Made) → map (λ (b : Bare). b.body) (map bare a) ≡ map (λ m. m.body) a
bare_bodies [] = refl
bare_bodies (m ∷ a) = ap (λ l. m.body ∷ l) (bare_bodies a)

thread_bodies : (threads : List Thread) → map (λ (b : Bare). b.body) (map of_thread threads) ≡ map (λ (t : Thread). stmt t.body) threads
thread_bodies [] = refl
thread_bodies (t ∷ threads) = ap (λ l. stmt t.body ∷ l) (thread_bodies threads)

pub bodies_are : (threads : List Thread) (a : List Made) → map of_thread threads ≡ map bare a → map (λ (t : Thread). stmt t.body) threads ≡ map (λ m. m.body) a
bodies_are threads a e = sym (thread_bodies threads) ∙ (ap (map (λ (b : Bare). b.body)) e ∙ bare_bodies a)
