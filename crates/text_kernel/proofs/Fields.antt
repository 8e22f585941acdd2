-- Fields of `WellFormed` that hold of the kernel of any text, with faults or without.
use Rattle.std.proofs.Common.{ℕ, zero, suc, ◌+◌, ◌<◌, ◌≡◌, ◌∙◌, sym, ap, refl, true, IsTrue, is_some, List, [], ◌∷◌, append-nil, length, map, get_or, subst, arith}
use Rattle.std.proofs.lemmas.List.{length-map, get_or-map}
use Rattle.forec_tree.specs.Terms.{Text}
use Rattle.forec_tree.specs.Variables.{variables}
use Rattle.forec_tree.specs.Faults.{Member, here, later}
use Rattle.forec_tree.proofs.VariableCounts.{variables_counted}
use Rattle.forec_kernel.specs.Combining.{contains}
use Rattle.forec_kernel.specs.Shapes.{PlainKernel}
use Rattle.forec_kernel.specs.Texts.{words_in, words_of, uses_in, uses_of, body_of}
use Rattle.forec_kernel.specs.Terms as kernel
use Rattle.forec_kernel.specs.WellFormed.{FineRoot, FineChild, FinePar, pars_of, blank_thread, thread_of, count_up, numbered, all_in}
use Rattle.text_kernel.specs.Lowering.{Made}
use Rattle.text_kernel.specs.Kernels.{kernel_of, root, thread_shape, variable_count, filter_in, int_functions, variable_shape}
use Rattle.text_kernel.proofs.Grown.{Fork, lists}
use Rattle.text_kernel.proofs.Forks.{blank_made, at, in_order, parents_low}
use Rattle.text_kernel.proofs.Placed.{Placed, root_placed, made_placed, root_grown}
use Rattle.text_kernel.proofs.Covered.{Covered, by_owner, by_other, covered, Within, uses_within, uses_of_all}

-- ---- the pars of a body as `WellFormed` wants them

record Nth (x : List Fork) (list : List ℕ) : Type 0 where
  fork : Fork
  member : Member fork x
  is : list ≡ fork.threads

nth_more : (g : Fork) (x : List Fork) (list : List ℕ) → Nth x list → Nth (g ∷ x) list
nth_more g x list n = record { fork = n.fork; member = later n.member; is = n.is }

nth : (x : List Fork) (i : ℕ) → i < length (lists x) → Nth x (get_or (lists x) i [])
nth [] i l = absurd (omega arith)
nth (g ∷ x) zero l = record { fork = g; member = here; is = refl }
nth (g ∷ x) (suc i) l = nth_more g x (get_or (lists x) i []) (nth x i (omega arith))

pub pars_fine : (k : PlainKernel) (t : ℕ) (pars : List (List ℕ)) → Placed k.shape.threads t pars →
    (branches : List ℕ) (i : ℕ) → i < length pars → branches ≡ get_or pars i [] → FinePar k t branches
pars_fine k t pars z branches i l e =
    let n = nth z.forks i (subst (λ p. i < length p) (sym z.are) l) in
    let is : branches ≡ n.fork.threads = e ∙ (ap (λ p. get_or p i []) (sym z.are) ∙ n.is) in
    let f = z.fine n.fork n.member in
    record { number = n.fork.number; are = is ∙ sym f.are; parent = λ b h. f.parent b (ap (contains b) (sym is) ∙ h) }

module _ (text : Text) (names : List (List ℕ)) where
  -- one body for each thread and int function, and one text for each variable
  pub bodies : length (kernel_of text names).threads ≡ length (kernel_of text names).shape.threads
  unfolding kernel_of
  bodies = ap suc (length-map (root text names).made (λ m. m.body) ∙ sym (length-map (root text names).made (thread_shape text names)))

  pub functions : length (kernel_of text names).functions ≡ length (kernel_of text names).shape.functions
  unfolding kernel_of
  functions = length-map (int_functions text names text) _ ∙ sym (length-map (int_functions text names text) _)

  pub some : 0 < length (kernel_of text names).threads
  unfolding kernel_of
  some = omega arith

  pub root_fine : FineRoot (kernel_of text names)
  unfolding kernel_of
  root_fine = record { parent = refl; par = refl; params = refl; uses = ap (count_up 0) (sym (length-map (variables text) (variable_shape text names) ∙ variables_counted text)) }

  pub order : IsTrue (numbered 0 (kernel_of text names).shape.threads)
  unfolding kernel_of
  order =
      let g = root_grown text names in
      ap (numbered 0) (sym (append-nil (map (thread_shape text names) (root text names).made))) ∙ in_order text names g.grown [] refl

  -- ---- each thread

  pub made_body : (i : ℕ) → i < length (root text names).made → body_of (kernel_of text names) (suc i) ≡ (at (root text names).made i).body
  unfolding kernel_of
  made_body i l = get_or-map (λ m. m.body) (root text names).made i blank_made kernel.Nop l

  pub made_shape : (i : ℕ) → i < length (root text names).made → thread_of (kernel_of text names) (suc i) ≡ thread_shape text names (at (root text names).made i)
  unfolding kernel_of
  made_shape i l = get_or-map (thread_shape text names) (root text names).made i blank_made blank_thread l

  pub made_count : (i : ℕ) → suc i < length (kernel_of text names).threads → i < length (root text names).made
  unfolding kernel_of
  made_count i l = let e = length-map (root text names).made (λ m. m.body) in omega (arith, e)

  root_of : Placed (kernel_of text names).shape.threads 0 (pars_of (body_of (kernel_of text names) 0))
  unfolding kernel_of
  root_of = root_placed text names

  made_is : (i : ℕ) → i < length (root text names).made → Placed (kernel_of text names).shape.threads (1 + i) (pars_of (at (root text names).made i).body)
  unfolding kernel_of
  made_is i l = made_placed text names i l

  made_at : (i : ℕ) → i < length (root text names).made → Placed (kernel_of text names).shape.threads (suc i) (pars_of (body_of (kernel_of text names) (suc i)))
  made_at i l =
      subst (λ b. Placed (kernel_of text names).shape.threads (suc i) (pars_of b)) (sym (made_body i l))
      (subst (λ t. Placed (kernel_of text names).shape.threads t (pars_of (at (root text names).made i).body)) (omega arith) (made_is i l))

  pub thread_pars : (t : ℕ) → t < length (kernel_of text names).threads → (branches : List ℕ) (i : ℕ) → i < length (pars_of (body_of (kernel_of text names) t)) →
      branches ≡ get_or (pars_of (body_of (kernel_of text names) t)) i [] → FinePar (kernel_of text names) t branches
  thread_pars zero l = pars_fine (kernel_of text names) 0 (pars_of (body_of (kernel_of text names) 0)) root_of
  thread_pars (suc i) l = pars_fine (kernel_of text names) (suc i) (pars_of (body_of (kernel_of text names) (suc i))) (made_at i (made_count i l))

  -- ---- each thread but 0

  shapes_uses : (a : List Made) (i : ℕ) → i < length a → uses_in (map (thread_shape text names) a) i ≡ filter_in (at a i).named (count_up 0 (variable_count text names))
  shapes_uses [] i l = absurd (omega arith)
  shapes_uses (m ∷ a) zero l = refl
  shapes_uses (m ∷ a) (suc i) l = shapes_uses a i (omega arith)

  root_uses : (xs : List ℕ) → all_in (filter_in xs (count_up 0 (variable_count text names))) (uses_of (kernel_of text names) 0) ≡ true
  unfolding kernel_of
  root_uses xs = uses_of_all xs (count_up 0 (variable_count text names))

  cover : (i j : ℕ) → (at (root text names).made i).parent ≡ suc j → Covered 0 1 (root text names).made i → Within (at (root text names).made i).named (at (root text names).made j).named
  cover i j e (by_owner d w) = absurd (omega (arith, e, d))
  cover i j e (by_other u k d w) = let same : u ≡ j = omega (arith, e, d) in subst (λ x. Within (at (root text names).made i).named (at (root text names).made x).named) same w

  pub uses_made : (i : ℕ) → i < length (root text names).made → uses_of (kernel_of text names) (suc i) ≡ filter_in (at (root text names).made i).named (count_up 0 (variable_count text names))
  unfolding kernel_of
  uses_made i l = shapes_uses (root text names).made i l

  shapes_words : (a : List Made) (i : ℕ) → i < length a → words_in (map (thread_shape text names) a) i ≡ (at a i).words
  shapes_words [] i l = absurd (omega arith)
  shapes_words (m ∷ a) zero l = refl
  shapes_words (m ∷ a) (suc i) l = shapes_words a i (omega arith)

  pub words_made : (i : ℕ) → i < length (root text names).made → words_of (kernel_of text names) (suc i) ≡ (at (root text names).made i).words
  unfolding kernel_of
  words_made i l = shapes_words (root text names).made i l

  -- the parent's `uses` have all that the thread names
  uses_in_parent : (i u : ℕ) → u < suc i → i < length (root text names).made → (at (root text names).made i).parent ≡ u →
      all_in (uses_of (kernel_of text names) (suc i)) (uses_of (kernel_of text names) u) ≡ true
  uses_in_parent i zero l k e = ap (λ xs. all_in xs (uses_of (kernel_of text names) 0)) (uses_made i k) ∙ root_uses (at (root text names).made i).named
  uses_in_parent i (suc j) l k e =
      let all = count_up 0 (variable_count text names) in
      ap (λ xs. all_in xs (uses_of (kernel_of text names) (suc j))) (uses_made i k)
      ∙ (ap (all_in (filter_in (at (root text names).made i).named all)) (uses_made j (omega arith))
      ∙ uses_within (at (root text names).made i).named (at (root text names).made j).named all (cover i j e (covered (root_grown text names).grown i k)))

  pub child_fine : (t : ℕ) → 0 < t → t < length (kernel_of text names).threads → FineChild (kernel_of text names) t
  child_fine zero h l = absurd (omega arith)
  child_fine (suc i) h l =
      let k = made_count i l in
      let made = at (root text names).made i in
      let low : made.parent < suc i = (let g = parents_low (omega arith) (root_grown text names).grown i k in omega arith) in
      record {
        parent = made.parent;
        is = ap (λ x. x.parent) (made_shape i k);
        below = low;
        par = ap (λ x. is_some x.par) (made_shape i k);
        uses = uses_in_parent i made.parent low k refl;
      }
