-- The parts of a draft are those of the kernel.
use Rattle.std.proofs.Common.{ℕ, suc, ◌+◌, ◌-◌, ◌≡◌, ◌∙◌, ◌&&◌, sym, ap, refl, ℤ, Bool, true, false, cond, is_some, Option, Some, None, List, [], ◌∷◌, ◌++◌, length, map}
use Rattle.std.proofs.lemmas.List.{length-map}
use Rattle.forec_tree.specs.declared.tree.Number.{Number}
use Rattle.forec_tree.specs.Terms.{Text, PlainGlobal, PlainFunction, IsGlobal, IsFunction}
use Rattle.forec_tree.specs.Rules.{is_constant}
use Rattle.forec_tree.specs.Variables.{PlainVariable, variables}
use Rattle.forec_kernel.specs.declared.shape.Variable.{Variable}
use Rattle.forec_kernel.specs.declared.shape.FunctionShape.{FunctionShape}
use Rattle.forec_kernel.specs.Terms.{Stmt}
use Rattle.forec_kernel.specs.Shapes.{PlainKernel, PlainShape, PlainThread}
use Rattle.text_kernel.specs.Bindings.{number_of}
use Rattle.text_kernel.specs.Lowering.{Lowered}
use Rattle.text_kernel.specs.Kernels.{kernel_of, root, main_id, variable_count, variable_shape, int_functions, tables_of, table_of, padded, thread_shape, root_shape}
use Rattle.text_kernel.specs.Kernels as kernels
use Rattle.lower_names.specs.Views.{Bare, bare}
use Rattle.kernel_drafts.specs.Drafts.{root_of, main_shape, bare_shapes, function_text, function_shape}
use Rattle.text_kernel.specs.Items.{array_items, array_in, array_table, option_list}
use Rattle.text_kernel.proofs.Placed.{root_grown}
use Rattle.text_kernel.proofs.Segments.{segments}
use Rattle.kernel_drafts.proofs.DraftLemmas.{shapes_are}

-- ---- the threads

module _ (text : Text) (names : List (List ℕ)) where
  main_made : (count first words : ℕ) → count ≡ variable_count text names → first ≡ main_id text names → words ≡ (root text names).next.slot → main_shape names count first words ≡ root_shape text names
  main_made count first words c f w =
      ap (λ n. main_shape names n first words) c ∙ (ap (λ n. main_shape names (variable_count text names) n words) f ∙ ap (main_shape names (variable_count text names) (main_id text names)) w)

  pub draft_threads : (count first words : ℕ) (bares : List Bare) → count ≡ variable_count text names → first ≡ main_id text names → words ≡ (root_of text first).next.slot → bares ≡ map bare (root_of text first).made →
      main_shape names count first words ∷ bare_shapes names count bares 0 bares ≡ (kernel_of text names).shape.threads
  unfolding kernel_of
  draft_threads count first words bares c f w b =
      let made = (root text names).made in
      let same : root_of text first ≡ root text names = ap (root_of text) f in
      let are : bares ≡ map bare made = b ∙ ap (λ (l : Lowered). map bare l.made) same in
      ap (λ s. s ∷ bare_shapes names count bares 0 bares) (main_made count first words c f (w ∙ ap (λ (l : Lowered). l.next.slot) same))
      ∙ (ap (λ n. root_shape text names ∷ bare_shapes names n bares 0 bares) c
      ∙ (ap (λ l. root_shape text names ∷ bare_shapes names (variable_count text names) l 0 l) are
      ∙ ap (λ l. root_shape text names ∷ l) (shapes_are text names made (segments (root_grown text names).grown))))

  pub draft_texts : (first : ℕ) (main : Stmt) (rest : List Stmt) → first ≡ main_id text names → main ≡ (root_of text first).stmt → rest ≡ map (λ m. m.body) (root_of text first).made → main ∷ rest ≡ (kernel_of text names).threads
  unfolding kernel_of
  draft_texts first main rest f m r =
      let same : root_of text first ≡ root text names = ap (root_of text) f in
      ap (λ s. s ∷ rest) (m ∙ ap (λ (l : Lowered). l.stmt) same) ∙ ap (λ l. (root text names).stmt ∷ l) (r ∙ ap (λ (l : Lowered). map (λ x. x.body) l.made) same)

  pub draft_variables : (vs : List PlainVariable) → vs ≡ variables text → map (variable_shape text names) vs ≡ (kernel_of text names).shape.variables
  unfolding kernel_of
  draft_variables vs e = ap (map (variable_shape text names)) e

  pub draft_shapes : (fs : List PlainFunction) → fs ≡ int_functions text names text → map (function_shape text names) fs ≡ (kernel_of text names).shape.functions
  unfolding kernel_of
  draft_shapes fs e = ap (map (function_shape text names)) e

  pub draft_bodies : (fs : List PlainFunction) → fs ≡ int_functions text names text → map (function_text text names) fs ≡ (kernel_of text names).functions
  unfolding kernel_of
  draft_bodies fs e = ap (map (function_text text names)) e

  pub as_many : length (kernel_of text names).threads ≡ length (kernel_of text names).shape.threads
  unfolding kernel_of
  as_many = ap suc (length-map (root text names).made (λ m. m.body) ∙ sym (length-map (root text names).made (thread_shape text names)))

  pub as_many_functions : length (kernel_of text names).functions ≡ length (kernel_of text names).shape.functions
  unfolding kernel_of
  as_many_functions = length-map (int_functions text names text) _ ∙ sym (length-map (int_functions text names text) _)

  -- ---- constant arrays

  either_table : (b : Bool) (o : Option Number) (g : PlainGlobal) → g.length ≡ o →
      cond b (elim o [ None ↦ [] | Some n ↦ padded (number_of n) g.values ∷ [] ]) [] ≡ map array_table (option_list (cond (b && is_some o) (Some g) None))
  either_table false o g d = refl
  either_table true None g d = refl
  either_table true (Some n) g d = ap (λ (o : Option Number). padded (elim o [ None ↦ 0 | Some n ↦ number_of n ]) g.values ∷ []) (sym d)

  one_table : (g : PlainGlobal) → table_of text names g ≡ map array_table (option_list (array_in (IsGlobal g)))
  one_table g = either_table (is_constant g.kind) g.length g refl

  pub tables_are : (t : Text) → tables_of text names t ≡ map array_table (array_items t)
  tables_are [] = refl
  tables_are (IsFunction f ∷ rest) = tables_are rest
  tables_are (IsGlobal g ∷ rest) =
      ap (λ l. l ++ tables_of text names rest) (one_table g)
      ∙ (ap (λ l. map array_table (option_list (array_in (IsGlobal g))) ++ l) (tables_are rest)
      ∙ sym (Rattle.std.proofs.lemmas.List.map-append array_table (option_list (array_in (IsGlobal g))) (array_items rest)))

  pub draft_tables : (tables : List (List ℤ)) (arrays : List PlainGlobal) → tables ≡ map array_table arrays → arrays ≡ array_items text → tables ≡ (kernel_of text names).shape.tables
  unfolding kernel_of
  draft_tables tables arrays t a = t ∙ (ap (map array_table) a ∙ sym (tables_are text))

  pub draft_inputs : (vs : List PlainVariable) → vs ≡ variables text → kernels.numbers_of text names Rattle.forec_tree.specs.Rules.is_input 0 vs ≡ (kernel_of text names).shape.inputs
  unfolding kernel_of
  draft_inputs vs e = ap (kernels.numbers_of text names Rattle.forec_tree.specs.Rules.is_input 0) e

  pub draft_outputs : (vs : List PlainVariable) → vs ≡ variables text → kernels.numbers_of text names Rattle.forec_tree.specs.Rules.is_output 0 vs ≡ (kernel_of text names).shape.outputs
  unfolding kernel_of
  draft_outputs vs e = ap (kernels.numbers_of text names Rattle.forec_tree.specs.Rules.is_output 0) e

  pub draft_names : (vs : List PlainVariable) → vs ≡ variables text → map (kernels.variable_name names) vs ≡ (kernel_of text names).shape.names
  unfolding kernel_of
  draft_names vs e = ap (map (kernels.variable_name names)) e

-- ---- a kernel by its parts

made_of : List PlainThread → List Variable → List FunctionShape → List (List ℤ) → List ℕ → List ℕ → List (List ℕ) → List Stmt → List Stmt → PlainKernel
made_of a b c d e f g h i = record { shape = record { threads = a; variables = b; functions = c; tables = d; inputs = e; outputs = f; names = g }; threads = h; functions = i }

pub by_parts : (k : PlainKernel) (a : List PlainThread) (b : List Variable) (c : List FunctionShape) (d : List (List ℤ)) (e f : List ℕ) (g : List (List ℕ)) (h i : List Stmt) → a ≡ k.shape.threads → b ≡ k.shape.variables →
    c ≡ k.shape.functions → d ≡ k.shape.tables → e ≡ k.shape.inputs → f ≡ k.shape.outputs → g ≡ k.shape.names → h ≡ k.threads → i ≡ k.functions →
    (let s : PlainShape = record { threads = a; variables = b; functions = c; tables = d; inputs = e; outputs = f; names = g } in let m : PlainKernel = record { shape = s; threads = h; functions = i } in m) ≡ k
unfolding made_of
by_parts k a b c d e f g h i pa pb pc pd pe pf pg ph pi =
    let s = k.shape in
    ap (λ x. made_of x b c d e f g h i) pa
    ∙ (ap (λ x. made_of s.threads x c d e f g h i) pb
    ∙ (ap (λ x. made_of s.threads s.variables x d e f g h i) pc
    ∙ (ap (λ x. made_of s.threads s.variables s.functions x e f g h i) pd
    ∙ (ap (λ x. made_of s.threads s.variables s.functions s.tables x f g h i) pe
    ∙ (ap (λ x. made_of s.threads s.variables s.functions s.tables s.inputs x g h i) pf
    ∙ (ap (λ x. made_of s.threads s.variables s.functions s.tables s.inputs s.outputs x h i) pg
    ∙ (ap (λ x. made_of s.threads s.variables s.functions s.tables s.inputs s.outputs s.names x i) ph ∙ ap (made_of s.threads s.variables s.functions s.tables s.inputs s.outputs s.names k.threads) pi)))))))
