-- The numbers in the kernel of a program fit 32 bits.
use Rattle.std.proofs.Common.{ℕ, zero, suc, Bool, true, false, cond, Option, Some, None, List, [], ◌∷◌, ◌++◌, map, length, FitsSigned, w32}
use Rattle.std.specs.List.{AllByRecursion}
use Rattle.forec_kernel.specs.declared.shape.Variable.{Variable}
use Rattle.forec_tree.specs.declared.tree.Number.{Number}
use Rattle.forec_tree.specs.Scopes.{is_constant, stated_length}
use Rattle.forec_tree.specs.Terms.{PlainGlobal, IsGlobal, IsFunction, Text}
use Rattle.forec_tree.specs.Variables.{PlainVariable, elements, elements_from, variables_of, variables}
use Rattle.text_kernel.specs.Bindings.{number_of, first_value, nth_value}
use Rattle.text_kernel.specs.Kernels.{padded, initial_value, variable_shape, table_of, tables_of, kernel_of}
use Rattle.value_ranges.specs.Words.{AreWords, fitting_words, KernelWords}
use Rattle.value_ranges.proofs.Numbers.{zero_fits}
use Rattle.value_ranges.proofs.Lists.{all_append}
use Rattle.value_ranges.proofs.Ticks.{values_fit}
use Rattle.text_ranges.specs.Laws.{SpelledProgramsHaveWords, SpelledRunsFit}
use Rattle.text_ranges.proofs.Tokens.{TokenFits, cuts_fit, TokenHolds, lexed_holds}
use Rattle.text_ranges.proofs.Trees.{TextHolds}
use Rattle.text_ranges.proofs.Spelled.{spelled_holds}
use Rattle.text_ranges.proofs.Lowered.{first_holds}
use Rattle.text_ranges.proofs.Bodies.{all_into, bodies_hold}
use Rattle.text_ranges.proofs.Words.{small_words}

abbrev NumbersFit : List Number → Type 0
NumbersFit = AllByRecursion (λ (n : Number). FitsSigned w32 n.value)

-- ---- variables

nth_fits : (i : ℕ) (values : List Number) → NumbersFit values → FitsSigned w32 (nth_value i values)
nth_fits i [] h = zero_fits
nth_fits zero (n ∷ rest) h = h.0
nth_fits (suc i) (n ∷ rest) h = nth_fits i rest h.1

initial_fits : (v : PlainVariable) → NumbersFit v.global.values → FitsSigned w32 (initial_value v)
initial_fits v h = pick v.index
  where
    pick : (i : Option ℕ) → FitsSigned w32 (elim i [ None ↦ first_value v.global.values | Some j ↦ nth_value j v.global.values ])
    pick None = first_holds fitting_words small_words v.global.values h
    pick (Some j) = nth_fits j v.global.values h

abbrev VariablesWords : List PlainVariable → Type 0
VariablesWords = AllByRecursion (λ (v : PlainVariable). NumbersFit v.global.values)

elements_words : (g : PlainGlobal) → NumbersFit g.values → (i n : ℕ) → VariablesWords (elements_from g i n)
elements_words g h i zero = tt
elements_words g h i (suc n) = (h, elements_words g h (suc i) n)

global_words : (g : PlainGlobal) → NumbersFit g.values → VariablesWords (variables_of g)
global_words g h = pick (stated_length g)
  where
    pick : (size : Option Number) → VariablesWords (elim size [ None ↦ record { global = g; index = None } ∷ [] | Some n ↦ elements_from g 0 (elements n) ])
    pick None = (h, tt)
    pick (Some n) = elements_words g h 0 (elements n)

variables_words : (xs : Text) → TextHolds fitting_words xs → VariablesWords (variables xs)
variables_words [] h = tt
variables_words (IsFunction f ∷ rest) h = variables_words rest h.1
variables_words (IsGlobal g ∷ rest) h = pick (is_constant g.kind) (variables_words rest h.1)
  where
    pick : (b : Bool) → VariablesWords (variables rest) → VariablesWords (cond b (variables rest) (variables_of g ++ variables rest))
    pick true k = k
    pick false k = all_append (λ (v : PlainVariable). NumbersFit v.global.values) (variables_of g) (variables rest) (global_words g h.0) k

-- ---- constant arrays

padded_fits : (n : ℕ) (values : List Number) → NumbersFit values → AreWords (padded n values)
padded_fits zero values h = tt
padded_fits (suc n) [] h = (zero_fits, padded_fits n [] tt)
padded_fits (suc n) (v ∷ rest) h = (h.0, padded_fits n rest h.1)

module _ (text : Text) (names : List (List ℕ)) where
  starts_fit : (vs : List PlainVariable) → VariablesWords vs → AllByRecursion (λ (v : Variable). FitsSigned w32 v.start) (map (variable_shape text names) vs)
  starts_fit [] h = tt
  starts_fit (v ∷ vs) h = (initial_fits v h.0, starts_fit vs h.1)

  table_fits : (g : PlainGlobal) → NumbersFit g.values → AllByRecursion AreWords (table_of text names g)
  table_fits g h = pick (is_constant g.kind) g.length
    where
      pick : (b : Bool) (size : Option Number) → AllByRecursion AreWords (cond b (elim size [ None ↦ [] | Some n ↦ padded (number_of n) g.values ∷ [] ]) [])
      pick true None = tt
      pick true (Some n) = (padded_fits (number_of n) g.values h, tt)
      pick false size = tt

  tables_fit : (xs : Text) → TextHolds fitting_words xs → AllByRecursion AreWords (tables_of text names xs)
  tables_fit [] h = tt
  tables_fit (IsFunction f ∷ rest) h = tables_fit rest h.1
  tables_fit (IsGlobal g ∷ rest) h = all_append AreWords (table_of text names g) (tables_of text names rest) (table_fits g h.0) (tables_fit rest h.1)

  has_words : TextHolds fitting_words text → KernelWords (kernel_of text names)
  unfolding kernel_of
  has_words all =
      let k = bodies_hold fitting_words small_words text names all in
      record {
        threads = k.threads;
        functions = k.functions;
        tables = tables_fit text all;
        starts = starts_fit (variables text) (variables_words text all);
      }

pub spelled_programs_have_words : SpelledProgramsHaveWords
spelled_programs_have_words bytes tokens names limit program lexed spelled =
    has_words program names
    (spelled_holds fitting_words small_words limit program tokens spelled
    (lexed_holds fitting_words bytes tokens names spelled.spelt lexed spelled.are
    (all_into TokenFits (TokenHolds fitting_words) (λ t fits. record { number = fits; place = tt }) tokens (cuts_fit lexed.lexes.cuts))))

pub spelled_runs_fit : SpelledRunsFit
spelled_runs_fit bytes tokens names limit program lexed spelled budget rows fit =
    values_fit _ (spelled_programs_have_words bytes tokens names limit program lexed spelled) budget rows fit
