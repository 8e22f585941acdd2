-- What a text brings to its thread, and to the threads below it: the most words of int functions that it calls, its own words, and the most words
-- of a thread below. Combine functions are those of one variable: its name, and the words of its combine function, are parameters.
use Rattle.std.specs.Prelude.{ℕ, ◌+◌, ◌-◌, ◌^◌, ◌==◌, max, min, Bool, true, false, cond, ◌||◌, nat_lt, Option, Some, None, List, [], ◌∷◌, length, slice_index_or}
use Rattle.forec_tree.specs.declared.tree.Name.{Name}
use Rattle.forec_tree.specs.Terms.{Term, Num, Read, Element, Un, Bin, And, Or, Choose, Call, Terms, no_terms, more_terms, count_terms, Declared, PlainTarget, Statement, Declare, Nothing, Group, Assign, Invoke, If, While, For, Pause, Par, Abort, Return, Statements, no_statements, more_statements, Perhaps, absent, present, Branches, no_branches, by_call, by_group, Text, PlainFunction}
use Rattle.forec_tree.specs.Pauses.{within, find_function}
use Rattle.text_kernel.specs.Bindings.{slots_of}
use Rattle.text_chains.specs.declared.tally.Tally.{Tally}

-- a sum of 64 bits
abbrev pub plus : ℕ → ℕ → ℕ
plus a b = min (a + b) (2 ^ 64 - 1)

abbrev pub tally_of : Bool → ℕ → ℕ → ℕ → Tally
tally_of named calls words peak = record { named = named; calls = calls; words = words; peak = peak }

abbrev pub no_tally : Tally
no_tally = tally_of false 0 0 0

abbrev pub naming_tally : Bool → Tally
naming_tally named = tally_of named 0 0 0

abbrev pub call_tally : ℕ → Tally
call_tally words = tally_of false words 0 0

abbrev pub taking : ℕ → Tally
taking words = tally_of false 0 (min words (2 ^ 64 - 1)) 0

-- one text, and another
abbrev pub both_tallies : Tally → Tally → Tally
both_tallies a b = tally_of (a.named || b.named) (max a.calls b.calls) (plus a.words b.words) (max a.peak b.peak)

-- the words of a thread of this text that has so many parameters
abbrev pub whole : ℕ → Tally → ℕ
whole params a = plus (plus params a.words) a.calls

-- a branch is a thread of its own
abbrev pub branch_tally : ℕ → Tally → Tally
branch_tally params a = tally_of a.named 0 0 (max (whole params a) a.peak)

-- a local of the variable's name hides it
module _ (variable : ℕ) where
  abbrev pub names : Bool → ℕ → Bool
  names hidden id = cond hidden false (id == variable)

  abbrev pub hides : Bool → ℕ → Bool
  hides hidden id = cond hidden true (id == variable)

  abbrev pub hides_locals : Bool → List Declared → Bool
  hides_locals hidden [] = hidden
  hides_locals hidden (l ∷ rest) = hides_locals (hides hidden l.name.id) rest

  abbrev pub hides_params : Bool → List Name → Bool
  hides_params hidden [] = hidden
  hides_params hidden (p ∷ rest) = hides_params (hides hidden p.id) rest

  abbrev pub hides_after : Bool → Statement → Bool
  hides_after hidden (Declare at locals) = hides_locals hidden locals
  hides_after hidden _ = hidden

  abbrev pub hides_after_perhaps : Bool → Perhaps → Bool
  hides_after_perhaps hidden absent = hidden
  hides_after_perhaps hidden (present a) = hides_after hidden a

  -- whether a name by itself names the variable, and whether one with an index does: an array is named with an index alone
  abbrev pub names_alone : Bool → Bool → ℕ → Bool
  names_alone array hidden id = cond array false (names hidden id)

  abbrev pub names_indexed : Bool → Bool → ℕ → Bool
  names_indexed array hidden id = cond array (names hidden id) false

  -- with whether it is an array, and the words of each int function, by its name
  module _ (array : Bool) (value : ℕ → ℕ) where
    abbrev mutual
      pub of_term : Bool → Term → Tally
      of_term hidden (Num at n) = no_tally
      of_term hidden (Read at name) = naming_tally (names_alone array hidden name.id)
      of_term hidden (Element at name i) = both_tallies (naming_tally (names_indexed array hidden name.id)) (of_term hidden i)
      of_term hidden (Un at op a) = of_term hidden a
      of_term hidden (Bin at op a b) = both_tallies (of_term hidden a) (of_term hidden b)
      of_term hidden (And at a b) = both_tallies (of_term hidden a) (of_term hidden b)
      of_term hidden (Or at a b) = both_tallies (of_term hidden a) (of_term hidden b)
      of_term hidden (Choose at t a b) = both_tallies (of_term hidden t) (both_tallies (of_term hidden a) (of_term hidden b))
      of_term hidden (Call at name args) = both_tallies (call_tally (value name.id)) (of_terms hidden args)

      pub of_terms : Bool → Terms → Tally
      of_terms hidden no_terms = no_tally
      of_terms hidden (more_terms e rest) = both_tallies (of_term hidden e) (of_terms hidden rest)

    abbrev pub of_optional : Bool → Option Term → Tally
    of_optional hidden None = no_tally
    of_optional hidden (Some e) = of_term hidden e

    abbrev pub of_first : Bool → Terms → Tally
    of_first hidden no_terms = no_tally
    of_first hidden (more_terms e rest) = of_term hidden e

    abbrev pub of_local : Bool → Declared → Tally
    of_local hidden l = both_tallies (taking (slots_of l.length)) (elim l.length [ None ↦ of_first hidden l.values | Some n ↦ of_terms hidden l.values ])

    abbrev pub of_locals : Bool → List Declared → Tally
    of_locals hidden [] = no_tally
    of_locals hidden (l ∷ rest) = both_tallies (of_local hidden l) (of_locals (hides hidden l.name.id) rest)

    abbrev pub of_target : Bool → PlainTarget → Tally
    of_target hidden t =
        elim t.index [ None ↦ naming_tally (names_alone array hidden t.name.id) | Some i ↦ both_tallies (naming_tally (names_indexed array hidden t.name.id)) (of_term hidden i) ]

    -- a call that is inlined sets its parameters
    abbrev pub of_sets : Bool → Terms → Tally
    of_sets hidden args = both_tallies (taking (count_terms args)) (of_terms hidden args)

    -- with the words of the variable's combine function, and what each function brings that is inlined
    module _ (worth : ℕ) (called : ℕ → Tally) where
      -- a `par` can call it where at least two branches name the variable
      abbrev pub calls_worth : ℕ → ℕ
      calls_worth branches = cond (nat_lt 1 branches) worth 0

      abbrev mutual
        pub tally : Bool → Statement → Tally
        tally hidden (Nothing at) = no_tally
        tally hidden (Group at body) = all_tally hidden body
        tally hidden (Declare at locals) = of_locals hidden locals
        tally hidden (Assign at target op e) = both_tallies (of_target hidden target) (of_term hidden e)
        tally hidden (Invoke at name args) = both_tallies (of_sets hidden args) (called name.id)
        tally hidden (If at test a b) = both_tallies (of_term hidden test) (both_tallies (tally hidden a) (perhaps_tally hidden b))
        tally hidden (While at test bound body) = both_tallies (of_term hidden test) (tally hidden body)
        tally hidden (For at start test step bound body) =
            let inside = hides_after_perhaps hidden start in
            both_tallies (perhaps_tally hidden start) (both_tallies (of_optional inside test) (both_tallies (perhaps_tally inside step) (tally (hides_after_perhaps inside step) body)))
        tally hidden (Pause at) = no_tally
        tally hidden (Par at bs) = both_tallies (call_tally (calls_worth (branches_naming bs))) (branches_tally hidden bs)
        tally hidden (Abort at weak immediate test body) = both_tallies (of_term hidden test) (all_tally hidden body)
        tally hidden (Return at e) = of_term hidden e

        pub all_tally : Bool → Statements → Tally
        all_tally hidden no_statements = no_tally
        all_tally hidden (more_statements a rest) = both_tallies (tally hidden a) (all_tally (hides_after hidden a) rest)

        pub perhaps_tally : Bool → Perhaps → Tally
        perhaps_tally hidden absent = no_tally
        perhaps_tally hidden (present a) = tally hidden a

        pub branches_tally : Bool → Branches → Tally
        branches_tally hidden no_branches = no_tally
        branches_tally hidden (by_call name args rest) = both_tallies (both_tallies (of_terms hidden args) (branch_tally (count_terms args) (called name.id))) (branches_tally hidden rest)
        branches_tally hidden (by_group at body rest) = both_tallies (branch_tally 0 (all_tally false body)) (branches_tally hidden rest)

        -- how many branches name the variable, or start a thread that does
        pub branches_naming : Branches → ℕ
        branches_naming no_branches = 0
        branches_naming (by_call name args rest) = cond (called name.id).named 1 0 + branches_naming rest
        branches_naming (by_group at body rest) = cond (all_tally false body).named 1 0 + branches_naming rest

      abbrev pub body_tally : Option PlainFunction → Tally
      body_tally None = no_tally
      body_tally (Some f) = all_tally (hides_params false f.params) f.body

    abbrev pub tally_step : ℕ → Text → (ℕ → Tally) → ℕ → Tally
    tally_step worth text called id = body_tally worth called (find_function id text)

    -- what each function brings
    unfoldable pub tally_value : ℕ → Text → ℕ → Tally
    tally_value worth text = within no_tally (tally_step worth text) (length text)

abbrev pub tally_at : List Tally → ℕ → Tally
tally_at table id = slice_index_or table id no_tally

abbrev pub table_value : List ℕ → ℕ → ℕ
table_value table f = slice_index_or table f 0
