-- The command line as one simple command of clap, and what words mean to it.
use Rattle.std.specs.Prelude.{Bool, true, false, List, [], Option, None, Some, nat_eq, codes, map, option_map}
use Rattle.std.specs.Cmp.Lexicographic.{pointwise}
use Rattle.clap.specs.Words.{App, Kinds, Rule, Text, all_of, fault_of, first_of, matches_of, new_app, new_rule, with_rule}
use Rattle.clap.specs.Simple.{on_top}
use Rattle.clap.specs.declared.builder.ArgAction.TheVariants.{Set, SetTrue, Append}
use Rattle.command_words.specs.declared.values.Values.{Values}

-- an option that takes one value, and is given at most once
abbrev pub option_rule : Text → Rule
option_rule id = record (new_rule id) { long = Some id; action = Some Set }

-- an option without a value, which is given at most once
abbrev pub flag_rule : Text → Rule
flag_rule id = record (new_rule id) { long = Some id; action = Some SetTrue }

-- a word that must be there
abbrev pub word_rule : Text → Rule
word_rule id = record (new_rule id) { required = true; action = Some Set }

-- words behind those, as many as there are
abbrev pub more_rule : Text → Rule
more_rule id = record (new_rule id) { action = Some Append }

abbrev pub bared : App → App
bared = on_top (λ s. record s { no_binary_name = true; disable_help_flag = true; disable_version_flag = true })

unfoldable pub command_line : App
command_line = bared (with_rule (with_rule (with_rule (with_rule (with_rule (with_rule (with_rule (with_rule (new_app (codes "forec"))
    (word_rule (codes "command"))) (word_rule (codes "program"))) (more_rule (codes "more")))
    (option_rule (codes "cores"))) (option_rule (codes "place"))) (option_rule (codes "budget"))) (option_rule (codes "order")))
    (flag_rule (codes "fold")))

-- why clap refuses the words; none where it doesn't
abbrev pub kinds_of : List Text → Kinds
kinds_of words = fault_of command_line words

-- the value of a name in the words
abbrev pub value_of : List Text → Text → Option Text
value_of words id = first_of id (matches_of command_line words)

-- the words that were kept of a name
abbrev pub kept_words : Option (List Text) → List Text
kept_words None = []
kept_words (Some words) = words

abbrev pub is_word : Text → Text → Bool
is_word word other = pointwise nat_eq word other

-- what clap keeps of a flag: `true` where it is given, else `false`
abbrev pub is_set : Option Text → Bool
is_set None = false
is_set (Some word) = is_word word (codes "true")

pub record PlainValues : Type 0 where
  pub command : Option Text
  pub program : Option Text
  pub more : List Text
  pub cores : Option Text
  pub place : Option Text
  pub budget : Option Text
  pub order : Option Text
  pub fold : Bool

-- the value of each name in the words
abbrev pub command_values : List Text → PlainValues
command_values words =
    record {
      command = value_of words (codes "command");
      program = value_of words (codes "program");
      more = kept_words (all_of (codes "more") (matches_of command_line words));
      cores = value_of words (codes "cores");
      place = value_of words (codes "place");
      budget = value_of words (codes "budget");
      order = value_of words (codes "order");
      fold = is_set (value_of words (codes "fold"));
    }

-- values, as texts
abbrev pub plain_values : Values → PlainValues
plain_values v =
    record {
      command = option_map (λ s. s.now) v.command;
      program = option_map (λ s. s.now) v.program;
      more = map (λ s. s.now) v.more.items;
      cores = option_map (λ s. s.now) v.cores;
      place = option_map (λ s. s.now) v.place;
      budget = option_map (λ s. s.now) v.budget;
      order = option_map (λ s. s.now) v.order;
      fold = v.fold;
    }
