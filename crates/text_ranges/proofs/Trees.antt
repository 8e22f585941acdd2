-- Programs in which each number has a property, and each place at which a trap can be has one.
-- (The numbers of lengths and bounds stand in no term of the kernel.)
use Rattle.std.proofs.Common.{ℕ, ◌≤◌, ℤ, pos, Option, Some, None, List}
use Rattle.std.specs.List.{AllByRecursion}
use Rattle.forec_base.specs.declared.operators.Unary.TheVariants as un
use Rattle.forec_base.specs.Numbers.{unary_of}
use Rattle.forec_tree.specs.declared.tree.Number.{Number}
use Rattle.forec_tree.specs.declared.tree.OpAt.{OpAt}
use Rattle.forec_tree.specs.Terms.{Term, Num, Read, Element, Un, Bin, And, Or, Choose, Call, Terms, no_terms, more_terms, count_terms, Declared, Statement, Declare, Nothing, Group, Assign, Invoke, If, While, For, Pause, Par, Abort, Return, Statements, no_statements, more_statements, Perhaps, absent, present, Branches, no_branches, by_call, by_group, PlainItem, IsGlobal, IsFunction, Text}
use Rattle.value_ranges.specs.Properties.{Property}

-- each number up to 200001 has the property, and each that has it still has it with a minus
pub record HasSmall (has : Property) : Type 0 where
  pub small : (k : ℕ) → k ≤ 200001 → has.OfNumber (pos k)
  pub minus : (n : ℤ) → has.OfNumber n → has.OfNumber (unary_of un.Minus n)

module _ (has : Property) where
  abbrev mutual
    pub TermHolds : Term → Type 0
    TermHolds (Num at n) = has.OfNumber n
    TermHolds (Read at name) = Unit {0}
    TermHolds (Element at name i) = TermHolds i × has.OfPlace name.place
    TermHolds (Un at op a) = TermHolds a
    TermHolds (Bin at op a b) = TermHolds a × TermHolds b × has.OfPlace at
    TermHolds (And at a b) = TermHolds a × TermHolds b
    TermHolds (Or at a b) = TermHolds a × TermHolds b
    TermHolds (Choose at t a b) = TermHolds t × TermHolds a × TermHolds b
    TermHolds (Call at name args) = TermsHolds args

    pub TermsHolds : Terms → Type 0
    TermsHolds no_terms = Unit {0}
    TermsHolds (more_terms e rest) = TermHolds e × TermsHolds rest

  abbrev pub OptionHolds : Option Term → Type 0
  OptionHolds None = Unit {0}
  OptionHolds (Some e) = TermHolds e

  abbrev pub OpHolds : Option OpAt → Type 0
  OpHolds None = Unit {0}
  OpHolds (Some o) = has.OfPlace o.place

  -- the place of each value of an array is such a number too, where each up to 200000 is
  pub record DeclaredHolds (l : Declared) : Type 0 where
    pub values : TermsHolds l.values
    pub place : has.OfPlace l.name.place
    pub few : count_terms l.values ≤ 200001

  abbrev mutual
    pub StatementHolds : Statement → Type 0
    StatementHolds (Nothing at) = Unit {0}
    StatementHolds (Group at body) = StatementsHolds body
    StatementHolds (Declare at locals) = AllByRecursion DeclaredHolds locals
    StatementHolds (Assign at target op value) = (OptionHolds target.index × has.OfPlace target.name.place) × TermHolds value × OpHolds op
    StatementHolds (Invoke at name args) = TermsHolds args
    StatementHolds (If at test a b) = TermHolds test × StatementHolds a × PerhapsHolds b
    StatementHolds (While at test bound body) = TermHolds test × StatementHolds body × has.OfPlace at
    StatementHolds (For at start test step bound body) = PerhapsHolds start × OptionHolds test × PerhapsHolds step × StatementHolds body × has.OfPlace at
    StatementHolds (Pause at) = Unit {0}
    StatementHolds (Par at bs) = LaunchesHolds bs
    StatementHolds (Abort at weak immediate test body) = TermHolds test × StatementsHolds body
    StatementHolds (Return at value) = TermHolds value

    pub StatementsHolds : Statements → Type 0
    StatementsHolds no_statements = Unit {0}
    StatementsHolds (more_statements a rest) = StatementHolds a × StatementsHolds rest

    pub PerhapsHolds : Perhaps → Type 0
    PerhapsHolds absent = Unit {0}
    PerhapsHolds (present a) = StatementHolds a

    pub LaunchesHolds : Branches → Type 0
    LaunchesHolds no_branches = Unit {0}
    LaunchesHolds (by_call name args rest) = TermsHolds args × LaunchesHolds rest
    LaunchesHolds (by_group at body rest) = StatementsHolds body × LaunchesHolds rest

  abbrev pub NumbersHold : List Number → Type 0
  NumbersHold = AllByRecursion (λ (n : Number). has.OfNumber n.value)

  abbrev pub ItemHolds : PlainItem → Type 0
  ItemHolds (IsGlobal g) = NumbersHold g.values
  ItemHolds (IsFunction f) = StatementsHolds f.body

  abbrev pub TextHolds : Text → Type 0
  TextHolds = AllByRecursion ItemHolds
