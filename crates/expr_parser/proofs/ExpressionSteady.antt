-- Where an expression is refused depends on the tokens up to there alone.
use Rattle.std.proofs.Common.{ℕ, zero, suc, ◌+◌, nat_lt, [], refl, arith}
use Rattle.forec_tree.specs.declared.tree.Name.{Name}
use Rattle.forec_tree.specs.Terms.{Term}
use Rattle.forec_tree.specs.Spelling.{level_of}
use Rattle.expr_parser.specs.declared.fixed.Fixed.TheVariants as fixed
use Rattle.expr_parser.specs.declared.meaning.Start.{Start}
use Rattle.expr_parser.specs.declared.meaning.Start.TheVariants as beg
use Rattle.expr_parser.specs.declared.meaning.Infix.{Infix}
use Rattle.expr_parser.specs.declared.meaning.Infix.TheVariants as inf
use Rattle.expr_parser.specs.declared.meaning.Behind.{Behind}
use Rattle.expr_parser.specs.declared.meaning.Behind.TheVariants as follow
use Rattle.expr_parser.specs.Input.{Parser}
use Rattle.expr_parser.specs.Meaning.{term_start, infix_of, after_of, binds}
use Rattle.expr_parser.specs.Reading as reading
use Rattle.expr_parser.specs.Reading.{named_by, prefix_by, operation_by, climb, read_expression}
use Rattle.expr_parser.proofs.Steady.{too_deep, deep, Limits, less_deep, Steady, Loops, bind, scope, done, refused, by_kind, either, raised, closed, enclosing, loosely, exhausted, named, numbered, looping, listing}

climbs : (limit : ℕ) (r : ℕ → Parser Term) (least : ℕ) → Loops (λ c. nat_lt (binds (infix_of c)) least) (λ _ x. x) (reading.operation limit r) (climb limit r least)
unfolding climb
climbs limit r least = record { last = λ x i. refl; turn = λ n x i. refl }

-- under the limits k and l
module _ {E : Type 0} (k l : ℕ) (le : Limits E k l) (p q : ℕ → Parser Term) (h : (n : ℕ) → Steady E 1 (p n) (q n)) where
  pub value_steady : Steady E 1 (reading.value k p) (reading.value l q)
  unfolding reading.value
  value_steady = scope (h 1)

  pub bracketed_steady : Steady E 1 (reading.bracketed k p) (reading.bracketed l q)
  unfolding reading.bracketed
  bracketed_steady = enclosing k l le fixed.LeftRound fixed.RightRound (λ _ x. x) (h 1)

  pub indexed_steady : Steady E 1 (reading.indexed k p) (reading.indexed l q)
  unfolding reading.indexed
  indexed_steady = enclosing k l le fixed.LeftSquare fixed.RightSquare (λ _ x. x) (h 1)

  arguments_steady : Steady E 0 (reading.read_arguments k p) (reading.read_arguments l q)
  unfolding reading.read_arguments
  arguments_steady = either fixed.RightRound (done []) (listing value_steady)

  pub passed_steady : Steady E 1 (reading.passed k p) (reading.passed l q)
  unfolding reading.passed
  passed_steady = enclosing k l le fixed.LeftRound fixed.RightRound (λ _ x. x) arguments_steady

  named_by_steady : (f : Behind) (n : Name) → Steady E 0 (named_by k p f n) (named_by l q f n)
  named_by_steady follow.Index n = loosely (bind indexed_steady (λ x. done _))
  named_by_steady follow.Arguments n = loosely (bind passed_steady (λ xs. done _))
  named_by_steady follow.Nothing n = done _

  named_steady : Steady E 1 (reading.named_term k p) (reading.named_term l q)
  unfolding reading.named_term
  named_steady = bind named (λ n. by_kind (λ c. named_by k p (after_of c) n) (λ c. named_by l q (after_of c) n) (λ c. named_by_steady (after_of c) n))

  prefix_by_steady : (s : Start) → Steady E 1 (prefix_by k p s) (prefix_by l q s)
  prefix_by_steady beg.Literal = bind numbered (λ n. done _)
  prefix_by_steady beg.Named = named_steady
  prefix_by_steady (beg.Sign op) = bind (raised k l le) (λ t. bind (h 12) (λ x. done _))
  prefix_by_steady beg.Round = bracketed_steady
  prefix_by_steady beg.Nothing = refused

  prefix_steady : Steady E 1 (reading.prefix k p) (reading.prefix l q)
  unfolding reading.prefix
  prefix_steady = by_kind (λ c. prefix_by k p (term_start c)) (λ c. prefix_by l q (term_start c)) (λ c. prefix_by_steady (term_start c))

  operation_by_steady : (left : Term) (s : Infix) → Steady E 1 (operation_by k p left s) (operation_by l q left s)
  unfolding reading.choose_term
  operation_by_steady left (inf.Joins op) = bind (raised k l le) (λ t. bind (h (level_of op + 1)) (λ x. done _))
  operation_by_steady left inf.Question = bind (raised k l le) (λ t. bind (h 1) (λ x. bind (closed fixed.Colon) (λ _. bind (h 1) (λ y. done _))))
  operation_by_steady left inf.Nothing = refused

  operation_steady : (left : Term) → Steady E 1 (reading.operation k p left) (reading.operation l q left)
  unfolding reading.operation
  operation_steady left = by_kind (λ c. operation_by k p left (infix_of c)) (λ c. operation_by l q left (infix_of c)) (λ c. operation_by_steady left (infix_of c))

  operations_steady : (least : ℕ) (left : Term) → Steady E 0 (reading.operations k p least left) (reading.operations l q least left)
  unfolding reading.operations
  operations_steady least left = looping (climbs k p least) (climbs l q least) operation_steady left

  climbing_steady : (least : ℕ) → Steady E 1 (reading.climbing k p least) (reading.climbing l q least)
  unfolding reading.climbing
  climbing_steady least = bind prefix_steady (λ x. operations_steady least x)

pub expr_steady : {E : Type 0} (k l : ℕ) → Limits E k l → (d e : ℕ) → Limits E d e → (least : ℕ) → Steady E 1 (read_expression k d least) (read_expression l e least)
unfolding read_expression
expr_steady k l le zero zero lower least = exhausted
expr_steady k l le zero (suc e) lower least = record { within = λ i. too_deep (omega arith); same = λ x y h a v. deep (λ q z. absurd (let no = lower.equal q in omega (arith, no))) }
expr_steady k l le (suc d) zero lower least = absurd (let h = lower.grows in omega (arith, h))
expr_steady k l le (suc d) (suc e) lower least = climbing_steady k l le (read_expression k d) (read_expression l e) (expr_steady k l le d e (less_deep lower)) least
