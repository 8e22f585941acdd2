use Rattle.std.proofs.Common.{◌≡◌, ◌+◌, ◌<◌, ◌^◌, ◌++◌, ◌∷◌, [], Bool, Some, ◌==◌, take, drop, get_or, ap, sym, subst, ◌∙◌, arith, eqb-true}
use Rattle.std.specs.Int.{w32, cast_signed}
use Rattle.std.proofs.lemmas.Bool.{not-true, not-false, eqb-false}
use Rattle.wave_dump.specs.Machine.{value_taken_by}
use Rattle.wave_dump.specs.Reading.{signed_words, olds_at}
use Rattle.wave_dump.proofs.ValueLemmas.{first_no, take_later, take_same}
use Rattle.wave_dump.proofs.values.may_be.Goals as goal

pub returns-then-first-clause-no : goal.returns-then-first-clause-no
returns-then-first-clause-no c =
    let left = c.args.left.now in
    let k = c.args.k in
    let v = cast_signed w32 c.args.word in
    λ h. ap (λ b. value_taken_by k (olds_at b left) v) c.if-first.true ∙ first_no k v left h

pub returns-clause-yes : goal.returns-clause-yes
returns-clause-yes c =
    let left = c.args.left.now in
    let k = c.args.k in
    let v = cast_signed w32 c.args.word in
    let x = get_or left k 0 in
    let small : x < 2 ^ 32 = omega (arith, c.type_inv.left k) in
    λ h. subst (λ (b : Bool). value_taken_by k (olds_at b left) v ≡ Some (signed_words (take k left) ++ v ∷ [], olds_at b (drop (k + 1) left))) (sym c.if-first.false)
    (take_later k c.args.word left c.requires small c.ranges.word.fits (eqb-false x c.args.word (not-true (x == c.args.word) h)))

pub returns-clause-no : goal.returns-clause-no
returns-clause-no c =
    let left = c.args.left.now in
    let k = c.args.k in
    let v = cast_signed w32 c.args.word in
    let x = get_or left k 0 in
    λ h. ap (λ b. value_taken_by k (olds_at b left) v) c.if-first.false ∙ take_same k c.args.word left (eqb-true x c.args.word (not-false (x == c.args.word) h))
