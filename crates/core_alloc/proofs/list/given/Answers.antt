use Rattle.std.proofs.Common.{◌≡◌, None, Some, map, position, is_none, length, not, nat_lt, sym, ap, inr, ◌∙◌, arith}
use Rattle.core_alloc.proofs.Numbers.{value_of, refuses_core, values, below}
use Rattle.core_alloc.proofs.list.given.Goals as goal

pub returns-in-Some-first_without_core-clause-err : goal.returns-in-Some-first_without_core-clause-err
returns-in-Some-first_without_core-clause-err c =
    let none : position is_none c.in_ok-numbers.numbers.items ≡ None =
    ap (position is_none) (sym c.deref.ensures.value) ∙ sym c.first_without_number.ensures ∙ c.in_default.is in
    let count : length c.in_ok-numbers.numbers.items ≡ c.args.threads = omega (arith, c.len.ensures) in
    let are : c.in_ok-places.places.items ≡ map value_of c.in_ok-numbers.numbers.items = c.in_ok-places.ensures ∙ ap (map value_of) c.deref-2.ensures.value in
    let found : Some c.in-Some-first_without_core.at ≡ position (λ core. not (nat_lt core c.args.cores)) c.in_ok-places.places.items =
    sym c.in-Some-first_without_core.is ∙ c.first_without_core.ensures ∙ ap (position (λ core. not (nat_lt core c.args.cores))) c.deref-3.ensures.value in
    inr (refuses_core c.args.text.now c.args.threads c.args.cores c.in_ok-numbers.numbers.items c.in_ok-places.places.items (Some c.in-Some-first_without_core.at) c.in_ok-numbers.ensures none count are found)

pub of-requires-clause-below : goal.of-requires-clause-below
of-requires-clause-below c =
    below c.args.cores c.in_ok-places.places.items
    (ap (position (λ core. not (nat_lt core c.args.cores))) (sym c.deref-3.ensures.value) ∙ sym c.first_without_core.ensures ∙ c.in_default-first_without_core.is)

pub returns-clause-places : goal.returns-clause-places
returns-clause-places c =
    let none : position is_none c.in_ok-numbers.numbers.items ≡ None =
    ap (position is_none) (sym c.deref.ensures.value) ∙ sym c.first_without_number.ensures ∙ c.in_default.is in
    let are : c.in_ok-places.places.items ≡ map value_of c.in_ok-numbers.numbers.items = c.in_ok-places.ensures ∙ ap (map value_of) c.deref-2.ensures.value in
    rw (c.of.ensures, are) (values c.in_ok-numbers.numbers.items none ∙ c.in_ok-numbers.ensures)

pub returns-clause-ok : goal.returns-clause-ok
returns-clause-ok c =
    let none : position is_none c.in_ok-numbers.numbers.items ≡ None =
    ap (position is_none) (sym c.deref.ensures.value) ∙ sym c.first_without_number.ensures ∙ c.in_default.is in
    let count : length c.in_ok-numbers.numbers.items ≡ c.args.threads = omega (arith, c.len.ensures) in
    let are : c.in_ok-places.places.items ≡ map value_of c.in_ok-numbers.numbers.items = c.in_ok-places.ensures ∙ ap (map value_of) c.deref-2.ensures.value in
    let found : None ≡ position (λ core. not (nat_lt core c.args.cores)) c.in_ok-places.places.items =
    sym c.in_default-first_without_core.is ∙ c.first_without_core.ensures ∙ ap (position (λ core. not (nat_lt core c.args.cores))) c.deref-3.ensures.value in
    refuses_core c.args.text.now c.args.threads c.args.cores c.in_ok-numbers.numbers.items c.in_ok-places.places.items None c.in_ok-numbers.ensures none count are found
