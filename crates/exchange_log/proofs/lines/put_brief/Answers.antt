use Rattle.std.proofs.Common.{◌≡◌, ◌≤◌, ◌+◌, ◌/◌, ◌%◌, ◌++◌, ◌∷◌, [], List, ℕ, take, sym, ap, ◌∙◌, arith, append_assoc}
use Rattle.std.proofs.lemmas.Fmt.{decimal_digit}
use Rattle.itoa.proofs.Decimal.{decimal_two}
use Rattle.exchange_log.proofs.lines.put_brief.Goals as goal

pub returns-then-number-lt10-clause-front : goal.returns-then-number-lt10-clause-front
returns-then-number-lt10-clause-front c =
    c.put_byte.ensures.front ∙ ap (λ (l : List ℕ). take c.args.at c.args.buffer.now ++ l) (sym (decimal_digit c.args.number c.if-number-lt10.true))

pub returns-clause-front : goal.returns-clause-front
returns-clause-front c =
    let n = c.args.number in
    let front = take c.args.at c.args.buffer.now in
    let ten : 10 ≤ n = (let small = c.if-number-lt10.false in omega arith) in
    c.put_byte-2.ensures.front ∙ (ap (λ (l : List ℕ). l ++ (48 + n % 10) ∷ []) c.put_byte-end.ensures.front
    ∙ (append_assoc front ((48 + n / 10) ∷ []) ((48 + n % 10) ∷ []) ∙ ap (λ (l : List ℕ). front ++ l) (sym (decimal_two n ten c.requires.brief))))
