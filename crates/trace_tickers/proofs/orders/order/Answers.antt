use Rattle.std.proofs.Common.{ℕ, ◌-◌, ◌+◌, ◌*◌, ◌%◌, [], ◌∷◌, ◌++◌, sym, ap, ◌∙◌, arith}
use Rattle.std.proofs.Math.Nat.{mod-lt}
use Rattle.trace_tickers.specs.Orders.{next, order_numbers}
use Rattle.trace_tickers.proofs.Numbered.{moved, none_left}
use Rattle.trace_tickers.proofs.orders.order.Goals as goal

pub loop-init : goal.loop-init
loop-init c = record {
  small = mod-lt c.args.number (omega arith);
  led = ap (λ xs. xs ++ order_numbers 64 (c.args.number % 2147483648)) c.new-list.ensures.items;
}

pub overflow_mul-x : goal.overflow_mul-x
overflow_mul-x c = (let s = c.loop.invariant.small in let e = c.from.ensures in omega (arith, s, e))

pub overflow_add-x : goal.overflow_add-x
overflow_add-x c = (let s = c.loop.invariant.small in let e = c.from.ensures in omega (arith, s, e))

pub loop-preserved : goal.loop-preserved
loop-preserved c = record {
  small = mod-lt (1103515245 * c.from.result + 12345) (omega arith);
  led = ap (λ xs. xs ++ order_numbers (64 - (c.loop.counter + 1)) ((1103515245 * c.from.result + 12345) % 2147483648)) c.in_ok-push.ensures.items
      ∙ ap (λ (y : ℕ). (c.loop.list.items ++ next y ∷ []) ++ order_numbers (64 - (c.loop.counter + 1)) (next y)) c.from.ensures
      ∙ moved c.loop.counter c.loop.list.items c.loop.x c.loop-test.true ∙ c.loop.invariant.led;
}

pub returns : goal.returns
returns c = (let h = c.loop-test.false in sym (none_left c.loop.counter c.loop.list.items c.loop.x (omega (arith, h))) ∙ c.loop.invariant.led)
