use Rattle.std.proofs.Common.{◌≡◌, ◌-◌, ◌<◌, ◌++◌}
use Rattle.trace_tickers.specs.Orders.{order_numbers, order_of}
use Rattle.trace_tickers.proofs.orders.order.Given as goal

abbrev pub invariant-loop : goal.invariant-loop
invariant-loop l = record {
  small : l.x < 2147483648;
  led : l.list.items ++ order_numbers (64 - l.counter) l.x ≡ order_of l.number;
}
