use Rattle.std.proofs.Common.{◌≡◌, ◌≤◌, ◌-◌, length}
use Rattle.forec_tree.specs.LexedText.{Cuts, place_at}
use Rattle.forec_lexer.specs.Shown.{IsSame}
use Rattle.forec_lexer.proofs.text.lexed_into.Given as goal

abbrev pub invariant-loop-at : goal.invariant-loop-at
invariant-loop-at l = record {
  within : l.at ≤ length l.text;
  cuts : Cuts l.text l.tokens.items l.names.labels l.at;
  few : length l.tokens.items ≤ 200000;
  place : l.place ≡ place_at l.text l.at;
  same : IsSame l.names;
}

abbrev pub decreases-loop-at : goal.decreases-loop-at
decreases-loop-at l = length l.text - l.at
