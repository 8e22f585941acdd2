use Rattle.std.proofs.Common.{◌≡◌, ◌≤◌, ◌+◌, drop}
use Rattle.std.specs.List.{fold}
use Rattle.forec_tree.specs.LexedText.{place_after}
use Rattle.forec_lexer.proofs.text.place_behind.Given as goal

abbrev pub invariant-loop-byte : goal.invariant-loop-byte
invariant-loop-byte l = record {
  line : l.line ≤ l.fn.place.line + l.byte-index;
  column : l.column ≤ l.fn.place.column + l.byte-index;
  same : fold place_after l.fn.place l.bytes ≡ fold place_after (record { line = l.line; column = l.column }) (drop l.byte-index l.bytes);
}
