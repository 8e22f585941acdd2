use Rattle.std.proofs.Common.{◌≡◌, ◌≤◌, ◌↔◌, ℕ, List, length, take, map}
use Rattle.forec_engine.specs.Farming.{AreRead}
use Rattle.forec_engine.proofs.farm_traces.read_traces.Given as goal

abbrev pub invariant-loop-name : goal.invariant-loop-name
invariant-loop-name g l = record {
  read : AreRead (g.T.Texts.content l.fn.texts) (take l.name-index (map (λ n. n.now) l.names)) l.long.items (map (λ v. v.items) l.bytes.items);
  content : (n : List ℕ) → g.T.Texts.content l.texts n ≡ g.T.Texts.content l.fn.texts n;
  may : (n : List ℕ) → g.T.Texts.may l.texts n ↔ g.T.Texts.may l.fn.texts n;
  long : length l.long.items ≡ l.name-index;
  bytes : length l.bytes.items ≡ l.name-index;
  later : g.T.Texts.faults l.fn.texts ≤ g.T.Texts.faults l.texts;
}
