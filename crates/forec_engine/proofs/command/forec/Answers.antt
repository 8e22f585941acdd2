use Rattle.forec_engine.proofs.command.forec.Goals as goal

pub returns : goal.returns
returns g c = let did = c.forec_within.ensures in record {
  own = did.own;
  read = did.read;
  write = did.write;
  texts = did.texts;
  trace = did.trace;
  memory = did.memory;
  usage = did.usage;
  complete = did.complete;
}
