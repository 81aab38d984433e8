use Rattle.dump_reader.specs.Alone.{not_among}
use Rattle.dump_reader.proofs.steps.head_of.Goals as goal

pub invariant_of-result : goal.invariant_of-result
invariant_of-result c = record {
  alone = not_among c.args.me c.args.peers c.requires;
}
