use Rattle.dump_reader.proofs.ReadLemmas.{only_these, spelled}
use Rattle.dump_reader.proofs.reading.read_dump.Goals as goal

pub returns-clause-found : goal.returns-clause-found
returns-clause-found c = spelled c.args.bytes.now c.read.result c.read.ensures

pub returns-clause-only : goal.returns-clause-only
returns-clause-only c = λ services kept spells short. only_these c.args.bytes.now services c.read.result kept spells short c.read.ensures
