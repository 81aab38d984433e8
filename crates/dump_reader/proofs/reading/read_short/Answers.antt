use Rattle.dump_reader.specs.Reading.{lines_of}
use Rattle.dump_reader.proofs.KeptLemmas.{lines_kept}
use Rattle.dump_reader.proofs.reading.read_short.Goals as goal

pub dump_of-requires : goal.dump_of-requires
dump_of-requires c = ∣ lines_kept (lines_of c.args.bytes.now) c.in_ok-services.services c.in_ok-services.ensures ∣₁
