use Rattle.dependency_index.specs.declared.reads.ReadKind.TheVariants.{Key, Scan}
use Rattle.dependency_index.proofs.rows.make_read.Goals as goal

pub make_row-requires : goal.make_row-requires
make_row-requires c = c.requires Key

pub make_row-requires-in-Scan : goal.make_row-requires-in-Scan
make_row-requires-in-Scan c = c.requires Scan
