use Rattle.dependency_index.specs.declared.reads.ReadKind.TheVariants.{Key, Scan}
use Rattle.dependency_index.proofs.rows.copied_reads.Goals as goal

pub copied_rows-requires : goal.copied_rows-requires
copied_rows-requires c = c.requires Key

pub copied_rows-requires-2 : goal.copied_rows-requires-2
copied_rows-requires-2 c = c.requires Scan
