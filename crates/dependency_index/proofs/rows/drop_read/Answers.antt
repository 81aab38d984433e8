use Rattle.dependency_index.specs.declared.reads.ReadKind.TheVariants.{Key, Scan}
use Rattle.dependency_index.proofs.rows.drop_read.Goals as goal

pub drop_label-requires : goal.drop_label-requires
drop_label-requires c = c.requires Key

pub drop_label-requires-in-Scan : goal.drop_label-requires-in-Scan
drop_label-requires-in-Scan c = c.requires Scan
