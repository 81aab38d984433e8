use Rattle.dependency_index.specs.declared.reads.ReadKind.TheVariants.{Key, Scan}
use Rattle.dependency_index.proofs.prune.prune_read.Goals as goal

pub prune_where-requires-clause-ordered : goal.prune_where-requires-clause-ordered
prune_where-requires-clause-ordered c = c.requires.ordered Key

pub prune_where-requires-in-Scan-clause-ordered : goal.prune_where-requires-in-Scan-clause-ordered
prune_where-requires-in-Scan-clause-ordered c = c.requires.ordered Scan
