-- That none comes first where none is stale, for the crate above; and that a service of which nothing is stale replays, for those that serve.
pub use Rattle.local_repair.proofs.TestLemmas.{none_first}
pub use Rattle.world_agreement.proofs.ReplayLaws.{recorded}
