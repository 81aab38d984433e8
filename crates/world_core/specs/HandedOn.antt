-- What is written in hand, for the crate above.
pub use Rattle.world_laws.specs.InHand.{written_at}
pub use Rattle.world_laws.specs.Runs.{written}
