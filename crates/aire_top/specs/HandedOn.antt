-- Services that can be told apart, for tests.
pub use Rattle.node_run.specs.Peers.{AreApart}
