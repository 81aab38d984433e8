-- What became of a connection, for the crate above.
pub use Rattle.node_exchanges.specs.declared.served.Served.{Served}
pub use Rattle.node_exchanges.specs.declared.served.Served.TheVariants.{Console, NoMemory}
