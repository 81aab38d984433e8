-- What is told of posts that are held, for the crate above.
pub use Rattle.repair_queue.specs.Held.{notices}
