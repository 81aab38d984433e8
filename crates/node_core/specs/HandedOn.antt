-- To which service a post goes, for the crate above.
pub use Rattle.service_core.specs.HandedOn.{GoesTo}
