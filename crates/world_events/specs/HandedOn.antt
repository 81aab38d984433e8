-- The service of a name, for the crate above.
pub use Rattle.world_agreement.specs.Partners.{service_of}
