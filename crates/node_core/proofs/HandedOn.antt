-- Laws of events that answer no live request, for the crate above.
pub use Rattle.service_core.proofs.HandedOn.{event_answers_none}
