-- Laws of events for the crate above, so that it needn't name those below.
pub use Rattle.world_core.proofs.HandedOn.{fresh_live, live_events, events_sound, fresh_sound}
