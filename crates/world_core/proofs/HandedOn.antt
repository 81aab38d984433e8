-- Laws of events for crates above, so that these needn't name the crate of laws.
pub use Rattle.world_laws.proofs.LiveWorldLaws.{fresh_live, live_events}
pub use Rattle.world_laws.proofs.WorldLaws.{events_sound, fresh_sound}
pub use Rattle.world_laws.proofs.HandedOn.{step_as_many, step_further, step_steps, step_timely}
