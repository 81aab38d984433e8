-- Laws of worlds as they begin, for the crate above.
pub use Rattle.world_settle.proofs.HandedOn.{fresh_live, fresh_sound}
pub use Rattle.world_laws.proofs.DeliveryLaws.{begin_writes_live}
pub use Rattle.world_laws.proofs.PutLemmas.{put, with_is_put}
pub use Rattle.world_laws.proofs.RunLaws.{hand_hands}
pub use Rattle.world_laws.proofs.SendLaws.{arrive_lives, call_answered_lives, call_failed_lives}
pub use Rattle.script_lines.proofs.Outcomes.{line_at-words}
