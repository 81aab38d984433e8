-- Laws of what steps leave, and of events that answer no live request, for the crates above.
pub use Rattle.service_parts.proofs.StepLaws.{step_as_many, step_further, step_steps, step_timely}
pub use Rattle.service_parts.proofs.SilentLaws.{event_answers_none, RunsNoRequest}
