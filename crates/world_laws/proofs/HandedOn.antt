-- Laws of what steps leave, for the crate above.
pub use Rattle.service_parts.proofs.StepLaws.{step_as_many, step_further, step_steps, step_timely}
