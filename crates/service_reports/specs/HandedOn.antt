-- How what an order is about is printed, and the orders that are tried, for the crates above.
pub use Rattle.report_text.specs.Abouts.{about_text}
pub use Rattle.preview_core.specs.declared.trial.Trial.{Trial}
pub use Rattle.preview_core.specs.declared.trial.Trial.TheVariants.{Cancel, Correct}
