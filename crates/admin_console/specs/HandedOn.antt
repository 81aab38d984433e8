-- The orders that are tried, for the crates above.
pub use Rattle.service_reports.specs.HandedOn.{Trial}
