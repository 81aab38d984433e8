-- Which programs are in use at a service, for the crates above.
pub use Rattle.service_core.specs.Programs.{programs_in_use}
pub use Rattle.service_core.specs.declared.programs.ProgramInUse.{ProgramInUse}
