pub use Rattle.lang_core.specs.declared.ids.Origin.TheVariants.{Outside}
pub use Rattle.lang_core.specs.declared.inputs.Inputs.{Inputs}
pub use Rattle.lang_core.specs.declared.request.Request.{Request}
pub use Rattle.lang_programs.specs.Numbered.{Numbered}
pub use Rattle.lang_programs.specs.Under.{Under, under_of, corrected_under, settled}
pub use Rattle.lang_programs.specs.Numbered.{block_code}
pub use Rattle.lang_programs.specs.Settings.{with_program}
