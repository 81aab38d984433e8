pub use Rattle.lang_core.specs.Origins.{is_call}
pub use Rattle.lang_core.specs.Rows.{apply}
pub use Rattle.lang_core.specs.Traces.{dead_trace}
pub use Rattle.lang_core.specs.declared.cells.Cell.{Cell}
pub use Rattle.lang_core.specs.declared.ids.Origin.{Origin}
pub use Rattle.lang_core.specs.declared.ids.Origin.TheVariants.{Call, Outside}
pub use Rattle.lang_core.specs.declared.inputs.Inputs.{Inputs}
pub use Rattle.lang_core.specs.declared.request.Request.{Request}
pub use Rattle.lang_core.specs.declared.request.Response.{Response}
pub use Rattle.lang_core.specs.declared.setting.Setting.{Setting}
pub use Rattle.lang_core.specs.declared.trace.CallMade.{CallMade}
pub use Rattle.lang_core.specs.declared.trace.Trace.{Trace}
pub use Rattle.lang_programs.specs.Numbered.{Numbered, block_code}
pub use Rattle.lang_programs.specs.Settings.{with_program}
pub use Rattle.lang_tree.specs.declared.program.Route.{Route}
pub use Rattle.lang_tree.specs.declared.stmt.Block.{Block}
pub use Rattle.lang_base.specs.Texts.{same_text}
pub use Rattle.lang_programs.specs.Numbered.{Numbered}
