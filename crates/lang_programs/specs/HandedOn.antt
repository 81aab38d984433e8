-- The text that is printed of a program, for the crate above.
pub use Rattle.handler_lang.specs.HandedOn.{text_of}
