-- What contracts say of texts and their characters, for the crate above.
pub use Rattle.lang_base.specs.Characters.{is_digit, is_lower, is_visible}
pub use Rattle.lang_base.specs.Texts.{same_text, text_order, begins_with}
