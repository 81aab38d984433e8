-- Words, their grammar and its readers, for the crate above.
pub use Rattle.lang_tokens.specs.Lexing.{lex, tokens}
pub use Rattle.lang_tokens.specs.Spelling.{is_held}
pub use Rattle.lang_grammar.specs.Grammar.{program_tokens}
pub use Rattle.lang_grammar.specs.Printing.{text_of}
pub use Rattle.lang_reader.specs.Readers.{most, program_of}
pub use Rattle.lang_reader.specs.declared.stop.Stop.{Stop}
