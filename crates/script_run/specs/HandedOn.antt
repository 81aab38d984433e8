-- What runs of worlds are, for the crate above.
pub use Rattle.world_laws.specs.InHand.{IsInHand}
pub use Rattle.world_laws.specs.Runs.{IsAsking, IsRun, written}
pub use Rattle.script_lines.specs.Lines.{Read, asked, asking_at, at_end, body_of, cut_at, entry_order_at, is_asked_path, is_passed_over, line_at, number_at, numbered, numbered_at, order_of, order_parts, order_with, request_of, rest_or_empty, shaped, short_enough, where_good, with_part, with_word, words_at}
pub use Rattle.script_lines.specs.declared.line.Line.{Line}
pub use Rattle.script_lines.specs.declared.line.Line.TheVariants.{Ask, Event, Settle}
