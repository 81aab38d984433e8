use Rattle.std.proofs.Common.{◌≡◌, ◌+◌, drop}
use Rattle.std.specs.List.{prefix_len}
use Rattle.lang_tokens.specs.Lexing.{is_word_part}
use Rattle.lang_tokens.proofs.words.word_len.Given as goal

abbrev pub invariant-loop-byte : goal.invariant-loop-byte
invariant-loop-byte l = (l.len ≡ l.byte-index) × (l.byte-index + prefix_len is_word_part (drop l.byte-index l.bytes) ≡ prefix_len is_word_part l.bytes)
