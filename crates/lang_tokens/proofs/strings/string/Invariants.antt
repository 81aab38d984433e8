use Rattle.std.proofs.Common.{◌≡◌, ◌≤◌, ◌+◌, length}
use Rattle.lang_tokens.specs.Lexing.{string_from}
use Rattle.lang_tokens.proofs.StringLemmas.{with_text}
use Rattle.lang_tokens.proofs.strings.string.Given as goal

abbrev pub invariant-loop : goal.invariant-loop
invariant-loop l = (with_text l.text.items (string_from l.left) ≡ string_from l.bytes) × (length l.left + l.counter ≤ length l.bytes)
