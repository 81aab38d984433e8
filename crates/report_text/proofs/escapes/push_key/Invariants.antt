use Rattle.std.proofs.Common.{◌≡◌, ◌++◌, flat_map, string_bytes}
use Rattle.std.specs.Str.{encode_utf8_all}
use Rattle.report_text.specs.Reports.{key_byte}
use Rattle.report_text.proofs.escapes.push_key.Given as goal

abbrev pub invariant-loop-character : goal.invariant-loop-character
invariant-loop-character l = string_bytes l.text ≡ string_bytes l.initial.text ++ flat_map key_byte (encode_utf8_all l.yielded)
