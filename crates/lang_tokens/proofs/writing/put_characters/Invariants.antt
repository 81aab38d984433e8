use Rattle.std.proofs.Common.{◌≡◌, ◌++◌, IsUtf8, string_bytes}
use Rattle.std.specs.List.{flat_map}
use Rattle.std.specs.Str.Iter.{chars_rest}
use Rattle.lang_tokens.specs.Spelling.{escaped}
use Rattle.lang_tokens.proofs.writing.put_characters.Given as goal

abbrev pub invariant-loop-character : goal.invariant-loop-character
invariant-loop-character l =
    IsUtf8 (chars_rest l.character-iterator)
    × (string_bytes l.out ++ flat_map escaped (chars_rest l.character-iterator) ≡ string_bytes l.initial.out ++ flat_map escaped l.fn.text)
