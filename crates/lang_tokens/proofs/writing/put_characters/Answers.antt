use Rattle.std.proofs.Common.{append_assoc}
use Rattle.std.proofs.lemmas.Str.{IsUtf8-past_char}
use Rattle.lang_tokens.proofs.SpellingLemmas.{escaped_append}
use Rattle.lang_tokens.proofs.writing.put_characters.Goals as goal

pub loop-character-preserved : goal.loop-character-preserved
loop-character-preserved c =
    let held = c.loop-character.invariant in
    let parts = c.in-Some.ensures.steps.0 in
    (IsUtf8-past_char _ _ c.in-Some.character held.0 parts, rw (c.in_ok-put_character.ensures, append_assoc, ← escaped_append) (rw parts at held.1))
