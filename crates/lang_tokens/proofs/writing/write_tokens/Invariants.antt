use Rattle.std.proofs.Common.{◌≡◌, true, take, string_bytes}
use Rattle.std.specs.List.{list_all}
use Rattle.lang_tokens.specs.Spelling.{is_held, printed}
use Rattle.lang_tokens.proofs.writing.write_tokens.Given as goal

abbrev pub invariant-loop-token : goal.invariant-loop-token
invariant-loop-token l =
    (string_bytes l.out ≡ printed (take l.token-index l.tokens)) × (list_all is_held (take l.token-index l.tokens) ≡ true)
