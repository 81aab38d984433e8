use Rattle.std.proofs.Common.{◌≡◌, ◌-◌, length}
use Rattle.lang_tokens.specs.Lexing.{lex, start_of, places, token_of, tokens}
use Rattle.lang_tokens.proofs.LexLemmas.{found_from}
use Rattle.lang_tokens.proofs.lexer.lex.Given as goal

abbrev pub invariant-loop : goal.invariant-loop
invariant-loop l =
    (found_from token_of l.found.tokens (length l.text - l.counter) (length l.text) l.left ≡ tokens (lex l.text))
    × (found_from start_of l.found.places (length l.text - l.counter) (length l.text) l.left ≡ places (lex l.text))
