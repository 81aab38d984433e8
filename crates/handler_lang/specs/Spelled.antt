-- Which text spells which program.
use Rattle.std.specs.Prelude.{◌≡◌, ℕ, List}
use Rattle.lang_tokens.specs.Lexing.{lex, tokens}
use Rattle.lang_tree.specs.declared.program.Route.{Route}
use Rattle.lang_grammar.specs.Grammar.{program_tokens}

-- the text's tokens are the program's
abbrev pub Spells : List ℕ → List Route → Type 0
Spells text routes = tokens (lex text) ≡ program_tokens routes
