-- The text that is printed of a program.
use Rattle.std.specs.Prelude.{ℕ, List}
use Rattle.lang_tokens.specs.Spelling.{printed}
use Rattle.lang_tree.specs.declared.program.Route.{Route}
use Rattle.lang_grammar.specs.Grammar.{program_tokens}

-- its tokens, as they are written
abbrev pub text_of : List Route → List ℕ
text_of routes = printed (program_tokens routes)
