-- Programs as they are kept: as the text that is printed of them.
use Rattle.std.specs.Prelude.{◌≡◌, ℕ, Bool, true, List, [], length, Option, Some, None, is_some, Result, Ok, Err, if◌then◌else◌, nat_lt}
use Rattle.handler_lang.specs.HandedOn.{lex, tokens}
use Rattle.lang_tree.specs.Depths.{routes_fit}
use Rattle.lang_tree.specs.declared.program.Route.{Route}
use Rattle.handler_lang.specs.HandedOn.{text_of}
use Rattle.handler_lang.specs.HandedOn.{program_of}
use Rattle.handler_lang.specs.HandedOn.{Stop}
use Rattle.handler_lang.specs.Spelled.{Spells}

abbrev pub routes_or_none : Result (List Route) Stop → List Route
routes_or_none (Ok routes) = routes
routes_or_none (Err stop) = []

-- a list of routes, where it is a program
abbrev pub fitting : Result (List Route) Stop → Option (List Route)
fitting (Ok routes) = if routes_fit routes then Some routes else None
fitting (Err stop) = None

-- the program that a text's tokens are, if they are one
abbrev pub program_in : List ℕ → Option (List Route)
program_in text = fitting (program_of (tokens (lex text)))

-- the program that the text's tokens are, unless a tree is kept beside the text
abbrev pub kept_program : Option (List Route) → List ℕ → List Route
kept_program None text = routes_or_none (program_of (tokens (lex text)))
kept_program (Some routes) text = routes

-- more tokens than a text has from which a program is read
abbrev pub is_long : List ℕ → Bool
is_long text = nat_lt 65536 (length (tokens (lex text)))

-- the text is the one that is printed of the program, and the tree is kept beside it exactly where the text is too long to be read back
pub record IsKept (tree : Option (List Route)) (text : List ℕ) (program : List Route) : Type 0 where
  pub prints : text ≡ text_of program
  pub spells : Spells text program
  pub fits : routes_fit program ≡ true
  pub beside : is_some tree ≡ is_long text
