-- What is read of a text fits.
use Rattle.std.proofs.Common.{◌≡◌, ℕ, ◌≤◌, true, List, length, Ok}
use Rattle.lang_tokens.specs.Lexing.{lex, tokens}
use Rattle.lang_tokens.proofs.KeptLemmas.{lex_kept}
use Rattle.lang_tree.specs.Depths.{routes_fit}
use Rattle.lang_tree.specs.declared.program.Route.{Route}
use Rattle.lang_reader.specs.Readers.{most, program_of}
use Rattle.handler_lang.proofs.StmtLaws.{routes_read_fit}

pub read_fits : (text : List ℕ) (rs : List Route) → length text ≤ 65536 → program_of (tokens (lex text)) ≡ Ok rs → routes_fit rs ≡ true
read_fits text rs small e = routes_read_fit most (tokens (lex text)) rs (lex_kept text small) e
