-- What is read of a text is spelled so, and what is spelled so is read.
use Rattle.std.proofs.Common.{◌≡◌, ℕ, ◌≤◌, Bool, true, false, cond, List, length, Result, Ok, Err}
use Rattle.std.specs.Prelude.{nat_lt}
use Rattle.lang_tokens.specs.Lexing.{lex, places, tokens}
use Rattle.lang_tree.specs.Depths.{routes_fit}
use Rattle.lang_tree.specs.declared.program.Route.{Route}
use Rattle.lang_reader.specs.declared.stop.Stop.{Stop}
use Rattle.lang_reader.specs.Readers.{most, program_of}
use Rattle.handler_lang.specs.declared.refused.ProgramRefused.{ProgramRefused}
use Rattle.handler_lang.specs.declared.refused.ProgramRefused.TheVariants as refusal
use Rattle.handler_lang.specs.Reading.{Answers, placed, read_of}
use Rattle.handler_lang.specs.Spelled.{Spells}
use Rattle.handler_lang.proofs.StmtLaws.{routes_exact}
use Rattle.handler_lang.proofs.Spelled.{read_only}

placed_ok : (total : ℕ) (ats : List ℕ) (r : Result (List Route) Stop) (rs : List Route) → placed total ats r ≡ Ok rs → r ≡ Ok rs
placed_ok total ats (Ok qs) rs e = cc
placed_ok total ats (Err s) rs e = absurd cc

spelled_by : (text : List ℕ) (rs : List Route) (b : Bool) → cond b (Err (refusal.TooLong 65536)) (placed (length text) (places (lex text)) (program_of (tokens (lex text)))) ≡ Ok rs → Spells text rs
spelled_by text rs true h = absurd cc
spelled_by text rs false h = routes_exact most (tokens (lex text)) rs (placed_ok (length text) (places (lex text)) (program_of (tokens (lex text))) rs h)

pub read_spells : (text : List ℕ) (rs : List Route) → read_of text ≡ Ok rs → Spells text rs
read_spells text rs h = spelled_by text rs (nat_lt 65536 (length text)) h

pub only_answer : (answer : Result (List Route) ProgramRefused) (text : List ℕ) (rs : List Route) → Answers answer (read_of text) → routes_fit rs ≡ true → Spells text rs → length text ≤ 65536 → Answers answer (Ok rs)
only_answer answer text rs a f s small = rw (read_only text rs f s small) at a
