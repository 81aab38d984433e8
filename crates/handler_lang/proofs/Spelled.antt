-- Texts that spell a program: they are read, and what is printed is one of them.
use Rattle.std.proofs.Common.{◌≡◌, ℕ, ◌≤◌, true, false, List, length, Ok, sym, ap, ◌∙◌, arith}
use Rattle.std.specs.Prelude.{nat_lt}
use Rattle.std.specs.List.{list_all}
use Rattle.std.proofs.lemmas.Bool.Decides.{nat_tests}
use Rattle.lang_tokens.specs.Lexing.{lex, places, tokens}
use Rattle.lang_tokens.specs.Spelling.{is_held}
use Rattle.lang_tokens.proofs.KeptLemmas.{lex_count}
use Rattle.lang_tokens.proofs.WrittenLemmas.{lex_again}
use Rattle.lang_tree.specs.Depths.{routes_fit}
use Rattle.lang_tree.specs.declared.program.Route.{Route}
use Rattle.lang_grammar.specs.Grammar.{program_tokens}
use Rattle.lang_grammar.specs.Printing.{text_of}
use Rattle.lang_reader.specs.Readers.{most, program_of}
use Rattle.handler_lang.specs.Reading.{placed, read_of}
use Rattle.handler_lang.specs.Spelled.{Spells}
use Rattle.handler_lang.proofs.AgainStmts.{routes_again, routes_count}
use Rattle.handler_lang.proofs.SpelledLemmas.{fits_spelled}

-- what is spelled is read
pub read_only : (text : List ℕ) (rs : List Route) → routes_fit rs ≡ true → Spells text rs → length text ≤ 65536 → read_of text ≡ Ok rs
read_only text rs f s small =
    let short : nat_lt 65536 (length text) ≡ false = grind (arith, nat_tests) in
    let few : length (program_tokens rs) ≤ 65536 = omega (arith, lex_count text, ap length s) in
    let read : program_of (tokens (lex text)) ≡ Ok rs = ap program_of s ∙ routes_again rs most (omega (arith, routes_count rs, few)) f few in
    rw short (ap (placed (length text) (places (lex text))) read)

pub one_program : (text : List ℕ) (p q : List Route) → routes_fit p ≡ true → routes_fit q ≡ true → length text ≤ 65536 → Spells text p → Spells text q → p ≡ q
one_program text p q pf qf small ps qs = let e = sym (read_only text p pf ps small) ∙ read_only text q qf qs small in cc

-- what is printed spells the program
pub printed_spells : (rs : List Route) → routes_fit rs ≡ true → list_all is_held (program_tokens rs) ≡ true → Spells (text_of rs) rs
printed_spells rs f held = lex_again (program_tokens rs) (fits_spelled rs f) held

pub read_again : (rs : List Route) → routes_fit rs ≡ true → list_all is_held (program_tokens rs) ≡ true → length (text_of rs) ≤ 65536 → read_of (text_of rs) ≡ Ok rs
read_again rs f held small = read_only (text_of rs) rs f (printed_spells rs f held) small
