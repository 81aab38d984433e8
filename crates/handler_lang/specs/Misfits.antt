-- A refusal stands at the first token with which no program goes on: it depends on the tokens up to that one, and on
-- no other.
use Rattle.std.specs.Prelude.{◌≡◌, ◌≤◌, ℕ, List, ◌∷◌, ◌++◌, length, drop, Err, ◌⊎◌}
use Rattle.lang_tokens.specs.declared.token.Token.{Token}
use Rattle.lang_tokens.specs.Lexing.{lex, places, tokens}
use Rattle.lang_tree.specs.declared.program.Route.{Route}
use Rattle.lang_grammar.specs.Grammar.{program_tokens}
use Rattle.lang_reader.specs.declared.stop.Cause.{Cause}
use Rattle.handler_lang.specs.Reading.{first_or, read_of, refusal_at}

-- the place of a text's token, counted from 0, or the text's end
abbrev pub place_at : List ℕ → ℕ → ℕ
place_at text n = first_or (length text) (drop n (places (lex text)))

-- a token of the text for which each text whose tokens begin with the same ones up to it is refused, there and so
pub record IsMisfit (text : List ℕ) (why : Cause) : Type 0 where
  pub front : List Token
  pub first : Token
  pub back : List Token
  pub is : tokens (lex text) ≡ front ++ (first ∷ back)
  pub always : (other : List ℕ) (more : List Token) → length other ≤ 65536 → tokens (lex other) ≡ front ++ (first ∷ more) → read_of other ≡ Err (refusal_at why (place_at other (length front)))

-- a refusal stands at the text's end, or at a misfit
abbrev pub StandsFirst : List ℕ → Cause → ℕ → Type 0
StandsFirst text why at = (at ≡ length text) ⊎ IsMisfit text why

-- what stands before this place begins a program, which may nest deeper than a text's may
pub record BeginsProgram (text : List ℕ) (at : ℕ) : Type 0 where
  pub front : List Token
  pub back : List Token
  pub more : List Token
  pub whole : List Route
  pub is : tokens (lex text) ≡ front ++ back
  pub place : at ≡ place_at text (length front)
  pub spelled : front ++ more ≡ program_tokens whole
