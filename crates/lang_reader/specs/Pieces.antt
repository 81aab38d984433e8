-- Pieces of forms that a function of its own reads.
use Rattle.std.specs.Prelude.{List, Result, Ok}
use Rattle.lang_tokens.specs.declared.token.Token.{Token}
use Rattle.lang_reader.specs.declared.stop.Stop.{Stop}
use Rattle.lang_reader.specs.Reading.{◌>>=◌}
use Rattle.lang_reader.specs.Readers.{Read}

-- a part, and a mark behind it
unfoldable pub with_mark : {A : Type 0} → (List Token → Read A) → (List Token → Result (List Token) Stop) → List Token → Read A
with_mark part mark ts = do
  x ← part ts
  after ← mark x.1
  Ok (x.0, after)

-- two parts, one behind the other
unfoldable pub in_turn : {A B : Type 0} → (List Token → Read A) → (List Token → Read B) → List Token → Read (A × B)
in_turn first second ts = do
  a ← first ts
  b ← second a.1
  Ok ((a.0, b.0), b.1)

-- no more is read
abbrev pub read_as : {A : Type 0} → A → List Token → Read A
read_as x ts = Ok (x, ts)
