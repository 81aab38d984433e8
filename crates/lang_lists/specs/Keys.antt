-- Keys of texts.
use Rattle.std.specs.Prelude.{ℕ, List, bit_xor}
use Rattle.std.specs.Hash.FoldHasher.{initial, write, finish}

-- the hash of a text's bytes
abbrev pub text_key : List ℕ → ℕ
text_key text = finish (write initial text)

-- the key of the call of this number of this caller
abbrev pub call_key : List ℕ → ℕ → ℕ
call_key caller number = bit_xor (text_key caller) number
