-- Tokens that are put one behind the other.
use Rattle.std.proofs.Common.{◌≡◌, List, ◌++◌, append_assoc}
use Rattle.lang_tokens.specs.declared.token.Token.{Token}

pub appends : (a b c : List Token) → (a ++ b) ++ c ≡ a ++ (b ++ c)
appends a b c = append_assoc a b c
