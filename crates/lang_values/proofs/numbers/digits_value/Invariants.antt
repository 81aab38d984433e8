use Rattle.std.proofs.Common.{◌≡◌, min, take}
use Rattle.lang_base.specs.Characters.{digits_value}
use Rattle.lang_values.proofs.numbers.digits_value.Given as goal

abbrev pub invariant-loop-digit : goal.invariant-loop-digit
invariant-loop-digit l = l.value ≡ min (digits_value (take l.digit-index l.digits)) 18446744073709551615
