use Rattle.std.proofs.Common.{◌≡◌, ◌<◌, ◌^◌, take}
use Rattle.lang_base.specs.Characters.{digits_value}
use Rattle.http_front.proofs.length.number_of.Given as goal

abbrev pub invariant-loop-digit : goal.invariant-loop-digit
invariant-loop-digit l = record {
  value : l.number ≡ digits_value (take l.digit-index l.text);
  bound : l.number < 10 ^ l.digit-index;
}
