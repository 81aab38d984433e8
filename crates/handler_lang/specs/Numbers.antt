-- The numbers of refusals.
use Rattle.std.specs.Prelude.{ℕ}
use Rattle.handler_lang.specs.declared.refused.ProgramRefused.{ProgramRefused}
use Rattle.handler_lang.specs.declared.refused.ProgramRefused.TheVariants as refusal

abbrev pub refusal_number : ProgramRefused → ℕ
refusal_number refusal.NoMemory = 0
refusal_number (refusal.Unexpected at) = 1
refusal_number (refusal.BadString at) = 2
refusal_number (refusal.BadNumber at) = 3
refusal_number (refusal.BadPattern at) = 4
refusal_number (refusal.TooDeep at) = 5
refusal_number (refusal.TooLong at) = 6
