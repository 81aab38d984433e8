use Rattle.std.proofs.Common.{◌≡◌, false, drop}
use Rattle.lang_tokens.specs.Lexing.{past_gap}
use Rattle.lang_tokens.proofs.words.past_gap.Given as goal

abbrev pub invariant-loop-i : goal.invariant-loop-i
invariant-loop-i l = past_gap l.within (drop l.i l.bytes) ≡ past_gap false l.bytes
