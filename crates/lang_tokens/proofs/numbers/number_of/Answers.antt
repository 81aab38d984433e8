use Rattle.lang_tokens.proofs.DigitLemmas.{not_parsed}
use Rattle.lang_tokens.proofs.numbers.number_of.Goals as goal

pub returns-in-Err : goal.returns-in-Err
returns-in-Err c = not_parsed c.args.digits.now c.parse.result _ c.in-Err.is c.parse.ensures.value.0 c.requires.digits c.requires.numeral
