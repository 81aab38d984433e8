use Rattle.std.proofs.Common.{◌<◌, ◌^◌, arith}
use Rattle.wire_words.proofs.TableLaws.{told_back}
use Rattle.wire_words.proofs.refusals.refusal.Goals as goal

pub returns-clause-read : goal.returns-clause-read
returns-clause-read c = let small : c.args.number < 2 ^ 64 = omega arith in told_back c.args.word.now c.args.number small

pub returns-in_err-word-clause-read : goal.returns-in_err-word-clause-read
returns-in_err-word-clause-read c = let small : c.args.number < 2 ^ 64 = omega arith in told_back c.args.word.now c.args.number small
