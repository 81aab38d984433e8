use Rattle.std.proofs.Common.{◌≡◌, take}
use Rattle.lang_tree.proofs.stmt.+copy.Given as goal

abbrev pub invariant-BlockCopied::copied-loop-stmt : goal.invariant-BlockCopied::copied-loop-stmt
invariant-BlockCopied::copied-loop-stmt l = l.stmts ≡ take l.stmt-index l.self.stmts
