use Rattle.std.proofs.Common.{◌≡◌, take}
use Rattle.lang_programs.proofs.stmts.+same.Given as goal

abbrev pub invariant-same_block-loop-i : goal.invariant-same_block-loop-i
invariant-same_block-loop-i l = take l.i l.left.stmts ≡ take l.i l.right.stmts
