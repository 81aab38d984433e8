use Rattle.std.proofs.Common.{◌≡◌, ◌-◌, drop, map}
use Rattle.lang_tree.specs.Depths.{all_fit, stmt_fits, block_fits}
use Rattle.lang_tree.proofs.program.+fits.Given as goal

abbrev pub invariant-block_fits-loop-stmt : goal.invariant-block_fits-loop-stmt
invariant-block_fits-loop-stmt l =
    all_fit (map stmt_fits (drop l.stmt-index l.stmt-items)) (l.most - 1) ≡ block_fits l.block l.most
