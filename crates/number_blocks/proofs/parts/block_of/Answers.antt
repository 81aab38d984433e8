use Rattle.std.proofs.Common.{leb, rules}
use Rattle.number_blocks.proofs.BlockLemmas.{stands, starts_parted}
use Rattle.number_blocks.proofs.parts.block_of.Goals as goal

pub returns : goal.returns
returns c = λ blocks are some within.
    let starts = c.args.starts.now in
    let place = c.args.place in
    stands blocks starts place c.count_front.result c.saturating_sub.result are some within c.count_front.ensures.within
    (c.count_front.ensures.parted (λ s. leb s place) (λ x r there e. search rules) (starts_parted blocks starts place are)) c.saturating_sub.ensures
