use Rattle.std.proofs.Common.{◌-◌, arith}
use Rattle.place_order.proofs.TagLemmas.{between_neighbours}
use Rattle.place_order.proofs.tags.tag_between.Goals as goal

pub returns-else-half-eq0 : goal.returns-else-half-eq0
returns-else-half-eq0 c =
    let rising = c.requires.tagged.rising (c.args.gap - 1) c.args.gap (omega arith) (omega arith) in
    between_neighbours c.args.labels.now c.args.tags.now c.requires.tagged c.args.gap _ c.requires.gap (λ _. omega arith) (λ _. omega arith)
