use Rattle.std.proofs.Common.{◌<◌, length, rules}
use Rattle.lang_core.specs.Places.{place_of}
use Rattle.number_blocks.specs.Blocks.{begins}
use Rattle.number_blocks.proofs.SearchLemmas.{all_in, blocks_parted, some_in}
use Rattle.key_labels.specs.KeyRows.{is_slot_below}
use Rattle.key_labels.proofs.key_rows.count_blocks.Goals as goal

pub count_front-requires : goal.count_front-requires
count_front-requires c = λ x there.
    (some_in c.args.blocks.now x.now c.requires.some there, all_in (λ n. n < length c.args.slots.now.items) c.args.blocks.now x.now c.requires.slots there)

pub returns-clause-point : goal.returns-clause-point
returns-clause-point c =
    let below = is_slot_below (place_of c.args.table.now c.args.key.now) c.args.slots.now.items in
    c.count_front.ensures.parted (begins below) (λ x r there e. search rules) (blocks_parted below c.args.blocks.now c.requires.some c.requires.parted)
