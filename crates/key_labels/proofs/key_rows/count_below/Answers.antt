use Rattle.std.proofs.Common.{◌≡◌, ◌+◌, ◌-◌, ◌<◌, ℕ, List, [], true, false, length, sym, ap, ◌∙◌, subst, arith, refl}
use Rattle.std.specs.List.{AllByRecursion}
use Rattle.std.specs.List.Sorted.{IsPartitionedBy, IsPartitionPoint}
use Rattle.std.proofs.lemmas.List.{get_or_read}
use Rattle.lang_core.specs.Places.{place_of}
use Rattle.number_blocks.specs.Blocks.{start_of}
use Rattle.number_blocks.proofs.SearchLemmas.{all_at, block_parted, found, found_within, none_before}
use Rattle.key_labels.specs.KeyRows.{is_slot_below}
use Rattle.key_labels.proofs.KeyRowLemmas.{rank_told, slots_parted}
use Rattle.key_labels.proofs.key_rows.count_below.Goals as goal

pub count_blocks-before-requires-clause-slots : goal.count_blocks-before-requires-clause-slots
count_blocks-before-requires-clause-slots c =
    let P : List ℕ → Type 0 = λ l. AllByRecursion (λ slot. slot < length c.args.slots.now.items) l in
    subst P c.as_slice-blocks.ensures.items c.requires.arranged.within

pub count_blocks-before-requires-clause-parted : goal.count_blocks-before-requires-clause-parted
count_blocks-before-requires-clause-parted c =
    let order = c.args.order.now.items in
    let slots = c.args.slots.now.items in
    let p = place_of c.args.table.now c.args.key.now in
    let below = is_slot_below p slots in
    let P : List ℕ → Type 0 = λ l. IsPartitionedBy below l in
    let parted = subst P c.as_slice-blocks.ensures.items (slots_parted order slots p c.requires.arranged c.requires.ordered) in
    parted

pub returns-then-before-eq0-clause-rank : goal.returns-then-before-eq0-clause-rank
returns-then-before-eq0-clause-rank c =
    let order = c.args.order.now.items in
    let slots = c.args.slots.now.items in
    let p = place_of c.args.table.now c.args.key.now in
    let below = is_slot_below p slots in
    let blocks = c.as_slice-blocks.result.now in
    let P : List ℕ → Type 0 = λ l. IsPartitionedBy below l in
    let parted = subst P c.as_slice-blocks.ensures.items (slots_parted order slots p c.requires.arranged c.requires.ordered) in
    let Q : List ℕ → Type 0 = λ l. IsPartitionPoint (λ n. below n ≡ true) (λ n. below n ≡ false) l 0 in
    rank_told order slots p 0 c.requires.arranged (omega arith)
    (subst Q (sym c.as_slice-blocks.ensures.items) (none_before below blocks c.as_slice-blocks.ensures.some parted c.count_blocks-before.result c.if-before-eq0.true c.count_blocks-before.ensures.point))

pub start-requires : goal.start-requires
start-requires c =
    let some : 0 < c.count_blocks-before.result = grind (arith, c.if-before-eq0.false) in
    let within = c.count_blocks-before.ensures.within in
    let many = ap length c.as_slice-blocks.ensures.blocks in
    omega (arith, some, within, many)

pub bounds-blocks-block : goal.bounds-blocks-block
bounds-blocks-block c =
    let some : 0 < c.count_blocks-before.result = grind (arith, c.if-before-eq0.false) in
    let within = c.count_blocks-before.ensures.within in
    omega (arith, some, within)

pub count_slots-requires-clause-slots : goal.count_slots-requires-clause-slots
count_slots-requires-clause-slots c =
    let order = c.args.order.now.items in
    let slots = c.args.slots.now.items in
    let p = place_of c.args.table.now c.args.key.now in
    let below = is_slot_below p slots in
    let blocks = c.as_slice-blocks.result.now in
    let some : 0 < c.count_blocks-before.result = grind (arith, c.if-before-eq0.false) in
    let within = c.count_blocks-before.ensures.within in
    let block = c.count_blocks-before.result - 1 in
    let inside : block < length blocks = omega (arith, some, within) in
    let read = get_or_read blocks block c.index-blocks-block.result inside c.index-blocks-block.is [] in
    let P : List ℕ → Type 0 = λ l. AllByRecursion (λ slot. slot < length slots) l in
    subst P (sym read) (all_at (λ slot. slot < length slots) blocks block (subst P c.as_slice-blocks.ensures.items c.requires.arranged.within) inside)

pub count_slots-requires-clause-parted : goal.count_slots-requires-clause-parted
count_slots-requires-clause-parted c =
    let order = c.args.order.now.items in
    let slots = c.args.slots.now.items in
    let p = place_of c.args.table.now c.args.key.now in
    let below = is_slot_below p slots in
    let blocks = c.as_slice-blocks.result.now in
    let P : List ℕ → Type 0 = λ l. IsPartitionedBy below l in
    let parted = subst P c.as_slice-blocks.ensures.items (slots_parted order slots p c.requires.arranged c.requires.ordered) in
    let some : 0 < c.count_blocks-before.result = grind (arith, c.if-before-eq0.false) in
    let within = c.count_blocks-before.ensures.within in
    let block = c.count_blocks-before.result - 1 in
    let inside : block < length blocks = omega (arith, some, within) in
    let read = get_or_read blocks block c.index-blocks-block.result inside c.index-blocks-block.is [] in
    subst P (sym read) (block_parted below blocks c.as_slice-blocks.ensures.some parted block inside)

pub overflow_add-result : goal.overflow_add-result
overflow_add-result c =
    let order = c.args.order.now.items in
    let slots = c.args.slots.now.items in
    let p = place_of c.args.table.now c.args.key.now in
    let below = is_slot_below p slots in
    let blocks = c.as_slice-blocks.result.now in
    let P : List ℕ → Type 0 = λ l. IsPartitionedBy below l in
    let parted = subst P c.as_slice-blocks.ensures.items (slots_parted order slots p c.requires.arranged c.requires.ordered) in
    let some : 0 < c.count_blocks-before.result = grind (arith, c.if-before-eq0.false) in
    let within = c.count_blocks-before.ensures.within in
    let block = c.count_blocks-before.result - 1 in
    let inside : block < length blocks = omega (arith, some, within) in
    let read = get_or_read blocks block c.index-blocks-block.result inside c.index-blocks-block.is [] in
    let R : List ℕ → Type 0 = λ l. IsPartitionPoint (λ n. below n ≡ true) (λ n. below n ≡ false) l c.count_slots.result in
    let inner = subst R read c.count_slots.ensures.point in
    let few = ap length read in
    let most = c.count_slots.ensures.within in
    let begins = c.start.ensures ∙ ap (start_of block) (sym c.as_slice-blocks.ensures.blocks) in
    let all = found_within below blocks c.as_slice-blocks.ensures.some parted c.count_blocks-before.result block c.count_slots.result within refl some c.count_blocks-before.ensures.point (omega (arith, most, few)) inner in
    let whole = ap length c.as_slice-blocks.ensures.items in
    let bound = c.as_slice-blocks.ensures.few in
    omega (arith, all, whole, bound, begins)

pub returns-clause-rank : goal.returns-clause-rank
returns-clause-rank c =
    let order = c.args.order.now.items in
    let slots = c.args.slots.now.items in
    let p = place_of c.args.table.now c.args.key.now in
    let below = is_slot_below p slots in
    let blocks = c.as_slice-blocks.result.now in
    let P : List ℕ → Type 0 = λ l. IsPartitionedBy below l in
    let parted = subst P c.as_slice-blocks.ensures.items (slots_parted order slots p c.requires.arranged c.requires.ordered) in
    let some : 0 < c.count_blocks-before.result = grind (arith, c.if-before-eq0.false) in
    let within = c.count_blocks-before.ensures.within in
    let block = c.count_blocks-before.result - 1 in
    let inside : block < length blocks = omega (arith, some, within) in
    let read = get_or_read blocks block c.index-blocks-block.result inside c.index-blocks-block.is [] in
    let R : List ℕ → Type 0 = λ l. IsPartitionPoint (λ n. below n ≡ true) (λ n. below n ≡ false) l c.count_slots.result in
    let inner = subst R read c.count_slots.ensures.point in
    let few = ap length read in
    let most = c.count_slots.ensures.within in
    let begins = c.start.ensures ∙ ap (start_of block) (sym c.as_slice-blocks.ensures.blocks) in
    let Q : List ℕ → Type 0 = λ l. IsPartitionPoint (λ n. below n ≡ true) (λ n. below n ≡ false) l (start_of block blocks + c.count_slots.result) in
    let all = found_within below blocks c.as_slice-blocks.ensures.some parted c.count_blocks-before.result block c.count_slots.result within refl some c.count_blocks-before.ensures.point (omega (arith, most, few)) inner in
    let point = found below blocks c.as_slice-blocks.ensures.some parted c.count_blocks-before.result block c.count_slots.result within refl some c.count_blocks-before.ensures.point (omega (arith, most, few)) inner in
    let whole = ap length c.as_slice-blocks.ensures.items in
    ap (λ n. n + c.count_slots.result) begins
    ∙ rank_told order slots p (start_of block blocks + c.count_slots.result) c.requires.arranged (omega (arith, all, whole)) (subst Q (sym c.as_slice-blocks.ensures.items) point)

pub returns-clause-within : goal.returns-clause-within
returns-clause-within c =
    let order = c.args.order.now.items in
    let slots = c.args.slots.now.items in
    let p = place_of c.args.table.now c.args.key.now in
    let below = is_slot_below p slots in
    let blocks = c.as_slice-blocks.result.now in
    let P : List ℕ → Type 0 = λ l. IsPartitionedBy below l in
    let parted = subst P c.as_slice-blocks.ensures.items (slots_parted order slots p c.requires.arranged c.requires.ordered) in
    let some : 0 < c.count_blocks-before.result = grind (arith, c.if-before-eq0.false) in
    let within = c.count_blocks-before.ensures.within in
    let block = c.count_blocks-before.result - 1 in
    let inside : block < length blocks = omega (arith, some, within) in
    let read = get_or_read blocks block c.index-blocks-block.result inside c.index-blocks-block.is [] in
    let R : List ℕ → Type 0 = λ l. IsPartitionPoint (λ n. below n ≡ true) (λ n. below n ≡ false) l c.count_slots.result in
    let inner = subst R read c.count_slots.ensures.point in
    let few = ap length read in
    let most = c.count_slots.ensures.within in
    let begins = c.start.ensures ∙ ap (start_of block) (sym c.as_slice-blocks.ensures.blocks) in
    let all = found_within below blocks c.as_slice-blocks.ensures.some parted c.count_blocks-before.result block c.count_slots.result within refl some c.count_blocks-before.ensures.point (omega (arith, most, few)) inner in
    let whole = ap length c.as_slice-blocks.ensures.items in
    omega (arith, all, whole, begins)
