use Rattle.std.proofs.Common.{◌≡◌, ℕ, List, true, false, sym, subst, rules}
use Rattle.std.specs.List.Sorted.{IsPartitionedBy, IsPartitionPoint}
use Rattle.lang_core.specs.Places.{place_of}
use Rattle.key_labels.specs.KeyRows.{is_slot_below}
use Rattle.key_labels.proofs.key_rows.count_slots.Goals as goal

pub returns-clause-point : goal.returns-clause-point
returns-clause-point c =
    let below = is_slot_below (place_of c.args.table.now c.args.key.now) c.args.slots.now.items in
    let P : List ℕ → Type 0 = λ l. IsPartitionedBy below l in
    let Q : List ℕ → Type 0 = λ l. IsPartitionPoint (λ n. below n ≡ true) (λ n. below n ≡ false) l c.count_front.result in
    subst Q c.as_slice.ensures (c.count_front.ensures.parted below (λ x r there e. search rules) (subst P (sym c.as_slice.ensures) c.requires.parted))
