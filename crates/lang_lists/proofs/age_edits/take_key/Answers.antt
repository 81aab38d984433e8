use Rattle.std.proofs.Common.{◌≡◌, false, length, ap, arith}
use Rattle.std.specs.List.{sum_by}
use Rattle.std.proofs.lemmas.List.Sums.{sum_by-remove}
use Rattle.std.proofs.lemmas.List.Quantifiers.{all_pairs_remove}
use Rattle.lang_lists.specs.Ages.{is_before}
use Rattle.lang_lists.proofs.AgeLemmas.{stands_at}
use Rattle.lang_lists.proofs.age_edits.take_key.Goals as goal

pub remove-requires : goal.remove-requires
remove-requires c =
    let parted = rw c.deref.ensures.value at c.count_before-at.ensures.parted in
    let lt = (stands_at c.args.keys.now.items c.requires.rising c.args.key c.count_before-at.result parted c.requires.there).0 in
    let same = ap length c.deref.ensures.value in
    omega (arith, lt, same, c.deref.ensures.len)

pub returns-clause-rising : goal.returns-clause-rising
returns-clause-rising c =
    let xs = c.args.keys.now.items in
    let at = c.count_before-at.result in
    let parted = rw c.deref.ensures.value at c.count_before-at.ensures.parted in
    let stands = stands_at xs c.requires.rising c.args.key at parted c.requires.there in
    rw c.remove.ensures.items (all_pairs_remove (λ a b. is_before b a ≡ false) xs at stands.0 c.requires.rising)

pub returns-clause-keys : goal.returns-clause-keys
returns-clause-keys c = λ f.
    let xs = c.args.keys.now.items in
    let at = c.count_before-at.result in
    let parted = rw c.deref.ensures.value at c.count_before-at.ensures.parted in
    let stands = stands_at xs c.requires.rising c.args.key at parted c.requires.there in
    let sums = sum_by-remove f xs at c.args.key stands.0 in
    let here = ap f stands.1 in
    let new = ap (sum_by f) c.remove.ensures.items in
    omega arith
