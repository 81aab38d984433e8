use Rattle.std.proofs.Common.{◌≡◌, ◌≤◌, length, ap, ◌∙◌}
use Rattle.std.specs.List.{insert, sum_by}
use Rattle.std.proofs.lemmas.List.Sums.{sum_by-insert}
use Rattle.lang_lists.proofs.AgeLemmas.{rising_insert}
use Rattle.lang_lists.proofs.age_edits.put_key.Goals as goal

pub returns-clause-rising : goal.returns-clause-rising
returns-clause-rising c =
    let xs = c.args.keys.now.items in
    let at = c.count_before-at.result in
    let parted = rw c.deref.ensures.value at c.count_before-at.ensures.parted in
    let within : at ≤ length xs = rw c.deref.ensures.value at c.count_before-at.ensures.within in
    let put : c.insert.new.self.items ≡ insert xs at c.args.key = rw (c.insert.ensures.succeeds c.requires.room) at c.insert.ensures.items in
    rw put (rising_insert xs c.requires.rising c.args.key at parted within)

pub returns-clause-keys : goal.returns-clause-keys
returns-clause-keys c = λ f.
    let xs = c.args.keys.now.items in
    let at = c.count_before-at.result in
    let put : c.insert.new.self.items ≡ insert xs at c.args.key = rw (c.insert.ensures.succeeds c.requires.room) at c.insert.ensures.items in
    ap (sum_by f) put ∙ sum_by-insert f xs at c.args.key
