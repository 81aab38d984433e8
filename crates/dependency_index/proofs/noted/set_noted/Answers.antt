use Rattle.std.proofs.Common.{◌<◌, length, take, drop, nat_lt, sym, ◌∙◌}
use Rattle.std.specs.List.{filter}
use Rattle.key_labels.proofs.EditLemmas.{ok_is}
use Rattle.dependency_index.specs.Reads.{label_of}
use Rattle.dependency_index.proofs.IndexLemmas.{set_is}
use Rattle.dependency_index.proofs.NumberLemmas.{join_ends}
use Rattle.dependency_index.proofs.noted.set_noted.Goals as goal

pub returns-then-taken-clause-noted : goal.returns-then-taken-clause-noted
returns-then-taken-clause-noted c =
    let ns = c.args.noted.now.items in
    let own = c.args.own in
    let at = c.seek_number-at.result.0 in
    let below = rw c.deref.ensures.value at c.seek_number-at.ensures.below in
    let above = rw (c.if-taken.true, c.deref.ensures.value) at c.seek_number-at.ensures.above in
    let lt : at < length ns = rw c.deref.ensures.value at (c.seek_number-at.ensures.within.there c.if-taken.true) in
    set_is at own ns lt below above

pub returns-clause-noted : goal.returns-clause-noted
returns-clause-noted c =
    let ns = c.args.noted.now.items in
    let own = c.args.own in
    let at = c.seek_number-at.result.0 in
    let below = rw c.deref.ensures.value at c.seek_number-at.ensures.below in
    let above = rw (c.if-taken.false, c.deref.ensures.value) at c.seek_number-at.ensures.above in
    ok_is c.insert.result _ _ _ (c.insert.ensures.succeeds c.requires.room) c.insert.ensures.items
    ∙ sym (join_ends (filter (λ m. nat_lt (label_of m) (label_of own)) ns) (filter (λ m. nat_lt (label_of own) (label_of m)) ns) (take at ns) (drop at ns) own below above)
