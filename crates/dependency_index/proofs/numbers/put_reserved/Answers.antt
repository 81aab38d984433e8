use Rattle.std.proofs.Common.{◌≡◌, ◌<◌, ◌≤◌, ◌∷◌, ◌++◌, suc, length, take, drop, sym, ap, ◌∙◌, arith}
use Rattle.std.proofs.lemmas.List.{map-id}
use Rattle.key_labels.proofs.EditLemmas.{ok_is}
use Rattle.dependency_index.specs.Numbers.{with_number}
use Rattle.dependency_index.proofs.NumberLemmas.{parted, ends_are, longer_by}
use Rattle.dependency_index.proofs.numbers.put_reserved.Goals as goal

pub seek_number-at-requires : goal.seek_number-at-requires
seek_number-at-requires c = rw (map-id, c.deref.ensures.value) c.requires.rising

pub returns-then-taken-clause-items : goal.returns-then-taken-clause-items
returns-then-taken-clause-items c =
    let xs = c.args.numbers.now.items in
    let at = c.seek_number-at.result.0 in
    let n = c.args.number in
    let below = rw c.deref.ensures.value at c.seek_number-at.ensures.below in
    let above = rw (c.if-taken.true, c.deref.ensures.value) at c.seek_number-at.ensures.above in
    let lt : at < length xs = rw c.deref.ensures.value at (c.seek_number-at.ensures.within.there c.if-taken.true) in
    let here = rw c.deref.ensures.value at (c.seek_number-at.ensures.here c.if-taken.true n) in
    sym (ends_are n xs (take at xs) (drop (suc at) xs) below above ∙ parted at n xs lt (sym here))

pub insert-requires : goal.insert-requires
insert-requires c = let within : c.seek_number-at.result.0 ≤ length c.args.numbers.now.items = rw c.deref.ensures.value at c.seek_number-at.ensures.within.within in omega arith

pub returns-clause-items : goal.returns-clause-items
returns-clause-items c =
    let xs = c.args.numbers.now.items in
    let at = c.seek_number-at.result.0 in
    let n = c.args.number in
    let below = rw c.deref.ensures.value at c.seek_number-at.ensures.below in
    let above = rw (c.if-taken.false, c.deref.ensures.value) at c.seek_number-at.ensures.above in
    let is : with_number n xs ≡ take at xs ++ n ∷ drop at xs = ends_are n xs (take at xs) (drop at xs) below above in
    let long = longer_by n at xs ∙ sym (ap length is) in
    let fits = c.requires.fits in
    ok_is c.insert.result _ _ _ (c.insert.ensures.succeeds (omega arith)) c.insert.ensures.items ∙ sym is
