use Rattle.std.proofs.Common.{◌≡◌, ◌∷◌, ◌++◌, suc, length, take, drop, sym, ap, ◌∙◌, arith}
use Rattle.std.proofs.lemmas.List.{length-drop, map-id}
use Rattle.dependency_index.specs.Numbers.{with_number}
use Rattle.dependency_index.proofs.NumberLemmas.{parted, ends_are, longer_by}
use Rattle.log_index.proofs.numbers.put_among.Goals as goal

pub seek_number-at-requires : goal.seek_number-at-requires
seek_number-at-requires c = rw (map-id, c.left.ensures, c.deref.ensures.value) c.requires.rising

pub left-requires : goal.left-requires
left-requires c = let long = ap length c.deref.ensures.value in let within = c.requires.within in omega arith

pub returns-then-taken-clause-items : goal.returns-then-taken-clause-items
returns-then-taken-clause-items c =
    let xs = drop c.args.gone c.args.numbers.now.items in
    let at = c.seek_number-at.result.0 in
    let n = c.args.number in
    let below = rw (c.left.ensures, c.deref.ensures.value) at c.seek_number-at.ensures.below in
    let above = rw (c.if-taken.true, c.left.ensures, c.deref.ensures.value) at c.seek_number-at.ensures.above in
    let lt = rw (c.left.ensures, c.deref.ensures.value) at (c.seek_number-at.ensures.within.there c.if-taken.true) in
    let here = rw (c.left.ensures, c.deref.ensures.value) at (c.seek_number-at.ensures.here c.if-taken.true n) in
    sym (ends_are n xs (take at xs) (drop (suc at) xs) below above ∙ parted at n xs lt (sym here))

pub make_place-gone-requires-clause-fits : goal.make_place-gone-requires-clause-fits
make_place-gone-requires-clause-fits c =
    let xs = drop c.args.gone c.args.numbers.now.items in
    let at = c.seek_number-at.result.0 in
    let n = c.args.number in
    let below = rw (c.left.ensures, c.deref.ensures.value) at c.seek_number-at.ensures.below in
    let above = rw (c.if-taken.false, c.left.ensures, c.deref.ensures.value) at c.seek_number-at.ensures.above in
    let is : with_number n xs ≡ take at xs ++ n ∷ drop at xs = ends_are n xs (take at xs) (drop at xs) below above in
    let long = longer_by n at xs ∙ sym (ap length is) in
    let fits = c.requires.fits in
    omega arith

pub put_at-requires-clause-within : goal.put_at-requires-clause-within
put_at-requires-clause-within c =
    let within = rw (c.left.ensures, c.deref.ensures.value) at c.seek_number-at.ensures.within.within in
    let was = length-drop c.args.gone c.args.numbers.now.items in
    let is = length-drop c.make_place-gone.result c.make_place-gone.new.numbers.items in
    let same = ap length c.make_place-gone.ensures.items in
    let least = c.make_place-gone.ensures.within in
    let most = c.requires.within in
    omega arith

pub returns-clause-items : goal.returns-clause-items
returns-clause-items c =
    let xs = drop c.args.gone c.args.numbers.now.items in
    let at = c.seek_number-at.result.0 in
    let n = c.args.number in
    let below = rw (c.left.ensures, c.deref.ensures.value) at c.seek_number-at.ensures.below in
    let above = rw (c.if-taken.false, c.left.ensures, c.deref.ensures.value) at c.seek_number-at.ensures.above in
    let is : with_number n xs ≡ take at xs ++ n ∷ drop at xs = ends_are n xs (take at xs) (drop at xs) below above in
    c.put_at.ensures.items ∙ ap (λ l. take at l ++ n ∷ drop at l) c.make_place-gone.ensures.items ∙ sym is
