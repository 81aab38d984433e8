use Rattle.std.proofs.Common.{length, ap, arith}
use Rattle.std.proofs.lemmas.List.{length-drop}
use Rattle.log_index.specs.Marks.{Marked}
use Rattle.log_index.proofs.numbers.Marks.reserve.Goals as goal

pub overflow_sub-more : goal.overflow_sub-more
overflow_sub-more c = let few = c.requires.few in let len = c.len.ensures in omega arith

pub overflow_add-more : goal.overflow_add-more
overflow_add-more c =
    let within = c.requires.within in
    let spots = ap (λ (k : Marked). k.spots) c.self.view_is in
    let ok = c.self.inside.numbers.ok in
    omega arith

pub returns-clause-ok : goal.returns-clause-ok
returns-clause-ok c =
    let seen = ap length (ap (λ (k : Marked). k.items) c.self.view_is) in
    let long = length-drop c.self.inside.gone c.self.inside.numbers.items in
    let few = c.requires.few in
    let len = c.len.ensures in
    let inside = c.self.invariant in
    let made = c.in_ok-reserve.ensures.ok in
    omega arith
