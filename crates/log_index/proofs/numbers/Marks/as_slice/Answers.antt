use Rattle.std.proofs.Common.{drop, length, ap, ◌∙◌, arith}
use Rattle.log_index.specs.Marks.{Marked}
use Rattle.log_index.proofs.numbers.Marks.as_slice.Goals as goal

pub left-requires : goal.left-requires
left-requires c = let long = ap length c.deref.ensures.value in let inside = c.self.invariant in omega arith

pub returns : goal.returns
returns c = c.left.ensures ∙ ap (drop c.self.inside.gone) c.deref.ensures.value ∙ ap (λ (k : Marked). k.items) c.self.view_is
