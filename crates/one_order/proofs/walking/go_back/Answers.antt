use Rattle.std.proofs.Common.{◌∙◌, List, ap, map, reverse, sym}
use Rattle.order_finder.specs.declared.candidate.At.{At}
use Rattle.dump_audit.specs.Histories.{histories_of}
use Rattle.one_order.specs.Pairs.{up_to}
use Rattle.one_order.specs.Shown.{name_at}
use Rattle.one_order.proofs.CycleLaws.{told_shown}
use Rattle.one_order.proofs.WalkLaws.{comes_round}
use Rattle.one_order.proofs.walking.go_back.Goals as goal

pub returns-in_ok-found-in-Some-clause-shown : goal.returns-in_ok-found-in-Some-clause-shown
returns-in_ok-found-in-Some-clause-shown c =
    let world = histories_of c.args.world.now in
    let step = c.in_ok-step.step in
    let walk = c.args.walk.now in
    let up = sym (ap (λ (rs : List At). up_to (name_at step.root) (reverse (map name_at rs))) c.as_slice.ensures.value) ∙ sym c.in_ok-back.ensures ∙ c.in-Some.is in
    told_shown world (name_at step.pair.first) (name_at step.pair.second) c.in-Some.back c.in_ok-found-in-Some.found c.in_ok-found-in-Some.ensures
    (comes_round world (name_at step.root) (name_at walk.last) (name_at step.pair.first) (name_at step.pair.second) (map name_at walk.roots.items) c.in-Some.back
    c.in_ok-step.ensures.before c.requires.walk up)
