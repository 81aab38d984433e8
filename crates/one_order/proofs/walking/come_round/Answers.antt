use Rattle.std.proofs.Common.{◌∙◌, ◌++◌, ◌∷◌, [], List, ap, map}
use Rattle.order_finder.specs.declared.candidate.At.{At}
use Rattle.dump_audit.specs.Histories.{histories_of}
use Rattle.one_order.specs.Logs.{log_of}
use Rattle.one_order.specs.Roots.{all_rooted}
use Rattle.one_order.specs.Shown.{name_at}
use Rattle.one_order.proofs.WalkLaws.{walk_begins, walk_goes_on, walk_less}
use Rattle.one_order.proofs.walking.come_round.Goals as goal

pub loop-walk-init : goal.loop-walk-init
loop-walk-init c =
    let start = c.args.start.now in
    let roots = c.in_ok-push.ensures.items ∙ ap (λ (rs : List At). rs ++ start ∷ []) c.new-roots.ensures.items in
    (walk_begins (histories_of c.args.world.now) (name_at start) (map name_at c.push.new.self.items) (ap (map name_at) roots), c.requires.among)

pub loop-walk-preserved : goal.loop-walk-preserved
loop-walk-preserved c =
    let world = histories_of c.args.world.now in
    let logs = all_rooted world (map log_of c.args.logs.now) in
    let goes = c.in_ok-found.ensures.back c.in-None.is in (
      walk_goes_on world (map name_at c.loop-walk.walk.roots.items) (name_at c.loop-walk.walk.last) logs (map name_at c.go_back.new.walk.roots.items) (name_at c.go_back.new.walk.last) goes
          c.loop-walk.invariant.0,
      goes.among,
    )

pub loop-walk-smaller : goal.loop-walk-smaller
loop-walk-smaller c =
    let world = histories_of c.args.world.now in
    let logs = all_rooted world (map log_of c.args.logs.now) in
    walk_less world (map name_at c.loop-walk.walk.roots.items) (name_at c.loop-walk.walk.last) logs (map name_at c.go_back.new.walk.roots.items) (name_at c.go_back.new.walk.last)
    (c.in_ok-found.ensures.back c.in-None.is)
