use Rattle.std.proofs.Common.{◌∙◌, [], ap, map}
use Rattle.std.proofs.lemmas.Result.{IfOk-weaker}
use Rattle.dump_audit.specs.Histories.{histories_of}
use Rattle.one_order.specs.Logs.{log_of}
use Rattle.one_order.specs.Shown.{name_at}
use Rattle.one_order.specs.declared.certificates.Certificate.TheVariants.{Cycle}
use Rattle.one_order.proofs.CycleLaws.{told_shown}
use Rattle.one_order.proofs.WalkLaws.{turned_pair}
use Rattle.one_order.proofs.walking.cycle_among.Goals as goal

pub returns-in-Some-clause-shown : goal.returns-in-Some-clause-shown
returns-in-Some-clause-shown c =
    let world = histories_of c.args.world.now in
    let pair = c.in-Some.pair in
    let shows = turned_pair c.args.world.now c.requires.kept c.requires.legal (map log_of c.args.logs.now) c.requires.stuck c.in_ok-found.found pair c.in_ok-found.ensures c.in-Some.is in
    IfOk-weaker c.cycle.result _ _ (λ found is. told_shown world (name_at pair.first) (name_at pair.second) [] found (is ∙ ap (Cycle (name_at pair.first) (name_at pair.second)) c.new.ensures) shows)
    c.cycle.ensures
