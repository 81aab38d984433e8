use Rattle.std.proofs.Common.{map}
use Rattle.one_order.specs.Logs.{log_of}
use Rattle.one_order.proofs.WalkLaws.{one_left, root_left}
use Rattle.one_order.proofs.walking.walked.Goals as goal

pub unreachable-requires : goal.unreachable-requires
unreachable-requires c =
    one_left c.args.world.now c.requires.kept c.requires.legal (map log_of c.args.logs.now) c.requires.stuck c.in_ok-found.found c.in_ok-found.ensures c.in_default.is

pub come_round-requires-clause-among : goal.come_round-requires-clause-among
come_round-requires-clause-among c =
    root_left c.args.world.now c.requires.kept c.requires.legal (map log_of c.args.logs.now) c.requires.stuck c.in_ok-found.found c.in-Some.at c.in_ok-found.ensures c.in-Some.is
    c.in_ok-first.first c.in_ok-first.ensures
