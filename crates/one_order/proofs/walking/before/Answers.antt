use Rattle.std.proofs.Common.{map}
use Rattle.one_order.specs.Logs.{log_of}
use Rattle.one_order.specs.Shown.{name_at}
use Rattle.one_order.proofs.WalkLaws.{link_to, one_leads}
use Rattle.one_order.proofs.walking.before.Goals as goal

pub unreachable-requires : goal.unreachable-requires
unreachable-requires c =
    one_leads c.args.world.now c.requires.kept c.requires.legal (map log_of c.args.logs.now) c.requires.stuck (name_at c.args.last.now) c.in_ok-found.found c.in_ok-found.ensures
    c.in_default.is c.requires.among c.requires.turned

pub returns-clause-before : goal.returns-clause-before
returns-clause-before c =
    (link_to c.args.world.now c.requires.kept c.requires.legal (map log_of c.args.logs.now) c.requires.stuck (name_at c.args.last.now) c.in_ok-found.found c.in-Some.pair
    c.in_ok-found.ensures c.in-Some.is c.in_ok-first.first c.in_ok-first.ensures).0

pub returns-clause-among : goal.returns-clause-among
returns-clause-among c =
    (link_to c.args.world.now c.requires.kept c.requires.legal (map log_of c.args.logs.now) c.requires.stuck (name_at c.args.last.now) c.in_ok-found.found c.in-Some.pair
    c.in_ok-found.ensures c.in-Some.is c.in_ok-first.first c.in_ok-first.ensures).1
