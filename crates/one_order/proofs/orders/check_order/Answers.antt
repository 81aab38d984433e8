use Rattle.std.proofs.Common.{◌≡◌, ◌∙◌, ap}
use Rattle.dump_audit.specs.Histories.{histories_of}
use Rattle.one_world.specs.Checks.{is_certificate}
use Rattle.one_order.proofs.Named.{kept_named}
use Rattle.one_order.proofs.OrderLaws.{exact_so, one_world_so}
use Rattle.one_order.proofs.orders.check_order.Goals as goal

tested : (c : goal.After-is_certificate) → c.is_certificate.result ≡ is_certificate (histories_of c.args.dump.now.services) c.args.order.now
tested c = c.is_certificate.ensures ∙ ap (λ o. is_certificate (histories_of c.args.dump.now.services) o) c.as_slice.ensures

pub returns-clause-exact : goal.returns-clause-exact
returns-clause-exact c = exact_so (histories_of c.args.dump.now.services) c.requires.legal c.args.order.now c.is_certificate.result (tested c)

pub returns-clause-one_world : goal.returns-clause-one_world
returns-clause-one_world c =
    one_world_so (histories_of c.args.dump.now.services) c.requires.legal (kept_named c.args.dump.now.services c.args.dump.now.kept) c.args.order.now c.is_certificate.result (tested c)
