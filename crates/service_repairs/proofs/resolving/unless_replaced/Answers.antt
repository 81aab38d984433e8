use Rattle.std.proofs.Common.{sym}
use Rattle.service_parts.specs.Parts.{kept}
use Rattle.service_repairs.proofs.NamedLemmas.{past_replaced}
use Rattle.service_repairs.proofs.resolving.unless_replaced.Goals as goal

pub returns-in-Some : goal.returns-in-Some
returns-in-Some c = past_replaced (kept c.args.parts.now) c.args.id c.in-Some.why (sym c.in-Some.ensures)
