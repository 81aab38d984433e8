use Rattle.aire_top.specs.Serves.{receipts_line}
use Rattle.aire_top.proofs.ServeLaws.{line_more}
use Rattle.aire_top.proofs.telling.push_lines.Goals as goal

pub loop-service-preserved : goal.loop-service-preserved
loop-service-preserved c =
    line_more (receipts_line c.args.receipts.now) _ _ _ c.args.services.now c.loop-service.service-index c.service-item.result c.loop-service-test.true c.service-item.is c.loop-service.invariant c.in_ok-push_line.ensures
