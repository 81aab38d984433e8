use Rattle.std.proofs.Common.{string_bytes, arith}
use Rattle.order_command.proofs.Lines.{all_lines, line_more}
use Rattle.order_command.proofs.telling.order_lines.Goals as goal

pub loop-id-preserved : goal.loop-id-preserved
loop-id-preserved c =
    line_more c.as_slice-ids.result.now c.loop-id.id-index c.id-item.result (string_bytes c.loop-id.text) (string_bytes c.push_id.new.text) c.loop-id-test.true c.id-item.is
    c.loop-id.invariant c.in_ok-push_id.ensures

pub returns : goal.returns
returns c =
    all_lines c.args.order.now c.as_slice-ids.result.now c.loop-id.id-index (string_bytes c.loop-id.text) c.as_slice-ids.ensures (omega (arith, c.loop-id-test.false)) c.loop-id.invariant
