use Rattle.std.proofs.Common.{◌+◌, ◌-◌, arith}
use Rattle.call_registers.proofs.OverlayLemmas.{below_added, changed_added, past_added}
use Rattle.call_registers.proofs.changes.change_added.Goals as goal

pub returns-then-number-count : goal.returns-then-number-count
returns-then-number-count c = below_added c.args.change (c.args.count + 1) c.args.number c.args.added.now.items (omega arith)

pub returns-then-place-len : goal.returns-then-place-len
returns-then-place-len c =
    rw c.apply.ensures
    (changed_added c.args.change (c.args.count + 1) c.args.number (c.args.number - c.args.count - 1) c.args.added.now.items c.index_mut.result.now (omega arith) c.index_mut.ensures.value)

pub returns-else-place-len : goal.returns-else-place-len
returns-else-place-len c = past_added c.args.change (c.args.count + 1) c.args.number c.args.added.now.items (omega (arith, c.len.ensures))
