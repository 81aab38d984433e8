use Rattle.std.proofs.Common.{◌+◌, ◌-◌, ◌∙◌, ap, arith, option_map, sym}
use Rattle.call_registers.specs.Overlays.{numbered}
use Rattle.call_registers.proofs.OverlayLemmas.{found_added, none_added}
use Rattle.call_registers.proofs.changes.find_added.Goals as goal

pub returns-then-number-count : goal.returns-then-number-count
returns-then-number-count c = none_added (c.args.count + 1) c.args.number c.args.added.now (omega arith)

pub returns : goal.returns
returns c =
    found_added (c.args.count + 1) c.args.number (c.args.number - c.args.count - 1) c.args.added.now (omega arith)
    ∙ ap (option_map (numbered c.args.number)) (sym c.item_at.ensures)
