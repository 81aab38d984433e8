use Rattle.std.proofs.Common.{◌≡◌, ◌++◌, flat_map, length, string_bytes, take}
use Rattle.order_command.specs.Orders.{id_line}
use Rattle.order_command.proofs.Lines.{head_line}
use Rattle.order_command.proofs.telling.order_lines.Given as goal

abbrev pub invariant-loop-id : goal.invariant-loop-id
invariant-loop-id l = string_bytes l.text ≡ head_line (length l.ids) ++ flat_map id_line (take l.id-index l.ids)
