use Rattle.std.proofs.Common.{◌≡◌, ◌++◌, flat_map, string_bytes, take}
use Rattle.aire_top.specs.Serves.{receipts_line}
use Rattle.aire_top.proofs.telling.push_lines.Given as goal

abbrev pub invariant-loop-service : goal.invariant-loop-service
invariant-loop-service l = string_bytes l.text ≡ string_bytes l.initial.text ++ flat_map (receipts_line l.receipts) (take l.service-index l.services)
