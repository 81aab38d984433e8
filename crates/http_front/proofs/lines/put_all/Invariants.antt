use Rattle.std.proofs.Common.{◌≡◌, ◌++◌, take}
use Rattle.std.specs.List.{flat_map}
use Rattle.http_front.specs.Writing.{field_line, first_of_header}
use Rattle.http_front.proofs.lines.put_all.Given as goal

abbrev pub invariant-loop-header : goal.invariant-loop-header
invariant-loop-header l = l.text.items ≡ l.initial.text.items ++ flat_map field_line (flat_map (first_of_header l.head) (take l.header-index l.headers))
