use Rattle.std.proofs.Common.{◌≡◌, ◌++◌, take}
use Rattle.std.specs.List.{flat_map}
use Rattle.http_front.specs.Writing.{first_of_header}
use Rattle.wire_fields.specs.Sealed.{sealed_line}
use Rattle.wire_fields.proofs.sealed.put_lines.Given as goal

abbrev pub invariant-loop-header : goal.invariant-loop-header
invariant-loop-header l = l.text.items ≡ l.initial.text.items ++ flat_map sealed_line (flat_map (first_of_header l.head) (take l.header-index l.headers))
