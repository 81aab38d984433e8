use Rattle.std.proofs.Common.{◌≡◌, take, map}
use Rattle.httparse.specs.Spans.{header_bytes}
use Rattle.http_front.specs.Fields.{HoldsUpTo, map_of}
use Rattle.http_front.proofs.fields.map_of.Given as goal

abbrev pub invariant-loop-field : goal.invariant-loop-field
invariant-loop-field l = record {
  made : l.head ≡ map_of (map (header_bytes l.bytes) (take l.field-index l.fields));
  room : HoldsUpTo l.field-index l.head;
}
