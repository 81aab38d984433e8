use Rattle.std.proofs.Common.{◌≡◌, flat_map, string_bytes, take}
use Rattle.dump_lines.specs.Dumps.{service_lines}
use Rattle.script_run.proofs.dumping.dump_text.Given as goal

abbrev pub invariant-loop-service : goal.invariant-loop-service
invariant-loop-service l = string_bytes l.text ≡ flat_map service_lines (take l.service-index l.services)
