use Rattle.std.proofs.Common.{◌≡◌, take}
use Rattle.std.specs.List.{filter_map}
use Rattle.request_log.specs.Folded.{folded_as}
use Rattle.request_log.proofs.folded.all_folded.Given as goal

abbrev pub invariant-loop-kept : goal.invariant-loop-kept
invariant-loop-kept l = l.list.items ≡ filter_map folded_as (take l.kept-index l.entries)
