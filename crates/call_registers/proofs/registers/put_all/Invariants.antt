use Rattle.std.proofs.Common.{◌≡◌, ◌≤◌, length, vec_len}
use Rattle.call_registers.specs.Overlays.{put_all}
use Rattle.call_registers.proofs.registers.put_all.Given as goal

abbrev pub invariant-loop-rest : goal.invariant-loop-rest
invariant-loop-rest l =
    record {
      list : put_all l.rest.items l.list.list ≡ put_all l.initial.rest.items l.initial.list.list;
      len : length l.list.list ≡ length l.initial.list.list;
      places : l.initial.list.places ≤ l.list.places;
    }

abbrev pub decreases-loop-rest : goal.decreases-loop-rest
decreases-loop-rest l = vec_len l.rest
