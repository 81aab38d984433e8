use Rattle.std.proofs.Common.{◌≡◌, ◌+◌, ◌≤◌, ◌++◌, length, vec_len}
use Rattle.call_registers.specs.Overlays.{numbered_from}
use Rattle.call_registers.specs.Registers.{next_number}
use Rattle.call_registers.proofs.registers.add_all.Given as goal

abbrev pub invariant-loop-rest : goal.invariant-loop-rest
invariant-loop-rest l =
    record {
      list : l.list.list ++ numbered_from (next_number l.list.list) l.rest.items ≡ l.initial.list.list ++ numbered_from (next_number l.initial.list.list) l.initial.rest.items;
      room : length l.list.list + vec_len l.rest ≤ l.list.places;
      len : length l.list.list + vec_len l.rest ≡ length l.initial.list.list + vec_len l.initial.rest;
      places : l.initial.list.places ≤ l.list.places;
    }

abbrev pub decreases-loop-rest : goal.decreases-loop-rest
decreases-loop-rest l = vec_len l.rest
