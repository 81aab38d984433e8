use Rattle.std.proofs.Common.{◌≡◌, ◌+◌, ◌≤◌, ◌++◌, drop, vec_len}
use Rattle.service_events.specs.Calls.{all_deleted}
use Rattle.service_requests.proofs.abandoning.push_deletions.Given as goal

abbrev pub invariant-loop-number : goal.invariant-loop-number
invariant-loop-number l =
    record {
      rows : l.journal.rows ++ all_deleted l.registers.list (drop l.number-index l.numbers) l.rest.items
          ≡ l.initial.journal.rows ++ all_deleted l.registers.list l.numbers l.initial.rest.items;
      room : vec_len l.rest ≤ l.journal.spare;
      spare : l.initial.journal.spare + vec_len l.rest ≤ l.journal.spare + vec_len l.initial.rest;
    }
