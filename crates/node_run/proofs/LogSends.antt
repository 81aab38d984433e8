-- A log and what a service has in flight may go to another thread. What holds a program's tree does so by a lemma of its own, since
-- the compiler looks into no type that holds one.
use Prim.{tt}
use denote.Param.Send.{IsSend, sendable, struct_send, recorded_send, view_send}
use denote.Struct.Declared.{shape}
use Rattle.std.proofs.Crossing.{crosses}
use Rattle.std.proofs.alloc.Global.TheSendSync as heap
use Rattle.lang_base.proofs.seq.Seq.TheSendSync as seq
use Rattle.lang_base.proofs.thin_seq.ThinSeq.TheSendSync as thin
use Rattle.lang_lists.proofs.hash_index.HashIndex.TheSendSync as hash
use Rattle.lang_lists.proofs.sorted.Sorted.TheSendSync as sorted
use Rattle.lang_tree.proofs.shared.Shared.TheSendSync as shared
use Rattle.lang_core.proofs.ids.Origin.TheSendSync as origin
use Rattle.lang_core.proofs.inputs.Inputs.TheSendSync as inputs
use Rattle.lang_core.proofs.request.Request.TheSendSync as request
use Rattle.lang_core.proofs.request.Response.TheSendSync as response
use Rattle.lang_core.proofs.trace.CallMade.TheSendSync as call
use Rattle.lang_programs.proofs.ProgramSends.{deployed_send, deployed_sync, numbered_send, numbered_sync, under_send}
use Rattle.request_log.proofs.entry.Made.TheSendSync as made
use Rattle.request_log.specs.contracts.entry.Entry as entry
use Rattle.request_log.specs.contracts.entry.KeptEntry as kept_entry
use Rattle.request_log.specs.contracts.entry.KeptEntry.TheInside as entry_inside
use Rattle.request_log.specs.contracts.folded.Folded as folded
use Rattle.request_log.specs.contracts.folded.KeptFolded as kept_folded
use Rattle.request_log.specs.contracts.folded.KeptFolded.TheInside as folded_inside
use Rattle.request_log.specs.contracts.folded.FoldedList as folded_list
use Rattle.request_log.specs.contracts.folded.FoldedList.TheInside as list_inside
use Rattle.request_log.specs.contracts.log.Log as log
use Rattle.request_log.specs.contracts.log.Log.TheInside as log_inside
use Rattle.log_index.proofs.marks.EntryMarks.TheSendSync as marks
use Rattle.log_index.proofs.rows.EntryRows.TheSendSync as rows
use Rattle.local_repair.specs.contracts.repairer.Repairer as repairer
use Rattle.local_repair.specs.contracts.repairer.Repairer.TheInside as repairer_inside
use Rattle.flights.specs.contracts.flight.Flight as flight
use Rattle.flights.specs.contracts.flights.Flights as flights
use Rattle.flights.specs.contracts.flights.Flights.TheInside as flights_inside

entry_send : IsSend entry.the_row
entry_send = recorded_send entry.the_field.row _ _ entry.the_type.to_one (struct_send (shape entry.the_type) (
  search sendable,
  (
    origin.the_field_send,
    (
      search sendable,
      (
        shared.the_send _ request.the_send request.the_sync,
        (
          search sendable,
          (
            search sendable,
            (
              shared.the_send _ inputs.the_send inputs.the_sync,
              (under_send, (search (sendable, crosses, made.the_send) depth 10, (search (sendable, thin.the_send) depth 10, (search sendable, (search sendable, tt))))),
            ),
          ),
        ),
      ),
    ),
  ),
))

kept_entry_send : IsSend kept_entry.the_row
kept_entry_send = view_send _ _ _ _ _ (recorded_send entry_inside.the_field.row _ _ entry_inside.the_type.to_one (struct_send (shape entry_inside.the_type) (search (crosses, entry_send) depth 10, tt)))

folded_send : IsSend folded.the_row
folded_send = recorded_send folded.the_field.row _ _ folded.the_type.to_one (struct_send (shape folded.the_type) (
  search sendable,
  (
    origin.the_field_send,
    (
      search sendable,
      (
        shared.the_send _ request.the_send request.the_sync,
        (
          search sendable,
          (
            search sendable,
            (
              shared.the_send _ inputs.the_send inputs.the_sync,
              (
                shared.the_send _ numbered_send numbered_sync,
                (
                  thin.the_send _ call.the_send call.the_sync,
                  (
                    thin.the_send _ response.the_send response.the_sync,
                    (
                      search (sendable, thin.the_send) depth 10,
                      (response.the_field_send, (search sendable, (search sendable, tt))),
                    ),
                  ),
                ),
              ),
            ),
          ),
        ),
      ),
    ),
  ),
))

kept_folded_send : IsSend kept_folded.the_row
kept_folded_send = view_send _ _ _ _ _ (recorded_send folded_inside.the_field.row _ _ folded_inside.the_type.to_one (struct_send (shape folded_inside.the_type) (search (crosses, folded_send) depth 10, tt)))

folded_list_send : IsSend folded_list.the_row
folded_list_send = view_send _ _ _ _ _ (recorded_send list_inside.the_field.row _ _ list_inside.the_type.to_one (struct_send (shape list_inside.the_type)
    (search (crosses, kept_folded_send) depth 10, (hash.the_send, (hash.the_send, (hash.the_send, tt))))))

log_send : IsSend log.the_row
log_send = view_send _ _ _ _ _ (recorded_send log_inside.the_field.row _ _ log_inside.the_type.to_one (struct_send (shape log_inside.the_type)
    (folded_list_send, (search (crosses, kept_entry_send) depth 10, (hash.the_send, (hash.the_send, tt))))))

pub repairer_send : IsSend repairer.the_row
repairer_send = view_send _ _ _ _ _ (recorded_send repairer_inside.the_field.row _ _ repairer_inside.the_type.to_one (struct_send (shape repairer_inside.the_type)
    (heap.the_field_send, (log_send, (rows.the_send, (marks.the_send, (search sendable, tt)))))))

flight_send : IsSend flight.the_row
flight_send = recorded_send flight.the_field.row _ _ flight.the_type.to_one (struct_send (shape flight.the_type) (
  search sendable,
  (
    origin.the_field_send,
    (
      shared.the_send _ request.the_send request.the_sync,
      (
        shared.the_send _ inputs.the_send inputs.the_sync,
        (shared.the_send _ deployed_send deployed_sync, (seq.the_send _ call.the_send, (search (sendable, seq.the_send) depth 10, (search sendable, tt)))),
      ),
    ),
  ),
))

pub flights_send : IsSend flights.the_row
flights_send = view_send _ _ _ _ _ (recorded_send flights_inside.the_field.row _ _ flights_inside.the_type.to_one (struct_send (shape flights_inside.the_type) (search (sorted.the_send, flight_send) depth 10, tt)))
