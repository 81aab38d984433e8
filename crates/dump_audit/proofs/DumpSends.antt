-- Threads may share what a dump says of a service. The compiler finds that of a type by going through its parts, and a program, whose blocks
-- hold blocks, is too large for it.
use Prim.{tt}
use denote.Param.Send.{IsSync, sendable, struct_sync, recorded_sync, view_sync}
use denote.Struct.Declared.{shape}
use Rattle.std.proofs.Crossing.{crosses}
use Rattle.lang_base.proofs.seq.Seq.TheSendSync as seq
use Rattle.lang_base.proofs.thin_seq.ThinSeq.TheSendSync as thin
use Rattle.lang_lists.proofs.hash_index.HashIndex.TheSendSync as hash
use Rattle.lang_tree.proofs.shared.Shared.TheSendSync as shared
use Rattle.lang_core.proofs.cells.Cell.TheSendSync as cell
use Rattle.lang_core.proofs.ids.Name.TheSendSync as name
use Rattle.lang_core.proofs.ids.Origin.TheSendSync as origin
use Rattle.lang_core.proofs.inputs.Inputs.TheSendSync as inputs
use Rattle.lang_core.proofs.place.ByPlace.TheSendSync as by_place
use Rattle.lang_core.proofs.request.Request.TheSendSync as request
use Rattle.lang_core.proofs.request.Response.TheSendSync as response
use Rattle.lang_core.proofs.trace.CallMade.TheSendSync as call
use Rattle.lang_core.specs.contracts.cells.CellPlaced.TheImpl.{ghosts}
use Rattle.lang_core.specs.contracts.setting.Setting as setting
use Rattle.lang_programs.proofs.ProgramSends.{program_send, program_sync}
use Rattle.dump_tables.proofs.call_index.CallIndex.TheSendSync as call_index
use Rattle.dump_tables.specs.contracts.dump.DumpEntry as entry
use Rattle.dump_tables.specs.contracts.dump.DumpService as service
use Rattle.dump_tables.specs.contracts.entries.DumpEntries as entries
use Rattle.dump_tables.specs.contracts.entries.DumpEntries.TheInside as inside
use Rattle.dump_tables.specs.contracts.programs.DumpPrograms as programs

setting_sync : IsSync setting.the_field.row
setting_sync = struct_sync (shape setting.the_type) (name.the_sync, (thin.the_sync _ name.the_send name.the_sync, (program_sync, (search sendable, tt))))

programs_sync : IsSync programs.the_field.row
programs_sync = struct_sync (shape programs.the_type) (shared.the_sync _ program_send program_sync, (seq.the_sync _ (shared.the_sync _ program_send program_sync), tt))

entry_sync : IsSync entry.the_row
entry_sync = recorded_sync entry.the_field.row _ _ entry.the_type.to_one (struct_sync (shape entry.the_type) (
  search sendable,
  (
    origin.the_field_sync,
    (
      search sendable,
      (
        search sendable,
        (
          search sendable,
          (
            inputs.the_field_sync,
            (
              request.the_field_sync,
              (
                search sendable,
                (
                  shared.the_sync _ program_send program_sync,
                  (
                    search (sendable, seq.the_sync) depth 10,
                    (
                      thin.the_sync _ call.the_send call.the_sync,
                      (thin.the_sync _ response.the_send response.the_sync, (search (sendable, response.the_sync) depth 10, tt)),
                    ),
                  ),
                ),
              ),
            ),
          ),
        ),
      ),
    ),
  ),
))

entries_sync : IsSync entries.the_row
entries_sync = view_sync _ _ _ _ _ (recorded_sync inside.the_field.row _ _ inside.the_type.to_one (struct_sync (shape inside.the_type)
    (search (crosses, entry_sync) depth 10, (hash.the_sync, (hash.the_sync, (call_index.the_field_sync, tt))))))

pub service_sync : IsSync service.the_row
service_sync = recorded_sync service.the_field.row _ _ service.the_type.to_one (struct_sync (shape service.the_type) (setting_sync, (programs_sync, (entries_sync, (by_place.the_sync _ ghosts cell.the_sync, tt)))))
