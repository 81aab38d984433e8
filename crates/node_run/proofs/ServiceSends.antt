-- A service may go to another thread, and threads may share what it is set up by. The compiler looks into no type that holds a
-- program's tree, whose blocks hold blocks.
use Prim.{tt}
use denote.Param.Send.{IsSend, IsSync, sendable, struct_send, struct_sync, recorded_send, recorded_sync, view_send}
use denote.Struct.Declared.{shape}
use Rattle.std.proofs.Crossing.{crosses}
use Rattle.lang_base.proofs.text.Text.TheSendSync as text
use Rattle.lang_base.proofs.thin_seq.ThinSeq.TheSendSync as thin
use Rattle.lang_tree.proofs.shared.Shared.TheSendSync as shared
use Rattle.lang_core.proofs.ids.Name.TheSendSync as name
use Rattle.lang_core.specs.contracts.setting.Setting as setting
use Rattle.lang_programs.proofs.ProgramSends.{deployed_send, deployed_sync, program_send, program_sync}
use Rattle.authorise_rules.proofs.given.GivenRules.TheSendSync as given
use Rattle.call_registers.proofs.registers.Registers.TheSendSync as registers
use Rattle.call_registers.proofs.replies.Replies.TheSendSync as replies
use Rattle.service_parts.specs.contracts.parts.Parts as parts
use Rattle.service_core.specs.contracts.service.Service as service
use Rattle.service_core.specs.contracts.service.Service.TheInside as inside
use Rattle.world_file.specs.contracts.setup.Setup as setup
use Rattle.node_run.proofs.LogSends.{flights_send, repairer_send}
use Rattle.node_run.proofs.RowSends.{rows_send}

setting_send : IsSend setting.the_field.row
setting_send = struct_send (shape setting.the_type) (name.the_send, (thin.the_send _ name.the_send name.the_sync, (program_send, (search sendable, tt))))

setting_sync : IsSync setting.the_field.row
setting_sync = struct_sync (shape setting.the_type) (name.the_sync, (thin.the_sync _ name.the_send name.the_sync, (program_sync, (search sendable, tt))))

parts_send : IsSend parts.the_field.row
parts_send = struct_send (shape parts.the_type) (setting_send, (shared.the_send _ given.the_send given.the_sync, (shared.the_send _ given.the_send given.the_sync, (shared.the_send _ deployed_send deployed_sync, (repairer_send, (flights_send, (rows_send, (registers.the_send, (replies.the_send, tt)))))))))

pub service_send : IsSend service.the_row
service_send = view_send _ _ _ _ _ (recorded_send inside.the_field.row _ _ inside.the_type.to_one (struct_send (shape inside.the_type) (parts_send, (search sendable, tt))))

pub setup_sync : IsSync setup.the_row
setup_sync = recorded_sync setup.the_field.row _ _ setup.the_type.to_one (struct_sync (shape setup.the_type) (setting_sync, (given.the_sync, (text.the_sync, (text.the_sync, (text.the_sync, (search sendable, (search (sendable, crosses) depth 20, tt))))))))
