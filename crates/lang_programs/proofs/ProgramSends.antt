-- A program and what holds one may go to another thread, and threads may share them. The compiler finds that of a type by going through
-- its parts, and a program, whose blocks hold blocks, is too large for it.
use Prim.{tt}
use denote.Param.Send.{IsSend, IsSync, sendable, struct_send, struct_sync, recorded_send, recorded_sync, view_send, view_sync}
use denote.Struct.Declared.{shape}
use Rattle.std.proofs.Crossing.{crosses}
use Rattle.sqlite_items.proofs.items.Items.TheSendSync as items
use Rattle.sqlite_items.proofs.boxed.Boxed.TheSendSync as boxed
use Rattle.lang_base.proofs.seq.Seq.TheSendSync as seq
use Rattle.lang_base.proofs.text.Text.TheSendSync as text
use Rattle.lang_tree.proofs.method.Method.TheSendSync as method
use Rattle.lang_tree.proofs.expr.Expr.TheLaws.TheKnot.{send-Expr, sync-Expr}
use Rattle.lang_tree.proofs.stmt.Stmt.TheLaws.TheKnot.{send-Block, sync-Block}
use Rattle.lang_tree.specs.contracts.stmt.Block as block
use Rattle.lang_tree.specs.contracts.program.Route as route
use Rattle.lang_tree.specs.contracts.program.Program as program
use Rattle.lang_tree.specs.contracts.program.Program.TheInside as routes
use Rattle.lang_tree.proofs.shared.Shared.TheSendSync as shared
use Rattle.lang_programs.specs.contracts.program_text.ProgramText as kept
use Rattle.lang_programs.specs.contracts.program_text.ProgramText.TheInside as kept_inside
use Rattle.lang_programs.specs.contracts.deployed.NumberedText as numbered
use Rattle.lang_programs.specs.contracts.deployed.NumberedText.TheInside as numbered_inside
use Rattle.lang_programs.specs.contracts.deployed.Deployed as deployed
use Rattle.lang_programs.specs.contracts.deployed.Deployed.TheInside as deployed_inside
use Rattle.lang_programs.specs.contracts.under.Under as under
use Rattle.lang_programs.specs.contracts.under.Under.TheInside as under_inside

block_send : IsSend block.the_field.row
block_send = search (sendable, crosses, send-Block, send-Expr, text.the_send, items.the_send, boxed.the_send, method.the_field_send) depth 30

block_sync : IsSync block.the_field.row
block_sync = search (sendable, crosses, sync-Block, sync-Expr, text.the_sync, items.the_sync, boxed.the_sync, method.the_field_sync) depth 30

route_send : IsSend route.the_row
route_send = recorded_send route.the_field.row _ _ route.the_type.to_one (struct_send (shape route.the_type) (method.the_field_send, (text.the_send, (block_send, tt))))

route_sync : IsSync route.the_row
route_sync = recorded_sync route.the_field.row _ _ route.the_type.to_one (struct_sync (shape route.the_type) (method.the_field_sync, (text.the_sync, (block_sync, tt))))

pub program_send : IsSend program.the_row
program_send = view_send _ _ _ _ _ (recorded_send routes.the_field.row _ _ routes.the_type.to_one (struct_send (shape routes.the_type) (seq.the_send _ route_send, tt)))

pub program_sync : IsSync program.the_row
program_sync = view_sync _ _ _ _ _ (recorded_sync routes.the_field.row _ _ routes.the_type.to_one (struct_sync (shape routes.the_type) (seq.the_sync _ route_sync, tt)))

pub text_send : IsSend kept.the_row
text_send = view_send _ _ _ _ _ (recorded_send kept_inside.the_field.row _ _ kept_inside.the_type.to_one (struct_send (shape kept_inside.the_type) (text.the_send, (search (sendable, crosses, program_send) depth 10, tt))))

pub text_sync : IsSync kept.the_row
text_sync = view_sync _ _ _ _ _ (recorded_sync kept_inside.the_field.row _ _ kept_inside.the_type.to_one (struct_sync (shape kept_inside.the_type) (text.the_sync, (search (sendable, crosses, program_sync) depth 10, tt))))

pub numbered_send : IsSend numbered.the_row
numbered_send = view_send _ _ _ _ _ (recorded_send numbered_inside.the_field.row _ _ numbered_inside.the_type.to_one (struct_send (shape numbered_inside.the_type) (search sendable, (shared.the_send _ text_send text_sync, tt))))

pub numbered_sync : IsSync numbered.the_row
numbered_sync = view_sync _ _ _ _ _ (recorded_sync numbered_inside.the_field.row _ _ numbered_inside.the_type.to_one (struct_sync (shape numbered_inside.the_type) (search sendable, (shared.the_sync _ text_send text_sync, tt))))

pub deployed_send : IsSend deployed.the_row
deployed_send = view_send _ _ _ _ _ (recorded_send deployed_inside.the_field.row _ _ deployed_inside.the_type.to_one (struct_send (shape deployed_inside.the_type) (program_send, (shared.the_send _ numbered_send numbered_sync, tt))))

pub deployed_sync : IsSync deployed.the_row
deployed_sync = view_sync _ _ _ _ _ (recorded_sync deployed_inside.the_field.row _ _ deployed_inside.the_type.to_one (struct_sync (shape deployed_inside.the_type) (program_sync, (shared.the_sync _ numbered_send numbered_sync, tt))))

pub under_send : IsSend under.the_row
under_send = view_send _ _ _ _ _ (recorded_send under_inside.the_field.row _ _ under_inside.the_type.to_one (struct_send (shape under_inside.the_type) (shared.the_send _ deployed_send deployed_sync, (search (sendable, crosses, shared.the_send _ deployed_send deployed_sync) depth 10, tt))))

pub under_sync : IsSync under.the_row
under_sync = view_sync _ _ _ _ _ (recorded_sync under_inside.the_field.row _ _ under_inside.the_type.to_one (struct_sync (shape under_inside.the_type) (shared.the_sync _ deployed_send deployed_sync, (search (sendable, crosses, shared.the_sync _ deployed_send deployed_sync) depth 10, tt))))
