-- The jobs of workers may go to threads of their own: who shares a desk shares a node, behind whose lock stands a service.
use Prim.{tt}
use denote.RattleType.{RattleType}
use denote.Ref.{NamedLft}
use denote.Param.Send.{IsSend, IsSync, sendable, struct_send, struct_sync, recorded_send, recorded_sync, shr_send, shr_sync, shr_slice_sync}
use denote.Struct.Declared.{shape}
use Rattle.std.proofs.Crossing.{Vec-sync, crosses}
use Rattle.std.proofs.alloc.Global.TheSendSync as heap
use Rattle.std.proofs.sync.Condvar.TheSendSync as condvar
use Rattle.std.proofs.sync.ledger.Share.TheSendSync as share
use Rattle.std.specs.declared.sync.ledger.Ledger.{Ghosts}
use Rattle.io_edge.specs.declared.traits.Sink as Sink
use Rattle.io_edge.specs.declared.traits.Source as Source
use Rattle.lang_base.proofs.text.Text.TheSendSync as text
use Rattle.lang_core.proofs.ids.Name.TheSendSync as name
use Rattle.wire_fields.proofs.named.ByName.TheSendSync as by_name
use Rattle.node_core.proofs.tally.Tally.TheSendSync as tally
use Rattle.node_core.proofs.state.OwnFolds.TheSendSync as folds
use Rattle.node_core.specs.contracts.state.NodeState as state
use Rattle.node_core.specs.contracts.nodes.Node as node
use Rattle.node_core.specs.contracts.nodes.Nodes as nodes
use Rattle.node_workers.specs.contracts.desk.Desk as desk
use Rattle.node_run.proofs.last.LastCell.TheSendSync as last
use Rattle.node_run.proofs.RowSends.{pass_send}
use Rattle.node_run.proofs.ServiceSends.{service_send, setup_sync}
use Rattle.node_run.specs.contracts.jobs.Repairs as repairs
use Rattle.node_run.specs.contracts.jobs.Posts as posts
use Rattle.node_run.specs.contracts.jobs.Requests as requests
use Rattle.node_run.specs.contracts.shared.Shared as shared

state_send : (R : RattleType) (g : Ghosts R.Denot) → IsSend (state.the_row R g)
state_send R g = recorded_send (state.the_field R g).row _ _ (state.the_type R g).to_one (struct_send (shape (state.the_type R g)) (service_send, (share.the_send R g, (text.the_send, (search sendable, (search sendable, (folds.the_field_send, tt)))))))

node_sync : (R : RattleType) (g : Ghosts R.Denot) → IsSync (node.the_row R g)
node_sync R g = recorded_sync (node.the_field R g).row _ _ (node.the_type R g).to_one (struct_sync (shape (node.the_type R g)) (name.the_sync, search (sendable, crosses, state_send, condvar.the_field_sync) depth 20))

desk_sync : (κ : NamedLft) (R Q : RattleType) (g : Ghosts R.Denot) (g' : Ghosts Q.Denot) → IsSync (desk.the_row κ R Q g g')
desk_sync κ R Q g g' = recorded_sync (desk.the_field κ R Q g g').row _ _ (desk.the_type κ R Q g g').to_one (struct_sync (shape (desk.the_type κ R Q g g')) (shr_sync _ _ _ (tally.the_sync R Q g g'), (shr_sync _ _ _ (node_sync R g), (shr_sync _ _ _ setup_sync, (by_name.the_sync _ text.the_sync, (by_name.the_sync _ text.the_sync, tt))))))

pub repairs_send : (κ : NamedLft) (R Q W D : RattleType) (g : Ghosts R.Denot) (g' : Ghosts Q.Denot) → IsSync W → IsSync D → IsSend (repairs.the_row κ R Q W D g g')
repairs_send κ R Q W D g g' w d = recorded_send (repairs.the_field κ R Q W D g g').row _ _ (repairs.the_type κ R Q W D g g').to_one (struct_send (shape (repairs.the_type κ R Q W D g g')) (shr_send _ _ _ w, (heap.the_field_send, (shr_send _ _ _ (desk_sync κ R Q g g'), (shr_send _ _ _ d, (pass_send Q g', tt))))))

pub posts_send : (κ : NamedLft) (R Q W L : RattleType) (g : Ghosts R.Denot) (g' : Ghosts Q.Denot) → IsSync W → IsSend L → IsSend (posts.the_row κ R Q W L g g')
posts_send κ R Q W L g g' w l = recorded_send (posts.the_field κ R Q W L g g').row _ _ (posts.the_type κ R Q W L g g').to_one (struct_send (shape (posts.the_type κ R Q W L g g')) (shr_send _ _ _ w, (heap.the_field_send, (shr_send _ _ _ (desk_sync κ R Q g g'), (l, (pass_send Q g', tt))))))

nodes_sync : (R Q : RattleType) (g : Ghosts R.Denot) (g' : Ghosts Q.Denot) → IsSync (nodes.the_row R Q g g')
nodes_sync R Q g g' = recorded_sync (nodes.the_field R Q g g').row _ _ (nodes.the_type R Q g g').to_one (struct_sync (shape (nodes.the_type R Q g g')) (Vec-sync _ (node_sync R g), (tally.the_field_sync R Q g g', (search (sendable, crosses) depth 10, tt))))

shared_sync : (κ : NamedLft) (R Q C D G : RattleType) (s : Source.Ghosts C.Denot) (k : Sink.Ghosts C.Denot) (g : Ghosts R.Denot) (g' : Ghosts Q.Denot) → IsSend C → IsSync D → IsSync G → IsSync (shared.the_row κ R Q C D G s k g g')
shared_sync κ R Q C D G s k g g' c d e = recorded_sync (shared.the_field κ R Q C D G s k g g').row _ _ (shared.the_type κ R Q C D G s k g g').to_one (struct_sync (shape (shared.the_type κ R Q C D G s k g g'))
    (shr_slice_sync _ _ _ setup_sync, (shr_sync _ _ _ (nodes_sync R Q g g'), (Vec-sync _ (desk_sync κ R Q g g'), (shr_sync _ _ _ d, (shr_sync _ _ _ e, (last.the_field_sync C s k c, tt)))))))

pub requests_send : (κ : NamedLft) (R Q W E L D G C : RattleType) (s : Source.Ghosts C.Denot) (k : Sink.Ghosts C.Denot) (g : Ghosts R.Denot) (g' : Ghosts Q.Denot) → IsSync W → IsSync E → IsSend L → IsSync D → IsSync G → IsSend C → IsSend (requests.the_row κ R Q W E L D G C s k g g')
requests_send κ R Q W E L D G C s k g g' w e l d o c = recorded_send (requests.the_field κ R Q W E L D G C s k g g').row _ _ (requests.the_type κ R Q W E L D G C s k g g').to_one (struct_send (shape (requests.the_type κ R Q W E L D G C s k g g'))
    (shr_send _ _ _ w, (heap.the_field_send, (shr_send _ _ _ (shared_sync κ R Q C D G s k g g' c d o), (shr_send _ _ _ (desk_sync κ R Q g g'), (shr_send _ _ _ e, (l, (pass_send Q g', tt))))))))
