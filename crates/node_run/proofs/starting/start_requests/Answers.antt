use denote.Exit.{no}
use denote.Param.{param}
use denote.Param.Send.{param_send, arg_send}
use Rattle.node_run.proofs.JobSends.{requests_send}
use Rattle.node_run.proofs.RowSends.{pass_row_send}
use Rattle.node_run.proofs.starting.start_requests.Goals as goal

pub start-requires-send-J : goal.start-requires-send-J
start-requires-send-J g c κs within =
    param_send _ _ (arg_send _ no _ (requests_send _ (param 0 g.row.R) (param 1 g.row.Q) (param 2 g.row.W) (param 3 g.row.E) (param 4 g.row.L) (param 5 g.row.D) (param 6 g.row.G) _ _ _ _ _ c.type_bounds.sync-W c.type_bounds.sync-E c.type_bounds.send-L c.type_bounds.sync-D c.type_bounds.sync-G c.type_bounds.send-E-Conn))

pub start-requires-send-J-Out : goal.start-requires-send-J-Out
start-requires-send-J-Out g c κs within = param_send _ _ (arg_send _ no _ (pass_row_send (param 1 g.row.Q) _))
