use denote.Exit.{no}
use denote.Param.{param}
use denote.Param.Send.{param_send, arg_send}
use Rattle.node_run.proofs.JobSends.{posts_send, repairs_send}
use Rattle.node_run.proofs.RowSends.{pass_row_send}
use Rattle.node_run.proofs.starting.start_others.Goals as goal

pub start-requires-send-J : goal.start-requires-send-J
start-requires-send-J g c κs within = param_send _ _ (arg_send _ no _ (repairs_send _ (param 0 g.row.R) (param 1 g.row.Q) (param 2 g.row.W) (param 4 g.row.D) _ _ c.type_bounds.sync-W c.type_bounds.sync-D))

pub start-requires-in-Some-pop-send-J : goal.start-requires-in-Some-pop-send-J
start-requires-in-Some-pop-send-J g c κs within = param_send _ _ (arg_send _ no _ (posts_send _ (param 0 g.row.R) (param 1 g.row.Q) (param 2 g.row.W) (param 3 g.row.L) _ _ c.type_bounds.sync-W c.type_bounds.send-L))

pub start-requires-send-J-Out : goal.start-requires-send-J-Out
start-requires-send-J-Out g c κs within = param_send _ _ (arg_send _ no _ (pass_row_send (param 1 g.row.Q) _))

pub start-requires-in-Some-pop-send-J-Out : goal.start-requires-in-Some-pop-send-J-Out
start-requires-in-Some-pop-send-J-Out g c κs within = param_send _ _ (arg_send _ no _ (pass_row_send (param 1 g.row.Q) _))
