use Rattle.std.proofs.Common.{◌≡◌, None, Some, map, sym, subst}
use Rattle.dump_audit.specs.Histories.{histories_of}
use Rattle.one_order.specs.Logs.{log_of}
use Rattle.one_order.proofs.SearchLaws.{step_none}
use Rattle.one_world.specs.Searches.{next_root}
use Rattle.one_order.proofs.searching.step.Goals as goal

pub returns-in-None : goal.returns-in-None
returns-in-None c =
    step_none (histories_of c.args.world.now) c.args.found.now.order (map log_of c.args.found.now.logs.items)
    (subst (λ ls. None ≡ next_root (histories_of c.args.world.now) (map log_of ls) (map log_of ls)) c.deref.ensures.value (rw c.in-None.is at c.in_ok-next_root.ensures))

pub returns-in_ok-push-in-Some : goal.returns-in_ok-push-in-Some
returns-in_ok-push-in-Some c = (
  c.in-Some.taken.id,
  sym (subst (λ ls. Some (c.in-Some.taken.id, map log_of c.in-Some.taken.logs.items) ≡ next_root (histories_of c.args.world.now) (map log_of ls) (map log_of ls)) c.deref.ensures.value
      (rw c.in-Some.is at c.in_ok-next_root.ensures)),
  c.in_ok-push-in-Some.ensures.ok,
)
