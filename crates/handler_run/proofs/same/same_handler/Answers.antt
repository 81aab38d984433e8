use Rattle.std.proofs.Common.{◌∙◌, sym}
use Rattle.handler_run.proofs.SameHandlers.{runs_alike}
use Rattle.handler_run.proofs.same.same_handler.Goals as goal

pub returns-clause-same : goal.returns-clause-same
returns-clause-same c = (
  λ told. sym c.handlers_of.ensures.0 ∙ c.alike.ensures.0 told ∙ c.handlers_of.ensures.1,
  λ same. c.alike.ensures.1 (c.handlers_of.ensures.0 ∙ same ∙ sym c.handlers_of.ensures.1),
)

pub returns-clause-law : goal.returns-clause-law
returns-clause-law c told setting inputs answers rows =
    runs_alike c.args.program.now c.args.other.now setting c.args.request.now inputs answers rows ((returns-clause-same c).0 told)
