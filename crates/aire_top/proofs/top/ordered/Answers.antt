use Rattle.std.proofs.Common.{refl}
use Rattle.aire_top.specs.Endings.{nothing}
use Rattle.aire_top.proofs.top.ordered.Goals as goal

pub returns-clause-ends : goal.returns-clause-ends
returns-clause-ends g c = λ reads. (
  nothing c.order-status.result,
  c.without.ensures.ends,
  record {
    status = c.order-status.result;
    answered = refl;
    ends = c.order-status.ensures.ends;
    input = refl;
  },
)
