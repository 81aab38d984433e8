use Rattle.std.proofs.Common.{refl}
use Rattle.aire_top.specs.Endings.{nothing}
use Rattle.aire_top.proofs.top.audited.Goals as goal

pub returns-clause-ends : goal.returns-clause-ends
returns-clause-ends g c = λ reads. (
  nothing c.audit-status.result,
  c.without.ensures.ends,
  record {
    status = c.audit-status.result;
    answered = refl;
    ends = c.audit-status.ensures.ends;
    input = refl;
  },
)
