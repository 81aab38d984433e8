use Rattle.std.proofs.Common.{◌≡◌, map, take}
use Rattle.local_repair.specs.Steps.{answer_or_tentative}
use Rattle.call_registers.specs.Registers.{consumed}
use Rattle.service_parts.specs.Drafts.{with_draft}
use Rattle.service_parts.specs.Parts.{kept}
use Rattle.service_requests.proofs.runs.answers_of.Given as goal

abbrev pub invariant-loop-number : goal.invariant-loop-number
invariant-loop-number l =
    l.answers ≡ map (λ n. answer_or_tentative (consumed n (with_draft l.draft (kept l.parts)).registers)) (take l.number-index l.numbers)
