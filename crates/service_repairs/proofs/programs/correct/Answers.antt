use Rattle.std.proofs.Common.{◌≡◌, ◌∙◌, ap}
use Rattle.std.proofs.lemmas.Result.{on_ok_weaker}
use Rattle.service_events.specs.Orders.{corrected_on}
use Rattle.service_parts.specs.Parts.{kept}
use Rattle.service_repairs.proofs.programs.correct.Goals as goal

pub returns-clause-ok : goal.returns-clause-ok
returns-clause-ok c =
    let s = kept c.args.parts.now in
    on_ok_weaker c.put_in_place.result
    (λ (is : kept c.put_in_place.new.parts ≡ corrected_on c.args.number c.in_ok-program.program s).
    is ∙ ap (λ m. corrected_on c.args.number m s) c.in_ok-program.ensures)
    c.put_in_place.ensures.ok
