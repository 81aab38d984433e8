use Rattle.std.proofs.Common.{◌<◌, ◌^◌, All, length, ap, subst, arith}
use Rattle.std.proofs.lemmas.List.{take_all}
use Rattle.std.proofs.lemmas.List.Elements.{All-more}
use Rattle.service_events.specs.State.{Kept}
use Rattle.script_run.proofs.telling.counted.Goals as goal

pub loop-service-preserved : goal.loop-service-preserved
loop-service-preserved c =
    let P : Kept → Type 0 = λ s. length s.journal < 2 ^ 64 in
    let size = ap length c.journal-journal.ensures.rows in
    let counted = c.journal-journal.result.now.few in
    let few : P c.service-item.result = omega (arith, counted, size) in
    All-more P c.args.services.now c.loop-service.service-index c.service-item.result c.loop-service-test.true c.loop-service.invariant (subst P c.service-item.is few)

pub returns : goal.returns
returns c =
    let P : Kept → Type 0 = λ s. length s.journal < 2 ^ 64 in
    subst (All P) (take_all c.loop-service.service-index c.args.services.now (omega (arith, c.loop-service-test.false))) c.loop-service.invariant
