use Rattle.std.proofs.Common.{List, IfOk, ap, length, subst, sym, ◌∙◌}
use Rattle.std.proofs.lemmas.List.{length-map}
use Rattle.std.proofs.lemmas.Result.{IfOk-weaker}
use Rattle.service_events.specs.State.{Kept}
use Rattle.world_file.specs.Worlds.{KnowEachOther}
use Rattle.world_file.specs.declared.setup.Setup.{Setup}
use Rattle.node_run.specs.Ends.{IsGoodEnd, IsGoodEndSince}
use Rattle.node_run.specs.HandedOn.{opened_at}
use Rattle.node_run.specs.Stopping.{IsOfOne}
use Rattle.aire_top.specs.Fresh.{fresh_service}
use Rattle.aire_top.proofs.FreshEnds.{agrees_from, good_from}
use Rattle.aire_top.proofs.ServeLaws.{rose_since}
use Rattle.aire_top.proofs.serving.run.Goals as goal

pub run_nodes-requires-clause-apart : goal.run_nodes-requires-clause-apart
run_nodes-requires-clause-apart g c κs within = (subst KnowEachOther (sym c.all-setups.ensures.same) c.all-setups.ensures.know).apart

pub run_nodes-requires-clause-services : goal.run_nodes-requires-clause-services
run_nodes-requires-clause-services g c κs within =
    c.in-Ok.services.ok.0 ∙ (ap (λ (services : List Kept). length services) c.in-Ok.ensures ∙ length-map c.all-setups.result.now fresh_service)

pub returns-in-Ok-clause-end : goal.returns-in-Ok-clause-end
returns-in-Ok-clause-end g c =
    let setups = c.all-setups.result.now in
    let good = IfOk-weaker c.run_nodes.result
    (λ j. IsGoodEndSince (opened_at c.in-Ok.services.items) setups j.services.items j.receipts.items j.verdict)
    (λ j. IsGoodEnd setups j.services.items j.receipts.items j.verdict)
    (λ j end. good_from setups c.in-Ok.services.items j.services.items j.receipts.items j.verdict c.in-Ok.ensures end)
    c.run_nodes.ensures.end in
    subst (λ (all : List Setup). IfOk c.run_nodes.result (λ j. IsGoodEnd all j.services.items j.receipts.items j.verdict)) c.all-setups.ensures.same good

pub returns-in-Ok-clause-last : goal.returns-in-Ok-clause-last
returns-in-Ok-clause-last g c =
    subst (λ (all : List Setup). IfOk c.run_nodes.result (λ j. IsOfOne all j.last.service j.last.console)) c.all-setups.ensures.same c.run_nodes.ensures.last

pub returns-in-Ok-clause-door : goal.returns-in-Ok-clause-door
returns-in-Ok-clause-door g c = λ is. rose_since _ _ _ c.announce.ensures (c.run_nodes.ensures.door is)

pub returns-in-Ok-clause-differs : goal.returns-in-Ok-clause-differs
returns-in-Ok-clause-differs g c = λ r services is agrees.
    c.run_nodes.ensures.differs r services is (agrees_from c.all-setups.result.now c.in-Ok.services.items services.items r c.in-Ok.ensures agrees)

pub returns-in-Ok-clause-twice : goal.returns-in-Ok-clause-twice
returns-in-Ok-clause-twice g c = λ r t services is. (let two = c.run_nodes.ensures.twice r t services is in (two.0, (two.1.0.0, two.1.1.0)))
