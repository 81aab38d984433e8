use Rattle.std.proofs.Common.{ℕ, List, IfOk, subst}
use Rattle.node_core.specs.Closings.{AgreesSince, AreNoted, SamePlace}
use Rattle.node_run.specs.Ends.{IsGoodEndSince}
use Rattle.node_run.proofs.run.run_with.Goals as goal

pub returns-clause-end : goal.returns-clause-end
returns-clause-end g c =
    subst (λ (since : List ℕ). IfOk c.joined_end.result (λ j. IsGoodEndSince since c.args.here.now j.services.items j.receipts.items j.verdict))
    c.in-Ok-opened.ensures.since c.joined_end.ensures.end

pub returns-clause-noted : goal.returns-clause-noted
returns-clause-noted g c =
    subst (λ (since : List ℕ). IfOk c.joined_end.result (λ j. AreNoted since j.services.items j.orders.items)) c.in-Ok-opened.ensures.since c.joined_end.ensures.noted

pub returns-clause-differs : goal.returns-clause-differs
returns-clause-differs g c r kept is =
    subst (λ (since : List ℕ). ¬ AgreesSince since kept.items r) c.in-Ok-opened.ensures.since (c.joined_end.ensures.differs r kept is)

pub returns-clause-twice : goal.returns-clause-twice
returns-clause-twice g c r t kept is =
    subst (λ (since : List ℕ). SamePlace r t × (AgreesSince since kept.items r × AgreesSince since kept.items t)) c.in-Ok-opened.ensures.since
    (c.joined_end.ensures.twice r t kept is)
