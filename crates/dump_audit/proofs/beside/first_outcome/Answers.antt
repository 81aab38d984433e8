use Rattle.std.proofs.Common.{◌*◌, Ok, drop, length, ap, ◌∙◌, arith}
use Rattle.std.proofs.Math.Nat.{zero-mul}
use Rattle.std.proofs.lemmas.Iterator.Adapters.{YieldsList-from_vec}
use Rattle.std.proofs.lemmas.Iterator.Consumers.{YieldsList-end, YieldsList-turn}
use Rattle.std.proofs.lemmas.List.{length_push}
use Rattle.dump_audit.specs.Judging.{first_in, replay_fault}
use Rattle.dump_audit.proofs.GroupLemmas.{group_found, group_passed, no_group}
use Rattle.dump_audit.proofs.beside.first_outcome.Goals as goal

pub loop-outcome-init : goal.loop-outcome-init
loop-outcome-init c = λ size world each. ap (λ n. first_in replay_fault (drop n world)) (zero-mul size)

pub returns-in-Some-2 : goal.returns-in-Some-2
returns-in-Some-2 c = λ size world each whole.
    let gives = c.into_iter-outcome-iterator.ensures.into_iter_gives in
    let road = YieldsList-from_vec {s = c.into_iter-outcome-iterator.result} c.args.outcomes.items gives.0 (gives.1 ∙ c.args.outcomes.ok.0) in
    let t = YieldsList-turn road c.loop-outcome.yielded c.loop-outcome.outcome-iterator c.loop-outcome.yielded_by c.next.result c.next.new.self c.in-Some.outcome c.in-Some.is c.next.ensures.steps in
    group_found size (length c.loop-outcome.yielded) world c.args.outcomes.items c.in-Some.outcome c.in-Some-2.found each t.0 t.1 (c.in_ok-found.was ∙ ap Ok c.in-Some-2.is)
    ∙ c.loop-outcome.invariant size world each

pub loop-outcome-preserved : goal.loop-outcome-preserved
loop-outcome-preserved c = λ size world each.
    let gives = c.into_iter-outcome-iterator.ensures.into_iter_gives in
    let road = YieldsList-from_vec {s = c.into_iter-outcome-iterator.result} c.args.outcomes.items gives.0 (gives.1 ∙ c.args.outcomes.ok.0) in
    let t = YieldsList-turn road c.loop-outcome.yielded c.loop-outcome.outcome-iterator c.loop-outcome.yielded_by c.next.result c.next.new.self c.in-Some.outcome c.in-Some.is c.next.ensures.steps in
    ap (λ k. first_in replay_fault (drop (k * size) world)) (length_push c.loop-outcome.yielded c.in-Some.outcome)
    ∙ group_passed size (length c.loop-outcome.yielded) world c.args.outcomes.items c.in-Some.outcome each t.0 t.1 (c.in_ok-found.was ∙ ap Ok c.in_default.is)
    ∙ c.loop-outcome.invariant size world each

pub returns : goal.returns
returns c = λ size world each whole.
    let gives = c.into_iter-outcome-iterator.ensures.into_iter_gives in
    let road = YieldsList-from_vec {s = c.into_iter-outcome-iterator.result} c.args.outcomes.items gives.0 (gives.1 ∙ c.args.outcomes.ok.0) in
    let t = YieldsList-end road c.loop-outcome.yielded c.loop-outcome.outcome-iterator c.loop-outcome.yielded_by c.next.result c.next.new.self c.in-None.is c.next.ensures.steps in
    no_group size (length c.loop-outcome.yielded) world c.args.outcomes.items whole (omega (arith, t.1)) ∙ c.loop-outcome.invariant size world each
