use Rattle.std.proofs.Common.{◌∙◌, List, ap, map, not, subst, sym}
use Rattle.std.specs.Option.{is_some}
use Rattle.std.proofs.lemmas.Result.{IfOk-weaker}
use Rattle.dump_audit.specs.Histories.{histories_of}
use Rattle.one_order.specs.Certificates.{IsStuck}
use Rattle.one_order.specs.Logs.{log_of}
use Rattle.one_order.specs.declared.logs.Log.{Log as LogLeft}
use Rattle.one_order.proofs.SearchLaws.{order_runs}
use Rattle.one_world.specs.Searches.{all_passed}
use Rattle.one_order.proofs.certificates.certificate_of.Goals as goal

pub returns-in-None-clause-one_world : goal.returns-in-None-clause-one_world
returns-in-None-clause-one_world c =
    let logs = ap (λ (ls : List LogLeft). all_passed (map log_of ls)) c.as_slice-logs.ensures.value in
    let passed = sym logs ∙ sym c.first_left.ensures ∙ ap (λ o. not (is_some o)) c.in-None.is in
    order_runs c.args.dump.now.services c.requires.legal c.args.dump.now.kept c.in_ok-found.found.order (c.in_ok-found.ensures.order passed)

pub returns-in-Some-clause-cycle : goal.returns-in-Some-clause-cycle
returns-in-Some-clause-cycle c =
    let logs = ap (λ (ls : List LogLeft). all_passed (map log_of ls)) c.as_slice-logs.ensures.value in
    let left = sym logs ∙ sym c.first_left.ensures ∙ ap (λ o. not (is_some o)) c.in-Some.is in
    IfOk-weaker c.cycle_in.result _ _ (λ found is. λ none order. c.in_ok-found.ensures.stuck left order) c.cycle_in.ensures.none

pub cycle_in-requires-clause-stuck : goal.cycle_in-requires-clause-stuck
cycle_in-requires-clause-stuck c =
    let logs = ap (λ (ls : List LogLeft). all_passed (map log_of ls)) c.as_slice-logs.ensures.value in
    let left = sym logs ∙ sym c.first_left.ensures ∙ ap (λ o. not (is_some o)) c.in-Some.is in
    subst (λ (ls : List LogLeft). IsStuck (histories_of c.args.dump.now.services) (map log_of ls)) (sym c.as_slice-logs.ensures.value) (c.in_ok-found.ensures.ends left)
