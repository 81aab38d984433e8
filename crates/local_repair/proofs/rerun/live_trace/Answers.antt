use Rattle.std.proofs.Common.{◌∙◌, sym, subst, ap, List}
use Rattle.lang_core.specs.declared.request.Response.{Response}
use Rattle.execution.specs.HandedOn.{run_of}
use Rattle.execution.specs.HandedOn.{Ran}
use Rattle.local_repair.specs.Programs.{setting_of}
use Rattle.local_repair.specs.Steps.{answer_at}
use Rattle.local_repair.proofs.HandlerLemmas.{handler}
use Rattle.local_repair.proofs.CallsLemmas.{IsTurn, first_turn, turn_more, done_runs, done_answers, done_again}
use Rattle.local_repair.proofs.rerun.live_trace.Goals as goal

pub loop-turn-init : goal.loop-turn-init
loop-turn-init g c =
    let run : List Response → Ran = λ xs. run_of (setting_of c.args.setting.now c.args.entry.now) c.args.entry.now.request c.args.entry.now.inputs xs (g.V.View.rows c.args.view.now) in
    let P : List Response → Type 0 = λ xs. IsTurn run (g.S.Slots.consumed_of c.args.slots.now) c.args.old.now c.args.entry.now.slots xs 0 in
    subst P (sym c.new-answers.ensures)
    (first_turn run ((handler (setting_of c.args.setting.now c.args.entry.now)).steady c.args.entry.now.request c.args.entry.now.inputs (g.V.View.rows c.args.view.now)) (g.S.Slots.consumed_of c.args.slots.now) c.args.old.now c.args.entry.now.slots)

pub loop-turn-preserved : goal.loop-turn-preserved
loop-turn-preserved g c =
    turn_more (λ xs. run_of (setting_of c.args.setting.now c.args.entry.now) c.args.entry.now.request c.args.entry.now.inputs xs (g.V.View.rows c.args.view.now))
    ((handler (setting_of c.args.setting.now c.args.entry.now)).steady c.args.entry.now.request c.args.entry.now.inputs (g.V.View.rows c.args.view.now))
    (g.S.Slots.consumed_of c.args.slots.now) c.args.old.now c.args.entry.now.slots c.loop-turn.answers c.push.new.self c.loop-turn.turn
    c.in_ok-trace.field-0 c.in-Wants.slot c.in-Wants.calls c.in-Wants.call c.in_ok-answer-in-Wants.answer
    c.in_ok-trace.ensures c.in-Wants.is
    (rw c.as_slice.ensures at c.in_ok-answer-in-Wants.ensures ∙ ap (λ k. answer_at (g.S.Slots.consumed_of c.args.slots.now) c.args.old.now c.args.entry.now.slots k c.in-Wants.call) (sym c.loop-turn.invariant.count))
    c.in_ok-push-in-Wants.ensures.ok c.loop-turn.invariant

pub returns-in-Done-clause-run : goal.returns-in-Done-clause-run
returns-in-Done-clause-run g c =
    done_runs (λ xs. run_of (setting_of c.args.setting.now c.args.entry.now) c.args.entry.now.request c.args.entry.now.inputs xs (g.V.View.rows c.args.view.now))
    ((handler (setting_of c.args.setting.now c.args.entry.now)).steady c.args.entry.now.request c.args.entry.now.inputs (g.V.View.rows c.args.view.now))
    (g.S.Slots.consumed_of c.args.slots.now) c.args.old.now c.args.entry.now.slots c.loop-turn.answers c.loop-turn.turn c.in-Done.trace
    c.loop-turn.invariant (sym c.in_ok-trace.ensures ∙ c.in-Done.is)

pub returns-in-Done-clause-answers : goal.returns-in-Done-clause-answers
returns-in-Done-clause-answers g c =
    done_answers (λ xs. run_of (setting_of c.args.setting.now c.args.entry.now) c.args.entry.now.request c.args.entry.now.inputs xs (g.V.View.rows c.args.view.now))
    ((handler (setting_of c.args.setting.now c.args.entry.now)).steady c.args.entry.now.request c.args.entry.now.inputs (g.V.View.rows c.args.view.now))
    (g.S.Slots.consumed_of c.args.slots.now) c.args.old.now c.args.entry.now.slots c.loop-turn.answers c.loop-turn.turn c.in-Done.trace
    c.loop-turn.invariant (sym c.in_ok-trace.ensures ∙ c.in-Done.is)

pub returns-in-Done-clause-again : goal.returns-in-Done-clause-again
returns-in-Done-clause-again g c =
    done_again (λ xs. run_of (setting_of c.args.setting.now c.args.entry.now) c.args.entry.now.request c.args.entry.now.inputs xs (g.V.View.rows c.args.view.now))
    (g.S.Slots.consumed_of c.args.slots.now) c.args.old.now c.args.entry.now.slots c.loop-turn.answers c.loop-turn.turn c.in-Done.trace
    c.loop-turn.invariant (sym c.in_ok-trace.ensures ∙ c.in-Done.is)
