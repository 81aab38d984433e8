use Rattle.std.proofs.Common.{Option, Some, Ok, Err, ℕ, sym, subst, ◌∙◌}
use Rattle.world_events.specs.Events.{answer_to}
use Rattle.world_events.specs.declared.event.Event.TheVariants.{Deliver}
use Rattle.world_laws.specs.Runs.{IsRun}
use Rattle.script_run.specs.Stops.{DoesFirst}
use Rattle.script_run.proofs.Following.{Follows, falls_answer, followed, followed_first, follows_answer, follows_first, heard_err, heard_ok, nothing_next, on_err}
use Rattle.script_run.proofs.asking.follow.Goals as goal

pub loop-next-init : goal.loop-next-init
loop-next-init c = follows_first c.args.world.now c.args.happened.now.packet (Some (c.args.detail.now, c.args.happened.now)) c.requires

pub returns-in_err-came-clause-early : goal.returns-in_err-came-clause-early
returns-in_err-came-clause-early c =
    let first = followed_first c.args.world.now c.args.happened.now.packet (Some (c.args.detail.now, c.args.happened.now)) c.loop-next.world c.loop-next.next (Some (c.loop-next.detail, c.loop-next.happened)) c.loop-next.invariant in
    on_err _ (subst (DoesFirst c.args.world.now (IsRun c.args.world.now c.args.happened.now.packet)) (sym c.in_err-came.ensures.early) first)

pub loop-next-smaller-in-Ok : goal.loop-next-smaller-in-Ok
loop-next-smaller-in-Ok c =
    falls_answer c.loop-next.world c.step.new.world c.loop-next.next c.in-Some.number (Ok c.in-Ok.came) c.loop-next.invariant.hand c.in-Some.is
    (heard_ok (answer_to c.loop-next.world (Deliver c.in-Some.number)) c.in-Ok.came (sym c.in-Ok.is ∙ c.in_ok-came.ensures.heard)) c.in_ok-came.ensures.after

pub loop-next-preserved-in-Ok : goal.loop-next-preserved-in-Ok
loop-next-preserved-in-Ok c =
    let last = Some (c.loop-next.detail, c.loop-next.happened) in
    let F : Option ℕ → Type 0 = λ o. Follows c.args.world.now c.args.happened.now.packet (Some (c.args.detail.now, c.args.happened.now)) c.loop-next.world o last in
    follows_answer c.args.world.now c.args.happened.now.packet (Some (c.args.detail.now, c.args.happened.now)) c.loop-next.world c.step.new.world c.in-Some.number last (Ok c.in-Ok.came)
    (subst F c.in-Some.is c.loop-next.invariant)
    (heard_ok (answer_to c.loop-next.world (Deliver c.in-Some.number)) c.in-Ok.came (sym c.in-Ok.is ∙ c.in_ok-came.ensures.heard)) c.in_ok-came.ensures.after c.in_ok-came.ensures.few

pub loop-next-smaller-in-Ok-2 : goal.loop-next-smaller-in-Ok-2
loop-next-smaller-in-Ok-2 c =
    falls_answer c.loop-next.world c.step.new.world c.loop-next.next c.in-Some.number (Ok c.in-Ok.came) c.loop-next.invariant.hand c.in-Some.is
    (heard_ok (answer_to c.loop-next.world (Deliver c.in-Some.number)) c.in-Ok.came (sym c.in-Ok.is ∙ c.in_ok-came.ensures.heard)) c.in_ok-came.ensures.after

pub loop-next-preserved-in-Ok-2 : goal.loop-next-preserved-in-Ok-2
loop-next-preserved-in-Ok-2 c =
    let last = Some (c.loop-next.detail, c.loop-next.happened) in
    let F : Option ℕ → Type 0 = λ o. Follows c.args.world.now c.args.happened.now.packet (Some (c.args.detail.now, c.args.happened.now)) c.loop-next.world o last in
    follows_answer c.args.world.now c.args.happened.now.packet (Some (c.args.detail.now, c.args.happened.now)) c.loop-next.world c.step.new.world c.in-Some.number last (Ok c.in-Ok.came)
    (subst F c.in-Some.is c.loop-next.invariant)
    (heard_ok (answer_to c.loop-next.world (Deliver c.in-Some.number)) c.in-Ok.came (sym c.in-Ok.is ∙ c.in_ok-came.ensures.heard)) c.in_ok-came.ensures.after c.in_ok-came.ensures.few

pub loop-next-smaller : goal.loop-next-smaller
loop-next-smaller c =
    let r = heard_err (answer_to c.loop-next.world (Deliver c.in-Some.number)) _ (sym c.in-Err.is ∙ c.in_ok-came.ensures.heard) in
    falls_answer c.loop-next.world c.step.new.world c.loop-next.next c.in-Some.number (Err r.0) c.loop-next.invariant.hand c.in-Some.is r.1 c.in_ok-came.ensures.after

pub loop-next-preserved : goal.loop-next-preserved
loop-next-preserved c =
    let last = Some (c.loop-next.detail, c.loop-next.happened) in
    let F : Option ℕ → Type 0 = λ o. Follows c.args.world.now c.args.happened.now.packet (Some (c.args.detail.now, c.args.happened.now)) c.loop-next.world o last in
    let r = heard_err (answer_to c.loop-next.world (Deliver c.in-Some.number)) _ (sym c.in-Err.is ∙ c.in_ok-came.ensures.heard) in
    follows_answer c.args.world.now c.args.happened.now.packet (Some (c.args.detail.now, c.args.happened.now)) c.loop-next.world c.step.new.world c.in-Some.number last (Err r.0)
    (subst F c.in-Some.is c.loop-next.invariant) r.1 c.in_ok-came.ensures.after c.in_ok-came.ensures.few

pub returns-clause-run : goal.returns-clause-run
returns-clause-run c =
    let last = Some (c.loop-next.detail, c.loop-next.happened) in
    let F : Option ℕ → Type 0 = λ o. Follows c.args.world.now c.args.happened.now.packet (Some (c.args.detail.now, c.args.happened.now)) c.loop-next.world o last in
    followed c.args.world.now c.args.happened.now.packet (Some (c.args.detail.now, c.args.happened.now)) c.loop-next.world last (subst F (nothing_next c.loop-next.next c.in_default.not-Some) c.loop-next.invariant)
