use Rattle.std.proofs.Common.{◌≡◌, ◌∙◌, ◌≤◌, Some, arith}
use Rattle.std.proofs.lemmas.Bool.{le-leb}
use Rattle.std.proofs.lemmas.Result.{IfOk-weaker}
use Rattle.service_events.specs.State.{Kept}
use Rattle.service_events.specs.Flying.{changed, completed}
use Rattle.service_parts.specs.Drafts.{with_draft}
use Rattle.service_requests.specs.Endings.{ends}
use Rattle.service_parts.specs.Parts.{kept}
use Rattle.service_requests.specs.declared.endings.Ending.{Ending}
use Rattle.service_requests.proofs.EndLemmas.{changed_by_is, changed_completes, next_may_end}
use Rattle.service_requests.proofs.completing.changed.Goals as goal

pub complete-requires : goal.complete-requires
complete-requires c =
    next_may_end (kept c.args.parts.now) (with_draft c.args.draft.now (kept c.args.parts.now)) c.args.flight c.name_unsent.new.flight (Some c.args.slot) c.args.call.now
    c.in_ok-name_unsent.ensures.flight c.requires

pub returns-clause-ends : goal.returns-clause-ends
returns-clause-ends c =
    let s : Kept = with_draft c.args.draft.now (kept c.args.parts.now) in
    let now : Kept = with_draft c.name_unsent.new.draft (kept c.args.parts.now) in
    let after : Kept = with_draft c.complete.new.draft (kept c.args.parts.now) in
    let P : Ending → Type 0 = λ e. ends after e ≡ completed 17 now c.name_unsent.new.flight in
    let Q : Ending → Type 0 = λ e. ends after e ≡ changed s c.args.flight c.args.slot c.args.call.now in
    let w : 3 ≤ c.args.flight.changes = omega arith in
    IfOk-weaker c.complete.result P Q
    (λ e h. h
    ∙ (changed_completes 17 s now c.args.flight c.name_unsent.new.flight c.args.slot c.args.call.now (le-leb 3 c.args.flight.changes w) c.in_ok-name_unsent.ensures.draft c.in_ok-name_unsent.ensures.flight
    ∙ changed_by_is s c.args.flight c.args.slot c.args.call.now))
    c.complete.ensures.ends
