use Rattle.std.proofs.Common.{◌≡◌, ℕ, Option, OnOk, sym, subst}
use Rattle.service_parts.specs.Drafts.{with_draft}
use Rattle.service_parts.specs.Parts.{kept}
use Rattle.service_requests.specs.Endings.{named_service}
use Rattle.service_requests.proofs.completing.note_call.Goals as goal

pub returns-in-None : goal.returns-in-None
returns-in-None c =
    let s = kept c.args.parts.now in
    let P : Option ℕ → Type 0 = λ slot. OnOk c.note_more.result (with_draft c.note_more.new.draft s ≡ named_service (with_draft c.args.draft.now s) c.args.flight.now slot c.args.call.now) in
    subst P (sym c.in-None.is) (c.note_more.ensures c.args.flight.now)
