use Rattle.std.proofs.Common.{◌<◌, ◌∙◌, List, ap, length, subst, sym}
use Rattle.request_log.specs.declared.entry.Entry.{Entry}
use Rattle.service_events.specs.State.{unfolded}
use Rattle.service_parts.proofs.WholeLemmas.{unfolded_kept}
use Rattle.service_requests.proofs.applying.add_entry.Goals as goal

pub append-requires-clause-few : goal.append-requires-clause-few
append-requires-clause-few c =
    let same = sym (unfolded_kept c.reserve_for.new.parts) ∙ ap unfolded c.reserve_for.ensures.kept ∙ unfolded_kept c.args.parts.now in
    subst (λ (es : List Entry). length es < 100000) (sym same) c.requires.few
