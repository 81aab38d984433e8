use Rattle.std.proofs.Common.{◌≡◌, ap, ◌∙◌, length, List, map, subst, sym}
use Rattle.request_log.specs.Folded.{as_entry, whole}
use Rattle.request_log.specs.declared.entry.Entry.{Entry}
use Rattle.request_log.specs.declared.folded.Folded.{Folded}
use Rattle.service_events.specs.State.{Kept, folded, unfolded}
use Rattle.service_parts.proofs.WholeLemmas.{folded_kept, unfolded_kept}
use Rattle.service_core.proofs.service.Service.entries.Goals as goal

pub returns-clause-whole : goal.returns-clause-whole
returns-clause-whole c =
    let r = c.self.inside.parts.repairer in
    ap (λ (fs : List Folded). whole fs c.log.result.now.entries) c.log.ensures.folded ∙ ap (λ (es : List Entry). whole r.folded es) c.log.ensures.entries
    ∙ ap (λ (s : Kept). s.entries) c.self.view_is

pub returns-clause-horizon : goal.returns-clause-horizon
returns-clause-horizon c = ap (λ (fs : List Folded). length fs) c.log.ensures.folded ∙ ap (λ (s : Kept). s.horizon) c.self.view_is

pub returns-clause-entries : goal.returns-clause-entries
returns-clause-entries c =
    subst (λ (s : Kept). c.log.result.now.entries ≡ unfolded s) c.self.view_is (c.log.ensures.entries ∙ sym (unfolded_kept c.self.inside.parts))

pub returns-clause-folded : goal.returns-clause-folded
returns-clause-folded c =
    subst (λ (s : Kept). map as_entry c.log.result.now.folded ≡ folded s) c.self.view_is
    (ap (map as_entry) c.log.ensures.folded ∙ sym (folded_kept c.self.inside.parts))
