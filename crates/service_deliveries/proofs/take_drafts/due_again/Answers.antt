use Rattle.std.proofs.Common.{◌≡◌, ◌+◌, None, Some, arith, find, length, option_map, refl, ◌∙◌}
use Rattle.request_log.specs.Entries.{has_origin}
use Rattle.request_log.specs.Folded.{whole}
use Rattle.request_log.specs.declared.entry.Entry.{Entry}
use Rattle.service_parts.specs.Parts.{kept, whole_log}
use Rattle.service_deliveries.proofs.TakeLemmas.{due_again_is}
use Rattle.service_deliveries.proofs.take_drafts.due_again.Goals as goal

pub returns-in-None-clause-is : goal.returns-in-None-clause-is
returns-in-None-clause-is c =
    let p = c.args.parts.now in
    let set = c.args.set.now in
    let folded = c.log.ensures.folded in
    let entries = c.log.ensures.entries in
    let found : None ≡ option_map (λ (e : Entry). e.id) (find (has_origin set.caller set.number) (whole c.log.result.now.folded c.log.result.now.entries)) = c.in-None.ensures in
    let there : option_map (λ (e : Entry). e.id) (find (has_origin set.caller set.number) (whole c.log.result.now.folded c.log.result.now.entries))
    ≡ option_map (λ (e : Entry). e.id) (find (has_origin set.caller set.number) (whole_log p.repairer)) =
    (λ i. option_map (λ (e : Entry). e.id) (find (has_origin set.caller set.number) (whole (folded i) (entries i)))) in
    due_again_is (kept p) set None (length p.journal.rows) (found ∙ there) refl

pub returns-in-Some-clause-is : goal.returns-in-Some-clause-is
returns-in-Some-clause-is c =
    let p = c.args.parts.now in
    let set = c.args.set.now in
    let folded = c.log.ensures.folded in
    let entries = c.log.ensures.entries in
    let there : option_map (λ (e : Entry). e.id) (find (has_origin set.caller set.number) (whole c.log.result.now.folded c.log.result.now.entries))
    ≡ option_map (λ (e : Entry). e.id) (find (has_origin set.caller set.number) (whole_log p.repairer)) =
    (λ i. option_map (λ (e : Entry). e.id) (find (has_origin set.caller set.number) (whole (folded i) (entries i)))) in
    let now : length p.journal.rows + 0 ≡ length p.journal.rows = omega arith in
    due_again_is (kept p) set (Some c.in-Some.id) c.index.result (c.in-Some.ensures ∙ there) (c.index.ensures ∙ now)
