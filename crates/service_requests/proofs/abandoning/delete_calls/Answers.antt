use Rattle.std.proofs.Common.{◌∙◌, sym, subst, List, All}
use Rattle.journal_rows.specs.declared.row.Row.{Row}
use Rattle.service_events.specs.Calls.{all_deleted}
use Rattle.service_requests.specs.Deletions.{IsDeletion}
use Rattle.service_requests.proofs.DeletionLemmas.{all_deletions, behind_first}
use Rattle.service_requests.proofs.abandoning.delete_calls.Goals as goal

pub note_deletions-requires : goal.note_deletions-requires
note_deletions-requires c =
    let registers = c.args.parts.now.registers.list in
    let numbers = c.as_slice-numbers.result.now in
    let calls = c.into_items-calls.result.items in
    let Each : List Row → Type 0 = λ rows. All IsDeletion rows in
    subst Each
    (sym (behind_first c.args.parts.now.journal.rows (all_deleted registers numbers calls) c.as_slice-first.result.now c.as_slice.result.now c.as_slice-first.ensures (c.as_slice.ensures ∙ c.push_deletions.ensures.rows)))
    (all_deletions registers numbers calls)
