use Rattle.std.proofs.Common.{◌<◌, ◌≤◌, length, sym, subst, arith}
use Rattle.service_requests.specs.Deletions.{IsDeletion}
use Rattle.service_requests.proofs.DeletionLemmas.{each_from}
use Rattle.service_requests.proofs.abandoning.note_deletions.Goals as goal

pub note_deletion-requires : goal.note_deletion-requires
note_deletion-requires c =
    let from : c.args.first ≤ c.loop-at.at = omega arith in
    let within : c.loop-at.at < length c.args.journal.now = omega arith in
    subst IsDeletion (sym c.index-journal-at.is) (each_from IsDeletion c.args.first c.loop-at.at c.args.journal.now c.index-journal-at.result c.requires from within)
