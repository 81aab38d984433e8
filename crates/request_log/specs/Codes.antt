-- By which a proof tells two logs apart.
use Rattle.std.specs.Prelude.{List, refl}
use Rattle.std.specs.Coded.{Coded, code_by, coded×, coded_list}
use Rattle.request_log.specs.Entries.{KeptLog}
use Rattle.request_log.specs.contracts.entry.Entry as entry
use Rattle.request_log.specs.contracts.folded.Folded as folded
use Rattle.request_log.specs.declared.entry.Entry.{Entry}
use Rattle.request_log.specs.declared.folded.Folded.{Folded}

abbrev pub log_code : Coded KeptLog
log_code =
    code_by (List Folded × List Entry)
    (coded× (coded_list folded.the_row.coded) (coded_list entry.the_row.coded))
    (λ k. (k.folded, k.entries))
    (λ p. record { folded = p.0; entries = p.1 })
    (λ _. refl)
