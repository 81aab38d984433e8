-- By which a proof tells two repairers apart.
use Rattle.std.specs.Prelude.{List, refl}
use Rattle.std.specs.Coded.{Coded, code_by, coded×, coded_list}
use Rattle.lang_core.specs.contracts.cells.Cell as cell
use Rattle.lang_core.specs.declared.cells.Cell.{Cell}
use Rattle.request_log.specs.contracts.entry.Entry as entry
use Rattle.request_log.specs.contracts.folded.Folded as folded
use Rattle.request_log.specs.declared.entry.Entry.{Entry}
use Rattle.request_log.specs.declared.folded.Folded.{Folded}
use Rattle.local_repair.specs.Repairs.{KeptRepairer}

abbrev pub repairer_code : Coded KeptRepairer
repairer_code =
    code_by (List Folded × (List Cell × List Entry))
    (coded× (coded_list folded.the_row.coded) (coded× (coded_list cell.the_row.coded) (coded_list entry.the_row.coded)))
    (λ k. (k.folded, (k.base, k.entries)))
    (λ p. record { folded = p.0; base = p.1.0; entries = p.1.1 })
    (λ _. refl)
