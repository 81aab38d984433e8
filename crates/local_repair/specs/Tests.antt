-- Whether an entry is stale, as a test, and what a step makes of a log.
use Rattle.std.specs.Prelude.{Bool, false, not, ◌&&◌, ◌||◌, List, [], ◌∷◌, Option, Some, None, if◌then◌else◌, map, nat_eq}
use Rattle.std.specs.Coded.{coded_ℕ, coded_bool, coded_list, coded_option}
use Rattle.std.specs.List.{list_all}
use Rattle.lang_base.specs.Equal.{equal}
use Rattle.lang_core.specs.Rows.{get, scan}
use Rattle.lang_core.specs.contracts.cells.Cell as cell
use Rattle.lang_core.specs.contracts.request.Request as request
use Rattle.lang_core.specs.contracts.request.Response as response
use Rattle.lang_core.specs.declared.cells.Cell.{Cell}
use Rattle.lang_core.specs.declared.trace.Read.{Read}
use Rattle.lang_core.specs.declared.trace.Read.TheVariants.{Key, Scan}
use Rattle.request_log.specs.HandedOn.{block_code}
use Rattle.execution.specs.HandedOn.{handler_of}
use Rattle.request_log.specs.Entries.{is_alive}
use Rattle.request_log.specs.declared.entry.Entry.{Entry}
use Rattle.request_log.specs.declared.entry.Made.{Made}
use Rattle.local_repair.specs.Current.{Consumed, after_entry}

-- whether the rows give what was read
abbrev pub gives : List Cell → Read → Bool
gives rows (Key t k found) = equal (coded_option (coded_list coded_ℕ)) (get rows t k) found
gives rows (Scan t prefix found) = equal (coded_list cell.the_row.coded) (scan rows t prefix) found

-- whether an entry is dead, or its request leads to the same handler in its program and in that of its record
abbrev pub has_its_handler : Entry → Bool
has_its_handler e =
    not (is_alive e)
    || equal (coded_option block_code) (handler_of e.under.ran.program e.request) (handler_of e.under.now.program e.request)

abbrev pub is_current_record : Consumed → List Cell → Entry → Made → Bool
is_current_record consumed rows e m =
    equal coded_bool m.alive (is_alive e) && nat_eq m.version e.version && equal request.the_row.coded m.request e.request
    && list_all (gives rows) m.trace.reads && equal (coded_list response.the_row.coded) m.trace.answers (map consumed e.slots)
    && has_its_handler e

abbrev pub has_current : Consumed → List Cell → Entry → Option Made → Bool
has_current consumed rows e None = false
has_current consumed rows e (Some m) = is_current_record consumed rows e m

-- whether an entry isn't stale, where these are the rows before it
abbrev pub is_current : Consumed → List Cell → Entry → Bool
is_current consumed rows e = has_current consumed rows e e.made

-- the first stale entry of these, where these are the rows before them
abbrev pub first_stale : Consumed → List Cell → List Entry → Option Entry
first_stale consumed rows [] = None
first_stale consumed rows (e ∷ es) =
    if is_current consumed rows e then first_stale consumed (after_entry rows e) es else Some e

-- these entries with the first stale one made anew on the rows before it
abbrev pub step_with : Consumed → (List Cell → Entry → Entry) → List Cell → List Entry → List Entry
step_with consumed remake rows [] = []
step_with consumed remake rows (e ∷ es) =
    if is_current consumed rows e then e ∷ step_with consumed remake (after_entry rows e) es else remake rows e ∷ es
