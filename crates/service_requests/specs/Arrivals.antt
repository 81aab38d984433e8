-- What a live request is answered without a run, and how want of memory is left out of an answer.
use Rattle.std.specs.Prelude.{ℕ, Bool, List, Option, Some, None, Result, Ok, Err, if◌then◌else◌, option_map}
use Rattle.lang_base.specs.Memory.{Unless, lacks}
use Rattle.lang_core.specs.declared.ids.Origin.{Origin}
use Rattle.lang_core.specs.declared.ids.Origin.TheVariants.{Outside, Call}
use Rattle.lang_core.specs.declared.request.Request.{Request}
use Rattle.request_log.specs.Entries.{find_call}
use Rattle.request_log.specs.Records.{Record, record_of}
use Rattle.request_log.specs.declared.entry.Entry.{Entry}
use Rattle.journal_rows.specs.Words.{last_taken}
use Rattle.journal_rows.specs.declared.callee.TookRow.{TookRow}
use Rattle.service_events.specs.State.{Kept, or_else, is_crowded, is_heavy, is_in_flight}
use Rattle.service_events.specs.Flying.{last_answer}
use Rattle.service_events.specs.declared.answers.Arrived.{Arrived}
use Rattle.service_events.specs.declared.answers.Arrived.TheVariants.{Known}
use Rattle.service_events.specs.declared.refusals.ArriveRefused.{ArriveRefused}
use Rattle.service_events.specs.declared.refusals.ArriveRefused.TheVariants.{Full, NotYet, Gone}

-- unless memory is wanting, this
abbrev pub Says : {X E : Type 0} → (E → Bool) → Result X E → Type 0 → Type 0
Says is_memory result this = Unless (lacks is_memory result) this (Unit {0})

-- an answer without a run, if there is one
abbrev pub Early : Type 0
Early = Option (Result Arrived ArriveRefused)

-- a call that tells it by its result
abbrev pub early : Result (Option Arrived) ArriveRefused → Early
early (Ok None) = None
early (Ok (Some arrived)) = Some (Ok arrived)
early (Err why) = Some (Err why)

-- ---- a call that was here before

abbrev pub by_made : Kept → List ℕ → ℕ → Entry → Option Record → Early
by_made s caller number e None = Some (Err (NotYet number))
by_made s caller number e (Some r) = Some (Ok (Known (last_answer s caller number e r)))

abbrev pub by_entry : Kept → List ℕ → ℕ → Option Entry → Early
by_entry s caller number None = None
by_entry s caller number (Some e) = by_made s caller number e (record_of e)

-- the version of a deletion
abbrev pub deletion_of : ℕ → Option Request → Option ℕ
deletion_of version None = Some version
deletion_of version (Some q) = None

abbrev pub deletion_in : Option TookRow → Option ℕ
deletion_in None = None
deletion_in (Some t) = deletion_of t.version t.desired

abbrev pub unless_deleted : Option ℕ → Early → Early
unless_deleted (Some version) known = Some (Err (Gone version))
unless_deleted None known = known

abbrev pub known : Kept → Origin → Early
known s Outside = None
known s (Call caller number) =
    if is_in_flight (Call caller number) s then Some (Err (NotYet number))
    else unless_deleted (deletion_in (last_taken caller number s.journal)) (by_entry s caller number (find_call (Call caller number) s.entries))

-- ---- any live request

-- how much there is, where there is too much
abbrev pub too_much : Kept → Option ℕ
too_much s = or_else (is_crowded s) (is_heavy s)

abbrev pub refusal : ℕ → Result Arrived ArriveRefused
refusal n = Err (Full n)

-- it is known, or there is too much
abbrev pub before_run : Kept → Origin → Early
before_run s o = or_else (known s o) (option_map refusal (too_much s))
