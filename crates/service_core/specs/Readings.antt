-- What is read of a service.
use Rattle.std.specs.Prelude.{ℕ, ◌≡◌, All, IsSomeAnd, List, Option, map, option_map, take}
use Rattle.std.specs.List.{HoldsAt}
use Rattle.request_log.specs.Records.{Record, record_of}
use Rattle.request_log.specs.declared.entry.Entry.{Entry}
use Rattle.local_repair.specs.Histories.{ReplayAsKept, ReplayAsRecorded}
use Rattle.local_repair.specs.Repairs.{stale_id}
use Rattle.service_events.specs.State.{Kept, answers, flight_of, base, folded, unfolded}
use Rattle.service_events.specs.Flying.{awaited}

-- the number of the call for which a flight waits
abbrev pub awaited_by : ℕ → Kept → Option ℕ
awaited_by id s = option_map awaited (flight_of id s)

-- the number of the first stale entry
abbrev pub first_stale : Kept → Option ℕ
first_stale s = stale_id (answers s) (base s) (unfolded s)

-- the folded entries, and behind them these first ones of the others, are a replay. From empty rows on each folded one that survives made the calls and gave
-- the response that are kept of it, with the answers that are kept of it, which its calls consume now; and they leave the rows that stand before the others.
-- From these on each other request that survives ran on the rows before it, with the answers that its calls consume now, and its trace is its record, reads and
-- writes included. What doesn't survive did nothing; and the rows behind them are those that the records' writes come to
pub record AreReplayed (s : Kept) (entries : List Entry) : Type 0 where
  pub past : ReplayAsKept s.setting (folded s) (base s)
  pub consumed : All (λ (e : Entry). IsSomeAnd (record_of e) (λ (r : Record). r.answers ≡ map (answers s) e.slots)) (folded s)
  pub recorded : ReplayAsRecorded s.setting (answers s) (base s) entries

-- those before that of this number, which isn't folded, are
pub record IsReplayedBefore (s : Kept) (id : ℕ) : Type 0 where
  pub place : ℕ
  pub there : HoldsAt (λ (e : Entry). e.id ≡ id) (unfolded s) place
  pub replayed : AreReplayed s (take place (unfolded s))
