-- A service is the replay of its requests, up to its first stale entry.
use Rattle.std.proofs.Common.{◌≡◌, ℕ, List, Option, Some, None, IsSomeAnd, MatchOption, map, take}
use Rattle.std.proofs.lemmas.List.Elements.{All-weaker}
use Rattle.request_log.specs.Records.{Record, record_of}
use Rattle.request_log.specs.declared.entry.Entry.{Entry}
use Rattle.local_repair.specs.Current.{AllCurrent}
use Rattle.local_repair.specs.Histories.{ReplayAsRecorded}
use Rattle.local_repair.specs.Repairs.{IsStaleId}
use Rattle.local_repair.proofs.ReplayLemmas.{replay_recorded, recorded_before}
use Rattle.service_events.specs.State.{Kept, answers, base, folded, unfolded}
use Rattle.service_events.specs.Fits.{Fits, IsPast}
use Rattle.service_core.specs.Readings.{AreReplayed, IsReplayedBefore}

-- a folded entry keeps the answers that its calls consume now
abbrev KeepsItsAnswers : Kept → Entry → Type 0
KeepsItsAnswers s e = IsSomeAnd (record_of e) (λ (r : Record). r.answers ≡ map (answers s) e.slots)

-- entries that replay behind the rows that the folded ones left are one replay with these
behind : (s : Kept) → Fits s → (entries : List Entry) → ReplayAsRecorded s.setting (answers s) (base s) entries → AreReplayed s entries
behind s f entries recorded = record {
  past = f.horizon.replayed;
  consumed = All-weaker (IsPast s) (KeepsItsAnswers s) (λ e past. past.consumed) (folded s) f.horizon.each;
  recorded = recorded;
}

pub replayed : (s : Kept) → Fits s → (first : Option ℕ) → MatchOption first (AllCurrent (answers s) (base s) (unfolded s)) (IsStaleId (answers s) (base s) (unfolded s))
    → MatchOption first (AreReplayed s (unfolded s)) (IsReplayedBefore s)
replayed s f None current = behind s f (unfolded s) (replay_recorded s.setting (answers s) (unfolded s) (base s) f.runs current)
replayed s f (Some id) stale =
    record {
      place = stale.place;
      there = stale.names;
      replayed = behind s f (take stale.place (unfolded s)) (recorded_before s.setting (answers s) (base s) (unfolded s) stale.place f.runs stale.first);
    }
