-- Entries that are current replay as they are recorded.
use Rattle.std.proofs.Common.{◌≡◌, ℕ, true, List, [], ◌∷◌, Option, Some, None, IfSome, IsSomeAnd, map, take, length, option_map, refl, sym, ap, ◌∙◌, subst, inl, inr}
use Rattle.std.proofs.lemmas.Bool.{cases_Bool}
use Rattle.std.proofs.lemmas.List.Elements.{All-head, All-tail, All-take}
use Rattle.std.proofs.Math.ListN.{length-map}
use Rattle.lang_core.specs.Rows.{apply}
use Rattle.lang_core.specs.declared.cells.Cell.{Cell}
use Rattle.lang_core.specs.declared.request.Request.{Request}
use Rattle.lang_core.specs.declared.setting.Setting.{Setting}
use Rattle.lang_core.specs.declared.trace.Trace.{Trace}
use Rattle.execution.specs.HandedOn.{run_of}
use Rattle.execution.specs.HandedOn.{Done}
use Rattle.execution.proofs.HandedOn.{counts_done, runs_alike}
use Rattle.execution.specs.Executions.{IsPlayed, IsReplay, Replays}
use Rattle.request_log.specs.Entries.{is_alive}
use Rattle.request_log.specs.Records.{record_in}
use Rattle.request_log.specs.declared.entry.Entry.{Entry}
use Rattle.request_log.specs.declared.entry.Made.{Made}
use Rattle.local_repair.specs.Current.{Consumed, writes_of, after_entry, rows_after, IsCurrentRecord, AllCurrent, IsFirstStale, IsRun, AllRuns}
use Rattle.local_repair.specs.Histories.{deed_in, act_of, ReplayAsRecorded}
use Rattle.local_repair.specs.Programs.{setting_of, setting_ran}

-- a record has as many answers as calls
as_many : (setting : Setting) (consumed : Consumed) (rows : List Cell) (e : Entry) (m : Made) → IsRun setting e.inputs m → IsCurrentRecord consumed rows e m
    → length m.trace.answers ≡ length m.trace.calls
as_many setting consumed rows e m r h = elim (cases_Bool m.alive) [
  | inl alive ↦ counts_done setting m.request e.inputs m.trace.answers rows m.trace (r.live alive rows h.reads)
  | inr dead ↦ (let P : Trace → Type 0 = λ t. length t.answers ≡ length t.calls in subst P (sym (r.dead dead)) refl)
]

-- what a record that is current holds is what the entry did, on the rows and with the answers of now, and under the program of now: the handler is the same
played : (setting : Setting) (consumed : Consumed) (rows : List Cell) (e : Entry) (m : Made) → e.made ≡ Some m → IsRun (setting_ran setting e) e.inputs m
    → IsCurrentRecord consumed rows e m → IsPlayed setting rows (act_of consumed e) m.trace
played setting consumed rows e m is r h =
    let many : length (map consumed e.slots) ≡ length m.trace.calls = ap length (sym h.answers) ∙ as_many (setting_ran setting e) consumed rows e m r h in
    record {
      live = λ alive. played_live alive;
      dead = λ dead. r.dead (h.alive ∙ dead);
      consumed = sym h.answers;
      answered = many;
      named = sym (length-map e.slots consumed) ∙ many;
      did = ap (λ o. option_map deed_in (option_map record_in o)) is;
    }
  where
    played_live : is_alive e ≡ true → run_of (setting_of setting e) e.request e.inputs (map consumed e.slots) rows ≡ Done m.trace
    played_live alive =
        let xs = map consumed e.slots in
        let before : Setting = setting_ran setting e in
        sym (runs_alike e.under.ran.program e.under.now.program setting e.request e.inputs xs rows (h.handler alive))
        ∙ (ap (λ (q : Request). run_of before q e.inputs xs rows) (sym h.request)
        ∙ (ap (λ ys. run_of before m.request e.inputs ys rows) (sym h.answers) ∙ r.live (h.alive ∙ alive) rows h.reads))

-- the record of an entry that is current
record RanNow (setting : Setting) (consumed : Consumed) (rows : List Cell) (e : Entry) : Type 0 where
  made : Made
  is : e.made ≡ Some made
  played : IsPlayed setting rows (act_of consumed e) made.trace

ran_now : (setting : Setting) (consumed : Consumed) (rows : List Cell) (e : Entry) (o : Option Made) → e.made ≡ o → IfSome o (IsRun (setting_ran setting e) e.inputs)
    → IsSomeAnd o (λ m. IsCurrentRecord consumed rows e m) → RanNow setting consumed rows e
ran_now setting consumed rows e None is r h = absurd h
ran_now setting consumed rows e (Some m) is r h = record { made = m; is = is; played = played setting consumed rows e m is r h }

-- entries that are all current replay to their own records and rows
pub replay_recorded : (setting : Setting) (consumed : Consumed) (entries : List Entry) (rows : List Cell) → AllRuns setting entries → AllCurrent consumed rows entries
    → ReplayAsRecorded setting consumed rows entries
replay_recorded setting consumed [] rows runs current = record { traces = []; replay = refl; recorded = refl }
replay_recorded setting consumed (e ∷ es) rows runs current =
    let Ran : Entry → Type 0 = λ x. IfSome x.made (IsRun (setting_ran setting x) x.inputs) in
    let x = ran_now setting consumed rows e e.made refl (All-head Ran e es runs) current.0 in
    let rest = replay_recorded setting consumed es (after_entry rows e) (All-tail Ran e es runs) current.1 in
    let From : List Cell → Type 0 = λ r. IsReplay setting r (map (act_of consumed) es) rest.traces (rows_after rows (e ∷ es)) in
    record {
      traces = (x.made).trace ∷ rest.traces;
      replay = (x.played, subst From (ap (λ o. apply rows (writes_of o)) x.is) rest.replay);
      recorded = λ i. option_map (λ (m : Made). m.trace) (x.is i) ∷ rest.recorded i;
    }

pub replays : (setting : Setting) (consumed : Consumed) (entries : List Entry) (rows : List Cell) → AllRuns setting entries → AllCurrent consumed rows entries
    → Replays setting rows (map (act_of consumed) entries) (rows_after rows entries)
replays setting consumed entries rows runs current =
    let r = replay_recorded setting consumed entries rows runs current in record { traces = r.traces; replay = r.replay }

-- so do the entries before the first stale one
pub recorded_before : (setting : Setting) (consumed : Consumed) (base : List Cell) (entries : List Entry) (place : ℕ) → AllRuns setting entries
    → IsFirstStale consumed base entries place → ReplayAsRecorded setting consumed base (take place entries)
recorded_before setting consumed base entries place runs first =
    replay_recorded setting consumed (take place entries) base (All-take (λ x. IfSome x.made (IsRun (setting_ran setting x) x.inputs)) place entries runs) first.before
