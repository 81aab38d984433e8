-- Entries that are folded replay with the answers that are kept of them.
use Rattle.std.proofs.Common.{◌≡◌, List, [], ◌∷◌, ◌++◌, Option, Some, None, IsSomeAnd, All, map, option_map, refl, sym, ap, ◌∙◌, subst}
use Rattle.std.specs.Option.{option_map_or}
use Rattle.std.proofs.lemmas.List.Elements.{All-head, All-tail}
use Rattle.lang_core.specs.Rows.{apply, cell_place}
use Rattle.lang_core.specs.declared.cells.Cell.{Cell}
use Rattle.lang_core.specs.declared.request.Response.{Response}
use Rattle.lang_core.specs.declared.setting.Setting.{Setting}
use Rattle.lang_core.specs.declared.trace.Trace.{Trace}
use Rattle.execution.specs.Executions.{Act, Deed, IsReplay, Replays}
use Rattle.request_log.specs.Folded.{bare, bare_by}
use Rattle.request_log.specs.Records.{Record, record_in, record_of}
use Rattle.request_log.specs.declared.entry.Entry.{Entry}
use Rattle.request_log.specs.declared.entry.Made.{Made}
use Rattle.local_repair.specs.Current.{Consumed, after_entry, rows_after, IsCurrentRecord, AllCurrent, AllRuns}
use Rattle.local_repair.specs.Histories.{deed_in, act_with, act_of, act_kept, ReplayAsKept}
use Rattle.local_repair.proofs.ReplayLemmas.{replays}
use Rattle.std.proofs.lemmas.List.{map-append}
use Rattle.lang_core.specs.Places.{IsOrdered}
use Rattle.lang_core.proofs.RowLemmas.{ordered-apply}

-- ---- what is kept of one

kept_by : (consumed : Consumed) (rows : List Cell) (e : Entry) (o : Option Made) → e.made ≡ o → IsSomeAnd o (λ m. IsCurrentRecord consumed rows e m)
    → act_kept (bare_by e (option_map record_in o)) ≡ act_of consumed e
kept_by consumed rows e None is h = absurd h
kept_by consumed rows e (Some m) is h =
    let A : List Response → Option Deed → Act =
    λ xs did. record { id = e.id; origin = e.origin; wanted = e.wanted; struck = e.struck; request = e.request; inputs = e.inputs; program = e.under.now.program; numbers = e.slots; answers = xs; did = did } in
    ap (λ xs. A xs (Some (deed_in (record_in m)))) h.answers ∙ ap (λ o. A (map consumed e.slots) (option_map deed_in (option_map record_in o))) (sym is)

-- where none is stale, each did what is kept of it once it is folded, with the answers that are kept
pub kept_as_now : (consumed : Consumed) (rows : List Cell) (es : List Entry) → AllCurrent consumed rows es → map act_kept (map bare es) ≡ map (act_of consumed) es
kept_as_now consumed rows [] current = refl
kept_as_now consumed rows (e ∷ es) current =
    let head = kept_by consumed rows e e.made refl current.0 in let rest = kept_as_now consumed (after_entry rows e) es current.1 in (λ i. head i ∷ rest i)

consumed_by : (consumed : Consumed) (e : Entry) (o : Option Record) → IsSomeAnd o (λ r. r.answers ≡ map consumed e.slots)
    → act_with (option_map_or (λ (r : Record). r.answers) o []) e ≡ act_of consumed e
consumed_by consumed e None h = absurd h
consumed_by consumed e (Some r) h = ap (λ xs. act_with xs e) h

-- as long as their calls consume these answers, they did it with what is consumed
pub kept_is_now : (consumed : Consumed) (es : List Entry) → All (λ e. IsSomeAnd (record_of e) (λ r. r.answers ≡ map consumed e.slots)) es
    → map act_kept es ≡ map (act_of consumed) es
kept_is_now consumed [] same = refl
kept_is_now consumed (e ∷ es) same =
    let Same : Entry → Type 0 = λ e. IsSomeAnd (record_of e) (λ r. r.answers ≡ map consumed e.slots) in
    let head = consumed_by consumed e (record_of e) (All-head Same e es same) in let rest = kept_is_now consumed es (All-tail Same e es same) in (λ i. head i ∷ rest i)

-- ---- one replay behind another

pub replay_more : (setting : Setting) (acts more : List Act) (rows between last : List Cell) (ts us : List Trace) → IsReplay setting rows acts ts between
    → IsReplay setting between more us last → IsReplay setting rows (acts ++ more) (ts ++ us) last
replay_more setting [] more rows between last [] us first second = subst (λ r. IsReplay setting r more us last) (sym first) second
replay_more setting [] more rows between last (t ∷ ts) us first second = absurd first
replay_more setting (a ∷ acts) more rows between last [] us first second = absurd first
replay_more setting (a ∷ acts) more rows between last (t ∷ ts) us first second =
    (first.0, replay_more setting acts more (apply rows t.writes) between last ts us first.1 second)

-- those that were folded before, and behind them those that are folded now, of which none is stale
pub fold_replays : (setting : Setting) (consumed : Consumed) (past : List Act) (base : List Cell) (es : List Entry) → Replays setting [] past base → AllRuns setting es
    → AllCurrent consumed base es → Replays setting [] (past ++ map act_kept (map bare es)) (rows_after base es)
fold_replays setting consumed past base es before runs current =
    let now = replays setting consumed es base runs current in
    let R : List Act → Type 0 = λ acts. Replays setting [] (past ++ acts) (rows_after base es) in
    subst R (sym (kept_as_now consumed base es current))
    (record {
      traces = before.traces ++ now.traces;
      replay = replay_more setting past (map (act_of consumed) es) [] base (rows_after base es) before.traces now.traces before.replay now.replay;
    })

-- the same, of entries that are kept
pub fold_kept : (setting : Setting) (consumed : Consumed) (past : List Entry) (base : List Cell) (es : List Entry) → ReplayAsKept setting past base → AllRuns setting es
    → AllCurrent consumed base es → ReplayAsKept setting (past ++ map bare es) (rows_after base es)
fold_kept setting consumed past base es before runs current =
    let R : List Act → Type 0 = λ acts. Replays setting [] acts (rows_after base es) in
    subst R (sym (map-append act_kept past (map bare es))) (fold_replays setting consumed (map act_kept past) base es before runs current)

-- ---- rows that a replay leaves stand in order

replay_ordered : (setting : Setting) (acts : List Act) (ts : List Trace) (rows last : List Cell) → IsReplay setting rows acts ts last → IsOrdered cell_place rows → IsOrdered cell_place last
replay_ordered setting [] [] rows last h o = subst (λ r. IsOrdered cell_place r) h o
replay_ordered setting [] (t ∷ ts) rows last h o = absurd h
replay_ordered setting (a ∷ acts) [] rows last h o = absurd h
replay_ordered setting (a ∷ acts) (t ∷ ts) rows last h o = replay_ordered setting acts ts (apply rows t.writes) last h.1 (ordered-apply rows t.writes o)

pub kept_ordered : (setting : Setting) (past : List Entry) (rows : List Cell) → ReplayAsKept setting past rows → IsOrdered cell_place rows
kept_ordered setting past rows r = replay_ordered setting (map act_kept past) r.traces [] rows r.replay tt
