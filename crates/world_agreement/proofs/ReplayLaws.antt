-- A service's part of a legal execution: its requests replay, the folded ones first, and those that don't survive did nothing.
use Rattle.std.proofs.Common.{◌≡◌, List, [], ◌∷◌, ◌++◌, IfSome, All, map, sym, ap, ◌∙◌, subst}
use Rattle.std.proofs.lemmas.List.{map-append, take-append-drop}
use Rattle.std.proofs.lemmas.List.Elements.{All-cons, All-nil, All-contains, All-map}
use Rattle.lang_core.specs.Rows.{apply}
use Rattle.lang_core.specs.declared.cells.Cell.{Cell}
use Rattle.lang_core.specs.declared.setting.Setting.{Setting}
use Rattle.lang_core.specs.declared.trace.Trace.{Trace}
use Rattle.execution.specs.Executions.{Act, IsPlayed, IsReplay, Replays, IsEmptyIfDead, IsLegal}
use Rattle.local_repair.specs.Current.{AllCurrent, rows_after}
use Rattle.local_repair.specs.Histories.{act_of, ReplayAsRecorded}
use Rattle.local_repair.proofs.PastLemmas.{kept_is_now, replay_more}
use Rattle.local_repair.proofs.ReplayLemmas.{replay_recorded}
use Rattle.service_events.specs.State.{Kept, base, answers, folded, unfolded}
use Rattle.service_events.specs.Fits.{Fits, IsPast}
use Rattle.world_agreement.specs.Quiet.{IsQuiet, AreQuiet}
use Rattle.world_agreement.specs.Legal.{history, histories, IsAsRecorded, KeepsAnswers}
use Rattle.world_agreement.proofs.ListLemmas.{all_from}

dead_is_empty : (setting : Setting) (rows : List Cell) (a : Act) (t : Trace) → IsPlayed setting rows a t → IsEmptyIfDead a
dead_is_empty setting rows a t h dead = subst (λ o. IfSome o (λ d. d.calls ≡ [])) (sym h.did) (ap (λ (x : Trace). x.calls) (h.dead dead))

all_empty : (setting : Setting) (rows : List Cell) (acts : List Act) (traces : List Trace) (last : List Cell) → IsReplay setting rows acts traces last → All IsEmptyIfDead acts
all_empty setting rows [] [] last h = All-nil IsEmptyIfDead
all_empty setting rows [] (t ∷ ts) last h = absurd h
all_empty setting rows (a ∷ acts) [] last h = absurd h
all_empty setting rows (a ∷ acts) (t ∷ ts) last h =
    All-cons IsEmptyIfDead a acts (dead_is_empty setting rows a t h.0) (all_empty setting (apply rows t.writes) acts ts last h.1)

-- ---- a service

-- a service of which nothing is stale replays to its records
pub recorded : (s : Kept) → Fits s → AllCurrent (answers s) (base s) (unfolded s) → IsAsRecorded s
recorded s fits current =
    let act = act_of (answers s) in
    let past = fits.horizon.replayed in
    let rest : ReplayAsRecorded s.setting (answers s) (base s) (unfolded s) = replay_recorded s.setting (answers s) (unfolded s) (base s) fits.runs current in
    let kept : All (KeepsAnswers s) (folded s) = all_from (KeepsAnswers s) (folded s) (λ e has. (All-contains (IsPast s) (folded s) e fits.horizon.each has).consumed) in
    let rows = rows_after (base s) (unfolded s) in
    let From : List Act → Type 0 = λ acts. IsReplay s.setting [] acts past.traces (base s) in
    let first = subst From (kept_is_now (answers s) (folded s) kept) past.replay in
    let whole = replay_more s.setting (map act (folded s)) (map act (unfolded s)) [] (base s) rows past.traces rest.traces first rest.replay in
    let all : map act (folded s) ++ map act (unfolded s) ≡ (history s).acts = sym (map-append act (folded s) (unfolded s)) ∙ ap (map act) (take-append-drop s.horizon s.entries) in
    let To : List Act → Type 0 = λ acts. IsReplay s.setting [] acts (past.traces ++ rest.traces) rows in
    record { before = past.traces; traces = rest.traces; replay = subst To all whole; recorded = rest.recorded; kept = kept }

replayed : (s : Kept) → Fits s → AllCurrent (answers s) (base s) (unfolded s) → Replays (history s).setting [] (history s).acts (history s).rows
replayed s fits current = let r = recorded s fits current in record { traces = r.before ++ r.traces; replay = r.replay }

-- its requests that don't survive did nothing
pub each_empty_if_dead : (s : Kept) → Fits s → AllCurrent (answers s) (base s) (unfolded s) → All IsEmptyIfDead (history s).acts
each_empty_if_dead s fits current =
    let r = replayed s fits current in all_empty (history s).setting [] (history s).acts r.traces (history s).rows r.replay

-- ---- services

-- what holds of each service that fits its journal, and of which nothing is stale, holds of each that is quiet
of_each : (P : Kept → Type 0) (services : List Kept) → All Fits services → AreQuiet services
    → ((s : Kept) → Fits s → AllCurrent (answers s) (base s) (unfolded s) → P s) → All P services
of_each P services fits quiet f =
    all_from P services (λ s here. f s (All-contains Fits services s fits here) (All-contains IsQuiet services s quiet here).current)

pub all_recorded : (services : List Kept) → All Fits services → AreQuiet services → All IsAsRecorded services
all_recorded services fits quiet = of_each IsAsRecorded services fits quiet recorded

pub legal_alone : (services : List Kept) → All Fits services → AreQuiet services → IsLegal (histories services)
legal_alone services fits quiet = record {
  replayed = All-map (λ h. Replays h.setting [] h.acts h.rows) history services
      (of_each (λ s. Replays (history s).setting [] (history s).acts (history s).rows) services fits quiet replayed);
  dead_are_empty = All-map (λ h. All IsEmptyIfDead h.acts) history services
      (of_each (λ s. All IsEmptyIfDead (history s).acts) services fits quiet each_empty_if_dead);
}
