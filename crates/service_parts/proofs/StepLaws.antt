-- A repair step is what local repair says of one; in a service on time each goes an entry further, so that steps come to their end.
use Rattle.std.proofs.Common.{◌≡◌, ℕ, zero, suc, ◌+◌, ◌≤◌, Bool, true, false, List, [], ◌∷◌, ◌++◌, Option, Some, None, map, length, get_or, set, take, refl, sym, ap, ◌∙◌, subst, inl, inr, arith, length-append, if◌then◌else◌}
use Rattle.std.specs.Fn.{iterate}
use Rattle.std.proofs.Math.ListN.{length-set}
use Rattle.std.proofs.Math.Seq.{take-length}
use Rattle.std.proofs.lemmas.Bool.{cases_lt}
use Rattle.lang_core.specs.declared.cells.Cell.{Cell}
use Rattle.request_log.specs.declared.entry.Entry.{Entry}
use Rattle.request_log.specs.declared.entry.Made.{Made}
use Rattle.local_repair.specs.Current.{AllCurrent, rows_after}
use Rattle.local_repair.specs.Repairs.{stale_id}
use Rattle.local_repair.specs.Settling.{IsAgain, noted as noted_run}
use Rattle.local_repair.specs.Steps.{is_new_answer, raised, RanFirst, StepsTo}
use Rattle.local_repair.specs.declared.remaking.Rerun.{Rerun}
use Rattle.local_repair.specs.declared.stepped.Stepped.{Stepped}
use Rattle.local_repair.specs.declared.stepped.Stepped.TheVariants.{Idle, Ran as RanAgain}
use Rattle.local_repair.proofs.CurrentLemmas.{current_at}
use Rattle.local_repair.proofs.StepLemmas.{stepped as remade_steps}
use Rattle.local_repair.proofs.TestLemmas.{step_with_at, stale_id_none}
use Rattle.journal_rows.specs.declared.callee.AnsweredRow.{AnsweredRow}
use Rattle.journal_rows.specs.declared.row.Row.TheVariants.{Answered}
use Rattle.call_registers.specs.Registers.{IsTimely}
use Rattle.service_events.specs.State.{Kept, answers, base, unfolded}
use Rattle.service_events.specs.Fits.{Fits, FitsPlaces, calls_of_entry, calls_of_flight}
use Rattle.service_events.specs.Progress.{gives_numbers, changes, raised_at, Counts, GoesFurther}
use Rattle.service_events.specs.Steps.{new_record, new_numbers, sent_rows, answer_rows, Stale, stale_in, step_by, step_event}
use Rattle.service_events.specs.declared.event.Event.TheVariants as events
use Rattle.service_events.proofs.StepForms.{run_again, step_unfolded}
use Rattle.service_events.proofs.CallRowLemmas.{Each, IsPlain}
use Rattle.service_events.proofs.FittingLemmas.{HasRoom, Fitting}
use Rattle.service_events.proofs.CallLaws.{IsFew, book}
use Rattle.service_events.proofs.EntryPlaces.{Stands, others, entry_to_head}
use Rattle.service_events.proofs.EventLaws.{event_fits}
use Rattle.service_parts.proofs.TraceLaws.{new_is_rerun}
use Rattle.service_parts.proofs.SettledLaws.{settled_is, settled_timely}
use Rattle.service_parts.proofs.ApartLaws.{apart_behind, own_behind, stands_at}
use Rattle.service_parts.proofs.StaleLaws.{all_current, StaleAt, stale_at, first_of, fewer_current, some_current}
use Rattle.service_events.proofs.StepLaws.{stands_in}

-- ---- one step

abbrev pub after_step : Kept → Kept
after_step s = (step_event s).service

pub answer_plain : (row : AnsweredRow) (b : Bool) → Each IsPlain (if b then Answered row ∷ [] else [])
answer_plain row true = (tt, tt)
answer_plain row false = tt

-- an entry's calls stand beside those of all others
pub fitting_entry : (s : Kept) → Fits s → (e : Entry) (st : Stands s.entries e) → Fitting (book s) (calls_of_entry e ∷ others st.before st.rest (map calls_of_flight s.flights))
fitting_entry s f e st =
    let fs = map calls_of_flight s.flights in
    let E : List Entry → Type 0 = λ xs. FitsPlaces s.registers (map calls_of_entry xs ++ fs) in
    record { sent = f.sent; places = entry_to_head s.registers st.before e st.rest fs (subst E st.is f.places) }

-- the counts of runs where one entry ran once more
counts_set : (es : List Entry) (place : ℕ) (was e : Entry) → ((d : Entry) → get_or es place d ≡ was) → e.runs ≡ raised was.runs
    → map (λ (x : Entry). x.runs) (set es place e) ≡ raised_at place (map (λ (x : Entry). x.runs) es)
counts_set [] place was e there runs = refl
counts_set (x ∷ es) zero was e there runs =
    ap (λ n. n ∷ map (λ (x : Entry). x.runs) es) (runs ∙ ap (λ (y : Entry). raised y.runs) (sym (there x)))
counts_set (x ∷ es) (suc place) was e there runs = ap (λ ns. x.runs ∷ ns) (counts_set es place was e (λ d. there d) runs)

module _ (s : Kept) (f : Fits s) where
  -- the first stale entry ran again
  module _ (x : Stale) (is : stale_in (answers s) (base s) (unfolded s) ≡ Some x) (few : IsFew (step_by s (Some x)).service) where
    abbrev e : Entry
    e = x.entry

    abbrev m : Made
    m = new_record s x.rows x.entry

    abbrev now : Kept
    now = (step_by s (Some x)).service

    abbrev again : Rerun
    again = record { made = new_record s x.rows x.entry; numbers = new_numbers s x.entry (new_record s x.rows x.entry); answered = is_new_answer (x.entry).made (new_record s x.rows x.entry) }

    at : StaleAt (answers s) (base s) (unfolded s) x
    at = stale_at (answers s) (base s) (unfolded s) x is

    standing : Stands s.entries x.entry
    standing =
        let P : Entry → Type 0 = λ y. Stands (unfolded s) y in
        stands_in s x.entry (subst P (at.here x.entry) (stands_at (unfolded s) at.place x.entry at.within))

    room : HasRoom (book s) (sent_rows s e m ++ answer_rows e m)
    room = record { counts = (let sum = length-append s.journal (sent_rows s e m ++ answer_rows e m) in omega (arith, few, sum)) }

    plain : Each IsPlain (answer_rows e m)
    plain = answer_plain (record { id = (x.entry).id; origin = (x.entry).origin; answer_version = raised (x.entry).answer_version; version = (x.entry).version; response = m.trace.response; live = false }) (is_new_answer (x.entry).made m)

    ran_again : IsAgain s.setting (changes s now) x.rows e again
    ran_again = record {
      rerun = new_is_rerun s x.rows x.entry;
      settled = settled_is (book s) e m.trace.calls (answer_rows e m) (others standing.before standing.rest (map calls_of_flight s.flights)) plain room (fitting_entry s f e standing)
          (gives_numbers s) m.trace.answers (new_is_rerun s x.rows x.entry).answers;
      how = refl;
      tells = refl;
    }

    stays_timely : IsTimely s.registers → IsTimely now.registers
    stays_timely timely =
        settled_timely (book s) e m.trace.calls (answer_rows e m) (others standing.before standing.rest (map calls_of_flight s.flights)) plain room (fitting_entry s f e standing) timely

    again_at : (d : Entry) → IsAgain s.setting (changes s now) (rows_after (base s) (take at.place (unfolded s))) (get_or (unfolded s) at.place d) again
    again_at d =
        let P : List Cell → Type 0 = λ r. IsAgain s.setting (changes s now) r e again in
        let Q : Entry → Type 0 = λ y. IsAgain s.setting (changes s now) (rows_after (base s) (take at.place (unfolded s))) y again in
        subst Q (sym (at.here d)) (subst P at.on ran_again)

    put_at : (d : Entry) → unfolded now ≡ set (unfolded s) at.place (noted_run again (get_or (unfolded s) at.place d))
    put_at d =
        ap (λ o. unfolded (step_by s o).service) (sym is)
        ∙ step_unfolded s f.asked.distinct
        ∙ step_with_at (answers s) (run_again s) (base s) (unfolded s) at.place d (first_of (answers s) (base s) (unfolded s) x at)
        ∙ ap (λ y. set (unfolded s) at.place y)
        (ap (λ y. run_again s (rows_after (base s) (take at.place (unfolded s))) y) (at.here d) ∙ ap (λ r. run_again s r e) (sym at.on) ∙ ap (noted_run again) (sym (at.here d)))

    ran_steps : StepsTo s.setting (changes s now) (base s) (unfolded s) (step_by s (Some x)).answer (unfolded now)
    ran_steps =
        (remade_steps s.setting (changes s now) (base s) (unfolded s) (unfolded now) at.place again (step_by s (Some x)).answer (first_of (answers s) (base s) (unfolded s) x at) again_at
        (λ d. ap (λ (y : Entry). RanAgain y.id again.answered) (sym (at.here d))) put_at
        f.runs (apart_behind s f) (own_behind s f)).1

  steps_by : (o : Option Stale) → stale_in (answers s) (base s) (unfolded s) ≡ o → IsFew (step_by s o).service
      → StepsTo s.setting (changes s (step_by s o).service) (base s) (unfolded s) (step_by s o).answer (unfolded (step_by s o).service)
  steps_by None is few = (all_current (answers s) (base s) (unfolded s) is, refl)
  steps_by (Some x) is few = ran_steps x is few

  -- a step answers and leaves what local repair says of one: all entries up to the one that ran again are current then, where the service is on time
  pub step_steps : IsFew (after_step s) → StepsTo s.setting (changes s (after_step s)) (base s) (unfolded s) (step_event s).answer (unfolded (after_step s))
  step_steps few = steps_by (stale_in (answers s) (base s) (unfolded s)) refl few

  timely_by : (o : Option Stale) → stale_in (answers s) (base s) (unfolded s) ≡ o → IsFew (step_by s o).service → IsTimely s.registers → IsTimely (step_by s o).service.registers
  timely_by None is few timely = timely
  timely_by (Some x) is few timely = stays_timely x is few timely

  -- and it stays on time
  pub step_timely : IsFew (after_step s) → IsTimely s.registers → IsTimely (after_step s).registers
  step_timely few timely = timely_by (stale_in (answers s) (base s) (unfolded s)) refl few timely

  -- ---- it goes an entry further

  later_by : (t : Kept) (k id : ℕ) (answered : Bool) → base t ≡ base s → RanFirst s.setting (changes s t) (base s) (unfolded s) id answered (unfolded t) → IsTimely s.registers
      → AllCurrent (answers s) (base s) (take k (unfolded s)) → AllCurrent (answers t) (base t) (take (suc k) (unfolded t))
  later_by t k id answered same r timely h = elim (cases_lt r.place k) [
    | inl passed ↦ absurd (r.first.stale r.was (current_at (answers s) (unfolded s) (base s) k r.place r.was passed r.first.within h))
    | inr reached ↦ (let B : List Cell → Type 0 = λ b. AllCurrent (answers t) b (take (suc k) (unfolded t)) in
        subst B (sym same) (fewer_current (answers t) (base s) (unfolded t) (suc k) (r.place + 1) (omega (arith, reached)) (r.current timely)))
  ]

  further_by : (o : Option Stale) → stale_in (answers s) (base s) (unfolded s) ≡ o → IsFew (step_by s o).service → IsTimely s.registers → (k : ℕ)
      → AllCurrent (answers s) (base s) (take k (unfolded s)) → AllCurrent (answers (step_by s o).service) (base (step_by s o).service) (take (suc k) (unfolded (step_by s o).service))
  further_by None is few timely k h = some_current (answers s) (base s) (unfolded s) (suc k) (all_current (answers s) (base s) (unfolded s) is)
  further_by (Some x) is few timely k h =
      later_by (step_by s (Some x)).service k (x.entry).id (is_new_answer (x.entry).made (new_record s x.rows x.entry)) refl (ran_steps x is few) timely h

  pub step_further : IsFew (after_step s) → IsTimely s.registers → (k : ℕ) → AllCurrent (answers s) (base s) (take k (unfolded s))
      → AllCurrent (answers (after_step s)) (base (after_step s)) (take (suc k) (unfolded (after_step s)))
  step_further few timely k h = further_by (stale_in (answers s) (base s) (unfolded s)) refl few timely k h

  -- and no other entry ran
  counts_by : (t : Kept) (answer : Stepped) → StepsTo s.setting (changes s t) (base s) (unfolded s) answer (unfolded t) → Counts s answer t
  counts_by t Idle h = ap (map (λ (e : Entry). e.runs)) h.1
  counts_by t (RanAgain id answered) r = record {
    place = r.place;
    first = r.first;
    counts = ap (map (λ (e : Entry). e.runs)) r.rest ∙ counts_set (unfolded s) r.place r.was r.entry r.there (ap (λ (e : Entry). e.runs) r.remade.is);
  }

  pub step_counts : IsFew (after_step s) → Counts s (step_event s).answer (after_step s)
  step_counts few = counts_by (after_step s) (step_event s).answer (step_steps few)

  pub step_goes : IsFew (after_step s) → IsTimely s.registers → GoesFurther s (after_step s)
  step_goes few timely = record {
    timely = step_timely few timely;
    further = λ k h. (let P : ℕ → Type 0 = λ n. AllCurrent (answers (after_step s)) (base (after_step s)) (take n (unfolded (after_step s))) in
        let same : suc k ≡ k + 1 = omega arith in
        subst P same (step_further few timely k h));
  }

  many_by : (t : Kept) (answer : Stepped) → StepsTo s.setting (changes s t) (base s) (unfolded s) answer (unfolded t) → length (unfolded t) ≡ length (unfolded s)
  many_by t Idle h = ap length h.1
  many_by t (RanAgain id answered) r = ap length r.rest ∙ length-set (unfolded s) r.place r.entry

  pub step_as_many : IsFew (after_step s) → length (unfolded (after_step s)) ≡ length (unfolded s)
  step_as_many few = many_by (after_step s) (step_event s).answer (step_steps few)

-- ---- steps with no event between

longer_by : (s : Kept) (o : Option Stale) → length s.journal ≤ length (step_by s o).service.journal
longer_by s None = omega arith
longer_by s (Some x) = (let sum = length-append s.journal (sent_rows s x.entry (new_record s x.rows x.entry) ++ answer_rows x.entry (new_record s x.rows x.entry)) in omega (arith, sum))

steps_longer : (n : ℕ) (s : Kept) → length s.journal ≤ length (iterate after_step n s).journal
steps_longer zero s = omega arith
steps_longer (suc n) s = (let one = longer_by s (stale_in (answers s) (base s) (unfolded s)) in let more = steps_longer n (after_step s) in omega (arith, one, more))

first_few : (n : ℕ) (s : Kept) → IsFew (iterate after_step (suc n) s) → IsFew (after_step s)
first_few n s few = (let more = steps_longer n (after_step s) in omega (arith, few, more))

steps_further : (n k : ℕ) (s : Kept) → Fits s → IsTimely s.registers → IsFew (iterate after_step n s) → AllCurrent (answers s) (base s) (take k (unfolded s))
    → AllCurrent (answers (iterate after_step n s)) (base (iterate after_step n s)) (take (n + k) (unfolded (iterate after_step n s)))
steps_further zero k s f timely few h = let P : ℕ → Type 0 = λ m. AllCurrent (answers s) (base s) (take m (unfolded s)) in let same : k ≡ 0 + k = omega arith in subst P same h
steps_further (suc n) k s f timely few h =
    let t = after_step s in
    let one = first_few n s few in
    let P : ℕ → Type 0 = λ m. AllCurrent (answers (iterate after_step n t)) (base (iterate after_step n t)) (take m (unfolded (iterate after_step n t))) in
    let same : n + suc k ≡ suc n + k = omega arith in
    subst P same (steps_further n (suc k) t (event_fits s events.Step f one) (step_timely s f one timely) few (step_further s f one timely k h))

steps_as_many : (n : ℕ) (s : Kept) → Fits s → IsFew (iterate after_step n s) → length (unfolded (iterate after_step n s)) ≡ length (unfolded s)
steps_as_many zero s f few = refl
steps_as_many (suc n) s f few =
    let one = first_few n s few in steps_as_many n (after_step s) (event_fits s events.Step f one) few ∙ step_as_many s f one

-- in a service on time, as many steps as there are entries that aren't folded leave none stale, as long as the rows of its journal can be counted
pub steps_settle : (s : Kept) → Fits s → IsTimely s.registers → IsFew (iterate after_step (length (unfolded s)) s)
    → stale_id (answers (iterate after_step (length (unfolded s)) s)) (base (iterate after_step (length (unfolded s)) s)) (unfolded (iterate after_step (length (unfolded s)) s)) ≡ None
steps_settle s f timely few =
    let n = length (unfolded s) in
    let t = iterate after_step n s in
    let whole : take (n + 0) (unfolded t) ≡ unfolded t = ap (λ m. take m (unfolded t)) (let e = steps_as_many n s f few in let m : n + 0 ≡ length (unfolded t) = omega arith in m) ∙ take-length (unfolded t) in
    let all : AllCurrent (answers t) (base t) (unfolded t) = subst (AllCurrent (answers t) (base t)) whole (steps_further n 0 s f timely few tt) in
    sym (stale_id_none (answers t) (base t) (unfolded t) all)
