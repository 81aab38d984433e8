-- A repair step of local repair over a book is the service's.
use Rattle.std.proofs.Common.{◌≡◌, ◌∙◌, sym, ap, refl, subst, ℕ, Bool, List, ◌++◌, All, Result, Ok, Err, IfOk, get_or, set, take, map, length}
use Rattle.lang_base.specs.declared.memory.NoMemory.{NoMemory}
use Rattle.lang_core.specs.declared.cells.Cell.{Cell}
use Rattle.lang_core.specs.declared.setting.Setting.{Setting}
use Rattle.lang_programs.specs.Numbered.{Numbered}
use Rattle.authorise_rules.specs.Given.{GivenRules}
use Rattle.request_log.specs.declared.entry.Entry.{Entry}
use Rattle.request_log.specs.declared.entry.Made.{Made}
use Rattle.local_repair.specs.Current.{rows_after, AllCurrent}
use Rattle.local_repair.specs.Registers.{SlotsChange}
use Rattle.local_repair.specs.Settling.{CanSettle}
use Rattle.local_repair.specs.Steps.{is_new_answer, remade, IsRerun, RanFirst, StepsTo}
use Rattle.local_repair.specs.declared.stepped.Stepped.{Stepped}
use Rattle.local_repair.specs.declared.stepped.Stepped.TheVariants.{Idle, Ran}
use Rattle.local_repair.proofs.TestLemmas.{step_with_at}
use Rattle.call_registers.specs.Registers.{IsTimely}
use Rattle.service_events.specs.State.{Kept as Service, After, after, answers, base, folded, unfolded}
use Rattle.service_events.specs.Fits.{Fits, FitsPlaces, calls_of_entry, calls_of_flight}
use Rattle.service_events.specs.Steps.{new_record, new_numbers, stepped, step_by, step_event}
use Rattle.service_events.proofs.StepForms.{new_trace_is, run_again, step_entries}
use Rattle.service_events.proofs.EntryPlaces.{others, entry_to_head}
use Rattle.service_parts.proofs.ApartLaws.{stands_at}
use Rattle.service_parts.proofs.StaleLaws.{none_stale, found_first}
use Rattle.service_repairs.specs.Books.{KeptBook, answers as answers_in, settled, Settles, IsOwn, book_of, with_book}
use Rattle.service_events.proofs.HorizonLemmas.{all_entries}
use Rattle.service_events.proofs.StepLaws.{stands_in}
use Rattle.request_log.specs.Folded.{as_entry}
use Rattle.local_repair.specs.Repairs.{KeptRepairer}

-- ---- what a step asks

-- the calls of each entry can be settled
pub all_settle : (s : Service) → Fits s → All (CanSettle (λ e t. IsOwn (book_of s) e) s.setting) (unfolded s)
all_settle s f = λ k d within.
    let st = stands_in s (get_or (unfolded s) k d) (stands_at (unfolded s) k d within) in
    let fs = map calls_of_flight s.flights in
    let E : List Entry → Type 0 = λ xs. FitsPlaces s.registers (map calls_of_entry xs ++ fs) in
    let own : IsOwn (book_of s) (get_or (unfolded s) k d) =
    record { sent = f.sent; others = others st.before st.rest fs; places = entry_to_head s.registers st.before (get_or (unfolded s) k d) st.rest fs (subst E st.is f.places) } in
    record { live = λ rows t done. own; dead = own }

-- ---- what it leaves

-- the registers as a step over a book sees them
abbrev pub change_in : KeptBook → KeptBook → ℕ → ℕ → SlotsChange
change_in b b' last later =
    record {
      before = answers_in b;
      after = answers_in b';
      last = last;
      later = later;
      timely = IsTimely b.registers;
      settles = Settles b b';
    }

record_is : (s : Service) (rows : List Cell) (e : Entry) (m : Made) → IsRerun s.setting (answers s) rows e m → m ≡ new_record s rows e
record_is s rows e m r =
    let trace : m.trace ≡ (new_record s rows e).trace = r.trace ∙ new_trace_is s rows e in
    λ i. record { alive = r.alive i; version = r.version i; request = r.request i; trace = trace i }

module _ (s : Service) (f : Fits s) (b' : KeptBook) (last later : ℕ) (es' : List Entry) where
  idle_is : AllCurrent (answers s) (base s) (unfolded s) → es' ≡ unfolded s → b' ≡ book_of s → after (with_book s (folded s ++ es') b') Idle ≡ step_event s
  idle_is all same book =
      ap (λ es. after (with_book s es b') Idle) (ap (λ es. folded s ++ es) same ∙ all_entries s) ∙ ap (λ b. after (with_book s s.entries b) Idle) book
      ∙ sym (ap (step_by s) (none_stale (answers s) (base s) (unfolded s) all))

  module _ (id : ℕ) (answered : Bool) (r : RanFirst s.setting (change_in (book_of s) b' last later) (base s) (unfolded s) id answered es') where
    abbrev was : Entry
    was = r.was

    abbrev rows : List Cell
    rows = rows_after (base s) (take r.place (unfolded s))

    abbrev fresh : Made
    fresh = new_record s (rows_after (base s) (take r.place (unfolded s))) r.was

    -- what a step leaves where the entry got this record
    abbrev leaves : Made → After Stepped
    leaves m =
        after (with_book s (folded s ++ set (unfolded s) r.place (remade r.was m (new_numbers s r.was m))) (settled (book_of s) r.was m.trace (is_new_answer (r.was).made m)))
        (Ran (r.was).id (is_new_answer (r.was).made m))

    whole : step_event s ≡ stepped s r.was fresh
    whole = ap (step_by s) (found_first (answers s) (base s) (unfolded s) r.place r.was r.first r.there)

    entries_are : (stepped s r.was fresh).service.entries ≡ folded s ++ set (unfolded s) r.place (run_again s rows r.was)
    entries_are =
        ap (λ (a : After Stepped). a.service.entries) (sym whole) ∙ step_entries s f.asked.distinct
        ∙ ap (λ es. folded s ++ es) (step_with_at (answers s) (run_again s) (base s) (unfolded s) r.place r.was r.first ∙ ap (λ y. set (unfolded s) r.place (run_again s rows y)) (r.there r.was))

    fresh_leaves : leaves fresh ≡ step_event s
    fresh_leaves =
        ap (λ es. let k : Service = (stepped s r.was fresh).service in after (record k { entries = es }) (stepped s r.was fresh).answer) (sym entries_are) ∙ sym whole

    made_leaves : after (with_book s (folded s ++ es') b') (Ran id answered) ≡ leaves r.remade.made
    made_leaves =
        let m = r.remade.made in
        ap (λ (es : List Entry). after (with_book s (folded s ++ es) b') (Ran id answered)) (r.rest ∙ ap (set (unfolded s) r.place) (r.remade.is ∙ ap (remade r.was m) r.remade.settled.given))
        ∙ ap (λ b. after (with_book s (folded s ++ set (unfolded s) r.place (remade r.was m (new_numbers s r.was m))) b) (Ran id answered)) r.remade.settled.is
        ∙ ap (λ n. after (with_book s (folded s ++ set (unfolded s) r.place (remade r.was m (new_numbers s r.was m))) (settled (book_of s) r.was m.trace (is_new_answer (r.was).made m))) (Ran n answered)) r.names
        ∙ ap (λ a. after (with_book s (folded s ++ set (unfolded s) r.place (remade r.was m (new_numbers s r.was m))) (settled (book_of s) r.was m.trace (is_new_answer (r.was).made m))) (Ran (r.was).id a)) r.tells

    ran_is : after (with_book s (folded s ++ es') b') (Ran id answered) ≡ step_event s
    ran_is = made_leaves ∙ ap leaves (record_is s rows r.was r.remade.made r.remade.rerun) ∙ fresh_leaves

  -- what the step answers and leaves is what the event does
  pub step_is : (answer : Stepped) → StepsTo s.setting (change_in (book_of s) b' last later) (base s) (unfolded s) answer es' → (answer ≡ Idle → b' ≡ book_of s)
      → after (with_book s (folded s ++ es') b') answer ≡ step_event s
  step_is Idle h same = idle_is h.0 h.1 (same refl)
  step_is (Ran id answered) h same = ran_is id answered h

-- the same, where the step ran over a book that was taken out of the service, and was put back into it
pub repaired : (s : Service) → Fits s → (b b' : KeptBook) (last later : ℕ) (setting : Setting) (began rules : GivenRules) (newest : Numbered) (old new : KeptRepairer) (now : Service) (result : Result Stepped NoMemory)
    → b ≡ book_of s → setting ≡ s.setting → began ≡ s.began → rules ≡ s.rules → newest ≡ s.newest → map as_entry old.folded ≡ folded s → length old.folded ≡ s.horizon → old.base ≡ base s → old.entries ≡ unfolded s
    → new.folded ≡ old.folded → new.base ≡ old.base
    → IfOk result (λ stepped. StepsTo setting (change_in b b' last later) old.base old.entries stepped new.entries)
    → (result ≡ Ok Idle → b' ≡ b)
    → now ≡ record {
      setting = setting;
      began = began;
      rules = rules;
      newest = newest;
      entries = map as_entry new.folded ++ new.entries;
      horizon = length new.folded;
      base = new.base;
      flights = b'.flights;
      journal = b'.journal;
      registers = b'.registers;
      replies = b'.replies;
    }
    → IfOk result (λ stepped. after now stepped ≡ step_event s)
repaired s f b b' last later setting began rules newest old new now (Err e) book set first ruled newer past many under entries same_past same_base steps idle is = tt
repaired s f b b' last later setting began rules newest old new now (Ok stepped) book set first ruled newer past many under entries same_past same_base steps idle is =
    let es' = new.entries in
    let P : KeptBook → Type 0 = λ k. StepsTo setting (change_in k b' last later) old.base old.entries stepped es' in
    let T : Setting → Type 0 = λ t. StepsTo t (change_in (book_of s) b' last later) old.base old.entries stepped es' in
    let B : List Cell → Type 0 = λ r. StepsTo s.setting (change_in (book_of s) b' last later) r old.entries stepped es' in
    let Q : List Entry → Type 0 = λ xs. StepsTo s.setting (change_in (book_of s) b' last later) (base s) xs stepped es' in
    let front : map as_entry new.folded ≡ folded s = ap (map as_entry) same_past ∙ past in
    let horizon : length new.folded ≡ s.horizon = ap length same_past ∙ many in
    let rows : new.base ≡ base s = same_base ∙ under in
    let there : now ≡ with_book s (folded s ++ es') b' =
    is ∙ (λ i. record {
      setting = set i;
      began = first i;
      rules = ruled i;
      newest = newer i;
      entries = front i ++ es';
      horizon = horizon i;
      base = rows i;
      flights = b'.flights;
      journal = b'.journal;
      registers = b'.registers;
      replies = b'.replies;
    }) in
    ap (λ k. after k stepped) there
    ∙ step_is s f b' last later es' stepped (subst Q entries (subst B under (subst T set (subst P book steps)))) (λ e. idle (ap (λ x. Ok x) e) ∙ book)
