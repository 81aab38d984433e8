-- A repair step keeps what fits of calls.
use Rattle.std.proofs.Common.{◌≡◌, Bool, true, false, List, [], ◌∷◌, ◌++◌, Option, Some, None, map, refl, sym, ap, ◌∙◌, subst, inl, inr, arith, length-append, if◌then◌else◌, ℕ, ◌≤◌, length, append_assoc}
use Rattle.std.proofs.lemmas.Bool.{cases_Bool}
use Rattle.lang_core.specs.declared.cells.Cell.{Cell}
use Rattle.request_log.specs.Entries.{IsDistinct, with_entry}
use Rattle.request_log.specs.declared.entry.Entry.{Entry}
use Rattle.request_log.specs.declared.entry.Made.{Made}
use Rattle.local_repair.specs.Current.{Consumed, after_entry}
use Rattle.local_repair.specs.Steps.{calls_of_made, is_new_answer, remade, raised, answer_or_tentative, answers_for}
use Rattle.local_repair.specs.Tests.{is_current}
use Rattle.journal_rows.specs.declared.row.Row.{Row}
use Rattle.journal_rows.specs.declared.row.Row.TheVariants.{Answered}
use Rattle.call_registers.specs.Registers.{next_number, consumed_in, IsTimely}
use Rattle.service_events.specs.State.{Kept, answers, base, folded, unfolded}
use Rattle.service_events.specs.Steps.{new_record, new_numbers, sent_rows, answer_rows, answered_replies, stepped, Stale, stale_in, step_by}
use Rattle.service_events.specs.Fits.{FitsPlaces, calls_of_entry, calls_of_flight, count}
use Rattle.service_events.proofs.CallRowLemmas.{Each, each_append, each_weaker, IsSending, IsUnseen, IsUntaken, IsUnordered, IsPlain, sending_unseen, sending_untaken, sending_unordered}
use Rattle.service_events.proofs.FittingLemmas.{entered, HasRoom, room_first, room_then, Fitting, fitting_then, fitting_plain, Book, entered-append, plain_rows, answered}
use Rattle.service_events.proofs.SettleLemmas.{same_versions, settle_all, Settled}
use Rattle.service_events.proofs.FlightLemmas.{flies_from, flies_fit, flies_rows}
use Rattle.service_events.proofs.KindLemmas.{sends_settled}
use Rattle.service_events.proofs.CallLaws.{Goes, goes_same, book, noted_calls, FitsCalls, IsFew}
use Rattle.service_events.proofs.EntryPlaces.{Stands, with_entry_at, others, entry_to_head, entry_from_head}
use Rattle.service_events.proofs.HorizonLemmas.{all_entries}

-- the first stale entry is one of the entries
stale_stands : (consumed : Consumed) (rows : List Cell) (es : List Entry) (x : Stale) → stale_in consumed rows es ≡ Some x → Stands es x.entry
stale_stands consumed rows [] x h = cc
stale_stands consumed rows (e ∷ es) x h = elim (cases_Bool (is_current consumed rows e)) [
  | inl is ↦ (let later = stale_stands consumed (after_entry rows e) es x (rw is at h) in
      record { before = e ∷ later.before; rest = later.rest; is = ap (λ ys. e ∷ ys) later.is })
  | inr stale ↦ (let same : e ≡ x.entry = ap (λ (y : Stale). y.entry) (stale_is (record { entry = e; rows = rows }) x (rw stale at h)) in
      record { before = []; rest = es; is = (λ i. same i ∷ es) })
]
  where
    stale_is : (a b : Stale) → Some a ≡ Some b → a ≡ b
    stale_is a b e = cc

-- what stands among those that aren't folded stands among all
pub stands_in : (s : Kept) (e : Entry) → Stands (unfolded s) e → Stands s.entries e
stands_in s e st = record {
  before = folded s ++ st.before;
  rest = st.rest;
  is = sym (all_entries s) ∙ ap (λ l. folded s ++ l) st.is ∙ sym (append_assoc (folded s) st.before (e ∷ st.rest));
}

answer_plain : (e : Entry) (m : Made) (b : Bool) → Each IsPlain (if b then Answered (record { id = e.id; origin = e.origin; answer_version = raised e.answer_version; version = e.version; response = m.trace.response; live = false }) ∷ [] else [])
answer_plain e m true = (tt, tt)
answer_plain e m false = tt

plain_unseen : (e : Entry) (m : Made) (b : Bool) → Each IsUnseen (if b then Answered (record { id = e.id; origin = e.origin; answer_version = raised e.answer_version; version = e.version; response = m.trace.response; live = false }) ∷ [] else [])
plain_unseen e m true = (tt, tt)
plain_unseen e m false = tt

plain_untaken : (e : Entry) (m : Made) (b : Bool) → Each IsUntaken (if b then Answered (record { id = e.id; origin = e.origin; answer_version = raised e.answer_version; version = e.version; response = m.trace.response; live = false }) ∷ [] else [])
plain_untaken e m true = (tt, tt)
plain_untaken e m false = tt

plain_unordered : (e : Entry) (m : Made) (b : Bool) → Each IsUnordered (if b then Answered (record { id = e.id; origin = e.origin; answer_version = raised e.answer_version; version = e.version; response = m.trace.response; live = false }) ∷ [] else [])
plain_unordered e m true = (tt, tt)
plain_unordered e m false = tt

-- an entry with other calls
pub goes_stepped : (s : Kept) (e : Entry) (m : Made) → Stands s.entries e → IsDistinct s.entries → Goes s (stepped s e m).service
goes_stepped s e m st distinct =
    let first = sent_rows s e m in
    let last = answer_rows e m in
    let rows = first ++ last in
    let numbers = new_numbers s e m in
    let new = remade e m numbers in
    let es = with_entry new s.entries in
    let b = is_new_answer e.made m in
    let sends = sends_settled s.registers e.slots (calls_of_made e.made) m.trace.calls (next_number s.registers) in
    record {
      grows = record { rows = rows; is = refl; setting = refl };
      keeps = λ few h. (
          let sum = length-append s.journal rows in
          let room : HasRoom (book s) rows = record { counts = omega (arith, few, sum) } in
          let fs = map calls_of_flight s.flights in
          let away = others st.before st.rest fs in
          let E : List Entry → Type 0 = λ xs. FitsPlaces s.registers (map calls_of_entry xs ++ fs) in
          let at : Fitting (book s) (calls_of_entry e ∷ away) = record { sent = h.sent; places = entry_to_head s.registers st.before e st.rest fs (subst E st.is h.places) } in
          let settled = settle_all s.registers e.slots (calls_of_made e.made) m.trace.calls (book s) (next_number s.registers) away
          (room_first (book s) first last room) refl (same_versions s.registers e.slots) at in
          let whole = fitting_then first last (book s) (calls_of_entry new ∷ away)
          (fitting_plain last (entered first (book s)) (calls_of_entry new ∷ away) (room_then (book s) first last room) (answer_plain e m b) settled.fits) in
          let end = (entered rows (book s)).registers in
          let D : List Entry → Type 0 = λ xs. IsDistinct xs in
          let is : es ≡ st.before ++ new ∷ st.rest = ap (with_entry new) st.is ∙ with_entry_at st.before e new st.rest refl (subst D st.is distinct) in
          let P : List Entry → Type 0 = λ xs. FitsPlaces end (map calls_of_entry xs ++ fs) in
          noted_calls s es s.flights (answered_replies s e m) rows room
          (each_append IsUnseen first last (each_weaker IsSending IsUnseen sending_unseen first sends) (plain_unseen e m b))
          (each_append IsUnordered first last (each_weaker IsSending IsUnordered sending_unordered first sends) (plain_unordered e m b)) h
          (record { sent = whole.sent; places = subst P (sym is) (entry_from_head end st.before new st.rest fs whole.places) })
          (flies_fit (s.journal ++ rows) s.flights
          (flies_rows s.journal rows s.flights (each_append IsUntaken first last (each_weaker IsSending IsUntaken sending_untaken first sends) (plain_untaken e m b))
          (flies_from s.journal s.flights h.flights))));
    }

pub step_by_goes : (s : Kept) (x : Option Stale) → stale_in (answers s) (base s) (unfolded s) ≡ x → IsDistinct s.entries → Goes s (step_by s x).service
step_by_goes s None is distinct = goes_same s
step_by_goes s (Some x) is distinct =
    goes_stepped s x.entry (new_record s x.rows x.entry) (stands_in s x.entry (stale_stands (answers s) (base s) (unfolded s) x is)) distinct

-- ---- what calls consume after a step

module _ (s : Kept) (e : Entry) (m : Made) (st : Stands s.entries e) (h : FitsCalls s) (few : IsFew (stepped s e m).service) where
  abbrev first : List Row
  first = sent_rows s e m

  abbrev last : List Row
  last = answer_rows e m

  abbrev mid : Book
  mid = entered first (book s)

  step_room : HasRoom (book s) (first ++ last)
  step_room = record { counts = (let sum = length-append s.journal (first ++ last) in omega (arith, few, sum)) }

  step_settles : Settled (book s) first e.slots (new_numbers s e m) (calls_of_made e.made) m.trace.calls (others st.before st.rest (map calls_of_flight s.flights))
  step_settles =
      let fs = map calls_of_flight s.flights in
      let E : List Entry → Type 0 = λ xs. FitsPlaces s.registers (map calls_of_entry xs ++ fs) in
      settle_all s.registers e.slots (calls_of_made e.made) m.trace.calls (book s) (next_number s.registers) (others st.before st.rest fs)
      (room_first (book s) first last step_room) refl (same_versions s.registers e.slots)
      (record { sent = h.sent; places = entry_to_head s.registers st.before e st.rest fs (subst E st.is h.places) })

  step_registers : (entered (first ++ last) (book s)).registers ≡ mid.registers
  step_registers =
      ap (λ (x : Book). x.registers) (entered-append first last (book s)) ∙ plain_rows (length mid.journal) mid.registers last (answer_plain e m (is_new_answer e.made m))

  -- a step leaves what the calls of all other entries and of flights consume
  pub stepped_others : (n : ℕ) → count n e.slots ≡ 0 → n ≤ length s.registers → answers (stepped s e m).service n ≡ answers s n
  stepped_others n none within =
      ap (λ rs. answered rs n) step_registers ∙ ap (λ o. answer_or_tentative (consumed_in o)) (step_settles.others n none within)

  -- in a service on time, the entry's calls consume what its old slots gave where they are the old calls, and else the tentative answer
  pub stepped_consumes : IsTimely s.registers
      → map (answers (stepped s e m).service) (new_numbers s e m) ≡ answers_for (answers s) (calls_of_made e.made) e.slots m.trace.calls
  stepped_consumes timely = ap (λ rs. map (answered rs) (new_numbers s e m)) step_registers ∙ step_settles.consumes timely

  -- and the service stays on time
  pub stepped_timely : IsTimely s.registers → IsTimely (stepped s e m).service.registers
  stepped_timely timely = subst IsTimely (sym step_registers) (step_settles.timely timely)
