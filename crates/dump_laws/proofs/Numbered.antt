-- Numbers of entries, of calls, and of the calls that entries come from, count from 1.
use Rattle.std.proofs.Common.{◌≡◌, ℕ, zero, suc, ◌+◌, ◌<◌, ◌≤◌, Bool, true, false, cond, List, [], ◌∷◌, Option, Some, None, find, map, nat_eq, eqb-true, inl, inr, refl, sym, ap, ◌∙◌, subst, arith}
use Rattle.std.specs.Prelude.{All, Contains, IsSome}
use Rattle.std.specs.List.{AllByRecursion, list_any}
use Rattle.std.specs.Option.{is_some, option_map}
use Rattle.std.proofs.lemmas.List.Sums.{fold_push}
use Rattle.std.proofs.lemmas.Bool.{and_parts, cases_Bool}
use Rattle.std.proofs.lemmas.Bool.Decides.{nat_tests}
use Rattle.std.proofs.lemmas.List.Elements.{All-contains, Contains-append_left, Contains-append_right}
use Rattle.lang_base.specs.Texts.{same_text}
use Rattle.lang_core.specs.Origins.{is_call}
use Rattle.lang_core.specs.declared.ids.Origin.{Origin}
use Rattle.lang_core.specs.declared.ids.Origin.TheVariants.{Outside, Call}
use Rattle.lang_core.specs.declared.trace.CallMade.{CallMade}
use Rattle.request_log.specs.Entries.{has_origin}
use Rattle.request_log.specs.Records.{record_of, recorded_calls}
use Rattle.request_log.specs.declared.entry.Entry.{Entry}
use Rattle.journal_rows.specs.Words.{asked, asked_step, last_sent, is_version_of}
use Rattle.journal_rows.specs.declared.callee.AskedRow.{AskedRow}
use Rattle.journal_rows.specs.declared.callee.TookRow.{TookRow}
use Rattle.journal_rows.specs.declared.caller.SentRow.{SentRow}
use Rattle.journal_rows.specs.declared.row.Row.{Row}
use Rattle.journal_rows.specs.declared.row.Row.TheVariants.{Asked, Took}
use Rattle.call_registers.specs.Registers.{CountFrom, register}
use Rattle.call_registers.specs.declared.register.Register.{Register}
use Rattle.service_events.specs.Fits.{AsksOn, EachAfter, Fits, WantsItsCalls, calls_of_entry, calls_of_flight, places, sent_by, takes_request, wanted_call}
use Rattle.service_events.specs.State.{Kept, me}
use Rattle.service_events.proofs.CallRowLemmas.{go_on}
use Rattle.service_events.proofs.FittingLemmas.{wanted_by}
use Rattle.service_events.proofs.SearchLemmas.{contains_cases, contains_here}
use Rattle.world_agreement.specs.Partners.{HasSent, service_of}
use Rattle.world_agreement.proofs.EntryFacts.{begun}
use Rattle.world_agreement.proofs.ListLemmas.{all_from, contains_map, some_out}
use Rattle.world_agreement.proofs.NameLemmas.{found_by_name, found_own}
use Rattle.world_agreement.proofs.SentFacts.{IsSentBefore, sent_before}
use Rattle.world_agreement.proofs.Settled.{AreTogether, fits_of, partner}
use Rattle.world_agreement.proofs.TakenFacts.{call_same}

-- ---- numbers of entries

-- nothing is asked under the number 0
none_asked : (before : List Row) (row : Row) → AsksOn before row → asked 0 before ≡ None → asked_step 0 (asked 0 before) row ≡ None
none_asked before (Asked a) asks none =
    let other : nat_eq a.id 0 ≡ false = grind (arith, nat_tests, asks) in
    rw other none
none_asked before row asks none = none

zero_unasked : (journal : List Row) → EachAfter AsksOn [] journal → asked 0 journal ≡ None
zero_unasked journal follow =
    go_on AsksOn (λ j. asked 0 j ≡ None) (λ before row asks none. rw fold_push (none_asked before row asks none)) journal [] follow refl

positive_by : (n : ℕ) → ¬ (n ≡ 0) → 0 < n
positive_by zero other = absurd (other refl)
positive_by (suc n) other = omega arith

asked_under : (journal : List Row) (n : ℕ) (row : AskedRow) → EachAfter AsksOn [] journal → asked n journal ≡ Some row → ¬ (n ≡ 0)
asked_under journal n row follow is zero_is =
    let none : asked n journal ≡ None = ap (λ m. asked m journal) zero_is ∙ zero_unasked journal follow in
    let both : Some row ≡ None = sym is ∙ none in
    cc

-- an entry's number
pub id_positive : (s : Kept) → Fits s → (e : Entry) → Contains s.entries e → 0 < e.id
id_positive s fits e here =
    let made = begun s fits e (found_own s.entries e fits.asked.distinct here) in
    positive_by e.id (asked_under s.journal e.id made.row fits.asked.rows made.is)

-- ---- numbers of calls

first_by : (b : Bool) (k n : ℕ) (r made : Register) (later : Option Register) → nat_eq r.number n ≡ b → r.number ≡ k → (later ≡ Some made → k + 1 ≤ n) → cond b (Some r) later ≡ Some made → k ≤ n
first_by true k n r made later is number more found = let same : r.number ≡ n = eqb-true r.number n is in omega (arith, number, same)
first_by false k n r made later is number more found = let above = more found in omega (arith, above)

from_first : (k n : ℕ) (registers : List Register) (made : Register) → CountFrom k registers → register n registers ≡ Some made → k ≤ n
from_first k n [] made counted found = cc
from_first k n (r ∷ registers) made counted found =
    first_by (nat_eq r.number n) k n r made (register n registers) refl counted.0 (from_first (k + 1) n registers made counted.1) found

pub register_positive : (s : Kept) → Fits s → (n : ℕ) (made : Register) → register n s.registers ≡ Some made → 0 < n
register_positive s fits n made found = let least = from_first 1 n s.registers made fits.sent.numbered found in omega (arith, least)

some_of : (n : ℕ) (ns : List ℕ) (c : Option CallMade) (cs : List (Option CallMade)) (f : ℕ → Option CallMade) → f n ∷ map f ns ≡ c ∷ cs → (f n ≡ c) × (map f ns ≡ cs)
some_of n ns c cs f is = (cc, cc)

slots_by : (s : Kept) → Fits s → (ns : List ℕ) (cs : List CallMade) → map (wanted_call s.registers) ns ≡ map Some cs → AllByRecursion (λ n. 0 < n) ns
slots_by s fits [] cs wants = tt
slots_by s fits (n ∷ ns) [] wants = cc
slots_by s fits (n ∷ ns) (c ∷ cs) wants =
    let parts = some_of n ns (Some c) (map Some cs) (wanted_call s.registers) wants in
    let wanted = wanted_by s.registers n c parts.0 in
    (register_positive s fits n wanted.made wanted.found, slots_by s fits ns cs parts.1)

pub slots_positive : (s : Kept) → Fits s → (e : Entry) → WantsItsCalls s.registers (calls_of_entry e) → AllByRecursion (λ n. 0 < n) e.slots
slots_positive s fits e wants = slots_by s fits e.slots (recorded_calls (record_of e)) wants

-- ---- numbers of the calls that entries come from

-- a number of a call counts from 1
abbrev pub CountsFromOne : Origin → Type 0
CountsFromOne Outside = Unit {0}
CountsFromOne (Call caller number) = 0 < number

mapped_some : (o : Option Register) (l : SentRow) → option_map sent_by o ≡ Some l → (r : Register) × (o ≡ Some r)
mapped_some None l is = cc
mapped_some (Some r) l is = (r, refl)

took_by : (c : List ℕ) (n : ℕ) (row : Row) → takes_request c n row ≡ true → (t : TookRow) × (row ≡ Took t) × (t.number ≡ n)
took_by c n (Took t) is =
    let version = (and_parts (is_version_of c n t) (is_some t.desired) is).0 in
    (t, refl, eqb-true t.number n (and_parts (same_text t.caller c) (nat_eq t.number n) version).1)
took_by c n row is = absurd cc

took_in : (c : List ℕ) (n : ℕ) (journal : List Row) → list_any (takes_request c n) journal ≡ true → (t : TookRow) × Contains journal (Took t) × (t.number ≡ n)
took_in c n [] is = absurd cc
took_in c n (row ∷ rows) is = elim (cases_Bool (takes_request c n row)) [
  | inl here ↦ (let took = took_by c n row here in
      let There : Row → Type 0 = λ x. Contains (row ∷ rows) x in
      (took.0, subst There took.1 (contains_here row rows), took.2))
  | inr other ↦ (let later = took_in c n rows (rw other at is) in (later.0, Contains-append_right (row ∷ []) rows (Took later.0) later.1, later.2))
]

found_there : {X : Type 0} (p : X → Bool) (xs : List X) (x : X) → Contains xs x → p x ≡ true → IsSome (find p xs)
found_there p [] x there is = absurd (omega (arith, there.1))
found_there p (y ∷ xs) x there is = elim (cases_Bool (p y)) [
  | inl passes ↦ rw passes refl
  | inr fails ↦ rw fails
      (elim (contains_cases y x xs there) [
        | inl same ↦ (let both : true ≡ false = sym is ∙ ap p (sym same) ∙ fails in absurd cc)
        | inr later ↦ found_there p xs x later is
      ])
]

module _ (services : List Kept) (h : AreTogether services) where
  took_positive : (s : Kept) → service_of (me s) services ≡ Some s → (t : TookRow) → Contains s.journal (Took t) → 0 < t.number
  took_positive s here t at =
      let sent = some_out (service_of t.caller services) (λ (u : Kept). HasSent (me s) t.number t.version t.desired u.journal) (partner services h (me s) s here (Took t) at) in
      let fits = fits_of services h t.caller sent.0 sent.1 in
      let row : SentRow = record { number = t.number; dest = me s; version = t.version; desired = t.desired } in
      let last = some_out (last_sent t.number (sent.0).journal) (IsSentBefore row) (sent_before row (sent.0).journal fits.sent.rows sent.2) in
      let made = mapped_some (register t.number (sent.0).registers) last.0 (fits.sent.registers t.number ∙ last.1) in
      register_positive sent.0 fits t.number made.0 made.1

  origin_by : (s : Kept) → service_of (me s) services ≡ Some s → Fits s → (e : Entry) → Contains s.entries e → (o : Origin) → e.origin ≡ o → CountsFromOne o
  origin_by s here fits e at Outside is = tt
  origin_by s here fits e at (Call c n) is =
      let its : has_origin c n e ≡ true = ap (is_call c n) is ∙ call_same c n in
      let took = took_in c n s.journal ((fits.asked.calls c n).0 (found_there (has_origin c n) s.entries e at its)) in
      let positive = took_positive s here took.0 took.1 in
      subst (λ m. 0 < m) took.2 positive

  pub origin_positive : (s : Kept) → service_of (me s) services ≡ Some s → Fits s → (e : Entry) → Contains s.entries e → CountsFromOne e.origin
  origin_positive s here fits e at = origin_by s here fits e at e.origin refl

-- ---- of all entries

pub record IsNumberedEntry (e : Entry) : Type 0 where
  pub id : 0 < e.id
  pub origin : CountsFromOne e.origin
  pub slots : AllByRecursion (λ n. 0 < n) e.slots

-- the entries of services that are together are numbered so
pub all_numbered : (services : List Kept) → AreTogether services → All (λ (s : Kept). All IsNumberedEntry s.entries) services
all_numbered services h = all_from (λ (s : Kept). All IsNumberedEntry s.entries) services (λ s there.
    (let fits : Fits s = All-contains Fits services s h.fits there in
    let here = found_by_name services h.differ s there in
    all_from IsNumberedEntry s.entries (λ e at. record {
      id = id_positive s fits e at;
      origin = origin_positive services h s here fits e at;
      slots = slots_positive s fits e
          (All-contains (WantsItsCalls s.registers) (places s) (calls_of_entry e) fits.places.calls
          (Contains-append_left (map calls_of_entry s.entries) (map calls_of_flight s.flights) (calls_of_entry e) (contains_map calls_of_entry s.entries e at)));
    })))
