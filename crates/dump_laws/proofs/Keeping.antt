-- What is written down of services that fit their journals, have different names and are a legal execution keeps what each dump keeps.
use Rattle.std.proofs.Common.{◌≡◌, ℕ, suc, ◌+◌, ◌≤◌, Bool, true, false, cond, ◌&&◌, List, [], ◌∷◌, ◌++◌, Option, Some, None, find, map, length, nat_eq, eq-eqb, refl, sym, ap, ◌∙◌, arith}
use Rattle.std.specs.Prelude.{All}
use Rattle.std.specs.List.{AllByRecursion}
use Rattle.std.specs.Option.{option_map_or}
use Rattle.std.proofs.lemmas.List.Elements.{recursion_from_All}
use Rattle.std.specs.Cmp.Lexicographic.{nat_list_eq_equiv}
use Rattle.lang_base.specs.Texts.{same_text}
use Rattle.lang_core.specs.Origins.{is_call}
use Rattle.lang_core.specs.Places.{IsOrdered}
use Rattle.lang_core.specs.Rows.{cell_place}
use Rattle.lang_core.specs.declared.cells.Cell.{Cell}
use Rattle.lang_core.specs.declared.ids.Origin.{Origin}
use Rattle.lang_core.specs.declared.ids.Origin.TheVariants.{Outside, Call}
use Rattle.lang_core.specs.declared.trace.CallMade.{CallMade}
use Rattle.lang_core.proofs.RowLemmas.{ordered-apply}
use Rattle.request_log.specs.Entries.{IsDistinct, find_call, has_id, has_origin}
use Rattle.request_log.specs.Records.{record_of, recorded_calls}
use Rattle.request_log.specs.declared.entry.Entry.{Entry}
use Rattle.local_repair.specs.Current.{Consumed, after_entry, rows_after, writes_of}
use Rattle.local_repair.proofs.PastLemmas.{kept_ordered}
use Rattle.call_registers.specs.declared.register.Register.{Register}
use Rattle.service_events.specs.Fits.{Fits, NumberedCalls, WantsItsCalls, calls_of_entry, calls_of_flight, count, places, times_held, wanted_call}
use Rattle.service_events.specs.State.{Kept, answers, base, folded, me, unfolded}
use Rattle.world_agreement.specs.Partners.{NamesDiffer}
use Rattle.dump_tables.specs.Kept.{AreApart, AreKept, IsKept, IsSent, IsUnder, IsWhole, call_behind, calls_behind, numbers_of, service_name}
use Rattle.dump_tables.specs.declared.dump.DumpEntry.{DumpEntry}
use Rattle.dump_tables.specs.declared.dump.DumpService.{DumpService}
use Rattle.dump_laws.specs.Dumped.{dumped, dumped_all, dumped_entry}
use Rattle.dump_laws.proofs.Programs.{HasItsProgram, each_there, there_numbered}

-- ---- names of services

mapped_over : {X Y : Type 0} (f : X → Y) (P : X → Type 0) (Q : Y → Type 0) → ((x : X) → P x → Q (f x)) → (xs : List X) → AllByRecursion P xs → AllByRecursion Q (map f xs)
mapped_over f P Q so [] all = tt
mapped_over f P Q so (x ∷ xs) all = (so x all.0, mapped_over f P Q so xs all.1)

names_apart : (services : List Kept) → NamesDiffer services → AreApart (map service_name (dumped_all services))
names_apart [] differ = tt
names_apart (s ∷ services) differ =
    let others : All (λ (t : Kept). ¬ (me s ≡ me t)) services = λ k d within. differ 0 (suc k) d (omega arith) (omega (arith, within)) in
    let rest : NamesDiffer services = λ i j d before within. differ (suc i) (suc j) d (omega (arith, before)) (omega (arith, within)) in (
      mapped_over service_name (λ (d : DumpService). ¬ (me s ≡ service_name d)) (λ name. ¬ (me s ≡ name)) (λ d is. is) (dumped_all services)
          (mapped_over dumped (λ (t : Kept). ¬ (me s ≡ me t)) (λ (d : DumpService). ¬ (me s ≡ service_name d)) (λ t is. is) services
          (recursion_from_All (λ (t : Kept). ¬ (me s ≡ me t)) services others)),
      names_apart services rest,
    )

-- ---- numbers and origins of entries

none_here : (b : Bool) (e : Entry) (later : Option Entry) → cond b (Some e) later ≡ None → (b ≡ false) × (later ≡ None)
none_here true e later is = cc
none_here false e later is = (refl, is)

module _ (consumed : Consumed) where
  ids_others : (id : ℕ) (entries : List Entry) → find (has_id id) entries ≡ None → AllByRecursion (λ y. ¬ (id ≡ y)) (map (λ (e : DumpEntry). e.id) (map (dumped_entry consumed) entries))
  ids_others id [] none = tt
  ids_others id (e ∷ entries) none =
      let parts = none_here (nat_eq e.id id) e (find (has_id id) entries) none in
      let other : ¬ (id ≡ e.id) = λ same. (let yes : nat_eq e.id id ≡ true = eq-eqb e.id id (sym same) in let no : true ≡ false = sym yes ∙ parts.0 in cc) in
      (other, ids_others id entries parts.1)

  ids_apart : (entries : List Entry) → IsDistinct entries → AreApart (map (λ (e : DumpEntry). e.id) (map (dumped_entry consumed) entries))
  ids_apart [] distinct = tt
  ids_apart (e ∷ entries) distinct = (ids_others e.id entries distinct.0.id, ids_apart entries distinct.1)

-- the calls that origins are, one after another
abbrev IsOther : List ℕ → ℕ → (List ℕ × ℕ) → Type 0
IsOther caller number y = ¬ (◌≡◌ {A = List ℕ × ℕ} (caller, number) y)

not_same : (caller : List ℕ) (number : ℕ) (c : List ℕ) (n : ℕ) → (same_text c caller && nat_eq n number) ≡ false → IsOther caller number (c, n)
not_same caller number c n other same =
    let text : same_text c caller ≡ true = ap (λ (p : List ℕ × ℕ). same_text c p.0) same ∙ nat_list_eq_equiv.refl c in
    let number_is : nat_eq n number ≡ true = ap (λ (p : List ℕ × ℕ). nat_eq n p.1) same ∙ eq-eqb n n refl in
    let yes : (same_text c caller && nat_eq n number) ≡ true = rw (text, number_is) refl in
    let no : true ≡ false = sym yes ∙ other in
    cc

behind_all : (caller : List ℕ) (number : ℕ) (o : Origin) (rest : List (List ℕ × ℕ)) → is_call caller number o ≡ false → AllByRecursion (IsOther caller number) rest → AllByRecursion (IsOther caller number) (call_behind o ++ rest)
behind_all caller number Outside rest other all = all
behind_all caller number (Call c n) rest other all = (not_same caller number c n other, all)

module _ (consumed : Consumed) where
  callers_others : (caller : List ℕ) (number : ℕ) (entries : List Entry) → find (has_origin caller number) entries ≡ None → AllByRecursion (IsOther caller number) (calls_behind (map (dumped_entry consumed) entries))
  callers_others caller number [] none = tt
  callers_others caller number (e ∷ entries) none =
      let parts = none_here (is_call caller number e.origin) e (find (has_origin caller number) entries) none in
      behind_all caller number e.origin (calls_behind (map (dumped_entry consumed) entries)) parts.0 (callers_others caller number entries parts.1)

  caller_first : (o : Origin) (entries : List Entry) → find_call o entries ≡ None → AreApart (calls_behind (map (dumped_entry consumed) entries)) → AreApart (call_behind o ++ calls_behind (map (dumped_entry consumed) entries))
  caller_first Outside entries none apart = apart
  caller_first (Call caller number) entries none apart = (callers_others caller number entries none, apart)

  callers_apart : (entries : List Entry) → IsDistinct entries → AreApart (calls_behind (map (dumped_entry consumed) entries))
  callers_apart [] distinct = tt
  callers_apart (e ∷ entries) distinct = caller_first e.origin entries distinct.0.origin (callers_apart entries distinct.1)

-- ---- numbers of calls

count_both : (n : ℕ) (xs ys : List ℕ) → count n (xs ++ ys) ≡ count n xs + count n ys
count_both n [] ys = omega arith
count_both n (x ∷ xs) ys = let more = count_both n xs ys in omega (arith, more)

none_by : (b : Bool) (m : ℕ) → cond b 1 0 + m ≡ 0 → (b ≡ false) × (m ≡ 0)
none_by true m none = absurd (omega (arith, none))
none_by false m none = (refl, omega (arith, none))

one_more : (b : Bool) (m : ℕ) → b ≡ true → cond b 1 0 + m ≤ 1 → m ≡ 0
one_more true m is most = omega (arith, most)
one_more false m is most = cc

fewer : (b : Bool) (m : ℕ) → cond b 1 0 + m ≤ 1 → m ≤ 1
fewer true m most = omega (arith, most)
fewer false m most = omega (arith, most)

none_counted : (n : ℕ) (xs : List ℕ) → count n xs ≡ 0 → AllByRecursion (λ y. ¬ (n ≡ y)) xs
none_counted n [] none = tt
none_counted n (x ∷ xs) none =
    let parts = none_by (nat_eq x n) (count n xs) none in
    let other : ¬ (n ≡ x) = λ same. (let yes : nat_eq x n ≡ true = eq-eqb x n (sym same) in let no : true ≡ false = sym yes ∙ parts.0 in cc) in
    (other, none_counted n xs parts.1)

apart_counted : (xs : List ℕ) → ((n : ℕ) → count n xs ≤ 1) → AreApart xs
apart_counted [] once = tt
apart_counted (x ∷ xs) once =
    let here : nat_eq x x ≡ true = eq-eqb x x refl in
    let first : count x xs ≡ 0 = one_more (nat_eq x x) (count x xs) here (once x) in
    (none_counted x xs first, apart_counted xs (λ n. fewer (nat_eq x n) (count n xs) (once n)))

-- numbers of entries' calls stand as often in a row as in their places
in_a_row : (consumed : Consumed) (n : ℕ) (entries : List Entry) → count n (numbers_of (map (dumped_entry consumed) entries)) ≡ times_held n (map calls_of_entry entries)
in_a_row consumed n [] = refl
in_a_row consumed n (e ∷ entries) =
    count_both n e.slots (numbers_of (map (dumped_entry consumed) entries)) ∙ ap (λ m. count n e.slots + m) (in_a_row consumed n entries)

held_both : (n : ℕ) (xs ys : List NumberedCalls) → times_held n (xs ++ ys) ≡ times_held n xs + times_held n ys
held_both n [] ys = omega arith
held_both n (x ∷ xs) ys = let more = held_both n xs ys in omega (arith, more)

at_most_once : (o : Option CallMade) → option_map_or (λ c. 1) o 0 ≤ 1
at_most_once None = omega arith
at_most_once (Some c) = omega arith

numbers_apart : (s : Kept) → Fits s → AreApart (numbers_of (dumped s).entries)
numbers_apart s fits =
    let consumed = answers s in
    apart_counted (numbers_of (map (dumped_entry consumed) s.entries)) (λ n.
    (let row = in_a_row consumed n s.entries in
    let both = held_both n (map calls_of_entry s.entries) (map calls_of_flight s.flights) in
    let once = fits.places.once n in
    let most = at_most_once (wanted_call s.registers n) in
    omega (arith, row, both, once, most)))

-- ---- rows

rows_ordered : (entries : List Entry) (rows : List Cell) → IsOrdered cell_place rows → IsOrdered cell_place (rows_after rows entries)
rows_ordered [] rows ordered = ordered
rows_ordered (e ∷ entries) rows ordered = rows_ordered entries (after_entry rows e) (ordered-apply rows (writes_of e.made) ordered)

-- ---- entries

mapped_length : {X Y : Type 0} (f : X → Y) (xs : List X) → length (map f xs) ≡ length xs
mapped_length f [] = refl
mapped_length f (x ∷ xs) = ap suc (mapped_length f xs)

abbrev pub some_call : CallMade → Option CallMade
some_call c = Some c

as_many : (registers : List Register) (p : NumberedCalls) → WantsItsCalls registers p → length p.calls ≡ length p.numbers
as_many registers p wants =
    sym (mapped_length some_call p.calls) ∙ sym (ap length wants) ∙ mapped_length (wanted_call registers) p.numbers

-- the calls of an entry as its record has them are for the service itself, and behind the entry's chain
abbrev pub AreSent : List ℕ → Entry → Type 0
AreSent me e = AllByRecursion (IsSent me e.request.chain) (recorded_calls (record_of e))

wholes : (s : Kept) (entries : List Entry) → AllByRecursion (WantsItsCalls s.registers) (map calls_of_entry entries) → AllByRecursion (AreSent (me s)) entries
    → AllByRecursion (IsWhole (me s)) (map (dumped_entry (answers s)) entries)
wholes s [] want sent = tt
wholes s (e ∷ entries) want sent = (
  record { named = as_many s.registers (calls_of_entry e) want.0; answered = mapped_length (answers s) e.slots; sent = sent.0 },
  wholes s entries want.1 sent.1,
)

front_all : {X : Type 0} (P : X → Type 0) (xs ys : List X) → AllByRecursion P (xs ++ ys) → AllByRecursion P xs
front_all P [] ys all = tt
front_all P (x ∷ xs) ys all = (all.0, front_all P xs ys all.1)

service_kept : (s : Kept) → Fits s → AllByRecursion (AreSent (me s)) s.entries → IsKept (dumped s)
service_kept s fits sent =
    let wants = recursion_from_All (WantsItsCalls s.registers) (places s) fits.places.calls in
    record {
      weight = refl;
      first = refl;
      ids = ids_apart (answers s) s.entries fits.asked.distinct;
      callers = callers_apart (answers s) s.entries fits.asked.distinct;
      numbers = numbers_apart s fits;
      rows = rows_ordered (unfolded s) (base s) (kept_ordered s.setting (folded s) (base s) fits.horizon.replayed);
      entries = wholes s s.entries (front_all (WantsItsCalls s.registers) (map calls_of_entry s.entries) (map calls_of_flight s.flights) wants) sent;
      under = mapped_over (dumped_entry (answers s)) (HasItsProgram s) (IsUnder (dumped s).programs) (λ e there. there_numbered s e.under.now.number e.under.now.program there) s.entries (each_there s fits);
    }

services_kept : (services : List Kept) → AllByRecursion Fits services → AllByRecursion (λ (s : Kept). AllByRecursion (AreSent (me s)) s.entries) services → AllByRecursion IsKept (dumped_all services)
services_kept [] fit sent = tt
services_kept (s ∷ services) fit sent = (service_kept s fit.0 sent.0, services_kept services fit.1 sent.1)

-- a dump of these services keeps what each dump keeps
pub dump_kept : (services : List Kept) → All Fits services → NamesDiffer services → AllByRecursion (λ (s : Kept). AllByRecursion (AreSent (me s)) s.entries) services → AreKept (dumped_all services)
dump_kept services fit differ sent =
    record { names = names_apart services differ; each = services_kept services (recursion_from_All Fits services fit) sent }
