-- Folded entries stay as they are; a fold leaves all that is read, replayed or audited of a service as it was, a program or rules from now on leave
-- every entry, and a program in the place of another one every record.
use Rattle.std.proofs.Common.{◌≡◌, ◌↔◌, ℕ, ◌+◌, ◌<◌, not, ◌&&◌, List, [], ◌∷◌, ◌++◌, Option, Some, None, Result, find, get_or, length, map, take, drop, option_map, take-append-drop, refl, sym, ap, ◌∙◌, subst, inl, inr, arith}
use Rattle.std.specs.List.{list_all}
use Rattle.std.proofs.lemmas.Bool.{and_parts, cases_Bool, cond_both}
use Rattle.std.proofs.lemmas.List.{get_or-map, map-append}
use Rattle.std.proofs.lemmas.List.Sums.{fold-append}
use Rattle.lang_core.specs.declared.cells.Cell.{Cell}
use Rattle.lang_core.specs.declared.inputs.Inputs.{Inputs}
use Rattle.lang_tree.specs.declared.program.Route.{Route}
use Rattle.lang_programs.specs.Numbered.{Numbered}
use Rattle.request_log.specs.Entries.{corrected, has_id, has_program, with_correction}
use Rattle.request_log.specs.Folded.{bare, bare_by}
use Rattle.request_log.specs.Records.{Record, record_of}
use Rattle.request_log.specs.declared.entry.Entry.{Entry}
use Rattle.local_repair.specs.Corrections.{IsCurrentButHandler}
use Rattle.local_repair.specs.Current.{Consumed, IsCurrent, after_entry, rows_after}
use Rattle.local_repair.specs.Histories.{act_of, deed_in}
use Rattle.local_repair.specs.Programs.{HasItsHandler}
use Rattle.local_repair.specs.Repairs.{stale_id}
use Rattle.local_repair.specs.Tests.{first_stale as first_in, is_current}
use Rattle.local_repair.proofs.CorrectionLemmas.{current_by_handler, stale_after}
use Rattle.authorise_rules.specs.Given.{GivenRules}
use Rattle.journal_rows.specs.Words.{ordered}
use Rattle.journal_rows.specs.declared.orders.Command.{Command}
use Rattle.journal_rows.specs.declared.orders.Command.TheVariants.{Cancel, Restore, Replace, Create, Retry, Fold, Deploy, Correct, Rules}
use Rattle.journal_rows.specs.declared.orders.OrderedRow.{OrderedRow}
use Rattle.flights.specs.Corrections.{corrected_flight, has_program as flies_under}
use Rattle.flights.specs.declared.flight.Flight.{Flight}
use Rattle.service_events.specs.Calls.{noted}
use Rattle.service_events.specs.Doing.{order_memory, Does}
use Rattle.service_events.specs.Event.{Happens}
use Rattle.service_events.specs.Fits.{Fits}
use Rattle.service_events.specs.Orders.{brought, carried_out, entry_of, first_unquiet, folded_on, is_due, is_quiet_call, is_quiet_entry, order_by, order_event, order_rows, order_where, refused, to_fold}
use Rattle.service_events.specs.State.{Kept, KeepsFolded, answers, base, folded, unfolded}
use Rattle.service_events.specs.declared.answers.Ordered.{Ordered}
use Rattle.service_events.specs.declared.event.Done.{Done}
use Rattle.service_events.specs.declared.event.Event.{Event}
use Rattle.service_events.specs.declared.event.Event.TheVariants as events
use Rattle.service_events.specs.declared.refusals.OrderRefused.{OrderRefused}
use Rattle.service_events.proofs.CorrectLaw.{corrected_unfolded}
use Rattle.service_events.proofs.EventLaws.{event_keeps}
use Rattle.service_events.proofs.FoldLaw.{first, then_unfolded}
use Rattle.service_events.proofs.HorizonLemmas.{all_entries}
use Rattle.service_events.proofs.OrderLaw.{IsNamed, quiet_by, to_fold_is, well_named}
use Rattle.service_parts.proofs.DoneLaws.{left_done}
use Rattle.service_core.specs.Past.{CommandKeeps, EventKeeps, IsFresh, IsFreshButHandler, LeavesAll, LeavesRecords, OrderKeeps, ReadsAsBefore, as_recorded, flying_under}
use Rattle.service_core.specs.Readings.{first_stale}
use Rattle.service_core.proofs.GrowthLaws.{left_by}

-- ---- entries that are bare

bare_twice : (e : Entry) → bare (bare e) ≡ bare e
bare_twice e = by (record_of e) refl
  where
    by : (o : Option Record) → record_of e ≡ o → bare (bare_by e o) ≡ bare_by e o
    by None is = ap (bare_by e) is
    by (Some r) is = refl

-- they are the same request of a history
act_bare : (consumed : Consumed) (e : Entry) → act_of consumed (bare e) ≡ act_of consumed e
act_bare consumed e = by (record_of e) refl
  where
    by : (o : Option Record) → record_of e ≡ o → act_of consumed (bare_by e o) ≡ act_of consumed e
    by None is = refl
    by (Some r) is = ap (λ (x : Option Record). record (act_of consumed e) { did = option_map deed_in x }) (sym is)

-- what a change leaves of each item it leaves of all
map_as : {X Y : Type 0} (g : X → Y) (f : X → X) → ((x : X) → g (f x) ≡ g x) → (xs : List X) → map g (map f xs) ≡ map g xs
map_as g f same [] = refl
map_as g f same (x ∷ xs) = let here = same x in let rest = map_as g f same xs in (λ i. here i ∷ rest i)

-- of the first ones that are bare
first_bare : {Y : Type 0} (g : Entry → Y) → ((e : Entry) → g (bare e) ≡ g e) → (k : ℕ) (es : List Entry) → map g (map bare (take k es) ++ drop k es) ≡ map g es
first_bare g same k es =
    map-append g (map bare (take k es)) (drop k es) ∙ ap (λ ys. ys ++ map g (drop k es)) (map_as g bare same (take k es))
    ∙ sym (map-append g (take k es) (drop k es)) ∙ ap (map g) (take-append-drop k es)

-- ---- a fold

-- what is quiet isn't stale, so the first stale entry is looked for behind it
behind_quiet : (s : Kept) (quiet rest : List Entry) (rows : List Cell) → first_unquiet s rows quiet ≡ None
    → first_in (answers s) rows (quiet ++ rest) ≡ first_in (answers s) (rows_after rows quiet) rest
behind_quiet s [] rest rows none = refl
behind_quiet s (e ∷ es) rest rows none = elim (cases_Bool (is_quiet_entry s rows e)) [
  | inl is ↦ (let both = and_parts (is_current (answers s) rows e && not (is_due s e)) (list_all (is_quiet_call s) e.slots) is in
      let current = (and_parts (is_current (answers s) rows e) (not (is_due s e)) both.0).0 in
      rw current (behind_quiet s es rest (after_entry rows e) (rw is at none)))
  | inr other ↦ (let some : Some e.id ≡ None = rw other at none in cc)
]

module _ (s : Kept) (f : Fits s) (id : ℕ) (token who : List ℕ) (i : Inputs) (named : IsNamed s (Fold id)) where
  abbrev once : Kept
  once = noted (order_rows s (Fold id) token who i) (carried_out s (Fold id) who i)

  there : (e : Entry) × (find (has_id id) (unfolded s) ≡ Some e)
  there = to_fold_is s id (entry_of id s) refl named.0

  quiet : first_unquiet s (base s) (to_fold id s) ≡ None
  quiet = quiet_by (first_unquiet s (base s) (to_fold id s)) named.1

  behind : unfolded (folded_on (length (to_fold id s)) s) ≡ drop (length (to_fold id s)) (unfolded s)
  behind = then_unfolded s f id there.0 there.1 quiet

  rows_stay : rows_after (base once) (unfolded once) ≡ rows_after (base s) (unfolded s)
  rows_stay =
      let n = length (to_fold id s) in
      ap (rows_after (base once)) behind
      ∙ sym (fold-append after_entry (base s) (take n (unfolded s)) (drop n (unfolded s)))
      ∙ ap (rows_after (base s)) (take-append-drop n (unfolded s))

  stale_stays : first_stale once ≡ first_stale s
  stale_stays =
      let n = length (to_fold id s) in
      let none : first_unquiet s (base s) (take n (unfolded s)) ≡ None = ap (first_unquiet s (base s)) (first s f id there.0 there.1 quiet) ∙ quiet in
      ap (stale_id (answers s) (base once)) behind
      ∙ ap (option_map (λ (e : Entry). e.id)) (sym (behind_quiet s (take n (unfolded s)) (drop n (unfolded s)) (base s) none))
      ∙ ap (stale_id (answers s) (base s)) (take-append-drop n (unfolded s))

  fold_reads : ReadsAsBefore s once
  fold_reads = record {
    entries = first_bare bare bare_twice (s.horizon + length (to_fold id s)) s.entries;
    history = first_bare (act_of (answers s)) (act_bare (answers s)) (s.horizon + length (to_fold id s)) s.entries;
    rows = rows_stay;
    stale = stale_stays;
    others = refl;
  }

-- ---- where nothing changed

keeps_all : (s : Kept) → KeepsFolded s s
keeps_all s = record { within = omega arith; entries = refl }

reads_same : (s : Kept) → ReadsAsBefore s s
reads_same s = record { entries = refl; history = refl; rows = refl; stale = refl; others = refl }

-- ---- a program or rules from now on

leaves_all_same : (s : Kept) → LeavesAll s s
leaves_all_same s = record {
  entries = refl;
  flights = refl;
  fresh = λ rows e. (λ h. h, λ h. h);
  stale = refl;
  rows = refl;
  history = refl;
  others = refl;
}

deployed_leaves : (s : Kept) (p : List Route) (token who : List ℕ) (i : Inputs)
    → LeavesAll s (noted (order_rows s (Deploy p) token who i) (carried_out s (Deploy p) who i))
deployed_leaves s p token who i = record {
  entries = refl;
  flights = refl;
  fresh = λ rows e. (λ h. h, λ h. h);
  stale = refl;
  rows = refl;
  history = refl;
  others = refl;
}

ruled_leaves : (s : Kept) (g : GivenRules) (token who : List ℕ) (i : Inputs)
    → LeavesAll s (noted (order_rows s (Rules g) token who i) (carried_out s (Rules g) who i))
ruled_leaves s g token who i = record {
  entries = refl;
  flights = refl;
  fresh = λ rows e. (λ h. h, λ h. h);
  stale = refl;
  rows = refl;
  history = refl;
  others = refl;
}

-- ---- a program in the place of another one

-- an entry is fresh where its handler is that of its record and nothing else makes it stale
fresh_is : (consumed : Consumed) (rows : List Cell) (e : Entry) → IsCurrent consumed rows e ↔ (IsCurrentButHandler consumed rows e × HasItsHandler e)
fresh_is consumed rows e =
    current_by_handler consumed rows e e
    (record { alive = refl; version = refl; request = refl; inputs = refl; slots = refl; made = refl; ran = refl })

leaves_records_same : (s : Kept) → LeavesRecords s s
leaves_records_same s = record {
  entries = refl;
  flights = λ p. refl;
  stale = λ place d within. fresh_is (answers s) (rows_after (base s) (take place (unfolded s))) (get_or (unfolded s) place d);
  rows = refl;
  others = refl;
}

module _ (k : ℕ) (m : Numbered) where
  record_stays : (e : Entry) → as_recorded (corrected k m e) ≡ as_recorded e
  record_stays e = cond_both (has_program k e) (with_correction m e) e (λ x. as_recorded x ≡ as_recorded e) (λ _. refl) (λ _. refl)

  flight_stays : (p : Numbered) (f : Flight) → flying_under p (corrected_flight k m f) ≡ flying_under p f
  flight_stays p f = cond_both (flies_under k f) (record f { program = m }) f (λ x. flying_under p x ≡ flying_under p f) (λ _. refl) (λ _. refl)

  writes_stay : (rows : List Cell) (e : Entry) → after_entry rows (corrected k m e) ≡ after_entry rows e
  writes_stay rows e = cond_both (has_program k e) (with_correction m e) e (λ x. after_entry rows x ≡ after_entry rows e) (λ _. refl) (λ _. refl)

  rows_stay_too : (rows : List Cell) (es : List Entry) → rows_after rows (map (corrected k m) es) ≡ rows_after rows es
  rows_stay_too rows [] = refl
  rows_stay_too rows (e ∷ es) =
      rows_stay_too (after_entry rows (corrected k m e)) es ∙ ap (λ r. rows_after r es) (writes_stay rows e)

  -- behind the folded entries
  records_behind : (es fs : List Entry) → map as_recorded (fs ++ map (corrected k m) es) ≡ map as_recorded (fs ++ es)
  records_behind es fs =
      map-append as_recorded fs (map (corrected k m) es) ∙ ap (λ xs. map as_recorded fs ++ xs) (map_as as_recorded (corrected k m) record_stays es)
      ∙ sym (map-append as_recorded fs es)

module _ (s : Kept) (f : Fits s) (k : ℕ) (p : List Route) (token who : List ℕ) (i : Inputs) where
  abbrev program : Numbered
  program = brought s p

  abbrev put : Kept
  put = noted (order_rows s (Correct k p) token who i) (carried_out s (Correct k p) who i)

  put_behind : unfolded put ≡ map (corrected k program) (unfolded s)
  put_behind = corrected_unfolded s k program f.horizon.within

  stale_by_handler : (place : ℕ) (d : Entry) → place < length (unfolded s)
      → IsFresh put place (get_or (unfolded put) place d)
      ↔ (IsFreshButHandler s place (get_or (unfolded s) place d) × HasItsHandler (get_or (unfolded put) place d))
  stale_by_handler place d within =
      let there : get_or (unfolded put) place d ≡ corrected k program (get_or (unfolded s) place d) =
      ap (λ l. get_or l place d) put_behind ∙ get_or-map (corrected k program) (unfolded s) place d d within in
      let P : Entry → Type 0 = λ x.
      IsFresh put place (get_or (unfolded put) place d) ↔ (IsFreshButHandler s place (get_or (unfolded s) place d) × HasItsHandler x) in
      subst P (sym there) (stale_after k program (base s) (unfolded s) (unfolded put) put_behind (answers s) place d within)

  corrected_leaves : LeavesRecords s put
  corrected_leaves = record {
    entries = records_behind k program (unfolded s) (folded s) ∙ ap (map as_recorded) (all_entries s);
    flights = λ q. map_as (flying_under q) (corrected_flight k program) (flight_stays k program q) s.flights;
    stale = stale_by_handler;
    rows = ap (rows_after (base s)) put_behind ∙ rows_stay_too k program (base s) (unfolded s);
    others = refl;
  }

-- ---- orders

-- what is said of an order holds where nothing changed
command_keeps_same : (command : Command) (s : Kept) → CommandKeeps command s s
command_keeps_same (Fold id) s = reads_same s
command_keeps_same (Deploy p) s = leaves_all_same s
command_keeps_same (Rules g) s = leaves_all_same s
command_keeps_same (Correct k p) s = leaves_records_same s
command_keeps_same (Cancel id) s = tt
command_keeps_same (Restore id) s = tt
command_keeps_same (Replace id method path body) s = tt
command_keeps_same (Create before after q) s = tt
command_keeps_same (Retry name) s = tt

order_keeps_all : (command : Command) (s : Kept) → OrderKeeps command s s
order_keeps_all command s = (keeps_all s, command_keeps_same command s)

carried_keeps : (s : Kept) → Fits s → (command : Command) (token who : List ℕ) (i : Inputs) → IsNamed s command
    → CommandKeeps command s (noted (order_rows s command token who i) (carried_out s command who i))
carried_keeps s f (Fold id) token who i named = fold_reads s f id token who i named
carried_keeps s f (Deploy p) token who i named = deployed_leaves s p token who i
carried_keeps s f (Rules g) token who i named = ruled_leaves s g token who i
carried_keeps s f (Correct k p) token who i named = corrected_leaves s f k p token who i
carried_keeps s f (Cancel id) token who i named = tt
carried_keeps s f (Restore id) token who i named = tt
carried_keeps s f (Replace id method path body) token who i named = tt
carried_keeps s f (Create before after q) token who i named = tt
carried_keeps s f (Retry name) token who i named = tt

order_by_keeps : (s : Kept) → Fits s → (command : Command) (token who : List ℕ) (i : Inputs) (o : Option OrderRefused) → refused s command who ≡ o
    → CommandKeeps command s (order_by s command token who i o).service
order_by_keeps s f command token who i (Some why) is = command_keeps_same command s
order_by_keeps s f command token who i None is = carried_keeps s f command token who i (well_named s command who is)

order_where_keeps : (s : Kept) → Fits s → (command : Command) (token who : List ℕ) (i : Inputs) (o : Option OrderedRow)
    → CommandKeeps command s (order_where s command token who i o).service
order_where_keeps s f command token who i (Some o) = command_keeps_same command s
order_where_keeps s f command token who i None = order_by_keeps s f command token who i (refused s command who) refl

order_leaves : (s : Kept) → Fits s → (command : Command) (token who : List ℕ) (i : Inputs) → OrderKeeps command s (order_event s command token who i).service
order_leaves s f command token who i = (event_keeps s (events.Order command token who i) f, order_where_keeps s f command token who i (ordered token s.journal))

-- a call that makes one keeps what it keeps
pub order_keeps : (s t : Kept) (command : Command) (token who : List ℕ) (i : Inputs) (result : Result Ordered OrderRefused) → Fits s
    → Does order_memory (order_event s command token who i) s result t → OrderKeeps command s t
order_keeps s t command token who i result f does =
    left_done (OrderKeeps command s) order_memory (order_event s command token who i) s t result does (order_leaves s f command token who i) (order_keeps_all command s)

-- ---- all events

keeps : (s t : Kept) (e : Event) (d : Done) → Fits s → Happens e s d t → KeepsFolded s t
keeps s t e d f happens = left_by (KeepsFolded s) s t e d happens (event_keeps s e f) (keeps_all s)

pub keeps_by : (s t : Kept) (e : Event) (d : Done) → Fits s → Happens e s d t → EventKeeps e s t
keeps_by s t (events.Order command token who i) d f happens =
    left_by (OrderKeeps command s) s t (events.Order command token who i) d happens (order_leaves s f command token who i) (order_keeps_all command s)
keeps_by s t (events.Arrive o q i) d f happens = keeps s t (events.Arrive o q i) d f happens
keeps_by s t (events.CallAnswered id a) d f happens = keeps s t (events.CallAnswered id a) d f happens
keeps_by s t (events.CallFailed id number why) d f happens = keeps s t (events.CallFailed id number why) d f happens
keeps_by s t (events.Abandon id) d f happens = keeps s t (events.Abandon id) d f happens
keeps_by s t (events.Take set i) d f happens = keeps s t (events.Take set i) d f happens
keeps_by s t (events.TakeToken x) d f happens = keeps s t (events.TakeToken x) d f happens
keeps_by s t (events.Give x) d f happens = keeps s t (events.Give x) d f happens
keeps_by s t (events.NextPost dest) d f happens = keeps s t (events.NextPost dest) d f happens
keeps_by s t (events.WritePost name) d f happens = keeps s t (events.WritePost name) d f happens
keeps_by s t (events.Posted post reply) d f happens = keeps s t (events.Posted post reply) d f happens
keeps_by s t events.Step d f happens = keeps s t events.Step d f happens
