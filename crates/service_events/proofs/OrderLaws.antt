-- An order keeps what fits of calls.
use Rattle.std.proofs.Common.{◌≡◌, ℕ, true, false, List, [], ◌∷◌, ◌++◌, Option, Some, None, map, insert, refl, sym, ap, ◌∙◌, subst, inl, inr, if◌then◌else◌, append-nil, length, find}
use Rattle.std.proofs.lemmas.Bool.{cases_Bool, cond_both}
use Rattle.std.proofs.lemmas.List.{map-append}
use Rattle.lang_core.specs.declared.inputs.Inputs.{Inputs}
use Rattle.lang_programs.specs.Numbered.{Numbered}
use Rattle.request_log.specs.Entries.{has_id, changed, corrected, has_program, mark, replace, with_correction}
use Rattle.request_log.specs.declared.entry.Entry.{Entry}
use Rattle.create_placement.specs.Placement.{created}
use Rattle.repair_messages.specs.declared.posts.PostName.{PostName}
use Rattle.repair_messages.specs.declared.posts.PostName.TheVariants.{Call as OfCall, Reply as OfReply, Fetch as OfFetch}
use Rattle.journal_rows.specs.Words.{ordered}
use Rattle.journal_rows.specs.declared.orders.Command.{Command}
use Rattle.journal_rows.specs.declared.orders.Command.TheVariants.{Cancel, Restore, Replace, Create, Retry, Fold, Deploy, Correct, Rules}
use Rattle.journal_rows.specs.declared.orders.OrderedRow.{OrderedRow}
use Rattle.journal_rows.specs.declared.row.Row.{Row}
use Rattle.journal_rows.specs.declared.row.Row.TheVariants.{Ordered as OrderedAs}
use Rattle.authorise_rules.specs.Given.{GivenRules}
use Rattle.call_registers.specs.Registers.{released}
use Rattle.flights.specs.Corrections.{corrected_flight, has_program as flies_under}
use Rattle.flights.specs.declared.flight.Flight.{Flight}
use Rattle.service_events.specs.State.{Kept, next_id, base, folded, unfolded}
use Rattle.service_events.specs.Calls.{noted}
use Rattle.service_events.specs.Orders.{refused, about, original, repaired, asked_rows, order_rule, order_rows, released_post, brought, carried_out, corrected_on, made_under, order_by, order_where, entry_of, first_unquiet, folded_on, place_made, to_fold}
use Rattle.service_events.specs.declared.refusals.OrderRefused.{OrderRefused}
use Rattle.service_events.specs.Fits.{EachAfter, OrdersOn, FitsPlaces, NumberedCalls, calls_of_entry, calls_of_flight, places, Fits}
use Rattle.service_events.proofs.CallRowLemmas.{Each, IsPlain, IsUnseen, IsUntaken}
use Rattle.service_events.proofs.FlightLemmas.{flies_fit, flies_from, flies_mapped, flies_rows}
use Rattle.service_events.proofs.CallLaws.{Goes, goes_same, goes_then, IsMinor, register_calls}
use Rattle.service_events.proofs.EntryPlaces.{places_insert, places_map}
use Rattle.service_events.proofs.PlainLaws.{goes_entries, goes_plain}
use Rattle.service_events.proofs.FoldLaw.{fold_places}
use Rattle.service_events.proofs.HorizonLemmas.{all_entries}
use Rattle.service_events.proofs.OrderLaw.{to_fold_is, well_named, IsNamed, quiet_by}

-- ---- what an order does, but for its rows

-- another program is the newest, or other rules stand
goes_newest : (s : Kept) (n : Numbered) → Goes s (record s { newest = n })
goes_newest s n = record {
  grows = record { rows = []; is = sym (append-nil s.journal); setting = refl };
  keeps = λ few h. record { sent = h.sent; seen = h.seen; places = h.places; flights = h.flights; orders = h.orders };
}

goes_rules : (s : Kept) (g : GivenRules) → Goes s (record s { rules = g })
goes_rules s g = record {
  grows = record { rows = []; is = sym (append-nil s.journal); setting = refl };
  keeps = λ few h. record { sent = h.sent; seen = h.seen; places = h.places; flights = h.flights; orders = h.orders };
}

-- entries change, but none's calls
goes_at_id : (s : Kept) (id : ℕ) (f : Entry → Entry) → ((e : Entry) → calls_of_entry (f e) ≡ calls_of_entry e)
    → Goes s (record s { entries = changed id f s.entries })
goes_at_id s id f same =
    goes_entries s (changed id f s.entries) s.replies
    (places_map s.registers s.entries (λ e. if has_id id e then f e else e) (map calls_of_flight s.flights) one)
  where
    one : (e : Entry) → calls_of_entry (if has_id id e then f e else e) ≡ calls_of_entry e
    one e = elim (cases_Bool (has_id id e)) [
      | inl is ↦ rw is (same e)
      | inr isnt ↦ rw isnt refl
    ]

pub minor_released : (who : List ℕ) → IsMinor (released who)
minor_released who = record { aside = record { number = λ r. refl; sent = λ r. refl }; seen = λ r. (refl, refl, refl); wants = λ r. refl }

goes_released : (s : Kept) (who : List ℕ) (name : PostName) → Goes s (released_post who name s)
goes_released s who (OfCall n) = record { grows = record { rows = []; is = sym (append-nil s.journal); setting = refl }; keeps = λ few h. register_calls s n (released who) (minor_released who) h }
goes_released s who (OfReply id) = goes_entries s s.entries (released_post who (OfReply id) s).replies (λ h. h)
goes_released s who (OfFetch n) = goes_same s

-- a fold changes none of the calls of what it folds
goes_folded : (s : Kept) (f : Fits s) (id : ℕ) (e : Entry) → find (has_id id) (unfolded s) ≡ Some e → first_unquiet s (base s) (to_fold id s) ≡ None
    → Goes s (folded_on (length (to_fold id s)) s)
goes_folded s f id e there quiet = record {
  grows = record { rows = []; is = sym (append-nil s.journal); setting = refl };
  keeps = λ few h. record { sent = h.sent; seen = h.seen; places = fold_places s f id e there quiet s.registers h.places; flights = h.flights; orders = h.orders };
}

goes_fold : (s : Kept) → Fits s → (id : ℕ) → IsNamed s (Fold id) → Goes s (folded_on (length (to_fold id s)) s)
goes_fold s f id ok =
    let at = to_fold_is s id (entry_of id s) refl ok.0 in
    goes_folded s f id at.0 at.1 (quiet_by (first_unquiet s (base s) (to_fold id s)) ok.1)

-- entries and flights have another program, but the same calls
calls_mapped : {X : Type 0} (calls : X → NumberedCalls) (g : X → X) → ((x : X) → calls (g x) ≡ calls x) → (xs : List X) → map calls (map g xs) ≡ map calls xs
calls_mapped calls g same [] = refl
calls_mapped calls g same (x ∷ xs) = (let head = same x in let rest = calls_mapped calls g same xs in (λ i. head i ∷ rest i))

module _ (s : Kept) (k : ℕ) (p : Numbered) where
  entry_calls : (e : Entry) → calls_of_entry (corrected k p e) ≡ calls_of_entry e
  entry_calls e = cond_both (has_program k e) (with_correction p e) e (λ x. calls_of_entry x ≡ calls_of_entry e) (λ _. refl) (λ _. refl)

  flight_calls : (f : Flight) → calls_of_flight (corrected_flight k p f) ≡ calls_of_flight f
  flight_calls f = cond_both (flies_under k f) (record f { program = p }) f (λ x. calls_of_flight x ≡ calls_of_flight f) (λ _. refl) (λ _. refl)

  flight_id : (f : Flight) → (corrected_flight k p f).id ≡ f.id
  flight_id f = cond_both (flies_under k f) (record f { program = p }) f (λ (x : Flight). x.id ≡ f.id) (λ _. refl) (λ _. refl)

  flight_origin : (f : Flight) → (corrected_flight k p f).origin ≡ f.origin
  flight_origin f = cond_both (flies_under k f) (record f { program = p }) f (λ (x : Flight). x.origin ≡ f.origin) (λ _. refl) (λ _. refl)

  all_calls : places (corrected_on k p s) ≡ places s
  all_calls =
      let entries : map calls_of_entry (folded s ++ map (corrected k p) (unfolded s)) ≡ map calls_of_entry s.entries =
      map-append calls_of_entry (folded s) (map (corrected k p) (unfolded s))
      ∙ ap (λ ps. map calls_of_entry (folded s) ++ ps) (calls_mapped calls_of_entry (corrected k p) entry_calls (unfolded s))
      ∙ sym (map-append calls_of_entry (folded s) (unfolded s)) ∙ ap (map calls_of_entry) (all_entries s) in
      let flights = calls_mapped calls_of_flight (corrected_flight k p) flight_calls s.flights in
      (λ i. entries i ++ flights i)

  goes_corrected : Goes s (corrected_on k p s)
  goes_corrected = record {
    grows = record { rows = []; is = sym (append-nil s.journal); setting = refl };
    keeps = λ few h. record {
      sent = h.sent;
      seen = h.seen;
      places = subst (FitsPlaces s.registers) (sym all_calls) h.places;
      flights = flies_fit s.journal (map (corrected_flight k p) s.flights)
          (flies_mapped (corrected_flight k p) flight_id flight_origin s.journal s.flights (flies_from s.journal s.flights h.flights));
      orders = h.orders;
    };
  }

goes_carried_out : (s : Kept) → Fits s → (command : Command) (who : List ℕ) (i : Inputs) → IsNamed s command → Goes s (carried_out s command who i)
goes_carried_out s f (Cancel id) who i ok = goes_at_id s id (mark true) (λ e. refl)
goes_carried_out s f (Restore id) who i ok = goes_at_id s id (mark false) (λ e. refl)
goes_carried_out s f (Replace id method path body) who i ok = goes_at_id s id (replace method path body) (λ e. refl)
goes_carried_out s f (Create before after q) who i ok =
    goes_entries s (insert s.entries (place_made s before after) (created (next_id s) q i (made_under s before after))) s.replies
    (places_insert s.registers s.entries (place_made s before after) (created (next_id s) q i (made_under s before after)) (map calls_of_flight s.flights) refl)
goes_carried_out s f (Fold id) who i ok = goes_fold s f id ok
goes_carried_out s f (Deploy p) who i ok = goes_newest s (brought s p)
goes_carried_out s f (Correct k p) who i ok = goes_corrected s k (brought s p)
goes_carried_out s f (Rules g) who i ok = goes_rules s g
goes_carried_out s f (Retry name) who i ok = goes_released s who name

-- the journal isn't changed before the rows come
pub same_journal : (s : Kept) (command : Command) (who : List ℕ) (i : Inputs) → (carried_out s command who i).journal ≡ s.journal
same_journal s (Cancel id) who i = refl
same_journal s (Restore id) who i = refl
same_journal s (Replace id method path body) who i = refl
same_journal s (Create before after q) who i = refl
same_journal s (Retry (OfCall n)) who i = refl
same_journal s (Retry (OfReply id)) who i = refl
same_journal s (Retry (OfFetch n)) who i = refl
same_journal s (Fold id) who i = refl
same_journal s (Deploy p) who i = refl
same_journal s (Correct k p) who i = refl
same_journal s (Rules g) who i = refl

-- ---- its rows

asked_plain : (s : Kept) (command : Command) (i : Inputs) → Each IsPlain (asked_rows s command i)
asked_plain s (Create before after q) i = (tt, tt)
asked_plain s (Cancel id) i = tt
asked_plain s (Restore id) i = tt
asked_plain s (Replace id method path body) i = tt
asked_plain s (Retry name) i = tt
asked_plain s (Fold id) i = tt
asked_plain s (Deploy p) i = tt
asked_plain s (Correct k p) i = tt
asked_plain s (Rules g) i = tt

asked_unseen : (s : Kept) (command : Command) (i : Inputs) → Each IsUnseen (asked_rows s command i)
asked_unseen s (Create before after q) i = (tt, tt)
asked_unseen s (Cancel id) i = tt
asked_unseen s (Restore id) i = tt
asked_unseen s (Replace id method path body) i = tt
asked_unseen s (Retry name) i = tt
asked_unseen s (Fold id) i = tt
asked_unseen s (Deploy p) i = tt
asked_unseen s (Correct k p) i = tt
asked_unseen s (Rules g) i = tt

asked_untaken : (s : Kept) (command : Command) (i : Inputs) → Each IsUntaken (asked_rows s command i)
asked_untaken s (Create before after q) i = (tt, tt)
asked_untaken s (Cancel id) i = tt
asked_untaken s (Restore id) i = tt
asked_untaken s (Replace id method path body) i = tt
asked_untaken s (Retry name) i = tt
asked_untaken s (Fold id) i = tt
asked_untaken s (Deploy p) i = tt
asked_untaken s (Correct k p) i = tt
asked_untaken s (Rules g) i = tt

asked_orders : (s : Kept) (command : Command) (i : Inputs) (before : List Row) → EachAfter OrdersOn before (asked_rows s command i)
asked_orders s (Create before after q) i j = (tt, tt)
asked_orders s (Cancel id) i j = tt
asked_orders s (Restore id) i j = tt
asked_orders s (Replace id method path body) i j = tt
asked_orders s (Retry name) i j = tt
asked_orders s (Fold id) i j = tt
asked_orders s (Deploy p) i j = tt
asked_orders s (Correct k p) i j = tt
asked_orders s (Rules g) i j = tt

goes_accepted : (s : Kept) → Fits s → (command : Command) (token who : List ℕ) (i : Inputs) → IsNamed s command → ordered token s.journal ≡ None
    → Goes s (noted (order_rows s command token who i) (carried_out s command who i))
goes_accepted s f command token who i ok new =
    let t = carried_out s command who i in
    let rows = order_rows s command token who i in
    let row : Row = OrderedAs (record { token = token; command = command; who = who; rule = order_rule s command who; original = original s command; repaired = repaired s command; about = about s command }) in
    let P : List Row → Type 0 = λ j. ordered token j ≡ None in
    goes_then s t (noted rows t) (goes_carried_out s f command who i ok)
    (goes_plain t rows (tt, asked_plain s command i) (tt, asked_unseen s command i)
    (λ h. (subst P (sym (same_journal s command who i)) new, asked_orders s command i (t.journal ++ row ∷ [])))
    (λ h. flies_rows t.journal rows t.flights (tt, asked_untaken s command i) h))

order_by_goes : (s : Kept) → Fits s → (command : Command) (token who : List ℕ) (i : Inputs) (why : Option OrderRefused) → refused s command who ≡ why → ordered token s.journal ≡ None
    → Goes s (order_by s command token who i why).service
order_by_goes s f command token who i (Some why) is new = goes_same s
order_by_goes s f command token who i None is new = goes_accepted s f command token who i (well_named s command who is) new

pub order_where_goes : (s : Kept) → Fits s → (command : Command) (token who : List ℕ) (i : Inputs) (o : Option OrderedRow) → ordered token s.journal ≡ o
    → Goes s (order_where s command token who i o).service
order_where_goes s f command token who i (Some o) is = goes_same s
order_where_goes s f command token who i None is = order_by_goes s f command token who i (refused s command who) refl is
