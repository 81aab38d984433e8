-- Where nothing is outstanding, each call of a request that survives has led to one request, which answered it.
use Rattle.std.proofs.Common.{◌≡◌, ℕ, List, [], ◌∷◌, Option, Some, None, IsSomeAnd, All, Contains, map, filter, option_map, sym, ap, ◌∙◌, subst}
use Rattle.std.proofs.lemmas.List.Elements.{All-contains, All-map, Contains-append_left}
use Rattle.lang_core.specs.declared.trace.CallMade.{CallMade}
use Rattle.execution.specs.Together.{IsOne, history_in, comes_from, Serves, IsServed, AreServed, CallsAreServed}
use Rattle.request_log.specs.Entries.{has_id}
use Rattle.request_log.specs.Records.{record_in}
use Rattle.request_log.specs.declared.entry.Entry.{Entry}
use Rattle.request_log.specs.declared.entry.Made.{Made}
use Rattle.local_repair.specs.Histories.{deed_in, act_of}
use Rattle.local_repair.specs.Steps.{calls_of_made, answer_or_tentative}
use Rattle.service_events.specs.State.{Kept, me, answers}
use Rattle.service_events.specs.Fits.{Fits, calls_of_entry, calls_of_flight, places, wanted_call, WantsItsCalls}
use Rattle.service_events.proofs.FittingLemmas.{wanted_by}
use Rattle.service_events.proofs.PlaceLemmas.{head_of, tail_of}
use Rattle.service_events.proofs.SearchLemmas.{found_all}
use Rattle.world_agreement.specs.Partners.{service_of}
use Rattle.world_agreement.specs.Legal.{history, histories}
use Rattle.world_agreement.proofs.ListLemmas.{some_out, all_from, contains_map, filter_map_is}
use Rattle.world_agreement.proofs.NameLemmas.{found_by_name, found_history, only_one}
use Rattle.world_agreement.proofs.EntryFacts.{IsMadeNow, each_made_now, entered}
use Rattle.world_agreement.proofs.Settled.{AreAtRest, fits_of, quiet_of, settled}
use Rattle.world_agreement.proofs.AnswerLaws.{consumes}

-- the calls of an entry are wanted under its numbers
pub wants_calls : (s : Kept) → Fits s → (e : Entry) → Contains s.entries e → map (wanted_call s.registers) e.slots ≡ map Some (calls_of_made e.made)
wants_calls s fits e has =
    All-contains (WantsItsCalls s.registers) (places s) (calls_of_entry e) fits.places.calls
    (Contains-append_left (map calls_of_entry s.entries) (map calls_of_flight s.flights) (calls_of_entry e) (contains_map calls_of_entry s.entries e has))

module _ (services : List Kept) (h : AreAtRest services) where
  module _ (s : Kept) (here : service_of (me s) services ≡ Some s) where
    -- a call that is wanted is served
    served_call : (n : ℕ) (call : CallMade) → wanted_call s.registers n ≡ Some call → IsServed (histories services) (me s) n call (answers s n)
    served_call n call e =
        let w = wanted_by s.registers n call e in
        let r = w.made in
        let z = settled services h s here n r w.found in
        let t = z.callee in
        let fits = fits_of services h.together r.dest t z.there in
        let quiet = quiet_of services h r.dest t z.there in
        let x = entered t fits (me s) n z.last z.taken call.request (z.desired ∙ w.desired) in
        let made = some_out (x.entry).made (IsMadeNow x.entry)
        (found_all (λ y. IsSomeAnd y.made (IsMadeNow y)) (has_id (x.entry).id) t.entries x.entry (each_made_now t fits quiet.current) x.by_id) in
        let consumed_is = consumes services h s here n r w.found z call.request w.desired x made.0 made.1 (made.2).version in
        let found : history_in call.dest (histories services) ≡ Some (history t) =
        ap (λ d. history_in d (histories services)) (sym w.dest) ∙ found_history r.dest services t z.there in
        let only : filter (comes_from (me s) n) (history t).acts ≡ act_of (answers t) x.entry ∷ [] =
        filter_map_is (comes_from (me s) n) (act_of (answers t)) t.entries ∙ ap (map (act_of (answers t))) (only_one (me s) n t.entries x.entry fits.asked.distinct x.found) in
        let response : (made.0).trace.response ≡ answers s n = sym (ap answer_or_tentative consumed_is) in
        let serves : Serves call (answers s n) (act_of (answers t) x.entry) = record {
          wanted = x.wanted;
          request = x.request;
          response = subst (λ o. IsSomeAnd (option_map deed_in (option_map record_in o)) (λ y. y.response ≡ answers s n)) (sym made.1) response;
        } in
        subst (λ o. IsSomeAnd o (λ y. IsOne (Serves call (answers s n)) (filter (comes_from (me s) n) y.acts))) (sym found)
        (subst (IsOne (Serves call (answers s n))) (sym only) serves)

    served_calls : (ns : List ℕ) (cs : List CallMade) → map (wanted_call s.registers) ns ≡ map Some cs
        → AreServed (histories services) (me s) ns cs (map (answers s) ns)
    served_calls [] [] e = tt
    served_calls [] (c ∷ cs) e = cc
    served_calls (n ∷ ns) [] e = cc
    served_calls (n ∷ ns) (c ∷ cs) e = (
      served_call n c (head_of (wanted_call s.registers n) (Some c) (map (wanted_call s.registers) ns) (map Some cs) e),
      served_calls ns cs (tail_of (wanted_call s.registers n) (Some c) (map (wanted_call s.registers) ns) (map Some cs) e),
    )

    served_by : (e : Entry) (o : Option Made) → IsSomeAnd o (IsMadeNow e) → AreServed (histories services) (me s) e.slots (calls_of_made o) (map (answers s) e.slots)
        → IsSomeAnd (option_map deed_in (option_map record_in o)) (λ d. AreServed (histories services) (me s) e.slots d.calls (map (answers s) e.slots))
    served_by e None made h = absurd made
    served_by e (Some m) made h = h

    served_entry : (e : Entry) → Contains s.entries e → CallsAreServed (histories services) (history s) (act_of (answers s) e)
    served_entry e has alive =
        served_by e e.made
        (All-contains (λ y. IsSomeAnd y.made (IsMadeNow y)) s.entries e (each_made_now s (fits_of services h.together (me s) s here) (quiet_of services h (me s) s here).current) has)
        (served_calls e.slots (calls_of_made e.made) (wants_calls s (fits_of services h.together (me s) s here) e has))

  pub all_served : All (λ y. All (CallsAreServed (histories services) y) y.acts) (histories services)
  all_served =
      All-map (λ y. All (CallsAreServed (histories services) y) y.acts) history services
      (all_from (λ s. All (CallsAreServed (histories services) (history s)) (history s).acts) services (λ s has.
      All-map (CallsAreServed (histories services) (history s)) (act_of (answers s)) s.entries
      (all_from (λ e. CallsAreServed (histories services) (history s) (act_of (answers s) e)) s.entries
      (served_entry s (found_by_name services h.together.differ s has)))))
