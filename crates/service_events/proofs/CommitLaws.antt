-- The commit of a flight keeps what fits of calls.
use Rattle.std.proofs.Common.{◌≡◌, ℕ, false, List, [], ◌∷◌, ◌++◌, map, take, drop, length, refl, sym, ap, ◌∙◌, subst, arith, append_assoc, length-append}
use Rattle.lang_core.specs.declared.ids.Origin.{Origin}
use Rattle.lang_core.specs.declared.trace.CallMade.{CallMade}
use Rattle.lang_core.specs.declared.trace.Trace.{Trace}
use Rattle.request_log.specs.declared.entry.Entry.{Entry}
use Rattle.journal_rows.specs.declared.row.Row.{Row}
use Rattle.journal_rows.specs.declared.row.Row.TheVariants.{Asked}
use Rattle.flights.specs.declared.flight.Flight.{Flight}
use Rattle.service_events.specs.State.{Kept, next_id, same_call_origin, without_flight, with_flight}
use Rattle.service_events.specs.Calls.{noted}
use Rattle.service_events.specs.Flying.{surplus_rows, took_rows, before_answer, live_answer, committed_entry, live_replies, answer_index, committed}
use Rattle.call_registers.specs.Registers.{register}
use Rattle.service_events.specs.Fits.{FitsPlaces, NumberedCalls, count, calls_of_entry, calls_of_flight}
use Rattle.service_events.proofs.CallRowLemmas.{Each, each_append, each_weaker, IsSending, IsUnseen, IsUntaken, IsUnordered, IsPlain, sending_unseen, sending_untaken, sending_unordered}
use Rattle.service_events.proofs.PlaceLemmas.{place, parted_at}
use Rattle.service_events.proofs.FittingLemmas.{Book, entered, entered-append, HasRoom, room_first, room_then, Fitting, fitting_then, plain_rows, fitting_plain}
use Rattle.service_events.proofs.SettleLemmas.{fitting_by, fitting_swap, same_versions, Deleted, delete_all}
use Rattle.service_events.proofs.FlightLemmas.{LeavesOrigin, untaken_leaves, Flies, flies_from, flies_fit, flies_took, flies_drop, others_of}
use Rattle.service_events.proofs.KindLemmas.{sends_deleted, took_plain, took_unseen, took_unordered, took_leaves}
use Rattle.service_events.proofs.CallLaws.{FitsCalls, IsFew, Goes, book, noted_calls}
use Rattle.service_events.proofs.FlightLaws.{flying, around, to_entry, flown, fitting_at}

module _ (s : Kept) (f : Flight) (t : Trace) where
  -- the rows behind the deletions
  abbrev asked_row : Row
  asked_row = Asked (record { id = next_id s; origin = f.origin; request = f.request; inputs = f.inputs; program = f.program.number })

  abbrev behind : List Row
  behind = (asked_row ∷ took_rows f.origin f.request) ++ live_answer s f t ∷ []

  abbrev surplus : List Row
  surplus = surplus_rows s f t

  abbrev entry : Entry
  entry = committed_entry s f t

  sends : Each IsSending surplus
  sends = sends_deleted s.registers (drop (length t.calls) f.numbers) (drop (length t.calls) f.calls)

  whole_is : before_answer s f t ++ live_answer s f t ∷ [] ≡ surplus ++ behind
  whole_is = append_assoc surplus (asked_row ∷ took_rows f.origin f.request) (live_answer s f t ∷ [])

  behind_plain : Each IsPlain behind
  behind_plain = each_append IsPlain (asked_row ∷ took_rows f.origin f.request) (live_answer s f t ∷ []) (tt, took_plain f.origin f.request) (tt, tt)

  behind_unseen : Each IsUnseen behind
  behind_unseen = each_append IsUnseen (asked_row ∷ took_rows f.origin f.request) (live_answer s f t ∷ []) (tt, took_unseen f.origin f.request) (tt, tt)

  behind_unordered : Each IsUnordered behind
  behind_unordered =
      each_append IsUnordered (asked_row ∷ took_rows f.origin f.request) (live_answer s f t ∷ []) (tt, took_unordered f.origin f.request) (tt, tt)

  behind_leaves : (g : Origin) → same_call_origin f.origin g ≡ false → Each (LeavesOrigin g) behind
  behind_leaves g apart =
      each_append (LeavesOrigin g) (asked_row ∷ took_rows f.origin f.request) (live_answer s f t ∷ []) (tt, took_leaves f.origin g f.request apart) (tt, tt)

  sends_leave : (g : Origin) → Each (LeavesOrigin g) surplus
  sends_leave g =
      each_weaker IsUntaken (LeavesOrigin g) (untaken_leaves g) surplus (each_weaker IsSending IsUntaken sending_untaken surplus sends)

  all_leave : (gs : List Flight) → Each (λ (g : Flight). same_call_origin f.origin g.origin ≡ false) gs
      → Each (λ (g : Flight). Each (LeavesOrigin g.origin) (surplus ++ behind)) gs
  all_leave [] apart = tt
  all_leave (g ∷ gs) apart =
      (each_append (LeavesOrigin g.origin) surplus behind (sends_leave g.origin) (behind_leaves g.origin apart.0), all_leave gs apart.1)

  -- the calls that the last run made stand at the entry, and the others are deleted
  commit_deletes : (ps : List NumberedCalls) → HasRoom (book s) (surplus ++ behind) → Fitting (book s) (calls_of_flight f ∷ ps)
      → Deleted (book s) surplus (drop (length t.calls) f.numbers) (place (take (length t.calls) f.numbers) (take (length t.calls) f.calls) ∷ ps)
  commit_deletes ps few h =
      let k = length t.calls in
      let made = place (take k f.numbers) (take k f.calls) in
      let over = place (drop k f.numbers) (drop k f.calls) in
      let two = fitting_by (book s) (calls_of_flight f ∷ ps) (made ∷ (over ∷ ps)) (parted_at s.registers k f.numbers f.calls ps) h in
      delete_all s.registers (drop k f.numbers) (drop k f.calls) (book s) (made ∷ ps) (room_first (book s) surplus behind few)
      (same_versions s.registers (drop k f.numbers)) (fitting_swap (book s) made over ps two)

  commit_fits : (ps : List NumberedCalls) → t.calls ≡ take (length t.calls) f.calls → HasRoom (book s) (surplus ++ behind)
      → Fitting (book s) (calls_of_flight f ∷ ps) → Fitting (entered (surplus ++ behind) (book s)) (calls_of_entry entry ∷ ps)
  commit_fits ps same few h =
      let k = length t.calls in
      let made = place (take k f.numbers) (take k f.calls) in
      let left = commit_deletes ps few h in
      let all = fitting_plain behind (entered surplus (book s)) (made ∷ ps) (room_then (book s) surplus behind few) behind_plain left.fits in
      let P : List CallMade → Type 0 = λ cs. Fitting (entered (surplus ++ behind) (book s)) (place (take k f.numbers) cs ∷ ps) in
      subst P (sym same) (fitting_then surplus behind (book s) (made ∷ ps) all)

  -- the registers of calls that aren't deleted stay
  pub commit_keeps : FitsCalls (flying s f) → IsFew (committed s f t).service → (m : ℕ) → count m (drop (length t.calls) f.numbers) ≡ 0
      → register m (committed s f t).service.registers ≡ register m s.registers
  commit_keeps h few m none =
      let rows = before_answer s f t ++ live_answer s f t ∷ [] in
      let w = flown s f in
      let sum = length-append s.journal rows in
      let room : HasRoom (book s) rows = record { counts = omega (arith, few, sum) } in
      let R : List Row → Type 0 = λ r. HasRoom (book s) r in
      let left = commit_deletes (around s.entries w.lows w.highs) (subst R whole_is room) (fitting_at s f w h) in
      let same : (entered rows (book s)).registers ≡ (entered surplus (book s)).registers =
      ap (λ r. (entered r (book s)).registers) whole_is ∙ ap (λ (x : Book). x.registers) (entered-append surplus behind (book s))
      ∙ plain_rows (length (entered surplus (book s)).journal) (entered surplus (book s)).registers behind behind_plain in
      ap (register m) same ∙ left.others m none

  pub goes_committed : (FitsCalls (flying s f) → t.calls ≡ take (length t.calls) f.calls) → Goes (flying s f) (committed s f t).service
  goes_committed same =
      let rows = before_answer s f t ++ live_answer s f t ∷ [] in
      record {
        grows = record { rows = rows; is = refl; setting = refl };
        keeps = λ few h. (
            let w = flown s f in
            let sum = length-append s.journal rows in
            let room : HasRoom (book s) rows = record { counts = omega (arith, few, sum) } in
            let R : List Row → Type 0 = λ r. HasRoom (book s) r in
            let moved = commit_fits (around s.entries w.lows w.highs) (same h) (subst R whole_is room) (fitting_at s f w h) in
            let end = (entered (surplus ++ behind) (book s)).registers in
            let fs = without_flight f.id s.flights in
            let es = s.entries ++ entry ∷ [] in
            let P : List Flight → Type 0 = λ gs. FitsPlaces end (map calls_of_entry es ++ map calls_of_flight gs) in
            let F : List Flight → Type 0 = λ gs. Flies s.journal gs in
            let old = subst F (w.put f refl) (flies_from s.journal (with_flight f s.flights) h.flights) in
            let left = flies_took s.journal (surplus ++ behind) (w.lows ++ w.highs) (all_leave (w.lows ++ w.highs) (others_of w.lows f w.highs old.others)) (flies_drop s.journal w.lows f w.highs old) in
            let G : List Flight → Type 0 = λ gs. Flies (s.journal ++ (surplus ++ behind)) gs in
            let N : List Row → Type 0 = λ r. FitsCalls (noted r (record s { entries = es; flights = fs; replies = s.replies ++ live_replies s (answer_index s f t) f.origin })) in
            subst N (sym whole_is)
            (noted_calls (flying s f) es fs (s.replies ++ live_replies s (answer_index s f t) f.origin) (surplus ++ behind) (subst R whole_is room)
            (each_append IsUnseen surplus behind (each_weaker IsSending IsUnseen sending_unseen surplus sends) behind_unseen)
            (each_append IsUnordered surplus behind (each_weaker IsSending IsUnordered sending_unordered surplus sends) behind_unordered) h
            (record { sent = moved.sent; places = subst P (sym w.without) (to_entry end s.entries entry w.lows w.highs moved.places) })
            (flies_fit (s.journal ++ (surplus ++ behind)) fs (subst G (sym w.without) left))));
      }
