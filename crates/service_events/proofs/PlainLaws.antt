-- Events that change no call: entries and replies change, and rows come that change no register.
use Rattle.std.proofs.Common.{◌+◌, ◌^◌, ◌<◌, List, [], ◌++◌, map, length, arith, length-append, append-nil, sym, refl}
use Rattle.request_log.specs.declared.entry.Entry.{Entry}
use Rattle.journal_rows.specs.declared.row.Row.{Row}
use Rattle.call_registers.specs.declared.reply.Reply.{Reply}
use Rattle.service_events.specs.State.{Kept}
use Rattle.service_events.specs.Calls.{noted}
use Rattle.service_events.specs.Fits.{EachAfter, OrdersOn, FitsPlaces, places, calls_of_entry, calls_of_flight}
use Rattle.service_events.proofs.CallRowLemmas.{Each, EachAfter-append, IsUnseen, IsPlain}
use Rattle.service_events.proofs.SeenLemmas.{seen_unseen}
use Rattle.service_events.proofs.FittingLemmas.{fitting_plain, plain_follow}
use Rattle.service_events.proofs.FlightLemmas.{Flies, flies_from, flies_fit}
use Rattle.service_events.proofs.CallLaws.{Goes, book}

-- the entries and the replies are others, with the same places
pub goes_entries : (s : Kept) (es : List Entry) (ps : List Reply)
    → (FitsPlaces s.registers (places s) → FitsPlaces s.registers (map calls_of_entry es ++ map calls_of_flight s.flights))
    → Goes s (record s { entries = es; replies = ps })
goes_entries s es ps same = record {
  grows = record { rows = []; is = sym (append-nil s.journal); setting = refl };
  keeps = λ few h. record { sent = h.sent; seen = h.seen; places = same h.places; flights = h.flights; orders = h.orders };
}

pub goes_plain : (s : Kept) (rows : List Row) → Each IsPlain rows → Each IsUnseen rows → (EachAfter OrdersOn [] s.journal → EachAfter OrdersOn s.journal rows)
    → (Flies s.journal s.flights → Flies (s.journal ++ rows) s.flights) → Goes s (noted rows s)
goes_plain s rows plain unseen orders flies = record {
  grows = record { rows = rows; is = refl; setting = refl };
  keeps = λ few h. (
      let sum = length-append s.journal rows in
      let room : length s.journal + length rows < 2 ^ 64 = omega (arith, few, sum) in
      let fits = fitting_plain rows (book s) (places s) (record { counts = room }) plain (record { sent = h.sent; places = h.places }) in
      record {
        sent = fits.sent;
        seen = seen_unseen rows s.journal s.registers room (plain_follow rows s.journal plain) unseen h.sent h.seen;
        places = fits.places;
        flights = flies_fit (s.journal ++ rows) s.flights (flies (flies_from s.journal s.flights h.flights));
        orders = EachAfter-append OrdersOn s.journal rows [] h.orders (orders h.orders);
      });
}
