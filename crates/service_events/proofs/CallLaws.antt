-- What fits of a service's calls, and what keeps it.
use Rattle.std.proofs.Common.{◌≡◌, ℕ, ◌^◌, ◌<◌, ◌≤◌, List, [], ◌++◌, Some, map, length, arith, append-nil, append_assoc, sym, ap, ◌∙◌, length-append, refl}
use Rattle.request_log.specs.declared.entry.Entry.{Entry}
use Rattle.journal_rows.specs.declared.row.Row.{Row}
use Rattle.journal_rows.specs.declared.row.Row.TheVariants.{Ordered}
use Rattle.call_registers.specs.Registers.{at_number}
use Rattle.call_registers.specs.declared.register.Register.{Register}
use Rattle.call_registers.specs.declared.reply.Reply.{Reply}
use Rattle.flights.specs.declared.flight.Flight.{Flight}
use Rattle.service_events.specs.State.{Kept}
use Rattle.service_events.specs.Calls.{noted}
use Rattle.service_events.specs.Fits.{EachAfter, FitsSent, FitsSeen, FitsPlaces, FitsFlights, OrdersOn, Fits, SendsOn, call_in, places, calls_of_entry, calls_of_flight}
use Rattle.service_events.proofs.CallRowLemmas.{Each, EachAfter-append, EachAfter-behind, kind_follows, IsUnseen, IsUnordered}
use Rattle.service_events.proofs.SentLemmas.{IsAside, fits_aside}
use Rattle.service_events.proofs.SeenLemmas.{LeavesSeen, seen_unseen, seen_aside}
use Rattle.service_events.proofs.PlaceLemmas.{places_aside}
use Rattle.service_events.proofs.FittingLemmas.{Book, entered, HasRoom, Fitting}

-- registers, what was seen, the places of calls, flights and orders
pub record FitsCalls (s : Kept) : Type 0 where
  pub sent : FitsSent s.journal s.registers
  pub seen : FitsSeen s.journal s.registers
  pub places : FitsPlaces s.registers (places s)
  pub flights : FitsFlights s.journal s.flights
  pub orders : EachAfter OrdersOn [] s.journal

pub calls_of_fits : (s : Kept) → Fits s → FitsCalls s
calls_of_fits s f = record { sent = f.sent; seen = f.seen; places = f.places; flights = f.flights; orders = f.orders }

-- a journal has fewer rows than a number of 64 bits counts
abbrev pub IsFew : Kept → Type 0
IsFew s = length s.journal < 2 ^ 64

-- rows come behind those of the journal, and what the service is set to do stays
pub record Grows (s t : Kept) : Type 0 where
  pub rows : List Row
  pub is : t.journal ≡ s.journal ++ rows
  pub setting : t.setting ≡ s.setting

-- the journal grows, and what fits of calls is kept where its rows can be counted
pub record Goes (s t : Kept) : Type 0 where
  pub grows : Grows s t
  pub keeps : IsFew t → FitsCalls s → FitsCalls t

pub goes_longer : (s t : Kept) → Goes s t → length s.journal ≤ length t.journal
goes_longer s t g = (let size = ap length g.grows.is ∙ length-append s.journal g.grows.rows in omega (arith, size))

pub goes_same : (s : Kept) → Goes s s
goes_same s = record { grows = record { rows = []; is = sym (append-nil s.journal); setting = refl }; keeps = λ few f. f }

pub goes_then : (s t u : Kept) → Goes s t → Goes t u → Goes s u
goes_then s t u a b =
    let second = goes_longer t u b in
    record {
      grows = record {
        rows = a.grows.rows ++ b.grows.rows;
        is = b.grows.is ∙ ap (λ j. j ++ b.grows.rows) a.grows.is ∙ append_assoc s.journal a.grows.rows b.grows.rows;
        setting = b.grows.setting ∙ a.grows.setting;
      };
      keeps = λ few f. b.keeps few (a.keeps (omega (arith, few, second)) f);
    }

abbrev pub book : Kept → Book
book s = record { journal = s.journal; registers = s.registers }

-- ---- rows come

unordered_follows : (before : List Row) (row : Row) → IsUnordered row → OrdersOn before row
unordered_follows before (Ordered o) h = absurd h
unordered_follows before row h = tt

pub orders_unordered : (journal rows : List Row) → Each IsUnordered rows → EachAfter OrdersOn [] journal → EachAfter OrdersOn [] (journal ++ rows)
orders_unordered journal rows quiet h =
    EachAfter-append OrdersOn journal rows [] h (kind_follows OrdersOn IsUnordered unordered_follows rows journal quiet)

-- rows that tell nothing that was seen, and no order
pub noted_calls : (s : Kept) (es : List Entry) (fs : List Flight) (ps : List Reply) (rows : List Row) → HasRoom (book s) rows
    → Each IsUnseen rows → Each IsUnordered rows → FitsCalls s
    → Fitting (entered rows (book s)) (map calls_of_entry es ++ map calls_of_flight fs) → FitsFlights (s.journal ++ rows) fs
    → FitsCalls (noted rows (record s { entries = es; flights = fs; replies = ps }))
noted_calls s es fs ps rows few unseen unordered f fits flights = record {
  sent = fits.sent;
  seen = seen_unseen rows s.journal s.registers few.counts (EachAfter-behind SendsOn s.journal rows [] fits.sent.rows) unseen f.sent f.seen;
  places = fits.places;
  flights = flights;
  orders = orders_unordered s.journal rows unordered f.orders;
}

-- ---- a register changes, but neither its call nor what was seen

pub record IsMinor (f : Register → Register) : Type 0 where
  pub aside : IsAside f
  pub seen : LeavesSeen f
  pub wants : (r : Register) → call_in (Some (f r)) ≡ call_in (Some r)

abbrev pub at_register : ℕ → (Register → Register) → Kept → Kept
at_register n f s = record s { registers = at_number n f s.registers }

pub register_calls : (s : Kept) (n : ℕ) (f : Register → Register) → IsMinor f → FitsCalls s → FitsCalls (at_register n f s)
register_calls s n f m h = record {
  sent = fits_aside s.journal s.registers n f m.aside h.sent;
  seen = seen_aside s.journal s.registers n f m.aside.number m.seen h.seen;
  places = places_aside s.registers n f (places s) m.aside.number m.wants h.places;
  flights = h.flights;
  orders = h.orders;
}
