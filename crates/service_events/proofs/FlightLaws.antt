-- A flight names a call, changes one, is committed or abandoned: what fits of calls is kept.
use Rattle.std.proofs.Common.{◌≡◌, ℕ, zero, suc, ◌<◌, List, [], ◌∷◌, ◌++◌, Option, Some, None, map, length, slice_get, slice_set, refl, sym, ap, ◌∙◌, subst, arith, append_assoc, length-append, append-nil}
use Rattle.std.proofs.lemmas.List.{map-append}
use Rattle.lang_core.specs.declared.trace.CallMade.{CallMade}
use Rattle.request_log.specs.declared.entry.Entry.{Entry}
use Rattle.journal_rows.specs.declared.row.Row.{Row}
use Rattle.call_registers.specs.Registers.{next_number, with_cause}
use Rattle.call_registers.specs.declared.register.Register.{Register}
use Rattle.call_registers.specs.declared.register.Why.{Why}
use Rattle.flights.specs.declared.flight.Flight.{Flight}
use Rattle.service_events.specs.State.{Kept, without_flight, put_flight, with_flight}
use Rattle.service_events.specs.Calls.{noted, named, deleted}
use Rattle.service_events.specs.Flying.{with_slot, with_change, deletion, change_rows}
use Rattle.service_events.specs.Fits.{FitsPlaces, WantsItsCalls, NumberedCalls, calls_of_entry, calls_of_flight}
use Rattle.service_events.proofs.CallRowLemmas.{Each, each_weaker, each_of_all, IsSending, IsUnseen, IsUntaken, IsUnordered, sending_unseen, sending_untaken, sending_unordered}
use Rattle.service_events.proofs.PlaceLemmas.{place, no_place, rearrange, drawn, laid, lengths, without_none, parted}
use Rattle.service_events.proofs.FittingLemmas.{Book, entered, HasRoom, room_first, room_then, Fitting, fitting_then, name_call, delete_call}
use Rattle.service_events.proofs.SettleLemmas.{fitting_by, fitting_swap, fitting_first, fitting_join}
use Rattle.service_events.proofs.FlightLemmas.{Flies, flies_from, flies_fit, flies_rows, flies_put, put_at}
use Rattle.service_events.proofs.CallLaws.{FitsCalls, Goes, book, noted_calls, IsMinor, at_register, register_calls}

-- the service with this flight, in place of the one of its number if there is one
abbrev pub flying : Kept → Flight → Kept
flying s f = record s { flights = with_flight f s.flights }

-- the places of these entries, and of the flights below and above one
abbrev pub around : List Entry → List Flight → List Flight → List NumberedCalls
around es lows highs = (map calls_of_entry es ++ map calls_of_flight lows) ++ map calls_of_flight highs

split_places : (es : List Entry) (lows : List Flight) (f : Flight) (highs : List Flight)
    → map calls_of_entry es ++ map calls_of_flight (lows ++ f ∷ highs)
    ≡ (map calls_of_entry es ++ map calls_of_flight lows) ++ calls_of_flight f ∷ map calls_of_flight highs
split_places es lows f highs =
    ap (λ ps. map calls_of_entry es ++ ps) (map-append calls_of_flight lows (f ∷ highs))
    ∙ sym (append_assoc (map calls_of_entry es) (map calls_of_flight lows) (calls_of_flight f ∷ map calls_of_flight highs))

pub to_head : (rs : List Register) (es : List Entry) (lows : List Flight) (f : Flight) (highs : List Flight)
    → FitsPlaces rs (map calls_of_entry es ++ map calls_of_flight (lows ++ f ∷ highs)) → FitsPlaces rs (calls_of_flight f ∷ around es lows highs)
to_head rs es lows f highs h =
    let front = map calls_of_entry es ++ map calls_of_flight lows in
    let back = map calls_of_flight highs in
    let P : List NumberedCalls → Type 0 = λ ps. FitsPlaces rs ps in
    rearrange rs (front ++ calls_of_flight f ∷ back) (calls_of_flight f ∷ (front ++ back)) (drawn front (calls_of_flight f) back) (subst P (split_places es lows f highs) h)

pub from_head : (rs : List Register) (es : List Entry) (lows : List Flight) (f : Flight) (highs : List Flight)
    → FitsPlaces rs (calls_of_flight f ∷ around es lows highs) → FitsPlaces rs (map calls_of_entry es ++ map calls_of_flight (lows ++ f ∷ highs))
from_head rs es lows f highs h =
    let front = map calls_of_entry es ++ map calls_of_flight lows in
    let back = map calls_of_flight highs in
    let P : List NumberedCalls → Type 0 = λ ps. FitsPlaces rs ps in
    subst P (sym (split_places es lows f highs)) (rearrange rs (calls_of_flight f ∷ (front ++ back)) (front ++ calls_of_flight f ∷ back) (laid front (calls_of_flight f) back) h)

-- without the flight
pub to_rest : (rs : List Register) (es : List Entry) (lows highs : List Flight) → FitsPlaces rs (around es lows highs)
    → FitsPlaces rs (map calls_of_entry es ++ map calls_of_flight (lows ++ highs))
to_rest rs es lows highs h =
    let P : List NumberedCalls → Type 0 = λ ps. FitsPlaces rs ps in
    subst P (append_assoc (map calls_of_entry es) (map calls_of_flight lows) (map calls_of_flight highs)
    ∙ ap (λ ps. map calls_of_entry es ++ ps) (sym (map-append calls_of_flight lows highs))) h

pub from_rest : (rs : List Register) (es : List Entry) (lows highs : List Flight) → FitsPlaces rs (map calls_of_entry es ++ map calls_of_flight (lows ++ highs))
    → FitsPlaces rs (around es lows highs)
from_rest rs es lows highs h =
    let P : List NumberedCalls → Type 0 = λ ps. FitsPlaces rs ps in
    subst P (ap (λ ps. map calls_of_entry es ++ ps) (map-append calls_of_flight lows highs)
    ∙ sym (append_assoc (map calls_of_entry es) (map calls_of_flight lows) (map calls_of_flight highs))) h

-- as an entry at the end
pub to_entry : (rs : List Register) (es : List Entry) (e : Entry) (lows highs : List Flight) → FitsPlaces rs (calls_of_entry e ∷ around es lows highs)
    → FitsPlaces rs (map calls_of_entry (es ++ e ∷ []) ++ map calls_of_flight (lows ++ highs))
to_entry rs es e lows highs h =
    let xs = map calls_of_entry es in
    let fs = map calls_of_flight (lows ++ highs) in
    let P : List NumberedCalls → Type 0 = λ ps. FitsPlaces rs ps in
    let order : around es lows highs ≡ xs ++ fs =
    append_assoc xs (map calls_of_flight lows) (map calls_of_flight highs) ∙ ap (λ ps. xs ++ ps) (sym (map-append calls_of_flight lows highs)) in
    let there = rearrange rs (calls_of_entry e ∷ (xs ++ fs)) (xs ++ calls_of_entry e ∷ fs) (laid xs (calls_of_entry e) fs) (subst P (ap (λ ps. calls_of_entry e ∷ ps) order) h) in
    subst P (sym (append_assoc xs (calls_of_entry e ∷ []) fs) ∙ ap (λ ps. ps ++ fs) (sym (map-append calls_of_entry es (e ∷ [])))) there

-- ---- a flight's places move

-- what the flight's number and origin leave of the flights: those below and those above
pub record Flown (s : Kept) (f : Flight) : Type 0 where
  pub lows : List Flight
  pub highs : List Flight
  pub put : (g : Flight) → g.id ≡ f.id → with_flight g s.flights ≡ lows ++ g ∷ highs
  pub without : without_flight f.id s.flights ≡ lows ++ highs

pub flown : (s : Kept) (f : Flight) → Flown s f
flown s f =
    let at = put_at f (without_flight f.id s.flights) in
    record { lows = at.lows; highs = at.highs; put = λ g e. ap (λ k. put_flight g (without_flight k s.flights)) e ∙ at.put g e; without = at.is }

-- the flight at the head of all places
pub fitting_at : (s : Kept) (f : Flight) (w : Flown s f) → FitsCalls (flying s f) → Fitting (book s) (calls_of_flight f ∷ around s.entries w.lows w.highs)
fitting_at s f w h = record {
  sent = h.sent;
  places = to_head s.registers s.entries w.lows f w.highs
      (let P : List Flight → Type 0 = λ fs. FitsPlaces s.registers (map calls_of_entry s.entries ++ map calls_of_flight fs) in subst P (w.put f refl) h.places);
}

-- rows that are sent make another flight of it, which has its number and origin
pub goes_moves : (s : Kept) (f g : Flight) (rows : List Row) → g.id ≡ f.id → g.origin ≡ f.origin → Each IsSending rows
    → ((ps : List NumberedCalls) → HasRoom (book s) rows → Fitting (book s) (calls_of_flight f ∷ ps) → Fitting (entered rows (book s)) (calls_of_flight g ∷ ps))
    → Goes (flying s f) (flying (noted rows s) g)
goes_moves s f g rows id origin sending moves = record {
  grows = record { rows = rows; is = refl; setting = refl };
  keeps = λ few h. (
      let w = flown s f in
      let sum = length-append s.journal rows in
      let room : HasRoom (book s) rows = record { counts = omega (arith, few, sum) } in
      let moved = moves (around s.entries w.lows w.highs) room (fitting_at s f w h) in
      let end = (entered rows (book s)).registers in
      let P : List Flight → Type 0 = λ fs. FitsPlaces end (map calls_of_entry s.entries ++ map calls_of_flight fs) in
      let F : List Flight → Type 0 = λ fs. Flies s.journal fs in
      let old = subst F (w.put f refl) (flies_from s.journal (with_flight f s.flights) h.flights) in
      let new = subst F (sym (w.put g id)) (flies_put s.journal w.lows f g w.highs id origin old) in
      noted_calls (flying s f) s.entries (with_flight g s.flights) s.replies rows room
      (each_weaker IsSending IsUnseen sending_unseen rows sending) (each_weaker IsSending IsUnordered sending_unordered rows sending) h
      (record { sent = moved.sent; places = subst P (sym (w.put g id)) (from_head end s.entries w.lows g w.highs moved.places) })
      (flies_fit (s.journal ++ rows) (with_flight g s.flights)
      (flies_rows s.journal rows (with_flight g s.flights) (each_weaker IsSending IsUntaken sending_untaken rows sending) new)));
}

-- ---- a call is named

pub goes_named : (s : Kept) (f : Flight) (c : CallMade)
    → Goes (flying s f) (flying (noted (named (next_number s.registers) c ∷ []) s) (with_slot (next_number s.registers) c f))
goes_named s f c =
    let next = next_number s.registers in
    let rows = named next c ∷ [] in
    goes_moves s f (with_slot next c f) rows refl refl (tt, tt)
    (λ ps room h. (let new = name_call (book s) next c (calls_of_flight f ∷ ps) room refl h in
    fitting_join (entered rows (book s)) f.numbers (next ∷ []) f.calls (c ∷ []) ps
    (fitting_swap (entered rows (book s)) (place (next ∷ []) (c ∷ [])) (calls_of_flight f) ps new.fits)))

-- ---- a call changes

-- a list about one of its places
record IsAt {X : Type 0} (xs : List X) (k : ℕ) : Type 0 where
  pub front : List X
  pub here : X
  pub back : List X
  pub before : length front ≡ k
  pub is : xs ≡ front ++ here ∷ back
  pub got : slice_get xs k ≡ Some here
  pub set : (y : X) → slice_set xs k y ≡ front ++ y ∷ back

is_at : {X : Type 0} (xs : List X) (k : ℕ) → k < length xs → IsAt xs k
is_at [] k w = absurd (omega (arith, w))
is_at (x ∷ xs) zero w = record { front = []; here = x; back = xs; before = refl; is = refl; got = refl; set = λ y. refl }
is_at (x ∷ xs) (suc k) w =
    let rest = is_at xs k (omega (arith, w)) in
    record {
      front = x ∷ rest.front;
      here = rest.here;
      back = rest.back;
      before = ap suc rest.before;
      is = ap (λ ys. x ∷ ys) rest.is;
      got = rest.got;
      set = λ y. ap (λ ys. x ∷ ys) (rest.set y);
    }

-- at one slot the call is deleted, and another one is named
change_at : (b : Book) (fn : List ℕ) (n : ℕ) (bn : List ℕ) (fc : List CallMade) (o : CallMade) (bc : List CallMade) (c : CallMade) (ps : List NumberedCalls)
    → length fn ≡ length fc → HasRoom b (deleted b.registers n o ∷ (named (next_number b.registers) c ∷ []))
    → Fitting b (place (fn ++ n ∷ bn) (fc ++ o ∷ bc) ∷ ps)
    → Fitting (entered (deleted b.registers n o ∷ (named (next_number b.registers) c ∷ [])) b) (place (fn ++ next_number b.registers ∷ bn) (fc ++ c ∷ bc) ∷ ps)
change_at b fn n bn fc o bc c ps same few f =
    let next = next_number b.registers in
    let row = deleted b.registers n o in
    let fresh = named next c in
    let front = place fn fc in
    let two = fitting_by b (place (fn ++ n ∷ bn) (fc ++ o ∷ bc) ∷ ps) (front ∷ (place (n ∷ bn) (o ∷ bc) ∷ ps)) (parted b.registers fn (n ∷ bn) fc (o ∷ bc) ps same) f in
    let three = fitting_first b n bn o bc (front ∷ ps) (fitting_swap b front (place (n ∷ bn) (o ∷ bc)) ps two) in
    let behind = place bn bc ∷ (front ∷ ps) in
    let gone = delete_call b b.registers n o behind (room_first b (row ∷ []) (fresh ∷ []) few) refl three in
    let mid = entered (row ∷ []) b in
    let left = fitting_by mid (no_place ∷ behind) behind (without_none mid.registers behind) gone.fits in
    let new = name_call mid next c behind (room_then b (row ∷ []) (fresh ∷ []) few) gone.next left in
    let end = entered (fresh ∷ []) mid in
    let back = fitting_join end (next ∷ []) bn (c ∷ []) bc (front ∷ ps) new.fits in
    let whole = fitting_join end fn (next ∷ bn) fc (c ∷ bc) ps (fitting_swap end (place (next ∷ bn) (c ∷ bc)) front ps back) in
    fitting_then (row ∷ []) (fresh ∷ []) b (place (fn ++ next ∷ bn) (fc ++ c ∷ bc) ∷ ps) whole

change_fits : (s : Kept) (f : Flight) (k : ℕ) (c : CallMade) (ps : List NumberedCalls) → k < length f.calls → HasRoom (book s) (change_rows s f k c)
    → Fitting (book s) (calls_of_flight f ∷ ps) → Fitting (entered (change_rows s f k c) (book s)) (calls_of_flight (with_change k (next_number s.registers) c f) ∷ ps)
change_fits s f k c ps within few h =
    let next = next_number s.registers in
    let wants = (each_of_all (WantsItsCalls s.registers) (calls_of_flight f ∷ ps) h.places.calls).0 in
    let same = lengths s.registers f.numbers f.calls wants in
    let ns = is_at f.numbers k (omega (arith, within, same)) in
    let cs = is_at f.calls k within in
    let rows = deleted s.registers ns.here cs.here ∷ (named next c ∷ []) in
    let is : change_rows s f k c ≡ rows =
    ap (λ o. deletion s o (slice_get f.calls k) ++ named next c ∷ []) ns.got ∙ ap (λ o. deletion s (Some ns.here) o ++ named next c ∷ []) cs.got in
    let R : List Row → Type 0 = λ r. HasRoom (book s) r in
    let at : calls_of_flight f ≡ place (ns.front ++ ns.here ∷ ns.back) (cs.front ++ cs.here ∷ cs.back) =
    (let a = ns.is in let d = cs.is in λ i. record { numbers = a i; calls = d i }) in
    let to : calls_of_flight (with_change k next c f) ≡ place (ns.front ++ next ∷ ns.back) (cs.front ++ c ∷ cs.back) =
    (let a = ns.set next in let d = cs.set c in λ i. record { numbers = a i; calls = d i }) in
    let P : NumberedCalls → Type 0 = λ p. Fitting (book s) (p ∷ ps) in
    let Q : NumberedCalls → Type 0 = λ p. Fitting (entered rows (book s)) (p ∷ ps) in
    let W : List Row → Type 0 = λ r. Fitting (entered r (book s)) (calls_of_flight (with_change k next c f) ∷ ps) in
    subst W (sym is) (subst Q (sym to)
    (change_at (book s) ns.front ns.here ns.back cs.front cs.here cs.back c ps (ns.before ∙ sym cs.before) (subst R is few) (subst P at h)))

pub sends_change : (s : Kept) (n : Option ℕ) (o : Option CallMade) (next : ℕ) (c : CallMade) → Each IsSending (deletion s n o ++ named next c ∷ [])
sends_change s (Some n) (Some o) next c = (tt, (tt, tt))
sends_change s (Some n) None next c = (tt, tt)
sends_change s None o next c = (tt, tt)

pub goes_changed : (s : Kept) (f : Flight) (k : ℕ) (c : CallMade) → k < length f.calls
    → Goes (flying s f) (flying (noted (change_rows s f k c) s) (with_change k (next_number s.registers) c f))
goes_changed s f k c within =
    goes_moves s f (with_change k (next_number s.registers) c f) (change_rows s f k c) refl refl
    (sends_change s (slice_get f.numbers k) (slice_get f.calls k) (next_number s.registers) c) (λ ps room h. change_fits s f k c ps within room h)

-- ---- a call that isn't sent

pub minor_cause : (why : Why) → IsMinor (with_cause why)
minor_cause why = record { aside = record { number = λ r. refl; sent = λ r. refl }; seen = λ r. (refl, refl, refl); wants = λ r. refl }

pub goes_untold : (s : Kept) (n : ℕ) (why : Why) → Goes s (at_register n (with_cause why) s)
goes_untold s n why = record { grows = record { rows = []; is = sym (append-nil s.journal); setting = refl }; keeps = λ few h. register_calls s n (with_cause why) (minor_cause why) h }
