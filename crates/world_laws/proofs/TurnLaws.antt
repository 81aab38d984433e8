-- What an event of one service owes to the world, and what the world keeps then.
use Rattle.std.proofs.Common.{◌≡◌, ℕ, List, ◌++◌, Some, All, sym, subst}
use Rattle.std.proofs.lemmas.List.Elements.{All-nil, All-append, All-weaker}
use Rattle.flights.specs.declared.flight.Flight.{Flight}
use Rattle.journal_rows.specs.declared.row.Row.{Row}
use Rattle.service_events.specs.Fits.{Fits}
use Rattle.service_events.specs.State.{Kept, me}
use Rattle.service_events.proofs.CallLaws.{Grows}
use Rattle.service_events.proofs.SearchLemmas.{found_all}
use Rattle.world_agreement.specs.Partners.{has_name, service_of, HasPartner}
use Rattle.world_events.specs.Sound.{PacketStands, OriginStands, FlightStands, FlightsStand, AreSound}
use Rattle.world_events.specs.declared.packet.Packet.{Packet}
use Rattle.world_laws.proofs.PutLemmas.{put, same_name, grows_same, grew_put, differ_put, all_put}
use Rattle.world_laws.proofs.StillLemmas.{partner_still, partner_grown, packet_still, origin_still}

-- its journal grows, each new row has its partner, and each of its flights was called for
pub record Turns (services : List Kept) (s t : Kept) : Type 0 where
  pub grows : Grows s t
  pub partners : All (HasPartner services s) grows.rows
  pub flights : All (FlightStands services s) t.flights

pub no_turn : (services : List Kept) (s : Kept) → FlightsStand services s → Turns services s s
no_turn services s h = record { grows = grows_same s; partners = All-nil (HasPartner services s); flights = h }

-- the services after it are sound
module _ (services : List Kept) (packets : List Packet) (h : AreSound services packets) (name : List ℕ) (s t : Kept) (here : service_of name services ≡ Some s)
    (turns : Turns services s t) (fits : Fits t) where
  abbrev pub new : List Kept
  new = put name t services

  same : me t ≡ me s
  same = same_name s t turns.grows

  row_joined : (row : Row) → HasPartner services s row → HasPartner new t row
  row_joined row p =
      partner_grown new s t turns.grows fits.sent.rows row (partner_still services new (grew_put name s t turns.grows services here) s row p)

  own_rows : All (HasPartner new t) t.journal
  own_rows =
      let all = All-append (HasPartner services s) s.journal turns.grows.rows
      (found_all (λ x. All (HasPartner services x) x.journal) (has_name name) services s h.joined here) turns.partners in
      let moved = All-weaker (HasPartner services s) (HasPartner new t) row_joined (s.journal ++ turns.grows.rows) all in
      subst (All (HasPartner new t)) (sym turns.grows.is) moved

  flight_still : (x : Kept) (f : Flight) → FlightStands services x f → FlightStands new x f
  flight_still x f p = origin_still services new (grew_put name s t turns.grows services here) (me x) f.origin f.request p

  own_flights : FlightsStand new t
  own_flights =
      All-weaker (FlightStands services s) (FlightStands new t)
      (λ f p. subst (λ m. OriginStands new m f.origin f.request) (sym same) (flight_still s f p)) t.flights turns.flights

  pub sound_put : (more : List Packet) → All (PacketStands new) more → AreSound new (packets ++ more)
  sound_put more written =
      let g = grew_put name s t turns.grows services here in
      record {
        differ = differ_put name s t turns.grows services here h.differ;
        fits = all_put Fits name t services fits h.fits;
        joined = all_put (λ x. All (HasPartner new x) x.journal) name t services own_rows
            (All-weaker (λ x. All (HasPartner services x) x.journal) (λ x. All (HasPartner new x) x.journal)
            (λ x q. All-weaker (HasPartner services x) (HasPartner new x) (λ row p. partner_still services new g x row p) x.journal q) services h.joined);
        flights = all_put (FlightsStand new) name t services own_flights
            (All-weaker (FlightsStand services) (FlightsStand new)
            (λ x q. All-weaker (FlightStands services x) (FlightStands new x) (λ f p. flight_still x f p) x.flights q) services h.flights);
        standing = All-append (PacketStands new) packets more
            (All-weaker (PacketStands services) (PacketStands new) (λ p q. packet_still services new g p q) packets h.standing) written;
      }
