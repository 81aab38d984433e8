-- What an event was told beside its service, as far as its line prints it.
use Rattle.std.specs.Prelude.{ℕ, List, Option, Some, None}
use Rattle.world_events.specs.declared.event.Event.{Event}
use Rattle.world_events.specs.declared.event.Event.TheVariants as event
use Rattle.script_text.specs.declared.detail.Detail.{Detail}
use Rattle.script_text.specs.declared.detail.Detail.TheVariants.{Nothing, Packet, To, Flight, Token}

abbrev pub detail_of : Event → Detail
detail_of (event.Begin service request) = Nothing
detail_of (event.Deliver number) = Packet number
detail_of (event.Lose number) = Packet number
detail_of (event.Post from to) = To to
detail_of (event.Step service) = Nothing
detail_of (event.Abandon service flight) = Flight flight
detail_of (event.Order service command token who) = Token token
detail_of (event.Clock moment) = Nothing
detail_of (event.Seed n) = Nothing

-- ---- what it was told; None where it was told something else

abbrev pub packet_told : Detail → Option ℕ
packet_told Nothing = None
packet_told (Packet n) = Some n
packet_told (To to) = None
packet_told (Flight n) = None
packet_told (Token token) = None

abbrev pub receiver_told : Detail → Option (List ℕ)
receiver_told Nothing = None
receiver_told (Packet n) = None
receiver_told (To to) = Some to
receiver_told (Flight n) = None
receiver_told (Token token) = None

abbrev pub flight_told : Detail → Option ℕ
flight_told Nothing = None
flight_told (Packet n) = None
flight_told (To to) = None
flight_told (Flight n) = Some n
flight_told (Token token) = None

abbrev pub token_told : Detail → Option (List ℕ)
token_told Nothing = None
token_told (Packet n) = None
token_told (To to) = None
token_told (Flight n) = None
token_told (Token token) = Some token
