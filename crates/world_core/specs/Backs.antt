-- To whom the answer of a live request goes back, and as which packet.
use Rattle.std.specs.Prelude.{List, Option, Some, None, find, option_and_then}
use Rattle.lang_core.specs.declared.ids.Origin.{Origin}
use Rattle.lang_core.specs.declared.ids.Origin.TheVariants.{Outside, Call as CallOrigin}
use Rattle.repair_messages.specs.declared.messages.AnswerMessage.{AnswerMessage}
use Rattle.flights.specs.declared.flight.Flight.{Flight}
use Rattle.world_events.specs.Events.{is_call_of}
use Rattle.world_events.specs.declared.packet.Live.TheVariants.{Answer}
use Rattle.world_events.specs.declared.packet.Packet.{Packet}
use Rattle.world_events.specs.declared.packet.Packet.TheVariants.{Call, CallReply}
use Rattle.world_core.specs.declared.backs.Back.{Back}

-- an answer as a packet, where it goes back to somebody
abbrev pub answer_by : Option Back → AnswerMessage → Option Packet
answer_by None a = None
answer_by (Some back) a = Some (CallReply back.to back.flight back.number (Answer a))

abbrev pub back_of : Packet → Option Back
back_of (Call from flight set) = Some (record { to = from; flight = flight; number = set.number })
back_of packet = None

-- to the flight that sent its call
abbrev pub back_to : List Packet → Origin → Option Back
back_to packets Outside = None
back_to packets (CallOrigin caller number) = option_and_then back_of (find (is_call_of caller number) packets)

abbrev pub back_for : List Packet → Option Flight → Option Back
back_for packets None = None
back_for packets (Some f) = back_to packets f.origin
