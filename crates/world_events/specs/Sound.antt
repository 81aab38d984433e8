-- What a world keeps: its services fit their journals and agree, and what each packet and each flight says stands in a journal.
use Rattle.std.specs.Prelude.{ℕ, ◌≡◌, ◌<◌, ◌^◌, List, [], ◌∷◌, Some, IsSome, All, Contains, length}
use Rattle.lang_core.specs.declared.ids.Origin.{Origin}
use Rattle.lang_core.specs.declared.ids.Origin.TheVariants.{Outside, Call as CallOrigin}
use Rattle.lang_core.specs.declared.request.Request.{Request}
use Rattle.repair_messages.specs.declared.messages.AnswerMessage.{AnswerMessage}
use Rattle.repair_messages.specs.declared.messages.SetMessage.{SetMessage}
use Rattle.repair_messages.specs.declared.posts.Post.{Post}
use Rattle.repair_messages.specs.declared.posts.Post.TheVariants.{Set as SetPost, Token as TokenPost, Fetch as FetchPost}
use Rattle.journal_rows.specs.declared.row.Row.{Row}
use Rattle.journal_rows.specs.declared.row.Row.TheVariants.{Noted}
use Rattle.flights.specs.declared.flight.Flight.{Flight}
use Rattle.service_events.specs.Fits.{Fits}
use Rattle.service_events.specs.State.{Kept, me}
use Rattle.service_events.specs.declared.answers.PostReply.{PostReply}
use Rattle.service_events.specs.declared.answers.PostReply.TheVariants.{Acked, Confirmed, Given}
use Rattle.world_agreement.specs.Partners.{NamesDiffer, JournalOf, HasSent, HasAcked, HasAnswered, HasGiven, HasConfirmed, IsJoined}
use Rattle.world_events.specs.Events.{after_event, sender}
use Rattle.world_events.specs.Worlds.{World}
use Rattle.world_events.specs.declared.event.Event.{Event}
use Rattle.world_events.specs.declared.packet.Live.{Live}
use Rattle.world_events.specs.declared.packet.Live.TheVariants.{Answer, Refused}
use Rattle.world_events.specs.declared.packet.Packet.{Packet}
use Rattle.world_events.specs.declared.packet.Packet.TheVariants.{Call, CallReply, Post as PostPacket, PostReply as PostReplyPacket}

-- ---- what was said stands in the journal of the service that said it

-- this version of a call was sent
abbrev pub WasSent : List Kept → SetMessage → Type 0
WasSent services set = JournalOf services set.caller (HasSent set.dest set.number set.version set.desired)

-- this answer was given
abbrev pub WasAnswered : List Kept → AnswerMessage → Type 0
WasAnswered services a = JournalOf services a.callee (HasAnswered a.caller a.number a.answer_version a.version a.response)

-- a token announced this answer to a call
abbrev pub WasNoted : ℕ → ℕ → List Row → Type 0
WasNoted number answer_version journal =
    (who : List ℕ) × (rule : ℕ)
    × Contains journal (Noted (record { number = number; answer_version = answer_version; who = who; rule = rule }))

-- ---- packets

-- a live call of the service of this name, which asks something
pub record CallStands (services : List Kept) (name : List ℕ) (set : SetMessage) : Type 0 where
  pub caller : set.caller ≡ name
  pub first : set.version ≡ 1
  pub asks : IsSome set.desired
  pub sent : WasSent services set

abbrev pub ReplyStands : List Kept → List ℕ → Live → Type 0
ReplyStands services name (Answer a) = (a.caller ≡ name) × WasAnswered services a
ReplyStands services name (Refused word number) = Unit {0}

abbrev pub PostStands : List Kept → Post → Type 0
PostStands services (SetPost set) = WasSent services set
PostStands services (TokenPost t) = JournalOf services t.callee (HasGiven t.caller t.number t.answer_version)
PostStands services (FetchPost f) = JournalOf services f.caller (WasNoted f.number f.answer_version)

-- what acknowledges, confirms or answers a post: an answer was given to a call of the service that posted
abbrev pub PostReplyStands : List Kept → Post → PostReply → Type 0
PostReplyStands services post (Acked ack) = JournalOf services ack.dest (HasAcked ack.caller ack.number ack.version)
PostReplyStands services post (Confirmed c) = JournalOf services c.caller (HasConfirmed c.number c.answer_version)
PostReplyStands services post (Given a) = JournalOf services a.callee (HasAnswered (sender post) a.number a.answer_version a.version a.response)
PostReplyStands services post reply = Unit {0}

abbrev pub PacketStands : List Kept → Packet → Type 0
PacketStands services (Call from flight set) = CallStands services from set
PacketStands services (CallReply to flight number reply) = ReplyStands services to reply
PacketStands services (PostPacket post) = PostStands services post
PacketStands services (PostReplyPacket post reply) = PostStands services post × PostReplyStands services post reply

-- ---- flights

-- the call that a live request came from was sent, to this service
abbrev pub OriginStands : List Kept → List ℕ → Origin → Request → Type 0
OriginStands services name Outside q = Unit {0}
OriginStands services name (CallOrigin caller number) q = JournalOf services caller (HasSent name number 1 (Some q))

abbrev pub FlightStands : List Kept → Kept → Flight → Type 0
FlightStands services s f = OriginStands services (me s) f.origin f.request

abbrev pub FlightsStand : List Kept → Kept → Type 0
FlightsStand services s = All (FlightStands services s) s.flights

-- ---- a world

-- services, and the packets that were written
pub record AreSound (services : List Kept) (packets : List Packet) : Type 0 where
  pub differ : NamesDiffer services
  pub fits : All Fits services
  pub joined : IsJoined services
  pub flights : All (FlightsStand services) services
  pub standing : All (PacketStands services) packets

abbrev pub IsSound : World → Type 0
IsSound w = AreSound w.services w.packets

-- a journal has fewer rows than a number of 64 bits counts
abbrev pub AreFew : World → Type 0
AreFew w = All (λ (s : Kept). length s.journal < 2 ^ 64) w.services

-- so it is after each of these events
abbrev pub AllFew : World → List Event → Type 0
AllFew w [] = Unit {0}
AllFew w (e ∷ events) = AreFew (after_event w e) × AllFew (after_event w e) events
