-- Closed worlds: all services that a message names are there, and each packet has a receiver.
use Rattle.std.specs.Prelude.{ℕ, ◌≡◌, List, IsSome, IfSome, All}
use Rattle.repair_messages.specs.declared.posts.Post.{Post}
use Rattle.repair_messages.specs.declared.posts.Post.TheVariants.{Set as SetPost, Token as TokenPost, Fetch as FetchPost}
use Rattle.service_events.specs.Posts.{next_post, write_post}
use Rattle.service_events.specs.State.{Kept}
use Rattle.world_agreement.specs.Partners.{NamesDiffer, service_of}
use Rattle.world_events.specs.Events.{sender}
use Rattle.world_events.specs.Reach.{ArePeered}
use Rattle.world_events.specs.Worlds.{World}
use Rattle.world_events.specs.declared.event.Event.{Event}
use Rattle.world_events.specs.declared.event.Event.TheVariants.{Post as Posts}
use Rattle.world_events.specs.declared.packet.Packet.{Packet}
use Rattle.world_events.specs.declared.packet.Packet.TheVariants.{Call, CallReply, Post as PostPacket, PostReply as PostReplyPacket}

-- ---- the two ends of a packet

abbrev pub post_receiver : Post → List ℕ
post_receiver (SetPost set) = set.dest
post_receiver (TokenPost t) = t.caller
post_receiver (FetchPost f) = f.callee

-- the service that gets it when it is delivered
abbrev pub receiver : Packet → List ℕ
receiver (Call from flight set) = set.dest
receiver (CallReply to flight number reply) = to
receiver (PostPacket post) = post_receiver post
receiver (PostReplyPacket post reply) = sender post

-- the service that began the exchange, which learns when it is lost
abbrev pub beginner : Packet → List ℕ
beginner (Call from flight set) = from
beginner (CallReply to flight number reply) = to
beginner (PostPacket post) = sender post
beginner (PostReplyPacket post reply) = sender post

-- a live call is its sender's, and asks something
abbrev pub IsOwnCall : Packet → Type 0
IsOwnCall (Call from flight set) = (set.caller ≡ from) × IsSome set.desired
IsOwnCall packet = Unit {0}

-- ---- a world

abbrev pub IsThere : List Kept → List ℕ → Type 0
IsThere services name = IsSome (service_of name services)

pub record HasEnds (services : List Kept) (packet : Packet) : Type 0 where
  pub gets : IsThere services (receiver packet)
  pub began : IsThere services (beginner packet)
  pub call : IsOwnCall packet

-- names differ, the peers of each service are there, and so are both ends of each packet
pub record AreClosed (services : List Kept) (packets : List Packet) : Type 0 where
  pub differ : NamesDiffer services
  pub peered : ArePeered services
  pub ends : All (HasEnds services) packets

abbrev pub IsClosed : World → Type 0
IsClosed w = AreClosed w.services w.packets

-- ---- what a service posts

-- the message of the post that this service writes next for another one goes there
abbrev pub PostsTo : List ℕ → Kept → Type 0
PostsTo to s = IfSome (next_post to s) (λ name. IfSome (write_post s name) (λ post. post_receiver post ≡ to))

-- so it is where an event writes a post to a service that is there
abbrev pub PostsWell : World → Event → Type 0
PostsWell w (Posts from to) = IfSome (service_of to w.services) (λ _. IfSome (service_of from w.services) (PostsTo to))
PostsWell w e = Unit {0}
