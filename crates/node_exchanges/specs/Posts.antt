-- The posts that a service sends to its peers.
use Rattle.std.specs.Prelude.{ℕ, ◌≡◌, ◌⊎◌, ◌++◌, ◌∷◌, List, [], Option, Some, None, Result, Ok, Err}
use Rattle.std.specs.Option.{ForSome}
use Rattle.lang_base.specs.declared.memory.NoMemory.{NoMemory as LacksMemory}
use Rattle.repair_messages.specs.declared.posts.Post.{Post}
use Rattle.service_events.specs.declared.answers.PostReply.{PostReply}
use Rattle.service_events.specs.declared.answers.PostReply.TheVariants as replies
use Rattle.io_links.specs.Exchanges.{Exchanges}
use Rattle.io_links.specs.declared.links.Exchange.{Exchange}
use Rattle.io_links.specs.declared.links.Exchange.TheVariants as answers
use Rattle.io_links.specs.declared.links.Exchanged.{Exchanged}
use Rattle.http_front.specs.declared.message.FrontRefused.{FrontRefused}
use Rattle.wire_fields.specs.Named.{value_of}
use Rattle.wire_fields.specs.declared.refused.WireRefused.{WireRefused}
use Rattle.wire_replies.specs.declared.replies.Outgoing.{Outgoing}
use Rattle.wire_words.specs.Posts.{asking_of, post_reply}
use Rattle.wire_bytes.specs.Hearing.{IsReplied}
use Rattle.wire_bytes.specs.Sending.{SendsPost}
use Rattle.wire_bytes.specs.declared.hearing.Replied.{Replied}
use Rattle.node_exchanges.specs.Endpoints.{Endpoint}
use Rattle.node_exchanges.specs.declared.exchanges.Back.{Back}
use Rattle.node_exchanges.specs.declared.exchanges.Back.TheVariants as backs

abbrev pub said_in : Post → Result Outgoing WireRefused → Option PostReply
said_in post (Ok reply) = post_reply post reply
said_in post (Err why) = None

-- what a response says of the post that it answers, if anything
abbrev pub said_of : Post → Result Replied FrontRefused → Option PostReply
said_of post (Ok replied) = said_in post replied.reply
said_of post (Err why) = None

-- this came back of a post to this peer: that its exchange failed, or what the bytes of a reply spell, if anything
abbrev pub CameBack : Endpoint → List ℕ → List ℕ → Post → Exchange → Option PostReply → Type 0
CameBack e dest secret post (answers.Reply bytes) reply =
    (read : Result Replied FrontRefused) × (left : List ℕ) × IsReplied e.me dest secret (asking_of post) bytes read left × (reply ≡ said_of post read)
CameBack e dest secret post answers.NoMemory reply = ⊥
CameBack e dest secret post (answers.Failed note) reply = reply ≡ Some (replies.Lost note)

-- what is said of a post by what came back
abbrev pub said_by : Post → Back → Option PostReply
said_by post (backs.Failed note) = Some (replies.Lost note)
said_by post (backs.Response status None) = None
said_by post (backs.Response status (Some reply)) = post_reply post reply

abbrev pub said_with : Post → Result Back LacksMemory → Result (Option PostReply) LacksMemory
said_with post (Ok came) = Ok (said_by post came)
said_with post (Err why) = Err why

-- an exchange in which the post was sent to this peer
pub record PostSent (e : Endpoint) (dest : List ℕ) (post : Post) (x : Exchanged) : Type 0 where
  pub door : value_of dest e.doors ≡ Some x.address
  pub secret : List ℕ
  pub peer : value_of dest e.secrets ≡ Some secret
  pub sends : SendsPost e.me dest x.address e.secret post x.bytes

-- and this came back of it
pub record PostAnswered (e : Endpoint) (dest : List ℕ) (post : Post) (reply : Option PostReply) (x : Exchanged) : Type 0 where
  pub sent : PostSent e dest post x
  pub came : CameBack e dest sent.secret post x.answer reply

-- where the link tells its exchanges, this one was made, and no other
abbrev pub PostsIt : Endpoint → List ℕ → Post → Option PostReply → Exchanges → Exchanges → Type 0
PostsIt e dest post reply before now =
    ForSome before.made (λ all. (x : Exchanged) × (now.made ≡ Some (all ++ x ∷ [])) × PostAnswered e dest post reply x)

-- no exchange was made, or this one, where the link tells it
abbrev pub PostsAtMost : Endpoint → List ℕ → Post → Exchanges → Exchanges → Type 0
PostsAtMost e dest post before now =
    (now ≡ before) ⊎ ((x : Exchanged) × ForSome before.made (λ all. now.made ≡ Some (all ++ x ∷ [])) × PostSent e dest post x)
