-- The bytes that a service sends to a peer's door, and those with which it replies.
use Rattle.std.specs.Prelude.{◌≡◌, ℕ, List, Option}
use Rattle.repair_messages.specs.declared.messages.SetMessage.{SetMessage}
use Rattle.repair_messages.specs.declared.posts.Post.{Post}
use Rattle.repair_messages.specs.declared.posts.Post.TheVariants as posts
use Rattle.http_front.specs.Writing.{request_bytes, response_bytes}
use Rattle.wire_replies.specs.Writing.{written}
use Rattle.wire_replies.specs.declared.replies.Outgoing.{Outgoing}
use Rattle.aire_wire.specs.Written.{written_call, written_post}
use Rattle.wire_bytes.specs.Doors.{notifier_of, with_host}

-- a live call to the service at this address, from the one at that door, which seals with this secret
abbrev pub call_bytes : List ℕ → List ℕ → List ℕ → SetMessage → List ℕ
call_bytes address door secret set = request_bytes (with_host address (written_call set (notifier_of door) secret))

-- a post to the service at this address, from one that seals with this secret
abbrev pub post_bytes : List ℕ → List ℕ → Post → List ℕ
post_bytes address secret post = request_bytes (with_host address (written_post post secret))

-- a reply of the service of this name to a peer, or, where it is no peer, to another client
abbrev pub reply_bytes : List ℕ → Option (List ℕ) → List ℕ → Outgoing → List ℕ
reply_bytes me to secret reply = response_bytes (written me to reply secret)

-- ---- between two services

-- the service that posts it
abbrev pub sender_of : Post → List ℕ
sender_of (posts.Set set) = set.caller
sender_of (posts.Token token) = token.callee
sender_of (posts.Fetch fetch) = fetch.caller

-- the one that it is for
abbrev pub receiver_of : Post → List ℕ
receiver_of (posts.Set set) = set.dest
receiver_of (posts.Token token) = token.caller
receiver_of (posts.Fetch fetch) = fetch.callee

-- these bytes are that call, from the service of this name to a peer
pub record SendsCall (me peer address door secret : List ℕ) (set : SetMessage) (bytes : List ℕ) : Type 0 where
  pub from : set.caller ≡ me
  pub dest : set.dest ≡ peer
  pub spelled : bytes ≡ call_bytes address door secret set

-- these bytes are that post, from the service of this name to a peer
pub record SendsPost (me peer address secret : List ℕ) (post : Post) (bytes : List ℕ) : Type 0 where
  pub from : sender_of post ≡ me
  pub dest : receiver_of post ≡ peer
  pub spelled : bytes ≡ post_bytes address secret post
