-- What a service sends is said to the one that it is for.
use Rattle.std.specs.Prelude.{◌≡◌, ℕ, ◌<◌, ◌≤◌, true, List, [], ◌++◌, Some}
use Rattle.lang_core.specs.declared.request.Request.{Request}
use Rattle.repair_messages.specs.declared.messages.SetMessage.{SetMessage}
use Rattle.repair_messages.specs.declared.posts.Post.{Post}
use Rattle.repair_messages.specs.declared.posts.Post.TheVariants as posts
use Rattle.http_front.specs.ReadBack.{IsWithin}
use Rattle.wire_fields.specs.Secrets.{Secrets}
use Rattle.wire_replies.specs.Writing.{Answers, IsSpelt, reply_body, reply_status}
use Rattle.wire_replies.specs.declared.kinds.Asking.{Asking}
use Rattle.wire_replies.specs.declared.replies.Outgoing.{Outgoing}
use Rattle.aire_wire.specs.ReadBack.{IsFetch, IsLive, IsPeer, IsSent, IsToken}
use Rattle.aire_wire.specs.Written.{body_of}
use Rattle.aire_wire.specs.declared.incoming.Incoming.{Incoming}
use Rattle.aire_wire.specs.declared.incoming.Incoming.TheVariants as said
use Rattle.wire_bytes.specs.Doors.{is_door}
use Rattle.wire_bytes.specs.Saying.{Replies, Says}
use Rattle.wire_bytes.specs.Sending.{call_bytes, post_bytes, receiver_of, reply_bytes, sender_of}

-- these bytes, whatever follows them, say this to the service of this name, where the sender is a peer with this secret
abbrev pub AreSaid : List ℕ → List ℕ → List ℕ → List ℕ → Incoming → Type 0
AreSaid me sender secret bytes message =
    (peers : Secrets) (console : List ℕ) → IsPeer peers sender secret → (rest : List ℕ) → Says me peers console (bytes ++ rest) message rest

-- a live call between two doors, where head and body are within the limits
abbrev pub CallIsSaid : List ℕ → List ℕ → List ℕ → SetMessage → Type 0
CallIsSaid address door secret set =
    (request : Request) → IsSent set → IsLive set request → is_door address ≡ true → is_door door ≡ true
    → IsWithin (call_bytes address door secret set) (body_of set.desired)
    → AreSaid set.dest set.caller secret (call_bytes address door secret set) (said.Live set)

-- a post, whose parts have their forms
abbrev pub IsPosted : Post → Type 0
IsPosted (posts.Set set) = IsSent set
IsPosted (posts.Token token) = IsToken token
IsPosted (posts.Fetch fetch) = IsFetch fetch

abbrev pub message_of : Post → Incoming
message_of (posts.Set set) = said.Set set
message_of (posts.Token token) = said.Token token
message_of (posts.Fetch fetch) = said.Fetch fetch

abbrev pub post_body : Post → List ℕ
post_body (posts.Set set) = body_of set.desired
post_body (posts.Token token) = []
post_body (posts.Fetch fetch) = []

-- likewise a post to a door
abbrev pub PostIsSaid : List ℕ → List ℕ → Post → Type 0
PostIsSaid address secret post =
    IsPosted post → is_door address ≡ true → IsWithin (post_bytes address secret post) (post_body post)
    → AreSaid (receiver_of post) (sender_of post) secret (post_bytes address secret post) (message_of post)

-- and a reply to a peer, with a status of three digits
abbrev pub ReplyIsSaid : List ℕ → List ℕ → List ℕ → Outgoing → Type 0
ReplyIsSaid me peer secret reply =
    IsSpelt reply → (asking : Asking) → Answers asking reply → (100 ≤ reply_status reply) × (reply_status reply < 1000)
    → IsWithin (reply_bytes me (Some peer) secret reply) (reply_body reply)
    → (rest : List ℕ) → Replies peer me secret asking (reply_bytes me (Some peer) secret reply ++ rest) reply rest
