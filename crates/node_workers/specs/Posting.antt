-- One turn of a worker that posts.
use Rattle.std.specs.Prelude.{ℕ, ◌≡◌, ◌⊎◌, List, [], ◌∷◌, Option, Some, None, Result, Ok, Err, IfOk}
use Rattle.lang_base.specs.declared.memory.NoMemory.{NoMemory as LacksMemory}
use Rattle.repair_messages.specs.declared.posts.Post.{Post}
use Rattle.repair_messages.specs.declared.posts.PostName.{PostName}
use Rattle.service_events.specs.Fits.{Fits}
use Rattle.service_events.specs.Posts.{next_post, write_post}
use Rattle.service_events.specs.State.{Kept, me}
use Rattle.service_events.specs.declared.answers.PostReply.{PostReply}
use Rattle.service_events.specs.declared.answers.PostReply.TheVariants as back
use Rattle.service_events.specs.declared.answers.Posted.{Posted}
use Rattle.service_events.specs.declared.answers.Posted.TheVariants as became
use Rattle.service_events.specs.declared.event.Done.{Done as NodeDone}
use Rattle.service_events.specs.declared.event.Done.TheVariants as done
use Rattle.service_events.specs.declared.event.Event.{Event as NodeEvent}
use Rattle.service_events.specs.declared.event.Event.TheVariants as events
use Rattle.service_events.specs.declared.refusals.PostRefused.{PostRefused}
use Rattle.service_events.specs.declared.refusals.PostRefused.TheVariants as refused
use Rattle.io_links.specs.Exchanges.{Exchanges}
use Rattle.wire_bytes.specs.Sending.{receiver_of, sender_of}
use Rattle.node_core.specs.Notes.{post_name}
use Rattle.node_core.specs.declared.notes.Notes.{Notes}
use Rattle.node_core.specs.declared.receipt.Receipt.{Receipt}
use Rattle.node_exchanges.specs.Endpoints.{Endpoint}
use Rattle.node_exchanges.specs.Posts.{PostsAtMost, PostsIt}
use Rattle.node_workers.specs.Turns.{IsUntouched, Made, MakesAll, MakesOnce}
use Rattle.node_workers.specs.declared.posts.PostedOne.{PostedOne}
use Rattle.node_workers.specs.declared.posts.PostedOne.TheVariants as posted

-- ---- the post that goes next

-- At one moment of the service of this name, which fits its journal, this was the message that goes to the peer next.
pub record WasWritten (name dest : List ℕ) (post : Post) : Type 0 where
  pub service : Kept
  pub is : me service ≡ name
  pub fits : Fits service
  pub next : next_post dest service ≡ Some (post_name post)
  pub written : write_post service (post_name post) ≡ Some post

-- the post, if one is outstanding, goes from the service of this name to the peer, and reads as it was written when it was next
abbrev pub IsNextPost : List ℕ → List ℕ → Option Post → Type 0
IsNextPost name dest None = Unit {0}
IsNextPost name dest (Some post) = (sender_of post ≡ name) × (receiver_of post ≡ dest) × WasWritten name dest post

-- ---- the events of a turn

-- the service was asked which post goes to the peer next, and said this one, or none
abbrev pub asked_next : List ℕ → Option PostName → NodeEvent × NodeDone
asked_next dest name = (events.NextPost dest, done.NextPost name)

-- it was asked how the post reads, and wrote it so
abbrev pub asked_text : Post → NodeEvent × NodeDone
asked_text post = (events.WritePost (post_name post), done.WritePost (Ok post))

-- it was told what came back of the post, and answered so
abbrev pub told_back : Post → PostReply → Result Posted PostRefused → NodeEvent × NodeDone
told_back post reply answer = (events.Posted post reply, done.Posted answer)

-- By these events it is known which post goes to the peer next, if one does, and how it reads. Where memory was wanting for that, no event was made, or the
-- service said which post goes next, and was asked for its text once, or not.
abbrev pub MakesNext : List ℕ → List ℕ → Result (Option Post) LacksMemory → Notes → Notes → List Receipt → List Receipt → Type 0
MakesNext name dest (Ok None) before now had have = MakesAll name (asked_next dest None ∷ []) before now had have
MakesNext name dest (Ok (Some post)) before now had have = MakesAll name (asked_next dest (Some (post_name post)) ∷ asked_text post ∷ []) before now had have
MakesNext name dest (Err lacks) before now had have =
    IsUntouched before now had have
    ⊎ ((next : PostName) × (mid : Notes) × (held : List Receipt) × Made name before mid had held (events.NextPost dest) (done.NextPost (Some next))
    × MakesOnce name (events.WritePost next) mid now held have)

-- they are these in each turn in which the service said before that this post goes next
abbrev pub GoesNext : List ℕ → List ℕ → PostName → Notes → Notes → List Receipt → List Receipt → Result (Option Post) LacksMemory → Type 0
GoesNext name dest next mid now held have result =
    (before : Notes) (had : List Receipt) → Made name before mid had held (events.NextPost dest) (done.NextPost (Some next)) → MakesNext name dest result before now had have

-- ---- what became of it

-- an acknowledged post was acknowledged, a confirmed one confirmed; of an answer that was given to a fetch the service saw one that is above the
-- held one, or knew it; one that is held was refused, and one that is left was refused, or its exchange failed
abbrev pub SaysSo : PostReply → Posted → Type 0
SaysSo (back.Acked ack) posted = posted ≡ became.Acked
SaysSo (back.Confirmed confirm) posted = posted ≡ became.Confirmed
SaysSo (back.Given answer) posted = (posted ≡ became.Saw) ⊎ (posted ≡ became.Knew)
SaysSo (back.Refused word number) posted = (posted ≡ became.Held) ⊎ (posted ≡ became.Left)
SaysSo (back.Lost note) posted = posted ≡ became.Left

-- the answer of a turn in which the service answered so
abbrev pub outcome : Result (Result Posted PostRefused) LacksMemory → PostedOne
outcome (Ok (Ok became)) = posted.Posted became
outcome (Ok (Err refused.Foreign)) = posted.Foreign
outcome (Ok (Err refused.NoMemory)) = posted.NoMemory
outcome (Err why) = posted.NoMemory

-- nothing was outstanding for this peer, which was asked in one event, and no exchange was made
pub record IsQuiet (e : Endpoint) (dest : List ℕ) (before now : Notes) (had have : List Receipt) (link link_now : Exchanges) : Type 0 where
  pub made : MakesNext e.me dest (Ok None) before now had have
  pub none : link_now ≡ link

-- The post that goes next was written and sent, and the service was told what came back of it, and answered so. No other event was made, and no other exchange.
pub record IsPosted (e : Endpoint) (dest : List ℕ) (answer : Result Posted PostRefused) (before now : Notes) (had have : List Receipt) (link link_now : Exchanges) : Type 0 where
  pub post : Post
  pub reply : PostReply
  pub written : WasWritten e.me dest post
  pub made : MakesAll e.me (asked_next dest (Some (post_name post)) ∷ asked_text post ∷ told_back post reply answer ∷ []) before now had have
  pub sent : PostsIt e dest post (Some reply) link link_now
  pub so : IfOk answer (SaysSo reply)

-- The post that goes next was written and sent, and what came back is no reply to a post of its kind: of that the service was told nothing.
pub record IsUnread (e : Endpoint) (dest : List ℕ) (before now : Notes) (had have : List Receipt) (link link_now : Exchanges) : Type 0 where
  pub post : Post
  pub written : WasWritten e.me dest post
  pub made : MakesNext e.me dest (Ok (Some post)) before now had have
  pub sent : PostsIt e dest post None link link_now

-- memory was wanting before the post was written, and no exchange was made
abbrev pub IsUnwritten : Endpoint → List ℕ → Notes → Notes → List Receipt → List Receipt → Exchanges → Exchanges → Type 0
IsUnwritten e dest before now had have link link_now = (lacks : LacksMemory) × MakesNext e.me dest (Err lacks) before now had have × (link_now ≡ link)

-- It was wanting once that was written, which was sent once at most; and the service was told nothing of what came back.
pub record IsUntold (e : Endpoint) (dest : List ℕ) (before now : Notes) (had have : List Receipt) (link link_now : Exchanges) : Type 0 where
  pub post : Post
  pub written : WasWritten e.me dest post
  pub made : MakesNext e.me dest (Ok (Some post)) before now had have
  pub sends : PostsAtMost e dest post link link_now

-- what a turn for this peer was, by its answer
abbrev pub IsTurn : Endpoint → List ℕ → Notes → Notes → List Receipt → List Receipt → Exchanges → Exchanges → PostedOne → Type 0
IsTurn e dest before now had have link link_now posted.Nothing = IsQuiet e dest before now had have link link_now
IsTurn e dest before now had have link link_now (posted.Posted became) = IsPosted e dest (Ok became) before now had have link link_now
IsTurn e dest before now had have link link_now posted.Foreign = IsPosted e dest (Err refused.Foreign) before now had have link link_now
IsTurn e dest before now had have link link_now posted.Unread = IsUnread e dest before now had have link link_now
IsTurn e dest before now had have link link_now posted.NoMemory =
    IsUnwritten e dest before now had have link link_now
    ⊎ (IsUntold e dest before now had have link link_now ⊎ IsPosted e dest (Err refused.NoMemory) before now had have link link_now)

-- it is that of each turn in which the post was written up to here
abbrev pub EndsTurn : Endpoint → List ℕ → Post → Notes → Notes → List Receipt → List Receipt → Exchanges → Exchanges → PostedOne → Type 0
EndsTurn e dest post mid now held have link link_now answer =
    (before : Notes) (had : List Receipt) → MakesNext e.me dest (Ok (Some post)) before mid had held → IsTurn e dest before now had have link link_now answer

-- what a worker that posts leaves as it was: its receipts, its open flight, and how many calls were given up
abbrev pub Keeps : Notes → Notes → List Receipt → List Receipt → Type 0
Keeps before now had have =
    (have ≡ had) × (now.begun ≡ before.begun) × (now.lost ≡ before.lost) × (now.refused ≡ before.refused)
