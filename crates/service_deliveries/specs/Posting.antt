-- What a confirmation makes of a service, but its row.
use Rattle.std.specs.Prelude.{ℕ}
use Rattle.repair_messages.specs.declared.posts.Post.{Post}
use Rattle.service_events.specs.State.{Kept}
use Rattle.service_events.specs.Messages.{confirmed_reply}

-- the reply that this post is about has this answer confirmed
abbrev pub with_confirmed : Post → ℕ → Kept → Kept
with_confirmed post answer_version s = record s { replies = confirmed_reply s post answer_version }
