-- The oldest post, by what stands beside it, and by a walk over registers and replies; which keys are those of outstanding posts.
use Rattle.std.specs.Prelude.{ℕ, ◌≡◌, ◌≤◌, Bool, false, List, Option, Some, None, All, Contains, if◌then◌else◌, option_map}
use Rattle.std.specs.Option.{option_map_or}
use Rattle.lang_lists.specs.declared.age_keys.AgeKey.{AgeKey}
use Rattle.repair_messages.specs.declared.posts.PostName.{PostName}
use Rattle.repair_messages.specs.declared.posts.PostName.TheVariants.{Call, Reply as OfReply, Fetch as OfFetch}
use Rattle.call_registers.specs.Registers.{register}
use Rattle.call_registers.specs.Replies.{reply}
use Rattle.call_registers.specs.declared.register.Register.{Register}
use Rattle.call_registers.specs.declared.reply.Reply.{Reply}
use Rattle.service_events.specs.Posts.{Aged, aged_call, aged_fetch, aged_reply, is_owed, is_to_fetch, is_unacknowledged, older, oldest}

-- the name of the oldest of these
abbrev pub first_name : List Aged → Option PostName
first_name posts = option_map (λ (p : Aged). p.name) (oldest posts)

-- one of these has this name, and none of them is older
pub record IsOldest (name : PostName) (posts : List Aged) : Type 0 where
  pub post : Aged
  pub there : Contains posts post
  pub named : post.name ≡ name
  pub first : All (λ (p : Aged). post.since ≤ p.since) posts

-- ---- a walk: the oldest so far, where one call or reply more was seen

abbrev pub with_call : List ℕ → List ℕ → Option Aged → Register → Option Aged
with_call awaited dest first r = if is_unacknowledged awaited dest r then older first (aged_call r) else first

abbrev pub with_reply : List ℕ → Option Aged → Reply → Option Aged
with_reply dest first p = if is_owed dest p then older first (aged_reply p) else first

abbrev pub with_fetch : List ℕ → Option Aged → Register → Option Aged
with_fetch dest first r = if is_to_fetch dest r then older first (aged_fetch r) else first

-- the older of two, and the first where they are as old
abbrev pub older_of : Option Aged → Option Aged → Option Aged
older_of first None = first
older_of first (Some post) = older first post

-- ---- by keys

-- the call of a number is outstanding
abbrev pub goes_out : List ℕ → List ℕ → List Register → ℕ → Bool
goes_out awaited dest registers number = option_map_or (is_unacknowledged awaited dest) (register number registers) false

-- the reply of an entry is outstanding
abbrev pub answers_out : List ℕ → List Reply → ℕ → Bool
answers_out dest replies id = option_map_or (is_owed dest) (reply id replies) false

-- the fetch of a number is outstanding
abbrev pub fetches_out : List ℕ → List Register → ℕ → Bool
fetches_out dest registers number = option_map_or (is_to_fetch dest) (register number registers) false

-- the post of the call of a key
abbrev pub call_of : AgeKey → Aged
call_of k = record { name = Call k.number; since = k.since }

-- that of the reply of a key
abbrev pub reply_of : AgeKey → Aged
reply_of k = record { name = OfReply k.number; since = k.since }

-- the fetch of an answer to the call of a key
abbrev pub fetch_of : AgeKey → Aged
fetch_of k = record { name = OfFetch k.number; since = k.since }
