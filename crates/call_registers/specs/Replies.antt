-- Replies: which entry has one, and what each change makes of them.
use Rattle.std.specs.Prelude.{ℕ, ◌≤◌, ◌<◌, Bool, false, ◌&&◌, not, List, [], ◌∷◌, Option, Some, None, IsSome, if◌then◌else◌, nat_eq, find}
use Rattle.std.specs.Option.{option_and_then, option_map_or}
use Rattle.lang_lists.specs.Keys.{text_key}
use Rattle.lang_lists.specs.declared.age_keys.AgeKey.{AgeKey}
use Rattle.call_registers.specs.Changes.{change}
use Rattle.call_registers.specs.Queues.{AreOldestFirst, IsQueue}
use Rattle.call_registers.specs.contracts.replies.RepliesCall as call
use Rattle.call_registers.specs.declared.register.Hold.{Hold}
use Rattle.call_registers.specs.declared.replies.RepliesCall.{RepliesCall}
use Rattle.call_registers.specs.declared.reply.ReplyChange.{ReplyChange}
use Rattle.call_registers.specs.declared.reply.ReplyChange.TheVariants.{Take, Answer, Confirm, Due, Hold as HoldBack, Release}
use Rattle.call_registers.specs.declared.reply.Reply.{Reply}
use base.Stored.{Coded}

-- the replies in the order of their entries' numbers, and the calls for which room was made
pub record KeptReplies : Type 0 where
  pub list : List Reply
  pub room : List RepliesCall

-- ---- which entry has a reply

abbrev pub has_entry : ℕ → Reply → Bool
has_entry id p = nat_eq p.id id

-- the reply of an entry, if it has one
abbrev pub reply : ℕ → List Reply → Option Reply
reply id replies = find (has_entry id) replies

abbrev pub IsThere : ℕ → List Reply → Type 0
IsThere id replies = IsSome (reply id replies)

-- the reply of an entry is due
abbrev pub is_reply_due : ℕ → List Reply → Bool
is_reply_due id replies = option_map_or (λ (p : Reply). p.due) (reply id replies) false

-- the number is above those of each of these
abbrev pub IsAboveAll : ℕ → List Reply → Type 0
IsAboveAll id [] = Unit {0}
IsAboveAll id (p ∷ ps) = (p.id < id) × IsAboveAll id ps

abbrev pub IsBelowAll : ℕ → List Reply → Type 0
IsBelowAll id [] = Unit {0}
IsBelowAll id (p ∷ ps) = (id < p.id) × IsBelowAll id ps

-- the entries' numbers rise
abbrev pub IsRising : List Reply → Type 0
IsRising [] = Unit {0}
IsRising (p ∷ ps) = IsBelowAll p.id ps × IsRising ps

-- ---- changes of a reply

-- the reply of an entry changed so
abbrev pub at_entry : ℕ → (Reply → Reply) → List Reply → List Reply
at_entry id f replies = change (has_entry id) f replies

-- a version was taken; what isn't wanted isn't due
abbrev pub with_taken : ℕ → Bool → Reply → Reply
with_taken version wanted p = record p { version = version; wanted = wanted; due = p.due && wanted }

-- a new answer, to this version; nothing holds it
abbrev pub with_answer : ℕ → ℕ → ℕ → Reply → Reply
with_answer answer_version version since p =
    record p { version = version; answer_version = answer_version; due = p.wanted; held = None; since = since }

-- its answer of this version was confirmed: it is due still where that isn't the last one
abbrev pub with_confirm : ℕ → ℕ → Reply → Reply
with_confirm answer_version since p =
    record p { due = p.wanted && not (nat_eq answer_version p.answer_version); since = since }

abbrev pub made_due : ℕ → Reply → Reply
made_due since p = record p { due = p.wanted; since = since }

abbrev pub with_hold : Hold → Reply → Reply
with_hold hold p = record p { held = Some hold }

abbrev pub released : List ℕ → Reply → Reply
released who p = record p { held = None; repair_who = who }

-- what each change makes of a reply
abbrev pub changed : ReplyChange → Reply → Reply
changed (Take version wanted) p = with_taken version wanted p
changed (Answer answer_version version since) p = with_answer answer_version version since p
changed (Confirm answer_version since) p = with_confirm answer_version since p
changed (Due since) p = made_due since p
changed (HoldBack hold) p = with_hold hold p
changed (Release who) p = released who p

-- ---- those that are due, by whom they go to and since when

abbrev pub age_key : Reply → AgeKey
age_key p = record { code = text_key p.caller; since = p.since; number = p.id }

-- the key of a reply that is due
abbrev pub due_key : Reply → Option AgeKey
due_key p = if p.due then Some (age_key p) else None

-- that of the reply of an entry
abbrev pub key_of : List Reply → ℕ → Option AgeKey
key_of replies id = option_and_then due_key (reply id replies)

-- these are the keys of the due replies to services whose names have the key of this name, the oldest first
abbrev pub AreDue : List ℕ → List Reply → List AgeKey → Type 0
AreDue caller replies keys = AreOldestFirst (text_key caller) (key_of replies) keys

-- what replies keep: their order, the keys of those that are due, and places for the calls for which room was made
pub record IsKept (replies : List Reply) (keys : List AgeKey) (taken places : ℕ) : Type 0 where
  pub rising : IsRising replies
  pub queued : IsQueue due_key replies keys
  pub room : taken ≤ places

-- ---- room

abbrev pub call_code : Coded RepliesCall
call_code = call.the_row.coded

abbrev pub add_call : ℕ → RepliesCall
add_call id = record { id = id }
