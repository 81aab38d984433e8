-- How old posts are: the row of the journal from which on each waits to be sent.
use Rattle.std.specs.Prelude.{ℕ, ◌≡◌, ◌≤◌, Bool, true, false, ◌&&◌, List, ◌∷◌, ◌++◌, All, Contains, length, map, nat_eq}
use Rattle.std.specs.List.{list_any}
use Rattle.std.specs.Option.{option_map_or}
use Rattle.lang_base.specs.Texts.{same_text}
use Rattle.repair_messages.specs.declared.posts.PostName.{PostName}
use Rattle.repair_messages.specs.declared.posts.PostName.TheVariants.{Call, Reply as OfReply, Fetch as OfFetch}
use Rattle.journal_rows.specs.declared.row.Row.{Row}
use Rattle.journal_rows.specs.declared.row.Row.TheVariants.{Acked, Answered, WasConfirmed, Sent, Noted}
use Rattle.call_registers.specs.Replies.{reply}
use Rattle.call_registers.specs.declared.register.Register.{Register}
use Rattle.call_registers.specs.declared.reply.Reply.{Reply}
use Rattle.service_events.specs.Flying.{awaited}
use Rattle.service_events.specs.Posts.{Aged, outstanding}
use Rattle.service_events.specs.State.{Kept}

-- a version of the call of this number was sent
abbrev pub sends : ℕ → Row → Bool
sends number (Sent s) = nat_eq s.number number
sends number row = false

-- a token announced an answer to the call of this number
abbrev pub notes : ℕ → Row → Bool
notes number (Noted n) = nat_eq n.number number
notes number row = false

-- the reply of this entry to this call was marked: the entry gave an answer, a message about it was acknowledged, or an answer was confirmed
abbrev pub marks : ℕ → List ℕ → ℕ → Row → Bool
marks id caller number (Answered a) = nat_eq a.id id
marks id caller number (Acked a) = same_text a.caller caller && nat_eq a.number number
marks id caller number (WasConfirmed c) = same_text c.caller caller && nat_eq c.number number
marks id caller number row = false

-- the last of these rows that passes stands at this index
pub record IsLastAt (passes : Row → Bool) (journal : List Row) (index : ℕ) : Type 0 where
  pub before : List Row
  pub row : Row
  pub behind : List Row
  pub is : journal ≡ before ++ row ∷ behind
  pub at : length before ≡ index
  pub it : passes row ≡ true
  pub last : list_any passes behind ≡ false

-- an answer to this call was announced last by the row of this index, if any was
abbrev pub IsNotedAt : List Row → Register → Type 0
IsNotedAt journal r = 1 ≤ r.noted → IsLastAt (notes r.number) journal r.noted_since

-- a call waits since the last row that sent it, a reply since the last that marked it, a fetch since the last that announced an answer to its call
pub record HasAges (journal : List Row) (own : List Register) (owed : List Reply) : Type 0 where
  pub calls : All (λ (r : Register). IsLastAt (sends r.number) journal r.since) own
  pub replies : All (λ (p : Reply). IsLastAt (marks p.id p.caller p.number) journal p.since) owed
  pub fetches : All (IsNotedAt journal) own

-- ---- the post that goes first

abbrev pub marks_reply : Reply → Row → Bool
marks_reply p row = marks p.id p.caller p.number row

-- the rows since the last of which a post waits
abbrev pub tells_of : Kept → PostName → Row → Bool
tells_of s (Call number) row = sends number row
tells_of s (OfReply id) row = option_map_or (λ p. marks_reply p row) (reply id s.replies) false
tells_of s (OfFetch number) row = notes number row

-- it waits since the row of this index
abbrev pub WaitsSince : Kept → PostName → ℕ → Type 0
WaitsSince s name index = IsLastAt (tells_of s name) s.journal index

-- of the posts that are outstanding for this service none waits since an earlier row than the one of this name
pub record GoesFirst (dest : List ℕ) (s : Kept) (name : PostName) : Type 0 where
  pub post : Aged
  pub there : Contains (outstanding s.registers s.replies (map awaited s.flights) dest) post
  pub names : post.name ≡ name
  pub first : All (λ (p : Aged). WaitsSince s p.name p.since × (post.since ≤ p.since)) (outstanding s.registers s.replies (map awaited s.flights) dest)
